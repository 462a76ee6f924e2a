-- One instruction over what a chunk sees is one step of the chunk.
use Rattle.std.proofs.Common.{◌≡◌, ℕ, ◌/◌, Bool, true, false, List, length, Option, Some, None, if◌then◌else◌, refl, sym, ap, ◌∙◌, subst}
use Rattle.spec_isa.specs.declared.thread.Parts.{Parts}
use Rattle.spec_isa.specs.declared.thread.Load.{Load}
use Rattle.spec_isa.specs.declared.thread.Kind.{Kind}
use Rattle.spec_isa.specs.Words.{Stored, read, is_inside}
use Rattle.spec_isa.specs.Instruction.{value_at, serial_of, loads_of, next_of, load_of, store_of}
use Rattle.dl_thread.specs.declared.answer.Did.{Did}
use Rattle.dl_thread.specs.Sight.{Sight}
use Rattle.dl_thread.specs.Answer.{did, accessed, fetched_word, thread_next, store_made, unless_held, unless_serial, unheld, fetch_read, load_read, has_room as sight_room}
use Rattle.spec_engine.specs.declared.answers.How.{How}
use Rattle.spec_engine.specs.declared.answers.Stepped.{Stepped}
use Rattle.spec_engine.specs.Choices.{on_option, choose}
use Rattle.spec_engine.specs.Signatures.{Signature}
use Rattle.spec_engine.specs.Flights.{Flight}
use Rattle.spec_engine.specs.Chunks.{Chunk, Engine, Stepping, with_chunk, marked, ran, closes, at_limit, has_room, reading, storing, loading, running, step}
use Rattle.dl_chunk.specs.Stores.{Notes, with_read, with_written}
use Rattle.dl_chunk.specs.Seeing.{shown, left}
use Rattle.dl_chunk.specs.Engines.{Terms, Executed, chunk_of, engine_of, with_ran}

-- a word was read, or none
abbrev noted : Option ℕ → Chunk → Chunk
noted None ch = ch
noted (Some a) ch = marked ch a

-- what the answer of the instruction makes of the chunk, whose lines are noted
abbrev finish : Did → (next : Parts) → Option Stored → Chunk → Stepping
finish (Did.Next load) next store ch = at_limit (ran ch next load store)
finish (Did.Serial kind) next store ch = closes How.Serial ch
finish Did.NoRoom next store ch = closes How.Overflow ch
finish (Did.Bounced k) next store ch = record { reply = Stepped.Bounced k; chunk = ch }

-- ---- the stages of the step, the last one first

by_room : (b : Bool) (next : Parts) (load : Option Load) (store : Option Stored) (l : Option ℕ) (ch : Chunk)
    → choose b (at_limit (ran (noted l ch) next load store)) (closes How.Overflow (noted l ch))
    ≡ (let d = (if b then Did.Next load else Did.NoRoom) in finish d next store (noted (load_read d l) ch))
unfolding choose
by_room true next load store l ch = refl
by_room false next load store l ch = refl

-- a word that is held up leaves the chunk as it was
by_holder : (h : Option ℕ) (d : Did) (next : Parts) (store : Option Stored) (a : ℕ) (ch : Chunk) (read_ : Stepping) → read_ ≡ finish d next store (noted (load_read d (Some a)) ch)
    → on_option h read_ (λ k. record { reply = Stepped.Bounced k; chunk = ch }) ≡ (let e = unless_held h d in finish e next store (noted (load_read e (Some a)) ch))
unfolding on_option
by_holder None d next store a ch read_ is = is
by_holder (Some k) d next store a ch read_ is = refl

-- a serial instruction reads no word but its own
by_kind : (kind : Option Kind) (d : Did) (next : Parts) (store : Option Stored) (l : Option ℕ) (ch : Chunk) (run_ : Stepping) → run_ ≡ finish d next store (noted (load_read d l) ch)
    → on_option kind run_ (λ k. closes How.Serial ch) ≡ (let e = unless_serial kind d in finish e next store (noted (load_read e l) ch))
unfolding on_option
by_kind None d next store l ch run_ is = is
by_kind (Some k) d next store l ch run_ is = refl

-- the fetch is noted where it is inside memory and not held up
by_fetch : (inside : Bool) (h : Option ℕ) (d : Did) (next : Parts) (store : Option Stored) (l : Option ℕ) (a : ℕ) (ch : Chunk) (run_ : Stepping)
    → run_ ≡ finish d next store (noted (load_read d l) (marked ch a))
    → choose inside (on_option h run_ (λ k. record { reply = Stepped.Bounced k; chunk = ch })) (closes How.Serial ch)
    ≡ (let e = (if inside then unless_held h d else Did.Serial (Kind.Fault 1)) in
    finish e next store (noted (load_read e l) (noted (if inside then unheld h a else None) ch)))
unfolding choose on_option
by_fetch true None d next store l a ch run_ is = is
by_fetch true (Some k) d next store l a ch run_ is = refl
by_fetch false h d next store l a ch run_ is = refl

module _ (m : List ℕ) (slots : List (Option Flight)) (c : ℕ) (t : Terms) (p : Executed) (n : Notes) where
  abbrev s : Sight
  s = shown m slots c n

  -- the chunk, with these lines read
  abbrev ch : Signature → Chunk
  ch g = chunk_of t p (record n { reads = g })

  room_same : (store : Option Stored) → has_room n.words.capacity n.words.words store ≡ sight_room s store
  room_same None = refl
  room_same (Some b) = refl

  -- where nothing holds the load up, w being the word loaded
  abbrev stored_as : (f w : ℕ) → Did
  stored_as f w = if sight_room s (store_of p.thread f w) then Did.Next (load_of p.thread f w) else Did.NoRoom

  storing_is : (f w : ℕ) (l : Option ℕ) (g : Signature)
      → storing n.words.capacity f w (noted l (ch g)) ≡ finish (stored_as f w) (next_of p.thread f w) (store_of p.thread f w) (noted (load_read (stored_as f w) l) (ch g))
  unfolding storing
  storing_is f w None g =
      ap (λ (b : Bool). choose b (at_limit (ran (ch g) (next_of p.thread f w) (load_of p.thread f w) (store_of p.thread f w))) (closes How.Overflow (ch g))) (room_same (store_of p.thread f w))
      ∙ by_room (sight_room s (store_of p.thread f w)) (next_of p.thread f w) (load_of p.thread f w) (store_of p.thread f w) None (ch g)
  storing_is f w (Some a) g =
      ap (λ (b : Bool). choose b (at_limit (ran (marked (ch g) a) (next_of p.thread f w) (load_of p.thread f w) (store_of p.thread f w))) (closes How.Overflow (marked (ch g) a))) (room_same (store_of p.thread f w))
      ∙ by_room (sight_room s (store_of p.thread f w)) (next_of p.thread f w) (load_of p.thread f w) (store_of p.thread f w) (Some a) (ch g)

  abbrev accessed_as : (f : ℕ) → Option ℕ → Did
  accessed_as f o = let w = value_at s.bytes o in accessed s o (load_of p.thread f w) (store_of p.thread f w)

  load_is : (f : ℕ) (o : Option ℕ) (g : Signature)
      → on_option o (storing n.words.capacity f 0 (ch g)) (λ a. reading slots c (ch g) a (storing n.words.capacity f (read s.bytes a)))
      ≡ (let w = value_at s.bytes o in finish (accessed_as f o) (next_of p.thread f w) (store_of p.thread f w) (noted (load_read (accessed_as f o) o) (ch g)))
  unfolding on_option reading
  load_is f None g = storing_is f 0 None g
  load_is f (Some a) g =
      let w = read s.bytes a in
      by_holder (s.held a) (stored_as f w) (next_of p.thread f w) (store_of p.thread f w) a (ch g) (storing n.words.capacity f w (marked (ch g) a)) (storing_is f w (Some a) g)

  abbrev f_ : ℕ
  f_ = fetched_word s p.thread

  abbrev o_ : Option ℕ
  o_ = loads_of p.thread f_

  running_is : (g : Signature)
      → running n.words.capacity s.bytes slots c f_ (ch g)
      ≡ (let d = unless_serial (serial_of p.thread f_ (length s.bytes)) (accessed_as f_ o_) in
      finish d (thread_next s p.thread) (store_made s p.thread) (noted (load_read d o_) (ch g)))
  unfolding running loading
  running_is g =
      by_kind (serial_of p.thread f_ (length s.bytes)) (accessed_as f_ o_) (thread_next s p.thread) (store_made s p.thread) o_ (ch g)
      (on_option o_ (storing n.words.capacity f_ 0 (ch g)) (λ a. reading slots c (ch g) a (storing n.words.capacity f_ (read s.bytes a))))
      (load_is f_ o_ g)

  step_is : step n.words.capacity m slots c (chunk_of t p n)
      ≡ (let d = did s p.thread in finish d (thread_next s p.thread) (store_made s p.thread) (noted (load_read d o_) (noted (fetch_read s p.thread) (chunk_of t p n))))
  unfolding step reading
  step_is =
      by_fetch (is_inside (length s.bytes) p.thread.pc) (s.held (p.thread.pc / 4)) (unless_serial (serial_of p.thread f_ (length s.bytes)) (accessed_as f_ o_))
      (thread_next s p.thread) (store_made s p.thread) o_ (p.thread.pc / 4) (chunk_of t p n)
      (running n.words.capacity s.bytes slots c f_ (marked (chunk_of t p n) (p.thread.pc / 4)))
      (running_is (marked (chunk_of t p n) (p.thread.pc / 4)).reads)

  -- ---- what the instruction leaves, by its answer

  noted_left : (l f : Option ℕ) → noted l (noted f (chunk_of t p n)) ≡ chunk_of t p (with_read l (with_read f n))
  noted_left None None = refl
  noted_left None (Some a) = refl
  noted_left (Some b) None = refl
  noted_left (Some b) (Some a) = refl

  ran_left : (l f : Option ℕ) (store : Option Stored) (next : Parts) (load : Option Load)
      → ran (noted l (noted f (chunk_of t p n))) next load store ≡ with_ran (chunk_of t (record p { thread = next }) (with_written store (with_read l (with_read f n)))) load
  ran_left None None None next load = refl
  ran_left None None (Some b) next load = refl
  ran_left None (Some a) None next load = refl
  ran_left None (Some a) (Some b) next load = refl
  ran_left (Some k) None None next load = refl
  ran_left (Some k) None (Some b) next load = refl
  ran_left (Some k) (Some a) None next load = refl
  ran_left (Some k) (Some a) (Some b) next load = refl

  -- the step, by the answer d
  answered : (d : Did) → d ≡ did s p.thread
      → step n.words.capacity m slots c (chunk_of t p n) ≡ finish d (thread_next s p.thread) (store_made s p.thread) (noted (load_read d o_) (noted (fetch_read s p.thread) (chunk_of t p n)))
  answered d e =
      step_is
      ∙ sym (ap (λ (d : Did). finish d (thread_next s p.thread) (store_made s p.thread) (noted (load_read d o_) (noted (fetch_read s p.thread) (chunk_of t p n)))) e)

  -- an instruction that goes on leaves the thread and the notes of its answer, one instruction more,
  -- and the chunk closes if that was its last
  pub step_next : (load : Option Load) (thread : Parts) (after : Notes) → Did.Next load ≡ did s p.thread → thread ≡ thread_next s p.thread → after ≡ left s p.thread (Did.Next load) n
      → step n.words.capacity m slots c (chunk_of t p n) ≡ at_limit (with_ran (chunk_of t (record p { thread = thread }) after) load)
  step_next load thread after e is is_left =
      answered (Did.Next load) e
      ∙ ap at_limit (ran_left o_ (fetch_read s p.thread) (store_made s p.thread) (thread_next s p.thread) load)
      ∙ sym (λ i. at_limit (with_ran (chunk_of t (record p { thread = is i }) (is_left i)) load))

  -- a serial instruction closes the chunk as Serial, and no line is noted but that of its fetch
  pub step_serial : (kind : Kind) (thread : Parts) (after : Notes) → Did.Serial kind ≡ did s p.thread → thread ≡ p.thread → after ≡ left s p.thread (Did.Serial kind) n
      → step n.words.capacity m slots c (chunk_of t p n) ≡ closes How.Serial (chunk_of t (record p { thread = thread }) after)
  step_serial kind thread after e is is_left =
      answered (Did.Serial kind) e
      ∙ ap (closes How.Serial) (noted_left None (fetch_read s p.thread))
      ∙ sym (λ i. closes How.Serial (chunk_of t (record p { thread = is i }) (is_left i)))

  -- an instruction whose store finds no room closes the chunk as Overflow, with its reads noted
  pub step_full : (thread : Parts) (after : Notes) → Did.NoRoom ≡ did s p.thread → thread ≡ p.thread → after ≡ left s p.thread Did.NoRoom n
      → step n.words.capacity m slots c (chunk_of t p n) ≡ closes How.Overflow (chunk_of t (record p { thread = thread }) after)
  step_full thread after e is is_left =
      answered Did.NoRoom e
      ∙ ap (closes How.Overflow) (noted_left o_ (fetch_read s p.thread))
      ∙ sym (λ i. closes How.Overflow (chunk_of t (record p { thread = is i }) (is_left i)))

  -- a fetch or a load that flight k holds up bounces, and the chunk stays open: a load keeps the line of its fetch
  pub step_bounced : (k : ℕ) (thread : Parts) (after : Notes) → Did.Bounced k ≡ did s p.thread → thread ≡ p.thread → after ≡ left s p.thread (Did.Bounced k) n
      → step n.words.capacity m slots c (chunk_of t p n) ≡ record { reply = Stepped.Bounced k; chunk = chunk_of t (record p { thread = thread }) after }
  step_bounced k thread after e is is_left =
      answered (Did.Bounced k) e
      ∙ ap (λ (x : Chunk). record { reply = Stepped.Bounced k; chunk = x }) (noted_left None (fetch_read s p.thread))
      ∙ sym (λ i. record { reply = Stepped.Bounced k; chunk = chunk_of t (record p { thread = is i }) (is_left i) })

  -- ---- in the engine

  capacity_kept : (l f : Option ℕ) (store : Option Stored) → (with_written store (with_read l (with_read f n))).words.capacity ≡ n.words.capacity
  capacity_kept None None None = refl
  capacity_kept None None (Some b) = refl
  capacity_kept None (Some a) None = refl
  capacity_kept None (Some a) (Some b) = refl
  capacity_kept (Some k) None None = refl
  capacity_kept (Some k) None (Some b) = refl
  capacity_kept (Some k) (Some a) None = refl
  capacity_kept (Some k) (Some a) (Some b) = refl

  -- what the chunk's step answers is what the step of its engine answers
  pub reply_is : (most : ℕ) (to : Stepping) (e : Engine) (reply : Stepped) → engine_of most t p n ≡ e → step n.words.capacity m slots c (chunk_of t p n) ≡ to → reply ≡ to.reply
      → reply ≡ (step e.capacity m slots c e.chunk).reply
  reply_is most to e reply view stepped is =
      subst (λ (x : Engine). reply ≡ (step x.capacity m slots c x.chunk).reply) view (is ∙ sym (ap (λ (x : Stepping). x.reply) stepped))

  -- with the chunk that the step leaves, and the capacity of what it notes, the engine is the old one, its chunk stepped
  pub engine_is : (most : ℕ) (to : Stepping) (e v : Engine) (d : Did) (after : Notes) → engine_of most t p n ≡ e → step n.words.capacity m slots c (chunk_of t p n) ≡ to
      → after ≡ left s p.thread d n → v ≡ record { most = most; capacity = after.words.capacity; chunk = to.chunk }
      → v ≡ with_chunk (step e.capacity m slots c e.chunk).chunk e
  engine_is most to e v d after view stepped is_left is =
      let capacity : after.words.capacity ≡ n.words.capacity = ap (λ (x : Notes). x.words.capacity) is_left ∙ capacity_kept _ _ _ in
      subst (λ (x : Engine). v ≡ with_chunk (step x.capacity m slots c x.chunk).chunk x) view
      (is ∙ (λ i. record { most = most; capacity = capacity i; chunk = (sym stepped i).chunk }))
