-- Running chunks stay sound: at a step, at a cut and at a squash.
use Rattle.std.proofs.Common.{◌≡◌, ℕ, suc, ◌/◌, ◌<◌, ◌≤◌, Bool, true, false, eqb, cond, List, length, Option, Some, None, refl, sym, ap, ◌∙◌, arith}
use Rattle.std.specs.Prelude.{nat_lt, ◌&&◌, ◌||◌}
use Rattle.std.proofs.lemmas.Bool.{true≢false, ltb-true}
use Rattle.dl_entry.specs.Numbers.{most_chunk}
use Rattle.spec_isa.specs.declared.thread.Parts.{Parts}
use Rattle.spec_isa.specs.Words.{Stored, lays, read, put, holds, is_inside}
use Rattle.spec_isa.specs.Instruction.{serial_of, loads_of, next_of, load_of, store_of}
use Rattle.spec_isa.specs.Runs.{with_store}
use Rattle.spec_isa.specs.Threads.{IsThread}
use Rattle.spec_isa.proofs.MemoryLaws.{length_lays}
use Rattle.spec_engine.specs.declared.answers.How.{How}
use Rattle.spec_engine.specs.declared.answers.Stepped.{Stepped}
use Rattle.spec_engine.specs.declared.answers.CutReply.{CutReply}
use Rattle.spec_engine.specs.Signatures.{Signature, insert, line}
use Rattle.spec_engine.specs.Flights.{Flight, first_slot, bounces}
use Rattle.spec_engine.specs.Chunks.{Chunk, Stepping, Cutting, fresh, closes, marked, ran, at_limit, has_room, reading, storing, loading, running, step, cut_open, cut, squash, is_fourth, halved, next_squashes}
use Rattle.spec_engine.proofs.Choosing.{keep_option, keep_choose}
use Rattle.spec_protocol.specs.promises.Invariants.{Closes}
use Rattle.spec_protocol.specs.promises.Sound.{IsSoundChunk}
use Rattle.spec_sphere.proofs.Moves.Threads.{next-kept}
use Rattle.spec_play.proofs.Threads.{branch}
use Rattle.spec_sphere.proofs.Sound.Words.{sound-none, held-length, put-length}
use Rattle.spec_sphere.proofs.Sound.Instructions.{next-thread, next-store, with-words}

-- ---- the next instruction

with-room : (capacity : ℕ) (ws : List Stored) (o : Option Stored) → has_room capacity ws o ≡ true → length ws ≤ capacity → length (with_store ws o) ≤ capacity
with-room capacity ws None e few = few
with-room capacity ws (Some s) e few =
    elim (holds ws s.number) as (λ (b : Bool). holds ws s.number ≡ b → (b || nat_lt (length ws) capacity) ≡ true → length (put ws s) ≤ capacity) [
      | true ↦ λ h _. (let l = held-length ws s h in omega (arith, l, few))
      | false ↦ λ _ h. (let l = put-length ws s in let k = ltb-true (length ws) capacity h in omega (arith, l, k))
    ] refl e

-- ---- a step

-- a sound chunk of sphere i
pub record IsSoundIn (capacity size i : ℕ) (ch : Chunk) : Type 0 where
  pub sphere : ch.sphere ≡ i
  pub sound : IsSoundChunk capacity size ch

-- lines read and closing are no part of it
as-closed : (capacity size i : ℕ) (ch : Chunk) (g : Signature) (o : Option How) → IsSoundIn capacity size i ch → IsSoundIn capacity size i (record ch { reads = g; closed = o })
as-closed capacity size i ch g o k =
    let c = k.sound in
    record {
      sphere = k.sphere;
      sound = record { words = c.words; room = c.room; limit = c.limit; squashes = c.squashes; start = c.start; thread = c.thread; commits = c.commits; status = c.status };
    }

abbrev Steps : (capacity size i : ℕ) → Stepping → Type 0
Steps capacity size i s = IsSoundIn capacity size i s.chunk

storing-sound : (capacity size i f w : ℕ) (ch : Chunk) (g : Signature) → serial_of ch.done.thread f size ≡ None → IsSoundIn capacity size i ch → Steps capacity size i (storing capacity f w (record ch { reads = g }))
unfolding storing at_limit
storing-sound capacity size i f w ch g e c =
    let t = ch.done.thread in
    let dh = record ch { reads = g } in
    let next = ran dh (next_of t f w) (load_of t f w) (store_of t f w) in
    keep_choose (Steps capacity size i) (has_room capacity ch.done.words (store_of t f w)) (at_limit next) (closes How.Overflow dh)
    (λ room.
    let was = c.sound in
    let k : IsSoundIn capacity size i next =
    record {
      sphere = c.sphere;
      sound = record {
        words = with-words size ch.done.words (store_of t f w) (next-store t f w size e) was.words;
        room = with-room capacity ch.done.words (store_of t f w) room was.room;
        limit = was.limit;
        squashes = was.squashes;
        start = was.start;
        thread = next-thread t f w size e was.thread;
        commits = (next-kept t f w).commits ∙ was.commits;
        status = (next-kept t f w).status ∙ was.status;
      };
    }
    in
    keep_choose (Steps capacity size i) (eqb next.done.n next.limit) (closes How.Limit next) (record { reply = Stepped.Ran; chunk = next })
    (λ _. as-closed capacity size i next next.reads (Some How.Limit) k)
    (λ _. k))
    (λ _. as-closed capacity size i ch g (Some How.Overflow) c)

reading-sound : (capacity size i : ℕ) (slots : List (Option Flight)) (core : ℕ) (ch : Chunk) (g : Signature) (a : ℕ) (then_ : Chunk → Stepping) → ((h : Signature) → Steps capacity size i (then_ (record ch { reads = h }))) → IsSoundIn capacity size i ch
    → Steps capacity size i (reading slots core (record ch { reads = g }) a then_)
unfolding reading
reading-sound capacity size i slots core ch g a then_ each c =
    keep_option (Steps capacity size i) (first_slot (bounces core (line ch.sphere a)) slots) (then_ (marked (record ch { reads = g }) a)) (λ k. record { reply = Stepped.Bounced k; chunk = record ch { reads = g } })
    (λ _. each (insert (line ch.sphere a) g))
    (λ k _. as-closed capacity size i ch g ch.closed c)

loading-sound : (capacity size i : ℕ) (shown : List ℕ) (slots : List (Option Flight)) (core f : ℕ) (ch : Chunk) (g : Signature) → serial_of ch.done.thread f size ≡ None → IsSoundIn capacity size i ch
    → Steps capacity size i (loading capacity shown slots core f (record ch { reads = g }))
unfolding loading
loading-sound capacity size i shown slots core f ch g e c =
    keep_option (Steps capacity size i) (loads_of ch.done.thread f) (storing capacity f 0 (record ch { reads = g })) (λ a. reading slots core (record ch { reads = g }) a (storing capacity f (read shown a)))
    (λ _. storing-sound capacity size i f 0 ch g e c)
    (λ a _. reading-sound capacity size i slots core ch g a (storing capacity f (read shown a)) (λ h. storing-sound capacity size i f (read shown a) ch h e c) c)

running-sound : (capacity size i : ℕ) (shown : List ℕ) (slots : List (Option Flight)) (core f : ℕ) (ch : Chunk) (g : Signature) → length shown ≡ size → IsSoundIn capacity size i ch
    → Steps capacity size i (running capacity shown slots core f (record ch { reads = g }))
unfolding running
running-sound capacity size i shown slots core f ch g same c =
    keep_option (Steps capacity size i) (serial_of ch.done.thread f (length shown)) (loading capacity shown slots core f (record ch { reads = g })) (λ kind. closes How.Serial (record ch { reads = g }))
    (λ none. loading-sound capacity size i shown slots core f ch g (ap (serial_of ch.done.thread f) (sym same) ∙ none) c)
    (λ kind _. as-closed capacity size i ch g (Some How.Serial) c)

-- a step keeps a running chunk sound
pub step-sound : (capacity size i : ℕ) (m : List ℕ) (slots : List (Option Flight)) (core : ℕ) (ch : Chunk) → length m ≡ size → IsSoundIn capacity size i ch → IsSoundIn capacity size i (step capacity m slots core ch).chunk
unfolding step
step-sound capacity size i m slots core ch same c =
    let shown = lays m ch.done.words in
    let pc = ch.done.thread.pc in
    keep_choose (Steps capacity size i) (is_inside (length shown) pc) (reading slots core ch (pc / 4) (running capacity shown slots core (read shown (pc / 4)))) (closes How.Serial ch)
    (λ _. reading-sound capacity size i slots core ch ch.reads (pc / 4) (running capacity shown slots core (read shown (pc / 4)))
    (λ h. running-sound capacity size i shown slots core (read shown (pc / 4)) ch h (length_lays m ch.done.words ∙ same) c) c)
    (λ _. as-closed capacity size i ch ch.reads (Some How.Serial) c)

-- ---- a cut

cut-open-sound : (capacity size i : ℕ) (ch : Chunk) (o : Option How) → IsSoundIn capacity size i ch → IsSoundIn capacity size i (cut_open ch o).chunk
cut-open-sound capacity size i ch (Some how) c = c
cut-open-sound capacity size i ch None c =
    branch (λ (s : Cutting). IsSoundIn capacity size i s.chunk) (eqb ch.done.n 0) (record { reply = CutReply.NothingRun; chunk = ch }) (record { reply = CutReply.Closed; chunk = record ch { closed = Some How.Cut } })
    (λ _. c) (λ _. as-closed capacity size i ch ch.reads (Some How.Cut) c)

-- a cut keeps a running chunk sound
pub cut-sound : (capacity size i : ℕ) (ch : Chunk) → IsSoundIn capacity size i ch → IsSoundIn capacity size i (cut ch).chunk
cut-sound capacity size i ch c = cut-open-sound capacity size i ch ch.closed c

-- ---- a beginning, and a squash

-- a new chunk is sound
pub fresh-sound : (capacity size bits i : ℕ) (t : Parts) (limit : ℕ) (halves : Bool) → limit ≤ most_chunk → IsThread t → IsSoundChunk capacity size (fresh bits i t limit halves)
fresh-sound capacity size bits i t limit halves l is =
    record { words = sound-none size; room = omega arith; limit = l; squashes = omega arith; start = is; thread = is; commits = refl; status = refl }

squash-limit : (b : Bool) (limit : ℕ) → limit ≤ most_chunk → cond b (halved limit) limit ≤ most_chunk
squash-limit true limit l = omega (arith, l)
squash-limit false limit l = l

squash-count : (ch : Chunk) → next_squashes ch < 4
squash-count ch =
    branch (λ (n : ℕ). n < 4) (ch.halves && nat_lt ch.squashes 3) (suc ch.squashes) 0
    (λ e. few (ch.halves) (ch.squashes) e) (λ _. omega arith)
  where
    few : (b : Bool) (n : ℕ) → (b && nat_lt n 3) ≡ true → suc n < 4
    few true n e = let l = ltb-true n 3 e in omega (arith, l)
    few false n e = absurd (true≢false (sym e))

-- a squashed chunk is sound
pub squash-sound : (capacity size : ℕ) (ch : Chunk) → IsSoundChunk capacity size ch → IsSoundChunk capacity size (squash ch)
squash-sound capacity size ch c =
    record {
      words = sound-none size;
      room = omega arith;
      limit = squash-limit (is_fourth ch) ch.limit c.limit;
      squashes = squash-count ch;
      start = c.start;
      thread = c.start;
      commits = refl;
      status = refl;
    }

-- ---- no more instructions than the limit

closed-within : (capacity : ℕ) (ch : Chunk) (o : Option How) → ch.closed ≡ o → Closes capacity ch → ch.done.n ≤ ch.limit
closed-within capacity ch None e c = let l = c.opened e in omega (arith, l)
closed-within capacity ch (Some How.Limit) e c = let l = c.full e in omega (arith, l)
closed-within capacity ch (Some How.Serial) e c = let l = c.early How.Serial e (λ h. cc) in omega (arith, l)
closed-within capacity ch (Some How.Overflow) e c = let l = c.early How.Overflow e (λ h. cc) in omega (arith, l)
closed-within capacity ch (Some How.Cut) e c = let l = c.early How.Cut e (λ h. cc) in omega (arith, l)

-- a chunk has no more instructions than its limit
pub within-limit : (capacity : ℕ) (ch : Chunk) → Closes capacity ch → ch.done.n ≤ ch.limit
within-limit capacity ch c = closed-within capacity ch ch.closed refl c
