-- What a step of a chunk keeps, beside its run: its signatures, how its size stands to its limit, and that the words which
-- its instruction looks at are marked and held up by no told flight.
use Rattle.std.proofs.Common.{◌≡◌, ◌≢◌, ℕ, suc, ◌≤◌, ◌/◌, true, false, eqb, List, length, Option, Some, None, refl, sym, ap, ◌∙◌, subst, arith}
use Rattle.std.proofs.lemmas.Bool.{true≢false, and_parts, and_from, or_parts, eqb-true, eqb-false, ltb-false}
use Rattle.std.proofs.lemmas.Option.{none-some}
use Rattle.spec_isa.specs.declared.thread.Parts.{Parts}
use Rattle.spec_isa.specs.declared.thread.Kind.{Kind}
use Rattle.spec_isa.specs.declared.thread.Load.{Load}
use Rattle.spec_isa.specs.Words.{Stored, lays, read, holds, is_inside, Apart}
use Rattle.spec_isa.specs.Instruction.{Next, serial_of, loads_of, next_of, load_of, store_of, unless, value_at, one}
use Rattle.spec_isa.specs.Runs.{with_load, with_store}
use Rattle.spec_kernel.specs.Needs.{fetched}
use Rattle.spec_engine.specs.declared.answers.How.{How}
use Rattle.spec_engine.specs.declared.answers.Stepped.{Stepped}
use Rattle.spec_engine.specs.Signatures.{Signature, insert, covers, hits, line}
use Rattle.spec_engine.specs.Flights.{Flight, is_none, first_slot, bounces}
use Rattle.spec_engine.specs.Chunks.{Chunk, Stepping, closes, marked, ran, at_limit, has_room, reading, storing, loading, running, step}
use Rattle.spec_engine.specs.Laws.{CoversLoads, CoversWords}
use Rattle.spec_engine.proofs.Choosing.{keep_option, keep_choose}
use Rattle.spec_engine.proofs.Marking.{covers_insert, covers_more, hits_more}
use Rattle.spec_play.proofs.Local.Running.{outside_serial}
use Rattle.spec_protocol.proofs.Memory.Covering.{CoversLoads_more, CoversLoads-load, length-load, load-word, CoversWords-store, length-store, bits-with_line, clear}
use Rattle.spec_play.proofs.Local.Joining.{Apart-store}
use Rattle.spec_play.specs.Touching.{Touches}
use Rattle.spec_sphere.specs.promises.Currency.{StoresAnew}
use Rattle.spec_protocol.specs.promises.Currency.{seen_by}
use Rattle.spec_protocol.specs.promises.Invariants.{Closes}

-- ---- what is kept

-- the two chunks are the same except for their runs
pub record SameBase (ch dh : Chunk) : Type 0 where
  pub sphere : dh.sphere ≡ ch.sphere
  pub start : dh.start ≡ ch.start
  pub limit : dh.limit ≡ ch.limit
  pub halves : dh.halves ≡ ch.halves
  pub reads : dh.reads.bits ≡ ch.reads.bits
  pub writes : dh.writes.bits ≡ ch.writes.bits

-- the instruction was run, or is the serial one that comes next, or the one that finds no room: what it looks at is clear
abbrev pub Looks : List (Option Flight) → (core : ℕ) → List ℕ → Chunk → Chunk → Stepped → Type 0
Looks xs c m ch dh Stepped.Ran = (dh.closed ≡ None) × Touches (clear xs c dh) ch.done.thread m
Looks xs c m ch dh (Stepped.Closed How.Limit) = (dh.closed ≡ Some How.Limit) × Touches (clear xs c dh) ch.done.thread m
Looks xs c m ch dh (Stepped.Closed How.Serial) = (dh.closed ≡ Some How.Serial) × Touches (clear xs c dh) ch.done.thread m
Looks xs c m ch dh (Stepped.Closed How.Overflow) = (dh.closed ≡ Some How.Overflow) × Touches (clear xs c dh) ch.done.thread m × StoresAnew ch.done.thread m ch.done.words
Looks xs c m ch dh (Stepped.Closed How.Cut) = ⊥
Looks xs c m ch dh (Stepped.Bounced k) = (dh.closed ≡ None)

pub record Stays (capacity : ℕ) (xs : List (Option Flight)) (c : ℕ) (m : List ℕ) (ch : Chunk) (s : Stepping) : Type 0 where
  pub base : SameBase ch s.chunk
  pub more_reads : (a : ℕ) → seen_by ch a ≡ true → seen_by s.chunk a ≡ true
  pub less_hits : (g : Signature) → hits g ch.reads ≡ true → hits g s.chunk.reads ≡ true
  pub apart : Apart s.chunk.done.words
  pub writes : CoversWords s.chunk.sphere s.chunk.writes s.chunk.done.words
  pub loads : CoversLoads s.chunk.sphere s.chunk.reads s.chunk.done.loads
  pub closes : Closes capacity s.chunk
  pub looks : Looks xs c m ch s.chunk s.reply

-- ---- an open chunk, some of whose reads are marked already

pub record IsOpen (capacity : ℕ) (ch : Chunk) : Type 0 where
  pub open_ : ch.closed ≡ None
  pub closes : Closes capacity ch
  pub apart : Apart ch.done.words
  pub writes : CoversWords ch.sphere ch.writes ch.done.words
  pub loads : CoversLoads ch.sphere ch.reads ch.done.loads

-- g has the chunk's reads and maybe more
record Grown (ch : Chunk) (g : Signature) : Type 0 where
  size : g.bits ≡ ch.reads.bits
  more_ : (a : ℕ) → covers ch.reads (line ch.sphere a) ≡ true → covers g (line ch.sphere a) ≡ true
  hits_ : (h : Signature) → hits h ch.reads ≡ true → hits h g ≡ true

grown_same : (ch : Chunk) → Grown ch ch.reads
grown_same ch = record { size = refl; more_ = λ a e. e; hits_ = λ h e. e }

grown_insert : (ch : Chunk) (g : Signature) (l : ℕ) → Grown ch g → Grown ch (insert l g)
grown_insert ch g l n =
    record {
      size = n.size;
      more_ = λ a e. covers_more l (line ch.sphere a) g (n.more_ a e);
      hits_ = λ h e. hits_more l h g (n.hits_ h e);
    }

abbrev with_reads : Chunk → Signature → Chunk
with_reads ch g = record ch { reads = g }

-- closing changes nothing else
closed_closes : (capacity : ℕ) (ch : Chunk) (g : Signature) (how : How) → IsOpen capacity ch → how ≢ How.Limit → how ≢ How.Cut → (how ≡ How.Overflow → capacity ≤ length ch.done.words) → Closes capacity (record (with_reads ch g) { closed = Some how })
closed_closes capacity ch g how o limit cut room =
    record {
      positive = o.closes.positive;
      opened = λ e. absurd (none-some how (sym e));
      full = λ e. absurd (limit (let h : how ≡ How.Limit = cc in h));
      early = λ h e ne. o.closes.opened o.open_;
      cut = λ e. absurd (cut (let h : how ≡ How.Cut = cc in h));
      room = λ e. room (let h : how ≡ How.Overflow = cc in h);
      few = o.closes.few;
      few_loads = o.closes.few_loads;
    }

stays_closed : (capacity : ℕ) (xs : List (Option Flight)) (c : ℕ) (m : List ℕ) (ch : Chunk) (g : Signature) (how : How) → IsOpen capacity ch → Grown ch g → how ≢ How.Limit → how ≢ How.Cut → (how ≡ How.Overflow → capacity ≤ length ch.done.words)
    → Looks xs c m ch (record (with_reads ch g) { closed = Some how }) (Stepped.Closed how) → Stays capacity xs c m ch (closes how (with_reads ch g))
stays_closed capacity xs c m ch g how o n limit cut room looks =
    record {
      base = record { sphere = refl; start = refl; limit = refl; halves = refl; reads = n.size; writes = refl };
      more_reads = n.more_;
      less_hits = n.hits_;
      apart = o.apart;
      writes = o.writes;
      loads = CoversLoads_more ch.sphere ch.reads g ch.done.loads n.more_ o.loads;
      closes = closed_closes capacity ch g how o limit cut room;
      looks = looks;
    }

-- ---- the store

ran_few : (ch : Chunk) (store : Option Stored) → length ch.done.words ≤ ch.done.n → length (with_store ch.done.words store) ≤ suc ch.done.n
ran_few ch store few = let h = length-store ch.done.words store in omega arith

ran_few_loads : (ch : Chunk) (load : Option Load) → length ch.done.loads ≤ ch.done.n → length (with_load ch.done.loads load) ≤ suc ch.done.n
ran_few_loads ch load few = let h = length-load ch.done.loads load in omega arith

ran_open : (capacity : ℕ) (ch : Chunk) (g : Signature) (t : Parts) (load : Option Load) (store : Option Stored) → IsOpen capacity ch → eqb (suc ch.done.n) ch.limit ≡ false → Closes capacity (ran (with_reads ch g) t load store)
ran_open capacity ch g t load store o e =
    record {
      positive = o.closes.positive;
      opened = λ _. let l = o.closes.opened o.open_ in let ne = eqb-false (suc ch.done.n) ch.limit e in omega (arith, ne);
      full = λ h. absurd (none-some How.Limit (sym o.open_ ∙ h));
      early = λ how h. absurd (none-some how (sym o.open_ ∙ h));
      cut = λ h. absurd (none-some How.Cut (sym o.open_ ∙ h));
      room = λ h. absurd (none-some How.Overflow (sym o.open_ ∙ h));
      few = ran_few ch store o.closes.few;
      few_loads = ran_few_loads ch load o.closes.few_loads;
    }

ran_full : (capacity : ℕ) (ch : Chunk) (g : Signature) (t : Parts) (load : Option Load) (store : Option Stored) → IsOpen capacity ch → eqb (suc ch.done.n) ch.limit ≡ true → Closes capacity (record (ran (with_reads ch g) t load store) { closed = Some How.Limit })
ran_full capacity ch g t load store o e =
    record {
      positive = o.closes.positive;
      opened = λ h. absurd (none-some How.Limit (sym h));
      full = λ _. eqb-true (suc ch.done.n) ch.limit e;
      early = λ how h ne. absurd (ne (let k : how ≡ How.Limit = cc in k));
      cut = λ h. cc;
      room = λ h. cc;
      few = ran_few ch store o.closes.few;
      few_loads = ran_few_loads ch load o.closes.few_loads;
    }

-- an instruction was run
stays_ran : (capacity : ℕ) (xs : List (Option Flight)) (c : ℕ) (m : List ℕ) (ch : Chunk) (g : Signature) (t : Parts) (load : Option Load) (store : Option Stored) → IsOpen capacity ch → Grown ch g → ((l : Load) → load ≡ Some l → covers g (line ch.sphere (l.addr / 4)) ≡ true)
    → Touches (clear xs c (with_reads ch g)) ch.done.thread m → Stays capacity xs c m ch (at_limit (ran (with_reads ch g) t load store))
unfolding at_limit
stays_ran capacity xs c m ch g t load store o n looked touches =
    keep_choose (Stays capacity xs c m ch) (eqb (suc ch.done.n) ch.limit) (closes How.Limit (ran (with_reads ch g) t load store)) (record { reply = Stepped.Ran; chunk = ran (with_reads ch g) t load store })
    (λ e. record {
      base = record { sphere = refl; start = refl; limit = refl; halves = refl; reads = n.size; writes = bits-with_line ch.sphere store ch.writes };
      more_reads = n.more_;
      less_hits = n.hits_;
      apart = Apart-store ch.done.words store o.apart;
      writes = CoversWords-store ch.sphere ch.writes ch.done.words store o.writes;
      loads = CoversLoads-load ch.sphere g ch.done.loads load looked (CoversLoads_more ch.sphere ch.reads g ch.done.loads n.more_ o.loads);
      closes = ran_full capacity ch g t load store o e;
      looks = (refl, touches);
    })
    (λ e. record {
      base = record { sphere = refl; start = refl; limit = refl; halves = refl; reads = n.size; writes = bits-with_line ch.sphere store ch.writes };
      more_reads = n.more_;
      less_hits = n.hits_;
      apart = Apart-store ch.done.words store o.apart;
      writes = CoversWords-store ch.sphere ch.writes ch.done.words store o.writes;
      loads = CoversLoads-load ch.sphere g ch.done.loads load looked (CoversLoads_more ch.sphere ch.reads g ch.done.loads n.more_ o.loads);
      closes = ran_open capacity ch g t load store o e;
      looks = (o.open_, touches);
    })

no_room : (capacity : ℕ) (ws : List Stored) (store : Option Stored) → has_room capacity ws store ≡ false → capacity ≤ length ws
no_room capacity ws None e = absurd (true≢false e)
no_room capacity ws (Some s) e = ltb-false (length ws) capacity (or_parts (holds ws s.number) _ e).1

-- a store that finds no room is of a word that isn't held
new_word : (capacity : ℕ) (t u : Parts) (m : List ℕ) (ws : List Stored) (load : Option Load) (store : Option Stored) → one t m ≡ Next u load store → has_room capacity ws store ≡ false → StoresAnew t m ws
new_word capacity t u m ws load None is e = absurd (true≢false e)
new_word capacity t u m ws load (Some s) is e = record { thread = u; load = load; store = s; next = is; new = (or_parts (holds ws s.number) _ e).0 }

-- the next instruction, where it isn't serial
next_one : (t : Parts) (m : List ℕ) (o : Option ℕ) → serial_of t (fetched t m) (length m) ≡ None → loads_of t (fetched t m) ≡ o
    → let f = fetched t m in let w = value_at m o in one t m ≡ Next (next_of t f w) (load_of t f w) (store_of t f w)
unfolding one
next_one t m o plain is =
    let f = fetched t m in
    (λ i. unless (plain i) (Next (next_of t f (value_at m (is i))) (load_of t f (value_at m (is i))) (store_of t f (value_at m (is i)))))

stays_storing : (capacity : ℕ) (xs : List (Option Flight)) (c : ℕ) (m : List ℕ) (f w : ℕ) (ch : Chunk) (g : Signature) → IsOpen capacity ch → Grown ch g → ((a : ℕ) → loads_of ch.done.thread f ≡ Some a → covers g (line ch.sphere a) ≡ true)
    → let t = ch.done.thread in one t m ≡ Next (next_of t f w) (load_of t f w) (store_of t f w) → Touches (clear xs c (with_reads ch g)) ch.done.thread m → Stays capacity xs c m ch (storing capacity f w (with_reads ch g))
unfolding storing
stays_storing capacity xs c m f w ch g o n looked is touches =
    let t = ch.done.thread in
    keep_choose (Stays capacity xs c m ch) (has_room capacity ch.done.words (store_of t f w)) (at_limit (ran (with_reads ch g) (next_of t f w) (load_of t f w) (store_of t f w))) (closes How.Overflow (with_reads ch g))
    (λ e. stays_ran capacity xs c m ch g (next_of t f w) (load_of t f w) (store_of t f w) o n (λ l e. looked (l.addr / 4) (load-word t f w l e)) touches)
    (λ e. stays_closed capacity xs c m ch g How.Overflow o n (λ h. cc) (λ h. cc)
    (λ h. no_room capacity ch.done.words (store_of t f w) e)
    (refl, touches, new_word capacity t (next_of t f w) m ch.done.words (load_of t f w) (store_of t f w) is e))

-- ---- the load

-- a word that is marked, and that no told flight holds up
clear_marked : (xs : List (Option Flight)) (c : ℕ) (ch : Chunk) (g : Signature) (a : ℕ) → first_slot (bounces c (line ch.sphere a)) xs ≡ None → clear xs c (with_reads ch (insert (line ch.sphere a) g)) a ≡ true
clear_marked xs c ch g a e =
    and_from _ (is_none (first_slot (bounces c (line ch.sphere a)) xs)) (covers_insert (line ch.sphere a) g) (ap is_none e)

clear_more : (xs : List (Option Flight)) (c : ℕ) (ch : Chunk) (g : Signature) (l a : ℕ) → clear xs c (with_reads ch g) a ≡ true → clear xs c (with_reads ch (insert l g)) a ≡ true
clear_more xs c ch g l a e =
    let p = and_parts (covers g (line ch.sphere a)) (is_none (first_slot (bounces c (line ch.sphere a)) xs)) e in
    and_from _ (is_none (first_slot (bounces c (line ch.sphere a)) xs)) (covers_more l (line ch.sphere a) g p.0) p.1

-- a word is read, unless a flight holds it up
stays_reading : (capacity : ℕ) (xs : List (Option Flight)) (c : ℕ) (m : List ℕ) (ch : Chunk) (g : Signature) (a : ℕ) (then_ : Chunk → Stepping) → IsOpen capacity ch → Grown ch g
    → (first_slot (bounces c (line ch.sphere a)) xs ≡ None → Stays capacity xs c m ch (then_ (with_reads ch (insert (line ch.sphere a) g)))) → Stays capacity xs c m ch (reading xs c (with_reads ch g) a then_)
unfolding reading
stays_reading capacity xs c m ch g a then_ o n stays =
    keep_option (Stays capacity xs c m ch) (first_slot (bounces c (line ch.sphere a)) xs) (then_ (marked (with_reads ch g) a)) (λ k. record { reply = Stepped.Bounced k; chunk = with_reads ch g })
    stays
    (λ k e. record {
      base = record { sphere = refl; start = refl; limit = refl; halves = refl; reads = n.size; writes = refl };
      more_reads = n.more_;
      less_hits = n.hits_;
      apart = o.apart;
      writes = o.writes;
      loads = CoversLoads_more ch.sphere ch.reads g ch.done.loads n.more_ o.loads;
      closes = record {
        positive = o.closes.positive;
        opened = o.closes.opened;
        full = o.closes.full;
        early = o.closes.early;
        cut = o.closes.cut;
        room = o.closes.room;
        few = o.closes.few;
        few_loads = o.closes.few_loads;
      };
      looks = o.open_;
    })

abbrev shown_in : List ℕ → Chunk → List ℕ
shown_in m ch = lays m ch.done.words

abbrev fetched_by : List ℕ → Chunk → ℕ
fetched_by m ch = fetched ch.done.thread (shown_in m ch)

-- the fetched word is clear; the loaded one, if there is one, will be
touches_none : (xs : List (Option Flight)) (c : ℕ) (m : List ℕ) (ch : Chunk) (g : Signature) → clear xs c (with_reads ch g) (ch.done.thread.pc / 4) ≡ true → loads_of ch.done.thread (fetched_by m ch) ≡ None → Touches (clear xs c (with_reads ch g)) ch.done.thread (shown_in m ch)
touches_none xs c m ch g e none = record { fetch = λ _. e; load = λ _ a some. absurd (none-some a (sym none ∙ some)) }

touches_some : (xs : List (Option Flight)) (c : ℕ) (m : List ℕ) (ch : Chunk) (g : Signature) (a : ℕ) → clear xs c (with_reads ch g) (ch.done.thread.pc / 4) ≡ true → loads_of ch.done.thread (fetched_by m ch) ≡ Some a → first_slot (bounces c (line ch.sphere a)) xs ≡ None
    → Touches (clear xs c (with_reads ch (insert (line ch.sphere a) g))) ch.done.thread (shown_in m ch)
touches_some xs c m ch g a e some free =
    record {
      fetch = λ _. clear_more xs c ch g (line ch.sphere a) (ch.done.thread.pc / 4) e;
      load = λ _ b is.
          let same : a ≡ b = (let q : Some a ≡ Some b = sym some ∙ is in cc) in
          subst (λ (d : ℕ). clear xs c (with_reads ch (insert (line ch.sphere a) g)) d ≡ true) same (clear_marked xs c ch g a free);
    }

touches_serial : (xs : List (Option Flight)) (c : ℕ) (m : List ℕ) (ch dh : Chunk) (kind : Kind) → (is_inside (length (shown_in m ch)) ch.done.thread.pc ≡ true → clear xs c dh (ch.done.thread.pc / 4) ≡ true) → serial_of ch.done.thread (fetched_by m ch) (length (shown_in m ch)) ≡ Some kind
    → Touches (clear xs c dh) ch.done.thread (shown_in m ch)
touches_serial xs c m ch dh kind e some = record { fetch = e; load = λ none a is. absurd (none-some kind (sym none ∙ some)) }

stays_loading : (capacity : ℕ) (xs : List (Option Flight)) (c : ℕ) (m : List ℕ) (ch : Chunk) (g : Signature) → IsOpen capacity ch → Grown ch g → serial_of ch.done.thread (fetched_by m ch) (length (shown_in m ch)) ≡ None → clear xs c (with_reads ch g) (ch.done.thread.pc / 4) ≡ true
    → Stays capacity xs c (shown_in m ch) ch (loading capacity (shown_in m ch) xs c (fetched_by m ch) (with_reads ch g))
unfolding loading
stays_loading capacity xs c m ch g o n plain e =
    let f = fetched_by m ch in
    keep_option (Stays capacity xs c (shown_in m ch) ch) (loads_of ch.done.thread f) (storing capacity f 0 (with_reads ch g)) (λ a. reading xs c (with_reads ch g) a (storing capacity f (read (shown_in m ch) a)))
    (λ none. stays_storing capacity xs c (shown_in m ch) f 0 ch g o n (λ a some. absurd (none-some a (sym none ∙ some))) (next_one ch.done.thread (shown_in m ch) None plain none) (touches_none xs c m ch g e none))
    (λ a some. stays_reading capacity xs c (shown_in m ch) ch g a (storing capacity f (read (shown_in m ch) a)) o n
    (λ free. stays_storing capacity xs c (shown_in m ch) f (read (shown_in m ch) a) ch (insert (line ch.sphere a) g) o (grown_insert ch g (line ch.sphere a) n)
    (λ b is. let same : a ≡ b = (let q : Some a ≡ Some b = sym some ∙ is in cc) in subst (λ (d : ℕ). covers (insert (line ch.sphere a) g) (line ch.sphere d) ≡ true) same (covers_insert (line ch.sphere a) g))
    (next_one ch.done.thread (shown_in m ch) (Some a) plain some)
    (touches_some xs c m ch g a e some free)))

-- ---- the whole step

stays_running : (capacity : ℕ) (xs : List (Option Flight)) (c : ℕ) (m : List ℕ) (ch : Chunk) (g : Signature) → IsOpen capacity ch → Grown ch g → clear xs c (with_reads ch g) (ch.done.thread.pc / 4) ≡ true
    → Stays capacity xs c (shown_in m ch) ch (running capacity (shown_in m ch) xs c (fetched_by m ch) (with_reads ch g))
unfolding running
stays_running capacity xs c m ch g o n e =
    let f = fetched_by m ch in
    keep_option (Stays capacity xs c (shown_in m ch) ch) (serial_of ch.done.thread f (length (shown_in m ch))) (loading capacity (shown_in m ch) xs c f (with_reads ch g)) (λ kind. closes How.Serial (with_reads ch g))
    (λ none. stays_loading capacity xs c m ch g o n none e)
    (λ kind some. stays_closed capacity xs c (shown_in m ch) ch g How.Serial o n (λ h. cc) (λ h. cc) (λ h. cc)
    (refl, touches_serial xs c m ch (record (with_reads ch g) { closed = Some How.Serial }) kind (λ _. e) some))

-- what a step keeps of an open chunk, beside its run
pub step-stays : (capacity : ℕ) (m : List ℕ) (xs : List (Option Flight)) (c : ℕ) (ch : Chunk) → IsOpen capacity ch → Stays capacity xs c (lays m ch.done.words) ch (step capacity m xs c ch)
unfolding step
step-stays capacity m xs c ch o =
    let a = ch.done.thread.pc / 4 in
    keep_choose (Stays capacity xs c (shown_in m ch) ch) (is_inside (length (shown_in m ch)) ch.done.thread.pc) (reading xs c ch a (running capacity (shown_in m ch) xs c (fetched_by m ch))) (closes How.Serial ch)
    (λ inside. stays_reading capacity xs c (shown_in m ch) ch ch.reads a (running capacity (shown_in m ch) xs c (fetched_by m ch)) o (grown_same ch)
    (λ free. stays_running capacity xs c m ch (insert (line ch.sphere a) ch.reads) o (grown_insert ch ch.reads (line ch.sphere a) (grown_same ch)) (clear_marked xs c ch ch.reads a free)))
    (λ past. stays_closed capacity xs c (shown_in m ch) ch ch.reads How.Serial o (grown_same ch) (λ h. cc) (λ h. cc) (λ h. cc)
    (refl, touches_serial xs c m ch (record ch { closed = Some How.Serial }) (Kind.Fault 1) (λ h. absurd (true≢false (sym h ∙ past))) (outside_serial ch.done.thread (fetched_by m ch) (length (shown_in m ch)) past)))
