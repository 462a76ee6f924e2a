-- The rest of a log, counted from the base, says what the log says from there on.
use Rattle.std.proofs.Common.{◌≡◌, ℕ, suc, ◌+◌, ◌-◌, ◌<◌, ◌≤◌, inl, inr, Bool, true, false, cond, List, [], ◌∷◌, length, Option, Some, None, refl, sym, ap, ◌∙◌, subst, arith}
use Rattle.std.specs.Prelude.{slice_get, nat_lt, nat_le, nat_eq, not, ◌&&◌, ◌||◌, filter, drop, take, map, option_map, if◌then◌else◌}
use Rattle.std.specs.List.{list_all}
use Rattle.std.proofs.lemmas.Bool.{true≢false, false≢true, cases_Bool, cases_lt, lt-ltb, le-ltb, ltb-true, ltb-false, eqb-true, and_parts, or_parts, or_cases, false_from_ne_true}
use Rattle.std.proofs.lemmas.Option.{slice_get-map, slice_get_cases}
use Rattle.dl_entry.specs.declared.Actor.{Actor}
use Rattle.dl_entry.specs.declared.Request.{Request}
use Rattle.dl_entry.specs.declared.Why.{Why}
use Rattle.spec_isa.specs.declared.thread.Parts.{Parts}
use Rattle.spec_log.specs.declared.DmaRecord.{DmaRecord}
use Rattle.spec_log.specs.declared.Interrupt.{Interrupt}
use Rattle.spec_log.specs.declared.LogParts.{LogParts}
use Rattle.spec_log.specs.declared.ModeName.{ModeName}
use Rattle.spec_log.specs.declared.ShortSize.{ShortSize}
use Rattle.spec_log.specs.declared.Sizes.{Sizes}
use Rattle.spec_log.specs.Head.{head, head_in, head_by_turn, is_dma_at}
use Rattle.spec_log.specs.Log.{IsLog, IsOrder, IsSizes}
use Rattle.spec_log.specs.Size.{size_in, thread_size, dma_size, is_thread, sizes_of_thread}
use Rattle.spec_kernel.specs.Copies.{dma_words}
use Rattle.spec_play.specs.Plays.{Played}
use Rattle.spec_play.specs.Progress.{position}
use Rattle.spec_play.specs.Transfers.{DmaGoes, DmaFails, transferred}
use Rattle.spec_play.specs.Turns.{is_size_used, are_sizes_used}
use Rattle.spec_play.specs.Verdicts.{interrupt_at}
use Rattle.spec_play.specs.Epochs.{was_done, is_masked, was_raised, sizes_from, log_from}
use Rattle.spec_play.specs.States.{State}
use Rattle.spec_tail.specs.Playing.{begun, no_thread, thread_since, short_since, sizes_since, interrupt_since, dma_since, counted_from}
use Rattle.spec_tail.proofs.Along.Lookups.{get-drop, sized-drop, position-since, dma-since, each-filter, value_at, value-kept, IsSince, value-since}
use Rattle.spec_tail.proofs.Along.Reached.{IsReached}
use Rattle.spec_tail.proofs.Along.Recounted.{recounted, get-counted}
use Rattle.spec_tail.proofs.Along.Steps.{Covers}
use Rattle.spec_tail.proofs.Along.Tallies.{tally, each-map, Rising, rising-of}

-- counted from a base at which these are the threads
abbrev pub since : (base : ℕ) → List Parts → LogParts → LogParts
since base ts log =
    record log {
      sizes = sizes_since ts log.sizes;
      interrupts = map (interrupt_since ts) log.interrupts;
      dmas = map (dma_since base log.count) log.dmas;
    }

each-ordered : (m : ModeName) (threads s count : ℕ) (order : List Actor) (zs : List ℕ) → IsSizes m threads s count (Sizes.Each zs) → IsOrder m threads count order → (m ≡ ModeName.OrderSize) × (length zs ≡ length order)
each-ordered ModeName.OrderSize threads s count order zs sizes ordered = (refl, sizes.0 ∙ sym ordered.0)
each-ordered ModeName.OrderOnly threads s count order zs sizes ordered = absurd sizes
each-ordered ModeName.Picolog threads s count order zs sizes ordered = absurd sizes

-- what the plays of a log and of its rest ask of it: there are as many sizes as actors if each commit has one, and the interrupts rise
pub record IsArranged (log : LogParts) : Type 0 where
  pub each : (zs : List ℕ) → log.sizes ≡ Sizes.Each zs → (log.mode ≡ ModeName.OrderSize) × (length zs ≡ length log.order)
  pub rising : Rising log.interrupts

-- every log has as many sizes as actors if each commit has one, and its interrupts rise
pub arranged-of : (log : LogParts) → IsLog log → IsArranged log
arranged-of log is =
    record {
      each = λ zs each. each-ordered log.mode log.threads log.s log.count log.order zs (subst (IsSizes log.mode log.threads log.s log.count) each is.sizes) is.order;
      rising = rising-of log.interrupts is.interrupts.rising;
    }

thread-kept : (begun k index : ℕ) → begun ≤ index → thread_since begun k index ≡ k
thread-kept b k index from = ap (λ (c : Bool). if c then no_thread else k) (le-ltb index b from)

ltb-moved : (index b n : ℕ) → b ≤ index → nat_lt index (b + n) ≡ nat_lt (index - b) n
ltb-moved index b n from =
    elim (cases_lt index (b + n)) [
      | inl less ↦ lt-ltb index (b + n) less ∙ sym (lt-ltb (index - b) n (omega (arith, less, from)))
      | inr most ↦ le-ltb index (b + n) most ∙ sym (le-ltb (index - b) n (omega (arith, most, from)))
    ]

for-since : (base count i : ℕ) (request : Option Request) (next : Option DmaRecord) → i < count → transferred (base + i) request next ≡ transferred i request (option_map (dma_since base count) next)
for-since base count i None next less = refl
for-since base count i (Some request) None less = refl
for-since base count i (Some request) (Some d) less =
    ap (λ (b : Bool). if b && nat_le (length d.bytes) request.len then DmaGoes (dma_words request d.bytes) else DmaFails Why.Dma)
    (position-since base count i d less)

-- ---- sizes that are used

not-true : (b : Bool) → not b ≡ true → b ≡ false
not-true true e = absurd (false≢true e)
not-true false e = refl

not-false : (b : Bool) → not b ≡ false → b ≡ true
not-false true e = refl
not-false false e = absurd (true≢false e)

module _ (ts : List Parts) where
  abbrev is_kept : ShortSize → Bool
  is_kept x = not (was_done ts x.thread x.index)

  kept-from : (x : ShortSize) → is_kept x ≡ true → begun ts x.thread ≤ x.index
  kept-from x kept = ltb-false x.index (begun ts x.thread) (not-true (was_done ts x.thread x.index) kept)

  left-before : (x : ShortSize) → is_kept x ≡ false → x.index < begun ts x.thread
  left-before x left = ltb-true x.index (begun ts x.thread) (not-false (was_done ts x.thread x.index) left)

  short-kept : (x : ShortSize) → is_kept x ≡ true → IsSince (λ (x : ShortSize). x.thread) (λ x. x.index) (λ x. x.size) (begun ts) x (short_since ts x)
  short-kept x kept =
      let l = kept-from x kept in
      record {
        same_thread = thread-kept (begun ts x.thread) x.thread x.index l;
        moment = omega (arith, l);
        same_value = refl;
      }

  short-left : (k i : ℕ) (x : ShortSize) → is_kept x ≡ false → (nat_eq x.thread k && nat_eq x.index (begun ts k + i)) ≡ false
  short-left k i x left =
      false_from_ne_true _ (λ e.
      let p = and_parts (nat_eq x.thread k) (nat_eq x.index (begun ts k + i)) e in
      let thread = eqb-true x.thread k p.0 in
      let index = eqb-true x.index (begun ts k + i) p.1 in
      let c = ap (begun ts) thread in
      let l = left-before x left in
      omega (arith, index, c, l))

  pub short-sizes : (k i : ℕ) (xs : List ShortSize) → value_at (λ (x : ShortSize). x.thread) (λ x. x.index) (λ x. x.size) k (begun ts k + i) xs
      ≡ value_at (λ (x : ShortSize). x.thread) (λ x. x.index) (λ x. x.size) k i (map (short_since ts) (filter is_kept xs))
  short-sizes k i xs =
      value-kept (λ (x : ShortSize). x.thread) (λ x. x.index) (λ x. x.size) is_kept k (begun ts k + i) xs (short-left k i)
      ∙ value-since (λ (x : ShortSize). x.thread) (λ x. x.index) (λ x. x.size) (begun ts) (short_since ts) k i (filter is_kept xs)
      (each-map (λ x. is_kept x ≡ true) _ (filter is_kept xs) short-kept (each-filter is_kept xs))

  used-kept : (us : List Parts) (x : ShortSize) → is_kept x ≡ true → is_size_used (slice_get (counted_from (begun ts) 0 us) x.thread) x ≡ is_size_used (slice_get us (short_since ts x).thread) (short_since ts x)
  used-kept us x kept =
      let s = short-kept x kept in
      let none : 0 + x.thread ≡ x.thread = omega arith in
      ap (λ (o : Option Parts). is_size_used o x) (get-counted (begun ts) 0 us x.thread ∙ ap (λ (i : ℕ). option_map (recounted (begun ts i)) (slice_get us x.thread)) none)
      ∙ either (slice_get us x.thread)
      ∙ ap (λ (k : ℕ). is_size_used (slice_get us k) (short_since ts x)) (sym s.same_thread)
    where
      either : (o : Option Parts) → is_size_used (option_map (recounted (begun ts x.thread)) o) x ≡ is_size_used o (short_since ts x)
      either None = refl
      either (Some p) = ltb-moved x.index (begun ts x.thread) p.commits (kept-from x kept)

  used-left : (us : List Parts) (x : ShortSize) → Covers (begun ts) us → is_kept x ≡ false → is_size_used (slice_get (counted_from (begun ts) 0 us) x.thread) x ≡ true
  used-left us x covers left =
      let none : 0 + x.thread ≡ x.thread = omega arith in
      let l = left-before x left in
      let there : slice_get (counted_from (begun ts) 0 us) x.thread ≡ option_map (recounted (begun ts x.thread)) (slice_get us x.thread) =
      get-counted (begun ts) 0 us x.thread ∙ ap (λ (i : ℕ). option_map (recounted (begun ts i)) (slice_get us x.thread)) none in
      elim (slice_get_cases us x.thread).1 [
        | inl p ↦ (
            let in_all : slice_get (counted_from (begun ts) 0 us) x.thread ≡ Some (recounted (begun ts x.thread) p.0) = there ∙ ap (option_map (recounted (begun ts x.thread))) p.2 in
            ap (λ (o : Option Parts). is_size_used o x) in_all ∙ lt-ltb x.index (begun ts x.thread + p.0.commits) (omega (arith, l))
            )
        | inr p ↦ (let z = covers x.thread p.0 in absurd (omega (arith, l, z)))
      ]

  pub used-since : (us : List Parts) (xs : List ShortSize) → Covers (begun ts) us
      → list_all (λ (x : ShortSize). is_size_used (slice_get (counted_from (begun ts) 0 us) x.thread) x) xs ≡ list_all (λ (x : ShortSize). is_size_used (slice_get us x.thread) x) (map (short_since ts) (filter is_kept xs))
  used-since us [] covers = refl
  used-since us (x ∷ xs) covers =
      let rest = used-since us xs covers in
      let all : Bool = list_all (λ (x : ShortSize). is_size_used (slice_get (counted_from (begun ts) 0 us) x.thread) x) xs in
      let used : List ShortSize → Bool = list_all (λ (x : ShortSize). is_size_used (slice_get us x.thread) x) in
      elim (cases_Bool (is_kept x)) [
        | inl kept ↦ (
            ap (λ (b : Bool). b && all) (used-kept us x kept)
            ∙ ap (λ (b : Bool). is_size_used (slice_get us (short_since ts x).thread) (short_since ts x) && b) rest
            ∙ ap (λ (b : Bool). used (map (short_since ts) (cond b (x ∷ filter is_kept xs) (filter is_kept xs)))) (sym kept)
            )
        | inr left ↦ (
            ap (λ (b : Bool). b && all) (used-left us x covers left)
            ∙ rest
            ∙ ap (λ (b : Bool). used (map (short_since ts) (cond b (x ∷ filter is_kept xs) (filter is_kept xs)))) (sym left)
            )
      ]

-- ---- interrupts by time

-- one that wasn't raised before is of the thread's commits from the base on, and one that was of those up to there
not-raised : (raised : Bool) (masked : Bool) (before index : ℕ) → (nat_lt index before || (nat_eq index before && masked)) ≡ raised → not raised ≡ true → before ≤ index
not-raised true masked before index e kept = absurd (false≢true kept)
not-raised false masked before index e kept = ltb-false index before (or_parts (nat_lt index before) (nat_eq index before && masked) e).0

was-raised : (raised : Bool) (masked : Bool) (before index : ℕ) → (nat_lt index before || (nat_eq index before && masked)) ≡ raised → not raised ≡ false → index ≤ before
was-raised true masked before index e gone =
    elim (or_cases (nat_lt index before) (nat_eq index before && masked) e) [
      | inl less ↦ (let l = ltb-true index before less in omega (arith, l))
      | inr same ↦ (let l = eqb-true index before (and_parts (nat_eq index before) masked same).0 in omega (arith, l))
    ]
was-raised false masked before index e gone = absurd (true≢false gone)

-- ---- the rest of a log

-- the log's play is at y, and s is the state there, except for interrupts that are raised later
module _ (log : LogParts) (y : Played) (s : State) (is : IsArranged log) (reached : IsReached log y) (here : position y.progress ≡ s.commits) (same : (k : ℕ) → begun s.threads k ≡ begun y.threads k) (by_position : filter (λ d. nat_le s.commits d.position) log.dmas ≡ drop y.used.dmas log.dmas) where
  abbrev base : ℕ
  base = s.commits

  abbrev ts : List Parts
  ts = s.threads

  abbrev left : LogParts
  left = log_from base y.used.inputs s log

  abbrev rest : LogParts
  rest = since base ts left

  used-before : (j : ℕ) (d : DmaRecord) → j < y.used.dmas → slice_get log.dmas j ≡ Some d → d.position < base
  used-before j d l at = let h = reached.dmas j d l at in omega (arith, h, here)

  mode-heads : (m : ModeName) (i : ℕ) (last : Option ℕ) (live : List Bool) → i < left.count → head_in m log (base + i) last live ≡ head_in m rest i last live
  mode-heads ModeName.OrderSize i last live less = get-drop log.order base i
  mode-heads ModeName.OrderOnly i last live less = get-drop log.order base i
  mode-heads ModeName.Picolog i last live less =
      ap (λ (b : Bool). head_by_turn b last live)
      (dma-since base left.count i y.used.dmas log.dmas less used-before
      ∙ ap (λ (ds : List DmaRecord). is_dma_at (map (dma_since base left.count) ds) i) (sym by_position))

  pub rest-heads : (i : ℕ) (last : Option ℕ) (live : List Bool) → i < left.count → head log (base + i) last live ≡ head rest i last live
  rest-heads = mode-heads log.mode

  some-sizes : (sizes : Sizes) (k i : ℕ) → log.sizes ≡ sizes → thread_size log.order sizes k (begun ts k + i) ≡ thread_size (drop base log.order) (sizes_since ts (sizes_from base ts sizes)) k i
  some-sizes (Sizes.Each zs) k i each =
      let o = is.each zs each in
      ap (λ (b : ℕ). slice_get (sizes_of_thread k log.order zs) (b + i)) (same k ∙ reached.order o.0 k ∙ ap (λ (n : ℕ). tally (is_thread k) (take n log.order)) here)
      ∙ sized-drop k log.order zs base i o.1
  some-sizes (Sizes.Short xs) k i short = short-sizes ts k i xs

  pub rest-sizes : (k i : ℕ) → size_in log (Actor.Thread k) (begun ts k + i) ≡ size_in rest (Actor.Thread k) i
  rest-sizes k i = some-sizes log.sizes k i refl

  of-dmas : (sizes : Sizes) (i : ℕ) → dma_size sizes (base + i) ≡ dma_size (sizes_since ts (sizes_from base ts sizes)) i
  of-dmas (Sizes.Each zs) i = get-drop zs base i
  of-dmas (Sizes.Short xs) i = refl

  pub rest-dma_sizes : (i : ℕ) → size_in log Actor.Dma (base + i) ≡ size_in rest Actor.Dma i
  rest-dma_sizes i = of-dmas log.sizes i

  abbrev is_coming : Interrupt → Bool
  is_coming x = not (was_raised ts x.thread x.index)

  interrupt-kept : (x : Interrupt) → is_coming x ≡ true → IsSince (λ (x : Interrupt). x.thread) (λ x. x.index) (λ x. x.value) (begun ts) x (interrupt_since ts x)
  interrupt-kept x kept =
      let l = not-raised (was_raised ts x.thread x.index) (is_masked (slice_get ts x.thread)) (begun ts x.thread) x.index refl kept in
      record {
        same_thread = thread-kept (begun ts x.thread) x.thread x.index l;
        moment = omega (arith, l);
        same_value = refl;
      }

  interrupt-left : (k i : ℕ) (x : Interrupt) → is_coming x ≡ false → (nat_eq x.thread k && nat_eq x.index (begun ts k + suc i)) ≡ false
  interrupt-left k i x gone =
      false_from_ne_true _ (λ e.
      let p = and_parts (nat_eq x.thread k) (nat_eq x.index (begun ts k + suc i)) e in
      let thread = eqb-true x.thread k p.0 in
      let index = eqb-true x.index (begun ts k + suc i) p.1 in
      let c = ap (begun ts) thread in
      let l = was-raised (was_raised ts x.thread x.index) (is_masked (slice_get ts x.thread)) (begun ts x.thread) x.index refl gone in
      omega (arith, index, c, l))

  -- those that come, counted from the base
  pub coming-since : (k i : ℕ) → interrupt_at left.interrupts k (begun ts k + i) ≡ interrupt_at rest.interrupts k i
  coming-since k i =
      value-since (λ (x : Interrupt). x.thread) (λ x. x.index) (λ x. x.value) (begun ts) (interrupt_since ts) k i left.interrupts
      (each-map (λ x. is_coming x ≡ true) _ left.interrupts interrupt-kept (each-filter is_coming log.interrupts))

  pub rest-interrupts : (k i : ℕ) → interrupt_at log.interrupts k (begun ts k + suc i) ≡ interrupt_at rest.interrupts k (suc i)
  rest-interrupts k i =
      value-kept (λ (x : Interrupt). x.thread) (λ x. x.index) (λ x. x.value) is_coming k (begun ts k + suc i) log.interrupts (interrupt-left k i)
      ∙ coming-since k (suc i)

  pub rest-transfers : (i j : ℕ) (request : Option Request) → i < left.count → transferred (base + i) request (slice_get log.dmas (y.used.dmas + j)) ≡ transferred i request (slice_get rest.dmas j)
  rest-transfers i j request less =
      ap (transferred (base + i) request) (get-drop log.dmas y.used.dmas j ∙ ap (λ (ds : List DmaRecord). slice_get ds j) (sym by_position))
      ∙ for-since base left.count i request (slice_get left.dmas j) less
      ∙ ap (transferred i request) (sym (slice_get-map (dma_since base left.count) left.dmas j))

  some-used : (sizes : Sizes) (us : List Parts) → Covers (begun ts) us → are_sizes_used (counted_from (begun ts) 0 us) sizes ≡ are_sizes_used us (sizes_since ts (sizes_from base ts sizes))
  some-used (Sizes.Each zs) us covers = refl
  some-used (Sizes.Short xs) us covers = used-since ts us xs covers

  pub rest-used : (us : List Parts) → Covers (begun ts) us → are_sizes_used (counted_from (begun ts) 0 us) log.sizes ≡ are_sizes_used us rest.sizes
  rest-used us covers = some-used log.sizes us covers
