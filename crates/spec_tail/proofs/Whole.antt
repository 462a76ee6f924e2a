-- A tail that has all of a recording plays as its log does.
use Rattle.std.proofs.Common.{◌≡◌, ℕ, zero, suc, ◌+◌, ◌-◌, ◌<◌, Bool, true, false, List, [], ◌∷◌, All, map, None, refl, ap, sym, ◌∙◌, arith}
use Rattle.std.specs.Prelude.{nat_eq, nat_lt, ◌&&◌}
use Rattle.std.proofs.lemmas.Bool.{le-ltb}
use Rattle.std.proofs.lemmas.List.Elements.{All-head, All-tail}
use Rattle.dl_entry.specs.declared.End.{End}
use Rattle.spec_isa.specs.declared.thread.Parts.{Parts}
use Rattle.spec_log.specs.declared.DmaRecord.{DmaRecord}
use Rattle.spec_log.specs.declared.Interrupt.{Interrupt}
use Rattle.spec_log.specs.declared.LogParts.{LogParts}
use Rattle.spec_log.specs.declared.ShortSize.{ShortSize}
use Rattle.spec_log.specs.declared.Sizes.{Sizes}
use Rattle.spec_play.specs.declared.WalkEnd.{WalkEnd}
use Rattle.spec_play.specs.Plays.{Played, plays}
use Rattle.spec_play.specs.States.{resumed, walked_from}
use Rattle.spec_play.specs.Verdicts.{interrupt_at}
use Rattle.spec_play.specs.Walks.{Walked, walked_at}
use Rattle.spec_tail.specs.Tails.{Tail, state_of}
use Rattle.spec_tail.specs.Playing.{begun, thread_since, short_since, sizes_since, interrupt_since, dma_since, log_since, raised, uncounted, opened, counted_from, end_from, walk_end_from, walked_since, play}
use Rattle.spec_tail.specs.Promise.{IsWhole, WholeTailsPlayLogs}

-- ---- the log

map-same : {X : Type 0} (f : X → X) → ((x : X) → f x ≡ x) → (xs : List X) → map f xs ≡ xs
map-same f same [] = refl
map-same f same (x ∷ xs) = rw (same x, map-same f same xs) refl

-- no thread has commits before the base
begun-none : (ps : List Parts) → All (λ p. p.commits ≡ 0) ps → (k : ℕ) → begun ps k ≡ 0
begun-none [] none k = refl
begun-none (p ∷ ps) none zero = All-head (λ (p : Parts). p.commits ≡ 0) p ps none
begun-none (p ∷ ps) none (suc k) = begun-none ps (All-tail (λ (p : Parts). p.commits ≡ 0) p ps none) k

thread-same : (k index : ℕ) → thread_since 0 k index ≡ k
thread-same k index =
    let never : nat_lt index 0 ≡ false = le-ltb _ _ (omega arith) in
    rw never refl

none-more : (n : ℕ) → 0 + n ≡ n
none-more n = omega arith

less-none : (n : ℕ) → n - 0 ≡ n
less-none n = omega arith

module _ (ps : List Parts) (none : All (λ p. p.commits ≡ 0) ps) where
  short-same : (x : ShortSize) → short_since ps x ≡ x
  short-same x = rw (begun-none ps none x.thread, thread-same x.thread x.index, less-none x.index) refl

  interrupt-same : (x : Interrupt) → interrupt_since ps x ≡ x
  interrupt-same x = rw (begun-none ps none x.thread, thread-same x.thread x.index, less-none x.index) refl

  sizes-same : (sizes : Sizes) → sizes_since ps sizes ≡ sizes
  sizes-same (Sizes.Each xs) = refl
  sizes-same (Sizes.Short xs) = ap Sizes.Short (map-same (short_since ps) short-same xs)

dma-same : (count : ℕ) (x : DmaRecord) → dma_since 0 count x ≡ x
dma-same count x =
    let never : nat_lt x.position 0 ≡ false = le-ltb _ _ (omega arith) in
    rw (never, less-none x.position) refl

log-same : (t : Tail) → IsWhole t → log_since t ≡ t.log
log-same t whole =
    rw (whole.base, sizes-same t.threads whole.threads t.log.sizes, map-same (interrupt_since t.threads) (interrupt-same t.threads whole.threads) t.log.interrupts, map-same (dma_since 0 t.log.count) (dma-same t.log.count) t.log.dmas)
    refl

-- ---- the interrupts

none-at : (xs : List Interrupt) → All (λ x. 0 < x.index) xs → (k : ℕ) → interrupt_at xs k 0 ≡ None
none-at [] late k = refl
none-at (x ∷ xs) late k =
    let after : 0 < x.index = All-head (λ (x : Interrupt). 0 < x.index) x xs late in
    let other : nat_eq x.index 0 ≡ false = grind arith in
    let skipped : (nat_eq x.thread k && nat_eq x.index 0) ≡ false = rw other (and-false (nat_eq x.thread k)) in
    rw skipped (none-at xs (All-tail (λ (x : Interrupt). 0 < x.index) x xs late) k) where
      and-false : (b : Bool) → (b && false) ≡ false
      and-false true = refl
      and-false false = refl

uncounted-same : (ps : List Parts) → All (λ p. p.commits ≡ 0) ps → map uncounted ps ≡ ps
uncounted-same [] none = refl
uncounted-same (p ∷ ps) none =
    let first : 0 ≡ p.commits = sym (All-head (λ (p : Parts). p.commits ≡ 0) p ps none) in
    rw (first, uncounted-same ps (All-tail (λ (p : Parts). p.commits ≡ 0) p ps none)) refl

none-raised : (xs : List Interrupt) → All (λ x. 0 < x.index) xs → (k : ℕ) (ps : List Parts) → All (λ p. p.commits ≡ 0) ps
    → raised xs k ps ≡ record { threads = ps; count = 0; refused = false }
none-raised xs late k [] none = refl
none-raised xs late k (p ∷ ps) none =
    rw (All-head (λ (p : Parts). p.commits ≡ 0) p ps none, none-at xs late k, none-raised xs late (suc k) ps (All-tail (λ (p : Parts). p.commits ≡ 0) p ps none))
    refl

-- ---- the play

opened-same : (t : Tail) → IsWhole t → opened t ≡ resumed t.log (state_of t)
opened-same t whole =
    let none = none-raised t.log.interrupts whole.interrupts 0 t.threads whole.threads in
    let none_since : raised (log_since t).interrupts 0 (map uncounted t.threads) ≡ record { threads = t.threads; count = 0; refused = false } =
    rw (uncounted-same t.threads whole.threads) (ap (λ (log : LogParts). raised log.interrupts 0 t.threads) (log-same t whole) ∙ none) in
    rw (none_since, log-same t whole, whole.base) refl

counted-same : (b : ℕ → ℕ) → ((k : ℕ) → b k ≡ 0) → (k : ℕ) (ps : List Parts) → counted_from b k ps ≡ ps
counted-same b none k [] = refl
counted-same b none k (p ∷ ps) = rw (none k, none-more p.commits, counted-same b none (suc k) ps) refl

end-same : (how : End) → end_from 0 how ≡ how
end-same (End.Complete i) = ap End.Complete (none-more i)
end-same (End.At i) = ap End.At (none-more i)
end-same (End.Diverged i why) = ap (λ (n : ℕ). End.Diverged n why) (none-more i)

walk_end-same : (end : WalkEnd) → walk_end_from 0 end ≡ end
walk_end-same (WalkEnd.Reached i) = ap WalkEnd.Reached (none-more i)
walk_end-same (WalkEnd.Ended how) = ap WalkEnd.Ended (end-same how)

walked-same : (t : Tail) → IsWhole t → (v : Walked) → walked_since t v ≡ v
walked-same t whole v =
    rw (counted-same (begun t.threads) (begun-none t.threads whole.threads) 0 v.threads, whole.base, walk_end-same v.end) refl

alike : (log other : LogParts) (y z : Played) (count : ℕ) → log ≡ other → y ≡ z
    → walked_at log count (plays log y count) ≡ walked_at other count (plays other z count)
alike log other y z count same_log same = rw (same_log, same) refl

from-none : (t : Tail) → t.base ≡ 0 → walked_at t.log t.log.count (plays t.log (resumed t.log (state_of t)) t.log.count) ≡ walked_from t.log (state_of t) t.log.count
from-none t base =
    let all : t.log.count - t.base ≡ t.log.count = rw base (less-none t.log.count) in
    ap (λ (n : ℕ). walked_at t.log t.log.count (plays t.log (resumed t.log (state_of t)) n)) (sym all)

-- the walk of a whole tail is the walk of its log from the state at the base
pub whole-tails-play-logs : WholeTailsPlayLogs
whole-tails-play-logs t whole =
    walked-same t whole (walked_at (log_since t) t.log.count (play t))
    ∙ alike (log_since t) t.log (opened t) (resumed t.log (state_of t)) t.log.count (log-same t whole) (opened-same t whole)
    ∙ from-none t whole.base
