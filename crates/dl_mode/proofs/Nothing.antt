-- Of no commit nothing is counted.
use Rattle.std.proofs.Common.{◌≡◌, ℕ, zero, suc, List, [], slice_index, replicate, refl, arith}
use Rattle.std.proofs.lemmas.List.{length-replicate}
use Rattle.dl_entry.specs.Numbers.{most_threads}
use Rattle.dl_mode.specs.Counts.{AreAmong}
use Rattle.dl_mode.specs.ThreadSizes.{ThreadSizes}
use Rattle.dl_mode.specs.Whole.{IsWhole}

none_at : (n t : ℕ) → slice_index (replicate n 0) t ≡ 0
none_at zero t = refl
none_at (suc n) zero = refl
none_at (suc n) (suc t) = none_at n t

-- at first no thread has done more commits than there are
pub AreAmong-none : (done : List ℕ) (count : ℕ) → done ≡ replicate most_threads 0 → AreAmong count done
AreAmong-none done count e t = rw (e, none_at most_threads t) (omega arith)

-- at first the sizes and the counts stand together with an order
pub IsWhole-none : (past : List ℕ) (threads : ThreadSizes) → past ≡ replicate most_threads 0 → threads.sizes ≡ [] → threads.done ≡ replicate most_threads 0
    → IsWhole [] [] past threads
IsWhole-none past threads p s d =
    record {
      few = omega arith;
      same = refl;
      all = rw d (length-replicate {A = ℕ} most_threads 0);
      all_past = rw p (length-replicate {A = ℕ} most_threads 0);
      few_done = λ t. rw (d, none_at most_threads t) (omega arith);
      each = λ t i. rw s refl;
      counted = λ t. rw (d, p, none_at most_threads t) refl;
    }
