-- The canonical log of strata is a log.
use Rattle.std.proofs.Common.{◌≡◌, ℕ, suc, ◌+◌, ◌<◌, ◌≤◌, inr, List, [], ◌∷◌, length, refl, ◌∙◌, arith}
use Rattle.std.specs.Prelude.{All, replicate}
use Rattle.std.specs.List.{sum, flat_map}
use Rattle.std.proofs.lemmas.List.{length-append, length-map, length-replicate}
use Rattle.std.proofs.lemmas.List.Sums.{sum_by-cons}
use Rattle.std.proofs.lemmas.List.Elements.{All-nil, All-head, All-tail, All-append, All-map, All-replicate}
use Rattle.dl_entry.specs.declared.Actor.{Actor}
use Rattle.spec_log.specs.Log.{IsActor, IsShortSize, IsInterrupt}
use Rattle.spec_strata.specs.declared.stratum.Stratum.{Stratum}
use Rattle.spec_strata.specs.declared.stratum.Stratum.TheVariants.{Chunks, Serial, Dma}
use Rattle.spec_strata.specs.Strata.{commits_in, commits_in_all, IsStratumOf}
use Rattle.spec_strata.specs.Canonical.{rising, order_of, CanonicalIsLog}

-- ---- lists

All-weaker : {X : Type 0} (P Q : X → Type 0) (xs : List X) → ((x : X) → P x → Q x) → All P xs → All Q xs
All-weaker P Q xs weaker all = λ k d l. weaker _ (all k d l)

All-single : {X : Type 0} (P : X → Type 0) (x : X) → P x → All P (x ∷ [])
All-single P x p = All-append P (x ∷ []) [] (All-replicate P 1 x p) (All-nil P)

-- ---- the order

-- the canonical order of chunks is as long as the sum of their counts
pub length-rising : (k : ℕ) (counts : List ℕ) → length (rising k counts) ≡ sum counts
length-rising k [] = refl
length-rising k (count ∷ counts) =
    length-append (replicate count k) (rising (suc k) counts)
    ∙ (let a = length-replicate count k in let b = length-rising (suc k) counts in let c = sum_by-cons (λ (x : ℕ). x) count counts in omega (arith, a, b, c))

-- a stratum's order is as long as the stratum has commits
pub length-order : (x : Stratum) → length (order_of x) ≡ commits_in x
length-order (Chunks counts) = length-map (rising 0 counts) Actor.Thread ∙ length-rising 0 counts
length-order (Serial thread) = refl
length-order Dma = refl

-- the order of all strata together is as long as they have commits
pub length-orders : (xs : List Stratum) → length (flat_map order_of xs) ≡ commits_in_all xs
length-orders [] = refl
length-orders (x ∷ xs) =
    length-append (order_of x) (flat_map order_of xs)
    ∙ (let a = length-order x in let b = length-orders xs in let c = sum_by-cons commits_in x xs in omega (arith, a, b, c))

rising-below : (k n : ℕ) (counts : List ℕ) → k + length counts ≤ n → All (λ j. j < n) (rising k counts)
rising-below k n [] few = All-nil (λ j. j < n)
rising-below k n (count ∷ counts) few =
    All-append (λ j. j < n) (replicate count k) (rising (suc k) counts) (All-replicate (λ j. j < n) count k (omega (arith, few)))
    (rising-below (suc k) n counts (omega (arith, few)))

actors-of : (threads counted : ℕ) (x : Stratum) → counted ≤ threads → IsStratumOf counted x → All (IsActor threads) (order_of x)
actors-of threads counted (Chunks counts) few is =
    let most = is.0 in
    All-map (IsActor threads) Actor.Thread (rising 0 counts) (rising-below 0 threads counts (omega (arith, few, most)))
actors-of threads counted (Serial thread) few is = All-single (IsActor threads) (Actor.Thread thread) (omega (arith, few, is))
actors-of threads counted Dma few is = All-single (IsActor threads) Actor.Dma tt

all-actors : (threads counted : ℕ) (xs : List Stratum) → counted ≤ threads → All (IsStratumOf counted) xs → All (IsActor threads) (flat_map order_of xs)
all-actors threads counted [] few each = All-nil (IsActor threads)
all-actors threads counted (x ∷ xs) few each =
    All-append (IsActor threads) (order_of x) (flat_map order_of xs) (actors-of threads counted x few (All-head (IsStratumOf counted) x xs each))
    (all-actors threads counted xs few (All-tail (IsStratumOf counted) x xs each))

-- ---- the log

-- the canonical log of strata is a log
pub canonical_is_log : CanonicalIsLog
canonical_is_log v good =
    let few : v.counted ≤ v.threads = good.threads.2 in
    record {
      version = inr (refl, good.threads.0);
      s = good.s;
      count = good.commits;
      order = (length-orders v.strata, all-actors v.threads v.counted v.strata few good.each);
      sizes = record {
        few = good.sizes.few;
        each = All-weaker (IsShortSize v.counted v.s) (IsShortSize v.threads v.s) v.sizes (λ x is. let l = is.0 in (omega (arith, few, l), is.1, is.2, is.3)) good.sizes.each;
        rising = good.sizes.rising;
      };
      interrupts = record {
        few = good.interrupts.few;
        each = All-weaker (IsInterrupt v.counted) (IsInterrupt v.threads) v.interrupts (λ x is. let l = is.0 in (omega (arith, few, l), is.1, is.2)) good.interrupts.each;
        rising = good.interrupts.rising;
      };
      inputs = good.inputs;
      dmas = good.dmas;
    }
