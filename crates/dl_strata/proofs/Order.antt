-- The order of the log that strata stand for, put thread by thread; and the log of such parts.
use Rattle.std.proofs.Common.{◌≡◌, ℕ, zero, suc, ◌+◌, ◌<◌, ◌≤◌, ◌^◌, List, ◌∷◌, ◌++◌, map, drop, get_or, length, refl, sym, ap, ◌∙◌, subst, append_assoc, arith}
use Rattle.std.specs.Prelude.{replicate}
use Rattle.std.specs.List.{flat_map}
use Rattle.std.proofs.Math.Seq.{drop-cons}
use Rattle.std.proofs.lemmas.List.{map-append}
use Rattle.dl_entry.specs.declared.Actor.{Actor}
use Rattle.dl_entry.specs.declared.Input.{Input}
use Rattle.spec_log.specs.declared.DmaRecord.{DmaRecord}
use Rattle.spec_log.specs.declared.Interrupt.{Interrupt}
use Rattle.spec_log.specs.declared.LogParts.{LogParts}
use Rattle.spec_log.specs.declared.ModeName.{ModeName}
use Rattle.spec_log.specs.declared.ShortSize.{ShortSize}
use Rattle.spec_log.specs.declared.Sizes.{Sizes}
use Rattle.spec_log.specs.Log.{IsLog}
use Rattle.spec_strata.specs.declared.strata.StrataParts.{StrataParts}
use Rattle.spec_strata.specs.Canonical.{rising, order_of, canonical}
use Rattle.spec_strata.specs.Strata.{commits_in_all, AreStrata}
use Rattle.spec_strata.proofs.Images.Canonical.{length-orders, canonical_is_log}

-- ---- thread by thread

map-replicate : {A B : Type 0} (f : A → B) (n : ℕ) (x : A) → map f (replicate n x) ≡ replicate n (f x)
map-replicate f zero x = refl
map-replicate f (suc n) x = ap (λ ys. f x ∷ ys) (map-replicate f n x)

-- the threads from i on, as actors
abbrev pub actors : (i : ℕ) → List ℕ → List Actor
actors i counts = map Actor.Thread (rising i counts)

actors-next : (i count : ℕ) (counts : List ℕ) → actors i (count ∷ counts) ≡ replicate count (Actor.Thread i) ++ actors (i + 1) counts
actors-next i count counts =
    let s : suc i ≡ i + 1 = omega arith in
    map-append Actor.Thread (replicate count i) (rising (suc i) counts)
    ∙ (λ t. map-replicate Actor.Thread count i t ++ actors (s t) counts)

-- once thread i is put as often as it is counted, the next ones are left
pub put-next : (i thread d : ℕ) (counts : List ℕ) (order new all : List Actor) → thread ≡ i → i < length counts
    → new ≡ order ++ replicate (get_or counts i d) (Actor.Thread thread) → order ++ actors i (drop i counts) ≡ all
    → new ++ actors (i + 1) (drop (i + 1) counts) ≡ all
put-next i thread d counts order new all same below put was =
    let s : suc i ≡ i + 1 = omega arith in
    let e : drop i counts ≡ get_or counts i d ∷ drop (i + 1) counts = drop-cons counts i d below ∙ (λ t. get_or counts i d ∷ drop (s t) counts) in
    let rest : List Actor = actors (i + 1) (drop (i + 1) counts) in
    let mine : List Actor = replicate (get_or counts i d) (Actor.Thread i) in
    let m : actors i (drop i counts) ≡ mine ++ rest = ap (actors i) e ∙ actors-next i (get_or counts i d) (drop (i + 1) counts) in
    let p : new ≡ order ++ mine = put ∙ ap (λ (k : ℕ). order ++ replicate (get_or counts i d) (Actor.Thread k)) same in
    ap (λ (xs : List Actor). xs ++ rest) p ∙ append_assoc order mine rest ∙ ap (λ (xs : List Actor). order ++ xs) (sym m) ∙ was

-- ---- the log

-- there are as many actors as commits
pub few-actors : (v : StrataParts) (order : List Actor) → AreStrata v → order ≡ flat_map order_of v.strata → length order ≤ 2 ^ 24
few-actors v order good is = let n = ap (λ (xs : List Actor). length xs) is in let l = length-orders v.strata in let most = good.commits in omega (arith, n, l, most)

-- a log in order-only with the order, sizes and records of strata is their canonical log
pub is-canonical : (v : StrataParts) (count : ℕ) (order : List Actor) (sizes : List ShortSize) (interrupts : List Interrupt) (inputs : List Input) (dmas : List DmaRecord)
    → count ≡ length order → order ≡ flat_map order_of v.strata → sizes ≡ v.sizes → interrupts ≡ v.interrupts → inputs ≡ v.inputs → dmas ≡ v.dmas
    → ◌≡◌ {A = LogParts} (record {
      version = 2;
      threads = v.threads;
      mode = ModeName.OrderOnly;
      s = v.s;
      count = count;
      order = order;
      sizes = Sizes.Short sizes;
      interrupts = interrupts;
      inputs = inputs;
      dmas = dmas;
    }) (canonical v)
is-canonical v count order sizes interrupts inputs dmas n o z i m d =
    let c : count ≡ commits_in_all v.strata = n ∙ ap (λ (xs : List Actor). length xs) o ∙ length-orders v.strata in
    λ t. record {
      version = 2;
      threads = v.threads;
      mode = ModeName.OrderOnly;
      s = v.s;
      count = c t;
      order = o t;
      sizes = Sizes.Short (z t);
      interrupts = i t;
      inputs = m t;
      dmas = d t;
    }

-- so it is a log
pub canonical-good : (v : StrataParts) (log : LogParts) → AreStrata v → log ≡ canonical v → IsLog log
canonical-good v log good is = subst IsLog (sym is) (canonical_is_log v good)
