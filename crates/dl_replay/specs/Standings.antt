-- How the code keeps how far a replay has come in strata.
use Rattle.std.specs.Prelude.{◌≡◌, ℕ, suc, ◌+◌, ◌<◌, ◌≤◌, ◌⊎◌, slice_index_or, List, [], ◌∷◌, length, drop, replicate, Option, Some, None}
use Rattle.std.specs.List.{sum}
use Rattle.spec_strata.specs.declared.stratum.Stratum.{Stratum}
use Rattle.spec_strata.specs.declared.stratum.Stratum.TheVariants.{Chunks, Serial, Dma}
use Rattle.spec_strata.specs.Standing.{Standing, stratum_begun}

-- how many chunks of each thread are done in the present stratum, if it has chunks
abbrev pub done_in : List Stratum → (done : List ℕ) → List ℕ
done_in [] done = []
done_in (Chunks counts ∷ xs) done = done
done_in (Serial thread ∷ xs) done = []
done_in (Dma ∷ xs) done = []

-- the strata from a place on, with so many chunks done in the first of them, and so many commits before it
abbrev pub standing_from : List Stratum → (place : ℕ) → (done : List ℕ) → (before : ℕ) → Standing
standing_from strata place done before =
    let left = drop place strata in
    record { strata = left; done = done_in left done; before = before }

-- how many chunks a stratum has, if it has chunks
abbrev pub count_of : Stratum → Option ℕ
count_of (Chunks counts) = Some (sum counts)
count_of (Serial thread) = None
count_of Dma = None

-- and the present one
abbrev pub count_in : List Stratum → Option ℕ
count_in [] = None
count_in (x ∷ xs) = count_of x

-- how many chunks of each of so many threads a stratum has
abbrev pub counts_of : (threads : ℕ) → Stratum → List ℕ
counts_of n (Chunks counts) = counts
counts_of n (Serial thread) = replicate n 0
counts_of n Dma = replicate n 0

-- and the present one
abbrev pub counts_in : (threads : ℕ) → List Stratum → List ℕ
counts_in n [] = replicate n 0
counts_in n (x ∷ xs) = counts_of n x

-- a stratum counts the chunks of so many threads, if it has chunks
abbrev pub CountsThreads : (threads : ℕ) → Stratum → Type 0
CountsThreads n (Chunks counts) = length counts ≡ n
CountsThreads n (Serial thread) = Unit {0}
CountsThreads n Dma = Unit {0}

-- and of few
abbrev pub CountsFew : Stratum → Type 0
CountsFew (Chunks counts) = length counts ≤ 63
CountsFew (Serial thread) = Unit {0}
CountsFew Dma = Unit {0}

-- it counts no more commits than are done
abbrev pub IsWithin : Standing → (commits : ℕ) → Type 0
IsWithin x n = x.before + sum x.done ≤ n

abbrev pub IsWithinIf : Option Standing → (commits : ℕ) → Type 0
IsWithinIf None n = Unit {0}
IsWithinIf (Some x) n = IsWithin x n

-- the greatest thread that has done something, or 0 if none has
abbrev pub IsGreatest : (thread : ℕ) → (done : List ℕ) → Type 0
IsGreatest k done = (sum (drop (suc k) done) ≡ 0) × ((k ≡ 0) ⊎ (0 < slice_index_or done k 0))

-- all strata, and how far they have come
pub record Stood : Type 0 where
  pub all : List Stratum
  pub standing : Standing

abbrev pub stood : List Stratum → (place : ℕ) → (done : List ℕ) → (before : ℕ) → Stood
stood strata place done before = record { all = strata; standing = standing_from strata place done before }

-- nothing of them is done
abbrev pub nothing_stood : List Stratum → Stood
nothing_stood strata = record { all = strata; standing = stratum_begun strata 0 }
