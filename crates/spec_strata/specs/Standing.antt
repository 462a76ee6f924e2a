-- How far a replay has come in strata.
use Rattle.std.specs.Prelude.{ℕ, zero, suc, ◌+◌, nat_eq, nat_lt, Bool, false, List, [], ◌∷◌, map, slice_index_or, slice_set, Option}
use Rattle.std.specs.Prelude.{Some, None, option_map, if◌then◌else◌}
use Rattle.std.specs.List.{sum}
use Rattle.dl_entry.specs.declared.Actor.{Actor}
use Rattle.spec_strata.specs.declared.stratum.Stratum.{Stratum}
use Rattle.spec_strata.specs.declared.stratum.Stratum.TheVariants.{Chunks, Serial, Dma}

-- the strata that are left, the present one first; how many of its commits are done, by thread; and how many commits come
-- before it
pub record Standing : Type 0 where
  pub strata : List Stratum
  pub done : List ℕ
  pub before : ℕ

-- ---- the start of a stratum

-- nothing of it is done
abbrev pub nothing_done : List Stratum → List ℕ
nothing_done [] = []
nothing_done (Chunks counts ∷ xs) = map (λ count. 0) counts
nothing_done (Serial thread ∷ xs) = []
nothing_done (Dma ∷ xs) = []

-- these strata are left, and so many commits are done
abbrev pub stratum_begun : List Stratum → (before : ℕ) → Standing
stratum_begun strata before = record { strata = strata; done = nothing_done strata; before = before }

-- ---- whose commit may come next

-- the least thread, from a number on, that has fewer commits done than are counted
abbrev pub least_left : (thread : ℕ) → (counts done : List ℕ) → Option ℕ
least_left k [] ds = None
least_left k (c ∷ cs) [] = None
least_left k (c ∷ cs) (d ∷ ds) = if nat_lt d c then Some k else least_left (suc k) cs ds

abbrev pub head_of : Stratum → (done : List ℕ) → Option Actor
head_of (Chunks counts) done = option_map Actor.Thread (least_left 0 counts done)
head_of (Serial thread) done = Some (Actor.Thread thread)
head_of Dma done = Some Actor.Dma

-- the head of the present stratum: the least thread with commits left, or the one that is there
abbrev pub head_in : List Stratum → (done : List ℕ) → Option Actor
head_in [] done = None
head_in (x ∷ xs) done = head_of x done

abbrev pub head_standing : Standing → Option Actor
head_standing x = head_in x.strata x.done

-- whether a thread has chunks left in the present stratum, so that it needn't wait for its head
abbrev pub has_chunks_left : List Stratum → (done : List ℕ) → (thread : ℕ) → Bool
has_chunks_left [] done k = false
has_chunks_left (Chunks counts ∷ xs) done k = nat_lt (slice_index_or done k 0) (slice_index_or counts k 0)
has_chunks_left (Serial thread ∷ xs) done k = false
has_chunks_left (Dma ∷ xs) done k = false

-- ---- a commit more

-- the next stratum begins once all commits of the present one are done
abbrev pub unless_over : List Stratum → (counts done : List ℕ) → (before : ℕ) → Standing
unless_over xs counts done before =
    if nat_lt (sum done) (sum counts)
    then record { strata = Chunks counts ∷ xs; done = done; before = before }
    else stratum_begun xs (before + sum counts)

abbrev pub with_one_done : (thread : ℕ) → List ℕ → List ℕ
with_one_done k done = slice_set done k (suc (slice_index_or done k 0))

-- a serial step or a DMA is a stratum by itself
abbrev pub with_thread : (thread : ℕ) → Standing → List Stratum → Standing
with_thread k x [] = x
with_thread k x (Chunks counts ∷ xs) = unless_over xs counts (with_one_done k x.done) x.before
with_thread k x (Serial thread ∷ xs) = stratum_begun xs (suc x.before)
with_thread k x (Dma ∷ xs) = stratum_begun xs (suc x.before)

abbrev pub with_alone : Standing → List Stratum → Standing
with_alone x [] = x
with_alone x (s ∷ xs) = stratum_begun xs (suc x.before)

-- of a thread, and a DMA
abbrev pub after_thread : (thread : ℕ) → Standing → Standing
after_thread k x = with_thread k x x.strata

abbrev pub after_dma : Standing → Standing
after_dma x = with_alone x x.strata

-- ---- its place

-- how many commits of threads up to a number are done
abbrev pub done_up_to : (thread : ℕ) → (done : List ℕ) → ℕ
done_up_to k [] = 0
done_up_to zero (d ∷ ds) = d
done_up_to (suc k) (d ∷ ds) = d + done_up_to k ds

-- how many commits come before a thread's next one in canonical order: those before the stratum, and in it those of threads
-- up to this one
abbrev pub place_of : (thread : ℕ) → Standing → ℕ
place_of k x = x.before + done_up_to k x.done

-- whether none of the stratum's commits comes after it
abbrev pub is_last : (thread : ℕ) → Standing → Bool
is_last k x = nat_eq (done_up_to k x.done) (sum x.done)
