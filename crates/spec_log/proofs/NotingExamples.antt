-- What is kept of small recordings.
use Rattle.std.proofs.Common.{◌≡◌, true, false, List, [], ◌∷◌, refl}
use Rattle.dl_entry.specs.declared.actor.Actor.TheVariants.{Thread, Dma}
use Rattle.spec_log.specs.declared.mode_name.ModeName.TheVariants.{OrderSize, OrderOnly, Picolog}
use Rattle.spec_log.specs.declared.sizes.Sizes.TheVariants.{Each, Short}
use Rattle.spec_log.specs.Noting.{Note, kept_of}

-- thread 1 has a short chunk, then thread 0, and thread 1 once more; a DMA stands between
abbrev notes : List Note
notes =
    record { actor = Thread 1; size = 2; short = true } ∷ record { actor = Dma; size = 0; short = false }
    ∷ record { actor = Thread 0; size = 100; short = false } ∷ record { actor = Thread 0; size = 8; short = true }
    ∷ record { actor = Thread 1; size = 3; short = true } ∷ []

-- order-size keeps the size of every commit, in the order of the commits
pub kept_of-order_size : (kept_of OrderSize 100 notes).sizes ≡ Each (2 ∷ 0 ∷ 100 ∷ 8 ∷ 3 ∷ [])
kept_of-order_size = refl

-- by thread and index, however they came
pub kept_of-order_only : (kept_of OrderOnly 100 notes).sizes
    ≡ Short (record { thread = 0; index = 1; size = 8 } ∷ record { thread = 1; index = 0; size = 2 } ∷ record { thread = 1; index = 1; size = 3 } ∷ [])
kept_of-order_only = refl

-- order-only keeps the actor of every commit, in the order of the commits
pub kept_of-order : (kept_of OrderOnly 100 notes).order ≡ Thread 1 ∷ Dma ∷ Thread 0 ∷ Thread 0 ∷ Thread 1 ∷ []
kept_of-order = refl

-- picolog keeps no order of the commits
pub kept_of-no_order : (kept_of Picolog 100 notes).order ≡ []
kept_of-no_order = refl

-- picolog counts all commits, the DMA's as well
pub kept_of-count : (kept_of Picolog 100 notes).count ≡ 5
kept_of-count = refl
