-- Footprints and conflicts of small commits.
use Rattle.std.proofs.Common.{◌≡◌, ℕ, true, false, List, [], ◌∷◌, refl}
use Rattle.spec_isa.specs.Instruction.{serial_of, loads_of, next_of, load_of, store_of, one}
use Rattle.spec_isa.specs.Words.{lay, read, merged}
use Rattle.spec_isa.specs.Threads.{started}
use Rattle.spec_play.proofs.Programs.{image}
use Rattle.spec_strata.specs.Footprints.{looks_at, footprint, conflicts}

-- stores of x1 in word 6 and in word 7, a load of word 6, and a call; in a memory of 32 bytes
abbrev code : List ℕ
code = image 32 (0x00102C23 ∷ 0x00102E23 ∷ 0x01802103 ∷ 0x00000073 ∷ [])

-- two stores of different words don't conflict
apart : conflicts code (started 0) 1 (started 4) 1 ≡ false
unfolding looks_at serial_of loads_of next_of load_of store_of one lay read merged
apart = refl

-- a store and a load of one word do
meet : conflicts code (started 0) 1 (started 8) 1 ≡ true
unfolding looks_at serial_of loads_of next_of load_of store_of one lay read merged
meet = refl

-- and so do two stores
both_store : conflicts code (started 0) 1 (started 0) 1 ≡ true
unfolding looks_at serial_of loads_of next_of load_of store_of one lay read merged
both_store = refl

-- a commit that met its number of instructions hasn't seen the call after it
call_unseen : footprint code (started 8) 1 3 ≡ false
unfolding looks_at serial_of loads_of next_of load_of store_of one lay read merged
call_unseen = refl

-- one that was stopped by it has
call_seen : footprint code (started 8) 2 3 ≡ true
unfolding looks_at serial_of loads_of next_of load_of store_of one lay read merged
call_seen = refl
