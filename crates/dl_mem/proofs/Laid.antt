-- A memory stays one when a store is laid over it, and the store of an address in the address's own terms.
use Rattle.std.proofs.Common.{◌≡◌, ℕ, ◌+◌, ◌*◌, ◌/◌, ◌%◌, ◌^◌, List, nat_eq, refl, arith}
use Rattle.spec_isa.specs.Words.{lay, with_byte}
use Rattle.spec_isa.specs.Masks.{bytes_of, some_if}
use Rattle.spec_isa.proofs.MemoryLaws.{length_lay, IsBytes-lay}
use Rattle.dl_mem.specs.Memories.{IsMemory}

-- a memory stays one when the bytes of one store are laid over it
pub IsMemory-lay : (old new : List ℕ) (word mask value : ℕ) → new ≡ lay old (bytes_of word mask value) → IsMemory old → IsMemory new
IsMemory-lay old new w k v e h =
    rw e
    (record {
      size = rw (length_lay old (bytes_of w k v)) h.size;
      bytes = IsBytes-lay old w k v h.bytes;
    })

-- to lay a store is to store its four bytes, each where its bit of the mask is set, from its address on
pub lay-from : (m : List ℕ) (at mask value : ℕ) → at % 4 ≡ 0 →
    lay m (bytes_of (at / 4) mask value)
    ≡ with_byte
    (with_byte
    (with_byte (with_byte m at (some_if (nat_eq (mask % 2) 1) (value % 2 ^ 8))) (at + 1) (some_if (nat_eq (mask / 2 % 2) 1) (value / 2 ^ 8 % 2 ^ 8)))
    (at + 2)
    (some_if (nat_eq (mask / 4 % 2) 1) (value / 2 ^ 16 % 2 ^ 8)))
    (at + 3)
    (some_if (nat_eq (mask / 8 % 2) 1) (value / 2 ^ 24 % 2 ^ 8))
unfolding lay bytes_of
lay-from m at k v h =
    let e : 4 * (at / 4) ≡ at = omega arith in rw e refl
