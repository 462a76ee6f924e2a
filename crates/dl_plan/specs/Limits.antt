-- The limits of a plan's numbers.
use Rattle.std.specs.Prelude.{ℕ, ◌==◌, ◌%◌, nat_le, ℤ, pos, negsuc, Bool, ◌&&◌, [], ◌∷◌, Option, Some, None, unwrap_or, if◌then◌else◌}
use Rattle.std.specs.List.{list_any}
use Rattle.dl_plan.specs.Optional.{◌>>=◌, if_there}

-- the number, where it stands from `low` to `high`
abbrev pub limited : ℕ → ℕ → ℤ → Option ℕ
limited low high (pos n) = if nat_le low n && nat_le n high then Some n else None
limited low high (negsuc n) = None

-- so many events or commits, if a number is there: up to 2^24
abbrev pub count_of : Option ℤ → Option (Option ℕ)
count_of count = if_there (limited 0 16777216) count

-- the commits of an epoch, if a number is there: 1 to 2^24; and how many epochs are kept, 1 to 64
abbrev pub epoch_of : Option ℤ → Option (Option ℕ)
epoch_of epoch = if_there (limited 1 16777216) epoch

abbrev pub keep_of : Option ℤ → Option (Option ℕ)
keep_of keep = if_there (limited 1 64) keep

-- a power of two from 64 to 2048
abbrev pub is_signature : ℕ → Bool
is_signature n = list_any (λ size. n == size) (64 ∷ 128 ∷ 256 ∷ 512 ∷ 1024 ∷ 2048 ∷ [])

-- the bits of a signature
abbrev pub signature_of : ℤ → Option ℕ
signature_of z = limited 64 2048 z >>= λ n. if is_signature n then Some n else None

-- the bytes of a memory: a multiple of 4096, up to 2^24
abbrev pub memory_of : ℤ → Option ℕ
memory_of z = limited 4096 16777216 z >>= λ n. if n % 4096 == 0 then Some n else None

-- the version of a log, 1 or 2; one that is absent is 1
abbrev pub version_of : Option ℤ → Option ℕ
version_of version = limited 1 2 (unwrap_or version (pos 1))

-- the instructions of the longest chunk that logs of a version can have
abbrev pub longest_chunk : (version : ℕ) → ℕ
longest_chunk version = if version == 1 then 4096 else 65536
