-- The two versions of logs, side by side: what differs by the version is named here, in numbers; Bytes and Reading have the fields.
use Rattle.std.specs.Prelude.{◌≡◌, ℕ, ◌≤◌, ◌==◌, ◌⊎◌, if◌then◌else◌}
use Rattle.dl_entry.specs.Numbers.{least_chunk, most_chunk, most_chunk_v1, most_threads, plain_threads}

-- what version 1 has, or what version 2 has
abbrev pub by_version : {X : Type 0} → (version : ℕ) → X → X → X
by_version version first second = if version == 1 then first else second

-- a log of version 1 may have 15 threads, one of version 2 15 or 63
abbrev pub IsVersion : (version threads : ℕ) → Type 0
IsVersion version threads =
    ((version ≡ 1) × (threads ≡ plain_threads)) ⊎ ((version ≡ 2) × ((threads ≡ plain_threads) ⊎ (threads ≡ most_threads)))

-- how many threads a new log may have
abbrev pub new_threads : (version : ℕ) → ℕ
new_threads version = by_version version plain_threads most_threads

-- the most instructions of a standard chunk
abbrev pub most_standard : (version : ℕ) → ℕ
most_standard version = by_version version most_chunk_v1 most_chunk

-- a standard chunk of a log has at least 16 instructions
abbrev pub IsStandard : (version s : ℕ) → Type 0
IsStandard version s = (least_chunk ≤ s) × (s ≤ most_standard version)

-- how many bytes a size has
abbrev pub size_width : (version : ℕ) → ℕ
size_width version = by_version version 2 4
