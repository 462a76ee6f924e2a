-- Rule 4: each number is in its limits, and there are 1 to 8 spheres.
use Rattle.std.specs.Prelude.{ℕ, pos, nat_le, Bool, ◌&&◌, List, length, is_some, Option, Some, None, unwrap_or, if◌then◌else◌}
use Rattle.std.specs.List.{list_all}
use Rattle.dl_plan.specs.declared.plan.Sizes.{Sizes}
use Rattle.dl_plan.specs.Entries.{TopEntries, SphereEntries, Entries}
use Rattle.dl_plan.specs.Limits.{limited, count_of, signature_of, memory_of, version_of, epoch_of, keep_of}
use Rattle.dl_plan.specs.Optional.{◌>>=◌}

-- the numbers at the top; a depth that is absent is 1, and a seed 0
abbrev pub sizes_of : TopEntries → Option Sizes
sizes_of top =
    limited 1 8 top.cores >>= λ cores.
    limited 16 65536 top.chunk >>= λ chunk.
    limited 1 4096 top.buffer >>= λ buffer.
    limited 1 8 top.window >>= λ window.
    limited 1 2 (unwrap_or top.depth (pos 1)) >>= λ depth.
    signature_of top.signature >>= λ signature.
    limited 0 9223372036854775807 (unwrap_or top.seed (pos 0)) >>= λ seed.
    Some (record { cores = cores; chunk = chunk; buffer = buffer; window = window; depth = depth; signature = signature; seed = seed })

-- the number of events, if one is there
abbrev pub events_in : TopEntries → Option (Option ℕ)
events_in top = count_of top.events

-- the numbers of a sphere are in their limits, whatever its role
abbrev pub has_good_numbers : SphereEntries → Bool
has_good_numbers s =
    is_some (memory_of s.memory) && is_some (version_of s.version) && is_some (count_of s.from) && is_some (count_of s.to)
    && is_some (epoch_of s.epoch) && is_some (keep_of s.keep)

-- there are 1 to 8 spheres, and the numbers of each are in their limits
abbrev pub has_good_spheres : List SphereEntries → Bool
has_good_spheres spheres = nat_le 1 (length spheres) && nat_le (length spheres) 8 && list_all has_good_numbers spheres

abbrev pub sizes_in : Entries → Option Sizes
sizes_in e = if has_good_spheres e.spheres then sizes_of e.top else None
