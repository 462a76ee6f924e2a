-- The lists of a log that depend on its mode.
use Rattle.std.specs.Prelude.{◌≡◌, ℕ, ◌^◌, ◌≤◌}
use Rattle.spec_log.specs.declared.mode_name.ModeName.{ModeName}
use Rattle.dl_entry.specs.Numbers.{least_chunk, most_chunk, most_threads}
use Rattle.spec_log.specs.Log.{IsOrder, IsSizes, AreShortSizes}
use Rattle.spec_log.specs.declared.sizes.Sizes.{Sizes}
use Rattle.spec_log.specs.declared.sizes.Sizes.TheVariants.{Each, Short}
use Rattle.spec_log.specs.Noting.{Kept}
use Rattle.dl_mode.specs.declared.lists.Lists.{Lists}

-- the lists of what is kept
abbrev pub lists_of : ModeName → Kept → Lists
lists_of mode kept = record { mode = mode; s = kept.s; count = kept.count; order = kept.order; sizes = kept.sizes }

-- lists of a mode, in the ranges and orders of a log that may have as many threads as any
pub record AreLists (mode : ModeName) (lists : Lists) : Type 0 where
  pub is_mode : lists.mode ≡ mode
  pub least : least_chunk ≤ lists.s
  pub most : lists.s ≤ most_chunk
  pub count : lists.count ≤ 2 ^ 24
  pub order : IsOrder mode most_threads lists.count lists.order
  pub sizes : IsSizes mode most_threads lists.s lists.count lists.sizes

-- the sizes are those of short chunks
abbrev pub AreShort : ℕ → Sizes → Type 0
AreShort s (Each sizes) = ⊥
AreShort s (Short sizes) = AreShortSizes most_threads s sizes
