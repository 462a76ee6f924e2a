-- What is kept of commits once the first of them are given up.
use Rattle.std.specs.Prelude.{ℕ, ◌-◌, nat_le, List, drop, slice_index}
use Rattle.std.specs.List.{filter}
use Rattle.spec_log.specs.declared.sizes.ShortSize.{ShortSize}
use Rattle.spec_log.specs.declared.sizes.Sizes.{Sizes}
use Rattle.spec_log.specs.declared.sizes.Sizes.TheVariants.{Each, Short}
use Rattle.spec_log.specs.Noting.{Kept}

-- the short sizes of commits that weren't done when each thread had done so many
abbrev pub short_since : (done : List ℕ) → List ShortSize → List ShortSize
short_since done sizes = filter (λ short. nat_le (slice_index done short.thread) short.index) sizes

abbrev pub sizes_since : (n : ℕ) → (done : List ℕ) → Sizes → Sizes
sizes_since n done (Each sizes) = Each (drop n sizes)
sizes_since n done (Short sizes) = Short (short_since done sizes)

-- what is kept without the first n commits, after which each thread had done so many
abbrev pub kept_since : (n : ℕ) → (done : List ℕ) → Kept → Kept
kept_since n done kept =
    record kept { count = kept.count - n; order = drop n kept.order; sizes = sizes_since n done kept.sizes }
