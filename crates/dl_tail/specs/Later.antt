-- What of a list of entries stays in the log for later.
use Rattle.std.specs.Prelude.{List, not, map, filter}
use Rattle.spec_isa.specs.declared.thread.Parts.{Parts}
use Rattle.spec_log.specs.declared.ShortSize.{ShortSize}
use Rattle.spec_tail.specs.Playing.{short_since}
use Rattle.spec_tail.specs.Later.{is_early_size}

abbrev pub short_that_follow : List Parts → List ShortSize → List ShortSize
short_that_follow threads xs = map (short_since threads) (filter (λ x. not (is_early_size threads x)) xs)
