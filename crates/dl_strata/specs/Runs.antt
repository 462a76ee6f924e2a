-- Strata as they are read.
use Rattle.std.specs.Prelude.{◌≤◌, length}
use Rattle.spec_strata.specs.declared.stratum.Stratum.{Stratum}
use Rattle.spec_strata.specs.declared.stratum.Stratum.TheVariants.{Chunks, Serial, Dma}

-- a byte can say how many counts the chunks have
abbrev pub HasFewCounts : Stratum → Type 0
HasFewCounts (Chunks counts) = length counts ≤ 255
HasFewCounts (Serial thread) = Unit {0}
HasFewCounts Dma = Unit {0}
