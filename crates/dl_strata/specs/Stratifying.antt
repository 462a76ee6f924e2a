-- What a log comes to that is cut into strata on an image.
use Rattle.std.specs.Prelude.{◌≡◌, ℕ, List}
use Rattle.dl_entry.specs.declared.End.{End}
use Rattle.spec_log.specs.declared.LogParts.{LogParts}
use Rattle.spec_play.specs.Turns.{Ended}
use Rattle.spec_play.specs.Plays.{play, FitsImage}
use Rattle.spec_strata.specs.Making.{made}
use Rattle.dl_strata.specs.declared.stratifying.Stratified.{Stratified}
use Rattle.dl_strata.specs.declared.stratifying.Stratified.TheVariants.{Made, Diverged}

-- the strata of its play, if it fits the image; else where and why the play diverges
abbrev pub IsStratified : LogParts → (memory : List ℕ) → (entry : ℕ) → Stratified → Type 0
IsStratified log memory entry (Made v) = FitsImage log memory entry × (v ≡ made log memory entry)
IsStratified log memory entry (Diverged i why) = (play log memory entry).now ≡ Ended (End.Diverged i why)
