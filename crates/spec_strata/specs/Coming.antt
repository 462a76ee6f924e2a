-- Where a play is within a stratum.
use Rattle.std.specs.Prelude.{◌≡◌, map}
use Rattle.spec_play.specs.Plays.{Played}
use Rattle.spec_strata.specs.Shares.{StratumState}

-- the play has come to this state of the stratum
pub record HasCome (y : Played) (x : StratumState) : Type 0 where
  pub memory : y.memory ≡ x.memory
  pub threads : y.threads ≡ map (λ p. p.thread) x.shares
