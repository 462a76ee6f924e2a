use Rattle.std.proofs.Common.{◌≡◌, take}
use Rattle.dl_trail.specs.Trails.{commits_of}
use Rattle.dl_trail.proofs.trail.numbers_of.Given as goal

abbrev pub invariant-loop-state : goal.invariant-loop-state
invariant-loop-state l = l.numbers.items ≡ commits_of (take l.state-index l.kept)
