use Rattle.std.proofs.Common.{◌≡◌, drop}
use Rattle.spec_run.specs.Runs.{diverges}
use Rattle.dl_run.proofs.run.Run.diverged.Given as goal

-- none of the spheres so far has diverged
abbrev pub invariant-loop-sphere : goal.invariant-loop-sphere
invariant-loop-sphere l = diverges (drop l.sphere l.fn.self.setup.spheres) ≡ diverges l.fn.self.setup.spheres
