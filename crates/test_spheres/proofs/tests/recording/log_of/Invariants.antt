use Rattle.std.proofs.Common.{◌≡◌, [], None}
use Rattle.test_spheres.proofs.tests.recording.log_of.Given as goal

abbrev pub invariant-loop-step : goal.invariant-loop-step
invariant-loop-step g l =
    (l.recorder.version ≡ 1) × (l.recorder.kept.s ≡ l.row.s) × (l.recorder.kept.count ≡ l.step-index) × (l.recorder.interrupts ≡ [])
    × (l.recorder.epochs ≡ None)
