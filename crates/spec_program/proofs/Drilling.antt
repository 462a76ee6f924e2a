-- A drill's replay gives the account of its recording.
use Rattle.std.proofs.Common.{◌≡◌, ℕ, zero, suc, ◌||◌, false, [], ◌∷◌, Some, None, refl, ap, ◌∙◌, arith}
use Rattle.std.specs.Prelude.{slice_get}
use Rattle.std.proofs.lemmas.Option.{none-some, same_Some}
use Rattle.spec_log.specs.declared.ModeName.{ModeName}
use Rattle.spec_play.specs.Turns.{TurnOrEnd}
use Rattle.spec_sphere.specs.sphere.Setups.{ReplaySetup, IsRecorded, IsReplayed, SphereSetup}
use Rattle.spec_finishing.specs.Ending.{CanFinish}
use Rattle.spec_run.specs.Runs.{end_of, has_diverged}
use Rattle.spec_run.specs.Texts.{account_text}
use Rattle.spec_run.proofs.Described.{recordings_reproduced}
use Rattle.spec_program.specs.Drilled.{IsReproduced}
use Rattle.spec_program.specs.Drills.{drill_sphere, recording, recording_events}

abbrev recorded : (number : ℕ) → SphereSetup
recorded v = drill_sphere v (IsRecorded (record { version = 1; mode = ModeName.OrderOnly; epochs = None }))

-- nothing is replayed
none_replayed : (v i : ℕ) (image : SphereSetup) (asked : ReplaySetup) → slice_get (recorded v ∷ []) i ≡ Some image → image.role ≡ IsReplayed asked → ⊥
none_replayed v zero image asked is role =
    let other : IsRecorded (record { version = 1; mode = ModeName.OrderOnly; epochs = None }) ≡ IsReplayed asked = ap (λ (x : SphereSetup). x.role) (same_Some (recorded v) image is) ∙ role in
    cc
none_replayed v (suc i) image asked is role = none-some image is

can_finish : (v : ℕ) → CanFinish (recording v)
can_finish v =
    record {
      setup = record { chunk = omega arith; buffer = omega arith };
      cores = omega arith;
      window = omega arith;
      standard = λ i image asked is role. absurd (none_replayed v i image asked is role);
      strata = λ i image asked is role. absurd (none_replayed v i image asked is role);
    }

-- a drill's replay is complete, and has the account of its recording
pub drill_reproduced : (v : ℕ) → IsReproduced v
unfolding account_text
drill_reproduced v =
    let reproduced = recordings_reproduced (recording v) (recording_events v) 0 (recorded v) (record { version = 1; mode = ModeName.OrderOnly; epochs = None }) (can_finish v) refl refl in
    record { account = reproduced.account; complete = ap (λ (n : TurnOrEnd). has_diverged (end_of n) || false) reproduced.fits }
