-- A replay and the state of its sphere.
use Rattle.std.specs.Prelude.{◌≡◌, ◌<◌, false, length}
use Rattle.spec_log.specs.Log.{IsLog}
use Rattle.spec_play.specs.Progress.{Progress, position}
use Rattle.spec_play.specs.Resuming.{IsBounded}
use Rattle.spec_sphere.specs.sphere.Spheres.{is_over}
use Rattle.spec_sphere.specs.promises.Sound.{IsSoundIf}
use Rattle.dl_kernel.specs.States.{PlayState as State, state_in}
use Rattle.dl_replay.specs.Following.{Following}
use Rattle.dl_replay.specs.Standings.{IsWithinIf}

-- the state is within the log, unless the replay is over the log has a commit left, the outstanding request is sound, and
-- strata count no more commits than are done
pub record IsReplaying (r : Following) (s : State) : Type 0 where
  pub is_log : IsLog r.log
  pub bounded : IsBounded r.log (state_in s)
  pub left : is_over r.now ≡ false → s.commits < r.log.count
  pub request : IsSoundIf (length s.memory) s.request
  pub strata : IsWithinIf r.strata s.commits

-- the sphere has come as far as its state says
pub record Agrees (s : State) (p : Progress) : Type 0 where
  pub commits : position p ≡ s.commits
  pub last : p.last ≡ s.last
  pub request : p.request ≡ s.request
