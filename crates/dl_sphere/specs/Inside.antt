-- The sphere that the code keeps.
use Rattle.spec_sphere.specs.sphere.Spheres as protocol
use Rattle.spec_sphere.specs.sphere.Spheres.{Sphere, Cursor}
use Rattle.dl_kernel.specs.declared.past.Past.{Past}
use Rattle.dl_replay.specs.Following.{cursor_of}
use Rattle.dl_replay.specs.Replays.{IsReplaying}
use Rattle.dl_sphere.specs.Pasts.{sphere_at}
use Rattle.dl_sphere.specs.InStrata.{AreInStrataIf}
use Rattle.dl_sphere.specs.Roles.{role_in, IsCounted}
use Rattle.dl_sphere.specs.declared.part.Replayed.{Replayed}
use Rattle.dl_sphere.specs.declared.sphere.Sphere.TheInside.{Inside}

abbrev pub sphere_in : Inside → Sphere
sphere_in p = sphere_at p.past (role_in p.past.state.used p.part)

-- ---- replayed spheres

-- a replay's role, with the loads of the pieces of its present commit
abbrev pub cursor_in : Past → Replayed → Cursor
cursor_in past r = cursor_of r.player past.state.used r.loads.items

abbrev pub replayed_at : Past → Replayed → Sphere
replayed_at past r = sphere_at past (protocol.Replay (cursor_in past r))

-- the replay has come as far as its sphere
pub record IsAt (past : Past) (r : Replayed) : Type 0 where
  pub replaying : IsReplaying r.player past.state
  pub counted : IsCounted past
  pub listed : AreInStrataIf r.player.strata r.player.now past.first past.commits
