use Rattle.spec_run.proofs.Room.{leaves_room}
use Rattle.spec_run.proofs.promise.schedules_leave_room.Goals as goal

pub returns : goal.returns
returns c = leaves_room
