-- The events of a schedule.
use Rattle.std.specs.Prelude.{◌≤◌, ◌^◌, List, length}
use Rattle.spec_protocol.specs.declared.event.Event.{Event}
use Rattle.dl_event.specs.Seeded.{seeded, schedule}
use Rattle.dl_run.specs.declared.schedule.Schedule.{Schedule}

-- those that are listed, or that many drawn from the seed
abbrev pub events_in : Schedule → List Event
events_in (Schedule.Script events) = events
events_in (Schedule.Seeded seed events) = schedule events (seeded seed)

-- they are at most 2^24
abbrev pub AreFew : List Event → Type 0
AreFew es = length es ≤ 2 ^ 24
