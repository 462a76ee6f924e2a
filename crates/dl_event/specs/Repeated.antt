-- Events that are held together with how often each comes in a row.
use Rattle.std.specs.Prelude.{ℕ, ◌≡◌, ◌∷◌, ◌++◌, [], List, flat_map, replicate}
use Rattle.spec_protocol.specs.declared.event.Event.{Event}
use Rattle.dl_event.specs.declared.events.Repeated.{Repeated}

-- each event as often as it comes
abbrev pub expanded : List Repeated → List Event
expanded rs = flat_map (λ r. replicate r.times r.event) rs

-- the last one is this event
pub record EndsWith (event : Event) (rs : List Repeated) : Type 0 where
  pub before : List Repeated
  pub times : ℕ
  pub is : rs ≡ before ++ record { event = event; times = times } ∷ []
