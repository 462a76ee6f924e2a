use Rattle.std.proofs.Common.{◌≡◌, Bool, List, None, IsTrue, sym, subst, ap, ◌∙◌}
use Rattle.dl_entry.specs.declared.Actor.{Actor}
use Rattle.spec_isa.specs.declared.thread.Load.{Load}
use Rattle.spec_play.specs.declared.used.Used.{Used}
use Rattle.spec_sphere.specs.sphere.Spheres.{Replay, Sphere, turn_in}
use Rattle.dl_replay.specs.Following.{Following, cursor_of}
use Rattle.dl_sphere.specs.Played.{following_of}
use Rattle.dl_sphere.proofs.player.Player.takes.Goals as goal

-- the answer for an actor of a replay
abbrev Says : (result : Bool) → Actor → Following → Type 0
Says result actor r =
    (used : Used) (loads : List Load) (p : Sphere)
    → (IsTrue result → turn_in (Replay (cursor_of r used loads)) p actor ≡ None) × (turn_in (Replay (cursor_of r used loads)) p actor ≡ None → IsTrue result)

pub returns-in-OrderSize : goal.returns-in-OrderSize
returns-in-OrderSize c =
    subst (Says c.takes.result c.args.actor) (sym (ap following_of c.in-OrderSize.is) ∙ c.self.view_is) c.takes.ensures

pub returns-in-OrderOnly : goal.returns-in-OrderOnly
returns-in-OrderOnly c =
    subst (Says c.takes-in-OrderOnly.result c.args.actor) (sym (ap following_of c.in-OrderOnly.is) ∙ c.self.view_is) c.takes-in-OrderOnly.ensures

pub returns-in-Picolog : goal.returns-in-Picolog
returns-in-Picolog c =
    subst (Says c.takes-in-Picolog.result c.args.actor) (sym (ap following_of c.in-Picolog.is) ∙ c.self.view_is) c.takes-in-Picolog.ensures

pub returns-in-Strata : goal.returns-in-Strata
returns-in-Strata c =
    subst (Says c.takes-in-Strata.result c.args.actor) (sym (ap following_of c.in-Strata.is) ∙ c.self.view_is) c.takes-in-Strata.ensures
