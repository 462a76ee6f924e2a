-- In a replay it was seen to be the turn of thread 0.
use Rattle.std.proofs.Common.{rules, ◌≡◌, inl, false, Some, sym, ◌∙◌}
use Rattle.std.proofs.lemmas.Bool.{true≢false}
use Rattle.dl_entry.specs.declared.Actor.{Actor}
use Rattle.spec_play.specs.Turns.{TurnOrEnd, Turn, TurnOfDma, Ended}
use Rattle.spec_sphere.specs.sphere.Spheres.{replays}
use Rattle.spec_sphere.specs.sphere.Spheres.{Sphere, Role, Plain, Record, Replay, actor_of, head_in, head_of}
use Rattle.dl_sphere.specs.Moving.{IsTurnOf}
use Rattle.test_spheres.proofs.tests.spheres.moves.is_turn.Goals as goal
use Rattle.test_spheres.proofs.tests.spheres.moves.is_turn.Goals.{then-not-replays, else-not-replays}

live : (role : Role) → replays role ≡ false → IsTurnOf 0 role
live Plain off = tt
live (Record recording) off = tt
live (Replay b) off = absurd (true≢false off)

turn_now : (now : TurnOrEnd) → actor_of now ≡ Some (Actor.Thread 0) → now ≡ Turn 0
turn_now (Turn k) is = cc
turn_now TurnOfDma is = cc
turn_now (Ended how) is = cc

turn_in : (role : Role) (p : Sphere) → head_in role p ≡ Some (Actor.Thread 0) → IsTurnOf 0 role
turn_in Plain p is = tt
turn_in (Record recording) p is = tt
turn_in (Replay b) p is = inl (turn_now b.now is)

turn_of : (p : Sphere) → head_of p ≡ Some (Actor.Thread 0) → IsTurnOf 0 p.role
unfolding head_of
turn_of p is = turn_in p.role p is

pub returns : goal.returns
returns g c =
    elim c.if-not-replays.branch [
      | then-not-replays w ↦ live c.args.sphere.now.sphere.role (sym c.replays.ensures ∙ w.if-not-replays.true)
      | else-not-replays w ↦ turn_of c.args.sphere.now.sphere (search rules)
    ]
