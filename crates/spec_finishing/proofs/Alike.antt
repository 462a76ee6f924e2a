-- Worlds that are alike, so that they differ only in what their recordings in epochs have given up, finish by the same events.
use Rattle.std.proofs.Common.{◌≡◌, ℕ, suc, List, [], ◌∷◌, map, Option, Some, None, refl, sym, ap, ◌∙◌}
use Rattle.dl_entry.specs.declared.Actor.{Actor}
use Rattle.spec_sphere.specs.sphere.Spheres.{Role, Plain, Record, Replay, Sphere}
use Rattle.spec_protocol.specs.machine.World.{World}
use Rattle.spec_protocol.specs.machine.Finishing.{SphereTurn, turn_of_role, least, for_actor, for_turn, for_standing, next, standing}
use Rattle.spec_sphere.specs.promises.Alike.{forgotten, role_without}
use Rattle.spec_protocol.specs.promises.Alike.{all_forgotten, AreAlike}

who_without : (i n : ℕ) (r : Role) (others : Option SphereTurn) → turn_of_role i (role_without n r) others ≡ turn_of_role i r others
who_without i n Plain others = refl
who_without i n (Record recording) others = refl
who_without i n (Replay b) others = refl

least_forgotten : (i : ℕ) (ps : List Sphere) → least i (map forgotten ps) ≡ least i ps
least_forgotten i [] = refl
least_forgotten i (p ∷ ps) = who_without i _ p.role _ ∙ ap (turn_of_role i p.role) (least_forgotten (suc i) ps)

actor_forgotten : (w : World) (i : ℕ) (a : Actor) → for_actor (all_forgotten w) i a ≡ for_actor w i a
actor_forgotten w i Actor.Dma = refl
actor_forgotten w i (Actor.Thread k) = refl

who_forgotten : (w : World) (o : Option SphereTurn) → for_turn (all_forgotten w) o ≡ for_turn w o
who_forgotten w None = refl
who_forgotten w (Some who) = actor_forgotten w who.sphere who.actor

standing_forgotten : (w : World) (o : Option ℕ) → for_standing (all_forgotten w) o ≡ for_standing w o
standing_forgotten w None = ap (for_turn (all_forgotten w)) (least_forgotten 0 w.spheres) ∙ who_forgotten w (least 0 w.spheres)
standing_forgotten w (Some k) = refl

next_forgotten : (w : World) → next (all_forgotten w) ≡ next w
unfolding next
next_forgotten w = standing_forgotten w (standing w)

-- the next event is the same
pub next_alike : (w v : World) → AreAlike w v → next w ≡ next v
next_alike w v same = sym (next_forgotten w) ∙ ap next same ∙ next_forgotten v
