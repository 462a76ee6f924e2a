-- A core of a machine of depth 1 has one chunk.
use Rattle.std.proofs.Common.{◌≡◌, ℕ, ◌≤◌, ◌&&◌, Option, Some, None, refl, ap, ◌∙◌, arith}
use Rattle.std.specs.Prelude.{nat_lt}
use Rattle.std.proofs.lemmas.Bool.{and_parts, ltb-true}
use Rattle.spec_engine.specs.Chunks.{Chunk, may_follow}
use Rattle.spec_sphere.specs.sphere.Spheres.{Role, replays}
use Rattle.spec_protocol.specs.machine.World.{Numbers, Occupant, World, sphere_at}
use Rattle.spec_protocol.specs.machine.Stepping.{younger_afresh, younger_for}
use Rattle.spec_protocol.specs.promises.Invariants.{IsGoodHeld}
use Rattle.spec_protocol.specs.promises.OneChunk.{CoresHaveOneChunk}
use Rattle.spec_protocol.specs.promises.Promises.{after}
use Rattle.spec_play.proofs.Threads.{branch}
use Rattle.spec_protocol.proofs.Invariants.Schedules.{invariants_hold, sizes_kept}

alone_if : (w : World) (c : ℕ) (h : Occupant) (o : Option Chunk) → h.younger ≡ o → w.numbers.depth ≤ 1 → IsGoodHeld w c h → h.younger ≡ None
alone_if w c h None is one good = is
alone_if w c h (Some y) is one good = let l = (good.follows y is).deep in absurd (omega (arith, one, l))

-- what a core holds has no younger chunk where the depth is 1
pub one-alone : (w : World) (c : ℕ) (h : Occupant) → w.numbers.depth ≤ 1 → IsGoodHeld w c h → h.younger ≡ None
one-alone w c h one good = alone_if w c h h.younger refl one good

-- and none begins there
pub one-none : (z : Numbers) (role : Role) (h : Occupant) → z.depth ≤ 1 → younger_for z role h None ≡ None
one-none z role h one =
    let allowed = may_follow (replays role) h.chunk.closed in
    branch (λ (o : Option Chunk). o ≡ None) (nat_lt 1 z.depth && allowed) (Some (younger_afresh z role h)) None
    (λ e. let l = ltb-true 1 z.depth (and_parts (nat_lt 1 z.depth) allowed e).0 in absurd (omega (arith, one, l)))
    (λ _. refl)

-- after a schedule a core of such a machine has one chunk
pub cores_have_one : CoresHaveOneChunk
cores_have_one s es c h is one there =
    let w = after s es in
    let depth : w.numbers.depth ≡ 1 = ap (λ (z : Numbers). z.depth) (sizes_kept s es is).numbers ∙ one in
    let alone = one-alone w c h (omega (arith, depth)) ((invariants_hold s es is).held c h there) in
    record {
      alone = alone;
      stays = ap (younger_for w.numbers (sphere_at w h.chunk.sphere).role h) alone ∙ one-none w.numbers _ h (omega (arith, depth));
    }
