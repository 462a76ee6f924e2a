-- A DMA that is asked for is done.
use Rattle.std.proofs.Common.{rules, ◌≡◌, Option, Some, refl, sym, subst}
use Rattle.std.specs.Prelude.{IsSome}
use Rattle.dl_entry.specs.declared.Request.{Request}
use Rattle.spec_kernel.specs.Devices.{Devices}
use Rattle.spec_sphere.specs.sphere.Commits.{dma_in, dma_log, dma_moved, live_dma}
use Rattle.spec_sphere.specs.sphere.Spheres.{Sphere, Role, Plain, Record, Replay}
use Rattle.test_spheres.proofs.tests.spheres.moves.dma.Goals as goal

some_in : (role : Role) (d : Devices) (p : Sphere) (q : Request) → p.progress.request ≡ Some q → IsSome (dma_in role d p)
some_in Plain d p q is = subst (λ (o : Option Request). IsSome (live_dma Plain d p o)) (sym is) refl
some_in (Record recording) d p q is = subst (λ (o : Option Request). IsSome (live_dma (Record (record recording { log = dma_log recording.log d p p.progress.request })) d p o)) (sym is) refl
some_in (Replay b) d p q is = refl

some_moved : (d : Devices) (p : Sphere) (q : Request) → p.progress.request ≡ Some q → IsSome (dma_moved d p)
unfolding dma_moved
some_moved d p q is = some_in p.role d p q is

pub dma-requires-clause-some : goal.dma-requires-clause-some
dma-requires-clause-some g c =
    some_moved c.in_ok-devices.devices c.args.sphere.now.sphere (record { buf = 256; len = 4 }) (search rules)
