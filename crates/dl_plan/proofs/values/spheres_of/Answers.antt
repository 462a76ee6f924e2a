use Rattle.std.proofs.Common.{◌++◌, List, [], ◌∷◌, map}
use Rattle.dl_plan.specs.declared.plan.Sphere.{Sphere}
use Rattle.dl_plan.specs.Plans.{sphere_asked}
use Rattle.dl_plan.specs.Values.{AreMemories, IsMemory, AreRoles, IsRole, role_view, sphere_view}
use Rattle.dl_plan.specs.Views.{entry_view}
use Rattle.dl_plan.proofs.Each.{next_after}
use Rattle.dl_plan.proofs.values.spheres_of.Goals as goal

memories_push : (done : List Sphere) (sphere : Sphere) → AreMemories (map sphere_view done) → IsMemory sphere.memory → AreMemories (map sphere_view (done ++ (sphere ∷ [])))
memories_push [] sphere all one = (one, tt)
memories_push (s ∷ done) sphere all one = (all.0, memories_push done sphere all.1 one)

roles_push : (done : List Sphere) (sphere : Sphere) → AreRoles (map sphere_view done) → IsRole (role_view sphere.role) → AreRoles (map sphere_view (done ++ (sphere ∷ [])))
roles_push [] sphere all one = (one, tt)
roles_push (s ∷ done) sphere all one = (all.0, roles_push done sphere all.1 one)

pub loop-entry-preserved : goal.loop-entry-preserved
loop-entry-preserved c = (
  next_after sphere_asked entry_view sphere_view c.args.entries.now c.loop-entry.entry-index _ c.in-Ok.sphere c.loop-entry.spheres.items c.push.new.self.items c.loop-entry-test.true
      c.in-Ok.ensures.ok c.in-Ok-push.ensures.items c.loop-entry.invariant.0,
  rw c.in-Ok-push.ensures.items (memories_push c.loop-entry.spheres.items c.in-Ok.sphere c.loop-entry.invariant.1 c.in-Ok.ensures.memory),
  rw c.in-Ok-push.ensures.items (roles_push c.loop-entry.spheres.items c.in-Ok.sphere c.loop-entry.invariant.2 c.in-Ok.ensures.role),
)
