use Rattle.std.proofs.Common.{◌∙◌, ap, sym}
use Rattle.spec_play.specs.Progress.{position}
use Rattle.spec_sphere.specs.sphere.Spheres.{Sphere}
use Rattle.spec_protocol.specs.machine.World.{sphere_at}
use Rattle.dl_sphere.specs.Reading.{end_in}
use Rattle.dl_entry.specs.declared.End.{End}
use Rattle.dl_run.proofs.Over.{at_end, end-none, end-some, live-end}
use Rattle.dl_run.proofs.run.Run.end.Goals as goal

pub returns-in-Some : goal.returns-in-Some
returns-in-Some c =
    let p = sphere_at c.args.self.now.world c.args.sphere in
    end-some p.role (position p.progress) c.in-Some.end
    (ap (λ (q : Sphere). end_in q.role) (sym c.sphere.ensures.value) ∙ sym c.end.ensures ∙ c.in-Some.is)

pub returns-in-None : goal.returns-in-None
returns-in-None c =
    let over = c.sphere.ensures.over in
    let p = sphere_at c.args.self.now.world c.args.sphere in
    let live = end-none p.role (at_end over.0 c.args.self.now c.args.sphere over.1 c.requires)
    (ap (λ (q : Sphere). end_in q.role) (sym c.sphere.ensures.value) ∙ sym c.end.ensures ∙ c.in-None.is) in
    ap End.Complete c.commits.ensures ∙ sym (live-end p.role (position p.progress) live)
