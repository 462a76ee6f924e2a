use Rattle.std.proofs.Common.{◌∙◌, ◌<◌, ◌+◌, ◌++◌, ap, sym, arith, length, drop, List}
use Rattle.std.proofs.lemmas.List.{append-nil, length-map}
use Rattle.dl_entry.specs.declared.SphereLine.{SphereLine}
use Rattle.spec_sphere.specs.sphere.Setups.{SphereSetup}
use Rattle.spec_run.specs.Runs.{executed}
use Rattle.spec_run.specs.Texts.{lines_from}
use Rattle.dl_sphere.specs.Setups.{setup_of}
use Rattle.dl_run.specs.Ran.{Ran}
use Rattle.dl_run.proofs.Over.{lines-after, none-left}
use Rattle.dl_run.proofs.run.Run.lines.Goals as goal

pub loop-sphere-preserved : goal.loop-sphere-preserved
loop-sphere-preserved c es over =
    let r = c.args.self.now in
    let i = c.loop-sphere.sphere in
    let seen = ap (λ (x : Ran). length x.setup.spheres) c.self.view_is in
    let all = length-map c.self.inside.setup.spheres setup_of in
    let len = c.len-sphere-end.ensures in
    let below = c.loop-sphere-test.true in
    let inside : i < length r.setup.spheres = omega (arith, seen, all, len, below) in
    ap (λ (ls : List SphereLine). ls ++ lines_from (executed r.setup es) (i + 1) (drop (i + 1) r.setup.spheres)) c.in_ok-push.ensures.items
    ∙ lines-after (executed r.setup es) r.setup.spheres i c.loop-sphere.lines.items c.line.result inside (c.line.ensures es over)
    ∙ c.loop-sphere.invariant es over

pub returns : goal.returns
returns c es over =
    let r = c.args.self.now in
    let i = c.loop-sphere.sphere in
    let seen = ap (λ (x : Ran). length x.setup.spheres) c.self.view_is in
    let all = length-map c.self.inside.setup.spheres setup_of in
    let len = c.len-sphere-end.ensures in
    let past = c.loop-sphere-test.false in
    let none = none-left r.setup.spheres i (omega (arith, seen, all, len, past)) in
    sym (append-nil c.loop-sphere.lines.items)
    ∙ ap (λ (xs : List SphereSetup). c.loop-sphere.lines.items ++ lines_from (executed r.setup es) i xs) (sym none)
    ∙ c.loop-sphere.invariant es over
