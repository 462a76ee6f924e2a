use Rattle.std.proofs.Common.{◌≡◌, ◌-◌, drop, IfOk, ap, ◌∙◌, subst}
use Rattle.spec_play.specs.States.{State, state_after, walked_from}
use Rattle.spec_interval.specs.Slices.{Slice, slice_of}
use Rattle.spec_interval.proofs.Slicing.{slices_resume}
use Rattle.dl_kernel.specs.States.{state_in}
use Rattle.dl_serial.specs.Walked.{walked_in}
use Rattle.dl_trail.specs.Trails.{Trail, slice_in}
use Rattle.dl_trail.proofs.trail.Trail.slice.Goals as goal

pub returns : goal.returns
returns c =
    let t = c.args.self.now in
    let i = c.args.i in
    let start = c.start-start.result.now in
    let from : State = state_after t.log t.memory t.entry start.commits in
    let log : c.self.inside.log ≡ t.log = ap (λ (v : Trail). v.log) c.self.view_is in
    let state : state_in c.in_ok-resumed.field-0 ≡ from = ap state_in c.in_ok-resumed.ensures ∙ c.start-start.ensures.state in
    let walked : walked_in c.in_ok-walked.walked ≡ walked_from t.log from c.args.j =
    c.in_ok-walked.ensures.walked ∙ (λ x. walked_from (log x) (state x) c.args.j)
    in
    let number : start.commits ≡ from.commits = ap (λ (s : State). s.commits) c.start-start.ensures.state in
    let same = (λ x. slice_of i (drop (i - number x) (walked x).commits) (walked x)) ∙ slices_resume t.log t.memory t.entry start.commits i c.args.j c.start-start.ensures.done c.start-start.ensures.before c.requires in
    subst (λ (s : Slice). IfOk c.text_of.result (λ text. slice_in text ≡ s)) same c.text_of.ensures
