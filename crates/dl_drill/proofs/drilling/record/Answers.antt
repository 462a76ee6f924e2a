use Rattle.std.proofs.Common.{◌∙◌, ℕ, ◌≤◌, ◌^◌, sym, subst, arith}
use Rattle.std.proofs.lemmas.Result.{IfOk-weaker}
use Rattle.dl_event.specs.Seeded.{seeded}
use Rattle.dl_run.proofs.Drawn.{schedule_length}
use Rattle.dl_drill.proofs.drilling.record.Goals as goal

pub new-requires-clause-few : goal.new-requires-clause-few
new-requires-clause-few c =
    let few : 20000 ≤ 2 ^ 24 = omega arith in
    subst (λ (n : ℕ). n ≤ 2 ^ 24) (sym (schedule_length 20000 (seeded c.from.result))) few

pub returns-clause-setup : goal.returns-clause-setup
returns-clause-setup c = IfOk-weaker c.new.result _ _ (λ run e. e ∙ c.in_ok-setup.ensures.value) c.new.ensures.setup
