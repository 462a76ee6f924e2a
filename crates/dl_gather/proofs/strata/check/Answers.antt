use Rattle.std.proofs.Common.{Err, inr, rules, sym, ap, ◌∙◌, subst}
use Rattle.dl_strata.specs.declared.checking.CheckError.{CheckError}
use Rattle.dl_strata.specs.Checking.{IsChecked}
use Rattle.spec_strata.specs.Checking.{Parallel, Conflict, Unfit}
use Rattle.spec_program.specs.declared.status.Refusal.{Refusal}
use Rattle.spec_program.specs.Built.{role_in_strata}
use Rattle.dl_gather.proofs.Checked.{answered}
use Rattle.dl_gather.proofs.strata.check.Goals as goal

pub returns-in-Ok-clause-parallel : goal.returns-in-Ok-clause-parallel
returns-in-Ok-clause-parallel c =
    answered c.args.strata.now c.args.image.now.bytes c.args.image.now.entry Parallel c.in-Ok.ensures

pub returns-in_ok-bad_strata_line-in-Err-Conflict-clause-halt :
    goal.returns-in_ok-bad_strata_line-in-Err-Conflict-clause-halt
returns-in_ok-bad_strata_line-in-Err-Conflict-clause-halt c =
    let v = c.args.strata.now in
    let image = c.args.image.now in
    let commit = c.in-Err-Conflict.commit in
    let line = c.in_ok-bad_strata_line-in-Err-Conflict.ensures in
    let found = answered v image.bytes image.entry (Conflict commit)
    (subst (λ (x : CheckError). IsChecked v image.bytes image.entry (Err x)) c.in-Err-Conflict.field-0-is c.in-Err-Conflict.ensures)
    in (
      ap (role_in_strata c.args.sphere v) found ∙ (λ k. Err (record { why = Refusal.Grammar; line = sym line k })),
      search rules,
      search rules,
      inr (inr (c.args.sphere, 8, commit, line)),
    )

pub returns-in_ok-bad_strata_line-in-Err-Unfit-clause-halt :
    goal.returns-in_ok-bad_strata_line-in-Err-Unfit-clause-halt
returns-in_ok-bad_strata_line-in-Err-Unfit-clause-halt c =
    let v = c.args.strata.now in
    let image = c.args.image.now in
    let commit = c.in-Err-Unfit.commit in
    let line = c.in_ok-bad_strata_line-in-Err-Unfit.ensures in
    let found = answered v image.bytes image.entry (Unfit commit)
    (subst (λ (x : CheckError). IsChecked v image.bytes image.entry (Err x)) c.in-Err-Unfit.field-0-is c.in-Err-Unfit.ensures)
    in (
      ap (role_in_strata c.args.sphere v) found ∙ (λ k. Err (record { why = Refusal.Grammar; line = sym line k })),
      search rules,
      search rules,
      inr (inr (c.args.sphere, 9, commit, line)),
    )
