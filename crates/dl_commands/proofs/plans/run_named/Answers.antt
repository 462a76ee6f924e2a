use Rattle.std.proofs.Common.{◌≡◌, ℕ, List, [], ◌∷◌, Some, Ok, ap, sym, ◌∙◌, subst}
use Rattle.std.proofs.lemmas.Result.{IfOk-weaker, IfErr-weaker}
use Rattle.dl_files.specs.Contents.{Contents}
use Rattle.dl_files.specs.Seen.{Seen}
use Rattle.dl_plan.specs.Files.{input_names}
use Rattle.dl_plan.specs.Values.{plan_view}
use Rattle.spec_program.specs.commands.Run.{inputs_of, reads}
use Rattle.spec_program.specs.Ends.{IsReadNext}
use Rattle.spec_program.specs.Tasks.{plan_at, task_named, task_planned}
use Rattle.spec_program.proofs.Turns.{next_behind}
use Rattle.dl_gather.specs.Halts.{Halts}
use Rattle.dl_gather.proofs.Names.{named_behind}
use Rattle.dl_gather.proofs.Stopping.{err_then, halt_carried, halts_in, ok_then, plan_there}
use Rattle.dl_commands.proofs.plans.run_named.Goals as goal

pub returns-in_err-plan-clause-halt : goal.returns-in_err-plan-clause-halt
returns-in_err-plan-clause-halt g c =
    let name = c.args.name.now in
    let old = g.F.Files.seen c.args.files.now in
    let new = g.F.Files.seen c.load_plan.new.files in
    let halt = c.in_err-plan.field-0.0 in
    halt_carried c.from_residual.result halt (Halts (λ m. task_named m name) (λ m. reads m name) old new) c.from_residual.ensures.1
    (halts_in (λ m. reads m name) (λ m. reads m name) (λ m. plan_at m name) (λ m. task_named m name) old new halt
    (λ m e r is. err_then (plan_at m name) _ r is) (λ x is. is) (λ m e x next. next) c.in_err-plan.ensures.halt)

pub returns-clause-halt : goal.returns-clause-halt
returns-clause-halt g c =
    let name = c.args.name.now in
    let p = plan_view c.in_ok-plan.plan in
    let old = g.F.Files.seen c.args.files.now in
    let new = g.F.Files.seen c.run_loaded.new.files in
    let planned : (m : Contents) → old.known ≡ Some m → plan_at m name ≡ Ok p = c.in_ok-plan.ensures.plan in
    IfErr-weaker c.run_loaded.result _ _
    (λ halt halts.
    halts_in (λ m. input_names p) (λ m. reads m name) (λ m. task_planned m p) (λ m. task_named m name) old new halt
    (λ m e r is. ok_then (plan_at m name) _ p (planned m e) ∙ is)
    (λ x is. named_behind old.known name p x c.in_ok-plan.ensures.read is)
    (λ m e x next. next_behind m (name ∷ []) (inputs_of (plan_at m name)) x (plan_there m name p (planned m e), tt) (subst (λ (ns : List (List ℕ)). IsReadNext ns m x) (sym (ap inputs_of (planned m e))) next))
    (subst (λ (s : Seen). Halts (λ m. task_planned m p) (λ m. input_names p) s new halt) c.in_ok-plan.ensures.same halts))
    c.run_loaded.ensures.halt

pub returns-clause-may : goal.returns-clause-may
returns-clause-may g c =
    IfOk-weaker c.run_loaded.result _ _ (λ job is. (plan_view c.in_ok-plan.plan, c.in_ok-plan.ensures.read, is)) c.run_loaded.ensures.may
