use Rattle.std.proofs.Common.{ℕ, List, [], ◌∷◌, sym, subst}
use Rattle.std.specs.Prelude.{string_bytes}
use Rattle.dl_plan.specs.declared.Schedule.{Schedule}
use Rattle.dl_plan.specs.Values.{schedule_view}
use Rattle.spec_program.specs.Files.{schedule_read, script_at}
use Rattle.dl_gather.specs.Halts.{Unread}
use Rattle.dl_gather.specs.Reads.{read_for_schedule}
use Rattle.dl_gather.proofs.Stopping.{err_then, halt_carried, unread_in}
use Rattle.dl_gather.proofs.gathering.read_schedule.Goals as goal

pub returns-in_err-script-in-Script-clause-halt : goal.returns-in_err-script-in-Script-clause-halt
returns-in_err-script-in-Script-clause-halt g c =
    let old = g.F.Files.seen c.args.files.now in
    let new = g.F.Files.seen c.read_script.new.files in
    let halt = c.in_err-script-in-Script.field-0.0 in
    let script = string_bytes c.in-Script.name in
    let schedule = schedule_view (Schedule.Script c.in-Script.name) in
    let whole : Schedule → Type 0 = λ s. Unread (read_for_schedule (schedule_view s)) (λ m. schedule_read m (schedule_view s)) old new halt in
    halt_carried c.from_residual.result halt (Unread (read_for_schedule (schedule_view c.args.schedule.now)) (λ m. schedule_read m (schedule_view c.args.schedule.now)) old new) c.from_residual.ensures.1
    (subst whole (sym c.in-Script.is)
    (unread_in old new (script ∷ []) (read_for_schedule schedule) (λ m. script_at m script) (λ m. schedule_read m schedule) halt
    (record { absent = λ m e name x. err_then (script_at m script) _ name x; named = λ name is. is; next = λ m e name n. n })
    (subst (λ (n : List ℕ). Unread (n ∷ []) (λ m. script_at m n) old new halt) c.as_str.ensures.value c.in_err-script-in-Script.ensures.halt)))
