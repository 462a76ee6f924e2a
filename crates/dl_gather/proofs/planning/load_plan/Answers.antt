use Rattle.std.proofs.Common.{◌≡◌, ℕ, List, [], ◌∷◌, Ok, subst}
use Rattle.std.proofs.lemmas.List.Elements.{Contains-append_left}
use Rattle.spec_program.specs.commands.Run.{inputs_of, reads}
use Rattle.spec_program.specs.Files.{read_at}
use Rattle.spec_program.specs.Tasks.{plan_at}
use Rattle.spec_program.proofs.Turns.{next_before}
use Rattle.dl_gather.specs.Halts.{Halts}
use Rattle.dl_gather.proofs.Stopping.{file_refused, halt_carried, unread_halts}
use Rattle.dl_gather.proofs.Names.{may_plan}
use Rattle.dl_plan.specs.Plans.{plan_of}
use Rattle.dl_plan.specs.Values.{plan_view}
use Rattle.dl_gather.proofs.planning.load_plan.Goals as goal

pub returns-in_err-bytes-clause-halt : goal.returns-in_err-bytes-clause-halt
returns-in_err-bytes-clause-halt g c =
    let name = c.args.name.now in
    let old = g.F.Files.seen c.args.files.now in
    let new = g.F.Files.seen c.read_file.new.files in
    let halt = c.in_err-bytes.field-0.0 in
    halt_carried c.from_residual.result halt (Halts (λ m. plan_at m name) (λ m. reads m name) old new) c.from_residual.ensures.1
    (unread_halts (name ∷ []) (λ m. reads m name) (λ m. read_at m name) (λ m. plan_at m name) old new halt
    (λ m x is. file_refused (read_at m name) _ x is)
    (λ m x is. Contains-append_left (name ∷ []) (inputs_of (plan_at m name)) x is)
    (λ m x next. next_before m (name ∷ []) (inputs_of (plan_at m name)) x next)
    c.in_err-bytes.ensures.halt)

pub returns-in-Ok-clause-read : goal.returns-in-Ok-clause-read
returns-in-Ok-clause-read g c =
    let name = c.args.name.now in
    let bytes = c.in_ok-bytes.bytes.items in
    let p = plan_view c.in-Ok.plan in
    let planned : plan_of name bytes ≡ Ok p = subst (λ (b : List ℕ). plan_of name b ≡ Ok p) c.deref.ensures.value c.in-Ok.ensures.ok in
    may_plan (g.F.Files.seen c.args.files.now).known name bytes p c.in_ok-bytes.ensures.bytes planned
