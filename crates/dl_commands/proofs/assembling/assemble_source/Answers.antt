use Rattle.std.proofs.Common.{[], ◌∷◌}
use Rattle.spec_program.specs.Files.{read_at}
use Rattle.spec_program.specs.commands.Asm.{outcome, reads}
use Rattle.dl_gather.specs.Halts.{Halts}
use Rattle.dl_gather.proofs.Stopping.{file_refused, halt_carried, unread_halts}
use Rattle.std.proofs.lemmas.Result.{IfOk-weaker}
use Rattle.dl_commands.proofs.assembling.assemble_source.Goals as goal

pub returns-in_err-bytes-clause-halt : goal.returns-in_err-bytes-clause-halt
returns-in_err-bytes-clause-halt g c =
    let source = c.args.source.now in
    let name = c.args.name.now in
    let old = g.F.Files.seen c.args.files.now in
    let new = g.F.Files.seen c.read_file.new.files in
    let halt = c.in_err-bytes.field-0.0 in
    halt_carried c.from_residual.result halt (Halts (λ m. outcome m source name) (λ m. reads source) old new) c.from_residual.ensures.1
    (unread_halts (source ∷ []) (λ m. reads source) (λ m. read_at m source) (λ m. outcome m source name) old new halt
    (λ m x is. file_refused (read_at m source) _ x is) (λ m x is. is) (λ m x next. next) c.in_err-bytes.ensures.halt)

pub returns-clause-may : goal.returns-clause-may
returns-clause-may g c = IfOk-weaker c.assemble_bytes.result _ _ (λ job is. (c.deref.result.now, is)) c.assemble_bytes.ensures.job
