use Rattle.std.proofs.Common.{[], ◌∷◌}
use Rattle.dl_words.specs.Commands.{playback_view as named}
use Rattle.spec_program.specs.Files.{log_at}
use Rattle.spec_program.specs.Operands.{playback_on}
use Rattle.dl_gather.specs.Halts.{Halts}
use Rattle.dl_gather.proofs.Stopping.{file_refused, halt_carried, unread_halts}
use Rattle.dl_gather.proofs.playbacks.read_beside.Goals as goal

pub returns-in_err-log-clause-halt : goal.returns-in_err-log-clause-halt
returns-in_err-log-clause-halt g c =
    let p = named c.args.playback.now in
    let program = c.args.program.now in
    let old = g.F.Files.seen c.args.files.now in
    let new = g.F.Files.seen c.read_log.new.files in
    let halt = c.in_err-log.field-0.0 in
    halt_carried c.from_residual.result halt (Halts (λ m. playback_on m p program) (λ m. p.log ∷ []) old new) c.from_residual.ensures.1
    (unread_halts (p.log ∷ []) (λ m. p.log ∷ []) (λ m. log_at m p.log) (λ m. playback_on m p program) old new halt
    (λ m x is. file_refused (log_at m p.log) _ x is) (λ m x is. is) (λ m x next. next) c.in_err-log.ensures.halt)
