use Rattle.std.proofs.Common.{[], ◌∷◌}
use Rattle.spec_program.specs.commands.Tail.{tail_at}
use Rattle.spec_program.specs.Files.{read_at}
use Rattle.dl_gather.specs.Halts.{Halts}
use Rattle.dl_gather.proofs.Stopping.{file_refused, halt_carried, unread_halts}
use Rattle.dl_gather.proofs.tails.read_good_tail.Goals as goal

pub returns-in_err-bytes-clause-halt : goal.returns-in_err-bytes-clause-halt
returns-in_err-bytes-clause-halt g c =
    let name = c.args.name.now in
    let old = g.F.Files.seen c.args.files.now in
    let new = g.F.Files.seen c.read_file.new.files in
    let halt = c.in_err-bytes.field-0.0 in
    halt_carried c.from_residual.result halt (Halts (λ m. tail_at m name) (λ m. name ∷ []) old new) c.from_residual.ensures.1
    (unread_halts (name ∷ []) (λ m. name ∷ []) (λ m. read_at m name) (λ m. tail_at m name) old new halt
    (λ m x is. file_refused (read_at m name) _ x is) (λ m x is. is) (λ m x next. next) c.in_err-bytes.ensures.halt)
