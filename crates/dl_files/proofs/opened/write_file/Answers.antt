use Rattle.std.proofs.Common.{[]}
use Rattle.std.specs.FinMap.{insert}
use Rattle.dl_files.proofs.Telling.{made_spoils, created_keeps}
use Rattle.dl_files.proofs.opened.write_file.Goals as goal

pub returns-clause-refused : goal.returns-clause-refused
returns-clause-refused g c =
    let name = c.args.name.now in
    made_spoils c.write_whole.result (λ m. insert m name []) name _ (created_keeps name) _ _ _ c.in_ok-file.ensures.named c.in_ok-file.ensures.created c.write_whole.ensures.refused
