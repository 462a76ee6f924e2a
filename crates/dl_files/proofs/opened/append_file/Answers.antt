use Rattle.std.proofs.Common.{[]}
use Rattle.dl_files.specs.Contents.{more}
use Rattle.dl_files.proofs.Telling.{made_spoils, added_keeps}
use Rattle.dl_files.proofs.opened.append_file.Goals as goal

pub returns-clause-refused : goal.returns-clause-refused
returns-clause-refused g c =
    let name = c.args.name.now in
    made_spoils c.write_whole.result (more name []) name _ (added_keeps name) _ _ _ c.in_ok-file.ensures.named c.in_ok-file.ensures.added c.write_whole.ensures.refused
