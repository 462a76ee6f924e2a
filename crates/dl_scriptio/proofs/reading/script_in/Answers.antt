use Rattle.std.proofs.Common.{◌≡◌}
use Rattle.std.proofs.lemmas.Result.{IfOk-weaker}
use Rattle.dl_event.specs.Script.{script_of}
use Rattle.dl_scriptio.specs.Files.{read_view}
use Rattle.dl_scriptio.proofs.Pieces.{read_as}
use Rattle.dl_scriptio.proofs.reading.script_in.Goals as goal

pub returns-clause-read : goal.returns-clause-read
returns-clause-read c =
    let meant = script_of c.args.bytes.now in
    IfOk-weaker c.said.result _ (λ r. meant ≡ read_view r)
    (λ r e. e meant (read_as meant c.parse_script.result c.parse_script.ensures.read c.parse_script.ensures.refused))
    c.said.ensures.read
