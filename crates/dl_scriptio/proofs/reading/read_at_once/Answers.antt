use Rattle.std.proofs.Common.{sym, ap, ◌∙◌}
use Rattle.std.proofs.lemmas.Result.{IfOk-weaker}
use Rattle.dl_event.specs.Script.{script_of}
use Rattle.dl_scriptio.specs.Files.{SaysScript, read_view}
use Rattle.dl_scriptio.proofs.Pieces.{says_held}
use Rattle.dl_scriptio.proofs.reading.read_at_once.Goals as goal

pub returns-clause-read : goal.returns-clause-read
returns-clause-read g c =
    let known = (g.F.Files.seen c.args.files.now).known in
    IfOk-weaker c.script_in.result _ (λ r. SaysScript known c.args.name.now (read_view r))
    (λ r e. says_held known c.args.name.now c.in_ok-bytes.bytes.items (read_view r) c.in_ok-bytes.ensures.bytes (ap script_of (sym c.deref.ensures.value) ∙ e))
    c.script_in.ensures.read
