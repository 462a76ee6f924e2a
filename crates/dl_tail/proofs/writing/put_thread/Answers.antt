use Rattle.std.proofs.Common.{◌∙◌}
use Rattle.std.proofs.lemmas.Result.{on_ok_weaker}
use Rattle.dl_tail.proofs.PutLaws.{three-parts}
use Rattle.dl_tail.proofs.writing.put_thread.Goals as goal

pub returns : goal.returns
returns c =
    on_ok_weaker c.put_registers.result
    (λ h. h ∙ rw (c.in_ok-put_fields.ensures, c.in_ok-put_status.ensures) (three-parts c.args.out.now.items _ _ _))
    c.put_registers.ensures
