use Rattle.std.proofs.Common.{◌∙◌}
use Rattle.std.proofs.lemmas.Result.{on_ok_weaker}
use Rattle.dl_tail.proofs.PutLaws.{four-parts}
use Rattle.dl_tail.proofs.writing.put_header.Goals as goal

pub returns : goal.returns
returns c =
    on_ok_weaker c.put_rest.result
    (λ h. h ∙ rw (c.in_ok-put_u32.ensures, c.in_ok-put_u16.ensures, c.in_ok-extend_from_slice.ensures.items, c.len.ensures) (four-parts c.args.out.now.items _ _ _ _))
    c.put_rest.ensures
