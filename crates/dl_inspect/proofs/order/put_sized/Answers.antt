use Rattle.std.proofs.Common.{◌∙◌, ◌++◌, List, ap, arith}
use Rattle.dl_account.specs.Lines.{numbered}
use Rattle.dl_inspect.specs.Inspection.{sized_line}
use Rattle.dl_inspect.proofs.Sized.{sized_all, sized_more}
use Rattle.dl_inspect.proofs.order.put_sized.Goals as goal

pub loop-position-preserved : goal.loop-position-preserved
loop-position-preserved c =
    rw (c.in_ok-put_sized_entry.ensures, c.loop-position.invariant) (sized_more _ c.args.order.now c.args.sizes.now c.loop-position.position _ _ c.requires c.loop-position-test.true)

pub returns : goal.returns
returns c =
    let end = sized_all c.args.order.now c.args.sizes.now c.loop-position.position (omega arith) in
    c.loop-position.invariant ∙ ap (λ (commits : List _). c.args.text.now ++ numbered sized_line 0 commits) end
