use Rattle.std.proofs.Common.{decimal, refl, sym, arith, append-nil}
use Rattle.dl_account.proofs.Digits.{begun, one_more, ended}
use Rattle.dl_account.proofs.text.Text.put_number.Goals as goal

pub loop-rest-init : goal.loop-rest-init
loop-rest-init c = begun _ _ refl (omega arith) (sym (append-nil (decimal c.args.n)))

pub overflow_sub-start : goal.overflow_sub-start
overflow_sub-start c = omega (arith, c.loop-rest.invariant.low)

pub loop-rest-preserved : goal.loop-rest-preserved
loop-rest-preserved c = one_more _ _ _ _ c.loop-rest.invariant c.loop-rest-test.true

pub returns-clause-ok : goal.returns-clause-ok
returns-clause-ok c = rw (← ended _ _ _ _ c.loop-rest.invariant c.loop-rest-test.false) c.put.ensures.ok
