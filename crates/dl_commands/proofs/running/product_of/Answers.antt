use Rattle.std.proofs.Common.{List, IfOk, sym, subst}
use Rattle.dl_plan.specs.declared.Product.{Product}
use Rattle.dl_run.specs.Ran.{IsOver}
use Rattle.spec_protocol.specs.declared.event.Event.{Event}
use Rattle.spec_program.specs.Accepted.{IsReadAgain}
use Rattle.dl_commands.proofs.running.product_of.Goals as goal

pub returns-in-Log-clause-tail : goal.returns-in-Log-clause-tail
returns-in-Log-clause-tail c =
    subst (λ (p : Product). IfOk c.log_of.result (λ content. (es : List Event) → IsOver es c.args.run.now → IsReadAgain c.args.run.now.setup es p)) (sym c.in-Log.is) c.log_of.ensures.tail
