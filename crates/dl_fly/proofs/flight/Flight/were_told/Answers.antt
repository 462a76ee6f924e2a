use Rattle.std.proofs.Common.{sym, ◌∙◌}
use Rattle.std.proofs.lemmas.Bool.{false_from_ne_true, true≢false}
use Rattle.spec_engine.specs.Flights.{all_told}
use Rattle.spec_engine.proofs.Searches.{all_told-at}
use Rattle.dl_fly.proofs.flight.Flight.were_told.Goals as goal

pub returns-then-not-was_told : goal.returns-then-not-was_told
returns-then-not-was_told g c =
    let told = c.args.self.now.told in
    sym (false_from_ne_true (all_told c.args.cores told)
    (λ all. true≢false (sym (all_told-at c.args.cores told c.loop-core.core all c.loop-core-test.true) ∙ sym c.if-not-was_told.ensures)))
