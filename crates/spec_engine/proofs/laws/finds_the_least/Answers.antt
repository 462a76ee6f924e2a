use Rattle.spec_engine.proofs.Searches.{first_none, first_some, first_least}
use Rattle.spec_engine.proofs.laws.finds_the_least.Goals as goal

pub returns : goal.returns
returns c = record { none = first_none; some = first_some; least = first_least }
