use Rattle.std.proofs.Common.{◌∙◌, string_bytes, rules, tests}
use Rattle.std.proofs.lemmas.Iterator.Search.{all_from_yields_List}
use Rattle.std.proofs.lemmas.Iterator.Consumers.{YieldsList-from_rest}
use Rattle.dl_plan.proofs.Documents.{has_only-keys}
use Rattle.dl_plan.specs.Names.{is_one_of}
use Rattle.dl_plan.specs.Views.{texts}
use Rattle.dl_plan.proofs.keys.has_only.Goals as goal

pub returns : goal.returns
returns c =
    all_from_yields_List (λ k. is_one_of (texts c.args.keys.now) (string_bytes k)) _ _ _ c.all.ensures.ran (YieldsList-from_rest _ c.keys.ensures.rest) (λ x b q k. search (rules, tests))
    ∙ has_only-keys (texts c.args.keys.now) c.args.table.now.entries
