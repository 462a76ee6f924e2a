use Rattle.std.proofs.Common.{rules, ◌<◌}
use Rattle.std.proofs.lemmas.List.Elements.{All-from_get_or}
use Rattle.dl_strata.proofs.StrataLaws.{strata-good}
use Rattle.dl_strata.proofs.reading.read_strata.Goals as goal

pub new-requires : goal.new-requires
new-requires c =
    strata-good c.args.bytes.now c.strata_of.result (All-from_get_or (λ byte. byte < 256) c.args.bytes.now 0 (λ i h. (c.type_inv.bytes i).fits)) (search rules)
