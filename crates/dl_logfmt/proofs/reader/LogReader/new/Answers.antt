use Rattle.std.proofs.Common.{◌<◌, []}
use Rattle.std.proofs.lemmas.List.Elements.{All-nil}
use Rattle.dl_logfmt.proofs.Feeding.Pieces.{holds-nothing}
use Rattle.dl_logfmt.proofs.reader.LogReader.new.Goals as goal

pub invariant_of-result : goal.invariant_of-result
invariant_of-result c = ([], All-nil (λ byte. byte < 256), holds-nothing _ _ c.new.ensures c.new-2.ensures.items)

pub returns : goal.returns
returns c = holds-nothing _ _ c.new.ensures c.new-2.ensures.items
