use Rattle.std.proofs.Common.{◌≡◌, take}
use Rattle.dl_input.proofs.dmas.Dmas.list.Given as goal

abbrev pub invariant-loop-dma : goal.invariant-loop-dma
invariant-loop-dma l = l.list ≡ take l.dma-index l.self.dmas
