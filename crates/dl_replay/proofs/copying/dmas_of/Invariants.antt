use Rattle.std.proofs.Common.{◌≡◌, take}
use Rattle.dl_replay.proofs.copying.dmas_of.Given as goal

abbrev pub invariant-loop-dma : goal.invariant-loop-dma
invariant-loop-dma l = l.dmas.dmas ≡ take l.dma-index l.list
