use Rattle.std.proofs.Common.{◌≡◌, take}
use Rattle.dl_logfmt.proofs.copying.copy_dmas.Given as goal

-- those so far are copied
abbrev pub invariant-loop-dma : goal.invariant-loop-dma
invariant-loop-dma l = l.copy ≡ take l.dma-index l.dmas
