use Rattle.std.proofs.Common.{◌≡◌, ℕ, take}
use Rattle.spec_tail.specs.Later as tail
use Rattle.dl_tail.proofs.later.dmas_later.Given as goal

-- what stays of those so far
abbrev pub invariant-loop-dma : goal.invariant-loop-dma
invariant-loop-dma l = (count : ℕ) → l.later ≡ tail.dmas_later l.base count (take l.dma-index l.dmas)
