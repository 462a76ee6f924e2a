use Rattle.std.proofs.Common.{◌≡◌, ◌++◌, map, take, drop}
use Rattle.spec_tail.specs.Playing.{uncounted}
use Rattle.dl_serial.proofs.raising.uncounted.Given as goal

-- the first thread, and those of the others so far
abbrev pub invariant-loop-parts : goal.invariant-loop-parts
invariant-loop-parts l = (l.others ≡ drop 1 l.threads) × (l.row ≡ map uncounted (take 1 l.threads ++ take l.parts-index l.others))
