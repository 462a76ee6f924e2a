use Rattle.std.proofs.Common.{◌≡◌, ◌-◌, ◌++◌, false, length, map, take, replicate}
use Rattle.spec_kernel.specs.Interrupts.{is_live}
use Rattle.dl_kernel.proofs.threads.live_of.Given as goal

abbrev pub invariant-loop-number : goal.invariant-loop-number
invariant-loop-number l = record {
  places : length l.live ≡ 63;
  row : l.live ≡ map is_live (take l.number l.threads) ++ replicate (63 - l.number) false;
  first : take l.number l.live ≡ map is_live (take l.number l.threads);
}
