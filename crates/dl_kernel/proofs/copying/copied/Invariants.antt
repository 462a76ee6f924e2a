use Rattle.std.proofs.Common.{◌≡◌, ◌≤◌, ◌+◌, ◌/◌, drop, [], length}
use Rattle.spec_kernel.specs.Copies.{bytes_put}
use Rattle.dl_kernel.proofs.Spans.{IsCopying}
use Rattle.dl_kernel.proofs.copying.copied.Given as goal

abbrev pub invariant-loop-i : goal.invariant-loop-i
invariant-loop-i l =
    record {
      put : bytes_put l.words.words (l.addr + l.i) (drop l.i l.bytes) ≡ bytes_put [] l.addr l.bytes;
      copying : IsCopying l.addr l.i l.words.words;
      capacity : (l.addr + length l.bytes + 3) / 4 ≤ l.words.capacity + l.addr / 4;
    }
