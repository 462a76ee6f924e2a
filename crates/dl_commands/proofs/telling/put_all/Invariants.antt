use Rattle.std.proofs.Common.{length, ◌-◌, ◌≡◌, ◌≤◌}
use Rattle.dl_files.specs.Taken.{with_taken}
use Rattle.dl_commands.proofs.telling.put_all.Given as goal

abbrev pub invariant-loop-done : goal.invariant-loop-done
invariant-loop-done g l = record {
  within : l.done ≤ length l.text;
  taken : g.O.Sink.taken l.out ≡ with_taken l.done l.text (g.O.Sink.taken l.fn.out);
  steady : g.O.Sink.count l.out ≡ g.O.Sink.count l.fn.out;
}

abbrev pub decreases-loop-done : goal.decreases-loop-done
decreases-loop-done g l = length l.text - l.done
