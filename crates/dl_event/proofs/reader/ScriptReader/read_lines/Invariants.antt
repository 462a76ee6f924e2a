use Rattle.std.proofs.Common.{◌≤◌, ◌+◌, ◌++◌, ℕ, List, length}
use Rattle.dl_event.specs.Reading.{IsReadTo, IsBehind}
use Rattle.dl_event.proofs.reader.ScriptReader.read_lines.Given as goal

-- what is left is a rest of the text, and whatever follows it, the script is read up to it
abbrev pub invariant-loop-event : goal.invariant-loop-event
invariant-loop-event l = record {
  read : (script tail : List ℕ) → IsReadTo script (l.text ++ tail) l.fn.self → IsReadTo script (l.left ++ tail) l.self;
  behind : IsBehind l.text l.left;
  lines : l.self.lines + length l.left ≤ l.fn.self.lines + length l.text;
}

abbrev pub decreases-loop-event : goal.decreases-loop-event
decreases-loop-event l = length l.left
