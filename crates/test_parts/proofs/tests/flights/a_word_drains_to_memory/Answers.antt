use Rattle.std.proofs.Common.{length}
use Rattle.test_parts.proofs.tests.flights.a_word_drains_to_memory.Goals as goal

pub drain-requires-clause-inside : goal.drain-requires-clause-inside
drain-requires-clause-inside g c =
    rw c.in_ok-flights.ensures (c.in_ok-storing.ensures.inside (length c.in_ok-mem.mem) (rw c.mem.view_is at c.mem.invariant.memory.size.least))
