use Rattle.std.proofs.Common.{◌≡◌, ◌≤◌, None, replicate, vec_len, vec_capacity}
use Rattle.dl_fly.proofs.flights.Flights.new.Given as goal

abbrev pub invariant-loop : goal.invariant-loop
invariant-loop g l = record {
  items : l.slots.items ≡ replicate l.counter None;
  len : vec_len l.slots ≡ l.counter;
  room : l.fn.window ≤ vec_capacity l.slots;
}
