-- The places of the words left count on.
use Rattle.std.proofs.Common.{arith}
use Rattle.dl_wbuf.proofs.Positions.{IsPlaced-drained}
use Rattle.dl_wbuf.proofs.Puts.{IsBuffer-drained}
use Rattle.dl_wbuf.proofs.buffer.Buffer.drain_next.Goals as goal

pub invariant_of-self-else-is_empty : goal.invariant_of-self-else-is_empty
invariant_of-self-else-is_empty c =
    let kept = c.self.invariant.0 in
    let ws = c.self.inside.words.items in
    let out = c.in_ok-first.ensures.items in (
      IsBuffer-drained _ _ _ ws _ _ out c.in_ok-first.ensures.capacity kept,
      IsPlaced-drained _ _ _ _ ws _ _ out kept.apart c.self.invariant.1 (omega arith) c.if-self.false,
    )
