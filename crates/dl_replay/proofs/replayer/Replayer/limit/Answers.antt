use Rattle.std.proofs.Common.{◌≡◌, ◌+◌, ◌≤◌, Bool, sym, subst, arith}
use Rattle.spec_sphere.specs.sphere.Spheres.{Replay}
use Rattle.dl_replay.specs.Limits.{chunk_limit}
use Rattle.dl_replay.specs.Following.{Following, cursor_of}
use Rattle.dl_replay.proofs.Limits.{after-is, limit-few, limit-is}
use Rattle.dl_replay.proofs.replayer.Replayer.limit.Goals as goal

pub returns-clause-of_thread : goal.returns-clause-of_thread
returns-clause-of_thread g c s used loads t is =
    subst (λ (after : Bool). c.max-2.result ≡ chunk_limit after s (Replay (cursor_of c.args.self.now used loads)) c.args.thread t) (sym c.if-after.false)
    (limit-is c.args.self.now used loads s c.args.thread t c.args.commits c.limit-whole.result c.pieces_of.result c.saturating_sub.result c.max-2.result
    is (rw (← c.self.view_is) c.limit-whole.ensures) c.pieces_of.ensures c.saturating_sub.ensures c.max-2.ensures)

pub returns-then-after-clause-of_thread : goal.returns-then-after-clause-of_thread
returns-then-after-clause-of_thread g c s used loads t is =
    subst (λ (after : Bool). c.max.result ≡ chunk_limit after s (Replay (cursor_of c.args.self.now used loads)) c.args.thread t) (sym c.if-after.true)
    (after-is c.args.self.now used loads s c.args.thread t c.args.commits c.limit.result c.max.result
    is (rw (← c.self.view_is) c.limit.ensures) c.max.ensures)

pub returns-clause-most : goal.returns-clause-most
returns-clause-most g c =
    let log = c.self.inside.log.log in
    let is = c.self.invariant in
    let few = limit-few log c.args.thread c.args.commits is in
    subst (λ (r : Following). c.max-2.result ≤ r.log.s) c.self.view_is (omega (arith, few, is.s.0, c.limit-whole.ensures, c.saturating_sub.ensures, c.max-2.ensures))

pub returns-then-after-clause-most : goal.returns-then-after-clause-most
returns-then-after-clause-most g c =
    let log = c.self.inside.log.log in
    let is = c.self.invariant in
    let few = limit-few log c.args.thread (c.args.commits + 1) is in
    subst (λ (r : Following). c.max.result ≤ r.log.s) c.self.view_is (omega (arith, few, is.s.0, c.limit.ensures, c.max.ensures))
