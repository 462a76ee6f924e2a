use Rattle.std.proofs.Common.{◌≡◌, suc, Bool, cond, Some, sym, ap, ◌∙◌, drop, get_or, nat_lt, refl, arith}
use Rattle.std.specs.Prelude.{option_map}
use Rattle.std.proofs.lemmas.Bool.{lt-ltb}
use Rattle.dl_entry.specs.declared.Actor.{Actor}
use Rattle.spec_strata.specs.Standing.{least_left}
use Rattle.dl_replay.proofs.Standings.{least-at, least-none}
use Rattle.dl_replay.proofs.done.least_left.Goals as goal

pub loop-thread-init : goal.loop-thread-init
loop-thread-init c = refl

pub returns-then-done-thread : goal.returns-then-done-thread
returns-then-done-thread c =
    let k = c.loop-thread.thread in
    let cs = c.args.counts.now in
    let ds = c.args.done.now in
    let here : nat_lt (get_or ds k 0) (get_or cs k 0) ≡ Bool.true = lt-ltb (get_or ds k 0) (get_or cs k 0) (omega (arith, c.if-done-thread.true, c.from.ensures)) in
    sym (ap (option_map Actor.Thread) (
    c.loop-thread.invariant
    ∙ least-at k cs ds k c.loop-thread-test.true c.requires.threads
    ∙ ap (λ (b : Bool). cond b (Some k) (least_left (suc k) (drop (suc k) cs) (drop (suc k) ds))) here))

pub returns : goal.returns
returns c =
    let k = c.loop-thread.thread in
    let cs = c.args.counts.now in
    let ds = c.args.done.now in
    sym (ap (option_map Actor.Thread) (c.loop-thread.invariant ∙ least-none k cs ds k c.loop-thread-test.false))
