use Rattle.std.proofs.Common.{◌≡◌, ℕ, suc, ◌+◌, Bool, true, false, cond, Some, sym, ap, ◌∙◌, drop, get_or, nat_lt, arith}
use Rattle.std.specs.Prelude.{option_map}
use Rattle.std.proofs.lemmas.Bool.{le-ltb, lt-ltb}
use Rattle.std.proofs.lemmas.List.{length-map}
use Rattle.dl_entry.specs.declared.Actor.{Actor}
use Rattle.spec_strata.specs.Standing.{least_left}
use Rattle.dl_replay.specs.Starts.{none_done_of}
use Rattle.dl_replay.proofs.Standings.{least-at, zeros-at}
use Rattle.dl_replay.proofs.ready.first_of.Goals as goal

pub returns-then-counts-thread-gt0 : goal.returns-then-counts-thread-gt0
returns-then-counts-thread-gt0 c =
    let k = c.loop-thread.thread in
    let cs = c.args.counts.now in
    let zs = none_done_of cs in
    let from = λ (b : Bool). cond b (Some k) (least_left (suc k) (drop (suc k) cs) (drop (suc k) zs)) in
    let here : nat_lt (get_or zs k 0) (get_or cs k 0) ≡ true = lt-ltb (get_or zs k 0) (get_or cs k 0) (omega (arith, c.if-counts-thread-gt0.true, zeros-at cs k)) in
    sym (ap (option_map Actor.Thread) (
    c.loop-thread.invariant
    ∙ least-at k cs zs k c.loop-thread-test.true (sym (length-map cs (λ (count : ℕ). 0)))
    ∙ ap from here))

pub loop-thread-preserved : goal.loop-thread-preserved
loop-thread-preserved c =
    let k = c.loop-thread.thread in
    let cs = c.args.counts.now in
    let zs = none_done_of cs in
    let from = λ (b : Bool). cond b (Some k) (least_left (suc k) (drop (suc k) cs) (drop (suc k) zs)) in
    let none : nat_lt (get_or zs k 0) (get_or cs k 0) ≡ false = le-ltb (get_or zs k 0) (get_or cs k 0) (omega (arith, c.if-counts-thread-gt0.false)) in
    let next : suc k ≡ k + 1 = omega arith in
    c.loop-thread.invariant
    ∙ least-at k cs zs k c.loop-thread-test.true (sym (length-map cs (λ (count : ℕ). 0)))
    ∙ ap from none
    ∙ ap (λ (n : ℕ). least_left n (drop n cs) (drop n zs)) next
