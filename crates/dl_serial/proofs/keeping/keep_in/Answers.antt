use Rattle.std.proofs.Common.{◌≡◌, ℕ, suc, ◌+◌, ◌*◌, List, [], ◌∷◌, ◌++◌, length, inl, inr, sym, ap, ◌∙◌, subst, arith}
use Rattle.std.proofs.lemmas.Bool.{cases_lt}
use Rattle.std.proofs.lemmas.List.{length-append}
use Rattle.spec_log.specs.declared.LogParts.{LogParts}
use Rattle.spec_play.specs.Progress.{position}
use Rattle.spec_play.specs.States as play
use Rattle.spec_play.specs.States.{state_after}
use Rattle.spec_play.specs.Resuming.{HasDone}
use Rattle.spec_play.specs.Intervals.{without_commits}
use Rattle.dl_kernel.specs.States.{PlayState as State, state_in}
use Rattle.dl_serial.specs.Playing.{Playing, played_more}
use Rattle.dl_serial.proofs.Laps.{IsAt, all-kept, at-first, at-next, done-at, each-pushed}
use Rattle.dl_serial.proofs.Resumed.{can-go-on, first-state}
use Rattle.dl_serial.proofs.keeping.keep_in.Goals as goal

pub at-requires-clause-state : goal.at-requires-clause-state
at-requires-clause-state g c =
    let log = c.args.log.now in
    let i = c.args.image.now in
    can-go-on log (state_in c.first-first.result)
    (first-state log i.bytes i.entry (state_in c.first-first.result)
    (c.first-first.ensures log ∙ (λ x. state_after log (c.in_ok-new.ensures x) (c.entry.ensures.value x) 0)))

pub loop-next-init : goal.loop-next-init
loop-next-init g c =
    let log = c.args.log.now in
    let i = c.args.image.now in
    let none = c.new-kept.ensures.items in
    let is : state_in c.first-first.result ≡ state_after log i.bytes i.entry 0 =
    c.first-first.ensures log ∙ (λ x. state_after log (c.in_ok-new.ensures x) (c.entry.ensures.value x) 0)
    in
    record {
      log = ap (λ (p : Playing). p.log) c.in_ok-player.ensures;
      at = at-first log i.bytes i.entry c.in_ok-player.player.played (state_in c.first-first.result) (ap (λ (p : Playing). p.played) c.in_ok-player.ensures) is;
      place = (let size = ap (λ (xs : List State). length xs * c.args.every) none in let nothing : 0 ≡ 0 * c.args.every = omega arith in nothing ∙ sym size);
      each = rw none (λ n s e. cc);
      done = rw none (λ n l. absurd (omega arith));
    }

pub loop-next-preserved : goal.loop-next-preserved
loop-next-preserved g c =
    let log = c.args.log.now in
    let i = c.args.image.now in
    let every = c.args.every in
    let now = c.loop-next in
    let y = now.player.played in
    let kept = now.kept.items in
    let reached : position y.progress ≡ now.next = sym (c.from.ensures ∙ c.commits.ensures) ∙ c.loop-next-test.true in
    let done = done-at log i.bytes i.entry now.next y now.invariant.at reached in
    let pushed : c.push.new.self.items ≡ kept ++ c.in_ok-keep.field-0 ∷ [] = c.in_ok-push.ensures.items in
    let length_ : length c.push.new.self.items ≡ suc (length kept) =
    (let all = ap (λ (xs : List State). length xs) pushed in let more = length-append kept (c.in_ok-keep.field-0 ∷ []) in omega (arith, all, more))
    in
    let is : c.play_on.new.self ≡ played_more (record { log = log; played = without_commits y; stores = [] }) every =
    c.in_ok-play_on.ensures ∙ ap (λ (p : Playing). played_more p every) c.in_ok-keep.ensures.player
    ∙ ap (λ (l : LogParts). played_more (record { log = l; played = without_commits y; stores = [] }) every) now.invariant.log
    in
    let next : now.next + every ≡ now.next + c.from-in-loop-next.result = ap (λ (n : ℕ). now.next + n) (sym c.from-in-loop-next.ensures) in
    record {
      log = ap (λ (p : Playing). p.log) is;
      at = subst (λ (n : ℕ). IsAt log i.bytes i.entry n c.play_on.new.self.played) next (at-next log i.bytes i.entry now.next every y c.play_on.new.self.played done now.invariant.at (ap (λ (p : Playing). p.played) is));
      place = (let place = now.invariant.place in let times = ap (λ (n : ℕ). n * every) length_ in let e = c.from-in-loop-next.ensures in omega (arith, place, times, e));
      each = rw pushed (each-pushed (λ n. state_after log i.bytes i.entry (n * every)) kept c.in_ok-keep.field-0 now.invariant.each
          (c.in_ok-keep.ensures.kept ∙ now.invariant.at.state ∙ ap (state_after log i.bytes i.entry) now.invariant.place));
      done = λ n l. elim (cases_lt n (length kept)) [
        | inl below ↦ now.invariant.done n below
        | inr past ↦ (
            let last : n ≡ length kept = omega (arith, l, length_, past) in
            subst (HasDone log i.bytes i.entry) (now.invariant.place ∙ ap (λ (m : ℕ). m * every) (sym last)) done)
      ];
    }

pub returns : goal.returns
returns g c =
    let log = c.args.log.now in
    let i = c.args.image.now in
    let now = c.loop-next in
    let over : HasDone log i.bytes i.entry (length now.kept.items * c.args.every) → ⊥ =
    λ done.
    let at = ap (λ (s : play.State). s.commits) now.invariant.at.state in
    let there = subst (HasDone log i.bytes i.entry) (sym now.invariant.place) done in
    c.loop-next-test.false (c.from.ensures ∙ c.commits.ensures ∙ at ∙ there)
    in
    record { each = now.invariant.each; done = now.invariant.done; all = all-kept log i.bytes i.entry c.args.every (length now.kept.items) over }
