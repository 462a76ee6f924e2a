use Rattle.std.proofs.Common.{◌≡◌, ◌+◌, ◌<◌, ◌≤◌, List, length, map, sym, ap, ◌∙◌, subst, arith}
use Rattle.std.specs.Prelude.{slice_set}
use Rattle.std.proofs.lemmas.List.{length-map}
use Rattle.spec_isa.specs.declared.thread.Parts.{Parts}
use Rattle.spec_kernel.specs.Interrupts.{interrupted}
use Rattle.spec_log.proofs.Threads.{threads-few}
use Rattle.spec_tail.specs.Playing.{uncounted}
use Rattle.spec_tail.specs.Tails.{Tail}
use Rattle.dl_serial.proofs.AtBase.{AreRaised, passed, taken, not-taken, all-raised}
use Rattle.dl_serial.proofs.raising.raise.Goals as goal
use Rattle.dl_serial.proofs.raising.raise.Goals.{in-Some+else-not-takes_interrupt, in_default}

pub returns-then-not-takes_interrupt-clause-raised : goal.returns-then-not-takes_interrupt-clause-raised
returns-then-not-takes_interrupt-clause-raised c =
    let t = c.args.tail.now in
    let now = c.loop-number in
    let good = c.parts.ensures.good in
    let few = good.most in
    let most = threads-few t.log.version t.log.threads good.log.version in
    sym (not-taken t.threads t.log.interrupts now.threads now.number now.count (omega (arith, few, most)) now.invariant c.in-Some.value c.thread_at-thread.result c.thread_at-thread.ensures.thread (sym c.in-Some.ensures) (sym c.takes_interrupt.ensures ∙ c.if-not-takes_interrupt.true))

pub loop-number-preserved : goal.loop-number-preserved
loop-number-preserved c =
    let t = c.args.tail.now in
    let now = c.loop-number in
    let good = c.parts.ensures.good in
    let few = good.most in
    let top = threads-few t.log.version t.log.threads good.log.version in
    let most : length t.threads ≤ 63 = omega (arith, few, top) in
    elim c.match-first_interrupt.branch [
      | in-Some+else-not-takes_interrupt w ↦ (
          let value = w.in-Some.value in
          let x = w.thread_at-thread.result in
          let more = taken t.threads t.log.interrupts now.threads now.number now.count most now.invariant value x w.thread_at-thread.ensures.thread (sym w.in-Some.ensures) (sym w.takes_interrupt.ensures ∙ w.if-not-takes_interrupt.false) in
          let threads = w.threads-is ∙ w.set.ensures ∙ ap (slice_set now.threads now.number) w.interrupted.ensures in
          subst (λ (ts : List Parts). AreRaised t.threads t.log.interrupts ts (now.number + 1) c.match-first_interrupt.count) (sym threads)
          (subst (AreRaised t.threads t.log.interrupts (slice_set now.threads now.number (interrupted value x)) (now.number + 1)) (sym w.count-is) more))
      | in_default w ↦ (
          let l = c.loop-number-test.true in
          let begun : c.uncounted-threads.result ≡ map uncounted t.threads =
          c.uncounted-threads.ensures ∙ ap (map uncounted) (c.as_slice.ensures ∙ ap (λ (x : Tail). x.threads) c.parts.ensures.parts)
          in
          let all : length c.uncounted-threads.result ≡ length t.threads = ap (λ (ts : List Parts). length ts) begun ∙ length-map t.threads uncounted in
          let size = c.len-number-end.ensures.value in
          let within : now.number < length t.threads = omega (arith, l, all, size) in
          let more = passed t.threads t.log.interrupts now.threads now.number now.count most now.invariant within (sym c.first_interrupt.ensures ∙ w.in_default.is) in
          subst (λ (ts : List Parts). AreRaised t.threads t.log.interrupts ts (now.number + 1) c.match-first_interrupt.count) (sym w.threads-is)
          (subst (AreRaised t.threads t.log.interrupts now.threads (now.number + 1)) (sym w.count-is) more))
    ]
