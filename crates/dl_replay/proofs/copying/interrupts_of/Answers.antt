use Rattle.std.proofs.Common.{◌<◌, length, get_or, arith}
use Rattle.std.proofs.lemmas.List.{get_or_default}
use Rattle.spec_log.specs.declared.records.Interrupt.{Interrupt}
use Rattle.dl_replay.proofs.Rising.{insert-next, next-fresh}
use Rattle.dl_replay.proofs.copying.interrupts_of.Goals as goal

pub note-requires-clause-fresh : goal.note-requires-clause-fresh
note-requires-clause-fresh c =
    let list = c.args.list.now in
    let k = c.loop-interrupt.interrupt-index in
    let none : Interrupt = record { thread = 0; index = 0; value = 0 } in
    let h : k < length list = omega arith in
    next-fresh list c.loop-interrupt.interrupts.entries c.requires.rising k (get_or list k none) h
    (get_or_default list k none (get_or list k none) h) c.loop-interrupt.invariant

pub loop-interrupt-preserved : goal.loop-interrupt-preserved
loop-interrupt-preserved c =
    let list = c.args.list.now in
    let k = c.loop-interrupt.interrupt-index in
    let none : Interrupt = record { thread = 0; index = 0; value = 0 } in
    let h : k < length list = omega arith in
    rw c.in_ok-note.ensures.ok
    (insert-next list c.loop-interrupt.interrupts.entries c.requires.rising k (get_or list k none) h
    (get_or_default list k none (get_or list k none) h) c.loop-interrupt.invariant)
