-- A fetch outside memory, and one that is held up, leave the view as it was.
use Rattle.std.proofs.Common.{◌≡◌, true, false, length, Some, ◌/◌, refl, arith}
use Rattle.spec_isa.specs.Words.{is_inside, read}
use Rattle.spec_isa.specs.Instruction.{operation_of}
use Rattle.spec_isa.specs.Operations.{load_then, refuses, word_loaded}
use Rattle.dl_thread.specs.Performing.{store_for, thread_for, word_for}
use Rattle.dl_thread.proofs.Agreement.{agreement, one_inside, one_outside}
use Rattle.dl_thread.proofs.instruction.one.Goals as goal

pub returns-then-not-has_word-clause-view : goal.returns-then-not-has_word-clause-view
returns-then-not-has_word-clause-view g c =
    let outside : is_inside (length (g.V.View.sight c.args.v.now).bytes) c.args.t.now.pc ≡ false = grind arith in
    rw outside (record { fetched = c.args.v.now; loaded = c.args.v.now; fetches = refl; loads = refl; stores = refl })

pub returns-in-Err-clause-view : goal.returns-in-Err-clause-view
returns-in-Err-clause-view g c =
    let inside : is_inside (length (g.V.View.sight c.args.v.now).bytes) c.args.t.now.pc ≡ true = grind arith in
    let held : (g.V.View.sight c.args.v.now).held (c.args.t.now.pc / 4) ≡ Some c.in-Err.flight = rw (← c.pc-pc.ensures.value) c.in-Err.ensures.value in
    rw (inside, held)
    (record { fetched = c.args.v.now; loaded = c.args.v.now; fetches = refl; loads = refl; stores = c.in-Err.ensures.held })

pub returns-then-not-has_word-clause-meaning : goal.returns-then-not-has_word-clause-meaning
returns-then-not-has_word-clause-meaning g c =
    one_outside (g.V.View.sight c.args.v.now) c.args.t.now (grind arith)

pub returns-in-Ok-clause-meaning : goal.returns-in-Ok-clause-meaning
returns-in-Ok-clause-meaning g c =
    let s = g.V.View.sight c.args.v.now in
    let t = c.args.t.now in
    let p = operation_of t (read s.bytes (t.pc / 4)) in
    let word : c.in-Ok.word ≡ read s.bytes (t.pc / 4) = rw (← c.pc-pc.ensures.value) c.in-Ok.ensures.value.1 in
    rw (c.run.ensures.thread, c.run.ensures.bytes, c.run.ensures.did, c.in-Ok.ensures.same, word, one_inside s t (grind arith))
    (agreement s (refuses (length s.bytes) p) (word_loaded p) t (thread_for s p t) (load_then p (word_for s p)) (store_for s p t))
