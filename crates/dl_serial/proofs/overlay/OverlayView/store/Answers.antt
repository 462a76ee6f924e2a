use Rattle.std.proofs.Common.{◌/◌, sym, ◌∙◌}
use Rattle.dl_serial.proofs.Laying.{shown_put, stored_if, ok_if}
use Rattle.dl_serial.proofs.overlay.OverlayView.store.Goals as goal

pub returns-clause-laid : goal.returns-clause-laid
returns-clause-laid c =
    let none = sym c.if-is_err.ensures.value in
    shown_put c.args.self.now.memory.now c.args.self.now.words.now c.put.new.self (c.args.word / 4) c.args.mask c.args.value c.put.ensures.apart
    (sym c.put.ensures.taken ∙ ok_if c.put.result none) (stored_if c.put.result _ c.put.ensures.ok none)
