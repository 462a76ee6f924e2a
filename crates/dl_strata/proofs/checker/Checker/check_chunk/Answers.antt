use Rattle.std.proofs.Common.{◌≡◌, ℕ, true, sym, ◌∙◌, subst}
use Rattle.std.proofs.lemmas.Bool.{true≢false}
use Rattle.spec_strata.specs.Checking.{IsLeast}
use Rattle.dl_serial.specs.Playing.{Playing}
use Rattle.dl_strata.specs.Conflicts.{IsInStratum}
use Rattle.dl_strata.proofs.Conflicts.{looked-within, chunk-passed, chunk-conflicts}
use Rattle.dl_strata.proofs.checker.Checker.check_chunk.Goals as goal

pub note-requires : goal.note-requires
note-requires c =
    let can = c.requires in
    looked-within can.all c.args.self.now.player c.args.self.now.touches.touches c.args.thread can.threads can.strata c.look_on.new.footprint can.within c.in_ok-look_on.ensures.footprint

pub returns-then-not-is_free-clause-checked : goal.returns-then-not-is_free-clause-checked
returns-then-not-is_free-clause-checked c all js xs w =
    subst (λ (n : ℕ). IsLeast (λ j. all j ≡ true) n) (sym c.commits-index.ensures)
    (chunk-conflicts all c.args.self.now.player c.args.self.now.touches.touches c.args.thread js xs c.look_on.new.footprint w c.in_ok-look_on.ensures.footprint
    (λ free. true≢false (sym (c.is_free.ensures.1 free) ∙ c.if-not-is_free.true)))

pub returns-clause-checked : goal.returns-clause-checked
returns-clause-checked c all js xs w =
    subst (λ (p : Playing). IsInStratum all p c.note.new.self.touches js xs) (sym c.in_ok-look_on.ensures.played)
    (chunk-passed all c.args.self.now.player c.args.self.now.touches.touches c.note.new.self.touches c.args.thread js xs c.look_on.new.footprint w c.in_ok-look_on.ensures.footprint
    (c.is_free.ensures.0 c.if-not-is_free.false) c.note.ensures.words c.note.ensures.touched)
