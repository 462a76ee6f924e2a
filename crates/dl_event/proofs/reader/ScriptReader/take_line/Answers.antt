use Rattle.std.proofs.Common.{◌≡◌, true, Some, refl, sym, ap, ◌∙◌, subst, arith, append-nil}
use Rattle.std.specs.List.{slice_get}
use Rattle.std.proofs.lemmas.Bool.Decides.{nat_tests}
use Rattle.dl_event.specs.declared.line.Line.TheVariants.{Empty, Holds, Wrong}
use Rattle.dl_event.specs.declared.line.Line.{Line}
use Rattle.dl_event.specs.Script.{is_refused_after}
use Rattle.dl_event.specs.Reading.{IsRead, SoFar}
use Rattle.dl_event.proofs.Reading.{one_read, one_refused}
use Rattle.dl_event.proofs.reader.ScriptReader.take_line.Goals.{in_default-via-in-Holds+else-len-lt-MOST_EVENTS, in_default-via-in_default}
use Rattle.dl_event.proofs.reader.ScriptReader.take_line.Goals as goal

pub returns-in_default-clause-refused : goal.returns-in_default-clause-refused
returns-in_default-clause-refused c = λ lines before there.
    let r : SoFar = record { lines = c.self.inside.lines; events = c.self.inside.events } in
    let read : IsRead lines r.lines r.events = subst (λ (r : SoFar). IsRead lines r.lines r.events) (sym c.self.view_is) before in
    let at : slice_get lines r.lines ≡ Some c.args.line = subst (λ (r : SoFar). slice_get lines r.lines ≡ Some c.args.line) (sym c.self.view_is) there in
    let refused = λ (line : Line) (is : c.args.line ≡ line) (wrong : is_refused_after r.events (Some line) ≡ true). one_refused lines r.lines r.events line read (at ∙ ap Some is) wrong in
    elim c.in_default.branch [
      | in_default-via-in-Holds+else-len-lt-MOST_EVENTS w ↦ refused (Holds w.in-Holds.event) w.in-Holds.is (grind (arith, nat_tests))
      | in_default-via-in_default w ↦ refused Wrong w.in_default.is refl
    ]

pub returns-in-Empty-clause-read : goal.returns-in-Empty-clause-read
returns-in-Empty-clause-read c = λ lines before there.
    let r : SoFar = record { lines = c.self.inside.lines; events = c.self.inside.events } in
    let read : IsRead lines r.lines r.events = subst (λ (r : SoFar). IsRead lines r.lines r.events) (sym c.self.view_is) before in
    let at : slice_get lines r.lines ≡ Some c.args.line = subst (λ (r : SoFar). slice_get lines r.lines ≡ Some c.args.line) (sym c.self.view_is) there in
    one_read lines r.lines r.events r.events Empty read (at ∙ ap Some c.in-Empty.is) refl (sym (append-nil r.events))

pub returns-in_ok-push-in-Holds-clause-read : goal.returns-in_ok-push-in-Holds-clause-read
returns-in_ok-push-in-Holds-clause-read c = λ lines before there.
    let r : SoFar = record { lines = c.self.inside.lines; events = c.self.inside.events } in
    let read : IsRead lines r.lines r.events = subst (λ (r : SoFar). IsRead lines r.lines r.events) (sym c.self.view_is) before in
    let at : slice_get lines r.lines ≡ Some c.args.line = subst (λ (r : SoFar). slice_get lines r.lines ≡ Some c.args.line) (sym c.self.view_is) there in
    one_read lines r.lines r.events c.push.new.self (Holds c.in-Holds.event) read (at ∙ ap Some c.in-Holds.is) (grind (arith, nat_tests)) c.in_ok-push-in-Holds.ensures.ok
