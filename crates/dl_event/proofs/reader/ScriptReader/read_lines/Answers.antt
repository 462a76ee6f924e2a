use Rattle.std.proofs.Common.{◌+◌, ◌++◌, ℕ, drop, replicate, sym, ap, ◌∙◌, subst, arith}
use Rattle.std.proofs.lemmas.Result.{err_from_is_err_and}
use Rattle.dl_event.specs.Script.{lines_of}
use Rattle.dl_event.specs.Reading.{SoFar, IsReadTo}
use Rattle.dl_event.proofs.Reading.{behind_more, next_left, some_left}
use Rattle.dl_event.proofs.reader.ScriptReader.read_lines.Goals as goal

pub loop-event-preserved-in-Some : goal.loop-event-preserved-in-Some
loop-event-preserved-in-Some c =
    let now = c.loop-event in
    let held = c.in-Some in
    let r : SoFar = record { lines = c.self.inside.lines; events = c.self.inside.events } in
    let room = held.ensures.most in
    let count = c.len-room.ensures in
    let few = c.self.invariant in
    record {
      read = λ script tail to.
          let left = subst (IsReadTo script (now.left.now ++ tail)) (sym c.self.view_is) (now.invariant.read script tail to) in
          let done = some_left script (now.left.now ++ tail) r held.times held.event (held.rest.now ++ tail) left (held.ensures.lines tail) (omega arith) in
          subst (λ (es : _). IsReadTo script (held.rest.now ++ tail) (record { lines = r.lines + c.from.result; events = es })) (sym c.in_ok-push.ensures.ok)
          (subst (λ (n : ℕ). IsReadTo script (held.rest.now ++ tail) (record { lines = r.lines + n; events = r.events ++ replicate held.times held.event })) (sym c.from.ensures) done);
      behind = behind_more c.args.text.now now.left.now held.rest.now now.invariant.behind held.ensures.behind;
      lines = (
          let h = now.invariant.lines in
          let view = ap (λ (r : SoFar). r.lines) c.self.view_is in
          let shorter = held.ensures.shorter in
          omega (arith, c.from.ensures)
          );
    }

pub returns-in_err-take_line-clause-refused : goal.returns-in_err-take_line-clause-refused
returns-in_err-take_line-clause-refused c =
    let now = c.loop-event in
    let held = c.in-Some-next_line in
    let p = err_from_is_err_and c.from_residual-in_err-take_line.result c.from_residual-in_err-take_line.ensures.1 in
    rw (p.1, p.2) (λ script tail to.
    let left = now.invariant.read script tail to in
    let next = next_left script (now.left.now ++ tail) now.self held.line (held.rest.now ++ tail) left (held.ensures.lines tail) in
    c.in_err-take_line.ensures.refused (lines_of script) left.read next.0)

pub loop-event-preserved : goal.loop-event-preserved
loop-event-preserved c =
    let now = c.loop-event in
    let held = c.in-Some-next_line in
    record {
      read = λ script tail to.
          let left = now.invariant.read script tail to in
          let next = next_left script (now.left.now ++ tail) now.self held.line (held.rest.now ++ tail) left (held.ensures.lines tail) in
          record {
            read = c.in_ok-take_line.ensures.read (lines_of script) left.read next.0;
            left = next.1 ∙ ap (λ (n : ℕ). drop n (lines_of script)) (sym c.in_ok-take_line.ensures.lines);
          };
      behind = behind_more c.args.text.now now.left.now held.rest.now now.invariant.behind held.ensures.behind;
      lines = (let h = now.invariant.lines in let shorter = held.ensures.shorter in omega (arith, c.in_ok-take_line.ensures.lines));
    }
