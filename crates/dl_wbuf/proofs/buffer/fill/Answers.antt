-- Each word gets its place.
use Rattle.std.proofs.Common.{◌<◌, ◌≤◌, length, refl, ap, ◌∙◌, arith, rules}
use Rattle.std.proofs.lemmas.List.{take_all}
use Rattle.dl_wbuf.proofs.Positions.{IsFilled-more}
use Rattle.dl_wbuf.proofs.buffer.fill.Goals as goal

pub loop-i-init : goal.loop-i-init
loop-i-init c = record {
  filled = record { places = c.clear.ensures.places; taken = omega (arith, c.clear.ensures.taken) };
  words = refl;
  room = c.clear.ensures.room;
}

pub set-requires-clause-room : goal.set-requires-clause-room
set-requires-clause-room c =
    let inside : c.loop-i.i < length c.args.words.now.items = search rules in
    omega (arith, c.loop-i.invariant.filled.taken, c.loop-i.invariant.room, c.requires.room)

pub loop-i-preserved : goal.loop-i-preserved
loop-i-preserved c =
    let inside : c.loop-i.i < length c.args.words.now.items = search rules in
    record {
      filled = IsFilled-more c.loop-i.table c.set.new.self c.args.words.now.items c.loop-i.i c.number-number.result c.index.result.now c.requires.apart inside
          (c.number-number.ensures ∙ ap (λ s. s.number) c.index.ensures)
          c.loop-i.invariant.filled
          c.set.ensures.places
          c.set.ensures.taken;
      words = refl;
      room = c.set.ensures.room ∙ c.loop-i.invariant.room;
    }

pub returns-clause-places : goal.returns-clause-places
returns-clause-places c =
    let all : length c.args.words.now.items ≤ c.loop-i.i = search rules in
    λ a. rw (← (take_all c.loop-i.i c.args.words.now.items all)) (c.loop-i.invariant.filled.places a)

pub returns-clause-taken : goal.returns-clause-taken
returns-clause-taken c = omega (arith, c.loop-i.invariant.filled.taken)

pub returns-clause-room : goal.returns-clause-room
returns-clause-room c = c.loop-i.invariant.room
