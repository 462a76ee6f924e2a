-- Each turn puts the row of its number, and the turns are as many as the rows.
use Rattle.std.proofs.Common.{◌≡◌, ◌/◌, ◌<◌, ◌≤◌, [], length, take, get_or, refl, sym, ◌∙◌}
use Rattle.std.proofs.lemmas.List.{take_all}
use Rattle.dl_account.specs.States.{row_line, rows}
use Rattle.dl_account.proofs.Numbered.{numbered_more}
use Rattle.dl_account.proofs.Rows.{get_or-rows, length-rows}
use Rattle.dl_account.proofs.memory.put_memory.Goals as goal

pub loop-number-preserved : goal.loop-number-preserved
loop-number-preserved c =
    let m = c.args.memory.now in
    let i = c.loop-number.number in
    let lt : c.loop-number.number < length c.args.memory.now / 32 = rw (← c.size-number-end.ensures.value) c.loop-number-test.true in
    let row : c.copy_to.new.into ≡ get_or (rows c.args.memory.now) c.loop-number.number [] =
    (rw c.loop-number-test.array_long at c.copy_to.ensures) ∙ sym (get_or-rows m i lt)
    in
    rw (c.in_ok-put_row.ensures, row, c.loop-number.invariant) (numbered_more row_line c.args.text.now (rows m) i [] (rw (length-rows m) lt))

pub returns : goal.returns
returns c =
    let m = c.args.memory.now in
    let i = c.loop-number.number in
    let ge : length (rows c.args.memory.now) ≤ c.loop-number.number = rw (length-rows m, ← c.size-number-end.ensures.value) c.loop-number-test.false in
    let all : take c.loop-number.number (rows c.args.memory.now) ≡ rows c.args.memory.now = take_all i (rows m) ge in
    c.loop-number.invariant ∙ rw all refl
