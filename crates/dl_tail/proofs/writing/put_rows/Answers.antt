use Rattle.std.proofs.Common.{◌≡◌, ℕ, ◌+◌, ◌<◌, ◌∙◌, List, ◌++◌, length, take, drop, ap, sym, append_assoc, append-nil, arith}
use Rattle.std.proofs.lemmas.List.{length-drop}
use Rattle.dl_tail.specs.Rows.{first_bytes}
use Rattle.dl_tail.proofs.PutLaws.{left-whole, bytes-step, bytes-end, bytes_left}
use Rattle.dl_tail.proofs.writing.put_rows.Goals as goal

pub loop-rest-preserved : goal.loop-rest-preserved
loop-rest-preserved c =
    let rest = c.loop-rest.rest.now in
    let number = c.loop-rest.number in
    let out = c.loop-rest.out.items in
    let whole = c.loop-rest.invariant.1 in
    let most = c.loop-rest.invariant.2 in
    let long = c.loop-rest-test.true in
    let some : 0 < length c.loop-rest.rest.now = omega (arith, long) in
    rw c.next_rows-rest.ensures (
      rw (c.in_ok-put_row.ensures, c.first_row.ensures)
          (append_assoc out (first_bytes number (take 32 rest)) (bytes_left (number + 1) (drop 32 rest))
          ∙ ap (λ (z : List ℕ). out ++ z) (sym (bytes-step rest whole some number)) ∙ c.loop-rest.invariant.0),
      left-whole rest whole some,
      omega (arith, length-drop 32 rest, most, long),
    )

pub returns : goal.returns
returns c =
    let whole = c.loop-rest.invariant.1 in
    let short = c.loop-rest-test.false in
    let none : length c.loop-rest.rest.now ≡ 0 = omega (arith, whole, short) in
    sym (append-nil c.loop-rest.out.items)
    ∙ ap (λ (z : List ℕ). c.loop-rest.out.items ++ z) (sym (bytes-end c.loop-rest.number c.loop-rest.rest.now none))
    ∙ c.loop-rest.invariant.0

pub loop-rest-smaller : goal.loop-rest-smaller
loop-rest-smaller c =
    let long = c.loop-rest-test.true in
    rw c.next_rows-rest.ensures (omega (arith, length-drop 32 c.loop-rest.rest.now, long))
