use Rattle.std.proofs.Common.{◌≡◌, ◌≢◌, ◌<◌, ◌+◌, ◌-◌, length, take, drop, length-drop, rules, tests, arith}
use Rattle.std.proofs.lemmas.Iterator.{IsFirst-from_position, YieldsList-from_slice}
use Rattle.std.proofs.lemmas.List.{take_all}
use Rattle.std.specs.List.{AllWithin, HoldsAt}
use Rattle.dl_event.proofs.Reading.{line-first, behind_part}
use Rattle.dl_event.proofs.script.next_line.Goals as goal

pub returns-in_err-end-clause-lines : goal.returns-in_err-end-clause-lines
returns-in_err-end-clause-lines c =
    let text = c.args.text.now in
    rw c.from_residual.ensures (IsFirst-from_position _ _ _ (λ b. b ≡ 10) (λ b. b ≢ 10) c.in_err-end.ensures.ran (YieldsList-from_slice text c.iter.ensures.rest) (λ x q k. search (rules, tests)) (λ x q k. search (rules, tests)))

pub returns-clause-lines : goal.returns-clause-lines
returns-clause-lines c =
    let text = c.args.text.now in
    let end = c.in_ok-end.end in
    let first = IsFirst-from_position _ _ _ (λ b. b ≡ 10) (λ b. b ≢ 10) c.in_ok-end.ensures.ran (YieldsList-from_slice text c.iter.ensures.rest) (λ x q k. search (rules, tests)) (λ x q k. search (rules, tests)) in
    let at : (end < length text) × HoldsAt (λ b. b ≡ 10) text end × AllWithin (λ b. b ≢ 10) text 0 end = first in
    let all : take (length c.args.text.now - (c.in_ok-end.end + 1)) (drop (c.in_ok-end.end + 1) c.args.text.now) ≡ drop (c.in_ok-end.end + 1) c.args.text.now = take_all _ _ (omega (arith, length-drop (end + 1) text)) in
    λ tail. rw (all, c.read_line.ensures) (line-first text tail end at.0 at.1 at.2)

pub returns-clause-behind : goal.returns-clause-behind
returns-clause-behind c =
    let text = c.args.text.now in
    let end = c.in_ok-end.end in
    let first = IsFirst-from_position _ _ _ (λ b. b ≡ 10) (λ b. b ≢ 10) c.in_ok-end.ensures.ran (YieldsList-from_slice text c.iter.ensures.rest) (λ x q k. search (rules, tests)) (λ x q k. search (rules, tests)) in
    let at : (end < length text) × HoldsAt (λ b. b ≡ 10) text end × AllWithin (λ b. b ≢ 10) text 0 end = first in
    behind_part text (end + 1) (omega (arith, at.0))
