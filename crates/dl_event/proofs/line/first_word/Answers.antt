use Rattle.std.proofs.Common.{rules, ◌≡◌, ◌<◌, ◌≢◌, length, tests, arith, ◌∙◌, ap, sym, ◌-◌, drop, length-drop}
use Rattle.std.proofs.lemmas.Iterator.{IsFirst-from_position, YieldsList-from_slice}
use Rattle.std.proofs.lemmas.List.{take_all}
use Rattle.std.specs.List.{AllWithin, HoldsAt}
use Rattle.dl_event.specs.Line.{words_of}
use Rattle.dl_event.proofs.Words.{words-blank, words-spaces}
use Rattle.dl_event.proofs.line.first_word.Goals as goal

pub returns-in_err-start : goal.returns-in_err-start
returns-in_err-start c =
    let first = IsFirst-from_position _ _ _ (λ b. b ≢ 32) (λ b. b ≡ 32) c.in_err-start.ensures.ran (YieldsList-from_slice c.args.line.now c.iter.ensures.rest) (λ x q k. search (rules, tests)) (λ x q k. search (rules, tests)) in
    let blank : AllWithin (λ b. b ≡ 32) c.args.line.now 0 (length c.args.line.now) = first in
    rw c.from_residual.ensures (words-blank c.args.line.now (λ k d l. blank k d (omega arith) l))

pub returns : goal.returns
returns c =
    let line = c.args.line.now in
    let start = c.in_ok-start.start in
    let first = IsFirst-from_position _ _ _ (λ b. b ≢ 32) (λ b. b ≡ 32) c.in_ok-start.ensures.ran (YieldsList-from_slice line c.iter.ensures.rest) (λ x q k. search (rules, tests)) (λ x q k. search (rules, tests)) in
    let at : (start < length line) × HoldsAt (λ b. b ≢ 32) line start × AllWithin (λ b. b ≡ 32) line 0 start = first in
    words-spaces start line (omega (arith, at.0)) (λ k d l. at.2 k d (omega arith) l)
    ∙ ap words_of (sym (take_all (length line - start) (drop start line) (omega (arith, length-drop start line)))) ∙ c.split_word.ensures
