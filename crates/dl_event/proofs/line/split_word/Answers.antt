use Rattle.std.proofs.Common.{◌≡◌, ◌≢◌, rules, tests}
use Rattle.std.proofs.lemmas.Iterator.{IsFirst-from_position, YieldsList-from_slice}
use Rattle.dl_event.proofs.Words.{words-split}
use Rattle.dl_event.proofs.line.split_word.Goals as goal

pub returns : goal.returns
returns c =
    let first = IsFirst-from_position _ _ _ (λ b. b ≡ 32) (λ b. b ≢ 32) c.position.ensures.ran (YieldsList-from_slice c.args.line.now c.iter.ensures.rest) (λ x q k. search (rules, tests)) (λ x q k. search (rules, tests)) in
    rw (c.split_at.ensures.front, c.split_at.ensures.back, c.unwrap_or-end.ensures) (words-split c.args.line.now c.position.result c.requires.begins c.requires.word first)
