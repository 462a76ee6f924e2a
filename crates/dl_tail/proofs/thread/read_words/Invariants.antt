use Rattle.std.proofs.Common.{◌≡◌, ◌-◌, true, [], length, take}
use Rattle.spec_log.specs.Fields.{any, one_more, repeated}
use Rattle.dl_tail.proofs.thread.read_words.Given as goal

-- the words that are left, after those so far, are read as all of them
abbrev pub invariant-loop-number : goal.invariant-loop-number
invariant-loop-number l =
    let one = one_more (λ x y. true) (any 4) in
    (repeated one 31 [] l.bytes l.initial.at ≡ repeated one (31 - l.number) (take l.number l.words) l.bytes l.at) × (length l.words ≡ 31)
