use Rattle.std.proofs.Common.{◌≡◌, map, take, string_bytes}
use Rattle.delorean.proofs.texts_of.Given as goal

-- those so far are borrowed
abbrev pub invariant-loop-word : goal.invariant-loop-word
invariant-loop-word l = map (λ (text : _). text.now) l.borrowed.items ≡ map string_bytes (take l.word-index l.words)
