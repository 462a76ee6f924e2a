use Rattle.std.proofs.Common.{◌≡◌, ◌++◌, take}
use Rattle.std.specs.List.{flat_map}
use Rattle.spec_log.specs.Bytes.{u32}
use Rattle.dl_tail.proofs.writing.put_words.Given as goal

-- those so far are put
abbrev pub invariant-loop-word : goal.invariant-loop-word
invariant-loop-word l = l.out.items ≡ l.initial.out.items ++ flat_map u32 (take l.word-index l.words)
