use Rattle.std.proofs.Common.{◌≡◌, ◌++◌, take, map, flat_map}
use Rattle.dl_account.specs.Lines.{hex_word, spaced}
use Rattle.dl_account.proofs.threads.put_words.Given as goal

abbrev pub invariant-loop-word : goal.invariant-loop-word
invariant-loop-word l =
    l.text ≡ l.initial.text ++ flat_map spaced (map hex_word (take l.word-index l.words))
