-- With one more commit the position is one further.
use Rattle.std.proofs.Common.{◌≡◌, suc, ◌+◌, [], ◌∷◌, ◌++◌, length, arith}
use Rattle.std.proofs.lemmas.List.{length-append}
use Rattle.dl_entry.specs.declared.Commit.{Commit}
use Rattle.spec_play.specs.Progress.{Progress, position}

-- after one more commit at the end of those that are done
pub position-more : (p : Progress) (c : Commit) → p.first + length (p.commits ++ c ∷ []) ≡ suc (position p)
position-more p c = let h = length-append p.commits (c ∷ []) in omega arith
