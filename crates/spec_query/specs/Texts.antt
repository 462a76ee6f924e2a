-- Answers as text.
use Rattle.std.specs.Prelude.{ℕ, List, [], ◌∷◌, codes, decimal, flat_map, Option, Some, None}
use Rattle.dl_account.specs.Lines.{hex_word, line}
use Rattle.dl_account.specs.Replays.{why_fields}
use Rattle.dl_entry.specs.Actor.{code}
use Rattle.dl_entry.specs.declared.End.{End}
use Rattle.spec_query.specs.declared.line.Line.{Line}
use Rattle.spec_query.specs.declared.when.When.{When}

-- `w COMMIT ACTOR VALUE`
abbrev pub line_text : Line → List ℕ
line_text l = line (codes "w") (decimal l.commit ∷ decimal (code l.actor) ∷ hex_word l.value ∷ [])

abbrev pub none_text : List ℕ
none_text = line (codes "none") []

-- a line each
abbrev pub lines_text : List Line → List ℕ
lines_text [] = none_text
lines_text (l ∷ ls) = flat_map line_text (l ∷ ls)

abbrev pub last_text : Option Line → List ℕ
last_text None = none_text
last_text (Some l) = line_text l

abbrev pub when_text : When → List ℕ
when_text When.Start = line (codes "start") []
when_text (When.At l) = line_text l
when_text When.None = none_text

-- `diverged COMMIT WHY`, if the play diverges: then the answer is over the commits before
abbrev pub end_text : End → List ℕ
end_text (End.Complete commits) = []
end_text (End.At commits) = []
end_text (End.Diverged index why) = line (codes "diverged") (decimal index ∷ why_fields why)
