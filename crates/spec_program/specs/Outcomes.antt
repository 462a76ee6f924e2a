-- The outcome of a command where no call fails: what it writes and says, or why it is refused, and the line that says so.
use Rattle.std.specs.Prelude.{ℕ, Bool, false, List, [], ◌∷◌, Result, Ok, Err, if◌then◌else◌}
use Rattle.spec_program.specs.declared.status.Status.{Status}
use Rattle.spec_program.specs.Stages.{Refused}
use Rattle.spec_program.specs.Statuses.{status_of}
use Rattle.spec_program.specs.Writes.{Write, at_once, piece_by_piece}

-- whether a replayed log diverged, the files that are written, in their order, and the text for the sink
pub record Finish : Type 0 where
  pub diverged : Bool
  pub writes : List Write
  pub text : List ℕ

-- a text is said, and no file is written
abbrev pub said : (text : List ℕ) → (diverged : Bool) → Finish
said text diverged = record { diverged = diverged; writes = []; text = text }

-- one file is written, and then a text is said
abbrev pub filed : (name bytes text : List ℕ) → Finish
filed name bytes text = record { diverged = false; writes = at_once name bytes ∷ []; text = text }

-- one log is written, and then a text is said
abbrev pub logged : (name bytes text : List ℕ) → Finish
logged name bytes text = record { diverged = false; writes = piece_by_piece name bytes ∷ []; text = text }

abbrev pub Outcome : Type 0
Outcome = Result Finish Refused

-- ---- its parts

abbrev pub status_in : Outcome → Status
status_in (Err refused) = status_of refused.why
status_in (Ok finish) = if finish.diverged then Status.Diverged else Status.Done

abbrev pub writes_in : Outcome → List Write
writes_in (Err refused) = []
writes_in (Ok finish) = finish.writes

-- the line of a refusal, or the text
abbrev pub text_in : Outcome → List ℕ
text_in (Err refused) = refused.line
text_in (Ok finish) = finish.text

abbrev pub DoesFinish : Outcome → Type 0
DoesFinish (Err refused) = ⊥
DoesFinish (Ok finish) = Unit {0}
