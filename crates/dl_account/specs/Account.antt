-- The account of a sphere: its commits, and its state if its replay did not diverge.
use Rattle.std.specs.Prelude.{ℕ, List, [], ◌∷◌, ◌++◌, codes, decimal, Option}
use Rattle.dl_entry.specs.declared.commit.Commit.{Commit}
use Rattle.dl_entry.specs.declared.end.End.{End}
use Rattle.dl_entry.specs.declared.end.End.TheVariants.{Complete, At, Diverged}
use Rattle.dl_entry.specs.declared.input.Request.{Request}
use Rattle.spec_isa.specs.declared.thread.Parts.{Parts}
use Rattle.dl_account.specs.Commits.{commit_lines}
use Rattle.dl_account.specs.Lines.{line, numbered}
use Rattle.dl_account.specs.Replays.{diverged_fields}
use Rattle.dl_account.specs.States.{state_lines}

-- `end complete N`, `end at N`, or `end diverged I WHY` with the sizes that belong to the reason
abbrev pub end_fields : End → List (List ℕ)
end_fields (Complete commits) = codes "complete" ∷ decimal commits ∷ []
end_fields (At commits) = codes "at" ∷ decimal commits ∷ []
end_fields (Diverged index why) = diverged_fields index why

-- the state at the end, if the sphere did not diverge
abbrev pub final_lines : List Parts → Option Request → (memory : List ℕ) → End → List ℕ
final_lines threads request memory (Complete commits) = state_lines threads request memory
final_lines threads request memory (At commits) = state_lines threads request memory
final_lines threads request memory (Diverged index why) = []

-- the whole commits by number, of which the first has this one, the state, and the end
abbrev pub account_of : (first : ℕ) → List Commit → List Parts → Option Request → (memory : List ℕ) → End → List ℕ
account_of first commits threads request memory end =
    numbered commit_lines first commits
    ++ final_lines threads request memory end
    ++ line (codes "end") (end_fields end)
