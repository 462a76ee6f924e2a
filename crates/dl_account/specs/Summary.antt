-- The summary: the events, the commits of all spheres, and a line for each sphere.
use Rattle.std.specs.Prelude.{ℕ, List, [], ◌∷◌, ◌++◌, codes, decimal, sum_by}
use Rattle.dl_entry.specs.declared.counts.Counts.{Counts}
use Rattle.dl_entry.specs.declared.end.End.{End}
use Rattle.dl_entry.specs.declared.end.SphereLine.{SphereLine}
use Rattle.dl_entry.specs.declared.end.SphereLine.TheVariants.{Record, Plain, Complete, Diverged, Interval}
use Rattle.dl_account.specs.Lines.{line, numbered}
use Rattle.dl_account.specs.Replays.{diverged_fields}

-- a sphere's whole commits; the one at which a replay diverges is not among them
abbrev pub commits_in : SphereLine → ℕ
commits_in (Record commits) = commits
commits_in (Plain commits) = commits
commits_in (Complete commits) = commits
commits_in (Diverged index why) = index
commits_in (Interval commits end) = commits

-- how the replay of an interval ended: complete after so many commits of its log, or diverged
abbrev pub interval_fields : End → List (List ℕ)
interval_fields (End.Complete commits) = codes "complete" ∷ decimal commits ∷ []
interval_fields (End.At commits) = codes "complete" ∷ decimal commits ∷ []
interval_fields (End.Diverged index why) = diverged_fields index why

-- what the summary says of a sphere
abbrev pub sphere_fields : SphereLine → List (List ℕ)
sphere_fields (Record commits) = codes "record" ∷ decimal commits ∷ []
sphere_fields (Plain commits) = codes "plain" ∷ decimal commits ∷ []
sphere_fields (Complete commits) = codes "complete" ∷ decimal commits ∷ []
sphere_fields (Diverged index why) = diverged_fields index why
sphere_fields (Interval commits end) = interval_fields end

-- `s SPHERE record COMMITS`, or whatever its role and end are
abbrev pub sphere_line : ℕ → SphereLine → List ℕ
sphere_line number sphere = line (codes "s") (decimal number ∷ sphere_fields sphere)

-- `events N`, `commits N`, and the spheres by number
abbrev pub summary_of : Counts → List SphereLine → List ℕ
summary_of counts spheres =
    line (codes "events") (decimal counts.events ∷ [])
    ++ line (codes "commits") (decimal (sum_by commits_in spheres) ∷ [])
    ++ numbered sphere_line 0 spheres
