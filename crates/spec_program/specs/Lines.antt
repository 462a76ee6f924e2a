-- The lines that the program prints where it refuses or fails.
use Rattle.std.specs.Prelude.{ℕ, List, [], ◌∷◌, ◌++◌, codes, decimal}

abbrev pub line : List ℕ → List ℕ
line text = text ++ 10 ∷ []

abbrev pub usage_line : List ℕ
usage_line = line (codes "usage")

-- the first rule that the plan breaks
abbrev pub plan_line : (rule : ℕ) → List ℕ
plan_line rule = line (codes "refused plan " ++ decimal rule)

abbrev pub image_line : (sphere rule : ℕ) → List ℕ
image_line sphere rule = line (codes "refused image " ++ decimal sphere ++ codes " " ++ decimal rule)

-- the first field of a sphere's log that isn't good, by what is wrong with it and where it stands
abbrev pub log_line : (sphere number offset : ℕ) → List ℕ
log_line sphere number offset =
    line (codes "refused log " ++ decimal sphere ++ codes " " ++ decimal number ++ codes " " ++ decimal offset)

-- the first field of a sphere's strata that isn't good; or, by 8, their first commit that conflicts on the image, and by 9 the
-- first that doesn't fit
abbrev pub bad_strata_line : (sphere number at : ℕ) → List ℕ
bad_strata_line sphere number at =
    line (codes "refused strata " ++ decimal sphere ++ codes " " ++ decimal number ++ codes " " ++ decimal at)

abbrev pub script_line : (number : ℕ) → List ℕ
script_line number = line (codes "refused script " ++ decimal number)

-- the first line of a source that breaks a rule, and the first rule that it breaks
abbrev pub source_line : (number rule : ℕ) → List ℕ
source_line number rule = line (codes "refused source " ++ decimal number ++ codes " " ++ decimal rule)

abbrev pub absent_line : (name : List ℕ) → List ℕ
absent_line name = line (codes "absent " ++ name)

abbrev pub fault_line : (name : List ℕ) → List ℕ
fault_line name = line (codes "fault " ++ name)

-- how many bytes the file has that is written
abbrev pub made_line : (bytes : ℕ) → List ℕ
made_line bytes = line (codes "made " ++ decimal bytes)

abbrev pub assembled_line : (bytes : ℕ) → List ℕ
assembled_line bytes = line (codes "assembled " ++ decimal bytes)

abbrev pub migrated_line : (bytes : ℕ) → List ℕ
migrated_line bytes = line (codes "migrated " ++ decimal bytes)

-- how many strata there are, and how many bytes their file has
abbrev pub strata_line : (strata bytes : ℕ) → List ℕ
strata_line strata bytes = line (codes "strata " ++ decimal strata ++ codes " " ++ decimal bytes)
