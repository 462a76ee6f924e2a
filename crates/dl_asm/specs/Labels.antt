-- A table of labels, as the code keeps it: for each name the first line that has it, and the words before that line.
use Rattle.std.specs.Prelude.{◌≡◌, ℕ, Bool, List, Option, Some, None, if◌then◌else◌}
use Rattle.std.specs.BTreeMap.{get_by}
use Rattle.std.specs.Cmp.Lexicographic.{slice_cmp}
use Rattle.std.specs.List.{position}
use Rattle.std.specs.Option.{option_map, option_or}
use Rattle.std.specs.Ordering.{nat_cmp}
use Rattle.dl_asm.specs.declared.labels.Labels.{Labels}
use Rattle.dl_asm.specs.declared.labels.LabelPlace.{LabelPlace}
use Rattle.dl_asm.specs.Numbers.{capped}
use Rattle.dl_asm.specs.Sources.{place_of, has_label}

unfoldable pub entry_in : Labels → (name : List ℕ) → Option LabelPlace
entry_in labels name = get_by (λ key. slice_cmp nat_cmp name key.now) labels.places

-- the place of the line at an index, cut off beyond every range
abbrev pub entry_at : List (List ℕ) → (index : ℕ) → LabelPlace
entry_at lines i = record { line = i; words = capped (place_of lines i) }

-- each name has the first line with that label
abbrev pub entry_of : List (List ℕ) → (name : List ℕ) → Option LabelPlace
entry_of lines name = option_map (entry_at lines) (position (has_label name) lines)

pub record AreLabels (lines : List (List ℕ)) (labels : Labels) : Type 0 where
  pub each : (name : List ℕ) → entry_in labels name ≡ entry_of lines name

-- once a line is noted: a name keeps the first line that has it
abbrev pub entry_after : Option LabelPlace → (has : Bool) → LabelPlace → Option LabelPlace
entry_after old has place = option_or old (if has then Some place else None)
