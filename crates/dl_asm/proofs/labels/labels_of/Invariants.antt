use Rattle.std.proofs.Common.{◌≡◌, ℕ, ◌≤◌, List, length, take}
use Rattle.std.specs.List.{position}
use Rattle.std.specs.Option.{option_map}
use Rattle.dl_asm.specs.declared.labels.Labels.{Labels}
use Rattle.dl_asm.specs.declared.labels.LabelPlace.{LabelPlace}
use Rattle.dl_asm.specs.Labels.{entry_in, entry_at}
use Rattle.dl_asm.specs.Sources.{lines_of, has_label}
use Rattle.dl_asm.proofs.labels.labels_of.Given as goal

-- the labels of the first lines, and the place of the next
pub record IsNoted (lines : List (List ℕ)) (i : ℕ) (labels : Labels) (place : LabelPlace) : Type 0 where
  pub within : i ≤ length lines
  pub here : place ≡ entry_at lines i
  pub each : (name : List ℕ) → entry_in labels name ≡ option_map (entry_at lines) (position (has_label name) (take i lines))

abbrev pub invariant-loop-line : goal.invariant-loop-line
invariant-loop-line l = IsNoted (lines_of l.source) (length l.yielded) l.labels l.place
