-- The table of labels that the code checks lines with, beside where the labels are.
use Rattle.std.specs.Prelude.{◌≡◌, ℕ, List, Option}
use Rattle.std.specs.Option.{option_map}
use Rattle.dl_asm.specs.declared.labels.Labels.{Labels}
use Rattle.dl_asm.specs.Labels.{entry_in}
use Rattle.dl_asm.specs.Numbers.{capped}

-- `places` says where each label is; the table says the same, cut off beyond every range
pub record IsWhere (labels : Labels) (places : List ℕ → Option ℕ) : Type 0 where
  pub each : (name : List ℕ) → option_map (λ place. place.words) (entry_in labels name) ≡ option_map capped (places name)
