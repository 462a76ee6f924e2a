-- What is written: names with their bytes, in order.
use Rattle.std.specs.Prelude.{ℕ, Bool, true, false, List, [], ◌∷◌, map}
use Rattle.std.specs.FinMap.{insert}
use Rattle.dl_files.specs.Contents.{Contents}
use Rattle.dl_plan.specs.declared.Product.{Product}
use Rattle.dl_plan.specs.Files.{OutputValues, outputs_of}
use Rattle.dl_plan.specs.Values.{PlanValues}

-- a file is written at once, or in pieces from its front on
pub record Write : Type 0 where
  pub name : List ℕ
  pub bytes : List ℕ
  pub in_pieces : Bool

abbrev pub at_once : (name bytes : List ℕ) → Write
at_once name bytes = record { name = name; bytes = bytes; in_pieces = false }

abbrev pub piece_by_piece : (name bytes : List ℕ) → Write
piece_by_piece name bytes = record { name = name; bytes = bytes; in_pieces = true }

-- a file that is to be written, with what is made for it
abbrev pub filled : (made : Product → List ℕ) → (in_pieces : Product → Bool) → OutputValues → Write
filled made in_pieces o = record { name = o.name; bytes = made o.product; in_pieces = in_pieces o.product }

-- each file that the plan has written, in its order
abbrev pub outputs_filled : (made : Product → List ℕ) → (in_pieces : Product → Bool) → PlanValues → List Write
outputs_filled made in_pieces p = map (filled made in_pieces) (outputs_of p)

-- the contents after these writes
abbrev pub written : List Write → Contents → Contents
written [] m = m
written (w ∷ ws) m = written ws (insert m w.name w.bytes)
