-- A document and its tables hold what the grammar reads of its bytes.
use Rattle.std.proofs.Common.{◌≡◌, ℕ, Bool, true, false, cond, ◌&&◌, List, [], ◌∷◌, IsUtf8, Option, None, string_bytes, refl, ap}
use Rattle.std.proofs.lemmas.Str.{IsUtf8-from_is_utf8, is_utf8-from_IsUtf8}
use Rattle.std.specs.List.{list_all}
use Rattle.std.specs.Map.{keys_of}
use Rattle.std.specs.Str.{is_utf8}
use Rattle.toml.proofs.Views.{Entry}
use Rattle.toml.specs.Data.{Members}
use Rattle.toml.specs.Parse.{parse_document}
use Rattle.toml.specs.Data.{Data}
use Rattle.toml.specs.View.{items_of, members_view}
use Rattle.dl_plan.specs.Keys.{list_of, has_only}
use Rattle.dl_plan.specs.Names.{is_one_of}
use Rattle.dl_plan.specs.Plans.{document}

-- bytes that are UTF-8 are read by the grammar
pub document-utf8 : (bytes : List ℕ) → IsUtf8 bytes → document bytes ≡ parse_document bytes
document-utf8 bytes h = rw (is_utf8-from_IsUtf8 bytes h)

document_by : (b : Bool) (read : Option Members) → (b ≡ true → read ≡ None) → cond b read None ≡ None
document_by true read h = h refl
document_by false read h = refl

-- bytes that the grammar refuses where they are UTF-8 are no document
pub document-none : (bytes : List ℕ) → (IsUtf8 bytes → parse_document bytes ≡ None) → document bytes ≡ None
document-none bytes h = document_by (is_utf8 bytes) (parse_document bytes) (λ e. h (IsUtf8-from_is_utf8 bytes e))

-- a table has only these keys where each key of its map is one
pub has_only-keys : (keys : List (List ℕ)) (es : List Entry) → list_all (λ k. is_one_of keys (string_bytes k)) (keys_of es) ≡ has_only keys (members_view es)
has_only-keys keys [] = refl
has_only-keys keys (e ∷ es) = ap (λ b. is_one_of keys (string_bytes e.0) && b) (has_only-keys keys es)

-- a list is the items that it makes
pub list_of_items : (ds : List Data) → list_of (items_of ds) ≡ ds
list_of_items [] = refl
list_of_items (d ∷ ds) = ap (λ rest. d ∷ rest) (list_of_items ds)
