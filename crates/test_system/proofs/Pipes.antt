-- Whether a name is among those of the pipes.
use Rattle.std.proofs.Common.{◌≡◌, ◌↔◌, ℕ, List, [], ◌∷◌, map, Bool, ◌||◌, Contains, IsTrue, bytes_eq, refl, sym, ap, ◌∙◌}
use Rattle.std.specs.List.{list_any}
use Rattle.std.specs.Cmp.{back_equiv}
use Rattle.std.specs.Ordering.{flip_args}
use Rattle.std.proofs.lemmas.Cmp.{nat_list_eq_equiv}
use Rattle.std.proofs.lemmas.Map.Views.{Contains-from_any, list_any-from_Contains}
use Rattle.std.proofs.lemmas.Slice.Eq.{bytes_eq-Decides}

pub list_any-map : {A B : Type 0} (p : B → Bool) (f : A → B) (xs : List A) → list_any p (map f xs) ≡ list_any (λ x. p (f x)) xs
list_any-map p f [] = refl
list_any-map p f (x ∷ xs) = ap (λ b. p (f x) || b) (list_any-map p f xs)

pub is_named : (names : List (List ℕ)) (name : List ℕ) (found : Bool) → found ≡ list_any (λ n. bytes_eq n name) names → IsTrue found ↔ Contains names name
is_named names name found e = (
  λ t. Contains-from_any {eq = flip_args bytes_eq} (λ x y h. sym ((bytes_eq-Decides y x).0 h)) name names (sym e ∙ t),
  λ c. e ∙ list_any-from_Contains {eq = flip_args bytes_eq} (back_equiv nat_list_eq_equiv) name names c,
)
