-- What is true of both answers of a choice is true of it.
use Rattle.std.proofs.Common.{◌≡◌, Bool, true, false, Option, Some, None, refl}
use Rattle.spec_engine.specs.Choices.{on_option, choose}

-- what holds of the answer to none, if there is no value, and of the answer to the value, if there is one, holds of an option's answer
pub keep_option : {A B : Type 0} (P : B → Type 0) (o : Option A) (none : B) (some : A → B) → (o ≡ None → P none) → ((x : A) → o ≡ Some x → P (some x)) → P (on_option o none some)
unfolding on_option
keep_option P None none some p q = p refl
keep_option P (Some x) none some p q = q x refl

-- what holds of each of two answers, whenever the test picks it, holds of the chosen one
pub keep_choose : {B : Type 0} (P : B → Type 0) (b : Bool) (x y : B) → (b ≡ true → P x) → (b ≡ false → P y) → P (choose b x y)
unfolding choose
keep_choose P true x y p q = p refl
keep_choose P false x y p q = q refl
