-- Choices between answers, kept closed so that a proof goes through them one at a time.
use Rattle.std.specs.Prelude.{Bool, true, false, Option, Some, None}

-- by whether there is a value
unfoldable pub on_option : {A B : Type 0} → Option A → (none : B) → (some : A → B) → B
on_option None n s = n
on_option (Some x) n s = s x

-- by a test
unfoldable pub choose : {B : Type 0} → Bool → (where_true where_false : B) → B
choose true x y = x
choose false x y = y
