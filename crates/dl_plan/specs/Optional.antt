-- Words on what may be there.
use Rattle.std.specs.Prelude.{ℕ, Bool, true, List, [], ◌∷◌, Option, Some, None, option_map, option_and_then, Result, Ok, Err}

-- `o.and_then(f)`
infixl 10 ◌>>=◌
abbrev pub ◌>>=◌ : {A B : Type 0} → Option A → (A → Option B) → Option B
o >>= f = option_and_then f o

-- the same of a `Result`
infixl 10 ◌>>◌
abbrev pub ◌>>◌ : {A B : Type 0} → Result A ℕ → (A → Result B ℕ) → Result B ℕ
Err rule >> f = Err rule
Ok a >> f = f a

-- what f makes of what is there: None where something is there of which it makes nothing
abbrev pub if_there : {A B : Type 0} → (A → Option B) → Option A → Option (Option B)
if_there f None = Some None
if_there f (Some a) = option_map Some (f a)

-- what is there, if anything is, passes the test
abbrev pub passes : {A : Type 0} → (A → Bool) → Option A → Bool
passes test None = true
passes test (Some a) = test a

-- what f makes of each, where it makes something of each
abbrev pub each_of : {A B : Type 0} → (A → Option B) → List A → Option (List B)
each_of f [] = Some []
each_of f (a ∷ rest) = f a >>= λ b. option_map (λ bs. b ∷ bs) (each_of f rest)
