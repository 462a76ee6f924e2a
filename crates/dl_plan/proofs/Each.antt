-- What is made of each element of a list is made one after another, up to the first of which nothing is.
use Rattle.std.proofs.Common.{◌≡◌, ℕ, suc, ◌+◌, ◌<◌, List, [], ◌∷◌, ◌++◌, map, length, drop, get_or, Option, None, Some, option_map, refl, sym, ap, ◌∙◌, append_assoc}
use Rattle.std.proofs.lemmas.List.{at_drop_more, map-append}
use Rattle.dl_plan.specs.Optional.{◌>>=◌, each_of}

-- what comes after `done` in what is made of each
abbrev pub after : {B : Type 0} → List B → Option (List B) → Option (List B)
after done rest = option_map (λ r. done ++ r) rest

after_push : {B : Type 0} (done : List B) (b : B) (rest : Option (List B)) → after done (option_map (λ r. b ∷ r) rest) ≡ after (done ++ (b ∷ [])) rest
after_push done b None = refl
after_push done b (Some r) = ap Some (sym (append_assoc done (b ∷ []) r))

-- an element of which something is made is one more that is done
after_one : {A B : Type 0} (f : A → Option B) (done : List B) (x : A) (b : B) (xs : List A) → f x ≡ Some b → after done (each_of f (x ∷ xs)) ≡ after (done ++ (b ∷ [])) (each_of f xs)
after_one f done x b xs e = rw e (after_push done b (each_of f xs))

-- one turn of a loop: what is made of the next element is put after what is done
pub next_after : {X Y A B : Type 0} (f : A → Option B) (view : X → A) (made : Y → B) (xs : List X) (i : ℕ) (d : X) (y : Y) (done more : List Y) → i < length xs
    → f (view (get_or xs i d)) ≡ Some (made y) → more ≡ done ++ (y ∷ []) → each_of f (map view xs) ≡ after (map made done) (each_of f (map view (drop i xs)))
    → each_of f (map view xs) ≡ after (map made more) (each_of f (map view (drop (i + 1) xs)))
next_after f view made xs i d y done more l e pushed before =
    before ∙ at_drop_more (λ rest. after (map made done) (each_of f (map view rest))) xs i d l
    ∙ after_one f (map made done) (view (get_or xs i d)) (made y) (map view (drop (i + 1) xs)) e
    ∙ ap (λ bs. after bs (each_of f (map view (drop (i + 1) xs)))) (sym (ap (map made) pushed ∙ map-append made done (y ∷ [])))

length_cons : {B : Type 0} (b : B) (rest : Option (List B)) (bs : List B) (n : ℕ) → ((cs : List B) → rest ≡ Some cs → length cs ≡ n) → option_map (λ r. b ∷ r) rest ≡ Some bs → length bs ≡ suc n
length_cons b None bs n h e = absurd (cc)
length_cons b (Some cs) bs n h e = let same : b ∷ cs ≡ bs = cc in ap length (sym same) ∙ ap suc (h cs refl)

length_bound : {B : Type 0} (o : Option B) (rest : Option (List B)) (bs : List B) (n : ℕ) → ((cs : List B) → rest ≡ Some cs → length cs ≡ n) → (o >>= λ b. option_map (λ r. b ∷ r) rest) ≡ Some bs → length bs ≡ suc n
length_bound None rest bs n h e = absurd (cc)
length_bound (Some b) rest bs n h e = length_cons b rest bs n h e

-- as many are made as there are
pub each_length : {A B : Type 0} (f : A → Option B) (xs : List A) (ys : List B) → each_of f xs ≡ Some ys → length ys ≡ length xs
each_length f [] ys e = let same : [] ≡ ys = cc in ap length (sym same)
each_length f (x ∷ xs) ys e = length_bound (f x) (each_of f xs) ys (length xs) (λ cs h. each_length f xs cs h) e
