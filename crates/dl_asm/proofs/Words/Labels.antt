-- A table of labels has, after one more line, that line's label too, if no earlier one has it.
use Rattle.std.proofs.Common.{◌≡◌, ℕ, ◌+◌, ◌<◌, ◌≤◌, Bool, true, false, cond, eqb, ltb, ◌&&◌, zero, suc, List, [], ◌∷◌, ◌++◌, length, take, get_or, Option, Some, None, is_some, min, refl, sym, ap, ap₂, ◌∙◌, ◌^◌, arith, length-take}
use Rattle.std.specs.List.{position, position_or_len, list_any}
use Rattle.std.specs.Option.{option_map, option_or}
use Rattle.std.specs.Str.{bytes_eq}
use Rattle.std.proofs.lemmas.Bool.{false_from_ne_true}
use Rattle.std.proofs.lemmas.Bool.Decides.{nat_tests}
use Rattle.std.proofs.lemmas.List.{take_more, length_push}
use Rattle.std.proofs.lemmas.List.Folds.{position_or_len_push}
use Rattle.std.proofs.lemmas.List.Sums.{prefix_len-le-length, sum_by_more}
use Rattle.std.proofs.lemmas.Slice.Eq.{bytes_eq-Decides}
use Rattle.dl_asm.specs.declared.labels.LabelPlace.{LabelPlace}
use Rattle.dl_asm.specs.Labels.{entry_after, entry_at}
use Rattle.dl_asm.specs.Numbers.{capped}
use Rattle.dl_asm.specs.Lines.{count_of}
use Rattle.dl_asm.specs.Sources.{place_of, has_label}

or-none : (old : Option LabelPlace) → old ≡ option_or old None
or-none None = refl
or-none (Some x) = refl

or-some : (old new : Option LabelPlace) → is_some old ≡ true → old ≡ option_or old new
or-some None new e = cc
or-some (Some x) new e = refl

or-new : (old new : Option LabelPlace) → is_some old ≡ false → new ≡ option_or old new
or-new None new e = refl
or-new (Some x) new e = cc

kept-by : (f : List ℕ → Option LabelPlace) (label name : List ℕ) (place : LabelPlace) (b : Bool) → bytes_eq name label ≡ b → is_some (f label) ≡ true → f name ≡ entry_after (f name) b place
kept-by f label name place true e some =
    or-some (f name) (Some place) (ap (λ n. is_some (f n)) ((bytes_eq-Decides name label).0 e) ∙ some)
kept-by f label name place false e some = or-none (f name)

-- a label that is there stays where it is
pub kept : (f : List ℕ → Option LabelPlace) (label name : List ℕ) (place : LabelPlace) → is_some (f label) ≡ true → f name ≡ entry_after (f name) (bytes_eq name label) place
kept f label name place some = kept-by f label name place (bytes_eq name label) refl some

added-by : (f : List ℕ → Option LabelPlace) (label name : List ℕ) (place : LabelPlace) (b : Bool) → bytes_eq name label ≡ b → is_some (f label) ≡ false
    → cond (bytes_eq label name) (Some place) (f name) ≡ entry_after (f name) b place
added-by f label name place true e none =
    let same : name ≡ label = (bytes_eq-Decides name label).0 e in
    ap (λ b. cond b (Some place) (f name)) ((bytes_eq-Decides label name).1 (sym same))
    ∙ or-new (f name) (Some place) (ap (λ n. is_some (f n)) same ∙ none)
added-by f label name place false e none =
    let apart : bytes_eq label name ≡ false = false_from_ne_true (bytes_eq label name) (λ h. let other = (bytes_eq-Decides name label).1 (sym ((bytes_eq-Decides label name).0 h)) in cc) in
    ap (λ b. cond b (Some place) (f name)) apart ∙ or-none (f name)

-- one that isn't gets the line's place
pub added : (f : List ℕ → Option LabelPlace) (label name : List ℕ) (place : LabelPlace) → is_some (f label) ≡ false
    → cond (bytes_eq label name) (Some place) (f name) ≡ entry_after (f name) (bytes_eq name label) place
added f label name place none = added-by f label name place (bytes_eq name label) refl none

-- ---- the first place of a list with one more element

place-push : (n m : ℕ) (b : Bool) → n ≤ m
    → cond (ltb (cond (eqb n m) (m + cond b 0 1) n) (m + 1)) (Some (cond (eqb n m) (m + cond b 0 1) n)) None
    ≡ option_or (cond (ltb n m) (Some n) None) (cond b (Some m) None)
place-push n m true l = grind (arith, nat_tests)
place-push n m false l = grind (arith, nat_tests)

position-push : (p : List ℕ → Bool) (xs : List (List ℕ)) (y : List ℕ) → position p (xs ++ y ∷ []) ≡ option_or (position p xs) (cond (p y) (Some (length xs)) None)
position-push p xs y =
    let n = position_or_len p xs in
    let longer : length (xs ++ y ∷ []) ≡ length xs + 1 = length_push xs y in
    ap₂ (λ k m. cond (ltb k m) (Some k) None) (position_or_len_push p xs y) longer ∙ place-push n (length xs) (p y) (prefix_len-le-length _ xs)

map-or : (f : ℕ → LabelPlace) (old : Option ℕ) (b : Bool) (i : ℕ) → option_map f (option_or old (cond b (Some i) None)) ≡ entry_after (option_map f old) b (f i)
map-or f (Some x) b i = refl
map-or f None true i = refl
map-or f None false i = refl

-- each name's entry, once the line of index i is noted
pub entry-more : (lines : List (List ℕ)) (name line : List ℕ) (i : ℕ) → i < length lines → line ≡ get_or lines i []
    → option_map (entry_at lines) (position (has_label name) (take (i + 1) lines)) ≡ entry_after (option_map (entry_at lines) (position (has_label name) (take i lines))) (has_label name line) (entry_at lines i)
entry-more lines name line i l e =
    let front = take i lines in
    let there : length front ≡ i = omega (arith, length-take i lines) in
    ap (λ t. option_map (entry_at lines) (position (has_label name) t)) (take_more lines i [] l)
    ∙ ap (option_map (entry_at lines)) (position-push (has_label name) front (get_or lines i []))
    ∙ ap₂ (λ k t. option_map (entry_at lines) (option_or (position (has_label name) front) (cond (has_label name t) (Some k) None))) there (sym e)
    ∙ map-or (entry_at lines) (position (has_label name) front) (has_label name line) i

-- the words before the next line are those before this one, and as many as it counts
pub place-more : (lines : List (List ℕ)) (line : List ℕ) (i : ℕ) → i < length lines → line ≡ get_or lines i [] → place_of lines (i + 1) ≡ place_of lines i + count_of line
place-more lines line i l e = sum_by_more count_of lines i [] l ∙ ap (λ t. place_of lines i + count_of t) (sym e)

-- adding to a cut number and cutting the sum is cutting the sum
pub capped-more : (w n : ℕ) → min (capped w + n) (2 ^ 33) ≡ capped (w + n)
capped-more w n = omega arith

-- ---- whether an earlier line has a label

and-true : (b : Bool) → (b && true) ≡ b
and-true true = refl
and-true false = refl

and-false : (b : Bool) → (b && false) ≡ false
and-false true = refl
and-false false = refl

any-front : (p : List ℕ → Bool) (x : List ℕ) (xs : List (List ℕ)) (i : ℕ) (b : Bool) → p x ≡ b
    → list_any p (take i xs) ≡ (ltb (position_or_len p xs) i && ltb (position_or_len p xs) (length xs))
    → list_any p (take (suc i) (x ∷ xs)) ≡ (ltb (position_or_len p (x ∷ xs)) (suc i) && ltb (position_or_len p (x ∷ xs)) (length (x ∷ xs)))
any-front p x xs i true e h = rw e (grind (arith, nat_tests))
any-front p x xs i false e h = rw e (h ∙ grind (arith, nat_tests))

any-below : (p : List ℕ → Bool) (xs : List (List ℕ)) (i : ℕ) → list_any p (take i xs) ≡ (ltb (position_or_len p xs) i && ltb (position_or_len p xs) (length xs))
any-below p [] zero = refl
any-below p [] (suc i) = grind (arith, nat_tests)
any-below p (x ∷ xs) zero = grind (arith, nat_tests)
any-below p (x ∷ xs) (suc i) = any-front p x xs i (p x) refl (any-below p xs i)

-- whether a line was found, and it is before line i
abbrev pub is_before : Option ℕ → ℕ → Bool
is_before None i = false
is_before (Some k) i = ltb k i

any-placed : (n m i : ℕ) (b : Bool) → (ltb n i && b) ≡ is_before (cond b (Some n) None) i
any-placed n m i true = and-true (ltb n i)
any-placed n m i false = and-false (ltb n i)

any-place : (n m i : ℕ) → (ltb n i && ltb n m) ≡ is_before (cond (ltb n m) (Some n) None) i
any-place n m i = any-placed n m i (ltb n m)

-- the first line with the label is before
pub repeated : (lines : List (List ℕ)) (name : List ℕ) (i : ℕ) → list_any (has_label name) (take i lines) ≡ is_before (position (has_label name) lines) i
repeated lines name i = any-below (has_label name) lines i ∙ any-place (position_or_len (has_label name) lines) (length lines) i

-- an entry that the table has is of an earlier line exactly if the line found for it is
pub entry-before : (lines : List (List ℕ)) (found : Option ℕ) (place : LabelPlace) (i : ℕ) → Some place ≡ option_map (entry_at lines) found → ltb place.line i ≡ is_before found i
entry-before lines None place i e = cc
entry-before lines (Some k) place i e = let same : place ≡ entry_at lines k = cc in ap (λ q. ltb q.line i) same

-- if the table has no entry, no earlier line has the name
pub entry-absent : (lines : List (List ℕ)) (found : Option ℕ) (i : ℕ) → None ≡ option_map (entry_at lines) found → false ≡ is_before found i
entry-absent lines None i e = refl
entry-absent lines (Some k) i e = cc
