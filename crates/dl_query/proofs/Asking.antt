-- What one store more adds to an answer.
use Rattle.std.proofs.Common.{◌≡◌, ◌≢◌, ℕ, ◌+◌, ◌<◌, ◌≤◌, inl, inr, Bool, true, false, cond, not, eqb, List, [], ◌∷◌, ◌++◌, length, drop, get_or, reverse, Option, Some, None, refl, sym, ap, ◌∙◌}
use Rattle.std.specs.Prelude.{find, nat_lt}
use Rattle.std.specs.Option.{option_or}
use Rattle.std.proofs.lemmas.Bool.{ne_eqb, lt-ltb, le-ltb}
use Rattle.std.proofs.lemmas.Bool.Decides.{eqb_tells}
use Rattle.std.proofs.lemmas.List.{append_assoc, append-nil, at_drop_all, at_drop_more, reverse-append}
use Rattle.spec_query.specs.declared.Store.{Store}
use Rattle.spec_query.specs.declared.Line.{Line}
use Rattle.spec_query.specs.declared.When.{When}
use Rattle.spec_query.specs.Queries.{line_of, watch, who, change, at_change, when_changed}

find-append : (t : Line → Bool) (xs ys : List Line) → find t (xs ++ ys) ≡ option_or (find t xs) (find t ys)
find-append t [] ys = refl
find-append t (x ∷ xs) ys =
    elim (t x) as (λ b. cond b (Some x) (find t (xs ++ ys)) ≡ option_or (cond b (Some x) (find t xs)) (find t ys)) [
      | true ↦ refl
      | false ↦ find-append t xs ys
    ]

-- of three optional values the first that is there is the same, however they are paired
pub or_or : {X : Type 0} (a b c : Option X) → option_or (option_or a b) c ≡ option_or a (option_or b c)
or_or None b c = refl
or_or (Some x) b c = refl

-- ---- a store more

-- to the word
pub watch-hit : (s : Store) (ss : List Store) (a : ℕ) → s.address ≡ a → watch (s ∷ ss) a ≡ line_of s ∷ watch ss a
watch-hit s ss a is =
    elim (eqb_tells s.address a) [
      | inl h ↦ rw h.0 refl
      | inr h ↦ absurd (h.1 is)
    ]

-- to another one
pub watch-miss : (s : Store) (ss : List Store) (a : ℕ) → s.address ≢ a → watch (s ∷ ss) a ≡ watch ss a
watch-miss s ss a not =
    elim (eqb_tells s.address a) [
      | inl h ↦ absurd (not h.1)
      | inr h ↦ rw h.0 refl
    ]

-- ---- the last one below a commit

abbrev is_below : (i : ℕ) → Line → Bool
is_below i l = nat_lt l.commit i

last-more : (l : Line) (ls : List Line) (i : ℕ) → find (is_below i) (reverse (l ∷ ls)) ≡ option_or (find (is_below i) (reverse ls)) (find (is_below i) (l ∷ []))
last-more l ls i = ap (find (is_below i)) (reverse-append (l ∷ []) ls) ∙ find-append (is_below i) (reverse ls) (l ∷ [])

none-after : (o : Option Line) → option_or o None ≡ o
none-after None = refl
none-after (Some l) = refl

-- a store in front, to the word and below commit i, is the last if no other is
pub who-hit : (s : Store) (ss : List Store) (a i : ℕ) → s.address ≡ a → s.commit < i → who (s ∷ ss) a i ≡ option_or (who ss a i) (Some (line_of s))
who-hit s ss a i is below =
    ap (λ (ls : List Line). find (is_below i) (reverse ls)) (watch-hit s ss a is)
    ∙ last-more (line_of s) (watch ss a) i
    ∙ ap (λ (b : Bool). option_or (who ss a i) (cond b (Some (line_of s)) None)) (lt-ltb s.commit i below)

-- a store in front, to the word but not below commit i, isn't the last one
pub who-late : (s : Store) (ss : List Store) (a i : ℕ) → s.address ≡ a → i ≤ s.commit → who (s ∷ ss) a i ≡ who ss a i
who-late s ss a i is late =
    ap (λ (ls : List Line). find (is_below i) (reverse ls)) (watch-hit s ss a is)
    ∙ last-more (line_of s) (watch ss a) i
    ∙ ap (λ (b : Bool). option_or (who ss a i) (cond b (Some (line_of s)) None)) (le-ltb s.commit i late)
    ∙ none-after (who ss a i)

-- a store in front, to another word, isn't the last one
pub who-miss : (s : Store) (ss : List Store) (a i : ℕ) → s.address ≢ a → who (s ∷ ss) a i ≡ who ss a i
who-miss s ss a i not = ap (λ (ls : List Line). find (is_below i) (reverse ls)) (watch-miss s ss a not)

-- ---- the first change

abbrev differs : (value : ℕ) → Line → Bool
differs v l = not (eqb l.value v)

-- a store in front, to the word and of another value, is the first change
pub change-hit : (s : Store) (ss : List Store) (a v : ℕ) → s.address ≡ a → s.value ≢ v → change (s ∷ ss) a v ≡ Some (line_of s)
change-hit s ss a v is other =
    ap (find (differs v)) (watch-hit s ss a is)
    ∙ ap (λ (b : Bool). cond (not b) (Some (line_of s)) (change ss a v)) (ne_eqb s.value v other)

-- a store in front, to the word but of the same value, isn't the first change
pub change-same : (s : Store) (ss : List Store) (a v : ℕ) → s.address ≡ a → s.value ≡ v → change (s ∷ ss) a v ≡ change ss a v
change-same s ss a v is same =
    ap (find (differs v)) (watch-hit s ss a is)
    ∙ elim (eqb_tells s.value v) [
      | inl h ↦ ap (λ (b : Bool). cond (not b) (Some (line_of s)) (change ss a v)) h.0
      | inr h ↦ absurd (h.1 same)
    ]

-- a store in front, to another word, isn't the first change
pub change-miss : (s : Store) (ss : List Store) (a v : ℕ) → s.address ≢ a → change (s ∷ ss) a v ≡ change ss a v
change-miss s ss a v not = ap (find (differs v)) (watch-miss s ss a not)

-- ---- a turn of a loop over all stores, of which those from i on are to come

-- the next one is to the word
pub watch-noted : (ss : List Store) (i : ℕ) (d : Store) (a : ℕ) (lines : List Line) → i < length ss → (get_or ss i d).address ≡ a → lines ++ watch (drop i ss) a ≡ watch ss a
    → (lines ++ line_of (get_or ss i d) ∷ []) ++ watch (drop (i + 1) ss) a ≡ watch ss a
watch-noted ss i d a lines h is so_far =
    append_assoc lines (line_of (get_or ss i d) ∷ []) (watch (drop (i + 1) ss) a)
    ∙ ap (λ (ls : List Line). lines ++ ls) (sym (watch-hit (get_or ss i d) (drop (i + 1) ss) a is) ∙ sym (at_drop_more (λ (xs : List Store). watch xs a) ss i d h))
    ∙ so_far

-- the next one is to another word
pub watch-passed : (ss : List Store) (i : ℕ) (d : Store) (a : ℕ) (lines : List Line) → i < length ss → (get_or ss i d).address ≢ a → lines ++ watch (drop i ss) a ≡ watch ss a
    → lines ++ watch (drop (i + 1) ss) a ≡ watch ss a
watch-passed ss i d a lines h not so_far =
    ap (λ (ls : List Line). lines ++ ls) (sym (watch-miss (get_or ss i d) (drop (i + 1) ss) a not) ∙ sym (at_drop_more (λ (xs : List Store). watch xs a) ss i d h)) ∙ so_far

-- none is left
pub watch-done : (ss : List Store) (i a : ℕ) (lines : List Line) → length ss ≤ i → lines ++ watch (drop i ss) a ≡ watch ss a → lines ≡ watch ss a
watch-done ss i a lines past so_far =
    sym (append-nil lines) ∙ sym (ap (λ (ls : List Line). lines ++ ls) (at_drop_all (λ (xs : List Store). watch xs a) ss i past)) ∙ so_far

-- a next store to the word and below commit n becomes the last one so far
pub who-noted : (ss : List Store) (i : ℕ) (d : Store) (a n : ℕ) (last : Option Line) → i < length ss → (get_or ss i d).address ≡ a → (get_or ss i d).commit < n → option_or (who (drop i ss) a n) last ≡ who ss a n
    → option_or (who (drop (i + 1) ss) a n) (Some (line_of (get_or ss i d))) ≡ who ss a n
who-noted ss i d a n last h is below so_far =
    sym (or_or (who (drop (i + 1) ss) a n) (Some (line_of (get_or ss i d))) last)
    ∙ ap (λ (o : Option Line). option_or o last) (sym (who-hit (get_or ss i d) (drop (i + 1) ss) a n is below) ∙ sym (at_drop_more (λ (xs : List Store). who xs a n) ss i d h))
    ∙ so_far

who-passed : (ss : List Store) (i : ℕ) (d : Store) (a n : ℕ) (last : Option Line) → i < length ss → who (get_or ss i d ∷ drop (i + 1) ss) a n ≡ who (drop (i + 1) ss) a n → option_or (who (drop i ss) a n) last ≡ who ss a n
    → option_or (who (drop (i + 1) ss) a n) last ≡ who ss a n
who-passed ss i d a n last h same so_far =
    ap (λ (o : Option Line). option_or o last) (sym same ∙ sym (at_drop_more (λ (xs : List Store). who xs a n) ss i d h)) ∙ so_far

-- after a next store to another word the last one so far stays
pub who-other : (ss : List Store) (i : ℕ) (d : Store) (a n : ℕ) (last : Option Line) → i < length ss → (get_or ss i d).address ≢ a → option_or (who (drop i ss) a n) last ≡ who ss a n
    → option_or (who (drop (i + 1) ss) a n) last ≡ who ss a n
who-other ss i d a n last h not so_far = who-passed ss i d a n last h (who-miss (get_or ss i d) (drop (i + 1) ss) a n not) so_far

-- after a next store to the word but not below commit n the last one so far stays
pub who-above : (ss : List Store) (i : ℕ) (d : Store) (a n : ℕ) (last : Option Line) → i < length ss → (get_or ss i d).address ≡ a → n ≤ (get_or ss i d).commit → option_or (who (drop i ss) a n) last ≡ who ss a n
    → option_or (who (drop (i + 1) ss) a n) last ≡ who ss a n
who-above ss i d a n last h is late so_far = who-passed ss i d a n last h (who-late (get_or ss i d) (drop (i + 1) ss) a n is late) so_far

-- once no store is left, the last one so far is the answer
pub who-done : (ss : List Store) (i a n : ℕ) (last : Option Line) → length ss ≤ i → option_or (who (drop i ss) a n) last ≡ who ss a n → last ≡ who ss a n
who-done ss i a n last past so_far = sym (ap (λ (o : Option Line). option_or o last) (at_drop_all (λ (xs : List Store). who xs a n) ss i past)) ∙ so_far

-- the next one leaves another value
pub change-found : (ss : List Store) (i : ℕ) (d : Store) (a v : ℕ) → i < length ss → (get_or ss i d).address ≡ a → (get_or ss i d).value ≢ v → change (drop i ss) a v ≡ change ss a v
    → change ss a v ≡ Some (line_of (get_or ss i d))
change-found ss i d a v h is other so_far =
    sym so_far ∙ at_drop_more (λ (xs : List Store). change xs a v) ss i d h ∙ change-hit (get_or ss i d) (drop (i + 1) ss) a v is other

-- if the next store is to another word, the first change, if any, comes after it
pub change-other : (ss : List Store) (i : ℕ) (d : Store) (a v : ℕ) → i < length ss → (get_or ss i d).address ≢ a → change (drop i ss) a v ≡ change ss a v
    → change (drop (i + 1) ss) a v ≡ change ss a v
change-other ss i d a v h not so_far =
    sym (at_drop_more (λ (xs : List Store). change xs a v) ss i d h ∙ change-miss (get_or ss i d) (drop (i + 1) ss) a v not) ∙ so_far

-- if the next store leaves the word's value, the first change, if any, comes after it
pub change-kept : (ss : List Store) (i : ℕ) (d : Store) (a v : ℕ) → i < length ss → (get_or ss i d).address ≡ a → (get_or ss i d).value ≡ v → change (drop i ss) a v ≡ change ss a v
    → change (drop (i + 1) ss) a v ≡ change ss a v
change-kept ss i d a v h is same so_far =
    sym (at_drop_more (λ (xs : List Store). change xs a v) ss i d h ∙ change-same (get_or ss i d) (drop (i + 1) ss) a v is same) ∙ so_far

-- if no store is left and none was a change, there is no change
pub change-never : (ss : List Store) (i a v : ℕ) → length ss ≤ i → change (drop i ss) a v ≡ change ss a v → change ss a v ≡ None
change-never ss i a v past so_far = sym so_far ∙ at_drop_all (λ (xs : List Store). change xs a v) ss i past

-- if the word has the value at first, what `when` answers is that change
pub when-same : (ss : List Store) (first a v : ℕ) (o : Option Line) → first ≡ v → change ss a v ≡ o → when_changed ss first a v ≡ at_change o
when-same ss first a v o same is =
    elim (eqb_tells first v) [
      | inl h ↦ ap (λ (b : Bool). cond b (at_change (change ss a v)) When.Start) h.0 ∙ ap at_change is
      | inr h ↦ absurd (h.1 same)
    ]
