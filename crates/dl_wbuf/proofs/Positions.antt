-- Where the first word of a number is, as words are put, stored again and taken out.
use Rattle.std.proofs.Common.{◌≡◌, ◌≢◌, ℕ, ◌+◌, ◌-◌, ◌<◌, ◌≤◌, inl, inr, zero, suc, Bool, true, false, cond, eqb, List, [], ◌∷◌, ◌++◌, length, get_or, take, Option, Some, None, refl, sym, ap, ◌∙◌, arith, length-append, subst}
use Rattle.std.specs.Prelude.{slice_set}
use Rattle.std.specs.List.{position, position_or_len}
use Rattle.std.proofs.Math.ListN.{length-set}
use Rattle.std.proofs.lemmas.Bool.{cases_lt, lt-ltb, le-ltb, ne_eqb, eq-eqb}
use Rattle.std.proofs.lemmas.Bool.Decides.{eqb_tells}
use Rattle.std.proofs.lemmas.List.{length-take-le, take_more}
use Rattle.std.proofs.lemmas.List.Folds.{position_or_len-set, position_or_len_push}
use Rattle.spec_isa.specs.Words.{Stored, Lacks, Apart}
use Rattle.dl_wbuf.specs.Invariant.{left, IsPlaced}
use Rattle.dl_wbuf.specs.Tables.{Slots, slot_of, place_in, place}
use Rattle.dl_wbuf.proofs.Places.{is_of}
use Rattle.dl_wbuf.proofs.Probes.{first_le}

some_before : {X : Type 0} (p : X → Bool) (xs : List X) → position_or_len p xs < length xs → position p xs ≡ Some (position_or_len p xs)
some_before p xs inside = rw (lt-ltb _ _ inside) refl

none_at_end : {X : Type 0} (p : X → Bool) (xs : List X) → length xs ≤ position_or_len p xs → position p xs ≡ None
none_at_end p xs outside = rw (le-ltb _ _ outside) refl

at_end : {X : Type 0} (p : X → Bool) (xs : List X) → position p xs ≡ None → position_or_len p xs ≡ length xs
at_end p xs none =
    elim (cases_lt (position_or_len p xs) (length xs)) [
      | inl inside ↦ let f = some_before p xs inside in absurd cc
      | inr outside ↦ omega (arith, first_le p xs)
    ]

-- ---- one more

-- if none passed before, the one added at the end is the first to pass
pub position-new : {X : Type 0} (p : X → Bool) (xs : List X) (y : X) → position p xs ≡ None → p y ≡ true → position p (xs ++ y ∷ []) ≡ Some (length xs)
position-new p xs y none passes =
    let end : position_or_len p xs ≡ length xs = at_end p xs none in
    let e : position_or_len p (xs ++ y ∷ []) ≡ length xs + 0 = position_or_len_push p xs y ∙ rw (eq-eqb _ _ end, passes) refl in
    let inside : position_or_len p (xs ++ y ∷ []) < length (xs ++ y ∷ []) = rw (e, length-append) (omega arith) in
    some_before p (xs ++ y ∷ []) inside ∙ ap (λ n. Some n) (omega arith)

-- one added at the end that fails doesn't change which is the first to pass
pub position-other : {X : Type 0} (p : X → Bool) (xs : List X) (y : X) → p y ≡ false → position p (xs ++ y ∷ []) ≡ position p xs
position-other p xs y fails =
    elim (cases_lt (position_or_len p xs) (length xs)) [
      | inl inside ↦
          let ne : position_or_len p xs ≢ length xs = omega arith in
          let e : position_or_len p (xs ++ y ∷ []) ≡ position_or_len p xs = position_or_len_push p xs y ∙ rw (ne_eqb _ _ ne) refl in
          some_before p (xs ++ y ∷ []) (rw (e, length-append) (omega arith)) ∙ ap (λ n. Some n) e ∙ sym (some_before p xs inside)
      | inr outside ↦
          let end : position_or_len p xs ≡ length xs = omega (arith, first_le p xs) in
          let e : position_or_len p (xs ++ y ∷ []) ≡ length xs + 1 = position_or_len_push p xs y ∙ rw (eq-eqb _ _ end, fails) refl in
          none_at_end p (xs ++ y ∷ []) (rw (e, length-append) (omega arith)) ∙ sym (none_at_end p xs outside)
    ]

-- putting one in place of another that is tested the same doesn't change which passes first
pub position-again : {X : Type 0} (p : X → Bool) (xs : List X) (i : ℕ) (y d : X) → p y ≡ p (get_or xs i d) → position p (slice_set xs i y) ≡ position p xs
position-again p xs i y d e = rw (position_or_len-set p xs i y d e, length-set xs i y) refl

-- ---- words that are apart

lacking : (ws : List Stored) (a : ℕ) → Lacks a ws → position_or_len (is_of a) ws ≡ length ws
lacking [] a lacks = refl
lacking (s ∷ ss) a lacks = rw (ne_eqb _ _ lacks.0) (omega (arith, lacking ss a lacks.1))

lacks_at : (ws : List Stored) (a i : ℕ) (d : Stored) → Lacks a ws → i < length ws → (get_or ws i d).number ≢ a
lacks_at [] a i d lacks inside = absurd (omega arith)
lacks_at (s ∷ ss) a zero d lacks inside = lacks.0
lacks_at (s ∷ ss) a (suc i) d lacks inside = lacks_at ss a i d lacks.1 (omega arith)

before : (ws : List Stored) (i : ℕ) (d : Stored) → Apart ws → i < length ws → position_or_len (is_of (get_or ws i d).number) (take i ws) ≡ length (take i ws)
before [] i d apart inside = absurd (omega arith)
before (s ∷ ss) zero d apart inside = refl
before (s ∷ ss) (suc i) d apart inside =
    let ne : s.number ≢ (get_or ss i d).number = λ e. lacks_at ss s.number i d apart.0 (omega arith) (sym e) in
    rw (ne_eqb _ _ ne) (omega (arith, before ss i d apart.1 (omega arith)))

-- a word is nowhere before its place
pub position-before : (ws : List Stored) (i : ℕ) (d : Stored) → Apart ws → i < length ws → position (is_of (get_or ws i d).number) (take i ws) ≡ None
position-before ws i d apart inside = none_at_end _ (take i ws) (omega (arith, before ws i d apart inside))

-- ---- the first word is taken out

left_some : (d k : ℕ) (o : Option ℕ) → left d o ≡ Some k → o ≡ Some (d + k)
left_some d k None h = absurd cc
left_some d k (Some w) h =
    elim (cases_lt w d) [
      | inl gone ↦ let f : left d (Some w) ≡ None = rw (lt-ltb _ _ gone) refl in absurd cc
      | inr stands ↦
          let f : left d (Some w) ≡ Some (w - d) = rw (le-ltb _ _ stands) refl in
          let e : w - d ≡ k = cc in
          ap (λ n. Some n) (omega arith)
    ]

left_none : (d : ℕ) (o : Option ℕ) → left d o ≡ None → left (1 + d) o ≡ None
left_none d None h = refl
left_none d (Some w) h =
    elim (cases_lt w d) [
      | inl gone ↦ rw (lt-ltb w (1 + d) (omega arith)) refl
      | inr stands ↦ let f : left d (Some w) ≡ Some (w - d) = rw (le-ltb _ _ stands) refl in absurd cc
    ]

left_at : (d k : ℕ) → left d (Some (d + k)) ≡ Some k
left_at d k = rw (le-ltb (d + k) d (omega arith)) (ap (λ n. Some n) (omega arith))

left_gone : (d : ℕ) → left (1 + d) (Some (d + 0)) ≡ None
left_gone d = rw (lt-ltb (d + 0) (1 + d) (omega arith)) refl

-- once the first word is taken out, a number's kept place gives its position among the rest
pub left-drained : (d a : ℕ) (o : Option ℕ) (s : Stored) (ss : List Stored) → Lacks s.number ss → left d o ≡ position (is_of a) (s ∷ ss) → left (1 + d) o ≡ position (is_of a) ss
left-drained d a o s ss lacks h =
    elim (eqb_tells s.number a) [
      | inl it ↦
          let zero_at : position_or_len (is_of a) (s ∷ ss) ≡ 0 = rw it.0 refl in
          let first : position (is_of a) (s ∷ ss) ≡ Some 0 = some_before (is_of a) (s ∷ ss) (rw zero_at (omega arith)) ∙ ap (λ n. Some n) zero_at in
          let o_is : o ≡ Some (d + 0) = left_some d 0 o (h ∙ first) in
          let none : position (is_of a) ss ≡ None = none_at_end (is_of a) ss (omega (arith, lacking ss a (subst (λ w. Lacks w ss) it.1 lacks))) in
          rw (o_is, none) (left_gone d)
      | inr it ↦
          let e : position_or_len (is_of a) (s ∷ ss) ≡ 1 + position_or_len (is_of a) ss = rw it.0 refl in
          elim (cases_lt (position_or_len (is_of a) ss) (length ss)) [
            | inl inside ↦
                let later : position (is_of a) (s ∷ ss) ≡ Some (1 + position_or_len (is_of a) ss) = some_before (is_of a) (s ∷ ss) (rw e (omega arith)) ∙ ap (λ n. Some n) e in
                let o_is : o ≡ Some (d + (1 + position_or_len (is_of a) ss)) = left_some d _ o (h ∙ later) in
                let f : d + (1 + position_or_len (is_of a) ss) ≡ 1 + d + position_or_len (is_of a) ss = omega arith in
                rw (o_is, f) (left_at (1 + d) _ ∙ sym (some_before (is_of a) ss inside))
            | inr outside ↦
                let none : position (is_of a) (s ∷ ss) ≡ None = none_at_end (is_of a) (s ∷ ss) (rw e (omega arith)) in
                left_none d o (h ∙ none) ∙ sym (none_at_end (is_of a) ss outside)
          ]
    ]

-- ---- a table and its words

-- the outcome of a look-up
pub position-found : (capacity drained : ℕ) (table : Slots) (ws : List Stored) (number slot : ℕ) (o r : Option ℕ) → IsPlaced capacity drained table ws → slot ≡ slot_of table number → o ≡ place_in table slot → r ≡ left drained o → position (is_of number) ws ≡ r
position-found c d t ws a slot o r h at held is = sym (is ∙ ap (left d) (held ∙ ap (place_in t) at) ∙ h.places a)

-- with one more word taken out, but fewer than the capacity, the table has the places of those left
pub IsPlaced-drained : (capacity drained next : ℕ) (table : Slots) (ws : List Stored) (s : Stored) (ss : List Stored) → ws ≡ s ∷ ss → Apart ws → IsPlaced capacity drained table ws → next ≡ 1 + drained → next ≢ capacity → IsPlaced capacity next table ss
IsPlaced-drained c d n t ws s ss e apart h next ne =
    let was = rw e at h in
    rw next (record {
      places = λ a. left-drained d a (place t a) s ss ((rw e at apart).0) (was.places a);
      taken = omega (arith, was.taken);
      room = was.room;
      few = omega (arith, was.few);
    })

-- a word that is there is stored again
pub IsPlaced-again : (capacity drained : ℕ) (table : Slots) (ws : List Stored) (i : ℕ) (new d : Stored) → new.number ≡ (get_or ws i d).number → IsPlaced capacity drained table ws → IsPlaced capacity drained table (slice_set ws i new)
IsPlaced-again c n t ws i new d same h =
    record {
      places = λ a. h.places a ∙ sym (position-again (is_of a) ws i new d (ap (λ w. eqb w a) same));
      taken = rw (length-set ws i new) h.taken;
      room = h.room;
      few = h.few;
    }

-- a new word comes last
pub IsPlaced-new : (capacity drained : ℕ) (old table : Slots) (ws : List Stored) (new : Stored) (number : ℕ) → new.number ≡ number → position (is_of number) ws ≡ None → IsPlaced capacity drained old ws → ((a : ℕ) → place table a ≡ cond (eqb a number) (Some (drained + length ws)) (place old a)) → length table.taken ≤ length old.taken + 1 → table.room ≡ old.room → IsPlaced capacity drained table (ws ++ new ∷ [])
IsPlaced-new c n old t ws new number is none h places taken room =
    record {
      places = λ a. rw (places a) (elim (eqb_tells a number) [
        | inl it ↦ rw it.0 (left_at n (length ws) ∙ sym (rw it.1 (position-new (is_of number) ws new none (eq-eqb _ _ is))))
        | inr it ↦ rw it.0 (h.places a ∙ sym (position-other (is_of a) ws new (ne_eqb _ _ (λ e. it.1 (sym e ∙ is)))))
      ]);
      taken = rw length-append (omega (arith, h.taken));
      room = room ∙ h.room;
      few = h.few;
    }

-- ---- a table that is filled anew

-- the first i words have their places
pub record IsFilled (table : Slots) (ws : List Stored) (i : ℕ) : Type 0 where
  pub places : (a : ℕ) → place table a ≡ position (is_of a) (take i ws)
  pub taken : length table.taken ≤ i

-- a table with the places of the first i words has those of i + 1 once the next word's place is set
pub IsFilled-more : (old table : Slots) (ws : List Stored) (i number : ℕ) (d : Stored) → Apart ws → i < length ws → number ≡ (get_or ws i d).number → IsFilled old ws i → ((a : ℕ) → place table a ≡ cond (eqb a number) (Some i) (place old a)) → length table.taken ≤ length old.taken + 1 → IsFilled table ws (i + 1)
IsFilled-more old t ws i number d apart inside is h places taken =
    let w : Stored = get_or ws i d in
    let before : List Stored = take i ws in
    let len : length before ≡ i = length-take-le i ws (omega arith) in
    record {
      places = λ a. rw (take_more ws i d inside, places a, is) (elim (eqb_tells a w.number) [
        | inl it ↦ rw it.0 (sym (rw it.1 (position-new (is_of w.number) before w (position-before ws i d apart inside) (eq-eqb _ _ refl)) ∙ ap (λ n. Some n) len))
        | inr it ↦ rw it.0 (h.places a ∙ sym (position-other (is_of a) before w (ne_eqb _ _ (λ e. it.1 (sym e)))))
      ]);
      taken = omega (arith, h.taken);
    }
