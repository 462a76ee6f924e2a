-- A table stays one when the slot of a number is set, and then has that place for the number, and for others the places of before.
use Rattle.std.proofs.Common.{◌≡◌, ◌≢◌, ℕ, ◌+◌, ◌-◌, ◌*◌, ◌/◌, ◌%◌, ◌^◌, ◌<◌, ◌≤◌, ◌⊎◌, inl, inr, zero, suc, true, cond, eqb, List, [], ◌∷◌, ◌++◌, length, get_or, Option, Some, None, refl, sym, ap, ◌∙◌, arith, length-append, subst}
use Rattle.std.specs.Prelude.{slice_set}
use Rattle.std.specs.List.{Contains}
use Rattle.std.specs.Option.{is_some}
use Rattle.std.proofs.Math.ListN.{length-set}
use Rattle.std.proofs.Math.Nat.{div-lt_iff_lt-mul}
use Rattle.std.proofs.lemmas.Bool.{eqb-true}
use Rattle.std.proofs.lemmas.Nat.{pow-add, pow_pos}
use Rattle.std.proofs.lemmas.Bool.Decides.{eqb_tells}
use Rattle.std.proofs.lemmas.List.{get_or_default, get_or-set_same, get_or-set_other}
use Rattle.std.proofs.lemmas.List.Elements.{Contains-append_left, Contains-push, Contains-push_cases}
use Rattle.dl_wbuf.specs.declared.entry.Entry.{Entry}
use Rattle.dl_wbuf.specs.Tables.{Slots, home, fits, used, slot_of, place_of, place, IsOpen}
use Rattle.dl_wbuf.proofs.Probes.{probe_inside, probe_kept, probe_fits, probe_found}

-- the slot of any number is one that the table has
pub slot_inside : (t : Slots) (a : ℕ) → IsOpen t → slot_of t a < length t.slots
slot_inside t a h = probe_inside t.slots (home t.shift a) a t.room (omega (arith, h.count, h.within)) h.half (h.homes a)

slot_fits : (t : Slots) (a : ℕ) → IsOpen t → fits a (get_or t.slots (slot_of t a) None) ≡ true
slot_fits t a h = probe_fits t.slots (home t.shift a) a (slot_inside t a h)

-- a slot at which the probes for two numbers end is free
both_fit : (o : Option Entry) (a b : ℕ) → a ≢ b → fits a o ≡ true → fits b o ≡ true → o ≡ None
both_fit None a b ne p q = refl
both_fit (Some e) a b ne p q = absurd (ne (sym (eqb-true _ _ p) ∙ eqb-true _ _ q))

-- a number that has no entry has no place
pub none_placed : (t : Slots) (a : ℕ) → IsOpen t → ((i : ℕ) (e : Entry) → get_or t.slots i None ≡ Some e → e.number ≢ a) → place t a ≡ None
none_placed t a h lacks = free (get_or t.slots (slot_of t a) None) refl (slot_fits t a h)
  where
    free : (o : Option Entry) → get_or t.slots (slot_of t a) None ≡ o → fits a o ≡ true → place_of o ≡ None
    free None is p = refl
    free (Some e) is p = absurd (lacks _ e is (eqb-true _ _ p))

-- ---- a slot is set

-- the table after the slot of the entry's number is set
abbrev after : Slots → Entry → (taken : List ℕ) → Slots
after t e taken = record t { slots = slice_set t.slots (slot_of t e.number) (Some e); taken = taken }

-- what a slot holds then: the new entry, or what it held
abbrev Held : Slots → Entry → ℕ → Entry → Type 0
Held t e i d = ((i ≡ slot_of t e.number) × (e ≡ d)) ⊎ ((i ≢ slot_of t e.number) × (get_or t.slots i None ≡ Some d))

held : (t : Slots) (e : Entry) → IsOpen t → (i : ℕ) (d : Entry) → get_or (slice_set t.slots (slot_of t e.number) (Some e)) i None ≡ Some d → Held t e i d
held t e h i d is =
    elim (eqb_tells i (slot_of t e.number)) [
      | inl it ↦
          let f : get_or (slice_set t.slots (slot_of t e.number) (Some e)) i None ≡ Some e = rw it.1 (get_or-set_same t.slots (slot_of t e.number) (Some e) None (slot_inside t e.number h)) in
          inl (it.1, cc)
      | inr it ↦ inr (it.1, sym (get_or-set_other t.slots (slot_of t e.number) i (Some e) None it.1) ∙ is)
    ]

stands-after : (t : Slots) (e : Entry) (taken : List ℕ) → IsOpen t → (i : ℕ) (d : Entry) → Held t e i d → slot_of (after t e taken) d.number ≡ i
stands-after t e taken h i d (inl it) =
    let P : Entry → Type 0 = λ x. slot_of (after t e taken) x.number ≡ i in
    subst P it.1 (probe_found t.slots (home t.shift e.number) e (slot_inside t e.number h) ∙ sym it.0)
stands-after t e taken h i d (inr it) =
    let stood : slot_of t d.number ≡ i = h.stands i d it.1 in
    let other : e.number ≢ d.number = λ f. it.0 (sym stood ∙ ap (slot_of t) (sym f)) in
    probe_kept t.slots (home t.shift d.number) d.number (slot_of t e.number) e (λ f. it.0 (sym stood ∙ f)) other ∙ stood

used_set : (ss : List (Option Entry)) (i : ℕ) (e : Entry) → used (slice_set ss i (Some e)) ≤ 1 + used ss
used_set [] i e = omega arith
used_set (None ∷ ss) zero e = omega arith
used_set (Some d ∷ ss) zero e = omega arith
used_set (None ∷ ss) (suc i) e = used_set ss i e
used_set (Some d ∷ ss) (suc i) e = omega (arith, used_set ss i e)

used_again : (ss : List (Option Entry)) (i : ℕ) (d e : Entry) → get_or ss i None ≡ Some d → used (slice_set ss i (Some e)) ≤ used ss
used_again [] i d e is = omega arith
used_again (None ∷ ss) zero d e is = absurd cc
used_again (Some c ∷ ss) zero d e is = omega arith
used_again (None ∷ ss) (suc i) d e is = used_again ss i d e is
used_again (Some c ∷ ss) (suc i) d e is = omega (arith, used_again ss i d e is)

-- a free slot is taken
IsOpen-taken : (t : Slots) (e : Entry) → IsOpen t → length t.taken < t.room → IsOpen (after t e (t.taken ++ slot_of t e.number ∷ []))
IsOpen-taken t e h lt =
    let slot : ℕ = slot_of t e.number in
    record {
      stands = λ i d is. stands-after t e (t.taken ++ slot ∷ []) h i d (held t e h i d is);
      listed = λ i d is. elim (held t e h i d is) [
        | inl it ↦ rw it.0 (Contains-push t.taken slot)
        | inr it ↦ Contains-append_left t.taken (slot ∷ []) i (h.listed i d it.1)
      ];
      inside = λ i is. rw (length-set t.slots slot (Some e)) (elim (Contains-push_cases t.taken slot i is) [
        | inl old ↦ h.inside i old
        | inr it ↦ rw (← it) (slot_inside t e.number h)
      ]);
      count = rw length-append (omega (arith, used_set t.slots slot e, h.count));
      within = rw length-append (omega arith);
      half = rw (length-set t.slots slot (Some e)) h.half;
      homes = λ a. rw (length-set t.slots slot (Some e)) (h.homes a);
      shift = h.shift;
      most = rw (length-set t.slots slot (Some e)) h.most;
    }

-- a slot that isn't free has an entry
entry_at : (ss : List (Option Entry)) (i : ℕ) (o : Option Entry) → i < length ss → o ≡ get_or ss i o → is_some o ≡ true → (d : Entry) × (get_or ss i None ≡ Some d)
entry_at ss i None inside is some = absurd cc
entry_at ss i (Some d) inside is some = (d, get_or_default ss i None (Some d) inside ∙ sym is)

-- a slot that was taken gets another entry of its number
IsOpen-again : (t : Slots) (e d : Entry) → IsOpen t → get_or t.slots (slot_of t e.number) None ≡ Some d → IsOpen (after t e t.taken)
IsOpen-again t e d h was =
    let slot : ℕ = slot_of t e.number in
    record {
      stands = λ i c is. stands-after t e t.taken h i c (held t e h i c is);
      listed = λ i c is. elim (held t e h i c is) [
        | inl it ↦ rw it.0 (h.listed slot d was)
        | inr it ↦ h.listed i c it.1
      ];
      inside = λ i is. rw (length-set t.slots slot (Some e)) (h.inside i is);
      count = omega (arith, used_again t.slots slot d e was, h.count);
      within = h.within;
      half = rw (length-set t.slots slot (Some e)) h.half;
      homes = λ a. rw (length-set t.slots slot (Some e)) (h.homes a);
      shift = h.shift;
      most = rw (length-set t.slots slot (Some e)) h.most;
    }

-- ---- the places then

-- if the probe for a number ends at the slot, no slot holds it
lacks-after : (t : Slots) (a : ℕ) (e : Entry) → IsOpen t → a ≢ e.number → slot_of t a ≡ slot_of t e.number → (i : ℕ) (d : Entry) → Held t e i d → d.number ≢ a
lacks-after t a e h ne same i d (inl it) = λ f. ne (sym f ∙ ap (λ x. x.number) (sym it.1))
lacks-after t a e h ne same i d (inr it) = λ f. it.0 (sym (h.stands i d it.1) ∙ ap (slot_of t) f ∙ same)

own_place : (t : Slots) (e : Entry) (taken : List ℕ) → IsOpen t → place (after t e taken) e.number ≡ Some e.place
own_place t e taken h =
    let inside = slot_inside t e.number h in
    let stays : slot_of (after t e taken) e.number ≡ slot_of t e.number = probe_found t.slots (home t.shift e.number) e inside in
    rw stays (ap place_of (get_or-set_same t.slots (slot_of t e.number) (Some e) None inside))

other_place : (t : Slots) (a : ℕ) (e : Entry) (taken : List ℕ) → IsOpen t → IsOpen (after t e taken) → a ≢ e.number → place (after t e taken) a ≡ place t a
other_place t a e taken h new ne =
    elim (eqb_tells (slot_of t a) (slot_of t e.number)) [
      | inl it ↦
          let fit : fits a (get_or t.slots (slot_of t e.number) None) ≡ true = rw it.1 at (slot_fits t a h) in
          let was : place t a ≡ None = rw (it.1, both_fit _ a e.number ne fit (slot_fits t e.number h)) refl in
          none_placed (after t e taken) a new (λ i d is. lacks-after t a e h ne it.1 i d (held t e h i d is)) ∙ sym was
      | inr it ↦
          let stays : slot_of (after t e taken) a ≡ slot_of t a = probe_kept t.slots (home t.shift a) a (slot_of t e.number) e it.1 (λ f. ne (sym f)) in
          rw stays (ap place_of (get_or-set_other t.slots (slot_of t e.number) (slot_of t a) (Some e) None it.1))
    ]

place-after : (t : Slots) (a : ℕ) (e : Entry) (taken : List ℕ) → IsOpen t → IsOpen (after t e taken) → place (after t e taken) a ≡ cond (eqb a e.number) (Some e.place) (place t a)
place-after t a e taken h new =
    elim (eqb_tells a e.number) [
      | inl it ↦ rw it.0 (ap (place (after t e taken)) it.1 ∙ own_place t e taken h)
      | inr it ↦ rw it.0 (other_place t a e taken h new it.1)
    ]

-- the table after it, by the slot
pub record IsSet (old new : Slots) (e : Entry) : Type 0 where
  pub opened : IsOpen new
  pub places : (a : ℕ) → place new a ≡ cond (eqb a e.number) (Some e.place) (place old a)

-- with room left, a number's slot is set and listed as taken: no other number's place changes, and it is still a table
pub IsSet-taken : (t : Slots) (slot : ℕ) (e : Entry) (taken : List ℕ) → IsOpen t → slot ≡ slot_of t e.number → length t.taken < t.room → taken ≡ t.taken ++ slot ∷ [] → IsSet t (record t { slots = slice_set t.slots slot (Some e); taken = taken }) e
IsSet-taken t slot e taken h here lt more =
    let new = IsOpen-taken t e h lt in
    rw (more, here) (record { opened = new; places = λ a. place-after t a e _ h new })

-- a number's slot that was set is set again: no other number's place changes, and it is still a table
pub IsSet-again : (t : Slots) (slot : ℕ) (e : Entry) (was : Option Entry) → IsOpen t → slot ≡ slot_of t e.number → was ≡ get_or t.slots slot was → is_some was ≡ true → IsSet t (record t { slots = slice_set t.slots slot (Some e) }) e
IsSet-again t slot e was h here is some =
    let stood = entry_at t.slots (slot_of t e.number) was (slot_inside t e.number h) (rw here at is) some in
    let new = IsOpen-again t e stood.0 h stood.1 in
    rw here (record { opened = new; places = λ a. place-after t a e t.taken h new })

-- ---- a table of no number

used_none : (ss : List (Option Entry)) → ((i : ℕ) (e : Entry) → get_or ss i None ≢ Some e) → used ss ≡ 0
used_none [] none = refl
used_none (None ∷ ss) lacks = used_none ss (λ i. lacks (suc i))
used_none (Some e ∷ ss) lacks = absurd (lacks 0 e refl)

lists_none : (t : Slots) (i : ℕ) → t.taken ≡ [] → Contains t.taken i → ⊥
lists_none t i none (k, inside, is) = let l : length t.taken ≡ 0 = ap length none in omega arith

-- a table none of whose slots is taken
pub IsOpen-empty : (t : Slots) → ((i : ℕ) (e : Entry) → get_or t.slots i None ≢ Some e) → t.taken ≡ [] → 2 * t.room ≤ length t.slots → ((a : ℕ) → 2 * home t.shift a < length t.slots) → t.shift < 32 → length t.slots < 2 ^ 32 → IsOpen t
IsOpen-empty t lacks none half homes shift most =
    record {
      stands = λ i e is. absurd (lacks i e is);
      listed = λ i e is. absurd (lacks i e is);
      inside = λ i it. absurd (lists_none t i none it);
      count = omega (arith, used_none t.slots lacks);
      within = let l : length t.taken ≡ 0 = ap length none in omega arith;
      half = half;
      homes = homes;
      shift = shift;
      most = most;
    }

-- a table with no slot taken has a place for no number
pub none_placed-empty : (t : Slots) (a : ℕ) → IsOpen t → t.taken ≡ [] → place t a ≡ None
none_placed-empty t a h none = none_placed t a h (λ i e is _. lists_none t i none (h.listed i e is))

-- the last slot of those taken is emptied
pub listed-emptied : (ss : List (Option Entry)) (taken : List ℕ) (slot : ℕ) → slot < length ss → ((i : ℕ) (e : Entry) → get_or ss i None ≡ Some e → Contains (taken ++ slot ∷ []) i) → (i : ℕ) (e : Entry) → get_or (slice_set ss slot None) i None ≡ Some e → Contains taken i
listed-emptied ss taken slot inside listed i e is =
    elim (eqb_tells i slot) [
      | inl it ↦
          let f : get_or (slice_set ss slot None) i None ≡ None = rw it.1 (get_or-set_same ss slot None None inside) in
          absurd cc
      | inr it ↦ elim (Contains-push_cases taken slot i (listed i e (sym (get_or-set_other ss slot i None None it.1) ∙ is))) [
        | inl before ↦ before
        | inr last ↦ absurd (it.1 (sym last))
      ]
    ]

-- ---- the homes

-- of twice 2 ^ bits slots, the one at which a number's probe begins is in the first half
pub homes-half : (bits a : ℕ) → bits ≤ 32 → 2 * home (32 - bits) a < 2 * 2 ^ bits
unfolding home
homes-half bits a h =
    let n : 32 ≡ bits + (32 - bits) = omega arith in
    let e : 2 ^ 32 ≡ 2 ^ bits * 2 ^ (32 - bits) = ap (λ k. 2 ^ k) n ∙ pow-add 2 bits (32 - bits) in
    let x : a * 2654435769 % 2 ^ 32 < 2 ^ bits * 2 ^ (32 - bits) = rw (← e) (omega arith) in
    let q : a * 2654435769 % 2 ^ 32 / 2 ^ (32 - bits) < 2 ^ bits = (div-lt_iff_lt-mul (pow_pos (32 - bits))).1 x in
    omega (arith, q)
