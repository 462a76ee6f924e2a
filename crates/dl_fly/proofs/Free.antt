-- Whether each slot of a row is free.
use Rattle.std.proofs.Common.{◌≡◌, ℕ, zero, suc, ◌<◌, ◌&&◌, Bool, true, false, List, [], ◌∷◌, length, Option, Some, None, replicate, refl, sym, ap, ◌∙◌, arith}
use Rattle.std.proofs.lemmas.Bool.{true≢false}
use Rattle.std.specs.Prelude.{◌≤◌, slice_set, slice_index_or}
use Rattle.std.proofs.Math.ListN.{length-set}
use Rattle.std.specs.List.{list_all}
use Rattle.spec_engine.specs.Flights.{Flight, at, is_none, passes, first_slot}
use Rattle.dl_fly.specs.Slots.{AreSlots}
use Rattle.spec_engine.proofs.Searches.{first_is_none}

abbrev no_flight : Option Flight
no_flight = None

-- each slot of a new row is free
pub new_free : (n : ℕ) (xs : List (Option Flight)) → xs ≡ replicate n None → list_all is_none xs ≡ true
new_free n xs e = rw e (replicated n)
  where
    replicated : (m : ℕ) → list_all is_none (replicate m no_flight) ≡ true
    replicated zero = refl
    replicated (suc m) = replicated m

-- a row isn't free once a slot is filled
filled_free : (xs : List (Option Flight)) (k : ℕ) (f : Flight) → k < length xs → list_all is_none (slice_set xs k (Some f)) ≡ false
filled_free [] k f l = grind arith
filled_free (x ∷ xs) zero f l = refl
filled_free (None ∷ xs) (suc k) f l = filled_free xs k f (omega arith)
filled_free (Some y ∷ xs) (suc k) f l = refl

-- a change of what is in a slot leaves it free or filled
changed_free : (xs : List (Option Flight)) (k : ℕ) (x was : Option Flight) → is_none x ≡ is_none (slice_index_or xs k was) → list_all is_none (slice_set xs k x) ≡ list_all is_none xs
changed_free [] k x was e = refl
changed_free (y ∷ xs) zero x was e = ap (λ (b : Bool). b && list_all is_none xs) e
changed_free (y ∷ xs) (suc k) x was e = ap (λ (b : Bool). is_none y && b) (changed_free xs k x was e)

-- what is known of the slots stays true after such a change
pub AreSlots-changed : (cores : ℕ) (xs : List (Option Flight)) (is_empty : Bool) (k : ℕ) (x was : Option Flight) → was ≡ slice_index_or xs k was → is_none x ≡ is_none was → AreSlots cores xs is_empty → AreSlots cores (slice_set xs k x) is_empty
AreSlots-changed cores xs is_empty k x was at same h =
    record {
      some_core = h.some_core;
      most_cores = h.most_cores;
      some_slot = rw (length-set xs k x) h.some_slot;
      most_slots = rw (length-set xs k x) h.most_slots;
      known = h.known ∙ sym (changed_free xs k x was (same ∙ ap (λ (o : Option Flight). is_none o) at));
    }

-- once a slot is filled, it is known that not all are free
pub AreSlots-filled : (cores : ℕ) (xs : List (Option Flight)) (is_empty : Bool) (k : ℕ) (f : Flight) → k < length xs → AreSlots cores xs is_empty → AreSlots cores (slice_set xs k (Some f)) false
AreSlots-filled cores xs is_empty k f l h =
    record {
      some_core = h.some_core;
      most_cores = h.most_cores;
      some_slot = rw (length-set xs k (Some f)) h.some_slot;
      most_slots = rw (length-set xs k (Some f)) h.most_slots;
      known = sym (filled_free xs k f l);
    }

free_at : (xs : List (Option Flight)) (k : ℕ) → list_all is_none xs ≡ true → (p : Flight → Bool) → passes p (at xs k) ≡ false
free_at [] k free p = refl
free_at (None ∷ xs) zero free p = refl
free_at (None ∷ xs) (suc k) free p = free_at xs k free p
free_at (Some x ∷ xs) k free p = absurd (true≢false (sym free))

-- no search finds anything in a row of free slots
pub none_of_free : (p : Flight → Bool) (xs : List (Option Flight)) → list_all is_none xs ≡ true → first_slot p xs ≡ None
none_of_free p xs free = sym (first_is_none p xs (λ k l. free_at xs k free p))
