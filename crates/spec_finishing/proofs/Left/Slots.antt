-- What is left to do of the flights, after a slot has changed, a core was told or a new flight was added.
use Rattle.std.proofs.Common.{◌≡◌, ℕ, zero, suc, ◌+◌, ◌<◌, ◌≤◌, inl, inr, Bool, true, false, cond, List, [], ◌∷◌, length, Option, Some, None, refl, ap, ◌∙◌, arith, set}
use Rattle.std.proofs.lemmas.Bool.{cases_eq}
use Rattle.spec_isa.specs.Words.{Stored}
use Rattle.spec_engine.specs.Signatures.{Signature}
use Rattle.spec_engine.specs.Flights.{Flight, at, told_at, tell, free_slot, fill_at}
use Rattle.spec_engine.proofs.Searches.{told-tell, told-tell_other, free_slot-within, free_slot-free}
use Rattle.spec_protocol.specs.machine.World.{flown}
use Rattle.spec_finishing.specs.Rank.{untold_cores, flight_rank, flights_rank}

-- ---- a slot

-- a change of slot k changes what is left of the flights by what it has left
pub flights-set : (c : ℕ) (xs : List (Option Flight)) (k : ℕ) (v : Option Flight) → k < length xs → flights_rank c (set xs k v) + flight_rank c (at xs k) ≡ flights_rank c xs + flight_rank c v
flights-set c [] k v l = absurd (omega arith)
flights-set c (x ∷ xs) zero v l = omega arith
flights-set c (x ∷ xs) (suc k) v l = let r = flights-set c xs k v (omega arith) in omega (arith, r)

-- if no slot holds a flight, nothing is left of the flights
pub flights-none : (c : ℕ) (xs : List (Option Flight)) → ((k : ℕ) → at xs k ≡ None) → flights_rank c xs ≡ 0
flights-none c [] none = refl
flights-none c (x ∷ xs) none =
    let h = ap (flight_rank c) (none 0) in let r = flights-none c xs (λ k. none (suc k)) in omega (arith, h, r)

-- ---- the cores told

-- 0 for true, 1 for false
abbrev pub one_unless : Bool → ℕ
one_unless b = cond b 0 1

-- either is at most 1
pub one_at_most : (b : Bool) → one_unless b ≤ 1
one_at_most true = omega arith
one_at_most false = omega arith

-- of the first n cores at most n weren't told
pub untold-most : (n t : ℕ) → untold_cores n t ≤ n
untold-most zero t = omega arith
untold-most (suc n) t = let h = one_at_most (told_at t n) in let r = untold-most n t in omega (arith, h, r)

untold_past : (n : ℕ) (f : Flight) (c : ℕ) → n ≤ c → untold_cores n (tell f c).told ≡ untold_cores n f.told
untold_past zero f c l = refl
untold_past (suc n) f c l =
    let h = ap one_unless (told-tell_other f c n (λ e. omega arith)) in
    let r = untold_past n f c (omega arith) in
    omega (arith, h, r)

-- one core fewer is untold
pub untold-tell : (n : ℕ) (f : Flight) (c : ℕ) → c < n → told_at f.told c ≡ false → suc (untold_cores n (tell f c).told) ≡ untold_cores n f.told
untold-tell zero f c l e = absurd (omega arith)
untold-tell (suc n) f c l e =
    elim (cases_eq n c) [
      | inl same ↦ (
          let was : one_unless (told_at f.told n) ≡ 1 = ap (λ (d : ℕ). one_unless (told_at f.told d)) same ∙ ap one_unless e in
          let now : one_unless (told_at (tell f c).told n) ≡ 0 = ap (λ (d : ℕ). one_unless (told_at (tell f c).told d)) same ∙ ap one_unless (told-tell f c) in
          let r = untold_past n f c (omega arith) in
          omega (arith, was, now, r)
          )
      | inr ne ↦ (
          let h = ap one_unless (told-tell_other f c n ne) in
          let r = untold-tell n f c (omega arith) e in
          omega (arith, h, r)
          )
    ]

told_less : (b d : Bool) → (b ≡ true → d ≡ true) → one_unless d ≤ one_unless b
told_less true d h = let e = ap one_unless (h refl) in omega (arith, e)
told_less false d h = one_at_most d

told_more : (f : Flight) (c d : ℕ) → told_at f.told d ≡ true → told_at (tell f c).told d ≡ true
told_more f c d e =
    elim (cases_eq d c) [
      | inl same ↦ ap (told_at (tell f c).told) same ∙ told-tell f c
      | inr ne ↦ told-tell_other f c d ne ∙ e
    ]

-- with a core told, no more cores are untold than before
pub untold-less : (n : ℕ) (f : Flight) (c : ℕ) → untold_cores n (tell f c).told ≤ untold_cores n f.told
untold-less zero f c = omega arith
untold-less (suc n) f c =
    let h = told_less (told_at f.told n) (told_at (tell f c).told n) (told_more f c n) in let r = untold-less n f c in omega (arith, h, r)

-- ---- a new flight

filled_most : (c : ℕ) (f : Flight) (xs : List (Option Flight)) (o : Option ℕ) → free_slot xs ≡ o → flights_rank c (fill_at o f xs) ≤ flights_rank c xs + flight_rank c (Some f)
filled_most c f xs None e = omega arith
filled_most c f xs (Some k) e =
    let r = flights-set c xs k (Some f) (free_slot-within xs k e) in
    let h = ap (flight_rank c) (free_slot-free xs k e) in
    omega (arith, r, h)

-- a new flight adds at most its words, a delivery to each core and a retiring
pub flown-most : (c i : ℕ) (ws : List Stored) (writes : Signature) (t : ℕ) (xs : List (Option Flight)) → flights_rank c (flown i ws writes t xs) ≤ flights_rank c xs + (length ws + c + 1)
flown-most c i [] writes t xs = omega arith
flown-most c i (w ∷ ws) writes t xs =
    let f : Flight = record { sphere = i; words = w ∷ ws; writes = writes; told = t } in
    let r = filled_most c f xs (free_slot xs) refl in
    let h = untold-most c t in
    omega (arith, r, h)
