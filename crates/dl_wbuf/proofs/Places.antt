-- What it means for the definitions where the first word of a number is, or that there is none.
use Rattle.std.proofs.Common.{◌≡◌, ℕ, ◌+◌, ◌/◌, ◌%◌, ◌<◌, ◌⊎◌, inl, inr, suc, Bool, true, false, eqb, ltb, List, [], ◌∷◌, ◌++◌, length, get_or, Some, None, refl, ap, subst, arith}
use Rattle.std.specs.Prelude.{slice_set}
use Rattle.std.specs.List.{position, position_or_len}
use Rattle.std.specs.Option.{is_some}
use Rattle.std.proofs.lemmas.Bool.Decides.{eqb_tells}
use Rattle.std.proofs.lemmas.Bool.{lt-ltb, le-ltb}
use Rattle.spec_isa.specs.Words.{Stored, merged, put, holds}
use Rattle.spec_isa.specs.Masks.{word_over, over}
use Rattle.dl_wbuf.specs.Buffers.{lane, byte_held}

-- the word is of that number
abbrev pub is_of : ℕ → Stored → Bool
is_of a s = eqb s.number a

-- the word of that number is at a place
pub record IsFound (ws : List Stored) (a i : ℕ) : Type 0 where
  pub inside : i < length ws
  pub held : holds ws a ≡ true
  pub number : (d : Stored) → (get_or ws i d).number ≡ a
  pub puts : (s d : Stored) → s.number ≡ a → put ws s ≡ slice_set ws i (merged (get_or ws i d) s)
  pub seen : (below : ℕ) (d : Stored) → over ws a below ≡ word_over (get_or ws i d) below
  pub byte : (at : ℕ) (d : Stored) → at / 4 ≡ a → byte_held ws at ≡ lane (get_or ws i d) (at % 4)

-- there is no word of that number
pub record IsMissing (ws : List Stored) (a : ℕ) : Type 0 where
  pub held : holds ws a ≡ false
  pub puts : (s : Stored) → s.number ≡ a → put ws s ≡ ws ++ s ∷ []
  pub seen : (below : ℕ) → over ws a below ≡ below
  pub byte : (at : ℕ) → at / 4 ≡ a → byte_held ws at ≡ None

IsFound-first : (s : Stored) (ss : List Stored) (a : ℕ) → s.number ≡ a → eqb s.number a ≡ true → IsFound (s ∷ ss) a 0
IsFound-first s ss a e test =
    record {
      inside = omega arith;
      held = rw test refl;
      number = λ d. e;
      puts = λ r d f. let t : eqb s.number r.number ≡ true = rw f test in rw t refl;
      seen = λ below d. rw test refl;
      byte = λ at d f. rw (f, test) refl;
    }

IsFound-next : (s : Stored) (ss : List Stored) (a i : ℕ) → eqb s.number a ≡ false → IsFound ss a i → IsFound (s ∷ ss) a (suc i)
IsFound-next s ss a i test h =
    record {
      inside = omega (arith, h.inside);
      held = rw test h.held;
      number = h.number;
      puts = λ r d f. let t : eqb s.number r.number ≡ false = rw f test in rw t (ap (λ rest. s ∷ rest) (h.puts r d f));
      seen = λ below d. rw test (h.seen below d);
      byte = λ at d f. rw (f, test) (h.byte at d f);
    }

IsMissing-next : (s : Stored) (ss : List Stored) (a : ℕ) → eqb s.number a ≡ false → IsMissing ss a → IsMissing (s ∷ ss) a
IsMissing-next s ss a test h =
    record {
      held = rw test h.held;
      puts = λ r f. let t : eqb s.number r.number ≡ false = rw f test in rw t (ap (λ rest. s ∷ rest) (h.puts r f));
      seen = λ below. rw test (h.seen below);
      byte = λ at f. rw (f, test) (h.byte at f);
    }

plus_one : (n : ℕ) → suc n ≡ 1 + n
plus_one n = omega arith

-- the first place that passes, or the length, decides it
pub located : (ws : List Stored) (a : ℕ) → IsFound ws a (position_or_len (is_of a) ws) ⊎ (IsMissing ws a × (position_or_len (is_of a) ws ≡ length ws))
located [] a = inr (record { held = refl; puts = λ s f. refl; seen = λ below. refl; byte = λ at f. refl }, refl)
located (s ∷ ss) a =
    elim (eqb_tells s.number a) [
      | inl h ↦ inl (rw h.0 (IsFound-first s ss a h.1 h.0))
      | inr h ↦ elim (located ss a) [
        | inl found ↦ inl (rw h.0 (subst (IsFound (s ∷ ss) a) (plus_one _) (IsFound-next s ss a _ h.0 found)))
        | inr missing ↦ inr (IsMissing-next s ss a h.0 missing.0, rw h.0 (omega (arith, missing.1)))
      ]
    ]

-- the first word of a number is the one that is seen, and a store of that number is merged into it
pub IsFound-place : (ws : List Stored) (a i : ℕ) → position (is_of a) ws ≡ Some i → IsFound ws a i
IsFound-place ws a i h =
    elim (located ws a) [
      | inl found ↦
          let test : ltb (position_or_len (is_of a) ws) (length ws) ≡ true = lt-ltb _ _ found.inside in
          let e : position_or_len (is_of a) ws ≡ i = let f = rw test at h in cc in
          subst (IsFound ws a) e found
      | inr missing ↦
          let test : ltb (position_or_len (is_of a) ws) (length ws) ≡ false = le-ltb _ _ (omega (arith, missing.1)) in
          let f = rw test at h in cc
    ]

-- if there is no word of a number, none is seen, and a store of that number comes last
pub IsMissing-place : (ws : List Stored) (a : ℕ) → position (is_of a) ws ≡ None → IsMissing ws a
IsMissing-place ws a h =
    elim (located ws a) [
      | inl found ↦
          let test : ltb (position_or_len (is_of a) ws) (length ws) ≡ true = lt-ltb _ _ found.inside in
          let f = rw test at h in cc
      | inr missing ↦ missing.0
    ]

-- a number is held exactly if there is a first word of it
pub holds-place : (ws : List Stored) (a : ℕ) → holds ws a ≡ is_some (position (is_of a) ws)
holds-place ws a =
    elim (located ws a) [
      | inl found ↦ let test : ltb (position_or_len (is_of a) ws) (length ws) ≡ true = lt-ltb _ _ found.inside in rw test found.held
      | inr missing ↦ let test : ltb (position_or_len (is_of a) ws) (length ws) ≡ false = le-ltb _ _ (omega (arith, missing.1)) in rw test missing.0.held
    ]
