-- A buffer holds the byte last stored at each address.
use Rattle.std.proofs.Common.{◌≡◌, ◌≢◌, ℕ, ◌/◌, ◌%◌, inl, inr, Bool, true, false, cond, eqb, List, [], ◌∷◌, Option, Some, None, refl, sym, ap, ◌∙◌}
use Rattle.std.proofs.lemmas.Bool.{ne_eqb}
use Rattle.std.proofs.lemmas.Bool.Decides.{eqb_tells}
use Rattle.spec_isa.specs.Words.{Stored, later, merged, put}
use Rattle.spec_isa.proofs.BufferLaws.{merged_number}
use Rattle.dl_wbuf.specs.Buffers.{lane, byte_held, puts, last_stored}

later_cond : (c : Bool) (x y z w : Option ℕ) → later (cond c x y) (cond c z w) ≡ cond c (later x z) (later y w)
later_cond true x y z w = refl
later_cond false x y z w = refl

later_none : (b : Option ℕ) → later None b ≡ b
later_none None = refl
later_none (Some b) = refl

later_later : (x y z : Option ℕ) → later (later x y) z ≡ later x (later y z)
later_later x y None = refl
later_later x y (Some b) = refl

lane-merged : (r s : Stored) (k : ℕ) → lane (merged r s) k ≡ later (lane r k) (lane s k)
unfolding merged
lane-merged r s k = simp later_cond

same_word : (r s : Stored) (rs : List Stored) (byte : ℕ) → r.number ≡ s.number → byte_held (merged r s ∷ rs) byte ≡ later (byte_held (r ∷ rs) byte) (byte_held (s ∷ []) byte)
same_word r s rs byte e = rw (merged_number r s, lane-merged r s (byte % 4), ← e) (sym (later_cond (eqb r.number (byte / 4)) _ _ _ _))

other_word : (r s : Stored) (rs : List Stored) (byte : ℕ) → r.number ≢ s.number → byte_held (put rs s) byte ≡ later (byte_held rs byte) (byte_held (s ∷ []) byte) → byte_held (r ∷ put rs s) byte ≡ later (byte_held (r ∷ rs) byte) (byte_held (s ∷ []) byte)
other_word r s rs byte ne h =
    elim (eqb_tells r.number (byte / 4)) [
      | inl here ↦ let other : eqb s.number (byte / 4) ≡ false = ne_eqb _ _ (λ e. ne (here.1 ∙ sym e)) in rw (here.0, other) refl
      | inr elsewhere ↦ rw elsewhere.0 h
    ]

-- one more store
byte_held-put : (ws : List Stored) (s : Stored) (byte : ℕ) → byte_held (put ws s) byte ≡ later (byte_held ws byte) (byte_held (s ∷ []) byte)
byte_held-put [] s byte = sym (later_none _)
byte_held-put (r ∷ rs) s byte =
    elim (eqb_tells r.number s.number) [
      | inl h ↦ rw h.0 (same_word r s rs byte h.1)
      | inr h ↦ rw h.0 (other_word r s rs byte h.1 (byte_held-put rs s byte))
    ]

byte_held-puts : (ws ss : List Stored) (byte : ℕ) → byte_held (puts ws ss) byte ≡ later (byte_held ws byte) (last_stored ss byte)
byte_held-puts ws [] byte = refl
byte_held-puts ws (s ∷ ss) byte =
    byte_held-puts (put ws s) ss byte ∙ ap (λ b. later b (last_stored ss byte)) (byte_held-put ws s byte)
    ∙ later_later (byte_held ws byte) (byte_held (s ∷ []) byte) (last_stored ss byte)

-- a buffer to which stores were put, empty at first, holds at each address the byte last stored there
pub byte_held-last : (ws ss : List Stored) (byte : ℕ) → ws ≡ puts [] ss → byte_held ws byte ≡ last_stored ss byte
byte_held-last ws ss byte e = ap (λ words. byte_held words byte) e ∙ byte_held-puts [] ss byte ∙ later_none (last_stored ss byte)
