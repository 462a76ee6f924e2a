-- Stores laid over a memory, in the order of each word's first store: how words and bytes are read through them, and
-- that a store put among them is the same as the store laid last.
use Rattle.std.proofs.Common.{◌≡◌, ◌≢◌, ℕ, ◌+◌, ◌*◌, ◌/◌, ◌<◌, inl, inr, Bool, true, false, cond, eqb, List, [], ◌∷◌, length, Option, Some, None, refl, sym, ap, ◌∙◌, subst}
use Rattle.std.specs.Prelude.{slice_index}
use Rattle.std.proofs.lemmas.Bool.Decides.{eqb_tells}
use Rattle.std.proofs.lemmas.Bool.{ne_eqb}
use Rattle.std.proofs.lemmas.Grind.{same_number_lists}
use Rattle.spec_isa.specs.Words.{Stored, lay, lays, read, later, merged, put, Lacks, Apart, IsBytes}
use Rattle.spec_isa.specs.Masks.{or_byte, word_over, over}
use Rattle.spec_isa.proofs.MemoryLaws.{length_lay, given, byte-lay, read_lay_other, read_lay_at, IsBytesAt, IsBytesAt-bytes, IsBytesAt-lay_other}

-- ---- the words stay apart

-- two stores to one word, as one, are to that word
pub merged_number : (r s : Stored) → (merged r s).number ≡ r.number
unfolding merged
merged_number r s = refl

pub Lacks-put : (a : ℕ) (ws : List Stored) (s : Stored) → Lacks a ws → s.number ≢ a → Lacks a (put ws s)
unfolding merged
Lacks-put a [] s lacks ne = (ne, tt)
Lacks-put a (r ∷ rs) s lacks ne =
    elim (eqb_tells r.number s.number) [
      | inl h ↦ rw h.0 (lacks.0, lacks.1)
      | inr h ↦ rw h.0 (lacks.0, Lacks-put a rs s lacks.1 ne)
    ]

-- if no two stores are to the same word, that stays so after one more is put among them
pub Apart-put : (ws : List Stored) (s : Stored) → Apart ws → Apart (put ws s)
unfolding merged
Apart-put [] s apart = (tt, tt)
Apart-put (r ∷ rs) s apart =
    elim (eqb_tells r.number s.number) [
      | inl h ↦ rw h.0 (apart.0, apart.1)
      | inr h ↦ rw h.0 (Lacks-put r.number rs s apart.0 (λ e. h.1 (sym e)), Apart-put rs s apart.1)
    ]

-- ---- words read through the stores

-- a word that no store is to reads the same after the stores are laid over memory
pub read_lays_lacking : (m : List ℕ) (ws : List Stored) (a : ℕ) → Lacks a ws → read (lays m ws) a ≡ read m a
read_lays_lacking m [] a lacks = refl
read_lays_lacking m (s ∷ ss) a lacks = read_lays_lacking (lay m s) ss a lacks.1 ∙ read_lay_other m s a (λ e. lacks.0 (sym e))

read_same_at : (m : List ℕ) (s : Stored) (a : ℕ) → s.number ≡ a → 4 * a + 3 < length m → IsBytesAt m a → read (lay m s) a ≡ word_over s (read m a)
read_same_at m s a e =
    let P : ℕ → Type 0 = λ w. 4 * w + 3 < length m → IsBytesAt m w → read (lay m s) w ≡ word_over s (read m w) in
    subst P e (read_lay_at m s)

over_at : (m : List ℕ) (ws : List Stored) (a : ℕ) → Apart ws → IsBytesAt m a → 4 * a + 3 < length m → read (lays m ws) a ≡ over ws a (read m a)
over_at m [] a apart bytes inside = refl
over_at m (s ∷ ss) a apart bytes inside =
    elim (eqb_tells s.number a) [
      | inl h ↦
          let lacks : Lacks a ss = let P : ℕ → Type 0 = λ w. Lacks w ss in subst P h.1 apart.0 in
          rw h.0 (read_lays_lacking (lay m s) ss a lacks ∙ read_same_at m s a h.1 inside bytes)
      | inr h ↦
          let ne : a ≢ s.number = λ e. h.1 (sym e) in
          rw h.0
          (over_at (lay m s) ss a apart.1 (IsBytesAt-lay_other m s a ne bytes) (rw (length_lay m s) inside)
          ∙ ap (over ss a) (read_lay_other m s a ne))
    ]

-- a word of a memory under stores is the word seen through them
pub read_over : (m : List ℕ) (ws : List Stored) (a : ℕ) → Apart ws → IsBytes m → 4 * a + 3 < length m → read (lays m ws) a ≡ over ws a (read m a)
read_over m ws a apart bytes inside = over_at m ws a apart (IsBytesAt-bytes m a bytes) inside

-- ---- a store among them, and a store after them

or_later : (old new : Option ℕ) (below : ℕ) → or_byte (later old new) below ≡ or_byte new (or_byte old below)
or_later old None below = refl
or_later old (Some b) below = refl

later_cond : (c : Bool) (x y z w : Option ℕ) → later (cond c x y) (cond c z w) ≡ cond c (later x z) (later y w)
later_cond true x y z w = refl
later_cond false x y z w = refl

given-merged : (r s : Stored) (i : ℕ) → r.number ≡ s.number → given (merged r s) i ≡ later (given r i) (given s i)
unfolding merged
given-merged r s i e = rw (← e) (simp later_cond)

-- two stores to the same word, one after the other
pub lay-merged : (m : List ℕ) (r s : Stored) → r.number ≡ s.number → lay m (merged r s) ≡ lay (lay m r) s
lay-merged m r s e =
    same_number_lists _ _ (length_lay m (merged r s) ∙ sym (length_lay (lay m r) s ∙ length_lay m r))
    (λ i h.
    let lt : i < length m = rw (length_lay m (merged r s)) at h in
    byte-lay m (merged r s) i lt ∙ ap (λ b. or_byte b (slice_index m i)) (given-merged r s i e)
    ∙ or_later (given r i) (given s i) (slice_index m i)
    ∙ sym (byte-lay (lay m r) s i (rw (length_lay m r) lt) ∙ ap (or_byte (given s i)) (byte-lay m r i lt)))

-- of two words, at most one has the byte of an address
given_apart : (r s : Stored) (i below : ℕ) → r.number ≢ s.number → or_byte (given s i) (or_byte (given r i) below) ≡ or_byte (given r i) (or_byte (given s i) below)
given_apart r s i below ne =
    elim (eqb_tells (i / 4) r.number) [
      | inr h ↦ rw h.0 refl
      | inl h ↦ let other : eqb (i / 4) s.number ≡ false = ne_eqb (i / 4) s.number (λ e. ne (sym h.1 ∙ e)) in rw other refl
    ]

-- stores to two words, in either order
pub lay-lay : (m : List ℕ) (r s : Stored) → r.number ≢ s.number → lay (lay m r) s ≡ lay (lay m s) r
lay-lay m r s ne =
    same_number_lists _ _ (length_lay (lay m r) s ∙ length_lay m r ∙ sym (length_lay (lay m s) r ∙ length_lay m s))
    (λ i h.
    let lt : i < length m = rw (length_lay (lay m r) s, length_lay m r) at h in
    byte-lay (lay m r) s i (rw (length_lay m r) lt) ∙ ap (or_byte (given s i)) (byte-lay m r i lt)
    ∙ given_apart r s i (slice_index m i) ne
    ∙ sym (byte-lay (lay m s) r i (rw (length_lay m s) lt) ∙ ap (or_byte (given r i)) (byte-lay m s i lt)))

lay-lays_lacking : (m : List ℕ) (ws : List Stored) (s : Stored) → Lacks s.number ws → lay (lays m ws) s ≡ lays (lay m s) ws
lay-lays_lacking m [] s lacks = refl
lay-lays_lacking m (r ∷ rs) s lacks = lay-lays_lacking (lay m r) rs s lacks.1 ∙ ap (λ n. lays n rs) (lay-lay m r s lacks.0)

-- a store put among the others is the same as the store laid last
pub lays_put : (m : List ℕ) (ws : List Stored) (s : Stored) → Apart ws → lays m (put ws s) ≡ lay (lays m ws) s
lays_put m [] s apart = refl
lays_put m (r ∷ rs) s apart =
    elim (eqb_tells r.number s.number) [
      | inl h ↦
          let lacks : Lacks s.number rs = let P : ℕ → Type 0 = λ w. Lacks w rs in subst P h.1 apart.0 in
          rw h.0 (ap (λ n. lays n rs) (lay-merged m r s h.1) ∙ sym (lay-lays_lacking (lay m r) rs s lacks))
      | inr h ↦ rw h.0 (lays_put (lay m r) rs s apart.1)
    ]
