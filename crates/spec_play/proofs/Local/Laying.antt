-- Stores laid over a memory: those of different words in any order, and memories that agree on some words.
use Rattle.std.proofs.Common.{◌≡◌, ℕ, ◌+◌, ◌*◌, ◌/◌, ◌<◌, inl, inr, Bool, true, false, List, [], ◌∷◌, ◌++◌, length, refl, sym, ap, ◌∙◌, arith}
use Rattle.std.specs.Prelude.{slice_index}
use Rattle.std.proofs.lemmas.Bool.{cases_lt}
use Rattle.std.proofs.lemmas.List.{get_or_past}
use Rattle.spec_isa.specs.Words.{Stored, lay, lays, read, Lacks}
use Rattle.spec_isa.specs.Masks.{or_byte}
use Rattle.spec_play.specs.Touching.{AllLack, Agree, Unseen}
use Rattle.spec_isa.proofs.MemoryLaws.{length_lay, given, byte-lay, byte-lay_other}
use Rattle.spec_isa.proofs.BufferLaws.{lay-lay}

-- ---- lists of stores

-- laying two lists joined is laying the one and then the other
pub lays_append : (m : List ℕ) (xs ys : List Stored) → lays m (xs ++ ys) ≡ lays (lays m xs) ys
lays_append m [] ys = refl
lays_append m (x ∷ xs) ys = lays_append (lay m x) xs ys

-- ---- the order of stores of different words

-- a store may be laid before others or after them, if they store to other words
pub lays-lay : (m : List ℕ) (s : Stored) (ws : List Stored) → Lacks s.number ws → lays (lay m s) ws ≡ lay (lays m ws) s
lays-lay m s [] p = refl
lays-lay m s (w ∷ ws) p =
    ap (λ (n : List ℕ). lays n ws) (lay-lay m s w (λ e. p.0 (sym e))) ∙ lays-lay (lay m w) s ws p.1

-- two lists of stores that share no word may be laid in either order
pub lays-lays : (m : List ℕ) (xs ys : List Stored) → AllLack xs ys → lays (lays m xs) ys ≡ lays (lays m ys) xs
lays-lays m [] ys p = refl
lays-lays m (x ∷ xs) ys p =
    lays-lays (lay m x) xs ys p.1 ∙ ap (λ (n : List ℕ). lays n xs) (lays-lay m x ys p.0)

-- ---- memories that agree on some words

pub Agree_refl : (seen : ℕ → Bool) (m : List ℕ) → Agree seen m m
Agree_refl seen m = record { size = refl; bytes = λ i e. refl }

byte_agrees : (m n : List ℕ) (s : Stored) (i : ℕ) → length n ≡ length m → slice_index n i ≡ slice_index m i → slice_index (lay n s) i ≡ slice_index (lay m s) i
byte_agrees m n s i size e =
    elim (cases_lt i (length m)) [
      | inl l ↦ byte-lay n s i (omega arith) ∙ ap (or_byte (given s i)) e ∙ sym (byte-lay m s i l)
      | inr past ↦ get_or_past (lay n s) i 0 (let h = length_lay n s in omega arith)
          ∙ sym (get_or_past (lay m s) i 0 (let h = length_lay m s in omega arith))
    ]

pub Agree-lay : (seen : ℕ → Bool) (m n : List ℕ) (s : Stored) → Agree seen m n → Agree seen (lay m s) (lay n s)
Agree-lay seen m n s a =
    record {
      size = length_lay n s ∙ a.size ∙ sym (length_lay m s);
      bytes = λ i e. byte_agrees m n s i a.size (a.bytes i e);
    }

-- the same stores keep memories in agreement
pub Agree-lays : (seen : ℕ → Bool) (m n : List ℕ) (ws : List Stored) → Agree seen m n → Agree seen (lays m ws) (lays n ws)
Agree-lays seen m n [] a = a
Agree-lays seen m n (w ∷ ws) a = Agree-lays seen (lay m w) (lay n w) ws (Agree-lay seen m n w a)

Agree_unseen : (seen : ℕ → Bool) (m : List ℕ) (w : Stored) → seen w.number ≡ false → Agree seen m (lay m w)
Agree_unseen seen m w e =
    record {
      size = length_lay m w;
      bytes = λ i h. byte-lay_other m w i (λ same. let k = ap seen same in grind arith);
    }

pub Agree_trans : (seen : ℕ → Bool) (m n o : List ℕ) → Agree seen m n → Agree seen n o → Agree seen m o
Agree_trans seen m n o a b = record { size = b.size ∙ a.size; bytes = λ i e. b.bytes i e ∙ a.bytes i e }

-- stores of other words leave the words seen
pub Agree-unseen : (seen : ℕ → Bool) (m : List ℕ) (ws : List Stored) → Unseen seen ws → Agree seen m (lays m ws)
Agree-unseen seen m [] u = Agree_refl seen m
Agree-unseen seen m (w ∷ ws) u =
    Agree_trans seen m (lay m w) (lays (lay m w) ws) (Agree_unseen seen m w u.0) (Agree-unseen seen (lay m w) ws u.1)

quarter : (a k : ℕ) → k < 4 → (4 * a + k) / 4 ≡ a
quarter a k l = omega arith

-- memories that agree on a word read alike there
pub Agree-read : (seen : ℕ → Bool) (m n : List ℕ) (a : ℕ) → Agree seen m n → seen a ≡ true → read n a ≡ read m a
unfolding read
Agree-read seen m n a g e =
    rw (
      g.bytes (4 * a) (ap seen (let h : 4 * a / 4 ≡ a = omega arith in h) ∙ e),
      g.bytes (4 * a + 1) (ap seen (quarter a 1 (omega arith)) ∙ e),
      g.bytes (4 * a + 2) (ap seen (quarter a 2 (omega arith)) ∙ e),
      g.bytes (4 * a + 3) (ap seen (quarter a 3 (omega arith)) ∙ e),
    ) refl
