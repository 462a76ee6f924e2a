-- Words of a memory after stores: a store changes neither the length nor any other word, and what was bytes stays bytes.
use Rattle.std.proofs.Common.{◌≡◌, ◌≢◌, ℕ, ◌+◌, ◌*◌, ◌/◌, ◌%◌, ◌^◌, ◌<◌, inl, inr, Bool, true, false, cond, eqb, List, [], ◌∷◌, length, Option, Some, None, refl, ap, ◌∙◌, arith, get_or-set_other, get_or-set_same}
use Rattle.std.specs.Prelude.{slice_index, slice_set}
use Rattle.std.proofs.Math.ListN.{length-set}
use Rattle.std.proofs.lemmas.List.{get_or_past}
use Rattle.std.proofs.lemmas.Bool.Decides.{eqb_tells, leb_tells}
use Rattle.spec_isa.specs.Words.{Stored, with_byte, lay, lays, read, IsBytes}
use Rattle.spec_isa.specs.Masks.{word_over, or_byte, bytes_of, some_if}

-- ---- lengths

-- a memory is as long as before after a byte, or none, is stored
pub length_with_byte : (m : List ℕ) (a : ℕ) (b : Option ℕ) → length (with_byte m a b) ≡ length m
length_with_byte m a None = refl
length_with_byte m a (Some b) = length-set m a b

-- a memory is as long as before after a store
pub length_lay : (m : List ℕ) (s : Stored) → length (lay m s) ≡ length m
unfolding lay
length_lay m s = simp length_with_byte

-- a memory is as long as before after any list of stores
pub length_lays : (m : List ℕ) (ss : List Stored) → length (lays m ss) ≡ length m
length_lays m [] = refl
length_lays m (s ∷ ss) = length_lays (lay m s) ss ∙ length_lay m s

-- ---- one byte, at its place and elsewhere

byte_elsewhere : (m : List ℕ) (a i : ℕ) (b : Option ℕ) → i ≢ a → slice_index (with_byte m a b) i ≡ slice_index m i
byte_elsewhere m a i None ne = refl
byte_elsewhere m a i (Some b) ne = get_or-set_other m a i b 0 ne

byte_there : (m : List ℕ) (a i : ℕ) (b : Option ℕ) → i ≡ a → a < length m → slice_index (with_byte m a b) i ≡ or_byte b (slice_index m i)
byte_there m a i None e lt = refl
byte_there m a i (Some b) e lt = rw e (get_or-set_same m a b 0 lt)

-- ---- the bytes of one store

-- a store leaves the bytes of other words as they were
pub byte-lay_other : (m : List ℕ) (s : Stored) (i : ℕ) → i / 4 ≢ s.number → slice_index (lay m s) i ≡ slice_index m i
unfolding lay
byte-lay_other m s i ne =
    byte_elsewhere _ (4 * s.number + 3) i s.b3 (λ e. ne (omega arith))
    ∙ byte_elsewhere _ (4 * s.number + 2) i s.b2 (λ e. ne (omega arith))
    ∙ byte_elsewhere _ (4 * s.number + 1) i s.b1 (λ e. ne (omega arith))
    ∙ byte_elsewhere m (4 * s.number) i s.b0 (λ e. ne (omega arith))

-- the bytes of its own word are the store's
byte0-lay : (m : List ℕ) (s : Stored) (i : ℕ) → i ≡ 4 * s.number → i < length m → slice_index (lay m s) i ≡ or_byte s.b0 (slice_index m i)
unfolding lay
byte0-lay m s i e lt =
    byte_elsewhere _ (4 * s.number + 3) i s.b3 (λ h. omega arith)
    ∙ byte_elsewhere _ (4 * s.number + 2) i s.b2 (λ h. omega arith)
    ∙ byte_elsewhere _ (4 * s.number + 1) i s.b1 (λ h. omega arith)
    ∙ byte_there m (4 * s.number) i s.b0 e (omega arith)

byte1-lay : (m : List ℕ) (s : Stored) (i : ℕ) → i ≡ 4 * s.number + 1 → i < length m → slice_index (lay m s) i ≡ or_byte s.b1 (slice_index m i)
unfolding lay
byte1-lay m s i e lt =
    byte_elsewhere _ (4 * s.number + 3) i s.b3 (λ h. omega arith)
    ∙ byte_elsewhere _ (4 * s.number + 2) i s.b2 (λ h. omega arith)
    ∙ byte_there _ (4 * s.number + 1) i s.b1 e (simp length_with_byte (omega arith))
    ∙ ap (or_byte s.b1) (byte_elsewhere m (4 * s.number) i s.b0 (λ h. omega arith))

byte2-lay : (m : List ℕ) (s : Stored) (i : ℕ) → i ≡ 4 * s.number + 2 → i < length m → slice_index (lay m s) i ≡ or_byte s.b2 (slice_index m i)
unfolding lay
byte2-lay m s i e lt =
    byte_elsewhere _ (4 * s.number + 3) i s.b3 (λ h. omega arith)
    ∙ byte_there _ (4 * s.number + 2) i s.b2 e (simp length_with_byte (omega arith))
    ∙ ap (or_byte s.b2) (byte_elsewhere _ (4 * s.number + 1) i s.b1 (λ h. omega arith) ∙ byte_elsewhere m (4 * s.number) i s.b0 (λ h. omega arith))

byte3-lay : (m : List ℕ) (s : Stored) (i : ℕ) → i ≡ 4 * s.number + 3 → i < length m → slice_index (lay m s) i ≡ or_byte s.b3 (slice_index m i)
unfolding lay
byte3-lay m s i e lt =
    byte_there _ (4 * s.number + 3) i s.b3 e (simp length_with_byte (omega arith))
    ∙ ap (or_byte s.b3)
    (byte_elsewhere _ (4 * s.number + 2) i s.b2 (λ h. omega arith)
    ∙ byte_elsewhere _ (4 * s.number + 1) i s.b1 (λ h. omega arith)
    ∙ byte_elsewhere m (4 * s.number) i s.b0 (λ h. omega arith))

-- what a store has for the byte of an address
abbrev pub given : Stored → (addr : ℕ) → Option ℕ
given s i = cond (eqb (i / 4) s.number) (cond (eqb (i % 4) 0) s.b0 (cond (eqb (i % 4) 1) s.b1 (cond (eqb (i % 4) 2) s.b2 s.b3))) None

own_byte-lay : (m : List ℕ) (s : Stored) (i : ℕ) → i / 4 ≡ s.number → i < length m → slice_index (lay m s) i ≡ or_byte (cond (eqb (i % 4) 0) s.b0 (cond (eqb (i % 4) 1) s.b1 (cond (eqb (i % 4) 2) s.b2 s.b3))) (slice_index m i)
own_byte-lay m s i e lt =
    elim (eqb_tells (i % 4) 0) [
      | inl h0 ↦ rw h0.0 (byte0-lay m s i (omega arith) lt)
      | inr h0 ↦ elim (eqb_tells (i % 4) 1) [
        | inl h1 ↦ rw (h0.0, h1.0) (byte1-lay m s i (omega arith) lt)
        | inr h1 ↦ elim (eqb_tells (i % 4) 2) [
          | inl h2 ↦ rw (h0.0, h1.0, h2.0) (byte2-lay m s i (omega arith) lt)
          | inr h2 ↦ rw (h0.0, h1.0, h2.0) (byte3-lay m s i (omega arith) lt)
        ]
      ]
    ]

-- the byte of each address after a store
pub byte-lay : (m : List ℕ) (s : Stored) (i : ℕ) → i < length m → slice_index (lay m s) i ≡ or_byte (given s i) (slice_index m i)
byte-lay m s i lt =
    elim (eqb_tells (i / 4) s.number) [
      | inl h ↦ rw h.0 (own_byte-lay m s i h.1 lt)
      | inr h ↦ rw h.0 (byte-lay_other m s i h.1)
    ]

-- ---- words

-- a store changes no word but its own
pub read_lay_other : (m : List ℕ) (s : Stored) (a : ℕ) → a ≢ s.number → read (lay m s) a ≡ read m a
unfolding read
read_lay_other m s a ne =
    rw (
      byte-lay_other m s (4 * a) (λ e. ne (omega arith)),
      byte-lay_other m s (4 * a + 1) (λ e. ne (omega arith)),
      byte-lay_other m s (4 * a + 2) (λ e. ne (omega arith)),
      byte-lay_other m s (4 * a + 3) (λ e. ne (omega arith)),
    ) refl

-- the bytes of a word are bytes
pub record IsBytesAt (m : List ℕ) (a : ℕ) : Type 0 where
  pub at0 : slice_index m (4 * a) < 2 ^ 8
  pub at1 : slice_index m (4 * a + 1) < 2 ^ 8
  pub at2 : slice_index m (4 * a + 2) < 2 ^ 8
  pub at3 : slice_index m (4 * a + 3) < 2 ^ 8

-- in a memory whose bytes are all bytes, those of each word are
pub IsBytesAt-bytes : (m : List ℕ) (a : ℕ) → IsBytes m → IsBytesAt m a
IsBytesAt-bytes m a h = record { at0 = h.each _; at1 = h.each _; at2 = h.each _; at3 = h.each _ }

-- a store leaves the bytes of any other word bytes
pub IsBytesAt-lay_other : (m : List ℕ) (s : Stored) (a : ℕ) → a ≢ s.number → IsBytesAt m a → IsBytesAt (lay m s) a
IsBytesAt-lay_other m s a ne h =
    record {
      at0 = rw (byte-lay_other m s (4 * a) (λ e. ne (omega arith))) h.at0;
      at1 = rw (byte-lay_other m s (4 * a + 1) (λ e. ne (omega arith))) h.at1;
      at2 = rw (byte-lay_other m s (4 * a + 2) (λ e. ne (omega arith))) h.at2;
      at3 = rw (byte-lay_other m s (4 * a + 3) (λ e. ne (omega arith))) h.at3;
    }

-- a word made of four bytes gives these back
word_bytes : (x y z w : ℕ) → x < 2 ^ 8 → y < 2 ^ 8 → z < 2 ^ 8 → let n = x + y * 2 ^ 8 + z * 2 ^ 16 + w * 2 ^ 24 in
    (n % 2 ^ 8 ≡ x) × (n / 2 ^ 8 % 2 ^ 8 ≡ y) × (n / 2 ^ 16 % 2 ^ 8 ≡ z)
word_bytes x y z w hx hy hz = (omega arith, omega arith, omega arith)

last_byte : (x y z w : ℕ) → x < 2 ^ 8 → y < 2 ^ 8 → z < 2 ^ 8 → w < 2 ^ 8 → (x + y * 2 ^ 8 + z * 2 ^ 16 + w * 2 ^ 24) / 2 ^ 24 % 2 ^ 8 ≡ w
last_byte x y z w hx hy hz hw = omega arith

-- a store's word inside memory reads as before the store, except for the bytes that the store has
pub read_lay_at : (m : List ℕ) (s : Stored) → 4 * s.number + 3 < length m → IsBytesAt m s.number → read (lay m s) s.number ≡ word_over s (read m s.number)
unfolding read word_over
read_lay_at m s lt h =
    let b = word_bytes (slice_index m (4 * s.number)) (slice_index m (4 * s.number + 1)) (slice_index m (4 * s.number + 2)) (slice_index m (4 * s.number + 3)) h.at0 h.at1 h.at2 in
    let b3 = last_byte (slice_index m (4 * s.number)) (slice_index m (4 * s.number + 1)) (slice_index m (4 * s.number + 2)) (slice_index m (4 * s.number + 3)) h.at0 h.at1 h.at2 h.at3 in
    rw (
      byte0-lay m s (4 * s.number) refl (omega arith),
      byte1-lay m s (4 * s.number + 1) refl (omega arith),
      byte2-lay m s (4 * s.number + 2) refl (omega arith),
      byte3-lay m s (4 * s.number + 3) refl lt,
      b.0,
      b.1,
      b.2,
      b3,
    ) refl

-- in a memory of bytes a store's word reads as before, except for the store's bytes
pub read_lay_same : (m : List ℕ) (s : Stored) → 4 * s.number + 3 < length m → IsBytes m → read (lay m s) s.number ≡ word_over s (read m s.number)
read_lay_same m s lt h = read_lay_at m s lt (IsBytesAt-bytes m s.number h)

-- ---- bytes stay bytes

IsBytes-set : (m : List ℕ) (a b : ℕ) → b < 2 ^ 8 → IsBytes m → IsBytes (slice_set m a b)
IsBytes-set m a b lt h =
    record {
      each = λ i. elim (eqb_tells i a) [
        | inr ne ↦ rw (get_or-set_other m a i b 0 ne.1) (h.each i)
        | inl e ↦ elim (leb_tells (length m) i) [
          | inl past ↦ rw (get_or_past (slice_set m a b) i 0 (rw (length-set m a b) past.1)) (omega arith)
          | inr inside ↦ rw e.1 (rw (get_or-set_same m a b 0 (omega arith)) lt)
        ]
      ];
    }

IsBytes-with_byte : (m : List ℕ) (a : ℕ) (c : Bool) (b : ℕ) → b < 2 ^ 8 → IsBytes m → IsBytes (with_byte m a (some_if c b))
IsBytes-with_byte m a true b lt h = IsBytes-set m a b lt h
IsBytes-with_byte m a false b lt h = h

-- a memory's bytes are still bytes after a store of some bytes of a value
pub IsBytes-lay : (m : List ℕ) (number mask value : ℕ) → IsBytes m → IsBytes (lay m (bytes_of number mask value))
unfolding lay bytes_of
IsBytes-lay m w k v h =
    IsBytes-with_byte _ (4 * w + 3) _ (v / 2 ^ 24 % 2 ^ 8) (omega arith)
    (IsBytes-with_byte _ (4 * w + 2) _ (v / 2 ^ 16 % 2 ^ 8) (omega arith)
    (IsBytes-with_byte _ (4 * w + 1) _ (v / 2 ^ 8 % 2 ^ 8) (omega arith)
    (IsBytes-with_byte m (4 * w) _ (v % 2 ^ 8) (omega arith) h)))
