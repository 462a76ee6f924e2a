-- How many words stand while bytes are put one after another from an address on, and that the next one finds room.
use Rattle.std.proofs.Common.{◌≡◌, ◌≢◌, ℕ, suc, ◌+◌, ◌/◌, ◌%◌, ◌<◌, ◌≤◌, Bool, true, false, ◌||◌, nat_lt, List, [], ◌∷◌, length, refl, ap, ◌∙◌, arith, inl, inr}
use Rattle.std.specs.Prelude.{slice_index, drop}
use Rattle.std.proofs.lemmas.Bool.{lt-ltb}
use Rattle.std.proofs.Math.Seq.{drop-cons}
use Rattle.spec_kernel.specs.Copies.{bytes_put}
use Rattle.std.proofs.lemmas.Bool.Decides.{eqb_tells}
use Rattle.spec_isa.specs.Words.{Stored, put, holds, merged}
use Rattle.spec_isa.specs.Operations.{stored}
use Rattle.dl_wbuf.specs.Buffers.{has_room}

-- i bytes from an address on were put
pub record IsCopying (addr i : ℕ) (words : List Stored) : Type 0 where
  pub few : length words + addr / 4 ≤ (addr + i + 3) / 4
  pub first : i ≡ 0 → words ≡ []
  pub held : 0 < i → (addr + i) % 4 ≢ 0 → holds words ((addr + i) / 4) ≡ true

-- a word that was put is held, and no other word comes with it
holds-put : (ws : List Stored) (s : Stored) → holds (put ws s) s.number ≡ true
unfolding merged
holds-put [] s = elim (eqb_tells s.number s.number) [ inl h ↦ rw h.0 refl | inr h ↦ absurd (h.1 refl) ]
holds-put (r ∷ rs) s =
    elim (eqb_tells r.number s.number) [
      | inl h ↦ rw (h.0, h.0) refl
      | inr h ↦ rw (h.0, h.0) (holds-put rs s)
    ]

length-put : (ws : List Stored) (s : Stored) → length (put ws s) ≤ length ws + 1
length-put [] s = omega arith
length-put (r ∷ rs) s =
    elim (eqb_tells r.number s.number) [
      | inl h ↦ rw h.0 (omega arith)
      | inr h ↦ rw h.0 (let more = length-put rs s in omega arith)
    ]

length-put-held : (ws : List Stored) (s : Stored) → holds ws s.number ≡ true → length (put ws s) ≡ length ws
length-put-held [] s held = cc
length-put-held (r ∷ rs) s held =
    elim (eqb_tells r.number s.number) [
      | inl h ↦ rw h.0 refl
      | inr h ↦ let rest = rw h.0 at held in rw h.0 (ap suc (length-put-held rs s rest))
    ]

-- before the first byte no word is put
pub copying_start : (addr : ℕ) → IsCopying addr 0 []
copying_start addr = record { few = omega arith; first = λ _. refl; held = λ some. absurd (omega (arith, some)) }

or-left : (a b : Bool) → a ≡ true → (a || b) ≡ true
or-left a b h = rw h refl

or-right : (a b : Bool) → b ≡ true → (a || b) ≡ true
or-right true b h = refl
or-right false b h = h

-- the next byte's word is held, or there is room for one more
pub copying_room : (addr i n capacity : ℕ) (words : List Stored) → IsCopying addr i words → i < n → (addr + n + 3) / 4 ≤ capacity + addr / 4
    → has_room (record { capacity = capacity; words = words }) ((addr + i) / 4) ≡ true
copying_room addr i n capacity words h within room =
    let below : length words < capacity → has_room (record { capacity = capacity; words = words }) ((addr + i) / 4) ≡ true =
    λ l. or-right (holds words ((addr + i) / 4)) (nat_lt (length words) capacity) (lt-ltb (length words) capacity l)
    in
    let few = h.few in
    elim (eqb_tells i 0) [
      | inl z ↦ below (let none : length words ≡ 0 = ap length (h.first z.1) in let at : i ≡ 0 = z.1 in omega arith)
      | inr nz ↦
          let some : 0 < i = let no : i ≢ 0 = nz.1 in omega arith in
          elim (eqb_tells ((addr + i) % 4) 0) [
            | inl e ↦ below (let whole : (addr + i) % 4 ≡ 0 = e.1 in omega arith)
            | inr ne ↦ or-left (holds words ((addr + i) / 4)) (nat_lt (length words) capacity) (h.held some ne.1)
          ]
    ]

-- with the next byte put, there is one byte more from the address on
pub copying_more : (addr i b : ℕ) (words : List Stored) → IsCopying addr i words → IsCopying addr (i + 1) (put words (stored 1 (addr + i) b))
copying_more addr i b words h =
    let s : Stored = stored 1 (addr + i) b in
    let few = h.few in
    let more : length (put words s) ≤ length words + 1 = length-put words s in
    record {
      few =
          elim (eqb_tells i 0) [
            | inl z ↦ let none : length words ≡ 0 = ap length (h.first z.1) in let at : i ≡ 0 = z.1 in omega arith
            | inr nz ↦
                let some : 0 < i = let no : i ≢ 0 = nz.1 in omega arith in
                elim (eqb_tells ((addr + i) % 4) 0) [
                  | inl e ↦ let whole : (addr + i) % 4 ≡ 0 = e.1 in omega arith
                  | inr ne ↦ let same : length (put words s) ≡ length words = length-put-held words s (h.held some ne.1) in omega arith
                ]
          ];
      first = λ none. absurd (omega (arith, none));
      held = λ some within.
          let place : (addr + (i + 1)) / 4 ≡ (addr + i) / 4 = omega (arith, within) in rw place (holds-put words s);
    }

-- the next byte is put, and the others after it
pub put_next : (words : List Stored) (addr i : ℕ) (bytes : List ℕ) → i < length bytes
    → bytes_put words (addr + i) (drop i bytes) ≡ bytes_put (put words (stored 1 (addr + i) (slice_index bytes i))) (addr + (i + 1)) (drop (i + 1) bytes)
unfolding bytes_put
put_next words addr i bytes within =
    let after : List Stored = put words (stored 1 (addr + i) (slice_index bytes i)) in
    let place : addr + i + 1 ≡ addr + (i + 1) = omega arith in
    let next : suc i ≡ i + 1 = omega arith in
    ap (bytes_put words (addr + i)) (drop-cons bytes i 0 within)
    ∙ ap (λ a. bytes_put after a (drop (suc i) bytes)) place
    ∙ ap (λ k. bytes_put after (addr + (i + 1)) (drop k bytes)) next
