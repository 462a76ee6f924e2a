-- Bytes that are written into a room from its front, some at a time, are the first of the whole.
use Rattle.std.proofs.Common.{◌≡◌, ℕ, ◌+◌, ◌-◌, ◌<◌, ◌≤◌, min, inl, inr, List, [], ◌++◌, length, take, drop, refl, sym, ap, subst, ◌∙◌, append-nil, append_assoc, length-append, arith}
use Rattle.std.proofs.lemmas.List.{take_at, drop_at, take-append-le, drop-append-le, drop-drop, drop_all, take_rest, length-drop, length-take-le}
use Rattle.std.proofs.Math.Nat.{eq-or-lt_of_le}
use Rattle.std.proofs.Math.Seq.{take-add}
use borrow.Rule.Slice.PartMut.{put_mid}

-- as many bytes as there are and as have room stand at the room's front
pub record Filled (count : ℕ) (next room into : List ℕ) : Type 0 where
  pub most : count ≡ min (length room) (length next)
  pub bytes : into ≡ take count next ++ drop count room

-- so many of the old bytes stand at the room's front, and the others are left
pub record Gave (count : ℕ) (old left room into : List ℕ) : Type 0 where
  pub there : count ≤ length old
  pub fits : count ≤ length room
  pub bytes : into ≡ take count old ++ drop count room
  pub others : left ≡ drop count old

-- a slice from here on
abbrev pub part : ℕ → List ℕ → List ℕ
part at bytes = take (length bytes - at) (drop at bytes)

-- the room with that slice written
abbrev pub with_part : ℕ → List ℕ → List ℕ → List ℕ
with_part at into here = put_mid at (length into - at) into here

-- how long it is
length-part : (at : ℕ) (bytes : List ℕ) → length (part at bytes) ≡ length bytes - at
length-part at bytes = ap length (take_rest bytes at) ∙ length-drop at bytes

-- the room keeps its length
Filled-length : {count : ℕ} {next room into : List ℕ} → Filled count next room into → length into ≡ length room
Filled-length {count} {next} {room} f =
    let there : count ≤ length next = omega (arith, f.most) in
    omega (
      arith,
      f.most,
      ap length f.bytes,
      length-append (take count next) (drop count room),
      length-take-le count next there,
      length-drop count room,
    )

-- and so it does where more was given
Gave-length : {count : ℕ} {old left room into : List ℕ} → Gave count old left room into → length into ≡ length room
Gave-length {count} {old} {left} {room} g =
    omega (
      arith,
      g.fits,
      ap length g.bytes,
      length-append (take count old) (drop count room),
      length-take-le count old g.there,
      length-drop count room,
    )

-- the first bytes are given
Gave-first : {count : ℕ} {next room into : List ℕ} (rest : List ℕ) → Filled count next room into
    → Gave count (next ++ rest) (drop count next ++ rest) room into
Gave-first {count} {next} {room} {into} rest f =
    let there : count ≤ length next = omega (arith, f.most) in
    record {
      there = omega (arith, there, length-append next rest);
      fits = omega (arith, f.most);
      bytes = rw (take-append-le count next rest there) f.bytes;
      others = sym (drop-append-le count next rest there);
    }

-- some of the next bytes are given after those
Gave-more : {count k : ℕ} {old next room into here : List ℕ} (rest : List ℕ) → Gave count old (next ++ rest) room into
    → Filled k next (part count into) here → Gave (count + k) old (drop k next ++ rest) room (with_part count into here)
Gave-more {count} {k} {old} {next} {room} {into} {here} rest g f =
    let there : k ≤ length next = omega (arith, f.most) in
    let place : k ≤ length room - count = omega (arith, f.most, length-part count into, Gave-length g) in
    let before : take count into ≡ take count old =
    rw g.bytes (take_at (take count old) (drop count room) count (length-take-le count old g.there)) in
    let behind : drop count into ≡ drop count room =
    rw g.bytes (drop_at (take count old) (drop count room) count (length-take-le count old g.there)) in
    let end : drop (length into - count) (drop count into) ≡ [] =
    drop_all (length into - count) (drop count into) (omega (arith, length-drop count into)) in
    let given : take k (drop count old) ≡ take k next = ap (take k) (sym g.others) ∙ take-append-le k next rest there in
    record {
      there = omega (arith, g.there, there, ap length g.others, length-append next rest, length-drop count old);
      fits = omega (arith, g.fits, place);
      bytes = rw (end, append-nil here, f.bytes, take_rest into count, before, behind)
          (rw (drop-drop k count room, take-add count k old, given)
          (sym (append_assoc (take count old) (take k next) (drop (count + k) room))));
      others = sym (drop-append-le k next rest there) ∙ ap (drop k) g.others ∙ drop-drop k count old;
    }

-- two lists are given one after the other: the first one whole, or no room is left for the second
Gave-both : {f k : ℕ} {a t room into here : List ℕ} → Filled f a room into → Filled k t (part f into) here
    → Gave (f + k) (a ++ t) (drop f a ++ drop k t) room (with_part f into here)
Gave-both {f} {k} {a} {t} {room} {into} {here} first second =
    let TakenRecord : List ℕ → Type 0 = λ (left : List ℕ). Gave f (a ++ t) left room into in
    let there : f ≤ length a = omega (arith, first.most) in
    elim (eq-or-lt_of_le there) [
      | inl whole ↦
          let none : drop f a ≡ [] = drop_all f a (omega arith) in
          let left : drop f a ++ t ≡ t ++ [] = rw (none, append-nil t) refl in
          rw (none, ← append-nil (drop k t)) (Gave-more [] (subst TakenRecord left (Gave-first t first)) second)
      | inr less ↦
          let no_room : length (part f into) ≡ 0 = omega (arith, first.most, length-part f into, Filled-length first) in
          let stop : k ≡ 0 = omega (arith, second.most) in
          let nothing : Filled 0 (drop f a) (part f into) here =
          record { most = omega arith; bytes = rw stop at second.bytes } in
          rw stop (Gave-more t (Gave-first t first) nothing)
    ]

-- where the bytes to be written are what is left of a slice, what is filled of the room from a place on is given of them
pub Gave-slice : {f k : ℕ} {slice old room into here : List ℕ} (taken : ℕ) (all t : List ℕ)
    → slice ≡ all → drop taken all ++ t ≡ old
    → Filled f (part taken slice) room into → Filled k t (part f into) here
    → Gave (f + k) old (drop (taken + f) all ++ part k t) room (with_part f into here)
Gave-slice {f} {k} {slice} {old} {room} {into} {here} taken all t same view first second =
    let from : part taken slice ≡ drop taken all = rw same (take_rest all taken) in
    rw (← view, ← drop-drop f taken all, take_rest t k)
    (Gave-both (subst (λ (z : List ℕ). Filled f z room into) from first) second)

-- a unit and those after it are left, and of the unit nothing where room is left
pub record Writing (count : ℕ) (old unit units room into : List ℕ) : Type 0 where
  pub gave : Gave count old (unit ++ units) room into
  pub whole : count < length room → unit ≡ []

-- So many bytes are written, and this unit and those after it are left.
module _ {count : ℕ} {old unit units room into : List ℕ} (w : Writing count old unit units room into) where
  -- where room is left, the next unit is begun
  pub Writing-unit : {k : ℕ} {next behind here after : List ℕ}
      → count < length into → units ≡ next ++ behind → Filled k next (part count into) here → after ≡ drop k next
      → Writing (count + k) old after behind room (with_part count into here)
  Writing-unit {k} {next} {behind} {here} {after} less begun f rest =
      let none : unit ≡ [] = w.whole (omega (arith, Gave-length w.gave)) in
      let left : unit ++ units ≡ next ++ behind = rw none begun in
      let now = subst (λ (z : List ℕ). Gave count old z room into) left w.gave in
      record {
        gave = rw rest (Gave-more behind now f);
        whole = λ more. rest ∙ drop_all k next (omega (arith, f.most, length-part count into, Gave-length w.gave));
      }

  -- where no unit is left, all is written
  pub Writing-all : units ≡ [] → count ≡ min (length room) (length old)
  Writing-all none =
      elim (eq-or-lt_of_le w.gave.fits) [
        | inl full ↦ omega (arith, w.gave.there)
        | inr less ↦
            let nothing : length (unit ++ units) ≡ 0 = rw (w.whole less, none) refl in
            omega (arith, w.gave.there, nothing, ap length w.gave.others, length-drop count old)
      ]
