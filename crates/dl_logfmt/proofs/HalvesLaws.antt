-- Reading the order of a log by halves, two actors to a byte, undoes writing it.
use Rattle.std.proofs.Common.{◌≡◌, ℕ, zero, suc, ◌+◌, ◌*◌, ◌/◌, ◌%◌, ◌<◌, ◌≤◌, ◌==◌, true, false, List, [], ◌∷◌, ◌++◌, All, Result, Ok, Err, append_assoc, length, drop, refl, append-nil, arith, inl, inr, eq-eqb}
use Rattle.std.proofs.lemmas.Bool.{leb-true, le-leb, ne_eqb, cases_eq}
use Rattle.std.proofs.lemmas.List.{nil_from_length, length_push}
use Rattle.std.proofs.lemmas.List.Elements.{All-nil, All-cons, All-head, All-tail}
use Rattle.dl_entry.specs.declared.actor.Actor.{Actor}
use Rattle.dl_entry.specs.declared.actor.Actor.TheVariants.{Thread, Dma}
use Rattle.spec_log.specs.Bytes.{u8, half, nibbles}
use Rattle.spec_log.specs.Log.{IsActor}
use Rattle.spec_log.specs.declared.fault.Fault.{Fault}
use Rattle.spec_log.specs.Fields.{Read, Reader, continues, read, gives, any, field, at_most, repeated}
use Rattle.spec_log.specs.Reading.{actor_of, actors_by_halves}
use Rattle.dl_logfmt.proofs.Codes.{Codes, Codes-as, Codes-then, Codes-gives}
use Rattle.dl_logfmt.proofs.EntryLaws.{Codes-field}

-- every number except the DMA's is read as the thread of that number
pub actor_of-thread : (dma number : ℕ) → (number ≡ dma → ⊥) → actor_of dma number ≡ Thread number
actor_of-thread dma number h = rw (ne_eqb number dma h) refl

-- so many good actors
abbrev pub AreActors : (threads n : ℕ) → List Actor → Type 0
AreActors threads n actors = (length actors ≡ n) × All (IsActor threads) actors

-- so many actors, two to a byte; a last byte of one actor has no high half
abbrev pub halved : ℕ → Reader (List Actor)
halved zero = gives []
halved (suc zero) = read (field 1 (at_most 15)) (λ byte. gives (actor_of 15 byte ∷ []))
halved (suc (suc n)) =
    read (any 1) (λ byte. read (halved n) (λ rest. gives (actor_of 15 (byte % 16) ∷ actor_of 15 (byte / 16) ∷ rest)))

actor_of-half : (actor : Actor) → IsActor 15 actor → actor_of 15 (half actor) ≡ actor
actor_of-half (Thread thread) h = actor_of-thread 15 thread (λ e. omega arith)
actor_of-half Dma h = refl

half-small : (actor : Actor) → IsActor 15 actor → half actor ≤ 15
half-small (Thread thread) h = omega arith
half-small Dma h = omega arith

half-actor_of : (number : ℕ) → half (actor_of 15 number) ≡ number
half-actor_of number =
    elim (cases_eq number 15) [ inl e ↦ rw e refl | inr h ↦ rw (actor_of-thread 15 number h) refl ]

actor_of-good : (number : ℕ) → number ≤ 15 → IsActor 15 (actor_of 15 number)
actor_of-good number h =
    elim (cases_eq number 15) [ inl e ↦ rw e tt | inr n ↦ rw (actor_of-thread 15 number n) (omega arith) ]

Codes-none : Codes (halved 0) nibbles (AreActors 15 0)
Codes-none =
    Codes-as (gives []) (λ xs. []) nibbles (λ xs. xs ≡ []) (AreActors 15 0) (Codes-gives [] (λ xs. xs ≡ []) refl (λ y e. e))
    (λ xs e. rw e refl) (λ xs e. rw e (refl, All-nil (IsActor 15))) (λ xs g. nil_from_length xs g.0)

Codes-one : Codes (halved 1) nibbles (AreActors 15 1)
Codes-one =
    Codes-then (field 1 (at_most 15)) (λ byte. gives (actor_of 15 byte ∷ [])) u8 (λ byte. byte ≤ 15)
    (λ byte y. []) (λ byte y. y ≡ actor_of 15 byte ∷ []) nibbles (AreActors 15 1)
    (Codes-field 1 5 (at_most 15) (λ byte. byte ≤ 15) (λ b h l. leb-true b 15 h) (λ b h. (omega arith, le-leb b 15 h)))
    (λ byte g. Codes-gives (actor_of 15 byte ∷ []) (λ y. y ≡ actor_of 15 byte ∷ []) refl (λ y e. e))
    one_split one_join where
      one_split : (y : List Actor) → AreActors 15 1 y
          → (byte : ℕ) × (byte ≤ 15) × (y ≡ actor_of 15 byte ∷ []) × (nibbles y ≡ u8 byte ++ [])
      one_split [] g = absurd (omega (arith, g.0))
      one_split (a ∷ []) g =
          let good : IsActor 15 a = All-head (IsActor 15) a [] g.1 in
          let small = half-small a good in
          let low : half a % 256 ≡ half a = omega arith in
          (half a, small, rw (actor_of-half a good) refl, rw low refl)
      one_split (a ∷ b ∷ y) g = absurd (omega (arith, g.0))

      one_join : (byte : ℕ) (y : List Actor) → byte ≤ 15 → y ≡ actor_of 15 byte ∷ [] → AreActors 15 1 y × (nibbles y ≡ u8 byte ++ [])
      one_join byte y g e =
          let low : byte % 256 ≡ byte = omega arith in
          rw (e, half-actor_of byte, low) ((refl, All-cons (IsActor 15) (actor_of 15 byte) [] (actor_of-good byte g) (All-nil (IsActor 15))), refl)

-- two actors in a byte, and the others
abbrev paired : ℕ → List Actor → List Actor
paired byte rest = actor_of 15 (byte % 16) ∷ actor_of 15 (byte / 16) ∷ rest

Codes-rest : (n byte : ℕ) → Codes (halved n) nibbles (AreActors 15 n)
    → Codes (read (halved n) (λ rest. gives (paired byte rest))) (λ y. nibbles (drop 2 y))
    (λ y. (rest : List Actor) × (y ≡ paired byte rest) × AreActors 15 n rest)
Codes-rest n byte codes =
    Codes-then (halved n) (λ rest. gives (paired byte rest)) nibbles (AreActors 15 n)
    (λ rest y. []) (λ rest y. y ≡ paired byte rest) _ _ codes
    (λ rest g. Codes-gives (paired byte rest) (λ y. y ≡ paired byte rest) refl (λ y e. e))
    (λ y g. (g.0, g.2, g.1, rw (g.1, append-nil (nibbles g.0)) refl))
    (λ rest y g e. ((rest, e, g), rw (e, append-nil (nibbles rest)) refl))

pair_split : (n : ℕ) (y : List Actor) → AreActors 15 (suc (suc n)) y
    → (byte : ℕ) × (byte < 256) × ((rest : List Actor) × (y ≡ paired byte rest) × AreActors 15 n rest) × (nibbles y ≡ u8 byte ++ nibbles (drop 2 y))
pair_split n [] g = absurd (omega (arith, g.0))
pair_split n (a ∷ []) g = absurd (omega (arith, g.0))
pair_split n (a ∷ b ∷ y) g =
    let good_a : IsActor 15 a = All-head (IsActor 15) a (b ∷ y) g.1 in
    let tail : All (IsActor 15) (b ∷ y) = All-tail (IsActor 15) a (b ∷ y) g.1 in
    let good_b : IsActor 15 b = All-head (IsActor 15) b y tail in
    let small_a = half-small a good_a in
    let small_b = half-small b good_b in
    let byte = half a + 16 * half b in
    let low : byte % 16 ≡ half a = omega arith in
    let high : byte / 16 ≡ half b = omega arith in
    let same : byte % 256 ≡ byte = omega arith in
    (byte, omega arith, (y, rw (low, high, actor_of-half a good_a, actor_of-half b good_b) refl, (omega (arith, g.0), All-tail (IsActor 15) b y tail)), rw same refl)

pair_join : (n byte : ℕ) (y : List Actor) → byte < 256 → (rest : List Actor) × (y ≡ paired byte rest) × AreActors 15 n rest
    → AreActors 15 (suc (suc n)) y × (nibbles y ≡ u8 byte ++ nibbles (drop 2 y))
pair_join n byte y small r =
    let low : byte % 16 ≤ 15 = omega arith in
    let high : byte / 16 ≤ 15 = omega arith in
    let same : byte % 256 ≡ byte = omega arith in
    let whole : byte % 16 + 16 * (byte / 16) ≡ byte = omega arith in
    let tail = All-cons (IsActor 15) (actor_of 15 (byte / 16)) r.0 (actor_of-good (byte / 16) high) r.2.1 in
    let good = All-cons (IsActor 15) (actor_of 15 (byte % 16)) (actor_of 15 (byte / 16) ∷ r.0) (actor_of-good (byte % 16) low) tail in
    rw (r.1, half-actor_of (byte % 16), half-actor_of (byte / 16), whole, same) ((omega (arith, r.2.0), good), refl)

-- reading actors by halves undoes writing them
pub Codes-halved : (n : ℕ) → Codes (halved n) nibbles (AreActors 15 n)
Codes-halved zero = Codes-none
Codes-halved (suc zero) = Codes-one
Codes-halved (suc (suc n)) =
    Codes-then (any 1) (λ byte. read (halved n) (λ rest. gives (paired byte rest))) u8 (λ byte. byte < 256)
    (λ byte y. nibbles (drop 2 y)) (λ byte y. (rest : List Actor) × (y ≡ paired byte rest) × AreActors 15 n rest) nibbles (AreActors 15 (suc (suc n)))
    (Codes-field 1 5 (λ x. true) (λ byte. byte < 256) (λ b h l. l) (λ b h. (h, refl)))
    (λ byte g. Codes-rest n byte (Codes-halved n)) (pair_split n) (pair_join n)

-- A stage of a file reads one byte of halves each time, of as many actors as this count.
module _ {D : Type 0} (one : D → Reader D) (set : List Actor → D) (count : ℕ)
    (on : (xs : List Actor) (bytes : List ℕ) (at : ℕ) → one (set xs) bytes at ≡ read (actors_by_halves count xs) (λ ys. gives (set ys)) bytes at) where
  last-one : (xs : List Actor) (bytes : List ℕ) (r : Result (Read ℕ) Fault)
      → continues (continues (continues r (λ byte. gives (xs ++ actor_of 15 byte ∷ []) bytes)) (λ ys. gives (set ys) bytes)) (λ d after. gives d bytes after)
      ≡ continues (continues r (λ byte. gives (actor_of 15 byte ∷ []) bytes)) (λ ys. gives (set (xs ++ ys)) bytes)
  last-one xs bytes (Ok r) = refl
  last-one xs bytes (Err fault) = refl

  two-pushed : (xs : List Actor) (a b : Actor) (bytes : List ℕ) (r : Result (Read (List Actor)) Fault)
      → continues r (λ ys. gives (set (((xs ++ a ∷ []) ++ b ∷ []) ++ ys)) bytes)
      ≡ continues (continues r (λ ys. gives (a ∷ b ∷ ys) bytes)) (λ ys. gives (set (xs ++ ys)) bytes)
  two-pushed xs a b bytes (Ok r) =
      let same : ((xs ++ a ∷ []) ++ b ∷ []) ++ r.value ≡ xs ++ a ∷ b ∷ r.value = simp append_assoc in rw same refl
  two-pushed xs a b bytes (Err fault) = refl

  two-more : (n k : ℕ) (xs : List Actor) (bytes : List ℕ)
      → ((a b : Actor) (at : ℕ) → repeated one k (set ((xs ++ a ∷ []) ++ b ∷ [])) bytes at
      ≡ read (halved n) (λ ys. gives (set (((xs ++ a ∷ []) ++ b ∷ []) ++ ys))) bytes at)
      → (r : Result (Read ℕ) Fault)
      → continues (continues (continues r (λ byte. gives ((xs ++ actor_of 15 (byte % 16) ∷ []) ++ actor_of 15 (byte / 16) ∷ []) bytes)) (λ ys. gives (set ys) bytes)) (λ d after. repeated one k d bytes after)
      ≡ continues (continues r (λ byte after. read (halved n) (λ ys. gives (actor_of 15 (byte % 16) ∷ actor_of 15 (byte / 16) ∷ ys)) bytes after)) (λ ys. gives (set (xs ++ ys)) bytes)
  two-more n k xs bytes rest (Ok r) =
      rw (rest (actor_of 15 (r.value % 16)) (actor_of 15 (r.value / 16)) r.after) (two-pushed xs (actor_of 15 (r.value % 16)) (actor_of 15 (r.value / 16)) bytes (halved n bytes r.after))
  two-more n k xs bytes rest (Err fault) = refl

  -- so many times are all actors that are left
  repeated-halves : (n : ℕ) (xs : List Actor) (bytes : List ℕ) (at : ℕ) → (0 < n → length xs + n ≡ count)
      → repeated one (n / 2 + n % 2) (set xs) bytes at ≡ read (halved n) (λ ys. gives (set (xs ++ ys))) bytes at
  repeated-halves zero xs bytes at left = rw (append-nil xs) refl
  repeated-halves (suc zero) xs bytes at left =
      let is : (length xs + 1 == count) ≡ true = eq-eqb (length xs + 1) count (left (omega arith)) in
      rw (on xs bytes at, is) (last-one xs bytes (field 1 (at_most 15) bytes at))
  repeated-halves (suc (suc n)) xs bytes at left =
      let all = left (omega arith) in
      let times : suc (suc n) / 2 + suc (suc n) % 2 ≡ suc (n / 2 + n % 2) = omega arith in
      let more : (length xs + 1 == count) ≡ false = ne_eqb (length xs + 1) count (λ e. omega arith) in
      rw (times, on xs bytes at, more)
      (two-more n (n / 2 + n % 2) xs bytes
      (λ a b to. repeated-halves n ((xs ++ a ∷ []) ++ b ∷ []) bytes to (λ h. omega (arith, length_push (xs ++ a ∷ []) b, length_push xs a)))
      (any 1 bytes at))

  -- the stage reads the actors after their number
  pub counted-halves : (bytes : List ℕ) (r : Result (Read ℕ) Fault) → ((x : Read ℕ) → r ≡ Ok x → 0 < x.value → x.value ≡ count)
      → continues (continues r (λ n. gives (n / 2 + n % 2) bytes)) (λ k after. repeated one k (set []) bytes after)
      ≡ continues (continues r (λ n after. halved n bytes after)) (λ xs. gives (set xs) bytes)
  counted-halves bytes (Ok r) all = repeated-halves r.value [] bytes r.after (λ h. omega (arith, all r refl h))
  counted-halves bytes (Err fault) all = refl
