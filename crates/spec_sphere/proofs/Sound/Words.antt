-- Words that are stored: those of instructions and of copies lie inside the memory, and store bytes.
use Rattle.std.proofs.Common.{◌≡◌, ℕ, suc, ◌+◌, ◌*◌, ◌/◌, ◌%◌, ◌^◌, ◌<◌, ◌≤◌, inl, inr, Bool, true, false, eqb, cond, List, [], ◌∷◌, ◌++◌, length, Option, Some, None, refl, sym, ap, ◌∙◌, subst, arith, get_or-set_other, get_or-set_same}
use Rattle.std.specs.Prelude.{slice_index, slice_set}
use Rattle.std.specs.Int.{bytes_low_first}
use Rattle.std.proofs.Math.ListN.{length-set}
use Rattle.std.proofs.lemmas.Bool.{true≢false, cases_eq, cases_lt, leb-true}
use Rattle.std.proofs.lemmas.List.{get_or_past}
use Rattle.std.proofs.lemmas.Option.{none-some}
use Rattle.dl_entry.specs.declared.Request.{Request}
use Rattle.spec_isa.specs.declared.thread.Parts.{Parts}
use Rattle.spec_isa.specs.declared.thread.Kind.{Kind}
use Rattle.spec_isa.specs.declared.operation.Operation.{Operation}
use Rattle.spec_isa.specs.Masks.{some_if}
use Rattle.spec_isa.specs.Words.{Stored, with_byte, lay, merged, later, put, holds, is_inside, IsBytes}
use Rattle.spec_isa.specs.Operations.{stored, refusal, refuses, store_size, is_device_store, store_then, reserves}
use Rattle.spec_isa.specs.Arithmetic.{amo_result}
use Rattle.spec_isa.proofs.BufferLaws.{merged_number}
use Rattle.spec_kernel.specs.Copies.{bytes_put, copied, dma_words}
use Rattle.spec_isa.specs.Inside.{AreInside}
use Rattle.spec_sphere.specs.promises.Sound.{IsByte, HasBytes, HaveBytes, AreSoundWords, IsSoundRequest}
use Rattle.spec_play.proofs.Threads.{branch}

-- ---- put

later-byte : (o p : Option ℕ) → IsByte o → IsByte p → IsByte (later o p)
later-byte o None a b = a
later-byte o (Some x) a b = b

merged-bytes : (r s : Stored) → HasBytes r → HasBytes s → HasBytes (merged r s)
unfolding merged
merged-bytes r s a b =
    record {
      b0 = later-byte r.b0 s.b0 a.b0 b.b0;
      b1 = later-byte r.b1 s.b1 a.b1 b.b1;
      b2 = later-byte r.b2 s.b2 a.b2 b.b2;
      b3 = later-byte r.b3 s.b3 a.b3 b.b3;
    }

-- a word put among others inside is inside, as they are
pub inside_put : (size : ℕ) (ws : List Stored) (s : Stored) → AreInside size ws → 4 * s.number + 4 ≤ size → AreInside size (put ws s)
inside_put size [] s all one_ = (one_, tt)
inside_put size (r ∷ rs) s all one_ =
    branch (AreInside size) (eqb r.number s.number) (merged r s ∷ rs) (r ∷ put rs s)
    (λ _. (subst (λ (a : ℕ). 4 * a + 4 ≤ size) (sym (merged_number r s)) all.0, all.1))
    (λ _. (all.0, inside_put size rs s all.1 one_))

bytes-put : (ws : List Stored) (s : Stored) → HaveBytes ws → HasBytes s → HaveBytes (put ws s)
bytes-put [] s all one_ = (one_, tt)
bytes-put (r ∷ rs) s all one_ =
    branch HaveBytes (eqb r.number s.number) (merged r s ∷ rs) (r ∷ put rs s)
    (λ _. (merged-bytes r s all.0 one_, all.1))
    (λ _. (all.0, bytes-put rs s all.1 one_))

-- the stored word lies inside a memory of that size, and stores bytes
pub record IsSoundWord (size : ℕ) (s : Stored) : Type 0 where
  pub inside : 4 * s.number + 4 ≤ size
  pub bytes : HasBytes s

-- sound words stay so with a sound store put to them
pub sound-put : (size : ℕ) (ws : List Stored) (s : Stored) → AreSoundWords size ws → IsSoundWord size s → AreSoundWords size (put ws s)
sound-put size ws s all one_ = record { inside = inside_put size ws s all.inside one_.inside; bytes = bytes-put ws s all.bytes one_.bytes }

-- no words are sound words
pub sound-none : (size : ℕ) → AreSoundWords size []
sound-none size = record { inside = tt; bytes = tt }

-- ---- the memory after a store

set-bytes : (m : List ℕ) (a b : ℕ) → b < 2 ^ 8 → IsBytes m → IsBytes (slice_set m a b)
set-bytes m a b l h =
    record {
      each = λ i. elim (cases_eq i a) [
        | inl e ↦ elim (cases_lt a (length m)) [
          | inl within ↦ subst (λ (n : ℕ). n < 2 ^ 8) (sym (ap (slice_index (slice_set m a b)) e ∙ get_or-set_same m a b 0 within)) l
          | inr past ↦ subst (λ (n : ℕ). n < 2 ^ 8) (sym (get_or_past (slice_set m a b) i 0 (let k = length-set m a b in omega arith))) (omega arith)
        ]
        | inr ne ↦ subst (λ (n : ℕ). n < 2 ^ 8) (sym (get_or-set_other m a i b 0 ne)) (h.each i)
      ];
    }

with-bytes : (m : List ℕ) (a : ℕ) (o : Option ℕ) → IsByte o → IsBytes m → IsBytes (with_byte m a o)
with-bytes m a None l h = h
with-bytes m a (Some b) l h = set-bytes m a b l h

-- a store of bytes leaves a memory of bytes
pub lay-bytes : (m : List ℕ) (s : Stored) → HasBytes s → IsBytes m → IsBytes (lay m s)
unfolding lay
lay-bytes m s b h =
    with-bytes _ (4 * s.number + 3) s.b3 b.b3 (with-bytes _ (4 * s.number + 2) s.b2 b.b2 (with-bytes _ (4 * s.number + 1) s.b1 b.b1 (with-bytes m (4 * s.number) s.b0 b.b0 h)))

-- ---- one word

if-byte : (c : Bool) (n : ℕ) → IsByte (some_if c (n % 2 ^ 8))
if-byte true n = omega arith
if-byte false n = tt

-- a word that is stored takes bytes of a value
pub stored-bytes : (size a v : ℕ) → HasBytes (stored size a v)
stored-bytes size a v = record { b0 = if-byte _ _; b1 = if-byte _ _; b2 = if-byte _ _; b3 = if-byte _ _ }

inside-is : (size a : ℕ) → is_inside size a ≡ true → 4 * (a / 4) + 4 ≤ size
inside-is size a e = let l = leb-true (a / 4 * 4 + 4) size e in omega (arith, l)

stored-sound : (size width a v : ℕ) → is_inside size a ≡ true → IsSoundWord size (stored width a v)
stored-sound size width a v e = record { inside = inside-is size a e; bytes = stored-bytes width a v }

-- an access that is not refused is inside
allowed-inside : (size width a : ℕ) (device : Bool) (x y z : Kind) → refusal size width a device x y z ≡ None → is_inside size a ≡ true
allowed-inside size width a device x y z e =
    branch (λ (o : Option Kind). o ≡ None → is_inside size a ≡ true) (eqb (a % width) 0) (cond device (Some x) (cond (is_inside size a) None (Some z))) (Some y)
    (λ _. branch (λ (o : Option Kind). o ≡ None → is_inside size a ≡ true) device (Some x) (cond (is_inside size a) None (Some z))
    (λ _ q. absurd (none-some x (sym q)))
    (λ _. branch (λ (o : Option Kind). o ≡ None → is_inside size a ≡ true) (is_inside size a) None (Some z) (λ h _. h) (λ _ q. absurd (none-some z (sym q)))))
    (λ _ q. absurd (none-some y (sym q))) e

abbrev StoresSound : (size : ℕ) → Option Stored → Type 0
StoresSound size o = (s : Stored) → o ≡ Some s → IsSoundWord size s

some-sound : (size : ℕ) (r : Stored) → IsSoundWord size r → StoresSound size (Some r)
some-sound size r h s e = subst (IsSoundWord size) (let q : r ≡ s = cc in q) h

-- what an instruction stores that is run
pub store-sound : (size : ℕ) (p : Operation) (t : Parts) (w : ℕ) → refuses size p ≡ None → (s : Stored) → store_then p t w ≡ Some s → IsSoundWord size s
store-sound size (Operation.Go rd value pc) t w e s is = absurd (none-some s is)
store-sound size (Operation.Stop kind) t w e s is = absurd (none-some s is)
store-sound size (Operation.Load op rd a) t w e s is = absurd (none-some s is)
store-sound size (Operation.Store op a v) t w e s is =
    some-sound size (stored (store_size op) a v) (stored-sound size (store_size op) a v (allowed-inside size (store_size op) a (is_device_store op a) Kind.DeviceStore (Kind.Fault 6) (Kind.Fault 7) e)) s is
store-sound size (Operation.LoadReserved rd a) t w e s is = absurd (none-some s is)
store-sound size (Operation.StoreConditional rd a v) t w e s is =
    branch (StoresSound size) (reserves t.reservation a) (Some (stored 4 a v)) None
    (λ _. some-sound size (stored 4 a v) (stored-sound size 4 a v (allowed-inside size 4 a false Kind.DeviceStore (Kind.Fault 6) (Kind.Fault 7) e)))
    (λ _ r q. absurd (none-some r q)) s is
store-sound size (Operation.Amo op rd a v) t w e s is =
    some-sound size (stored 4 a (amo_result op w v)) (stored-sound size 4 a (amo_result op w v) (allowed-inside size 4 a false Kind.DeviceStore (Kind.Fault 6) (Kind.Fault 7) e)) s is

-- ---- copies

copy-sound : (size : ℕ) (ws : List Stored) (a : ℕ) (bytes : List ℕ) → size % 4 ≡ 0 → a + length bytes ≤ size → AreSoundWords size ws → AreSoundWords size (bytes_put ws a bytes)
unfolding bytes_put
copy-sound size ws a [] whole l all = all
copy-sound size ws a (b ∷ bytes) whole l all =
    copy-sound size (put ws (stored 1 a b)) (a + 1) bytes whole (omega arith)
    (sound-put size ws (stored 1 a b) all (record { inside = omega arith; bytes = stored-bytes 1 a b }))

-- the words of bytes that are copied inside memory are sound
pub copied-sound : (size a : ℕ) (bytes : List ℕ) → size % 4 ≡ 0 → a + length bytes ≤ size → AreSoundWords size (copied a bytes)
copied-sound size a bytes whole l = copy-sound size [] a bytes whole l (sound-none size)

-- a DMA's count of bytes is a word before them
dma-length : (n : ℕ) (bytes : List ℕ) → length (bytes_low_first 0 4 n ++ bytes) ≡ 4 + length bytes
dma-length n bytes = omega arith

-- the words of a DMA are sound
pub dma-sound : (size : ℕ) (request : Request) (bytes : List ℕ) → size % 4 ≡ 0 → IsSoundRequest size request → length bytes ≤ request.len → AreSoundWords size (dma_words request bytes)
dma-sound size request bytes whole sound few =
    copied-sound size request.buf (bytes_low_first 0 4 (length bytes) ++ bytes) whole (let e = dma-length (length bytes) bytes in let l = sound.inside in omega (arith, e, l, few))

-- ---- words that find room

-- a store to a word that is held makes no word more
pub held-length : (ws : List Stored) (s : Stored) → holds ws s.number ≡ true → length (put ws s) ≡ length ws
held-length [] s e = absurd (true≢false (sym e))
held-length (r ∷ rs) s e =
    elim (eqb r.number s.number) as (λ (b : Bool). cond b true (holds rs s.number) ≡ true → length (cond b (merged r s ∷ rs) (r ∷ put rs s)) ≡ suc (length rs)) [
      | true ↦ λ _. refl
      | false ↦ λ h. ap suc (held-length rs s h)
    ] e

-- a store makes at most one word more
pub put-length : (ws : List Stored) (s : Stored) → length (put ws s) ≤ suc (length ws)
put-length [] s = omega arith
put-length (r ∷ rs) s =
    branch (λ (qs : List Stored). length qs ≤ suc (suc (length rs))) (eqb r.number s.number) (merged r s ∷ rs) (r ∷ put rs s)
    (λ _. omega arith) (λ _. let l = put-length rs s in omega (arith, l))
