-- The words that a chunk looks at are inside its memory.
use Rattle.std.proofs.Common.{◌≡◌, ℕ, zero, suc, ◌+◌, ◌*◌, ◌/◌, ◌%◌, ◌≤◌, inl, inr, Bool, true, false, ◌&&◌, ◌||◌, List, [], ◌∷◌, length, Option, Some, None, if◌then◌else◌, refl, sym, ap, ◌∙◌, subst, arith}
use Rattle.std.specs.Prelude.{nat_eq, nat_le}
use Rattle.std.proofs.lemmas.Bool.{true≢false, or_cases, eqb-true, leb-true}
use Rattle.std.proofs.lemmas.Option.{none-some, same_Some}
use Rattle.spec_isa.specs.declared.thread.Parts.{Parts}
use Rattle.spec_isa.specs.declared.thread.Kind.{Kind}
use Rattle.spec_isa.specs.declared.operation.Operation.{Operation}
use Rattle.spec_isa.specs.Words.{Stored, lays, holds, is_inside}
use Rattle.spec_isa.specs.Instruction.{operation_of, serial_of, loads_of}
use Rattle.spec_isa.specs.Operations.{load_size, is_device_load, refusal, refuses, word_loaded}
use Rattle.spec_isa.specs.Runs.{Run, run}
use Rattle.spec_isa.proofs.MemoryLaws.{length_lays}
use Rattle.spec_kernel.specs.Needs.{fetched}
use Rattle.spec_isa.specs.Inside.{AreInside}
use Rattle.spec_strata.specs.Footprints.{is_loaded, looks_at, looks}

-- ---- one instruction

-- an access that isn't refused is inside
refusal-inside : (aligned device inside : Bool) (a b c : Kind) → (if aligned then if device then Some a else if inside then None else Some b else Some c) ≡ None → inside ≡ true
refusal-inside true true inside a b c e = cc
refusal-inside true false true a b c e = refl
refusal-inside true false false a b c e = cc
refusal-inside false device inside a b c e = cc

inside-word : (size addr a : ℕ) → is_inside size addr ≡ true → addr / 4 ≡ a → 4 * a + 4 ≤ size
inside-word size addr a e is = let l = leb-true (addr / 4 * 4 + 4) size e in omega (arith, l, is)

loaded-inside : (size : ℕ) (p : Operation) (a : ℕ) → refuses size p ≡ None → word_loaded p ≡ Some a → 4 * a + 4 ≤ size
loaded-inside size (Operation.Go rd value pc) a free is = absurd (none-some a is)
loaded-inside size (Operation.Stop kind) a free is = absurd (none-some a is)
loaded-inside size (Operation.Load op rd addr) a free is =
    inside-word size addr a (refusal-inside (nat_eq (addr % load_size op) 0) (is_device_load op addr) (is_inside size addr) _ _ _ free) (same_Some (addr / 4) a is)
loaded-inside size (Operation.Store op addr v) a free is = absurd (none-some a is)
loaded-inside size (Operation.LoadReserved rd addr) a free is =
    inside-word size addr a (refusal-inside (nat_eq (addr % 4) 0) false (is_inside size addr) Kind.DeviceLoad _ _ free) (same_Some (addr / 4) a is)
loaded-inside size (Operation.StoreConditional rd addr v) a free is = absurd (none-some a is)
loaded-inside size (Operation.Amo op rd addr v) a free is =
    inside-word size addr a (refusal-inside (nat_eq (addr % 4) 0) false (is_inside size addr) Kind.DeviceLoad _ _ free) (same_Some (addr / 4) a is)

run-free : (inside : Bool) (o : Option Kind) (kind : Kind) → (if inside then o else Some kind) ≡ None → o ≡ None
run-free true o kind e = e
run-free false o kind e = cc

of-instruction : (t : Parts) (f size a : ℕ) → serial_of t f size ≡ None → loads_of t f ≡ Some a → 4 * a + 4 ≤ size
unfolding serial_of loads_of
of-instruction t f size a free is = loaded-inside size (operation_of t f) a (run-free (is_inside size t.pc) (refuses size (operation_of t f)) _ free) is

by-load : (t : Parts) (f size a : ℕ) (k : Option Kind) (o : Option ℕ) → serial_of t f size ≡ k → loads_of t f ≡ o → is_loaded k o a ≡ true → 4 * a + 4 ≤ size
by-load t f size a None (Some w) free is e = subst (λ (n : ℕ). 4 * n + 4 ≤ size) (eqb-true w a e) (of-instruction t f size w free is)
by-load t f size a None None free is e = absurd (true≢false (sym e))
by-load t f size a (Some kind) o free is e = absurd (true≢false (sym e))

by-fetch : (size pc a : ℕ) (inside same : Bool) → is_inside size pc ≡ inside → nat_eq (pc / 4) a ≡ same → (inside && same) ≡ true → 4 * a + 4 ≤ size
by-fetch size pc a true true is e h = inside-word size pc a is (eqb-true (pc / 4) a e)
by-fetch size pc a true false is e h = absurd (true≢false (sym h))
by-fetch size pc a false same is e h = absurd (true≢false (sym h))

looked-inside : (t : Parts) (m : List ℕ) (a : ℕ) → looks_at t m a ≡ true → 4 * a + 4 ≤ length m
unfolding looks_at
looked-inside t m a e =
    elim (or_cases (is_inside (length m) t.pc && nat_eq (t.pc / 4) a) (is_loaded (serial_of t (fetched t m) (length m)) (loads_of t (fetched t m)) a) e) [
      | inl h ↦ by-fetch (length m) t.pc a (is_inside (length m) t.pc) (nat_eq (t.pc / 4) a) refl refl h
      | inr h ↦ by-load t (fetched t m) (length m) a (serial_of t (fetched t m) (length m)) (loads_of t (fetched t m)) refl refl h
    ]

-- ---- a run

-- each word that a run looks at is inside its memory
pub looks-inside : (m : List ℕ) (t : Parts) (n a : ℕ) → looks m t n a ≡ true → 4 * a + 4 ≤ length m
looks-inside m t zero a e = absurd (true≢false (sym e))
looks-inside m t (suc n) a e =
    let r : Run = run m t n in
    elim (or_cases (looks m t n a) (looks_at r.thread (lays m r.words) a) e) [
      | inl h ↦ looks-inside m t n a h
      | inr h ↦ (let l = looked-inside r.thread (lays m r.words) a h in let same = length_lays m r.words in omega (arith, l, same))
    ]

-- the words that it stores to
pub holds-inside : (size : ℕ) (ws : List Stored) (a : ℕ) → AreInside size ws → holds ws a ≡ true → 4 * a + 4 ≤ size
holds-inside size [] a all e = absurd (true≢false (sym e))
holds-inside size (w ∷ ws) a all e = by (nat_eq w.number a) refl (holds-inside size ws a all.1) e
  where
    by : (b : Bool) → nat_eq w.number a ≡ b → (holds ws a ≡ true → 4 * a + 4 ≤ size) → (if b then true else holds ws a) ≡ true → 4 * a + 4 ≤ size
    by true is rest h = subst (λ (n : ℕ). 4 * n + 4 ≤ size) (eqb-true w.number a is) all.0
    by false is rest h = rest h
