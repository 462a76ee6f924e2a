-- Interrupts of which some are dropped are still of new moments.
use Rattle.std.proofs.Common.{◌≡◌, ℕ, Bool, true, false, ◌&&◌, cond, eqb, List, [], ◌∷◌, Some, None, refl, sym, ap}
use Rattle.std.specs.Prelude.{option_map}
use Rattle.std.specs.List.{filter, find}
use Rattle.std.proofs.lemmas.Option.{none-some}
use Rattle.spec_isa.specs.declared.thread.Parts.{Parts}
use Rattle.spec_log.specs.declared.Interrupt.{Interrupt}
use Rattle.spec_play.specs.Verdicts.{interrupt_at}
use Rattle.spec_sphere.specs.promises.Sound.{AreFresh}
use Rattle.spec_sphere.proofs.Logs.Lookups.{none-there}

module _ {X : Type 0} (p : X → Bool) where
  one-left : (x : X) (b c : Bool) (xs ys : List X) → p x ≡ b → (find p xs ≡ None → find p ys ≡ None) → cond b (Some x) (find p xs) ≡ None → find p (cond c (x ∷ ys) ys) ≡ None
  one-left x true c xs ys is h e = absurd (none-some x (sym e))
  one-left x false true xs ys is h e = rw is (h e)
  one-left x false false xs ys is h e = h e

  -- what isn't among these isn't among those that are left of them
  none-left : (f : X → Bool) (xs : List X) → find p xs ≡ None → find p (filter f xs) ≡ None
  none-left f [] e = refl
  none-left f (x ∷ xs) e = one-left x (p x) (f x) xs (filter f xs) refl (none-left f xs) e

no-interrupt : (f : Interrupt → Bool) (is : List Interrupt) (k i : ℕ) → interrupt_at is k i ≡ None → interrupt_at (filter f is) k i ≡ None
no-interrupt f is k i e =
    ap (option_map (λ (s : Interrupt). s.value)) (none-left (λ (s : Interrupt). eqb s.thread k && eqb s.index i) f is (none-there is k i e))

-- if the next interrupt is of a new moment, it still is once some are dropped
pub fresh-left : (f : Interrupt → Bool) (ts : List Parts) (is : List Interrupt) → AreFresh ts is → AreFresh ts (filter f is)
fresh-left f ts is h =
    record {
      later = λ k i t there more. no-interrupt f is k i (h.later k i t there more);
      unmasked = λ k t there mask. no-interrupt f is k t.commits (h.unmasked k t there mask);
      absent = λ k i none. no-interrupt f is k i (h.absent k i none);
    }
