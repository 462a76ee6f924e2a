-- What `split` gives, one after the other, are the lines of the source.
use Rattle.std.proofs.Common.{◌≡◌, ℕ, ◌<◌, Bool, false, List, [], length, Option, Some, None, ◌∙◌, eqb, Bor}
use Rattle.std.specs.Fn.{CalledAt}
use Rattle.std.specs.Iterator.{Yields}
use Rattle.std.specs.Slice.Iter.{split_steps, split_rest, split_done, split_callee}
use Rattle.std.specs.declared.slice.Split.{Split}
use denote.Param.Members.{Mut}
use Rattle.std.proofs.lemmas.Iterator.Consumers.{YieldsList-turn, YieldsList-end}
use Rattle.std.proofs.lemmas.Iterator.Splits.{YieldsList-from_slice_split}
use Rattle.std.proofs.lemmas.List.{get_or_default}
use Rattle.dl_asm.specs.Sources.{lines_of, line_at}

-- the line that is given once xs were: s is the iterator at its start
pub line-turn : {F : Type 0} {g : Mut F (Bor ℕ × Unit {0}) Bool} (s t u : Split ℕ F) (source : List ℕ) (f : F) (xs : List (Bor (List ℕ))) (x : Bor (List ℕ)) (r : Option (Bor (List ℕ)))
    → Yields (split_steps g) s xs t → r ≡ Some x → split_steps g t r u → split_rest s ≡ source → split_done s ≡ false → split_callee s ≡ f
    → ((y : ℕ) (b : Bool) (q : F) → CalledAt g f y b q → (q ≡ f) × (b ≡ eqb y 10)) → (length xs < length (lines_of source)) × (x.now ≡ line_at (lines_of source) (length xs))
line-turn {g} s t u source f xs x r gave is step rest done callee tests =
    let turn = YieldsList-turn (YieldsList-from_slice_split g (λ b. eqb b 10) source rest done callee tests) xs _ gave r _ x is step in
    (turn.0, turn.1 ∙ get_or_default (lines_of source) (length xs) x.now [] turn.0)

-- if no line is given, as many were given as the source has
pub line-end : {F : Type 0} {g : Mut F (Bor ℕ × Unit {0}) Bool} (s t u : Split ℕ F) (source : List ℕ) (f : F) (xs : List (Bor (List ℕ))) (r : Option (Bor (List ℕ)))
    → Yields (split_steps g) s xs t → r ≡ None → split_steps g t r u → split_rest s ≡ source → split_done s ≡ false → split_callee s ≡ f
    → ((y : ℕ) (b : Bool) (q : F) → CalledAt g f y b q → (q ≡ f) × (b ≡ eqb y 10)) → length xs ≡ length (lines_of source)
line-end {g} s t u source f xs r gave is step rest done callee tests =
    let end = YieldsList-end (YieldsList-from_slice_split g (λ b. eqb b 10) source rest done callee tests) xs _ gave r _ is step in
    end.1
