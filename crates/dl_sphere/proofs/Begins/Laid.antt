-- Words that are laid one after another, and slot by slot.
use Rattle.std.proofs.Common.{◌≡◌, ℕ, ◌∷◌, ◌++◌, [], List, length, ap, sym, subst}
use Rattle.spec_isa.specs.Words.{Stored, lay, lays}
use Rattle.spec_isa.proofs.MemoryLaws.{length_lay}
use Rattle.spec_isa.specs.Inside.{AreInside}

-- ---- word by word

-- the first of the words left is laid, and the others are left
pub one_laid : (m : List ℕ) (ws others : List Stored) (s : Stored) → ws ≡ s ∷ others → lays (lay m s) others ≡ lays m ws
one_laid m ws others s e = ap (lays m) (sym e)

-- and they are inside still
pub others_inside : (m : List ℕ) (ws others : List Stored) (s : Stored) → ws ≡ s ∷ others → AreInside (length m) ws → AreInside (length (lay m s)) others
others_inside m ws others s e h =
    subst (λ (n : ℕ). AreInside n others) (sym (length_lay m s)) ((subst (AreInside (length m)) e h).1)

-- ---- slot by slot

-- what is left of a flight is inside, and so is what is left of those after it
pub inside_parts : (n : ℕ) (xs ys : List Stored) → AreInside n (xs ++ ys) → AreInside n xs × AreInside n ys
inside_parts n [] ys h = (tt, h)
inside_parts n (x ∷ xs) ys h = let r = inside_parts n xs ys h.1 in ((h.0, r.0), r.1)
