-- Stores laid over a memory: those of different words in any order, and memories that agree on some words.
use Rattle.std.proofs.Common.{ℕ, ◌+◌, List, [], ◌∷◌, ◌++◌, sym}
use Rattle.spec_isa.specs.Words.{Stored, Lacks, Apart}
use Rattle.spec_play.specs.Touching.{AllLack}

-- ---- lists of stores

-- a word that two lists lack is lacked by both together
pub Lacks-append : (a : ℕ) (xs ys : List Stored) → Lacks a xs → Lacks a ys → Lacks a (xs ++ ys)
Lacks-append a [] ys p q = q
Lacks-append a (x ∷ xs) ys p q = (p.0, Lacks-append a xs ys p.1 q)

pub Lacks_left : (a : ℕ) (xs ys : List Stored) → Lacks a (xs ++ ys) → Lacks a xs
Lacks_left a [] ys p = tt
Lacks_left a (x ∷ xs) ys p = (p.0, Lacks_left a xs ys p.1)

pub Lacks_right : (a : ℕ) (xs ys : List Stored) → Lacks a (xs ++ ys) → Lacks a ys
Lacks_right a [] ys p = p
Lacks_right a (x ∷ xs) ys p = Lacks_right a xs ys p.1

-- no word is in an empty list
pub AllLack_nil : (xs : List Stored) → AllLack xs []
AllLack_nil [] = tt
AllLack_nil (x ∷ xs) = (tt, AllLack_nil xs)

AllLack_cons : (xs : List Stored) (y : Stored) (ys : List Stored) → Lacks y.number xs → AllLack xs ys → AllLack xs (y ∷ ys)
AllLack_cons [] y ys p q = tt
AllLack_cons (x ∷ xs) y ys p q = ((λ e. p.0 (sym e), q.0), AllLack_cons xs y ys p.1 q.1)

-- of two lists that share no word each lacks the other's
pub AllLack_flip : (xs ys : List Stored) → AllLack xs ys → AllLack ys xs
AllLack_flip [] ys p = AllLack_nil ys
AllLack_flip (x ∷ xs) ys p = AllLack_cons ys x xs p.0 (AllLack_flip xs ys p.1)

-- a list that shares no word with two others shares none with both together
pub AllLack-append : (xs ys zs : List Stored) → AllLack xs ys → AllLack xs zs → AllLack xs (ys ++ zs)
AllLack-append [] ys zs p q = tt
AllLack-append (x ∷ xs) ys zs p q = (Lacks-append x.number ys zs p.0 q.0, AllLack-append xs ys zs p.1 q.1)

-- a list that shares no word with two joined shares none with the first
pub AllLack_left : (xs ys zs : List Stored) → AllLack xs (ys ++ zs) → AllLack xs ys
AllLack_left [] ys zs p = tt
AllLack_left (x ∷ xs) ys zs p = (Lacks_left x.number ys zs p.0, AllLack_left xs ys zs p.1)

-- a list that shares no word with two joined shares none with the second
pub AllLack_right : (xs ys zs : List Stored) → AllLack xs (ys ++ zs) → AllLack xs zs
AllLack_right [] ys zs p = tt
AllLack_right (x ∷ xs) ys zs p = (Lacks_right x.number ys zs p.0, AllLack_right xs ys zs p.1)

-- where no word comes twice in two lists, none does in the first
pub Apart_first : (xs ys : List Stored) → Apart (xs ++ ys) → Apart xs
Apart_first [] ys p = tt
Apart_first (x ∷ xs) ys p = (Lacks_left x.number xs ys p.0, Apart_first xs ys p.1)

-- where no word comes twice in two lists, none does in the second
pub Apart_last : (xs ys : List Stored) → Apart (xs ++ ys) → Apart ys
Apart_last [] ys p = p
Apart_last (x ∷ xs) ys p = Apart_last xs ys p.1

-- where no word comes twice in two lists, they share none
pub Apart_lack : (xs ys : List Stored) → Apart (xs ++ ys) → AllLack xs ys
Apart_lack [] ys p = tt
Apart_lack (x ∷ xs) ys p = (Lacks_right x.number xs ys p.0, Apart_lack xs ys p.1)

-- two lists in which no word comes twice, and which share none, have none twice together
pub Apart-append : (xs ys : List Stored) → Apart xs → Apart ys → AllLack xs ys → Apart (xs ++ ys)
Apart-append [] ys p q lack = q
Apart-append (x ∷ xs) ys p q lack = (Lacks-append x.number xs ys p.0 lack.0, Apart-append xs ys p.1 q lack.1)
