-- A line in its shortest form, with one digit, holds its event.
use Rattle.std.proofs.Common.{◌≡◌, ℕ, ◌+◌, ◌<◌, ◌≤◌, suc, List, [], ◌∷◌, length, take, refl, ap₂, arith, below_more, below_none}
use Rattle.std.proofs.lemmas.Slice.Eq.{HasBytesAt}
use Rattle.spec_protocol.specs.declared.event.Event.{Event}
use Rattle.dl_event.specs.declared.line.Line.TheVariants.{Holds}
use Rattle.dl_event.specs.Script.{lines_of}

behind : (x : ℕ) (xs : List ℕ) (i : ℕ) (p : List ℕ) → HasBytesAt (x ∷ xs) (suc i) p → HasBytesAt xs i p
behind x xs i [] h = tt
behind x xs i (b ∷ p) h = (h.0, behind x xs (suc i) p h.1)

-- the front of a text whose first bytes were read
pub front : (p text : List ℕ) → length p ≤ length text → HasBytesAt text 0 p → take (length p) text ≡ p
front [] text l h = refl
front (b ∷ p) [] l h = absurd (omega arith)
front (b ∷ p) (x ∷ xs) l h = ap₂ (λ (y : ℕ) (ys : List ℕ). y ∷ ys) h.0 (front p xs (omega arith) (behind x xs 0 p h.1))

-- what holds of the ten digits
at-digits : (P : ℕ → Type 0) → P 0 → P 1 → P 2 → P 3 → P 4 → P 5 → P 6 → P 7 → P 8 → P 9 → (m : ℕ) → m < 10 → P m
at-digits P p0 p1 p2 p3 p4 p5 p6 p7 p8 p9 =
    below_more P 9 (below_more P 8 (below_more P 7 (below_more P 6 (below_more P 5 (below_more P 4 (below_more P 3 (below_more P 2 (below_more P 1 (below_more P 0 (below_none P) p0) p1) p2) p3) p4) p5) p6) p7) p8) p9

-- a line 'step', with a digit, holds the event step of that core
pub step_line : (m : ℕ) → m < 10 → (rest : List ℕ) → lines_of (115 ∷ 116 ∷ 101 ∷ 112 ∷ 32 ∷ (48 + m) ∷ 10 ∷ rest) ≡ Holds (Event.Step m) ∷ lines_of rest
step_line m l rest =
    at-digits (λ (d : ℕ). lines_of (115 ∷ 116 ∷ 101 ∷ 112 ∷ 32 ∷ (48 + d) ∷ 10 ∷ rest) ≡ Holds (Event.Step d) ∷ lines_of rest)
    refl refl refl refl refl refl refl refl refl refl m l

-- a line 'drain', with a digit, holds the event drain of that slot
pub drain_line : (m : ℕ) → m < 10 → (rest : List ℕ) → lines_of (100 ∷ 114 ∷ 97 ∷ 105 ∷ 110 ∷ 32 ∷ (48 + m) ∷ 10 ∷ rest) ≡ Holds (Event.Drain m) ∷ lines_of rest
drain_line m l rest =
    at-digits (λ (d : ℕ). lines_of (100 ∷ 114 ∷ 97 ∷ 105 ∷ 110 ∷ 32 ∷ (48 + d) ∷ 10 ∷ rest) ≡ Holds (Event.Drain d) ∷ lines_of rest)
    refl refl refl refl refl refl refl refl refl refl m l

-- a line 'ask', with a digit, holds the event ask of that core
pub ask_line : (m : ℕ) → m < 10 → (rest : List ℕ) → lines_of (97 ∷ 115 ∷ 107 ∷ 32 ∷ (48 + m) ∷ 10 ∷ rest) ≡ Holds (Event.Ask m) ∷ lines_of rest
ask_line m l rest =
    at-digits (λ (d : ℕ). lines_of (97 ∷ 115 ∷ 107 ∷ 32 ∷ (48 + d) ∷ 10 ∷ rest) ≡ Holds (Event.Ask d) ∷ lines_of rest)
    refl refl refl refl refl refl refl refl refl refl m l

-- a line 'retire', with a digit, holds the event retire of that slot
pub retire_line : (m : ℕ) → m < 10 → (rest : List ℕ) → lines_of (114 ∷ 101 ∷ 116 ∷ 105 ∷ 114 ∷ 101 ∷ 32 ∷ (48 + m) ∷ 10 ∷ rest) ≡ Holds (Event.Retire m) ∷ lines_of rest
retire_line m l rest =
    at-digits (λ (d : ℕ). lines_of (114 ∷ 101 ∷ 116 ∷ 105 ∷ 114 ∷ 101 ∷ 32 ∷ (48 + d) ∷ 10 ∷ rest) ≡ Holds (Event.Retire d) ∷ lines_of rest)
    refl refl refl refl refl refl refl refl refl refl m l

abbrev delivers : (c k : ℕ) (rest : List ℕ) → Type 0
delivers c k rest = lines_of (100 ∷ 101 ∷ 108 ∷ 105 ∷ 118 ∷ 101 ∷ 114 ∷ 32 ∷ (48 + c) ∷ 32 ∷ (48 + k) ∷ 10 ∷ rest) ≡ Holds (Event.Deliver c k) ∷ lines_of rest

-- a line 'deliver', with two digits, holds the event deliver of that core and that slot
pub deliver_line : (c : ℕ) → c < 10 → (k : ℕ) → k < 10 → (rest : List ℕ) → delivers c k rest
deliver_line c c_small k k_small rest =
    at-digits (λ (d : ℕ). delivers d k rest)
    (at-digits (λ (e : ℕ). delivers 0 e rest) refl refl refl refl refl refl refl refl refl refl k k_small)
    (at-digits (λ (e : ℕ). delivers 1 e rest) refl refl refl refl refl refl refl refl refl refl k k_small)
    (at-digits (λ (e : ℕ). delivers 2 e rest) refl refl refl refl refl refl refl refl refl refl k k_small)
    (at-digits (λ (e : ℕ). delivers 3 e rest) refl refl refl refl refl refl refl refl refl refl k k_small)
    (at-digits (λ (e : ℕ). delivers 4 e rest) refl refl refl refl refl refl refl refl refl refl k k_small)
    (at-digits (λ (e : ℕ). delivers 5 e rest) refl refl refl refl refl refl refl refl refl refl k k_small)
    (at-digits (λ (e : ℕ). delivers 6 e rest) refl refl refl refl refl refl refl refl refl refl k k_small)
    (at-digits (λ (e : ℕ). delivers 7 e rest) refl refl refl refl refl refl refl refl refl refl k k_small)
    (at-digits (λ (e : ℕ). delivers 8 e rest) refl refl refl refl refl refl refl refl refl refl k k_small)
    (at-digits (λ (e : ℕ). delivers 9 e rest) refl refl refl refl refl refl refl refl refl refl k k_small)
    c c_small
