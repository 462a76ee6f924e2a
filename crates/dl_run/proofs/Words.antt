-- The numbers of threads, one after another.
use Rattle.std.proofs.Common.{◌≡◌, ℕ, zero, suc, ◌+◌, ◌^◌, ◌<◌, List, [], ◌∷◌, ◌++◌, length, take, drop, All, Some, refl, sym, ap, ◌∙◌, subst, arith}
use Rattle.std.specs.Prelude.{slice_get, slice_index}
use Rattle.std.proofs.lemmas.Option.{none-some, same_Some}
use Rattle.std.proofs.lemmas.List.Elements.{All-nil, All-cons, All-head, All-tail}
use Rattle.spec_isa.specs.declared.thread.Parts.{Parts}
use Rattle.spec_tail.specs.Tails.{words_of}

abbrev IsWord : ℕ → Type 0
IsWord word = word < 2 ^ 32

-- its words are those that come before its registers, and these
pub words-so : (p : Parts) → IsWord p.pc → IsWord p.handler → IsWord p.saved_pc → IsWord p.saved_a0 → IsWord p.saved_a1 → All (λ word. word < 2 ^ 32) p.x → All (λ word. word < 2 ^ 32) (words_of p)
words-so p pc handler saved a b x =
    All-cons IsWord p.pc (p.handler ∷ p.saved_pc ∷ p.saved_a0 ∷ p.saved_a1 ∷ p.x) pc
    (All-cons IsWord p.handler (p.saved_pc ∷ p.saved_a0 ∷ p.saved_a1 ∷ p.x) handler
    (All-cons IsWord p.saved_pc (p.saved_a0 ∷ p.saved_a1 ∷ p.x) saved
    (All-cons IsWord p.saved_a0 (p.saved_a1 ∷ p.x) a (All-cons IsWord p.saved_a1 p.x b x))))

-- one more
pub all-more : (P : Parts → Type 0) (xs : List Parts) (x : Parts) → All P xs → P x → All P (xs ++ x ∷ [])
all-more P [] x all one = All-cons P x [] one (All-nil P)
all-more P (y ∷ ys) x all one = All-cons P y (ys ++ x ∷ []) (All-head P y ys all) (all-more P ys x (All-tail P y ys all) one)

-- the first threads, and one more
pub take-next : (ts : List Parts) (n : ℕ) (t : Parts) → slice_get ts n ≡ Some t → take (n + 1) ts ≡ take n ts ++ t ∷ []
take-next ts n t is = ap (λ (k : ℕ). take k ts) (let h : n + 1 ≡ suc n = omega arith in h) ∙ next ts n t is where
  next : (ts : List Parts) (n : ℕ) (t : Parts) → slice_get ts n ≡ Some t → take (suc n) ts ≡ take n ts ++ t ∷ []
  next [] n t is = absurd (none-some t is)
  next (x ∷ ts) zero t is = ap (λ (y : Parts). y ∷ []) (same_Some x t is)
  next (x ∷ ts) (suc n) t is = ap (λ (ys : List Parts). x ∷ ys) (next ts n t is)

-- what follows of each follows of all
pub all-so : (P Q : Parts → Type 0) (ts : List Parts) → ((t : Parts) → P t → Q t) → All P ts → All Q ts
all-so P Q [] f all = All-nil Q
all-so P Q (t ∷ ts) f all = All-cons Q t ts (f t (All-head P t ts all)) (all-so P Q ts f (All-tail P t ts all))

-- bytes are below 256
pub bytes-so : (m : List ℕ) → ((i : ℕ) → slice_index m i < 2 ^ 8) → All (λ byte. byte < 256) m
bytes-so [] each = All-nil (λ (byte : ℕ). byte < 256)
bytes-so (b ∷ m) each = All-cons (λ (byte : ℕ). byte < 256) b m (each 0) (bytes-so m (λ i. each (suc i)))
