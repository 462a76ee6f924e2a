-- The states of a trail by their places.
use Rattle.std.proofs.Common.{◌≡◌, ℕ, zero, suc, ◌*◌, ◌/◌, ◌<◌, ◌≤◌, List, [], ◌∷◌, length, get_or, slice_get, Some, refl, sym, ap, ◌∙◌, subst, arith}
use Rattle.std.proofs.lemmas.Option.{none-some, slice_get_within}
use Rattle.std.proofs.Math.Nat.{div-mul-le_self, le-div_iff_mul-le}
use Rattle.spec_log.specs.declared.LogParts.{LogParts}
use Rattle.spec_play.specs.States as play
use Rattle.spec_play.specs.States.{state_after}
use Rattle.spec_play.specs.Resuming.{HasDone}
use Rattle.dl_kernel.specs.States.{PlayState as State, state_in}
use Rattle.dl_serial.specs.Keeping.{AreKept}
use Rattle.dl_trail.specs.Trails.{AreNumbers, commits_of, entry_in, entry_of, memory_of}

-- what is found at a place inside is at that place
pub found-there : (xs : List State) (n : ℕ) (x : State) → n < length xs → x ≡ get_or xs n x → slice_get xs n ≡ Some x
found-there [] n x l e = absurd (omega arith)
found-there (y ∷ ys) zero x l e = ap Some (sym e)
found-there (y ∷ ys) (suc n) x l e = found-there ys n x (omega arith) e

-- the lesser of two numbers, times a third, is at most the greater times it
pub times_most : (m n every : ℕ) → m ≤ n → m * every ≤ n * every
times_most zero n every l = omega arith
times_most (suc m) zero every l = absurd (omega arith)
times_most (suc m) (suc n) every l = let h = times_most m n every (omega arith) in omega (arith, h)

-- a place that is no further than the quotient is after no more commits
pub place-before : (i n every : ℕ) → n ≤ i / every → n * every ≤ i
place-before i n every l =
    let a = times_most n (i / every) every l in
    let b = div-mul-le_self i every in
    omega (arith, a, b)

-- a place that is after no more commits is no further than the quotient
pub place-within : (i n every : ℕ) → 1 ≤ every → n * every ≤ i → n ≤ i / every
place-within i n every one l = (le-div_iff_mul-le (omega (arith, one))).1 l

-- States are kept of this log's play on an image.
module _ (log : LogParts) (memory : List ℕ) (entry every : ℕ) (kept : List State) (are : AreKept log memory entry every kept) where
  -- one of them is there, before the first commit
  pub some-kept : 0 < length kept
  some-kept = are.all 0 (let none : 0 * every ≡ 0 = omega arith in subst (HasDone log memory entry) (sym none) refl)

  first_is : (ss : List State) → ((n : ℕ) (s : State) → slice_get ss n ≡ Some s → state_in s ≡ state_after log memory entry (n * every)) → 0 < length ss → memory_of ss ≡ memory
  first_is [] each some = absurd (omega arith)
  first_is (s ∷ ss) each some =
      let none : 0 * every ≡ 0 = omega arith in
      ap (λ (x : play.State). x.memory) (each 0 s refl ∙ ap (state_after log memory entry) none)

  entry_is : (ss : List State) → ((n : ℕ) (s : State) → slice_get ss n ≡ Some s → state_in s ≡ state_after log memory entry (n * every)) → 0 < length ss → entry_of ss ≡ entry
  entry_is [] each some = absurd (omega arith)
  entry_is (s ∷ ss) each some =
      let none : 0 * every ≡ 0 = omega arith in
      ap (λ (x : play.State). entry_in x.threads) (each 0 s refl ∙ ap (state_after log memory entry) none)

  -- it is of the image
  pub memory-kept : memory_of kept ≡ memory
  memory-kept = first_is kept are.each some-kept

  pub entry-kept : entry_of kept ≡ entry
  entry-kept = entry_is kept are.each some-kept

  -- the n-th is after n times so many commits
  pub commits-kept : (n : ℕ) (s : State) → slice_get kept n ≡ Some s → s.commits ≡ n * every
  commits-kept n s is = ap (λ (x : play.State). x.commits) (are.each n s is) ∙ are.done n (slice_get_within kept n s is)

  numbered : (ss : List State) (f : ℕ → ℕ) → ((n : ℕ) (s : State) → slice_get ss n ≡ Some s → s.commits ≡ f n) → (n k : ℕ) → slice_get (commits_of ss) n ≡ Some k → k ≡ f n
  numbered [] f each n k is = absurd (none-some k is)
  numbered (s ∷ ss) f each zero k is = (let h : s.commits ≡ k = cc in sym h) ∙ each 0 s refl
  numbered (s ∷ ss) f each (suc n) k is = numbered ss (λ i. f (suc i)) (λ i x e. each (suc i) x e) n k is

  as_many : (ss : List State) → length (commits_of ss) ≡ length ss
  as_many [] = refl
  as_many (s ∷ ss) = let h = as_many ss in omega (arith, h)

  -- so their numbers are the multiples to which the play comes
  pub numbers-kept : AreNumbers (record { log = log; memory = memory; entry = entry; every = every }) (commits_of kept)
  numbers-kept =
      record {
        each = λ n k is. numbered kept (λ i. i * every) commits-kept n k is;
        done = λ n l. are.done n (let h = as_many kept in omega (arith, h, l));
        all = λ n done. (let l = are.all n done in let h = as_many kept in omega (arith, h, l));
      }
