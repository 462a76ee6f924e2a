-- Who has touched each word in a stratum. That is enough to tell whether a commit conflicts, so no two commits are compared.
use Rattle.std.specs.Prelude.{◌≡◌, ◌≢◌, ℕ, Bool, true, false, nat_eq, List, Some, slice_get, if◌then◌else◌}
use Rattle.spec_isa.specs.declared.thread.Parts.{Parts}
use Rattle.spec_isa.specs.Words.{Stored, holds}
use Rattle.spec_strata.specs.declared.touch.Touch.{Touch}
use Rattle.spec_strata.specs.declared.touch.Touch.TheVariants.{Untouched, SeenBy, Shared, StoredBy}
use Rattle.spec_strata.specs.Shares.{Rule, Share, StratumState, stratum_start, commit_more, next_run, next_seen}
use Rattle.spec_strata.specs.Parallel.{clashes}

-- whether it is another thread
abbrev pub is_other : (thread other : ℕ) → Bool
is_other k j = if nat_eq j k then false else true

-- whether thread k can't look at the word in this stratum
abbrev pub bars_look : Touch → (thread : ℕ) → Bool
bars_look Untouched k = false
bars_look (SeenBy j) k = false
bars_look Shared k = false
bars_look (StoredBy j) k = is_other k j

-- whether it can't store to it
abbrev pub bars_store : Touch → (thread : ℕ) → Bool
bars_store Untouched k = false
bars_store (SeenBy j) k = is_other k j
bars_store Shared k = true
bars_store (StoredBy j) k = is_other k j

-- the word, once thread k has looked at it
abbrev pub looked_at : Touch → (thread : ℕ) → Touch
looked_at Untouched k = SeenBy k
looked_at (SeenBy j) k = if nat_eq j k then SeenBy k else Shared
looked_at Shared k = Shared
looked_at (StoredBy j) k = StoredBy j

-- each word, once thread k has done a commit with this footprint and these words
abbrev pub touched : (ℕ → Touch) → (thread : ℕ) → (seen : ℕ → Bool) → List Stored → (number : ℕ) → Touch
touched touches k seen ws a =
    if holds ws a then StoredBy k else if seen a then looked_at (touches a) k else touches a

-- the commit touches no word that is barred
pub record IsFree (touches : ℕ → Touch) (k : ℕ) (seen : ℕ → Bool) (ws : List Stored) : Type 0 where
  pub looks : (a : ℕ) → seen a ≡ true → bars_look (touches a) k ≡ false
  pub stores : (a : ℕ) → holds ws a ≡ true → bars_store (touches a) k ≡ false

-- ---- what is so

-- thread k's share is there, and of it this is true
pub record HasShare (shares : List Share) (k : ℕ) (is : Share → Type 0) : Type 0 where
  pub share : Share
  pub there : slice_get shares k ≡ Some share
  pub so : is share

-- of all shares, and of all except thread k's
abbrev pub EachShare : List Share → (is : Share → Type 0) → Type 0
EachShare shares is = (j : ℕ) (p : Share) → slice_get shares j ≡ Some p → is p

abbrev pub OtherShares : List Share → (thread : ℕ) → (is : Share → Type 0) → Type 0
OtherShares shares k is = (j : ℕ) (p : Share) → j ≢ k → slice_get shares j ≡ Some p → is p

-- several threads have seen the word: whichever is left out, another has
abbrev pub SeveralHaveSeen : List Share → (number : ℕ) → Type 0
SeveralHaveSeen shares a = (k : ℕ) → (j : ℕ) × ((j ≢ k) × HasShare shares j (λ p. p.seen a ≡ true))

-- what the shares say of the word
abbrev pub IsTouch : List Share → (number : ℕ) → Touch → Type 0
IsTouch shares a Untouched = EachShare shares (λ p. p.seen a ≡ false)
IsTouch shares a (SeenBy k) =
    EachShare shares (λ p. holds p.words a ≡ false) × HasShare shares k (λ p. p.seen a ≡ true)
    × OtherShares shares k (λ p. p.seen a ≡ false)
IsTouch shares a Shared = EachShare shares (λ p. holds p.words a ≡ false) × SeveralHaveSeen shares a
IsTouch shares a (StoredBy k) = HasShare shares k (λ p. holds p.words a ≡ true) × OtherShares shares k (λ p. p.seen a ≡ false)

-- these are the touches of all words, and each word that a share stores it has seen
pub record AreTouches (shares : List Share) (touches : ℕ → Touch) : Type 0 where
  pub each : (a : ℕ) → IsTouch shares a (touches a)
  pub stored_seen : (a : ℕ) → EachShare shares (λ p. holds p.words a ≡ true → p.seen a ≡ true)

-- ---- what is promised

-- At the start of a stratum no word is touched.
abbrev pub TouchesBegin : Type 0
TouchesBegin = (m : List ℕ) (ts : List Parts) → AreTouches (stratum_start m ts).shares (λ a. Untouched)

-- The next commit of a thread conflicts with none that another thread has done exactly if it touches no word that is barred.
abbrev pub TouchesTell : Type 0
TouchesTell =
    (q : Rule) (x : StratumState) (k : ℕ) (p : Share) (touches : ℕ → Touch) → AreTouches x.shares touches
    → let seen = next_seen q x.memory p in
    let ws = (next_run q x.memory p).words in
    (IsFree touches k seen ws → clashes seen ws k x.shares ≡ false)
    × (clashes seen ws k x.shares ≡ false → IsFree touches k seen ws)

-- Once it is done, its words are the only ones whose touches change.
abbrev pub TouchesFollow : Type 0
TouchesFollow =
    (q : ℕ → Rule) (x : StratumState) (k : ℕ) (p : Share) (touches : ℕ → Touch) → AreTouches x.shares touches
    → slice_get x.shares k ≡ Some p
    → let seen = next_seen (q k) x.memory p in
    let ws = (next_run (q k) x.memory p).words in
    IsFree touches k seen ws → AreTouches (commit_more q x k).shares (touched touches k seen ws)
