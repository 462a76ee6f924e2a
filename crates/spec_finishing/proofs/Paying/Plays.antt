-- What a replay has left of its play, and how a commit or a piece pays for its events.
use Rattle.std.proofs.Common.{◌≡◌, ℕ, zero, suc, ◌+◌, ◌-◌, ◌<◌, ◌≤◌, inl, inr, Bool, true, false, cond, None, refl, ap, ◌∙◌, arith}
use Rattle.std.proofs.lemmas.Bool.{cases_lt}
use Rattle.spec_log.specs.declared.LogParts.{LogParts}
use Rattle.spec_play.specs.declared.used.Used.{Used}
use Rattle.spec_play.specs.Turns.{TurnOrEnd}
use Rattle.spec_play.specs.Plays.{Played, plays}
use Rattle.spec_sphere.specs.sphere.Spheres.{Cursor, is_over}
use Rattle.spec_sphere.specs.sphere.Commits.{between}
use Rattle.spec_sphere.specs.sphere.Setups.{first_played, SphereSetup}
use Rattle.spec_replay.proofs.Intervals.{commits_of}
use Rattle.spec_finishing.specs.Work.{commit_work, commits_work}
use Rattle.spec_finishing.specs.Rank.{play_left, asked_of, left_in, replay_left, price}
use Rattle.spec_finishing.proofs.Left.Pricing.{price-sum, price-least, price-most}
use Rattle.spec_finishing.proofs.Paying.Affording.{Afforded, Enough, Lone}

-- ---- what is left

-- where the play that a replay of the image does begins, and how many commits it does
abbrev pub first_of : SphereSetup → Cursor → Played
first_of image b = first_played image (asked_of b)

-- how many commits the play of a replay does
abbrev pub count_of : Cursor → ℕ
count_of b = commits_of (asked_of b)

-- what its play has left, and in strata what they have
abbrev pub has_left : SphereSetup → Cursor → (commits : ℕ) → ℕ
has_left image b i = left_in b.log (first_of image b) (count_of b) i b.strata b.total

-- a replay that is over has nothing left
pub left-over : (image : SphereSetup) (b : Cursor) (i : ℕ) → is_over b.now ≡ true → replay_left image b i ≡ 0
unfolding replay_left
left-over image b i e = ap {A = Bool} (λ o. cond o 0 (has_left image b i)) e

-- a replay that goes on has left what its play has, except for the pieces that are done
pub left-going : (image : SphereSetup) (b : Cursor) (i : ℕ) → is_over b.now ≡ false → replay_left image b i ≡ has_left image b i
unfolding replay_left
left-going image b i e = ap {A = Bool} (λ o. cond o 0 (has_left image b i)) e

less_or_none : (o : Bool) (n : ℕ) → cond o 0 n ≤ n
less_or_none true n = omega arith
less_or_none false n = omega arith

-- a replay has no more left than its play
pub left-most : (image : SphereSetup) (b : Cursor) (i : ℕ) → replay_left image b i ≤ has_left image b i
unfolding replay_left
left-most image b i = less_or_none (is_over b.now) (has_left image b i)

-- the work of that many commits is that of the first ones and of those after them
pub work-split : (log : LogParts) (x : Played) (i m n : ℕ) → commits_work log x i (m + n) ≡ commits_work log x i m + commits_work log x (m + i) n
work-split log x i zero n =
    let few : 0 + n ≡ n = omega arith in
    let here : 0 + i ≡ i = omega arith in
    let a = ap (commits_work log x i) few in
    let b = ap (λ (j : ℕ). commits_work log x j n) here in
    let none : commits_work log x i 0 ≡ 0 = refl in
    omega (arith, a, b, none)
work-split log x i (suc m) n =
    let h = work-split log x (suc i) m n in
    let few : suc m + n ≡ suc (m + n) = omega arith in
    let e : m + suc i ≡ suc m + i = omega arith in
    let a = ap (commits_work log x i) few in
    let b = ap (λ (j : ℕ). commits_work log x j n) e in
    omega (arith, h, a, b)

-- what n commits of a play have left is the work of those after the ones that are done, except for the pieces that are done
pub left-behind : (log : LogParts) (x : Played) (n i total : ℕ) → play_left log x n i total ≡ commits_work log x i (n - i) - total
left-behind log x n i total =
    let behind : commits_work log x 0 n - commits_work log x 0 i ≡ commits_work log x i (n - i) =
    elim (cases_lt i n) [
      | inl before ↦ (
          let split = work-split log x 0 i (n - i) in
          let all : i + (n - i) ≡ n = omega arith in
          let here : i + 0 ≡ i = omega arith in
          let whole = ap (commits_work log x 0) all in
          let from = ap (λ (j : ℕ). commits_work log x j (n - i)) here in
          omega (arith, split, whole, from)
          )
      | inr past ↦ (
          let split = work-split log x 0 n (i - n) in
          let all : n + (i - n) ≡ i = omega arith in
          let over : n - i ≡ 0 = omega arith in
          let whole = ap (commits_work log x 0) all in
          let none = ap (commits_work log x i) over in
          omega (arith, split, whole, none)
          )
    ]
    in
    ap (λ (w : ℕ). w - total) behind

-- the commits after the next one, of n
abbrev pub later : LogParts → Played → (n i : ℕ) → ℕ
later log x n i = commits_work log x (suc i) (n - suc i)

-- what a play has left is its next commit and what comes after it, except for the pieces that are done
pub left-step : (log : LogParts) (x : Played) (n i total : ℕ) → i < n → play_left log x n i total ≡ (commit_work log (plays log x i) + later log x n i) - total
left-step log x n i total l =
    let e : n - i ≡ suc (n - suc i) = omega arith in
    left-behind log x n i total ∙ ap (λ (m : ℕ). commits_work log x i m - total) e

-- after a whole commit a replay has no more left than its play has from the next one on
pub left-turned : (image : SphereSetup) (b : Cursor) (commits : ℕ) (u : Used) (now : TurnOrEnd) (i : ℕ) → replay_left image (between b.log b.interval None commits u now) (suc i) ≤ later b.log (first_of image b) (count_of b) i
left-turned image b commits u now i =
    let most = left-most image (between b.log b.interval None commits u now) (suc i) in
    let left = left-behind b.log (first_of image b) (count_of b) (suc i) 0 in
    omega (arith, most, left)

-- ---- what is paid

-- for a flight of n words that most cores are to be told of, for n instructions, and three more
abbrev pub paid : (c n : ℕ) → ℕ
paid c n = (n + c + 1) + (n + 3)

-- if the work is enough for n instructions, what is left pays for them
pub afford-paid : (c work total n : ℕ) → Afforded work total n → paid c n ≤ price c (work - total)
afford-paid c work total n (Enough l) =
    let a = price-least c (suc n) (work - total) (omega arith) in let b = price-most c n in omega (arith, a, b)
afford-paid c work total n (Lone none few some) =
    let a = price-least c 1 (work - total) (omega arith) in let b = price-most c 0 in omega (arith, a, b)

-- work that is enough for a commit is more than its pieces
pub afford-some : (work total n : ℕ) → Afforded work total n → suc total ≤ work
afford-some work total n (Enough l) = omega arith
afford-some work total n (Lone none few some) = omega arith

-- a commit's price pays for the words of its flight and for three events more
pub words-paid : (c n : ℕ) → (n + c + 1) + 3 ≤ price c (suc n)
words-paid c n = let b = price-most c n in omega (arith, b)

-- a whole commit pays with its work, except for the pieces
pub whole-pays : (c work total after paid_ : ℕ) → suc total ≤ work → paid_ ≤ price c (work - total) → (left : ℕ) → left ≤ after → price c left + paid_ ≤ price c ((work + after) - total)
whole-pays c work total after paid_ some enough left most =
    let e : (work + after) - total ≡ after + (work - total) = omega arith in
    let h = ap (price c) e ∙ price-sum c after (work - total) in
    let l = price-least c left after most in
    omega (arith, h, l, enough)

-- a piece pays with its instructions
pub piece-pays : (c work total after n : ℕ) → total + n ≤ work → 0 < n → price c ((work + after) - (total + n)) + paid c n ≤ price c ((work + after) - total)
piece-pays c work total after zero l some = absurd (omega arith)
piece-pays c work total after (suc n) l some =
    let e : (work + after) - total ≡ ((work + after) - (total + suc n)) + suc n = omega arith in
    let h = ap (price c) e ∙ price-sum c ((work + after) - (total + suc n)) (suc n) in
    let b = price-most c n in
    omega (arith, h, b)
