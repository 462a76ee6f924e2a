-- A row with a place for each thread, set one place after another, says the same of every thread.
use Rattle.std.proofs.Common.{◌≡◌, ℕ, zero, suc, ◌+◌, ◌-◌, ◌<◌, ◌≤◌, List, [], ◌∷◌, ◌++◌, length, map, take, replicate, slice_get, Bool, Option, Some, None, refl, ap, sym, ◌∙◌, arith}
use Rattle.std.proofs.Math.ListN.{set}
use Rattle.std.specs.Option.{OnSome}
use Rattle.std.proofs.lemmas.List.{take_more_set}
use Rattle.spec_isa.specs.declared.thread.Parts.{Parts}
use Rattle.spec_kernel.specs.Interrupts.{is_live}
use Rattle.dl_kernel.specs.Threads.{lives}

-- f of the first i threads, in a row of n places; the others are as where there is no thread
abbrev pub row : {X : Type 0} → (Option Parts → X) → (n i : ℕ) → List Parts → List X
row f n i ts = map (λ t. f (Some t)) (take i ts) ++ replicate (n - i) (f None)

-- with the place of thread i set, the row says it of one thread more
pub row-next : {X : Type 0} (f : Option Parts → X) (n : ℕ) (ts : List Parts) (i : ℕ) → i < length ts → length ts ≤ n → set (row f n i ts) i (f (slice_get ts i)) ≡ row f n (i + 1) ts
row-next f zero [] i h l = absurd (omega arith)
row-next f zero (t ∷ ts) i h l = absurd (omega arith)
row-next f (suc n) [] i h l = absurd (omega arith)
row-next f (suc n) (t ∷ ts) zero h l =
    let e : suc n - 0 ≡ suc n = omega arith in
    let g : suc n - 1 ≡ n = omega arith in
    rw (e, g) refl
row-next {X} f (suc n) (t ∷ ts) (suc i) h l =
    let e : suc n - suc i ≡ n - i = omega arith in
    let g : suc n - suc (i + 1) ≡ n - (i + 1) = omega arith in
    let o : suc i + 1 ≡ suc (i + 1) = omega arith in
    rw (o, e, g) (ap (λ (xs : List X). f (Some t) ∷ xs) (row-next f n ts i (omega arith) (omega arith)))

map-next : (ts : List Parts) (i : ℕ) → i < length ts → map is_live (take (i + 1) ts) ≡ map is_live (take i ts) ++ lives (slice_get ts i) ∷ []
map-next [] i h = absurd (omega arith)
map-next (t ∷ ts) zero h = refl
map-next (t ∷ ts) (suc i) h =
    let e : suc i + 1 ≡ suc (i + 1) = omega arith in
    rw e (ap (λ (xs : List Bool). is_live t ∷ xs) (map-next ts i (omega arith)))

-- flags that say of the first i threads whether they live say it of one more
pub lives-next : (live : List Bool) (ts : List Parts) (i : ℕ) (b : Bool) → i < length live → i < length ts → take i live ≡ map is_live (take i ts)
    → b ≡ lives (slice_get ts i) → take (i + 1) (set live i b) ≡ map is_live (take (i + 1) ts)
lives-next live ts i b h l e is =
    take_more_set live i b h ∙ rw (e, is) (sym (map-next ts i l))

-- where there is room for a thread in a shorter row, there is in a longer one
pub room-more : {X : Type 0} (spawned : Option X) (n most places : ℕ) → most ≤ places → OnSome spawned (n < most) → OnSome spawned (n < places)
room-more None n most places l room = tt
room-more (Some t) n most places l room = let h : n < most = room in omega (arith, h, l)
