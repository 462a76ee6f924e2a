-- A replay does its commits in the order of its log.
use Rattle.std.proofs.Common.{◌≡◌, ◌≢◌, ℕ, zero, suc, ◌+◌, inl, inr, Bool, true, false, cond, List, [], ◌∷◌, ◌++◌, take, Option, Some, None, refl, sym, ap, ◌∙◌, set, map, arith}
use Rattle.std.specs.Prelude.{slice_get}
use Rattle.std.proofs.lemmas.Bool.{cases_eq, eq-eqb, ne_eqb}
use Rattle.std.proofs.lemmas.Option.{none-some}
use Rattle.dl_entry.specs.declared.Actor.{Actor}
use Rattle.dl_entry.specs.declared.End.{End}
use Rattle.dl_entry.specs.declared.Why.{Why}
use Rattle.spec_isa.specs.declared.thread.Parts.{Parts}
use Rattle.spec_log.specs.declared.ModeName.{ModeName}
use Rattle.spec_log.specs.declared.LogParts.{LogParts}
use Rattle.spec_log.specs.Head.{head_in}
use Rattle.spec_log.specs.Size.{is_thread}
use Rattle.spec_kernel.specs.Interrupts.{is_live}
use Rattle.spec_play.specs.Progress.{Progress, position}
use Rattle.spec_play.specs.declared.used.Used.{Used}
use Rattle.spec_play.specs.Turns.{TurnOrEnd, Turn, Ended, has_left_over, at_end, turn_of_thread, turn_of, next_actor, now_at}
use Rattle.spec_sphere.specs.sphere.Spheres.{actor_of}
use Rattle.spec_sphere.specs.promises.Sound.{commits_if, commits_among, IsDoneInOrder, IsNamed}
use Rattle.spec_sphere.proofs.Moves.Threads.{AreNew}
use Rattle.spec_sphere.proofs.Logs.Growing.{commits-other, commits-same}
use Rattle.spec_play.proofs.Threads.{branch}

-- ---- one commit more of an order

take-next : (order : List Actor) (n : ℕ) (a : Actor) → slice_get order n ≡ Some a → take (suc n) order ≡ take n order ++ a ∷ []
take-next [] n a e = absurd (none-some a e)
take-next (x ∷ order) zero a e = let q : x ≡ a = cc in ap (λ (y : Actor). y ∷ []) q
take-next (x ∷ order) (suc n) a e = ap (λ (ys : List Actor). x ∷ ys) (take-next order n a e)

abbrev one_if : Bool → ℕ
one_if b = cond b 1 0

among-append : (k : ℕ) (xs : List Actor) (a : Actor) → commits_among k (xs ++ a ∷ []) ≡ commits_among k xs + one_if (is_thread k a)
among-append k [] a = omega arith
among-append k (x ∷ xs) a = let r = among-append k xs a in omega (arith, r)

among-next : (k n : ℕ) (order : List Actor) (a : Actor) → slice_get order n ≡ Some a → commits_among k (take (suc n) order) ≡ commits_among k (take n order) + one_if (is_thread k a)
among-next k n order a e = ap (commits_among k) (take-next order n a e) ∙ among-append k (take n order) a

own : (k : ℕ) → one_if (is_thread k (Actor.Thread k)) ≡ 1
own k = ap one_if (eq-eqb k k refl)

other : (j k : ℕ) → j ≢ k → one_if (is_thread j (Actor.Thread k)) ≡ 0
other j k ne = ap one_if (ne_eqb k j (λ e. ne (sym e)))

-- ---- a commit of a thread, and a DMA

abbrev InOrder : (order : List Actor) → (n : ℕ) → List Parts → Type 0
InOrder order n threads = (k : ℕ) → commits_if (slice_get threads k) ≡ commits_among k (take n order)

in-order-commit : (order : List Actor) (n k : ℕ) (ts spawned : List Parts) (t u : Parts) → slice_get ts k ≡ Some t → u.commits ≡ t.commits + 1 → AreNew spawned → slice_get order n ≡ Some (Actor.Thread k) → InOrder order n ts → InOrder order (suc n) (set ts k u ++ spawned)
in-order-commit order n k ts spawned t u there commits new named was j =
    let next = among-next j n order (Actor.Thread k) named in
    let old = was j in
    elim (cases_eq j k) [
      | inl e ↦ (
          let here = ap (λ (i : ℕ). commits_if (slice_get (set ts k u ++ spawned) i)) e ∙ commits-same ts spawned k t u there in
          let before = ap (λ (i : ℕ). commits_if (slice_get ts i)) e ∙ ap commits_if there in
          let one_ = ap (λ (i : ℕ). one_if (is_thread i (Actor.Thread k))) e ∙ own k in
          omega (arith, next, old, here, before, one_, commits)
          )
      | inr ne ↦ (let same = commits-other ts spawned k j u new ne in let none = other j k ne in omega (arith, next, old, same, none))
    ]

-- after a commit that the log names next the commits are done in its order still
pub done-commit : (mode : ModeName) (order : List Actor) (n k : ℕ) (ts spawned : List Parts) (t u : Parts) → slice_get ts k ≡ Some t → u.commits ≡ t.commits + 1 → AreNew spawned → IsNamed mode order n (Actor.Thread k) → IsDoneInOrder mode order n ts
    → IsDoneInOrder mode order (suc n) (set ts k u ++ spawned)
done-commit ModeName.OrderSize order n k ts spawned t u there commits new named was = in-order-commit order n k ts spawned t u there commits new named was
done-commit ModeName.OrderOnly order n k ts spawned t u there commits new named was = in-order-commit order n k ts spawned t u there commits new named was
done-commit ModeName.Picolog order n k ts spawned t u there commits new named was = tt

in-order-dma : (order : List Actor) (n : ℕ) (ts : List Parts) → slice_get order n ≡ Some Actor.Dma → InOrder order n ts → InOrder order (suc n) ts
in-order-dma order n ts named was j = let next = among-next j n order Actor.Dma named in let old = was j in omega (arith, next, old)

-- after a DMA that the log names next the commits are done in its order still
pub done-dma : (mode : ModeName) (order : List Actor) (n : ℕ) (ts : List Parts) → IsNamed mode order n Actor.Dma → IsDoneInOrder mode order n ts → IsDoneInOrder mode order (suc n) ts
done-dma ModeName.OrderSize order n ts named was = in-order-dma order n ts named was
done-dma ModeName.OrderOnly order n ts named was = in-order-dma order n ts named was
done-dma ModeName.Picolog order n ts named was = tt

-- a piece counts no commit
in-order-piece : (order : List Actor) (n k : ℕ) (ts : List Parts) (t u : Parts) → slice_get ts k ≡ Some t → u.commits ≡ t.commits → InOrder order n ts → InOrder order n (set ts k u ++ [])
in-order-piece order n k ts t u there commits was j =
    elim (cases_eq j k) [
      | inl e ↦ (
          ap (λ (i : ℕ). commits_if (slice_get (set ts k u ++ []) i)) e ∙ commits-same ts [] k t u there
          ∙ commits ∙ sym (ap commits_if there) ∙ sym (ap (λ (i : ℕ). commits_if (slice_get ts i)) e) ∙ was j
          )
      | inr ne ↦ commits-other ts [] k j u tt ne ∙ was j
    ]

-- a piece leaves the commits done in the log's order
pub done-piece : (mode : ModeName) (order : List Actor) (n k : ℕ) (ts : List Parts) (t u : Parts) → slice_get ts k ≡ Some t → u.commits ≡ t.commits → IsDoneInOrder mode order n ts → IsDoneInOrder mode order n (set ts k u ++ [])
done-piece ModeName.OrderSize order n k ts t u there commits was = in-order-piece order n k ts t u there commits was
done-piece ModeName.OrderOnly order n k ts t u there commits was = in-order-piece order n k ts t u there commits was
done-piece ModeName.Picolog order n k ts t u there commits was = tt

-- ---- whose turn

some-is : (a b : Actor) → Some a ≡ Some b → a ≡ b
some-is a b e = cc

thread-named : (i k : ℕ) (o : Option Parts) (actor : Actor) → actor_of (turn_of_thread i k o) ≡ Some actor → Actor.Thread k ≡ actor
thread-named i k None actor e = absurd (none-some actor e)
thread-named i k (Some t) actor e =
    branch (λ (now : TurnOrEnd). actor_of now ≡ Some actor → Actor.Thread k ≡ actor) (is_live t) (Turn k) (Ended (End.Diverged i Why.NoThread)) (λ _ h. some-is (Actor.Thread k) actor h) (λ _ h. absurd (none-some actor h)) e

turn-named : (i : ℕ) (threads : List Parts) (o : Option Actor) (actor : Actor) → actor_of (turn_of i threads o) ≡ Some actor → o ≡ Some actor
turn-named i threads None actor e = absurd (none-some actor e)
turn-named i threads (Some Actor.Dma) actor e = e
turn-named i threads (Some (Actor.Thread k)) actor e = ap Some (thread-named i k (slice_get threads k) actor e)

end-named : (i : ℕ) (left : Bool) (actor : Actor) → actor_of (at_end i left) ≡ Some actor → ⊥
end-named i true actor e = none-some actor e
end-named i false actor e = none-some actor e

now-next : (log : LogParts) (p : Progress) (u : Used) (threads : List Parts) (actor : Actor) → actor_of (now_at log p u threads) ≡ Some actor → next_actor log p threads ≡ Some actor
unfolding now_at
now-next log p u threads actor e =
    branch (λ (now : TurnOrEnd). actor_of now ≡ Some actor → next_actor log p threads ≡ Some actor) _ (turn_of (position p) threads (next_actor log p threads)) (at_end (position p) (has_left_over log u threads))
    (λ _ h. turn-named (position p) threads (next_actor log p threads) actor h)
    (λ _ h. absurd (end-named (position p) (has_left_over log u threads) actor h)) e

head-named : (mode : ModeName) (log : LogParts) (n : ℕ) (last : Option ℕ) (live : List Bool) (actor : Actor) → head_in mode log n last live ≡ Some actor → IsNamed mode log.order n actor
head-named ModeName.OrderSize log n last live actor e = e
head-named ModeName.OrderOnly log n last live actor e = e
head-named ModeName.Picolog log n last live actor e = tt

-- the actor whose turn it is is the one that the log names next
pub now-named : (log : LogParts) (p : Progress) (u : Used) (threads : List Parts) (actor : Actor) → actor_of (now_at log p u threads) ≡ Some actor → IsNamed log.mode log.order (position p) actor
now-named log p u threads actor e =
    head-named log.mode log (position p) p.last (map is_live threads) actor (now-next log p u threads actor e)

-- ---- the start

in-order-none : (order : List Actor) (t : Parts) → t.commits ≡ 0 → InOrder order 0 (t ∷ [])
in-order-none order t e zero = e
in-order-none order t e (suc k) = refl

-- where no commit is done, none is out of order
pub done-none : (mode : ModeName) (order : List Actor) (t : Parts) → t.commits ≡ 0 → IsDoneInOrder mode order 0 (t ∷ [])
done-none ModeName.OrderSize order t e = in-order-none order t e
done-none ModeName.OrderOnly order t e = in-order-none order t e
done-none ModeName.Picolog order t e = tt
