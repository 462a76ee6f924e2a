-- The interrupts of a recorded log rise: thread by thread, and for one thread each after more commits than the one before. Each
-- move keeps this.
use Rattle.std.proofs.Common.{◌≡◌, ℕ, zero, suc, ◌+◌, ◌<◌, ◌≤◌, inl, inr, List, [], ◌∷◌, ◌++◌, None, sym, ap, ◌∙◌, subst, arith}
use Rattle.std.specs.Prelude.{find}
use Rattle.std.specs.List.{flat_map}
use Rattle.std.proofs.lemmas.Bool.{cases_eq}
use Rattle.std.proofs.lemmas.Option.{slice_get_within}
use Rattle.dl_entry.specs.Numbers.{most_threads}
use Rattle.dl_entry.specs.declared.Actor.{Actor}
use Rattle.dl_entry.specs.declared.CommitKind.{CommitKind}
use Rattle.dl_entry.specs.declared.Point.{Point}
use Rattle.spec_log.specs.declared.Interrupt.{Interrupt}
use Rattle.spec_play.specs.Verdicts.{interrupt_at}
use Rattle.spec_sphere.specs.sphere.Spheres.{Sphere}
use Rattle.spec_sphere.specs.sphere.Logged.{Supplied, interrupts_of, all_interrupts}
use Rattle.spec_sphere.proofs.Logs.Inserting.{is_of_moment}
use Rattle.spec_sphere.proofs.Logs.Lookups.{none-there}
use Rattle.spec_sphere.proofs.Logs.Entries.{are-below, threads_from, part-none}
use Rattle.spec_sphere.specs.promises.Sound.{commits_if}
use Rattle.spec_sphere.proofs.PlayingBack.Transfers.{open-takes}
use Rattle.spec_sphere.proofs.Replays.Uses.{Later, Rising}
use Rattle.spec_sphere.proofs.Points.OneMore.{points_so, points-more, commits_of, interrupts-append, AreInts, are-ints, nothing_behind, ints_of_commit, ints_of_other, ints_of_own}
use Rattle.spec_sphere.proofs.Points.KeptLogs.{Keeping, new-most, Keeps, keeps-by-points}
use Rattle.spec_sphere.proofs.Points.Kept.{IsKeptByPoints}

-- ---- of one thread

later_append : (x : Interrupt) (xs ys : List Interrupt) → Later x xs → Later x ys → Later x (xs ++ ys)
later_append x [] ys a b = b
later_append x (z ∷ xs) ys a b = (a.0, later_append x xs ys a.1 b)

rising_append : (k n value : ℕ) (xs : List Interrupt) → AreInts k n xs → Rising xs → Rising (xs ++ record { thread = k; index = n; value = value } ∷ [])
rising_append k n value [] are rising = (tt, tt)
rising_append k n value (x ∷ xs) are rising =
    (later_append x xs _ rising.0 (inr (are.0, are.1), tt), rising_append k n value xs are.2 rising.1)

-- the sphere keeps its log, in which each thread's interrupts rise
abbrev pub KeepsRising : Keeping → List Supplied → Sphere → Type 0
KeepsRising how cs p = Keeps how cs p × ((k : ℕ) → Rising (interrupts_of k (how.done k) (points_so cs)))

same_rising : (how : Keeping) (cs : List Supplied) (c : Supplied) (k : ℕ) → Rising (interrupts_of k (how.done k) (points_so cs))
    → interrupts_of k (how.done k + commits_of k (points_so cs)) (c.point ∷ []) ≡ [] → Rising (interrupts_of k (how.done k) (points_so (cs ++ c ∷ [])))
same_rising how cs c k rising none =
    let n = how.done k in
    let ps = points_so cs in
    subst Rising (sym (ap (interrupts_of k n) (points-more cs c) ∙ nothing_behind (interrupts_of k n ps) _ _ (interrupts-append k n ps (c.point ∷ [])) none)) rising

-- each point keeps it
pub rising-by_points : (how : Keeping) → IsKeptByPoints (KeepsRising how)
rising-by_points how =
    let keeps = keeps-by-points how in
    record {
      role = λ cs p kept. keeps.role cs p kept.0;
      chunk = λ cs moment i k size short p t devices r kept role is ran. (
        keeps.chunk cs moment i k size short p t devices r kept.0 role is ran,
        λ j. same_rising how cs _ j (kept.1 j) (ints_of_commit j (how.done j + commits_of j (points_so cs)) moment i size (Actor.Thread k) CommitKind.Chunk short),
      );
      serial = λ cs moment i k size short p t devices r kept role is empty. (
        keeps.serial cs moment i k size short p t devices r kept.0 role is empty,
        λ j. same_rising how cs _ j (kept.1 j) (ints_of_commit j (how.done j + commits_of j (points_so cs)) moment i size (Actor.Thread k) CommitKind.Serial short),
      );
      dma = λ cs moment i short p request devices r kept role. (
        keeps.dma cs moment i short p request devices r kept.0 role,
        λ j. same_rising how cs _ j (kept.1 j) (ints_of_commit j (how.done j + commits_of j (points_so cs)) moment i 0 Actor.Dma CommitKind.Dma short),
      );
      raise = λ cs moment i k value p t r kept role is takes. (
        keeps.raise cs moment i k value p t r kept.0 role is takes,
        λ j. elim (cases_eq j k) [
          | inl e ↦ (
              let ps = points_so cs in
              let c : Supplied = record { point = Point.Raise moment i k value; input = None; bytes = [] } in
              let n = how.done k + commits_of k ps in
              let test = is_of_moment (λ (r : Interrupt). r.thread) (λ (r : Interrupt). r.index) k n in
              let below : k < most_threads = (let h = slice_get_within p.threads k t is in let l = kept.0.few in let m = new-most how.version in omega (arith, h, l, m)) in
              let now : n ≡ t.commits = kept.0.commits k ∙ ap commits_if is in
              let all = all_interrupts how.done ps in
              let none : find test all ≡ None = none-there all k n (ap (λ (m : ℕ). interrupt_at all k m) now ∙ kept.0.fresh.unmasked k t is (open-takes t takes)) in
              let own : find test (interrupts_of k (how.done k) ps) ≡ None = part-none test (λ (j : ℕ). interrupts_of j (how.done j) ps) k below none in
              let are : AreInts k n (interrupts_of k (how.done k) ps) =
              are-below (λ (r : Interrupt). r.thread) (λ (r : Interrupt). r.index) k n (interrupts_of k (how.done k) ps) (are-ints k (how.done k) (suc n) ps (omega arith)) own in
              subst (λ (j : ℕ). Rising (interrupts_of j (how.done j) (points_so (cs ++ c ∷ [])))) (sym e)
              (subst Rising
              (sym (ap (interrupts_of k (how.done k)) (points-more cs c) ∙ interrupts-append k (how.done k) ps (c.point ∷ []) ∙ ap (λ (rs : List Interrupt). interrupts_of k (how.done k) ps ++ rs) (ints_of_own k n moment i value)))
              (rising_append k n value (interrupts_of k (how.done k) ps) are (kept.1 k)))
              )
          | inr ne ↦ same_rising how cs _ j (kept.1 j) (ints_of_other k j (how.done j + commits_of j (points_so cs)) moment i value ne)
        ],
      );
    }

-- ---- of all threads

-- each is of thread a or a later one
abbrev AreSince : (a : ℕ) → List Interrupt → Type 0
AreSince a [] = Unit {0}
AreSince a (x ∷ xs) = (a ≤ x.thread) × AreSince a xs

since_append : (a : ℕ) (xs ys : List Interrupt) → AreSince a xs → AreSince a ys → AreSince a (xs ++ ys)
since_append a [] ys s t = t
since_append a (x ∷ xs) ys s t = (s.0, since_append a xs ys s.1 t)

since_own : (a k n : ℕ) (xs : List Interrupt) → a ≤ k → AreInts k n xs → AreSince a xs
since_own a k n [] l are = tt
since_own a k n (x ∷ xs) l are = (let e = are.0 in omega (arith, l, e), since_own a k n xs l are.2)

later_since : (x : Interrupt) (a : ℕ) (ys : List Interrupt) → x.thread < a → AreSince a ys → Later x ys
later_since x a [] l s = tt
later_since x a (y ∷ ys) l s = (inl (let h = s.0 in omega (arith, l, h)), later_since x a ys l s.1)

-- those of thread k, and then those of later threads
rising_then : (k n : ℕ) (xs ys : List Interrupt) → AreInts k n xs → Rising xs → AreSince (suc k) ys → Rising ys → Rising (xs ++ ys)
rising_then k n [] ys are a s b = b
rising_then k n (x ∷ xs) ys are a s b =
    (later_append x xs ys a.0 (later_since x (suc k) ys (let e = are.0 in omega (arith, e)) s), rising_then k n xs ys are.2 a.1 s b)

-- thread by thread they rise if each thread's do
module _ (f : ℕ → List Interrupt) (most : ℕ → ℕ) (are : (k : ℕ) → AreInts k (most k) (f k)) (rising : (k : ℕ) → Rising (f k)) where
  since-from : (a k n : ℕ) → a ≤ k → AreSince a (flat_map f (threads_from k n))
  since-from a k zero l = tt
  since-from a k (suc n) l = since_append a (f k) (flat_map f (threads_from (suc k) n)) (since_own a k (most k) (f k) l (are k)) (since-from a (suc k) n (omega (arith, l)))

  pub rising-from : (k n : ℕ) → Rising (flat_map f (threads_from k n))
  rising-from k zero = tt
  rising-from k (suc n) = rising_then k (most k) (f k) (flat_map f (threads_from (suc k) n)) (are k) (rising k) (since-from (suc k) (suc k) n (omega arith)) (rising-from (suc k) n)
