-- Pieces of a commit inside a stratum, and what is left to do.
use Rattle.std.proofs.Common.{◌≡◌, ℕ, zero, suc, ◌≤◌, ◌+◌, inl, inr, Bool, true, List, [], ◌∷◌, ◌++◌, map, Option, Some, None, refl, sym, ap, ◌∙◌, subst, arith}
use Rattle.std.specs.Prelude.{slice_get, slice_set}
use Rattle.std.proofs.lemmas.Bool.{or_left, or_right, cases_lt, true≢false}
use Rattle.std.proofs.lemmas.Bool.Decides.{eqb_tells}
use Rattle.dl_entry.specs.declared.Commit.{Commit}
use Rattle.spec_isa.specs.declared.thread.Parts.{Parts}
use Rattle.spec_isa.specs.Words.{Stored, lays, holds, put, merged}
use Rattle.spec_isa.specs.Instruction.{InstructionOutcome, Next, Serial, one}
use Rattle.spec_isa.specs.Runs.{Run, with_store, followed, run}
use Rattle.spec_play.specs.Effects.{chunk_commit}
use Rattle.spec_play.specs.Touching.{Agree}
use Rattle.spec_strata.specs.Footprints.{looks}
use Rattle.spec_strata.specs.Shares.{Rule, Share, next_run, next_seen, share_more, alone, bump, shares_at, words_of, state_at, counts_of}
use Rattle.spec_strata.specs.Parallel.{OthersMiss}
use Rattle.spec_strata.specs.InPlay.{plays_of, rule_of, commits_of}
use Rattle.spec_strata.specs.Orders.{insert_at, place}
use Rattle.spec_strata.specs.Pieces.{with_words, PiecesAreLocal}
use Rattle.spec_strata.specs.Costs.{cost_of, CostsGrow, CostsStep}
use Rattle.spec_play.proofs.Local.Running.{run_local}
use Rattle.spec_strata.proofs.Local.Footprints.{looks-touches, Agree-less}
use Rattle.spec_strata.proofs.Shares.Steps.{alone-get, agree-others, laid-more, misses}
use Rattle.spec_strata.proofs.Shares.Checking.{shares-of}
use Rattle.spec_strata.proofs.Plays.Strata.{Checked, checked-stratum, memory-of}

-- ---- the words of a shorter run

held-put : (ws : List Stored) (s : Stored) (a : ℕ) → holds ws a ≡ true → holds (put ws s) a ≡ true
unfolding merged
held-put [] s a e = absurd (true≢false (sym e))
held-put (w ∷ ws) s a e =
    elim (eqb_tells w.number a) [
      | inl h ↦ elim (eqb_tells w.number s.number) [
        | inl g ↦ rw g.0 (rw h.0 refl)
        | inr g ↦ rw g.0 (rw h.0 refl)
      ]
      | inr h ↦ (
          let rest : holds ws a ≡ true = (rw h.0 at e) in
          elim (eqb_tells w.number s.number) [
            | inl g ↦ rw g.0 (rw h.0 rest)
            | inr g ↦ rw g.0 (rw h.0 (held-put ws s a rest))
          ]
          )
    ]

held-store : (ws : List Stored) (o : Option Stored) (a : ℕ) → holds ws a ≡ true → holds (with_store ws o) a ≡ true
held-store ws None a e = e
held-store ws (Some s) a e = held-put ws s a e

held-followed : (r : Run) (o : InstructionOutcome) (a : ℕ) → holds r.words a ≡ true → holds (followed r o).words a ≡ true
held-followed r (Serial kind) a e = e
held-followed r (Next t load store) a e = held-store r.words store a e

held-longer : (m : List ℕ) (t : Parts) (i n a : ℕ) → i ≤ n → holds (run m t i).words a ≡ true → holds (run m t n).words a ≡ true
held-longer m t i zero a l e = let h : i ≡ 0 = omega arith in subst (λ (k : ℕ). holds (run m t k).words a ≡ true) h e
held-longer m t i (suc n) a l e =
    elim (cases_lt i (suc n)) [
      | inl h ↦ held-followed (run m t n) (one (run m t n).thread (lays m (run m t n).words)) a (held-longer m t i n a (omega arith) e)
      | inr h ↦ (let same : i ≡ suc n = omega arith in subst (λ (k : ℕ). holds (run m t k).words a ≡ true) same e)
    ]

-- ---- a piece

-- pieces of a commit do on the memory of all threads what they do on their thread's own
pub pieces_are_local : PiecesAreLocal
pieces_are_local log y z ks done k total t l s is few like few_n =
    let c : Checked log y (plays_of log y ks) (counts_of ks) = checked-stratum log y ks l s in
    let q : ℕ → Rule = rule_of log in
    let p : Share = alone (q k) y.memory t (done k) in
    let ps : List Share = shares_at q y.memory y.threads done in
    let n : ℕ = (q k).size p.thread in
    let base : List ℕ = lays y.memory p.words in
    let now : List ℕ = lays y.memory (words_of ps) in
    let seen : ℕ → Bool = next_seen (q k) base p in
    let miss : OthersMiss seen k ps = misses q y.memory y.threads (counts_of ks) done k t is c.parallel few in
    let there : slice_get ps k ≡ Some p = alone-get q y.memory y.threads done k t is in
    let g : Agree seen base now = agree-others seen y.memory ps k p there miss in
    let is_now : z.memory ≡ now = like.memory ∙ memory-of q y.memory y.threads done in
    let same : run now p.thread total ≡ run base p.thread total =
    run_local (looks base p.thread n) base now p.thread total (Agree-less seen (looks base p.thread n) base now (λ a e. or_left _ _ e) g)
    (λ i h. looks-touches base p.thread n i (omega arith)) in
    let run_is : run z.memory p.thread total ≡ run base p.thread total = ap (λ (m : List ℕ). run m p.thread total) is_now ∙ same in
    record {
      same_run = run_is;
      memory =
          (λ i. lays (is_now i) (run_is i).words)
          ∙ laid-more seen y.memory ps k p (with_words p (run base p.thread total).words) (run base p.thread total).words there refl
          (λ a e. or_right (looks base p.thread n a) _ (held-longer base p.thread total n a few_n e)) miss
          ∙ ap (λ (r : Run). lays y.memory (words_of (slice_set ps k (with_words p r.words)))) (sym run_is);
    }

-- ---- what is left

cost-append : (xs ys : List Commit) → cost_of (xs ++ ys) ≡ cost_of xs + cost_of ys
cost-append [] ys = omega arith
cost-append (x ∷ xs) ys = let h = cost-append xs ys in omega (arith, h)

cost-insert : (n : ℕ) (c : Commit) (cs : List Commit) → cost_of (insert_at n c cs) ≡ suc c.size + cost_of cs
cost-insert zero c cs = refl
cost-insert (suc n) c [] = refl
cost-insert (suc n) c (d ∷ ds) = let h = cost-insert n c ds in omega (arith, h)

map-append : (f : Run → Commit) (xs ys : List Run) → map f (xs ++ ys) ≡ map f xs ++ map f ys
map-append f [] ys = refl
map-append f (x ∷ xs) ys = ap (λ (cs : List Commit). f x ∷ cs) (map-append f xs ys)

alone-cost : (f : Run → Commit) (q : Rule) (m : List ℕ) (t : Parts) (i n : ℕ) → i ≤ n → cost_of (map f (alone q m t i).runs) ≤ cost_of (map f (alone q m t n).runs)
unfolding share_more
alone-cost f q m t i zero l = let h : i ≡ 0 = omega arith in let e = ap (λ (k : ℕ). cost_of (map f (alone q m t k).runs)) h in omega (arith, e)
alone-cost f q m t i (suc n) l =
    let p : Share = alone q m t n in
    let r : Run = next_run q (lays m p.words) p in
    elim (cases_lt i (suc n)) [
      | inl h ↦ (
          let a = alone-cost f q m t i n (omega arith) in
          let b = ap (λ (cs : List Commit). cost_of cs) (map-append f p.runs (r ∷ [])) in
          let d = cost-append (map f p.runs) (f r ∷ []) in
          omega (arith, a, b, d)
          )
      | inr h ↦ (let same : i ≡ suc n = omega arith in let e = ap (λ (k : ℕ). cost_of (map f (alone q m t k).runs)) same in omega (arith, e))
    ]

shares-cost : (f : ℕ → Run → Commit) (q : ℕ → Rule) (m : List ℕ) (ts : List Parts) (done count : ℕ → ℕ) → ((j : ℕ) → done j ≤ count j)
    → cost_of (commits_of f (shares_at q m ts done)) ≤ cost_of (commits_of f (shares_at q m ts count))
shares-cost f q m [] done count few = omega arith
shares-cost f q m (t ∷ ts) done count few =
    let a = alone-cost (f 0) (q 0) m t (done 0) (count 0) (few 0) in
    let b = shares-cost (λ k. f (suc k)) (λ k. q (suc k)) m ts (λ k. done (suc k)) (λ k. count (suc k)) (λ j. few (suc j)) in
    let x = cost-append (map (f 0) (alone (q 0) m t (done 0)).runs) (commits_of (λ k. f (suc k)) (shares_at (λ k. q (suc k)) m ts (λ k. done (suc k)))) in
    let y = cost-append (map (f 0) (alone (q 0) m t (count 0)).runs) (commits_of (λ k. f (suc k)) (shares_at (λ k. q (suc k)) m ts (λ k. count (suc k)))) in
    omega (arith, a, b, x, y)

-- with fewer commits done a stratum has cost no more
pub costs_grow : CostsGrow
costs_grow log y done count few = shares-cost chunk_commit (rule_of log) y.memory y.threads done count few

-- each commit adds itself and its instructions to what the stratum has cost
pub costs_step : CostsStep
costs_step log y z done k s =
    let q : ℕ → Rule = rule_of log in
    let cost : List Share → ℕ = (λ os. cost_of (commits_of chunk_commit os)) in
    ap cost (sym (shares-of q y.memory y.threads (bump done k)))
    ∙ ap (λ (cs : List Commit). cost_of cs) s.placed
    ∙ cost-insert (place k (state_at q y.memory y.threads done).shares) s.commit (commits_of chunk_commit (state_at q y.memory y.threads done).shares)
    ∙ ap (λ (n : ℕ). suc s.commit.size + n) (ap cost (shares-of q y.memory y.threads done))
