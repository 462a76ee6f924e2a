-- A thread that handles an interrupt takes none before its next commit.
use Rattle.std.proofs.Common.{◌≡◌, ◌≢◌, ℕ, suc, ◌+◌, inl, inr, true, List, [], ◌∷◌, ◌++◌, Some, None, refl, sym, ap, ◌∙◌, subst, arith, set}
use Rattle.std.specs.Prelude.{slice_get}
use Rattle.std.proofs.lemmas.Bool.{true≢false, cases_eq}
use Rattle.std.proofs.lemmas.List.{append-nil}
use Rattle.std.proofs.lemmas.Option.{same_Some}
use Rattle.dl_entry.specs.declared.Actor.{Actor}
use Rattle.dl_entry.specs.declared.CommitKind.{CommitKind}
use Rattle.dl_entry.specs.declared.Point.{Point}
use Rattle.spec_isa.specs.declared.thread.Parts.{Parts}
use Rattle.spec_log.specs.declared.Interrupt.{Interrupt}
use Rattle.spec_kernel.specs.Interrupts.{interrupted}
use Rattle.spec_kernel.specs.Needs.{need}
use Rattle.spec_kernel.specs.Answers.{taken}
use Rattle.spec_kernel.specs.Serving.{serve}
use Rattle.spec_isa.specs.Runs.{run}
use Rattle.spec_play.specs.Effects.{chunk_effect, serial_effect}
use Rattle.spec_play.specs.Recording.{noted, interrupt_noted}
use Rattle.spec_sphere.specs.sphere.Spheres.{Recording, Record, Sphere}
use Rattle.spec_sphere.specs.sphere.Commits.{serial_noted, dma_log, role_raised, raised}
use Rattle.spec_sphere.specs.sphere.Logged.{Supplied, actors_of, interrupts_of}
use Rattle.spec_strata.proofs.Shares.Steps.{get-set_other}
use Rattle.spec_sphere.proofs.Moves.Granted.{get-append}
use Rattle.spec_sphere.specs.promises.Standing.{count_of}
use Rattle.spec_sphere.proofs.Logs.Growing.{one_more, none_more}
use Rattle.spec_sphere.proofs.PlayingBack.Transfers.{open-takes}
use Rattle.spec_sphere.proofs.Points.OneMore.{points_so, points-more, commits_of, interrupts-append, nothing_behind, ints_of_commit, ints_of_other, ints_of_own}
use Rattle.spec_sphere.proofs.Points.KeptLogs.{more-actors, no_thread_more}
use Rattle.spec_sphere.proofs.Points.Kept.{IsKeptByPoints}
use Rattle.spec_sphere.proofs.Kept.Shortening.{IntsFrom}

-- ---- what stays

-- thread k is there, and handles an interrupt
abbrev pub Handles : (k : ℕ) → List Parts → Type 0
Handles k ts = (t : Parts) × (slice_get ts k ≡ Some t) × (t.mask ≡ true)

-- since thread k had done n commits it has taken no interrupt before the next one, and if it hasn't committed, it still handles one
pub record Waits (k n : ℕ) (cs : List Supplied) (p : Sphere) : Type 0 where
  pub recorded : (r : Recording) × (p.role ≡ Record r)
  pub from : IntsFrom k (suc n) (interrupts_of k n (points_so cs))
  pub handles : commits_of k (points_so cs) ≡ 0 → Handles k p.threads

from_append : (k n : ℕ) (rs ss : List Interrupt) → IntsFrom k n rs → IntsFrom k n ss → IntsFrom k n (rs ++ ss)
from_append k n [] ss a b = b
from_append k n (r ∷ rs) ss a b = (a.0, a.1, from_append k n rs ss a.2 b)

-- a change of thread j, and more threads, leave thread k
others_handle : (ts spawned : List Parts) (j k : ℕ) (u : Parts) → k ≢ j → Handles k ts → Handles k (set ts j u ++ spawned)
others_handle ts spawned j k u ne h = (h.0, get-append (set ts j u) spawned k h.0 (get-set_other ts j k u ne ∙ h.1), h.2)

module _ (k n : ℕ) (cs : List Supplied) (p : Sphere) (w : Waits k n cs p) where
  -- a point that is no interrupt of the thread
  same_ints : (c : Supplied) → interrupts_of k (n + commits_of k (points_so cs)) (c.point ∷ []) ≡ [] → IntsFrom k (suc n) (interrupts_of k n (points_so (cs ++ c ∷ [])))
  same_ints c none =
      subst (IntsFrom k (suc n))
      (sym (ap (interrupts_of k n) (points-more cs c) ∙ nothing_behind (interrupts_of k n (points_so cs)) _ _ (interrupts-append k n (points_so cs) (c.point ∷ [])) none))
      w.from

  -- a commit of thread j, after which the threads are these
  after_commit : (c : Supplied) (j : ℕ) (u : Parts) (spawned : List Parts) → actors_of (c.point ∷ []) ≡ Actor.Thread j ∷ [] → commits_of k (points_so (cs ++ c ∷ [])) ≡ 0 → Handles k (set p.threads j u ++ spawned)
  after_commit c j u spawned actor none =
      let all : commits_of k (points_so (cs ++ c ∷ [])) ≡ count_of k (actors_of (points_so cs) ++ Actor.Thread j ∷ []) = ap (count_of k) (more-actors cs c ∙ ap (λ (as_ : List Actor). actors_of (points_so cs) ++ as_) actor) in
      elim (cases_eq k j) [
        | inl e ↦ (
            let h : count_of k (actors_of (points_so cs) ++ Actor.Thread j ∷ []) ≡ suc (commits_of k (points_so cs)) = ap (λ (i : ℕ). count_of k (actors_of (points_so cs) ++ Actor.Thread i ∷ [])) (sym e) ∙ one_more k (actors_of (points_so cs)) in
            absurd (omega (arith, all, h, none))
            )
        | inr ne ↦ others_handle p.threads spawned j k u ne (w.handles (sym (none_more j k (actors_of (points_so cs)) ne) ∙ sym all ∙ none))
      ]

-- each point keeps it
pub waits-by-points : (k n : ℕ) → IsKeptByPoints (Waits k n)
unfolding raised
waits-by-points k n =
    record {
      role = λ cs p w. w.recorded;
      chunk = λ cs moment i j size short p t devices r w role is ran.
          let c : Supplied = record { point = Point.Commit moment i (Actor.Thread j) CommitKind.Chunk size short; input = None; bytes = [] } in
          let e = chunk_effect j p.progress.request (run p.memory t size) in
          record {
            recorded = (record r { log = noted e.commit (run p.memory t size).thread.commits short r.log }, refl);
            from = same_ints k n cs p w c (ints_of_commit k (n + commits_of k (points_so cs)) moment i size (Actor.Thread j) CommitKind.Chunk short);
            handles = after_commit k n cs p w c j e.thread [] refl;
          };
      serial = λ cs moment i j size short p t devices r w role is empty.
          let g = taken (need t p.memory) devices moment in
          let c : Supplied = record { point = Point.Commit moment i (Actor.Thread j) CommitKind.Serial size short; input = g.input; bytes = [] } in
          let e = serial_effect j (serve r.log.threads j p.threads p.progress.request t p.memory g.input) in
          record {
            recorded = (record r { log = serial_noted j t g r.log p }, refl);
            from = same_ints k n cs p w c (ints_of_commit k (n + commits_of k (points_so cs)) moment i size (Actor.Thread j) CommitKind.Serial short);
            handles = after_commit k n cs p w c j e.thread e.spawned refl;
          };
      dma = λ cs moment i short p request devices r w role.
          let c : Supplied = record { point = Point.Commit moment i Actor.Dma CommitKind.Dma 0 short; input = None; bytes = _ } in
          record {
            recorded = (record r { log = dma_log r.log devices p (Some request) }, refl);
            from = same_ints k n cs p w c (ints_of_commit k (n + commits_of k (points_so cs)) moment i 0 Actor.Dma CommitKind.Dma short);
            handles = λ none. w.handles (sym (ap (count_of k) (more-actors cs c) ∙ no_thread_more k (actors_of (points_so cs))) ∙ none);
          };
      raise = λ cs moment i j value p t r w role is takes.
          let c : Supplied = record { point = Point.Raise moment i j value; input = None; bytes = [] } in
          let ps = points_so cs in
          let same : commits_of k (points_so (cs ++ c ∷ [])) ≡ commits_of k ps = ap (count_of k) (more-actors cs c ∙ append-nil (actors_of ps)) in
          let recorded : (q : Recording) × ((raised j value t p).role ≡ Record q) = (record r { log = interrupt_noted j t.commits value r.log }, ap (role_raised j t.commits value) role) in
          elim (cases_eq k j) [
            | inl e ↦ (
                let busy : commits_of k ps ≡ 0 → ⊥ = (λ none.
                let h = w.handles none in
                let tt_ : t ≡ h.0 = same_Some _ _ (sym is ∙ ap (slice_get p.threads) (sym e) ∙ h.1) in
                true≢false (sym h.2 ∙ ap (λ (x : Parts). x.mask) (sym tt_) ∙ open-takes t takes)) in
                record {
                  recorded = recorded;
                  from = subst (IntsFrom k (suc n))
                      (sym (ap (interrupts_of k n) (points-more cs c) ∙ interrupts-append k n ps (c.point ∷ [])
                      ∙ ap (λ (rs : List Interrupt). interrupts_of k n ps ++ rs) (ap (λ (x : ℕ). interrupts_of k (n + commits_of k ps) (Point.Raise moment i x value ∷ [])) (sym e) ∙ ints_of_own k (n + commits_of k ps) moment i value)))
                      (from_append k (suc n) (interrupts_of k n ps) (record { thread = k; index = n + commits_of k ps; value = value } ∷ []) w.from
                      (refl, elim (cases_eq (commits_of k ps) 0) [ inl z ↦ absurd (busy z) | inr nz ↦ omega arith ], tt));
                  handles = λ none. absurd (busy (sym same ∙ none));
                }
                )
            | inr ne ↦ record {
              recorded = recorded;
              from = same_ints k n cs p w c (ints_of_other j k (n + commits_of k ps) moment i value ne);
              handles = λ none. let h = w.handles (sym same ∙ none) in (h.0, get-set_other p.threads j k (interrupted value t) ne ∙ h.1, h.2);
            }
          ];
    }
