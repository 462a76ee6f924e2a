use Rattle.std.proofs.Common.{◌≡◌, ℕ, ◌+◌, ◌≤◌, List, length, slice_index, inl, inr, refl, arith}
use Rattle.std.proofs.lemmas.Bool.{cases_lt, cases_eq}
use Rattle.std.proofs.lemmas.List.{get_or-set_same, get_or-set_other, set_past}
use Rattle.dl_entry.specs.declared.actor.Actor.{Actor}
use Rattle.dl_entry.specs.declared.actor.Actor.TheVariants.{Thread, Dma}
use Rattle.spec_log.specs.Noting.{done_with}
use Rattle.dl_mode.specs.Counts.{done_by}
use Rattle.dl_mode.proofs.Nothing.{AreAmong-none}
use Rattle.test_spheres.proofs.tests.modes.noted.Goals as goal

-- with a commit more, no thread has done more than one more
done-more : (done : List ℕ) (actor : Actor) (n : ℕ) → ((t : ℕ) → slice_index done t ≤ n) → (t : ℕ) → slice_index (done_with done actor) t ≤ n + 1
done-more done Dma n h t = omega (arith, h t)
done-more done (Thread u) n h t =
    elim (cases_eq t u) [
      | inr other ↦ rw (get_or-set_other done u t (slice_index done u + 1) 0 other) (omega (arith, h t))
      | inl same ↦ elim (cases_lt u (length done)) [
        | inl within ↦ rw (same, get_or-set_same done u (slice_index done u + 1) 0 within) (omega (arith, h u))
        | inr past ↦ rw (set_past done u (slice_index done u + 1) past) (omega (arith, h t))
      ]
    ]

done-few : (done : List ℕ) (actor : Actor) (n : ℕ) → ((t : ℕ) → slice_index done t ≤ n) → done_by done actor ≤ n
done-few done Dma n h = omega arith
done-few done (Thread t) n h = h t

pub loop-code-init : goal.loop-code-init
loop-code-init g c = rw c.in_ok-log.ensures (refl, AreAmong-none _ 0 refl)

pub note-requires-clause-done : goal.note-requires-clause-done
note-requires-clause-done g c =
    rw c.reserve.ensures.kept (omega (arith, done-few (g.M.Mode.logged c.loop-code.log).kept.done c.actor_of.result c.loop-code.code-index c.loop-code.invariant.1))

pub loop-code-preserved : goal.loop-code-preserved
loop-code-preserved g c =
    rw (c.in_ok-note.ensures.ok, c.reserve.ensures.kept)
    (omega (arith, c.loop-code.invariant.0), done-more _ _ c.loop-code.code-index c.loop-code.invariant.1)
