use Rattle.std.proofs.Common.{◌≤◌, ◌==◌, ℕ, inl, inr, sym, subst, arith}
use Rattle.std.proofs.lemmas.Bool.{cases_Bool}
use Rattle.spec_log.specs.Versions.{new_threads}
use Rattle.dl_sphere.proofs.recording.Recording.threads.Goals as goal

any-few : (version : ℕ) → new_threads version ≤ 63
any-few version =
    elim (cases_Bool (version == 1)) [
      | inl first ↦ rw first (omega arith)
      | inr second ↦ rw second (omega arith)
    ]

pub returns-in-OrderSize-clause-few : goal.returns-in-OrderSize-clause-few
returns-in-OrderSize-clause-few c = subst (λ n. n ≤ 63) (sym c.threads.ensures) (any-few _)

pub returns-in-OrderOnly-clause-few : goal.returns-in-OrderOnly-clause-few
returns-in-OrderOnly-clause-few c = subst (λ n. n ≤ 63) (sym c.threads-in-OrderOnly.ensures) (any-few _)

pub returns-in-Picolog-clause-few : goal.returns-in-Picolog-clause-few
returns-in-Picolog-clause-few c = subst (λ n. n ≤ 63) (sym c.threads-in-Picolog.ensures) (any-few _)
