-- How many instructions a chunk has as a log says it, in its machine and in its play; and that a serial step is served.
use Rattle.std.proofs.Common.{◌≡◌, ℕ, ◌<◌, Option, Some, None, refl, sym, ap, ◌∙◌, subst, arith}
use Rattle.std.specs.Prelude.{max, IsSome}
use Rattle.std.proofs.lemmas.Bool.{true≢false}
use Rattle.dl_entry.specs.declared.Actor.{Actor}
use Rattle.dl_entry.specs.declared.Why.{Why}
use Rattle.spec_isa.specs.declared.thread.Parts.{Parts}
use Rattle.spec_isa.specs.declared.thread.Kind.{Kind}
use Rattle.spec_isa.specs.Runs.{Run}
use Rattle.spec_log.specs.declared.LogParts.{LogParts}
use Rattle.spec_log.specs.Size.{size_in}
use Rattle.spec_play.specs.Effects.{chunk_effect}
use Rattle.spec_play.specs.Progress.{Progress}
use Rattle.spec_play.specs.declared.used.Used.{Used}
use Rattle.spec_play.specs.Verdicts.{Fails, unless, ended, chunk_why, chunk_verdict, serial_verdict}
use Rattle.spec_play.specs.Plays.{Played, size_or_standard, thread_verdict}
use Rattle.spec_sphere.specs.sphere.Spheres.{whole_limit}

-- ---- a chunk

-- the play runs as many instructions as the log says, which may be 0; where it says nothing, the standard size
abbrev pub size_by : Option ℕ → (s : ℕ) → ℕ
size_by None s = s
size_by (Some z) s = z

-- the size that the play takes is that of the size that the log has of the commit
pub size-is : (log : LogParts) (k commits : ℕ) → size_or_standard log k commits ≡ size_by (size_in log (Actor.Thread k) commits) log.s
size-is log k commits = elim (size_in log (Actor.Thread k) commits) as (λ (o : Option ℕ). elim o [ None ↦ log.s | Some z ↦ z ] ≡ size_by o log.s) [
  | None ↦ refl
  | Some z ↦ refl
]

-- the limit that a size in the log gives, which is at least 1; without one the standard size
abbrev pub limit_by : Option ℕ → (s : ℕ) → ℕ
limit_by None s = s
limit_by (Some z) s = max 1 z

limit_some : (o : Option ℕ) (s : ℕ) → 0 < s → 0 < limit_by o s
limit_some None s l = l
limit_some (Some z) s l = omega arith

-- the limit of a whole commit is that of the size that the log has of it
pub limit-is : (log : LogParts) (k commits : ℕ) → whole_limit log k commits ≡ limit_by (size_in log (Actor.Thread k) commits) log.s
limit-is log k commits = elim (size_in log (Actor.Thread k) commits) as (λ (o : Option ℕ). elim o [ None ↦ log.s | Some z ↦ max 1 z ] ≡ limit_by o log.s) [
  | None ↦ refl
  | Some z ↦ refl
]

-- a whole commit has room for an instruction
pub limit-some : (log : LogParts) (k commits : ℕ) → 0 < log.s → 0 < whole_limit log k commits
limit-some log k commits l = subst (λ (n : ℕ). 0 < n) (sym (limit-is log k commits)) (limit_some (size_in log (Actor.Thread k) commits) log.s l)

-- where a serial step is logged, no chunk fits
pub not-serial : (log : LogParts) (p : Progress) (u : Used) (k commits : ℕ) (r : Run) → r.thread.commits ≡ commits → size_in log (Actor.Thread k) commits ≡ Some 0 → chunk_verdict log p u k r ≡ Fails Why.NotSerial
unfolding chunk_verdict
not-serial log p u k commits r is zero_ =
    ap (λ (o : Option ℕ). unless (chunk_why o r.n) (ended log k (chunk_effect k p.request r) u)) (ap (size_in log (Actor.Thread k)) is ∙ zero_)

-- ---- a serial step

-- a thread whose next instruction is serial gets the verdict on that step
pub serial-turn : (log : LogParts) (y : Played) (k : ℕ) (t : Parts) (o : Option Kind) → IsSome o → thread_verdict log y k t o ≡ serial_verdict log y.progress y.used k y.threads t y.memory
serial-turn log y k t None some = absurd (true≢false (sym some))
serial-turn log y k t (Some kind) some = refl
