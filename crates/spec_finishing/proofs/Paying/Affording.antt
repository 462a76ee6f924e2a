-- What a play's next commit has to do, beside what a replay has run of it: there is enough left to pay for it.
use Rattle.std.proofs.Common.{◌≡◌, ℕ, zero, suc, ◌+◌, ◌-◌, ◌<◌, ◌≤◌, ◌⊎◌, inl, inr, List, Option, Some, None, refl, sym, ap, ◌∙◌, arith}
use Rattle.std.specs.Prelude.{max}
use Rattle.std.proofs.Math.Nat.{max-le, max-eq_right}
use Rattle.dl_entry.specs.declared.Actor.{Actor}
use Rattle.spec_isa.specs.declared.thread.Parts.{Parts}
use Rattle.spec_isa.specs.declared.thread.Kind.{Kind}
use Rattle.spec_isa.specs.Words.{lays}
use Rattle.spec_isa.specs.Runs.{Run, run}
use Rattle.spec_log.specs.declared.LogParts.{LogParts}
use Rattle.spec_log.specs.Size.{size_in}
use Rattle.spec_kernel.specs.Needs.{next_kind}
use Rattle.spec_play.specs.Plays.{Played, size_or_standard}
use Rattle.spec_sphere.specs.sphere.Spheres.{whole_limit, pieces_of, limit_of, Cursor, Replay}
use Rattle.spec_sphere.proofs.Moves.Threads.{run-keeps}
use Rattle.spec_finishing.specs.Work.{thread_work, turn_work}
use Rattle.spec_finishing.proofs.Paying.Runs.{run-longer, run-joined, run-serial}

-- ---- the limit of a commit, and what its play runs

-- the play runs as many instructions as the limit says, except that it runs none if the limit of 1 is for a logged 0
abbrev LimitIs : (whole size : ℕ) → Type 0
LimitIs whole size = (whole ≡ size) ⊎ ((size ≡ 0) × (whole ≡ 1))

size_limit : (s : ℕ) (o : Option ℕ) → LimitIs (elim o [ None ↦ s | Some z ↦ max 1 z ]) (elim o [ None ↦ s | Some z ↦ z ])
size_limit s None = inl refl
size_limit s (Some zero) = inr (refl, refl)
size_limit s (Some (suc z)) = inl (max-eq_right (omega arith))

limit_is : (log : LogParts) (k commits : ℕ) → LimitIs (whole_limit log k commits) (size_or_standard log k commits)
limit_is log k commits = size_limit log.s (size_in log (Actor.Thread k) commits)

-- ---- what is afforded

-- the next commit has more work than the instructions that were run, in pieces and since; or it is a single one in place of a logged 0
pub data Afforded (work total n : ℕ) : Type 0 where
  Enough : total + suc n ≤ work → Afforded work total n
  Lone : total ≡ 0 → n ≤ 1 → 1 ≤ work → Afforded work total n

afford_chunk : (m : List ℕ) (t : Parts) (total n whole size : ℕ) → (run m t total).n ≡ total → let r = run m t total in (run (lays m r.words) r.thread n).n ≡ n
    → LimitIs whole size → total < whole → n ≤ max 1 (whole - total) → Afforded (suc (run m t size).n) total n
afford_chunk m t total n whole size ran more is within most =
    elim is [
      | inl same ↦ (
          let limit : max 1 (whole - total) ≤ whole - total = max-le (omega arith) (omega arith) in
          let joined = run-joined m t total n ran more in
          let longer = run-longer m t (total + n) size (omega arith) in
          Enough (omega (arith, joined, longer))
          )
      | inr lone ↦ (
          let limit : max 1 (whole - total) ≤ 1 = max-le (omega arith) (let e = lone.1 in omega (arith, e)) in
          Lone (let e = lone.1 in omega (arith, e)) (omega arith) (omega arith)
          )
    ]

-- before a serial instruction nothing is run
afford_serial : (m : List ℕ) (t : Parts) (total n later : ℕ) (kind : Kind) → next_kind t m ≡ Some kind → (run m t total).n ≡ total → let r = run m t total in (run (lays m r.words) r.thread n).n ≡ n → Afforded (suc later) total n
afford_serial m t total n later kind next ran more =
    let empty = run-serial m t kind total next in
    let none : total ≡ 0 = sym ran ∙ ap (λ (r : Run). r.n) empty in
    let start : run (lays m (run m t total).words) (run m t total).thread n ≡ run m t n = ap (λ (r : Run). run (lays m r.words) r.thread n) empty in
    let nothing_ : n ≡ 0 = sym more ∙ ap (λ (r : Run). r.n) start ∙ ap (λ (r : Run). r.n) (run-serial m t kind n next) in
    Enough (omega arith)

afford_thread : (log : LogParts) (y : Played) (k : ℕ) (t : Parts) (total n : ℕ) (o : Option Kind) → next_kind t y.memory ≡ o → (run y.memory t total).n ≡ total → let r = run y.memory t total in (run (lays y.memory r.words) r.thread n).n ≡ n
    → total < whole_limit log k t.commits → n ≤ max 1 (whole_limit log k t.commits - total) → Afforded (suc (thread_work log y k t o)) total n
afford_thread log y k t total n None next ran more within most =
    afford_chunk y.memory t total n (whole_limit log k t.commits) (size_or_standard log k t.commits) ran more (limit_is log k t.commits) within most
afford_thread log y k t total n (Some kind) next ran more within most = afford_serial y.memory t total n _ kind next ran more

-- the next commit of thread k, which is t
pub afforded : (log : LogParts) (y : Played) (k : ℕ) (t : Parts) (total n : ℕ) → (run y.memory t total).n ≡ total → let r = run y.memory t total in (run (lays y.memory r.words) r.thread n).n ≡ n
    → total < whole_limit log k t.commits → n ≤ max 1 (whole_limit log k t.commits - total) → Afforded (turn_work log y k (Some t)) total n
afforded log y k t total n ran more within most = afford_thread log y k t total n (next_kind t y.memory) refl ran more within most

-- ---- the limit of a part

-- the pieces are taken off the commit's limit
pub part-limit : (s : ℕ) (b : Cursor) (k : ℕ) (m : List ℕ) (t : Parts) → pieces_of b.now k b.total ≡ b.total → limit_of s (Replay b) k (run m t b.total).thread ≡ max 1 (whole_limit b.log k t.commits - b.total)
unfolding limit_of
part-limit s b k m t pieces =
    (λ i. max 1 (whole_limit b.log k (run-keeps m t b.total i) - pieces i))
