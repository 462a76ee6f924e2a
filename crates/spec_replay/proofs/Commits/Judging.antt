-- What a log says of a chunk does not depend on how its stores are listed.
use Rattle.std.proofs.Common.{◌≡◌, ℕ, Bool, true, false, cond, List, Option, Some, None, refl, sym, ap, ◌∙◌}
use Rattle.dl_entry.specs.declared.Actor.{Actor}
use Rattle.dl_entry.specs.declared.Why.{Why}
use Rattle.spec_isa.specs.Words.{Stored, lays}
use Rattle.spec_isa.specs.Runs.{Run}
use Rattle.spec_log.specs.declared.LogParts.{LogParts}
use Rattle.spec_log.specs.Size.{size_in}
use Rattle.spec_kernel.specs.Interrupts.{takes_interrupt, interrupted}
use Rattle.spec_play.specs.Effects.{Effect, chunk_effect}
use Rattle.spec_play.specs.Progress.{Progress, with_interrupt}
use Rattle.spec_play.specs.declared.used.Used.{Used}
use Rattle.spec_play.specs.Verdicts.{LogVerdict, Goes, Fails, unless, interrupt_at, with_interrupted, chunk_why, chunk_verdict}

-- ---- verdicts that are alike

-- everything except the lists of words is the same, and laid on m and on n these leave the same memory
pub record AlikeEffects (m n : List ℕ) (e f : Effect) : Type 0 where
  pub thread : e.thread ≡ f.thread
  pub spawned : e.spawned ≡ f.spawned
  pub memory : lays m e.words ≡ lays n f.words
  pub request : e.request ≡ f.request
  pub commit : e.commit ≡ f.commit

-- the two verdicts go, with effects that are alike on those memories, or fail for the same reason
abbrev pub AreAlike : (m n : List ℕ) → LogVerdict → LogVerdict → Type 0
AreAlike m n (Goes e u) (Goes f v) = AlikeEffects m n e f × (u ≡ v)
AreAlike m n (Goes e u) (Fails why) = ⊥
AreAlike m n (Fails why) (Goes f v) = ⊥
AreAlike m n (Fails why) (Fails other) = why ≡ other

-- a verdict is like itself on one memory
pub alike_same : (m n : List ℕ) (v : LogVerdict) → m ≡ n → AreAlike m n v v
alike_same m n (Goes e u) h = (record { thread = refl; spawned = refl; memory = ap (λ (x : List ℕ). lays x e.words) h; request = refl; commit = refl }, refl)
alike_same m n (Fails why) h = refl

-- ---- with other words

abbrev with_words : List Stored → LogVerdict → LogVerdict
with_words ws (Goes e u) = Goes (record e { words = ws }) u
with_words ws (Fails why) = Fails why

alike_words : (m n : List ℕ) (ws xs : List Stored) (v : LogVerdict) → lays m ws ≡ lays n xs → AreAlike m n (with_words ws v) (with_words xs v)
alike_words m n ws xs (Goes e u) h = (record { thread = refl; spawned = refl; memory = h; request = refl; commit = refl }, refl)
alike_words m n ws xs (Fails why) h = refl

taken_words : (b : Bool) (ws : List Stored) (e : Effect) (value : ℕ) (u : Used)
    → cond b (Goes (record e { words = ws; thread = interrupted value e.thread }) (with_interrupt u)) (Fails Why.Interrupt) ≡ with_words ws (cond b (Goes (record e { thread = interrupted value e.thread }) (with_interrupt u)) (Fails Why.Interrupt))
taken_words true ws e value u = refl
taken_words false ws e value u = refl

interrupted_words : (o : Option ℕ) (ws : List Stored) (e : Effect) (u : Used) → with_interrupted o (record e { words = ws }) u ≡ with_words ws (with_interrupted o e u)
interrupted_words None ws e u = refl
interrupted_words (Some value) ws e u = taken_words (takes_interrupt e.thread) ws e value u

unless_words : (o : Option Why) (ws : List Stored) (v : LogVerdict) → unless o (with_words ws v) ≡ with_words ws (unless o v)
unless_words None ws v = refl
unless_words (Some why) ws v = refl

chunk_words : (log : LogParts) (p : Progress) (u : Used) (k : ℕ) (r : Run) (ws : List Stored) → chunk_verdict log p u k (record r { words = ws }) ≡ with_words ws (chunk_verdict log p u k r)
unfolding chunk_verdict
chunk_words log p u k r ws =
    let e : Effect = chunk_effect k p.request r in
    let why : Option Why = chunk_why (size_in log (Actor.Thread k) r.thread.commits) r.n in
    let o : Option ℕ = interrupt_at log.interrupts k e.thread.commits in
    ap (unless why) (interrupted_words o ws e u) ∙ unless_words why ws (with_interrupted o e u)

-- of two runs that differ only in their words
pub chunks-alike : (m n : List ℕ) (log : LogParts) (p : Progress) (u : Used) (k : ℕ) (r s : Run) → record r { words = s.words } ≡ s → lays m r.words ≡ lays n s.words → AreAlike m n (chunk_verdict log p u k r) (chunk_verdict log p u k s)
chunks-alike m n log p u k r s same h =
    let v : LogVerdict = chunk_verdict log p u k r in
    rw (chunk_words log p u k r r.words, sym (ap (chunk_verdict log p u k) same) ∙ chunk_words log p u k r s.words)
    (alike_words m n r.words s.words v h)
