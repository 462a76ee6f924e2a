-- Instructions and runs look at memory only by the words that they fetch and load; so does what comes after a closed run.
use Rattle.std.proofs.Common.{◌≡◌, ℕ, Bool, true, List, sym, ap, ◌∙◌, subst, arith}
use Rattle.spec_isa.specs.declared.thread.Parts.{Parts}
use Rattle.spec_isa.specs.Words.{lays, is_inside}
use Rattle.spec_isa.specs.Instruction.{loads_of}
use Rattle.spec_isa.specs.Runs.{Run, run}
use Rattle.spec_play.specs.Touching.{Agree, Touches, RunTouches}
use Rattle.spec_play.proofs.Local.Laying.{Agree-lays}
use Rattle.spec_play.proofs.Local.Running.{serial_local, fetched_local, run_local}

-- ---- whether it is serial

-- memories that agree on the words that an instruction looks at have it look at the same ones
pub Touches_local : (seen : ℕ → Bool) (t : Parts) (m n : List ℕ) → Agree seen m n → Touches seen t m → Touches seen t n
Touches_local seen t m n g touches =
    record {
      fetch = λ e. touches.fetch (ap (λ (k : ℕ). is_inside k t.pc) (sym g.size) ∙ e);
      load = λ none a some. touches.load (sym (serial_local seen t m n g touches) ∙ none) a (ap (loads_of t) (sym (fetched_local seen t m n g touches none)) ∙ some);
    }

-- an instruction that touches only words seen does so where more are seen
pub Touches_more : (seen more_seen : ℕ → Bool) (t : Parts) (m : List ℕ) → ((a : ℕ) → seen a ≡ true → more_seen a ≡ true) → Touches seen t m → Touches more_seen t m
Touches_more seen more_seen t m more_ touches =
    record { fetch = λ e. more_ _ (touches.fetch e); load = λ none a some. more_ a (touches.load none a some) }

-- ---- a run

pub RunTouches_local : (seen : ℕ → Bool) (m n : List ℕ) (t : Parts) (k : ℕ) → Agree seen m n → RunTouches seen m t k → RunTouches seen n t k
RunTouches_local seen m n t k g touches i l =
    subst (λ (r : Run). Touches seen r.thread (lays n r.words)) (sym (run_local seen m n t i g (λ j h. touches j (omega arith))))
    (Touches_local seen (run m t i).thread (lays m (run m t i).words) (lays n (run m t i).words) (Agree-lays seen m n (run m t i).words g) (touches i l))
