-- A running chunk looks at memory only by the words that it fetches and loads.
use Rattle.std.proofs.Common.{ℕ, Bool, List, Option, Some, None, sym, ◌∙◌, subst}
use Rattle.std.specs.Prelude.{IsSome}
use Rattle.spec_isa.specs.Words.{lays}
use Rattle.spec_isa.specs.Runs.{Run}
use Rattle.spec_engine.specs.declared.answers.How.{How}
use Rattle.spec_engine.specs.Chunks.{Chunk}
use Rattle.spec_play.specs.Touching.{Agree}
use Rattle.spec_play.proofs.Local.Laying.{Agree-lays}
use Rattle.spec_protocol.specs.promises.Currency.{Meets, seen_by, IsCurrent}
use Rattle.spec_play.proofs.Local.Running.{one_local, kind_local, run_local}
use Rattle.spec_sphere.proofs.Memory.Running.{Touches_local, RunTouches_local}

Meets_local : (seen : ℕ → Bool) (m n : List ℕ) (r : Run) (o : Option How) → Agree seen (lays m r.words) (lays n r.words) → Meets seen m r o → Meets seen n r o
Meets_local seen m n r None g meets = tt
Meets_local seen m n r (Some How.Limit) g meets = tt
Meets_local seen m n r (Some How.Serial) g meets =
    record { touches = Touches_local seen r.thread _ _ g meets.touches; serial = subst IsSome (sym (kind_local seen r.thread _ _ g meets.touches)) meets.serial }
Meets_local seen m n r (Some How.Overflow) g meets =
    let a = meets.anew in
    record {
      touches = Touches_local seen r.thread _ _ g meets.touches;
      anew = record { thread = a.thread; load = a.load; store = a.store; next = one_local seen r.thread _ _ g meets.touches ∙ a.next; new = a.new };
    }
Meets_local seen m n r (Some How.Cut) g meets = tt

-- a chunk that is current on one memory is so on another that agrees on what it has seen
pub Live_local : (m n : List ℕ) (ch : Chunk) → Agree (seen_by ch) m n → IsCurrent m ch → IsCurrent n ch
Live_local m n ch g live =
    let later : Agree (seen_by ch) (lays m ch.done.words) (lays n ch.done.words) = Agree-lays (seen_by ch) m n ch.done.words g in
    record {
      runs = run_local (seen_by ch) m n ch.start ch.done.n g live.touches ∙ live.runs;
      touches = RunTouches_local (seen_by ch) m n ch.start ch.done.n g live.touches;
      next = Meets_local (seen_by ch) m n ch.done ch.closed later live.next;
    }
