use Rattle.std.proofs.Common.{◌≡◌, None, inl, inr, sym, ap, ◌∙◌}
use Rattle.dl_thread.specs.declared.answer.Did.{Did}
use Rattle.dl_kernel.specs.Peeks.{serial_kind}
use Rattle.dl_kernel.proofs.Causes.{kind_found}
use Rattle.dl_kernel.proofs.need.next_kind.Goals as goal

pub returns-in-Serial : goal.returns-in-Serial
returns-in-Serial c = kind_found c.args.memory.now c.args.thread.now (Did.Serial c.in-Serial.kind) c.in-Serial.ensures.did

pub returns-in-Next : goal.returns-in-Next
returns-in-Next c =
    let none : serial_kind c.one.result ≡ None =
    elim c.in-Next.is as (λ _. serial_kind c.one.result ≡ None) [
      | inl next ↦ ap serial_kind next.1
      | inr rest ↦ elim rest as (λ _. serial_kind c.one.result ≡ None) [ inl room ↦ ap serial_kind room | inr bounced ↦ ap serial_kind bounced.1 ]
    ]
    in
    sym none ∙ kind_found c.args.memory.now c.args.thread.now c.one.result c.one.ensures.did
