use Rattle.std.proofs.Common.{◌≡◌, ℕ, List, sym, ap, ◌∙◌, refl}
use Rattle.dl_entry.specs.declared.Actor.{Actor}
use Rattle.dl_entry.specs.declared.Input.{Input}
use Rattle.spec_isa.specs.declared.thread.Parts.{Parts}
use Rattle.spec_log.specs.declared.DmaRecord.{DmaRecord}
use Rattle.spec_log.specs.declared.Interrupt.{Interrupt}
use Rattle.spec_log.specs.declared.LogParts.{LogParts}
use Rattle.spec_log.specs.declared.Sizes.{Sizes}
use Rattle.spec_log.specs.Log.{IsLog}
use Rattle.spec_tail.specs.Later as tail
use Rattle.spec_tail.specs.Tails.{Tail}
use Rattle.spec_tail.proofs.LaterLog.{later-is-log}
use Rattle.dl_tail.proofs.later.log_later.Goals as goal

of_parts : (t : Tail) (log : LogParts) (order : List Actor) (sizes : Sizes) (interrupts : List Interrupt) (inputs : List Input) (dmas : List DmaRecord) → log ≡ t.log → order ≡ log.order
    → sizes ≡ tail.sizes_later t.threads log.sizes
    → interrupts ≡ tail.interrupts_later t.threads log.interrupts
    → inputs ≡ log.inputs
    → dmas ≡ tail.dmas_later t.base t.log.count log.dmas
    → IsLog (tail.log_later t)
    → IsLog (record { version = log.version; threads = log.threads; mode = log.mode; s = log.s; count = log.count; order = order; sizes = sizes; interrupts = interrupts; inputs = inputs; dmas = dmas })
of_parts t log order sizes interrupts inputs dmas same e f g h i is = rw (e, f, g, h, i, same) is

pub new-requires : goal.new-requires
new-requires c =
    let t = c.args.tail.now in
    let p = c.parts-parts.result.now in
    let log = c.parts-log.result.now in
    let is = c.parts-parts.ensures.parts in
    let threads : c.as_slice-threads.result.now ≡ t.threads = c.as_slice-threads.ensures ∙ ap (λ (x : Tail). x.threads) is in
    let base : p.base ≡ t.base = ap (λ (x : Tail). x.base) is in
    of_parts t log c.in_ok-from_slice.field-0 c.in_ok-sizes_later.field-0 c.in_ok-interrupts_later.field-0 c.in_ok-inputs_again.field-0 c.in_ok-dmas_later.field-0
    (c.parts-log.ensures.parts ∙ ap (λ (x : Tail). x.log) is)
    (c.in_ok-from_slice.ensures ∙ c.as_slice.ensures)
    (c.in_ok-sizes_later.ensures ∙ ap (λ (ps : List Parts). tail.sizes_later ps log.sizes) threads)
    (c.in_ok-interrupts_later.ensures ∙ ap (λ (ps : List Parts). tail.interrupts_later ps c.as_slice-2.result.now) threads ∙ ap (tail.interrupts_later t.threads) c.as_slice-2.ensures)
    (c.in_ok-inputs_again.ensures ∙ c.as_slice-3.ensures)
    (c.in_ok-dmas_later.ensures t.log.count ∙ ap (λ (b : ℕ). tail.dmas_later b t.log.count c.as_slice-4.result.now) base ∙ ap (tail.dmas_later t.base t.log.count) c.as_slice-4.ensures)
    (later-is-log t c.parts-parts.ensures.good)
