use Rattle.std.proofs.Common.{ℕ, sym, ap, ◌∙◌, arith}
use Rattle.dl_entry.specs.declared.End.{End}
use Rattle.spec_log.specs.declared.LogParts.{LogParts}
use Rattle.spec_play.specs.declared.walk_end.WalkEnd.{WalkEnd}
use Rattle.spec_play.specs.Walks as play
use Rattle.spec_strata.proofs.Images.Ending.{fits-complete, walk-ended, never-reached, ends-as}
use Rattle.dl_strata.proofs.stratifying.stratify.Goals as goal

pub unreachable-requires : goal.unreachable-requires
unreachable-requires c =
    let log = c.args.log.now in
    let i = c.args.image.now in
    let all = ap (λ (l : LogParts). l.count) c.parts.ensures.parts in
    never-reached log i.bytes i.entry c.parts.result.now.count c.in_default.field-0 (omega (arith, all))
    (sym (ap (λ (w : play.Walked). w.end) c.in_ok-walked.ensures.walked) ∙ c.in_default.is)

pub made-requires-clause-fits : goal.made-requires-clause-fits
made-requires-clause-fits c =
    let log = c.args.log.now in
    let i = c.args.image.now in
    let n : ℕ = c.in-Complete.field-0 in
    fits-complete log i.bytes i.entry n
    (walk-ended log i.bytes i.entry c.parts.result.now.count (End.Complete n)
    (sym (ap (λ (w : play.Walked). w.end) c.in_ok-walked.ensures.walked) ∙ c.in-Ended.is ∙ ap WalkEnd.Ended c.in-Complete.is))

pub returns-in-Complete : goal.returns-in-Complete
returns-in-Complete c =
    let log = c.args.log.now in
    let i = c.args.image.now in
    let n : ℕ = c.in-Complete.field-0 in (
      fits-complete log i.bytes i.entry n
          (walk-ended log i.bytes i.entry c.parts.result.now.count (End.Complete n)
          (sym (ap (λ (w : play.Walked). w.end) c.in_ok-walked.ensures.walked) ∙ c.in-Ended.is ∙ ap WalkEnd.Ended c.in-Complete.is)),
      c.in_ok-made-in-Complete.ensures,
    )

pub unreachable-requires-in-At : goal.unreachable-requires-in-At
unreachable-requires-in-At c =
    let log = c.args.log.now in
    let i = c.args.image.now in
    ends-as log i.bytes i.entry (End.At c.in-At.field-0)
    (walk-ended log i.bytes i.entry c.parts.result.now.count (End.At c.in-At.field-0)
    (sym (ap (λ (w : play.Walked). w.end) c.in_ok-walked.ensures.walked) ∙ c.in-Ended.is ∙ ap WalkEnd.Ended c.in-At.is))
