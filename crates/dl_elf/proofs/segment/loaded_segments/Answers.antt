-- One more program header is looked at.
use Rattle.std.proofs.Common.{◌+◌, ◌*◌, Vec, Global, sym, ap, ◌∙◌, arith}
use Rattle.dl_elf.specs.declared.segment.Segment.{Segment}
use Rattle.dl_elf.specs.Segments.{segment_at, first_loaded}
use Rattle.dl_elf.proofs.Loaded.{first_loaded-none, first_loaded-yes, first_loaded-no}
use Rattle.dl_elf.proofs.segment.loaded_segments.Goals as goal
use Rattle.dl_elf.proofs.segment.loaded_segments.Goals.{then-segment-eq-LOADED+in_ok-push, else-segment-eq-LOADED}

pub loop-i-init : goal.loop-i-init
loop-i-init c = c.new-segments.ensures.items ∙ sym (first_loaded-none c.args.file.now)

pub loop-i-preserved : goal.loop-i-preserved
loop-i-preserved c =
    let file = c.args.file.now in
    let is = c.program_header-segment.ensures ∙ ap (λ table. segment_at file (table + 32 * c.loop-i.i)) c.requires.table in
    elim c.if-segment-eq-LOADED.branch [
      | then-segment-eq-LOADED+in_ok-push w ↦
          first_loaded-yes file c.loop-i.i _ _ _ is w.if-segment-eq-LOADED.true c.loop-i.invariant
          (ap (λ (v : Vec Segment Global). v.items) w.segments-is ∙ w.in_ok-push.ensures.items)
      | else-segment-eq-LOADED w ↦
          first_loaded-no file c.loop-i.i _ _ is w.if-segment-eq-LOADED.false (ap (λ (v : Vec Segment Global). v.items) w.segments-is ∙ c.loop-i.invariant)
    ]

pub returns : goal.returns
returns c = c.loop-i.invariant ∙ ap (first_loaded c.args.file.now) (omega (arith, c.requires.count))
