use Rattle.std.proofs.Common.{◌≡◌, sym, ap, ◌∙◌, subst}
use Rattle.dl_serial.specs.Keeping.{AreKept}
use Rattle.dl_trail.specs.Trails.{Trail, commits_of, entry_of, memory_of}
use Rattle.dl_trail.proofs.Places.{entry-kept, memory-kept}
use Rattle.dl_trail.proofs.trail.Trail.new.Goals as goal

pub invariant_of-result : goal.invariant_of-result
invariant_of-result c =
    let image = c.args.image.now in
    let kept = c.in_ok-kept.kept.items in
    let are : AreKept c.args.log.now image.bytes image.entry c.args.every kept = c.in_ok-kept.ensures in
    let log = c.in_ok-copy_log.ensures in
    let memory = memory-kept c.args.log.now image.bytes image.entry c.args.every kept are in
    let entry = entry-kept c.args.log.now image.bytes image.entry c.args.every kept are in
    let made : Trail = record { log = c.in_ok-copy_log.field-0; memory = memory_of kept; entry = entry_of kept; every = c.args.every } in
    let asked : Trail = record { log = c.args.log.now; memory = image.bytes; entry = image.entry; every = c.args.every } in
    let same : made ≡ asked = λ x. record { log = log x; memory = memory x; entry = entry x; every = c.args.every } in
    (c.requires, subst (λ (t : Trail). AreKept t.log t.memory t.entry t.every kept) (sym same) are, c.in_ok-numbers_of.ensures ∙ ap commits_of c.deref.ensures.value)

pub returns : goal.returns
returns c =
    let image = c.args.image.now in
    let kept = c.in_ok-kept.kept.items in
    let log = c.in_ok-copy_log.ensures in
    let memory = memory-kept c.args.log.now image.bytes image.entry c.args.every kept c.in_ok-kept.ensures in
    let entry = entry-kept c.args.log.now image.bytes image.entry c.args.every kept c.in_ok-kept.ensures in
    λ x. record { log = log x; memory = memory x; entry = entry x; every = c.args.every }
