use Rattle.std.proofs.Common.{◌∙◌, sym, ap, take}
use Rattle.std.specs.List.{position}
use Rattle.dl_asm.specs.Sources.{has_label, repeats}
use Rattle.dl_asm.proofs.Words.Labels.{repeated, entry-before, entry-absent}
use Rattle.dl_asm.proofs.code.is_repeated.Goals as goal

pub returns-in-Some-get : goal.returns-in-Some-get
returns-in-Some-get c = λ lines are.
    let name = c.in-Some.name.now in
    let i = c.args.index in
    entry-before lines (position (has_label name) lines) c.in-Some-get.place i (c.in-Some-get.ensures ∙ are.each name)
    ∙ sym (repeated lines name i) ∙ ap (repeats (take i lines)) c.in-Some.ensures

pub returns-in-None : goal.returns-in-None
returns-in-None c = λ lines are.
    let name = c.in-Some.name.now in
    let i = c.args.index in
    entry-absent lines (position (has_label name) lines) i (c.in-None.ensures ∙ are.each name)
    ∙ sym (repeated lines name i) ∙ ap (repeats (take i lines)) c.in-Some.ensures
