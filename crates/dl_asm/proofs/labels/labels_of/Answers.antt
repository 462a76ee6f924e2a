use Rattle.std.proofs.Common.{◌≡◌, ◌∙◌, ◌+◌, ◌^◌, arith, rules, tests, length, min, ap, ap₂, sym}
use Rattle.std.specs.List.{position}
use Rattle.std.specs.Option.{option_map}
use Rattle.std.proofs.lemmas.List.{length_push, take_all}
use Rattle.dl_asm.specs.Numbers.{capped}
use Rattle.dl_asm.specs.Lines.{count_of, count_said}
use Rattle.dl_asm.specs.Labels.{entry_after, entry_at}
use Rattle.dl_asm.specs.Sources.{lines_of, place_of, has_label}
use Rattle.dl_asm.proofs.Texts.Lines.{line-turn, line-end}
use Rattle.dl_asm.proofs.Words.Labels.{entry-more, place-more, capped-more}
use Rattle.dl_asm.proofs.labels.labels_of.Goals as goal

pub loop-line-preserved : goal.loop-line-preserved
loop-line-preserved c =
    let source = c.args.source.now in
    let lines = lines_of source in
    let turn = line-turn _ _ _ source _ c.loop-line.yielded c.in-Some.line _ c.loop-line.yielded_by c.in-Some.is c.next.ensures.steps (cc) (cc) (cc) (λ x b q k. search (rules, tests)) in
    let i = length c.loop-line.yielded in
    let line = c.in-Some.line.now in
    let before = c.loop-line.invariant in
    let counted : c.from.result ≡ count_of line = c.from.ensures ∙ c.count.ensures.value ∙ ap count_said c.read_line.ensures in
    let words : c.min.result ≡ capped (place_of lines (i + 1)) =
    c.min.ensures ∙ ap₂ (λ w n. min (w + n) (2 ^ 33)) (ap (λ place. place.words) before.here) counted ∙ capped-more (place_of lines i) (count_of line)
    ∙ ap capped (sym (place-more lines line i turn.0 turn.1)) in
    rw length_push (record {
      within = omega (arith, turn.0);
      here = ap₂ (λ l w. record { line = l; words = w }) (ap (λ place. place.line + 1) before.here) words;
      each = λ name. c.in_ok-note.ensures name ∙ ap₂ (λ old place. entry_after old (has_label name line) place) (before.each name) before.here
          ∙ sym (entry-more lines name line i turn.0 turn.1);
    })

pub returns : goal.returns
returns c =
    let source = c.args.source.now in
    let lines = lines_of source in
    let end = line-end _ _ _ source _ c.loop-line.yielded _ c.loop-line.yielded_by c.in-None.is c.next.ensures.steps (cc) (cc) (cc) (λ x b q k. search (rules, tests)) in
    let whole = take_all (length c.loop-line.yielded) lines (omega (arith, end)) in
    record { each = λ name. c.loop-line.invariant.each name ∙ ap (λ t. option_map (entry_at lines) (position (has_label name) t)) whole }
