use Rattle.std.proofs.Common.{◌≡◌, ◌∙◌, ◌+◌, ◌≤◌, ◌++◌, sym, ap, ap₂, true, Some, IfSome, arith, rules, tests, length, take, subst}
use Rattle.std.proofs.lemmas.List.{length_push}
use Rattle.dl_asm.specs.Seen.{seen}
use Rattle.dl_asm.specs.Lines.{said, label_of, count_said, count_of}
use Rattle.dl_asm.specs.Sources.{lines_of, line_at, place_of, label_place, repeats, statement_said, statement_at, words_by, instr_by}
use Rattle.dl_asm.specs.Values as values
use Rattle.spec_isa.specs.Denoted.{denoted}
use Rattle.spec_isa.specs.Encoding.{spelling}
use Rattle.dl_asm.proofs.Words.Coding.{IsCoded, coded-more, all-coded, where-labels, broken-here}
use Rattle.dl_asm.proofs.Texts.Lines.{line-turn, line-end}
use Rattle.dl_asm.proofs.code.code.Goals as goal

pub returns-in-Err : goal.returns-in-Err
returns-in-Err c =
    let source = c.args.source.now in
    let lines = lines_of source in
    let i = length c.loop-text.yielded in
    let before = c.loop-text.invariant in
    let turn = line-turn _ _ _ source _ c.loop-text.yielded c.in-Some.text _ c.loop-text.yielded_by c.in-Some.is c.next.ensures.steps (cc) (cc) (cc) (λ x b q k. search (rules, tests)) in
    let here : length c.as_slice.result.now ≡ place_of lines i = ap length (c.as_slice.ensures.value ∙ before.made) ∙ before.placed i (omega arith) in
    let twice = c.is_repeated-twice.ensures lines c.requires ∙ ap₂ (λ n text. repeats (take n lines) (label_of text)) before.counted turn.1 in
    let line = c.read_line.ensures ∙ ap said turn.1 in
    record {
      within = omega (arith, turn.0, before.counted);
      index = i;
      counted = ap (λ n. n + 1) before.counted;
      broken = sym (broken-here lines i (length c.as_slice.result.now) c.is_repeated-twice.result (seen c.read_line.result) here twice line) ∙ c.in-Err.ensures.answer (label_place lines) (where-labels lines c.args.labels.now c.requires);
      first = before.kept;
    }

pub loop-text-preserved : goal.loop-text-preserved
loop-text-preserved c =
    let source = c.args.source.now in
    let lines = lines_of source in
    let i = length c.loop-text.yielded in
    let before = c.loop-text.invariant in
    let turn = line-turn _ _ _ source _ c.loop-text.yielded c.in-Some.text _ c.loop-text.yielded_by c.in-Some.is c.next.ensures.steps (cc) (cc) (cc) (λ x b q k. search (rules, tests)) in
    let here : length c.as_slice.result.now ≡ place_of lines i = ap length (c.as_slice.ensures.value ∙ before.made) ∙ before.placed i (omega arith) in
    let twice = c.is_repeated-twice.ensures lines c.requires ∙ ap₂ (λ n text. repeats (take n lines) (label_of text)) before.counted turn.1 in
    let line = c.read_line.ensures ∙ ap said turn.1 in
    let answer = c.in-Ok.ensures.answer (label_place lines) (where-labels lines c.args.labels.now c.requires) in
    let kept = sym (broken-here lines i (length c.as_slice.result.now) c.is_repeated-twice.result (seen c.read_line.result) here twice line) ∙ answer.0 in
    let found : c.in-Ok.statement ≡ statement_at lines i = answer.1 ∙ ap₂ (λ n s. statement_said n (label_place lines) s) here line in
    let room : place_of lines i + count_of (line_at lines i) ≤ 4194304 = subst (λ n. n ≤ 4194304) (ap₂ (λ n s. n + count_said s) here line) c.in-Ok.ensures.room in
    let holds = subst (λ s. IfSome s (λ t. values.holds t.form t.number ≡ true)) found c.in-Ok.ensures.held in
    let spelled = subst (λ s. IfSome (instr_by s) (λ instr. denoted (spelling instr) ≡ Some instr)) found c.in-Ok-append.ensures.spelled in
    let words = c.in-Ok-append.ensures.words ∙ ap (λ s. c.loop-text.words.items ++ words_by s) found in
    rw length_push (subst (IsCoded lines (i + 1) (c.loop-text.index + 1)) (sym words) (coded-more lines i _ _ before turn.0 kept holds room spelled))

pub returns : goal.returns
returns c =
    let source = c.args.source.now in
    let end = line-end _ _ _ source _ c.loop-text.yielded _ c.loop-text.yielded_by c.in-None.is c.next.ensures.steps (cc) (cc) (cc) (λ x b q k. search (rules, tests)) in
    all-coded (lines_of source) _ _ _ c.loop-text.invariant end
