use Rattle.std.proofs.Common.{◌≡◌, ℕ, suc, ◌+◌, ◌≤◌, List, Option, Some, drop, get_or, length, sym, ap, ◌∙◌, arith}
use Rattle.std.specs.Prelude.{option_map}
use Rattle.std.proofs.lemmas.Bool.{true≢false}
use Rattle.std.proofs.lemmas.List.{get_or-set_same, length-set}
use Rattle.dl_entry.specs.declared.Actor.{Actor}
use Rattle.spec_strata.specs.Standing.{least_left, with_one_done}
use Rattle.dl_mode.specs.Strata.{is_head}
use Rattle.dl_replay.proofs.Standings.{left-but, left-past, left-yet, own-thread}
use Rattle.dl_replay.proofs.Takes.{is-head, own-head}
use Rattle.dl_replay.proofs.done.pass_on.Goals.{else-is_head-via-else-is_head, else-is_head-via-then-is_head+else-done-number}
use Rattle.dl_replay.proofs.done.pass_on.Goals as goal

pub returns-then-done-number : goal.returns-then-done-number
returns-then-done-number c before done head =
    let k = c.args.thread in
    let i = c.from-number.result in
    let cs = c.args.counts.now in
    let ds = c.args.done.now in
    let e : i ≡ k = c.from-number.ensures in
    let next : i + 1 ≡ suc k = omega (arith, e) in
    let seen = λ (n : ℕ) (es : List ℕ). option_map Actor.Thread (least_left n (drop n cs) (drop n es)) in
    let own = own-thread (least_left 0 cs before) k (sym head ∙ is-head c.args.head.now (Actor.Thread k) (sym c.is_head.ensures ∙ c.if-is_head.true)) in
    let long : length ds ≡ length before = ap length done ∙ length-set before k (suc (get_or before k 0)) in
    let none : get_or cs k 0 ≤ get_or (with_one_done k before) k 0 = omega (
      arith,
      c.if-done-number.true,
      c.from.ensures,
      ap (λ (j : ℕ). get_or cs j 0) e,
      ap (λ (j : ℕ). get_or ds j 0) e,
      ap (λ (es : List ℕ). get_or es k 0) done,
    ) in
    c.least_left.ensures
    ∙ (λ j. seen (next j) (done j))
    ∙ ap (option_map Actor.Thread) (left-past cs before k (omega (arith, c.requires.thread, c.requires.threads, long)) (c.requires.threads ∙ long) own none)
    ∙ ap (λ (es : List ℕ). option_map Actor.Thread (least_left 0 cs es)) (sym done)

pub returns-else-is_head : goal.returns-else-is_head
returns-else-is_head c before done head =
    let k = c.args.thread in
    let i = c.from-number.result in
    let cs = c.args.counts.now in
    let ds = c.args.done.now in
    let e : i ≡ k = c.from-number.ensures in
    let seen = λ (es : List ℕ). option_map Actor.Thread (least_left 0 cs es) in
    let long : length ds ≡ length before = ap length done ∙ length-set before k (suc (get_or before k 0)) in
    let same : least_left 0 cs (with_one_done k before) ≡ least_left 0 cs before =
    elim c.else-is_head.branch [
      | else-is_head-via-else-is_head w ↦
          left-but 0 cs before k (λ h.
          let first : 0 + k ≡ k = omega arith in
          let own : c.args.head.now ≡ Some (Actor.Thread k) = head ∙ ap (option_map Actor.Thread) (h ∙ ap (λ (n : ℕ). Some n) first) in
          true≢false (sym (ap (λ (o : Option Actor). is_head o (Actor.Thread k)) own ∙ own-head (Actor.Thread k)) ∙ sym c.is_head.ensures ∙ w.if-is_head.false))
      | else-is_head-via-then-is_head+else-done-number w ↦
          left-yet 0 cs before k (omega (
            arith,
            w.if-done-number.false,
            w.from.ensures,
            ap (λ (j : ℕ). get_or cs j 0) e,
            ap (λ (j : ℕ). get_or ds j 0) e,
            ap (λ (es : List ℕ). get_or es k 0) done,
            get_or-set_same before k (suc (get_or before k 0)) 0 (omega (arith, c.requires.thread, c.requires.threads, long)),
          ))
    ] in
    head ∙ ap (option_map Actor.Thread) (sym same) ∙ ap seen (sym done)
