use Rattle.std.proofs.Common.{◌+◌, ◌∷◌, ◌++◌, [], List, drop, ap, ◌∙◌, arith}
use Rattle.spec_query.specs.declared.Line.{Line}
use Rattle.spec_query.specs.Queries.{watch}
use Rattle.dl_query.proofs.Asking.{watch-noted, watch-passed, watch-done}
use Rattle.dl_query.proofs.queries.watch.Goals as goal
use Rattle.dl_query.proofs.queries.watch.Goals.{then-store-addr+in_ok-push, else-store-addr}

pub loop-store-preserved : goal.loop-store-preserved
loop-store-preserved c =
    let now = c.loop-store in
    let ss = c.as_slice-store-items.result.now in
    let i = now.store-index in
    let a = c.args.addr in
    elim c.if-store-addr.branch [
      | then-store-addr+in_ok-push w ↦
          ap (λ (ls : List Line). ls ++ watch (drop (i + 1) ss) a) (w.lines-is ∙ w.in_ok-push.ensures.ok ∙ ap (λ (l : Line). now.lines ++ l ∷ []) w.line_of.ensures)
          ∙ watch-noted ss i _ a now.lines c.loop-store-test.true w.if-store-addr.true now.invariant
      | else-store-addr w ↦
          ap (λ (ls : List Line). ls ++ watch (drop (i + 1) ss) a) w.lines-is
          ∙ watch-passed ss i _ a now.lines c.loop-store-test.true w.if-store-addr.false now.invariant
    ]

pub returns : goal.returns
returns c =
    watch-done c.as_slice-store-items.result.now c.loop-store.store-index c.args.addr c.loop-store.lines (let past = c.loop-store-test.false in omega arith) c.loop-store.invariant
    ∙ ap (λ (ss : List _). watch ss c.args.addr) c.as_slice-store-items.ensures
