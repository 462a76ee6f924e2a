use Rattle.std.proofs.Common.{List, None, sym, ap, ◌∙◌, arith}
use Rattle.spec_query.specs.declared.Store.{Store}
use Rattle.spec_query.specs.declared.When.{When}
use Rattle.spec_query.specs.Queries.{when_changed}
use Rattle.dl_query.proofs.Asking.{change-found, change-kept, change-never, change-other, when-same}
use Rattle.dl_query.proofs.queries.when.Goals as goal
use Rattle.dl_query.proofs.queries.when.Goals.{else-store-addr-via-then-store-addr+else-store-value, else-store-addr-via-else-store-addr}

pub returns-then-store-value : goal.returns-then-store-value
returns-then-store-value c =
    let ss = c.as_slice-store-items.result.now in
    let a = c.args.addr in
    let found = change-found ss c.loop-store.store-index _ a c.args.value c.loop-store-test.true c.if-store-addr.true c.if-store-value.true c.loop-store.invariant in
    ap When.At c.line_of.ensures
    ∙ sym (when-same ss c.args.first a c.args.value _ (let same = c.if-first-value.false in omega arith) found)
    ∙ ap (λ (xs : List Store). when_changed xs c.args.first a c.args.value) c.as_slice-store-items.ensures

pub loop-store-preserved : goal.loop-store-preserved
loop-store-preserved c =
    let now = c.loop-store in
    let ss = c.as_slice-store-items.result.now in
    let i = now.store-index in
    let a = c.args.addr in
    let v = c.args.value in
    elim c.else-store-addr.branch [
      | else-store-addr-via-then-store-addr+else-store-value w ↦ change-kept ss i _ a v c.loop-store-test.true w.if-store-addr.true (let same = w.if-store-value.false in omega arith) now.invariant
      | else-store-addr-via-else-store-addr w ↦ change-other ss i _ a v c.loop-store-test.true w.if-store-addr.false now.invariant
    ]

pub returns : goal.returns
returns c =
    let ss = c.as_slice-store-items.result.now in
    let a = c.args.addr in
    let never = change-never ss c.loop-store.store-index a c.args.value (let past = c.loop-store-test.false in omega arith) c.loop-store.invariant in
    sym (when-same ss c.args.first a c.args.value None (let same = c.if-first-value.false in omega arith) never)
    ∙ ap (λ (xs : List Store). when_changed xs c.args.first a c.args.value) c.as_slice-store-items.ensures
