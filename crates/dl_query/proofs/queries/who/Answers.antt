use Rattle.std.proofs.Common.{◌+◌, List, Option, Some, drop, ap, ◌∙◌, arith}
use Rattle.std.specs.Option.{option_or}
use Rattle.spec_query.specs.declared.Line.{Line}
use Rattle.spec_query.specs.declared.Store.{Store}
use Rattle.spec_query.specs.Queries.{who}
use Rattle.dl_query.proofs.Asking.{who-above, who-done, who-noted, who-other}
use Rattle.dl_query.proofs.queries.who.Goals as goal
use Rattle.dl_query.proofs.queries.who.Goals.{then-store-addr+then-store-i, else-store-addr, else-store-addr-via-then-store-addr+else-store-i, else-store-addr-via-else-store-addr}

pub loop-store-preserved : goal.loop-store-preserved
loop-store-preserved c =
    let now = c.loop-store in
    let ss = c.as_slice-store-items.result.now in
    let i = now.store-index in
    let a = c.args.addr in
    let n = c.args.i in
    let inside = c.loop-store-test.true in
    let rest = who (drop (i + 1) ss) a n in
    elim c.if-store-addr.branch [
      | then-store-addr+then-store-i w ↦
          ap (λ (o : Option Line). option_or rest o) (w.last-is ∙ ap Some w.line_of.ensures)
          ∙ who-noted ss i _ a n now.last inside w.if-store-addr.true w.if-store-i.true now.invariant
      | else-store-addr w ↦
          ap (λ (o : Option Line). option_or rest o) w.last-is
          ∙ elim w.else-store-addr.branch [
            | else-store-addr-via-then-store-addr+else-store-i v ↦ who-above ss i _ a n now.last inside v.if-store-addr.true (let late = v.if-store-i.false in omega arith) now.invariant
            | else-store-addr-via-else-store-addr v ↦ who-other ss i _ a n now.last inside v.if-store-addr.false now.invariant
          ]
    ]

pub returns : goal.returns
returns c =
    who-done c.as_slice-store-items.result.now c.loop-store.store-index c.args.addr c.args.i c.loop-store.last (let past = c.loop-store-test.false in omega arith) c.loop-store.invariant
    ∙ ap (λ (ss : List Store). who ss c.args.addr c.args.i) c.as_slice-store-items.ensures
