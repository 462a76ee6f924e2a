use Rattle.std.proofs.Common.{ℕ, inl, inr, None, sym, ap, ◌∙◌, arith}
use Rattle.std.proofs.lemmas.Bool.{cases_lt}
use Rattle.std.proofs.lemmas.List.{get_or_default}
use Rattle.spec_engine.specs.Flights.{at, passes, meets_chunk}
use Rattle.spec_engine.proofs.Searches.{first_is, first_is_none}
use Rattle.dl_arbiter.proofs.arbiter.first_hit.Goals as goal

pub returns-then-meets-clause-value : goal.returns-then-meets-clause-value
returns-then-meets-clause-value g c =
    let test = meets_chunk (g.G.Sig.marks c.args.reads.now) (g.G.Sig.marks c.args.writes.now) in
    let slots = c.args.slots.now in
    let k = c.loop-k.k in
    let slot = c.index-slots-k.is ∙ get_or_default slots k c.index-slots-k.result None c.loop-k-test.true in
    first_is test slots k c.loop-k-test.true c.loop-k.invariant (ap (passes test) (sym slot) ∙ sym c.if-meets.ensures)

pub loop-k-preserved : goal.loop-k-preserved
loop-k-preserved g c j l =
    let test = meets_chunk (g.G.Sig.marks c.args.reads.now) (g.G.Sig.marks c.args.writes.now) in
    let slots = c.args.slots.now in
    let k = c.loop-k.k in
    let slot = c.index-slots-k.is ∙ get_or_default slots k c.index-slots-k.result None c.loop-k-test.true in
    elim (cases_lt j k) [
      | inl below ↦ c.loop-k.invariant j below
      | inr past ↦ ap (λ (i : ℕ). passes test (at slots i)) (omega arith) ∙ ap (passes test) (sym slot) ∙ sym c.if-meets.ensures
    ]

pub returns-clause-value : goal.returns-clause-value
returns-clause-value g c =
    first_is_none (meets_chunk (g.G.Sig.marks c.args.reads.now) (g.G.Sig.marks c.args.writes.now)) c.args.slots.now
    (λ j l. c.loop-k.invariant j (let past = c.loop-k-test.false in omega arith))
