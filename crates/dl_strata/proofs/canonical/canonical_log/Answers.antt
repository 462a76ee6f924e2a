use Rattle.std.proofs.Common.{sym, subst, ap, ◌∙◌, arith}
use Rattle.std.specs.List.{flat_map}
use Rattle.spec_strata.specs.Canonical.{order_of, canonical}
use Rattle.spec_strata.specs.Strata.{AreStrata}
use Rattle.dl_strata.proofs.Order.{few-actors, is-canonical, canonical-good}
use Rattle.dl_strata.proofs.canonical.canonical_log.Goals as goal

pub overflow_cast-len : goal.overflow_cast-len
overflow_cast-len c =
    let v = c.parts-parts.result.now in
    let good : AreStrata v = subst AreStrata (sym c.parts-parts.ensures.parts) c.parts-parts.ensures.good in
    let few = few-actors v c.in_ok-order.order good (c.in_ok-order.ensures ∙ ap (flat_map order_of) c.as_slice.ensures) in
    let n = c.len.ensures in
    omega (arith, few, n)

pub new-requires : goal.new-requires
new-requires c =
    let v = c.parts-parts.result.now in
    let good : AreStrata v = subst AreStrata (sym c.parts-parts.ensures.parts) c.parts-parts.ensures.good in
    canonical-good v _ good
    (is-canonical v _ _ _ _ _ _ c.len.ensures (c.in_ok-order.ensures ∙ ap (flat_map order_of) c.as_slice.ensures)
    (c.in_ok-from_slice.ensures ∙ c.as_slice-2.ensures) (c.in_ok-from_slice-2.ensures ∙ c.as_slice-3.ensures)
    (c.in_ok-copy_inputs.ensures ∙ c.as_slice-4.ensures) (c.in_ok-copy_dmas.ensures ∙ c.as_slice-5.ensures))

pub returns : goal.returns
returns c =
    let v = c.parts-parts.result.now in
    c.new.ensures
    ∙ is-canonical v _ _ _ _ _ _ c.len.ensures (c.in_ok-order.ensures ∙ ap (flat_map order_of) c.as_slice.ensures)
    (c.in_ok-from_slice.ensures ∙ c.as_slice-2.ensures) (c.in_ok-from_slice-2.ensures ∙ c.as_slice-3.ensures)
    (c.in_ok-copy_inputs.ensures ∙ c.as_slice-4.ensures) (c.in_ok-copy_dmas.ensures ∙ c.as_slice-5.ensures)
    ∙ ap canonical c.parts-parts.ensures.parts
