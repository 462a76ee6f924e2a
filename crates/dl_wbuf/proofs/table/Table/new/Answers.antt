-- All slots are free, and the homes are half of them.
use Rattle.std.proofs.Common.{◌≡◌, ◌≢◌, ◌<◌, ◌≤◌, ◌*◌, ◌^◌, ℕ, length, get_or, Option, Some, None, refl, arith, List, zero, suc, inl, inr}
use Rattle.std.proofs.Math.ListN.{replicate, get_or-eq_default}
use Rattle.std.proofs.lemmas.Bool.{cases_lt}
use Rattle.std.proofs.lemmas.List.{get_or-replicate, length-replicate}
use Rattle.std.specs.Vec.{vec_capacity}
use Rattle.dl_wbuf.specs.declared.entry.Entry.{Entry}
use Rattle.dl_wbuf.proofs.Opens.{IsOpen-empty, homes-half}
use Rattle.dl_wbuf.proofs.table.Table.new.Goals as goal

positive_bits : (bits : ℕ) → 2 ≤ 2 ^ bits → 1 ≤ bits
positive_bits zero h = absurd (omega arith)
positive_bits (suc bits) h = omega arith

only_none : (P : Option Entry → Type 0) → ((e : Entry) → P (Some e) → ⊥) → (o : Option Entry) → P o → o ≡ None
only_none P lacks None h = refl
only_none P lacks (Some e) h = absurd (lacks e h)

free : (n i : ℕ) (e : Entry) → get_or (replicate n None) i None ≢ Some e
free n i e is =
    let ss : List (Option Entry) = replicate n None in
    elim (cases_lt i n) [
      | inl inside ↦ let f : get_or ss i None ≡ None = get_or-replicate n i None None inside in absurd cc
      | inr outside ↦ let f : get_or ss i None ≡ None = get_or-eq_default ss None (rw length-replicate outside) in absurd cc
    ]

pub invariant_of-result : goal.invariant_of-result
invariant_of-result c =
    let bits : ℕ = c.ilog2-bits.result in
    let few : 2 ^ bits < 2 ^ 19 = omega (arith, c.ilog2-bits.ensures.power_le) in
    let many : 2 * c.args.room < 2 * 2 ^ bits = omega (arith, c.ilog2-bits.ensures.next_power_gt) in
    let some : 1 ≤ bits = positive_bits bits (omega arith) in
    let room : vec_capacity c.in_ok-with_capacity.field-0 ≡ c.args.room = c.in_ok-with_capacity.ensures.exact in
    let slots : length c.in_ok-vec.field-0.items ≡ 2 * 2 ^ bits = omega (arith, c.in_ok-vec.ensures.len) in
    let clones = c.in_ok-vec.ensures.items_if_clones_equal (only_none _ (λ e h. h)) in
    let lacks : (i : ℕ) (e : Entry) → get_or c.in_ok-vec.field-0.items i None ≢ Some e = λ i e. rw clones (free _ i e) in
    IsOpen-empty _ lacks c.in_ok-with_capacity.ensures.items
    (rw (slots, room) (omega arith))
    (λ a. rw slots (homes-half bits a (omega (arith, c.ilog2-bits.ensures.bound))))
    (omega arith)
    (rw slots (omega arith))
