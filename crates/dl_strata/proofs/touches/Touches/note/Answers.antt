use Rattle.std.proofs.Common.{◌≡◌, ℕ, ◌<◌, Bool, false, List, length, take, get_or, sym, ap, ◌∙◌, subst, arith}
use Rattle.std.specs.Prelude.{slice_set}
use Rattle.spec_strata.specs.declared.touch.Touch.{Touch}
use Rattle.spec_strata.specs.declared.touch.Touch.TheVariants.{StoredBy}
use Rattle.spec_strata.specs.Touches.{looked_at}
use Rattle.spec_strata.proofs.Making.Cutting.{length-set}
use Rattle.dl_serial.specs.Looks.{has}
use Rattle.dl_strata.specs.Tables.{Table, touch_of, touched_by}
use Rattle.dl_strata.proofs.Tables.{has-item, has-more, look-noted, store-noted}
use Rattle.dl_strata.proofs.touches.Touches.note.Goals as goal

pub set-requires : goal.set-requires
set-requires c =
    let now = c.loop-number in
    let i : ℕ = now.number-index in
    let xs : List ℕ = c.args.footprint.now.looked.items in
    let v = c.deref-number-items.ensures.value in
    let there = c.requires.looked (get_or xs i 0) (has-item xs i (subst (λ (ys : List ℕ). i < length ys) v c.loop-number-test.true)) in
    let words = now.invariant.words in
    subst (λ (ys : List ℕ). get_or ys i 0 < length now.self.touches) (sym v) (omega (arith, there, words))

pub loop-number-preserved : goal.loop-number-preserved
loop-number-preserved c =
    let now = c.loop-number in
    let i : ℕ = now.number-index in
    let k = c.args.thread in
    let was = c.args.self.now.touches in
    let ts = now.self.touches in
    let xs : List ℕ = c.args.footprint.now.looked.items in
    let v = c.deref-number-items.ensures.value in
    let n : ℕ = get_or xs i 0 in
    let l : i < length xs = subst (λ (ys : List ℕ). i < length ys) v c.loop-number-test.true in
    let there = c.requires.looked n (has-item xs i l) in
    let words = now.invariant.words in
    let few : n < length ts = omega (arith, there, words) in
    let same : c.set.new.self.touches ≡ slice_set ts n (looked_at (touch_of ts n) k) =
    ap (λ (t : Table). t.touches) c.set.ensures ∙ ap (slice_set ts (get_or c.deref-number-items.result.now i 0)) (c.looked_at-touch.ensures ∙ ap (λ (t : Touch). looked_at t k) c.touch.ensures)
    ∙ ap (λ (ys : List ℕ). slice_set ts (get_or ys i 0) (looked_at (touch_of ts (get_or ys i 0)) k)) v in
    record {
      stratum = ap (λ (t : Table). t.stratum) c.set.ensures ∙ now.invariant.stratum;
      words = ap (λ (us : List Touch). length us) same ∙ length-set ts n (looked_at (touch_of ts n) k) ∙ words;
      noted = λ a. ap (λ (us : List Touch). touch_of us a) same ∙ look-noted (touch_of was a) ts k n a (has (take i xs) a) few (now.invariant.noted a)
          ∙ ap (λ (b : Bool). touched_by (touch_of was a) k b false) (sym (has-more xs i a l));
    }

pub set-requires-in-loop-number-2 : goal.set-requires-in-loop-number-2
set-requires-in-loop-number-2 c =
    let now = c.loop-number-2 in
    let i : ℕ = now.number-index in
    let xs : List ℕ = c.args.footprint.now.stored.items in
    let v = c.deref-number-items-2.ensures.value in
    let there = c.requires.stored (get_or xs i 0) (has-item xs i (subst (λ (ys : List ℕ). i < length ys) v c.loop-number-2-test.true)) in
    let words = now.invariant.words in
    subst (λ (ys : List ℕ). get_or ys i 0 < length now.self.touches) (sym v) (omega (arith, there, words))

pub loop-number-2-preserved : goal.loop-number-2-preserved
loop-number-2-preserved c =
    let now = c.loop-number-2 in
    let i : ℕ = now.number-index in
    let k = c.args.thread in
    let was = c.args.self.now.touches in
    let ts = now.self.touches in
    let xs : List ℕ = c.args.footprint.now.stored.items in
    let v = c.deref-number-items-2.ensures.value in
    let n : ℕ = get_or xs i 0 in
    let l : i < length xs = subst (λ (ys : List ℕ). i < length ys) v c.loop-number-2-test.true in
    let there = c.requires.stored n (has-item xs i l) in
    let words = now.invariant.words in
    let few : n < length ts = omega (arith, there, words) in
    let same : c.set-in-loop-number-2.new.self.touches ≡ slice_set ts n (StoredBy k) =
    ap (λ (t : Table). t.touches) c.set-in-loop-number-2.ensures ∙ ap (λ (ys : List ℕ). slice_set ts (get_or ys i 0) (StoredBy k)) v in
    record {
      stratum = ap (λ (t : Table). t.stratum) c.set-in-loop-number-2.ensures ∙ now.invariant.stratum;
      words = ap (λ (us : List Touch). length us) same ∙ length-set ts n (StoredBy k) ∙ words;
      noted = λ a. ap (λ (us : List Touch). touch_of us a) same ∙ store-noted (touch_of was a) ts k n a (has c.args.footprint.now.looked.items a) (has (take i xs) a) few (now.invariant.noted a)
          ∙ ap (λ (b : Bool). touched_by (touch_of was a) k (has c.args.footprint.now.looked.items a) b) (sym (has-more xs i a l));
    }
