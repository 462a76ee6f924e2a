use Rattle.std.proofs.Common.{◌≡◌, ℕ, ◌<◌, false, List, length, get_or, sym, ap, ◌∙◌, subst, arith}
use Rattle.spec_strata.specs.declared.touch.Touch.{Touch}
use Rattle.spec_strata.specs.Touches.{bars_look, bars_store}
use Rattle.dl_strata.specs.Tables.{IsFreeIn, touch_of}
use Rattle.dl_strata.proofs.Tables.{not-free, all-free, barred, each-has}
use Rattle.dl_strata.proofs.touches.Touches.is_free.Goals as goal

pub returns-then-bars_look : goal.returns-then-bars_look
returns-then-bars_look c =
    let ts = c.args.self.now.touches in
    let k = c.args.thread in
    let i : ℕ = c.loop-number.number-index in
    let v = c.deref-number-items.ensures.value in
    not-free (IsFreeIn ts k c.args.footprint.now)
    (λ f. barred (λ a. bars_look (touch_of ts a) k) c.args.footprint.now.looked.items i
    (subst (λ (xs : List ℕ). i < length xs) v c.loop-number-test.true)
    (ap (λ (xs : List ℕ). bars_look (touch_of ts (get_or xs i 0)) k) (sym v) ∙ ap (λ (t : Touch). bars_look t k) (sym c.touch.ensures) ∙ sym c.bars_look.ensures ∙ c.if-bars_look.true)
    f.looked)

pub returns-then-bars_store : goal.returns-then-bars_store
returns-then-bars_store c =
    let ts = c.args.self.now.touches in
    let k = c.args.thread in
    let i : ℕ = c.loop-number-2.number-index in
    let v = c.deref-number-items-2.ensures.value in
    not-free (IsFreeIn ts k c.args.footprint.now)
    (λ f. barred (λ a. bars_store (touch_of ts a) k) c.args.footprint.now.stored.items i
    (subst (λ (xs : List ℕ). i < length xs) v c.loop-number-2-test.true)
    (ap (λ (xs : List ℕ). bars_store (touch_of ts (get_or xs i 0)) k) (sym v) ∙ ap (λ (t : Touch). bars_store t k) (sym c.touch-in-loop-number-2.ensures) ∙ sym c.bars_store.ensures ∙ c.if-bars_store.true)
    f.stored)

pub returns : goal.returns
returns c =
    let ts = c.args.self.now.touches in
    let k = c.args.thread in
    let same = ap (λ (xs : List ℕ). length xs) c.deref-number-items-2.ensures.value in
    let end = c.loop-number-2-test.false in
    all-free (IsFreeIn ts k c.args.footprint.now)
    (record {
      looked = each-has (λ a. bars_look (touch_of ts a) k ≡ false) c.args.footprint.now.looked.items c.loop-number-2.invariant.0;
      stored = each-has (λ a. bars_store (touch_of ts a) k ≡ false) c.args.footprint.now.stored.items (λ i l. c.loop-number-2.invariant.1 i (omega (arith, l, same, end)));
    })
