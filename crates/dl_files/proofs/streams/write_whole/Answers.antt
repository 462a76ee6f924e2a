use Rattle.std.proofs.Common.{◌≡◌, ℕ, ◌+◌, List, Option, length, take, drop, ap, sym, subst, ◌∙◌, arith}
use Rattle.std.proofs.Math.Seq.{take-add}
use Rattle.std.proofs.lemmas.List.{length-drop, take_rest}
use Rattle.dl_files.specs.Told.{Told, Grows}
use Rattle.dl_files.proofs.Telling.{Grows-trans}
use Rattle.dl_files.proofs.streams.write_whole.Goals as goal

-- the first bytes, and then n more
written-more : (name to : List ℕ) (old mid new : Option Told) (bytes : List ℕ) (done n : ℕ) → to ≡ name → Grows name (take done bytes) old mid → Grows to (take n (drop done bytes)) mid new → Grows name (take (done + n) bytes) old new
written-more name to old mid new bytes done n is first second =
    subst (λ l. Grows name l old new) (sym (take-add done n bytes)) (Grows-trans name _ _ old mid new first (subst (λ t. Grows t (take n (drop done bytes)) mid new) is second))

pub loop-done-preserved : goal.loop-done-preserved
loop-done-preserved g c =
    let done = c.loop-done.done in
    let bytes = c.args.bytes.now in
    let n = c.in_ok-done.field-0 in
    let rest = take_rest bytes done in (
      omega (arith, c.in_ok-done.ensures.within, c.loop-done.invariant.0, ap length rest, length-drop done bytes),
      c.add_some.ensures.named ∙ c.loop-done.invariant.1,
      written-more _ _ _ _ _ bytes done n c.loop-done.invariant.1 c.loop-done.invariant.2
          (subst (λ (piece : List ℕ). Grows (g.S.System.target c.loop-done.file) (take n piece) (g.S.System.told c.loop-done.system) (g.S.System.told c.add_some.new.system)) rest c.in_ok-done.ensures.wrote),
    )
