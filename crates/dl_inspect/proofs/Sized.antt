-- In mode order-size the text of an order has each commit with its size.
use Rattle.std.proofs.Common.{◌≡◌, ℕ, ◌+◌, ◌<◌, ◌≤◌, ◌∙◌, List, ◌++◌, length, take, get_or, sym, ap, arith}
use Rattle.std.proofs.lemmas.List.{take_all}
use Rattle.std.proofs.lemmas.Slice.Zip.{get_or-zip, length-zip}
use Rattle.std.specs.List.{zip}
use Rattle.dl_entry.specs.declared.actor.Actor.{Actor}
use Rattle.spec_log.specs.Log.{IsLog, IsOrder, IsSizes}
use Rattle.spec_log.specs.declared.log.LogParts.{LogParts}
use Rattle.spec_log.specs.declared.mode_name.ModeName.TheVariants.{OrderSize}
use Rattle.spec_log.specs.declared.sizes.Sizes.{Sizes}
use Rattle.spec_log.specs.declared.sizes.Sizes.TheVariants.{Each, Short}
use Rattle.dl_account.specs.Lines.{numbered}
use Rattle.dl_account.proofs.Numbered.{numbered_more}
use Rattle.dl_inspect.specs.Inspection.{each_of, sized_line}

as_many : (t s count : ℕ) (order : List Actor) (sizes : Sizes) → IsOrder OrderSize t count order → IsSizes OrderSize t s count sizes → length (each_of sizes) ≡ length order
as_many t s count order (Each sizes) ordered sized = sized.0 ∙ sym ordered.0
as_many t s count order (Short sizes) ordered sized = absurd sized

-- in order-size a log has a size for each commit of its order
pub each_is_sized : (log : LogParts) → IsLog log → log.mode ≡ OrderSize → length (each_of log.sizes) ≡ length log.order
each_is_sized log good mode =
    as_many log.threads log.s log.count log.order log.sizes (rw mode at good.order) (rw mode at good.sizes)

-- the text of the first i commits, and that of the next, are the text of i + 1
pub sized_more : (old : List ℕ) (order : List Actor) (sizes : List ℕ) (i : ℕ) (actor : Actor) (size : ℕ) → length sizes ≡ length order → i < length order → old ++ numbered sized_line 0 (take i (zip order sizes)) ++ sized_line i (get_or order i actor, get_or sizes i size) ≡ old ++ numbered sized_line 0 (take (i + 1) (zip order sizes))
sized_more old order sizes i actor size fit here =
    let inside : i < length sizes = omega arith in
    ap (λ (commit : Actor × ℕ). old ++ numbered sized_line 0 (take i (zip order sizes)) ++ sized_line i commit)
    (sym (get_or-zip order sizes i (actor, size) here inside))
    ∙ numbered_more sized_line old (zip order sizes) i (actor, size) (omega (arith, length-zip order sizes))

-- when the order is at its end, so are the commits
pub sized_all : (order : List Actor) (sizes : List ℕ) (i : ℕ) → length order ≤ i → take i (zip order sizes) ≡ zip order sizes
sized_all order sizes i end = take_all i (zip order sizes) (omega (arith, length-zip order sizes))
