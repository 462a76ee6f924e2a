use Rattle.std.proofs.Common.{◌<◌, ◌≤◌, length, arith, ◌∙◌}
use Rattle.std.proofs.lemmas.List.{length-set}
use Rattle.dl_kernel.specs.Threads.{lives}
use Rattle.dl_kernel.proofs.Rows.{row-next, lives-next}
use Rattle.dl_kernel.proofs.threads.live_of.Goals as goal

pub loop-number-preserved : goal.loop-number-preserved
loop-number-preserved c =
    let ts = c.args.threads.now in
    let i = c.loop-number.number in
    let live = c.loop-number.live in
    let h : i < length ts = omega arith in
    let few : length ts ≤ 63 = omega arith in
    let l : i < length live = omega (arith, c.loop-number.invariant.places) in
    rw c.from.ensures (record {
      places = length-set live i c.lives.result ∙ c.loop-number.invariant.places;
      row = rw (c.loop-number.invariant.row, c.lives.ensures) (row-next lives 63 ts i h few);
      first = lives-next live ts i c.lives.result l h c.loop-number.invariant.first c.lives.ensures;
    })
