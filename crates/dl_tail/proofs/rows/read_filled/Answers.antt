use Rattle.std.proofs.Common.{arith}
use Rattle.std.proofs.lemmas.Grind.{common_steps}
use Rattle.dl_tail.proofs.Words.{raw-length}
use Rattle.dl_tail.proofs.rows.read_filled.Goals as goal

pub copy_from_slice-requires : goal.copy_from_slice-requires
copy_from_slice-requires c =
    let count = raw-length 32 c.args.bytes.now c.args.at.now _ _ c.in_ok-row.ensures.value in
    first_of (omega (arith, count), grind (arith, common_steps, count))
