use Rattle.std.proofs.Common.{rules, arith}
use Rattle.std.proofs.lemmas.Grind.{common_steps}
use Rattle.std.proofs.lemmas.List.{flat_map_more}
use Rattle.spec_tail.specs.Bytes.{thread_bytes}
use Rattle.dl_tail.proofs.writing.put_threads.Goals as goal

pub loop-thread-preserved : goal.loop-thread-preserved
loop-thread-preserved c =
    first_of (
      search (rules, flat_map_more thread_bytes),
      grind (arith, common_steps, flat_map_more thread_bytes),
    )
