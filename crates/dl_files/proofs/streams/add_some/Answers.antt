use Rattle.std.proofs.Common.{refl, Err}
use Rattle.dl_files.proofs.Telling.{wrote_some}
use Rattle.dl_files.proofs.streams.add_some.Goals as goal
use Rattle.dl_files.proofs.streams.add_some.Goals.{in_default-via-in-Err+else-eq, in_default-via-in-Ok-1}

pub returns-in_default-clause-wrote : goal.returns-in_default-clause-wrote
returns-in_default-clause-wrote g c =
    elim c.in_default-1.branch [
      | in_default-via-in-Err+else-eq w ↦ wrote_some _ _ c.args.bytes.now c.written.result _ (Err w.in-Err.error) _ _ _ c.loop.invariant.0 c.loop.invariant.1 c.written.ensures.ok w.answer-is tt
      | in_default-via-in-Ok-1 w ↦ wrote_some _ _ c.args.bytes.now c.written.result _ c.write.result _ _ _ c.loop.invariant.0 c.loop.invariant.1 c.written.ensures.ok w.answer-is c.write.ensures.wrote
    ]

pub returns-clause-wrote : goal.returns-clause-wrote
returns-clause-wrote g c =
    wrote_some _ _ c.args.bytes.now c.written-2.result _ c.write-2.result _ _ _ c.loop.invariant.0 c.loop.invariant.1 c.written-2.ensures.ok refl c.write-2.ensures.wrote
