use Rattle.std.proofs.Common.{refl}
use Rattle.dl_record.proofs.Recordings.{IsRecording-none}
use Rattle.dl_record.proofs.recorder.Recorder.new.Goals as goal

pub invariant_of-result : goal.invariant_of-result
invariant_of-result g c =
    rw (c.in_ok-new.ensures, c.in_ok-new-2.ensures.entries, c.new-3.ensures.inputs, c.new-4.ensures.dmas)
    (IsRecording-none c.args.version g.M.Mode.mode c.args.s c.requires.version c.requires.s, refl, tt)
