-- What judging a commit comes to, as the code keeps it.
use Rattle.std.specs.Prelude.{ℕ, Result, Ok, Err, option_copied}
use Rattle.dl_entry.specs.declared.Why.{Why}
use Rattle.dl_wbuf.specs.Buffers.{Words}
use Rattle.spec_kernel.specs.Copies.{dma_words}
use Rattle.spec_play.specs.Effects.{Effect, serial_effect}
use Rattle.spec_play.specs.Verdicts.{LogVerdict, Goes, Fails, TakenRecord}
use Rattle.spec_play.specs.Transfers.{DmaVerdict, DmaGoes, DmaFails}
use Rattle.dl_kernel.specs.StepResults.{result_in}
use Rattle.dl_replay.specs.declared.judging.Finish.{Finish}
use Rattle.dl_replay.specs.declared.judging.Done.{Done}
use Rattle.dl_replay.specs.declared.judging.Taken.{Taken}
use Rattle.dl_replay.specs.declared.judging.Transfer.{Transfer}

-- a commit that would leave this effect, except for the thread at its end
abbrev pub verdict_of : Result Finish Why → Effect → LogVerdict
verdict_of (Ok f) e = Goes (record e { thread = f.thread }) f.used
verdict_of (Err why) e = Fails why

-- the record that a serial step takes
abbrev pub given_by : Taken → TakenRecord
given_by g = record { input = option_copied g.input; used = g.used }

-- a serial step of thread k
abbrev pub step_verdict : (thread : ℕ) → Result Done Why → LogVerdict
step_verdict k (Ok d) = Goes (record (serial_effect k (result_in d.left)) { thread = d.finish.thread }) d.finish.used
step_verdict k (Err why) = Fails why

abbrev pub transfer_verdict : Result Words Why → DmaVerdict
transfer_verdict (Ok words) = DmaGoes words.words
transfer_verdict (Err why) = DmaFails why

abbrev pub transfer_seen : Result Transfer Why → DmaVerdict
transfer_seen (Ok t) = DmaGoes (dma_words t.request t.bytes.now)
transfer_seen (Err why) = DmaFails why
