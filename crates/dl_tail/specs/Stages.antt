-- The stages of a tail's log by their names.
use Rattle.std.specs.Prelude.{ℕ, Bool, true}
use Rattle.spec_log.specs.Fields.{Stage}
use Rattle.spec_log.specs.Reading as log
use Rattle.spec_tail.specs.declared.TailDraft.{TailDraft}
use Rattle.spec_tail.specs.Reading.{of_log, tested, is_second, has_threads, has_few_commits}
use Rattle.dl_logfmt.specs.declared.stage_name.StageName.{StageName}
use Rattle.dl_logfmt.specs.declared.stage_name.StageName.TheVariants.{Magic, Version, Mode, Threads, ChunkSize, Count}
use Rattle.dl_logfmt.specs.declared.stage_name.StageName.TheVariants.{Order, Sizes, Interrupts, Inputs, Dmas, End}
use Rattle.dl_logfmt.specs.Parsing.{stage_at}

abbrev pub tail_stage : StageName → Stage TailDraft
tail_stage Version = tested 3 is_second log.version
tail_stage Threads = tested 5 has_threads log.threads
tail_stage Count = tested 5 has_few_commits log.commits
tail_stage Magic = of_log (stage_at Magic)
tail_stage Mode = of_log (stage_at Mode)
tail_stage ChunkSize = of_log (stage_at ChunkSize)
tail_stage Order = of_log (stage_at Order)
tail_stage Sizes = of_log (stage_at Sizes)
tail_stage Interrupts = of_log (stage_at Interrupts)
tail_stage Inputs = of_log (stage_at Inputs)
tail_stage Dmas = of_log (stage_at Dmas)
tail_stage End = of_log (stage_at End)

-- what a tail asks of the draft after a stage, and the fault if it isn't so
abbrev pub passes : StageName → TailDraft → Bool
passes Version d = is_second d
passes Threads d = has_threads d
passes Count d = has_few_commits d
passes Magic d = true
passes Mode d = true
passes ChunkSize d = true
passes Order d = true
passes Sizes d = true
passes Interrupts d = true
passes Inputs d = true
passes Dmas d = true
passes End d = true

abbrev pub test_fault : StageName → ℕ
test_fault Version = 3
test_fault Threads = 5
test_fault Count = 5
test_fault Magic = 5
test_fault Mode = 5
test_fault ChunkSize = 5
test_fault Order = 5
test_fault Sizes = 5
test_fault Interrupts = 5
test_fault Inputs = 5
test_fault Dmas = 5
test_fault End = 5
