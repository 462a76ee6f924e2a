use Rattle.std.proofs.Common.{◌/◌, ap, ◌∙◌}
use Rattle.spec_isa.specs.Denoted.{denoted}
use Rattle.spec_isa.specs.Instruction.{operation_found}
use Rattle.spec_isa.specs.Words.{read}
use Rattle.spec_kernel.specs.Needs.{need_of_load, next_operation}
use Rattle.dl_kernel.proofs.need.need_of_load.Goals as goal

pub returns-in-Some-clause-want : goal.returns-in-Some-clause-want
unfolding next_operation
returns-in-Some-clause-want c =
    let m = c.args.memory.now in
    let t = c.args.thread.now in
    c.device_word.ensures.want
    ∙ ap (λ i. need_of_load (operation_found i t)) (c.in-Some.ensures.value ∙ ap denoted (c.word.ensures.value ∙ ap (λ pc. read m (pc / 4)) c.pc.ensures.value))
