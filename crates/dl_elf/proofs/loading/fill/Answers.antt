use Rattle.dl_elf.proofs.Filling.{filled}
use Rattle.dl_elf.proofs.loading.fill.Goals as goal

pub returns : goal.returns
returns c = λ address inside.
    filled c.args.memory.now c.args.file.now c.copy_from_slice.new.self c.args.segment address c.requires.file c.requires.memory c.copy_from_slice.ensures.after
