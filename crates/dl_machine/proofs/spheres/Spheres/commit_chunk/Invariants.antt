use Rattle.dl_machine.proofs.Commits.AsClosed.{how_of}
use Rattle.dl_machine.proofs.spheres.Spheres.commit_chunk.Given as goal

abbrev pub ghost-commit_chunk : goal.ghost-commit_chunk
ghost-commit_chunk g a = how_of a.chunk.now.chunk.closed
