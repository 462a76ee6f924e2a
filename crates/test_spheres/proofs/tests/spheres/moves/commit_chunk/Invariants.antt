-- How the chunk was closed.
use Rattle.std.proofs.Common.{Option, Some, None}
use Rattle.spec_engine.specs.declared.answers.How.{How}
use Rattle.test_spheres.proofs.tests.spheres.moves.commit_chunk.Given as goal

-- how a chunk was closed: by Limit, if nothing else closed it
abbrev pub how_of : Option How → How
how_of None = How.Limit
how_of (Some how) = how

abbrev pub ghost-commit_chunk : goal.ghost-commit_chunk
ghost-commit_chunk g a = how_of a.chunk.now.chunk.closed
