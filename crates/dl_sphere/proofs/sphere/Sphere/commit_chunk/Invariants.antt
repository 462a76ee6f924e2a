use Rattle.dl_sphere.proofs.sphere.Sphere.commit_chunk.Given as goal

-- the chunk was closed as the caller says
abbrev pub ghost-commit_part : goal.ghost-commit_part
ghost-commit_part g a = g.how
