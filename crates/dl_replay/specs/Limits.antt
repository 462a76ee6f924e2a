-- How many instructions a chunk of a replayed thread may run: one of its present commit, or one of the commit after that.
use Rattle.std.specs.Prelude.{ℕ, ◌+◌, Bool, true, false}
use Rattle.spec_isa.specs.declared.thread.Parts.{Parts}
use Rattle.spec_play.specs.Effects.{counted}
use Rattle.spec_sphere.specs.sphere.Spheres.{Role, limit_in, limit_after_in, limit_of, limit_after}

-- of a thread that has done so many commits
abbrev pub chunk_limit_in : (after : Bool) → Role → (s thread commits : ℕ) → ℕ
chunk_limit_in false role s k commits = limit_in role s k commits
chunk_limit_in true role s k commits = limit_after_in role s k (commits + 1)

-- of a thread that is t
abbrev pub chunk_limit : (after : Bool) → (s : ℕ) → Role → (thread : ℕ) → Parts → ℕ
chunk_limit false s role k t = limit_of s role k t
chunk_limit true s role k t = limit_after s role k (counted t)
