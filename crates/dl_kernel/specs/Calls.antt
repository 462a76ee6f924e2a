-- What a call leaves, as the code keeps it.
use Rattle.std.specs.Prelude.{List, [], ◌∷◌, Option, Some, None}
use Rattle.spec_isa.specs.declared.thread.Parts.{Parts}
use Rattle.spec_kernel.specs.Calls as kernel
use Rattle.dl_kernel.specs.declared.calls.Called.{Called}

-- at most one thread is spawned
abbrev pub spawned_list : Option Parts → List Parts
spawned_list None = []
spawned_list (Some t) = t ∷ []

abbrev pub called_in : Called → kernel.Called
called_in c = record { thread = c.thread; spawned = spawned_list c.spawned; request = c.request }
