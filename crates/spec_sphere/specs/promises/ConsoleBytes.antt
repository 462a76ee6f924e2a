-- The bytes that a commit puts out on the console's channel.
use Rattle.std.specs.Prelude.{ℕ, nat_eq, List, [], if◌then◌else◌}
use Rattle.std.specs.List.{flat_map}
use Rattle.dl_entry.specs.declared.Commit.{Commit}
use Rattle.dl_entry.specs.declared.Output.{Output}
use Rattle.spec_kernel.specs.Numbers.{channel_console}

-- what it puts out, if that is on the console's channel
abbrev pub on_console : Output → List ℕ
on_console o = if nat_eq o.channel channel_console then o.bytes else []

-- what these commits put out on it, in their order
abbrev pub put_out : List Commit → List ℕ
put_out cs = flat_map (λ c. flat_map on_console c.outputs) cs
