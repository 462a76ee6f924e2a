use Rattle.std.specs.Prelude.{◌≡◌, ◌≤◌}
use Rattle.dl_files.proofs.streams.write_some.Given as goal

-- nothing was taken yet
abbrev pub invariant-loop : goal.invariant-loop
invariant-loop g l =
    (g.O.Output.holds l.output ≡ g.O.Output.holds l.initial.output) × (g.O.Output.refusals l.initial.output ≤ g.O.Output.refusals l.output)
