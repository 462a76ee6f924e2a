use Rattle.std.proofs.Common.{◌≡◌, ◌∙◌, ℕ, ap, refl, sym}
use Rattle.dl_words.specs.Commands.{CommandValues, Run, Inspect, Walk, Query, Interval, Tail, Make, Drill, Asm, Migrate, Strata, command_view}
use Rattle.spec_program.specs.commands.Drill.{finish}
use Rattle.dl_commands.proofs.preparing.compute_command.Goals as goal

pub returns-in-Run-clause-halt : goal.returns-in-Run-clause-halt
returns-in-Run-clause-halt g c = rw c.in-Run.is c.run_plan.ensures.halt

pub returns-in-Inspect-clause-halt : goal.returns-in-Inspect-clause-halt
returns-in-Inspect-clause-halt g c = rw c.in-Inspect.is c.inspect.ensures.halt

pub returns-in-Walk-clause-halt : goal.returns-in-Walk-clause-halt
returns-in-Walk-clause-halt g c = rw c.in-Walk.is c.walk_log.ensures.halt

pub returns-in-Query-clause-halt : goal.returns-in-Query-clause-halt
returns-in-Query-clause-halt g c = rw c.in-Query.is c.answer_query.ensures.halt

pub returns-in-Interval-clause-halt : goal.returns-in-Interval-clause-halt
returns-in-Interval-clause-halt g c = rw c.in-Interval.is c.tell_interval.ensures.halt

pub returns-in-Tail-clause-halt : goal.returns-in-Tail-clause-halt
returns-in-Tail-clause-halt g c = rw c.in-Tail.is c.play_tail.ensures.halt

pub returns-in-Asm-clause-halt : goal.returns-in-Asm-clause-halt
returns-in-Asm-clause-halt g c = rw c.in-Asm.is c.assemble_source.ensures.halt

pub returns-in-Migrate-clause-halt : goal.returns-in-Migrate-clause-halt
returns-in-Migrate-clause-halt g c = rw c.in-Migrate.is c.migrate.ensures.halt

pub returns-in-Strata-clause-halt : goal.returns-in-Strata-clause-halt
returns-in-Strata-clause-halt g c = rw c.in-Strata.is c.cut_log.ensures.halt

-- the number of a drill
abbrev drilled : CommandValues → ℕ
drilled (Run plan) = 0
drilled (Inspect log) = 0
drilled (Walk playback) = 0
drilled (Query asked) = 0
drilled (Interval asked) = 0
drilled (Tail name) = 0
drilled (Make number name) = 0
drilled (Drill number) = number
drilled (Asm source name) = 0
drilled (Migrate log name) = 0
drilled (Strata playback name) = 0

pub returns-in_ok-drill_number-in-Drill-clause-drill : goal.returns-in_ok-drill_number-in-Drill-clause-drill
returns-in_ok-drill_number-in-Drill-clause-drill g c =
    λ number asks.
    let same : Drill c.in-Drill.number ≡ Drill number = ap command_view (sym c.in-Drill.is) ∙ asks in
    (c.in_ok-drill_number-in-Drill.ensures ∙ ap (λ x. finish (drilled x)) same, refl)

-- ---- what it may come to

pub returns-in-Run-clause-may : goal.returns-in-Run-clause-may
returns-in-Run-clause-may g c = rw c.in-Run.is c.run_plan.ensures.may

pub returns-in-Inspect-clause-may : goal.returns-in-Inspect-clause-may
returns-in-Inspect-clause-may g c = rw c.in-Inspect.is c.inspect.ensures.may

pub returns-in-Walk-clause-may : goal.returns-in-Walk-clause-may
returns-in-Walk-clause-may g c = rw c.in-Walk.is c.walk_log.ensures.may

pub returns-in-Query-clause-may : goal.returns-in-Query-clause-may
returns-in-Query-clause-may g c = rw c.in-Query.is c.answer_query.ensures.may

pub returns-in-Interval-clause-may : goal.returns-in-Interval-clause-may
returns-in-Interval-clause-may g c = rw c.in-Interval.is c.tell_interval.ensures.may

pub returns-in-Tail-clause-may : goal.returns-in-Tail-clause-may
returns-in-Tail-clause-may g c = rw c.in-Tail.is c.play_tail.ensures.may

pub returns-in-Asm-clause-may : goal.returns-in-Asm-clause-may
returns-in-Asm-clause-may g c = rw c.in-Asm.is c.assemble_source.ensures.may

pub returns-in-Migrate-clause-may : goal.returns-in-Migrate-clause-may
returns-in-Migrate-clause-may g c = rw c.in-Migrate.is c.migrate.ensures.may

pub returns-in-Strata-clause-may : goal.returns-in-Strata-clause-may
returns-in-Strata-clause-may g c = rw c.in-Strata.is c.cut_log.ensures.may

pub returns-in_ok-make_image-in-Make-clause-may : goal.returns-in_ok-make_image-in-Make-clause-may
returns-in_ok-make_image-in-Make-clause-may g c = rw c.in-Make.is c.in_ok-make_image-in-Make.ensures

pub returns-in_ok-drill_number-in-Drill-clause-may : goal.returns-in_ok-drill_number-in-Drill-clause-may
returns-in_ok-drill_number-in-Drill-clause-may g c = rw c.in-Drill.is c.in_ok-drill_number-in-Drill.ensures
