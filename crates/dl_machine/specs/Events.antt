-- Which events may want memory, and where.
use Rattle.std.specs.Prelude.{◌≡◌, ◌||◌, Bool, true, false}
use Rattle.spec_protocol.specs.declared.event.Event.{Event}
use Rattle.spec_protocol.specs.declared.reply.Reply.{Reply}
use Rattle.spec_protocol.specs.promises.Replying.{makes_point}

-- those that commit, or interrupt
abbrev pub wants_memory : Event → Bool
wants_memory (Event.Step core) = false
wants_memory (Event.Cut core) = false
wants_memory (Event.Ask core) = true
wants_memory (Event.Drain slot) = false
wants_memory (Event.Deliver core slot) = false
wants_memory (Event.Retire slot) = false
wants_memory (Event.Place core sphere thread) = false
wants_memory (Event.Raise sphere thread value) = true
wants_memory (Event.Dma sphere) = true

abbrev pub is_divergence : Reply → Bool
is_divergence (Reply.Diverged i why) = true
is_divergence _ = false

-- what has passed every check, and takes effect or leaves its log
abbrev pub passes_checks : Reply → Bool
passes_checks r = makes_point r || is_divergence r

-- where an event may want memory, which would answer so: an ask or an interrupt only where it passes every check
abbrev pub IsWanted : Event → Reply → Type 0
IsWanted (Event.Step core) r = ⊥
IsWanted (Event.Cut core) r = ⊥
IsWanted (Event.Ask core) r = passes_checks r ≡ true
IsWanted (Event.Drain slot) r = ⊥
IsWanted (Event.Deliver core slot) r = ⊥
IsWanted (Event.Retire slot) r = ⊥
IsWanted (Event.Place core sphere thread) r = ⊥
IsWanted (Event.Raise sphere thread value) r = passes_checks r ≡ true
IsWanted (Event.Dma sphere) r = Unit {0}
