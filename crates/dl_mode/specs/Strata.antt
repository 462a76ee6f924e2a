-- What a mode's log and what strata say of the next commit.
use Rattle.std.specs.Prelude.{ℕ, ◌+◌, ◌^◌, ◌<◌, Bool, true, false, ◌||◌, nat_eq, Option, Some, None}
use Rattle.std.specs.List.{sum}
use Rattle.dl_entry.specs.declared.actor.Actor.{Actor}
use Rattle.spec_strata.specs.Standing.{Standing, after_dma, after_thread, has_chunks_left, head_standing, is_last}

-- whose commit comes next: in strata that of their head
abbrev pub head_at : Option Standing → (by_order : Option Actor) → Option Actor
head_at None by_order = by_order
head_at (Some x) by_order = head_standing x

-- whether an actor is the head
abbrev pub is_head : Option Actor → Actor → Bool
is_head None a = false
is_head (Some (Actor.Thread j)) (Actor.Thread k) = nat_eq j k
is_head (Some (Actor.Thread j)) Actor.Dma = false
is_head (Some Actor.Dma) (Actor.Thread k) = false
is_head (Some Actor.Dma) Actor.Dma = true

-- whether an actor has chunks left in the present stratum; none has in a log
abbrev pub has_left : Option Standing → Actor → Bool
has_left None a = false
has_left (Some x) (Actor.Thread k) = has_chunks_left x.strata x.done k
has_left (Some x) Actor.Dma = false

-- whether an actor may commit: the head of a log or of strata; and in strata any that has chunks left in the present stratum
abbrev pub takes_at : Option Standing → (head : Option Actor) → Actor → Bool
takes_at strata head a = is_head head a || has_left strata a

-- how far strata have come after an actor's commit
abbrev pub after_commit : Actor → Standing → Standing
after_commit (Actor.Thread k) x = after_thread k x
after_commit Actor.Dma x = after_dma x

-- whether none of the commits that are done comes after the next one of an actor; in a log none does
abbrev pub comes_last : Option Standing → Actor → Bool
comes_last None a = true
comes_last (Some x) (Actor.Thread k) = is_last k x
comes_last (Some x) Actor.Dma = true

-- whether none of the present stratum's commits is done
abbrev pub begins : Standing → Bool
begins x = nat_eq (sum x.done) 0

-- strata can count one commit more
abbrev pub AreFewIf : Option Standing → Type 0
AreFewIf None = Unit {0}
AreFewIf (Some x) = x.before + sum x.done + 1 < 2 ^ 32
