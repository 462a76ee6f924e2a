-- How far a sphere has got, and how much of a log is used.
use Rattle.std.specs.Prelude.{ℕ, suc, ◌+◌, List, [], ◌∷◌, ◌++◌, length, Option, Some, None}
use Rattle.std.specs.Option.{option_or}
use Rattle.dl_entry.specs.declared.Actor.{Actor}
use Rattle.dl_entry.specs.declared.Commit.{Commit}
use Rattle.dl_entry.specs.declared.Request.{Request}
use Rattle.spec_play.specs.declared.used.Used.{Used}
use Rattle.spec_play.specs.Effects.{Effect, dma_commit}

-- the whole commits that are done, the index of the first of them, the thread that committed last, and the outstanding
-- DMA request
pub record Progress : Type 0 where
  pub first : ℕ
  pub commits : List Commit
  pub last : Option ℕ
  pub request : Option Request

abbrev pub no_progress : Progress
no_progress = record { first = 0; commits = []; last = None; request = None }

-- the thread that an actor is, if it is one
abbrev pub thread_of : Actor → Option ℕ
thread_of (Actor.Thread k) = Some k
thread_of Actor.Dma = None

-- the thread of the last of these commits that is a thread's; DMAs are passed over
abbrev pub last_thread : List Commit → Option ℕ
last_thread [] = None
last_thread (c ∷ cs) = option_or (last_thread cs) (thread_of c.actor)

-- how many commits are done, counting those before the first: the index of the next
abbrev pub position : Progress → ℕ
position p = p.first + length p.commits

-- one more commit, of thread k
abbrev pub with_effect : (thread : ℕ) → Effect → Progress → Progress
with_effect k e p = record p { commits = p.commits ++ e.commit ∷ []; last = Some k; request = e.request }

-- one more DMA, which leaves the turn where it is
abbrev pub with_dma : Progress → Progress
with_dma p = record p { commits = p.commits ++ dma_commit ∷ []; request = None }

-- how many input, interrupt and DMA records of a log have been taken
abbrev pub nothing_used : Used
nothing_used = record { inputs = 0; interrupts = 0; dmas = 0 }

abbrev pub with_interrupt : Used → Used
with_interrupt u = record u { interrupts = suc u.interrupts }

abbrev pub with_input : Used → Used
with_input u = record u { inputs = suc u.inputs }

abbrev pub with_dma_used : Used → Used
with_dma_used u = record u { dmas = suc u.dmas }
