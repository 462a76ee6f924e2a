-- Whose turn it is in strata: that of their head.
use Rattle.std.proofs.Common.{◌≡◌, ℕ, ◌<◌, Bool, true, false, cond, List, Option, Some, ap, ◌∙◌}
use Rattle.std.specs.Prelude.{nat_lt}
use Rattle.std.proofs.lemmas.Bool.{lt-ltb}
use Rattle.dl_entry.specs.declared.Actor.{Actor}
use Rattle.spec_isa.specs.declared.thread.Parts.{Parts}
use Rattle.spec_log.specs.declared.LogParts.{LogParts}
use Rattle.spec_play.specs.Progress.{Progress, position}
use Rattle.spec_play.specs.declared.used.Used.{Used}
use Rattle.spec_play.specs.Turns.{TurnOrEnd, Turn, TurnOfDma, turn_of_thread, turn_of, at_end, has_left_over}
use Rattle.spec_play.proofs.Going.{Lives}
use Rattle.spec_strata.specs.Standing.{Standing, head_standing}
use Rattle.spec_strata.proofs.Plays.Turning.{turn-there}
use Rattle.spec_strata.proofs.Images.Following.{named-thread, named-dma}
use Rattle.spec_sphere.specs.sphere.Commits.{now_by}

-- the turn of the head if commits are left, or else how the replay ends
abbrev pub now_if : LogParts → Standing → Progress → Used → List Parts → Bool → TurnOrEnd
now_if log x p u ts b = cond b (turn_of (position p) ts (head_standing x)) (at_end (position p) (has_left_over log u ts))

-- a live thread that is the head has the turn
pub turn-by : (log : LogParts) (x : Standing) (p : Progress) (u : Used) (ts : List Parts) (k : ℕ) → position p < log.count → head_standing x ≡ Some (Actor.Thread k) → Lives ts k → now_by (Some x) log p u ts ≡ Turn k
turn-by log x p u ts k below head l =
    ap (now_if log x p u ts) (lt-ltb (position p) log.count below)
    ∙ ap (turn_of (position p) ts) head ∙ ap (turn_of_thread (position p) k) l.is ∙ turn-there (position p) k l.thread l.live

-- a DMA that is the head has the turn while commits are left
pub dma-by : (log : LogParts) (x : Standing) (p : Progress) (u : Used) (ts : List Parts) → position p < log.count → head_standing x ≡ Some Actor.Dma → now_by (Some x) log p u ts ≡ TurnOfDma
dma-by log x p u ts below head =
    ap (now_if log x p u ts) (lt-ltb (position p) log.count below) ∙ ap (turn_of (position p) ts) head

end-turn : {A : Type 0} (i k : ℕ) (left : Bool) → at_end i left ≡ Turn k → A
end-turn i k true e = cc
end-turn i k false e = cc

end-dma : {A : Type 0} (i : ℕ) (left : Bool) → at_end i left ≡ TurnOfDma → A
end-dma i true e = cc
end-dma i false e = cc

named-if : (i k : ℕ) (ts : List Parts) (o : Option Actor) (below left : Bool) → cond below (turn_of i ts o) (at_end i left) ≡ Turn k → o ≡ Some (Actor.Thread k)
named-if i k ts o true left e = named-thread i k ts o e
named-if i k ts o false left e = end-turn i k left e

dma-if : (i : ℕ) (ts : List Parts) (o : Option Actor) (below left : Bool) → cond below (turn_of i ts o) (at_end i left) ≡ TurnOfDma → o ≡ Some Actor.Dma
dma-if i ts o true left e = named-dma i ts o e
dma-if i ts o false left e = end-dma i left e

-- who has the turn is the head
pub head-named : (log : LogParts) (x : Standing) (p : Progress) (u : Used) (ts : List Parts) (k : ℕ) → now_by (Some x) log p u ts ≡ Turn k → head_standing x ≡ Some (Actor.Thread k)
head-named log x p u ts k e = named-if (position p) k ts (head_standing x) (nat_lt (position p) log.count) (has_left_over log u ts) e

-- if it is the turn of a DMA, that is the head
pub head-dma : (log : LogParts) (x : Standing) (p : Progress) (u : Used) (ts : List Parts) → now_by (Some x) log p u ts ≡ TurnOfDma → head_standing x ≡ Some Actor.Dma
head-dma log x p u ts e = dma-if (position p) ts (head_standing x) (nat_lt (position p) log.count) (has_left_over log u ts) e
