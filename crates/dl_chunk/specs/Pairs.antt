-- Two chunks of one thread: an older, and at most one younger, which runs before the older has committed.
use Rattle.std.specs.Prelude.{◌≡◌, ℕ, Bool, true, false, ◌&&◌, ◌||◌, nat_lt, List, Option, Some, None, if◌then◌else◌, option_map}
use Rattle.spec_isa.specs.Words.{lays}
use Rattle.spec_play.specs.Effects.{counted}
use Rattle.spec_engine.specs.declared.answers.How.{How}
use Rattle.spec_engine.specs.declared.answers.Stepped.{Stepped}
use Rattle.spec_engine.specs.declared.answers.CutReply.{CutReply}
use Rattle.spec_engine.specs.Flights.{Flight, is_none}
use Rattle.spec_engine.specs.Chunks.{Chunk, Engine, Stepping, Cutting, cut, fresh, is_open, may_follow, new_engine, squash, step}
use Rattle.dl_chunk.specs.declared.pair.Which.{Which}

-- for how many instructions and words each chunk has room, for how many chunks there is room, 1 or 2, and the chunks
pub record Pair : Type 0 where
  pub most : ℕ
  pub capacity : ℕ
  pub depth : ℕ
  pub older : Chunk
  pub younger : Option Chunk

-- what one of the chunks is run on
abbrev pub engine_in : Pair → Chunk → Engine
engine_in p ch = record { most = p.most; capacity = p.capacity; chunk = ch }

-- a new pair, whose older chunk has run nothing
abbrev pub new_pair : (most capacity bits depth : ℕ) → Pair
new_pair most capacity bits depth =
    record { most = most; capacity = capacity; depth = depth; older = (new_engine most capacity bits).chunk; younger = None }

-- with this chunk and no younger
abbrev pub alone : Chunk → Pair → Pair
alone ch p = record p { older = ch; younger = None }

abbrev pub with_older : Chunk → Pair → Pair
with_older ch p = record p { older = ch }

abbrev pub with_younger : Chunk → Pair → Pair
with_younger ch p = record p { younger = Some ch }

-- ---- a younger chunk begins

-- a step begins a younger chunk: there is room for one, and none, and one may follow the older, unless that is a piece of a
-- replayed commit, which the pair can't tell
abbrev pub begins_younger : Pair → Bool
begins_younger p = nat_lt 1 p.depth && is_none p.younger && may_follow false p.older.closed

-- the chunk that follows an older one: it begins from the state that the older one's commit will leave
abbrev pub following : (limit : ℕ) → Chunk → Chunk
following limit ch = fresh ch.reads.bits ch.sphere (counted ch.done.thread) limit ch.halves

-- the younger chunk, or the one that begins
abbrev pub younger_or : (limit : ℕ) → Chunk → Option Chunk → Chunk
younger_or limit ch None = following limit ch
younger_or limit ch (Some y) = y

-- ---- one step

-- there is an open chunk that a step runs, or one begins
abbrev pub runs_younger : Pair → Option Chunk → Bool
runs_younger p None = begins_younger p
runs_younger p (Some y) = is_open y

abbrev pub can_step : Pair → Bool
can_step p = is_open p.older || runs_younger p p.younger

-- what a step answers, and the pair after it
pub record PairStepping : Type 0 where
  pub reply : Stepped
  pub pair : Pair

abbrev pub on_older : Pair → Stepping → PairStepping
on_older p s = record { reply = s.reply; pair = with_older s.chunk p }

abbrev pub on_younger : Pair → Stepping → PairStepping
on_younger p s = record { reply = s.reply; pair = with_younger s.chunk p }

-- a step of core c: of the older chunk while that is open; else of the younger, which runs on the memory with the older's stores
-- laid over it
abbrev pub pair_step : List ℕ → List (Option Flight) → (core limit : ℕ) → Pair → PairStepping
pair_step m slots c limit p =
    if is_open p.older
    then on_older p (step p.capacity m slots c p.older)
    else on_younger p (step p.capacity (lays m p.older.done.words) slots c (younger_or limit p.older p.younger))

-- ---- cutting off, squashing and promoting

-- what cutting off answers, and the pair after it
pub record PairCutting : Type 0 where
  pub reply : CutReply
  pub pair : Pair

abbrev pub cut_older : Pair → Cutting → PairCutting
cut_older p d = record { reply = d.reply; pair = with_older d.chunk p }

abbrev pub cut_younger : Pair → Cutting → PairCutting
cut_younger p d = record { reply = d.reply; pair = with_younger d.chunk p }

-- the younger chunk is cut off if there is one, else the older
abbrev pub pair_cut_of : Pair → Option Chunk → PairCutting
pair_cut_of p None = cut_older p (cut p.older)
pair_cut_of p (Some y) = cut_younger p (cut y)

abbrev pub pair_cut : Pair → PairCutting
pair_cut p = pair_cut_of p p.younger

-- the older chunk begins again, and the younger is abandoned; or the younger alone begins again
abbrev pub pair_squash : Which → Pair → Pair
pair_squash Which.Older p = alone (squash p.older) p
pair_squash Which.Younger p = record p { younger = option_map squash p.younger }

-- the younger chunk becomes the older, if there is one
abbrev pub promoted_to : Pair → Option Chunk → Pair
promoted_to p None = p
promoted_to p (Some y) = alone y p

abbrev pub promoted : Pair → Pair
promoted p = promoted_to p p.younger

-- ---- the pair in code

-- the younger chunk, where a second one is there and follows
abbrev pub younger_of : Option Engine → (followed : Bool) → Option Chunk
younger_of None followed = None
younger_of (Some e) followed = if followed then Some e.chunk else None

abbrev pub depth_of : Option Engine → ℕ
depth_of None = 1
depth_of (Some e) = 2

abbrev pub pair_of : Engine → (second : Option Engine) → (followed : Bool) → Pair
pair_of e second followed =
    record { most = e.most; capacity = e.capacity; depth = depth_of second; older = e.chunk; younger = younger_of second followed }

-- a second chunk has the same room, and signatures of the same size
abbrev pub IsAlike : Engine → Option Engine → Type 0
IsAlike e None = Unit {0}
IsAlike e (Some f) = (f.most ≡ e.most) × (f.capacity ≡ e.capacity) × (f.chunk.reads.bits ≡ e.chunk.reads.bits)
