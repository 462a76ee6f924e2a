-- A log of which a part was read: what is still to be read of it, how it grows, and what its bytes say.
use Rattle.std.specs.Prelude.{◌≡◌, ℕ, ◌+◌, ◌-◌, ◌*◌, ◌<◌, ◌≤◌, List, [], ◌∷◌, ◌++◌, length, take, drop, Option, Some, None, Result, Ok, Err}
use Rattle.spec_log.specs.declared.fault.Fault.{Fault}
use Rattle.spec_log.specs.Fields.{Reader, Stage, fails, gives, once}
use Rattle.spec_log.specs.Reading.{stages, magic, version, mode, threads, chunk_size, commits, order, sizes, interrupts, inputs, dmas, blank, ended, log_of}
use Rattle.spec_log.specs.declared.draft.Draft.{Draft}
use Rattle.spec_log.specs.declared.log.LogParts.{LogParts}
use Rattle.dl_logfmt.specs.declared.error.LogError.{LogError}
use Rattle.dl_logfmt.specs.declared.error.LogError.TheVariants.{Malformed, OutOfMemory}
use Rattle.dl_logfmt.specs.declared.stage_name.StageName.{StageName}
use Rattle.dl_logfmt.specs.declared.stage_name.StageName.TheVariants.{Magic, Version, Mode, Threads, ChunkSize, Count}
use Rattle.dl_logfmt.specs.declared.stage_name.StageName.TheVariants.{Order, Sizes, Interrupts, Inputs, Dmas, End}
use Rattle.dl_logfmt.specs.declared.parser.Parser.{Parser}
use Rattle.dl_logfmt.specs.declared.mark.Mark.{Mark}
use Rattle.dl_logfmt.specs.Streams.{Leads, Stops, rest_in}

-- the stage of a name
abbrev pub stage_at : StageName → Stage Draft
stage_at Magic = magic
stage_at Version = version
stage_at Mode = mode
stage_at Threads = threads
stage_at ChunkSize = chunk_size
stage_at Count = commits
stage_at Order = order
stage_at Sizes = sizes
stage_at Interrupts = interrupts
stage_at Inputs = inputs
stage_at Dmas = dmas
stage_at End = once gives

-- the stage after it
abbrev pub next : StageName → StageName
next Magic = Version
next Version = Mode
next Mode = Threads
next Threads = ChunkSize
next ChunkSize = Count
next Count = Order
next Order = Sizes
next Sizes = Interrupts
next Interrupts = Inputs
next Inputs = Dmas
next Dmas = End
next End = End

-- how many stages of a log come before
abbrev pub rank : StageName → ℕ
rank Magic = 0
rank Version = 1
rank Mode = 2
rank Threads = 3
rank ChunkSize = 4
rank Count = 5
rank Order = 6
rank Sizes = 7
rank Interrupts = 8
rank Inputs = 9
rank Dmas = 10
rank End = 11

-- the stages from this one on
abbrev pub ahead : StageName → List (Stage Draft)
ahead stage = drop (rank stage) stages

-- what is still to be read
abbrev pub remaining : Parser → Reader Draft
remaining p = rest_in (ahead p.stage) p.left p.draft

-- nothing was read
abbrev pub unread : Parser
unread = record { stage = Magic; left = None; draft = blank }

-- the most bytes that one time of a stage reads
abbrev pub widest : ℕ
widest = 4103

-- the most times that are left, where a stage is read less than 2^32 times, and knowing how often counts as one
abbrev pub most_in : (rank : ℕ) → Option ℕ → ℕ
most_in rank None = (11 - rank) * 4294967297
most_in rank (Some left) = (10 - rank) * 4294967297 + left + 1

abbrev pub most : Parser → ℕ
most p = most_in (rank p.stage) p.left

-- a list is another with more after it
abbrev pub Extends : {X : Type 0} → List X → List X → Type 0
Extends {X} xs ys = (more : List X) × (ys ≡ xs ++ more)

-- a draft holds what another holds, and more
pub record Grew (d e : Draft) : Type 0 where
  pub order : Extends d.order e.order
  pub each : Extends d.each e.each
  pub short : Extends d.short e.short
  pub interrupts : Extends d.interrupts e.interrupts
  pub inputs : Extends d.inputs e.inputs
  pub dmas : Extends d.dmas e.dmas

-- where a parser stands
abbrev pub mark_of : Parser → Mark
mark_of p =
    record {
      stage = p.stage;
      left = p.left;
      shape = p.draft.shape;
      mode = p.draft.mode;
      count = p.draft.count;
      order = length p.draft.order;
      each = length p.draft.each;
      short = length p.draft.short;
      interrupts = length p.draft.interrupts;
      inputs = length p.draft.inputs;
      dmas = length p.draft.dmas;
    }

-- the parser without what was read after a mark
abbrev pub cut : Mark → Parser → Parser
cut mark p =
    record {
      stage = mark.stage;
      left = mark.left;
      draft = record {
        shape = mark.shape;
        mode = mark.mode;
        count = mark.count;
        order = take mark.order p.draft.order;
        each = take mark.each p.draft.each;
        short = take mark.short p.draft.short;
        interrupts = take mark.interrupts p.draft.interrupts;
        inputs = take mark.inputs p.draft.inputs;
        dmas = take mark.dmas p.draft.dmas;
      };
    }

-- a call read on in the bytes, from one parser to another
pub record Came (bytes : List ℕ) (p : Parser) (at : ℕ) (q : Parser) (after : ℕ) : Type 0 where
  pub leads : Leads bytes (remaining p) at (remaining q) after
  pub within : after ≤ length bytes
  pub cost : after + widest * most q ≤ at + widest * most p

-- what comes next was read, or is a fault; only for memory that ran out no cause is asked
abbrev pub Steps : List ℕ → Parser → ℕ → Result (Unit {0}) LogError → Parser → ℕ → Type 0
Steps bytes p at (Ok x) q after = Came bytes p at q after × (most q < most p)
Steps bytes p at (Err (Malformed fault)) q after = (q ≡ p) × Stops bytes (remaining p) at fault
Steps bytes p at (Err OutOfMemory) q after = Unit {0}

-- the log was read to its end, or up to a fault
abbrev pub Reads : List ℕ → Parser → ℕ → Result (Unit {0}) LogError → Parser → ℕ → Type 0
Reads bytes p at (Ok x) q after = Came bytes p at q after × (q.stage ≡ End)
Reads bytes p at (Err (Malformed fault)) q after = Came bytes p at q after × Stops bytes (remaining q) after fault
Reads bytes p at (Err OutOfMemory) q after = Unit {0}

-- what bytes say that were read to their end: a log if no stage is left, else they end inside a field
abbrev pub said_in : List (Stage Draft) → Draft → List ℕ → Result LogParts Fault
said_in [] d bytes = Ok (log_of d)
said_in (stage ∷ behind) d bytes = fails 1 (length bytes)

abbrev pub said : Parser → List ℕ → Result LogParts Fault
said p bytes = said_in (ahead p.stage) p.draft bytes

-- a call read on as far as the bytes go, or came to a fault that stays whatever follows
abbrev pub Feeds : List ℕ → Parser → ℕ → Result (Unit {0}) LogError → Parser → ℕ → Type 0
Feeds bytes p at (Ok x) q after =
    Came bytes p at q after
    × ((before : List ℕ) →
    ended (before ++ bytes) (remaining q (before ++ bytes) (length before + after)) ≡ said q (before ++ bytes))
Feeds bytes p at (Err (Malformed fault)) q after =
    (fault.number ≡ 1 → ⊥) × (fault.offset ≤ length bytes)
    × ((before behind : List ℕ) →
    ended (before ++ (bytes ++ behind)) (remaining p (before ++ (bytes ++ behind)) (length before + at))
    ≡ fails fault.number (length before + fault.offset))
Feeds bytes p at (Err OutOfMemory) q after = Unit {0}
