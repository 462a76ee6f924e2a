-- What the words mean: a command with its operands, or none.
use Rattle.std.specs.Prelude.{ℕ, List, [], ◌∷◌, Option, None, codes, if◌then◌else◌}
use Rattle.std.specs.Option.{option_and_then, option_map}
use Rattle.std.specs.Str.{bytes_eq}
use Rattle.clap.specs.Words.{Kinds, Row, Text, fault_of, first_of, subcommand_of}
use Rattle.dl_words.specs.Apps.{command_line}
use Rattle.dl_words.specs.Numbers.{number_of, memory_of, address_of, up_to, place_of, every_of}
use Rattle.dl_words.specs.declared.command.Command.{Command}
use Rattle.dl_words.specs.declared.command.Command.TheVariants as command
use Rattle.dl_words.specs.declared.interval.Interval.{Interval as IntervalWords}
use Rattle.dl_words.specs.declared.playback.Playback.{Playback}
use Rattle.dl_words.specs.declared.query.Query.{Query as QueryWords}
use Rattle.dl_words.specs.declared.query.Question.{Question}

-- the names of an image and of a log of it, and the bytes of the memory that the log is played in
pub record PlaybackValues : Type 0 where
  pub image : Text
  pub memory : ℕ
  pub log : Text

-- the commits of the log from one number up to another, of a play whose state is kept each so many commits
pub record IntervalValues : Type 0 where
  pub playback : PlaybackValues
  pub every : ℕ
  pub from : ℕ
  pub to : ℕ

-- a question about the word at an address in that memory
pub record QueryValues : Type 0 where
  pub playback : PlaybackValues
  pub address : ℕ
  pub question : Question

pub data CommandValues : Type 0 where
  Run : (plan : Text) → CommandValues
  Inspect : (log : Text) → CommandValues
  Walk : (playback : PlaybackValues) → CommandValues
  Interval : (interval : IntervalValues) → CommandValues
  Tail : (name : Text) → CommandValues
  Query : (query : QueryValues) → CommandValues
  Make : (number : ℕ) → (name : Text) → CommandValues
  Drill : (number : ℕ) → CommandValues
  Asm : (source : Text) → (name : Text) → CommandValues
  Migrate : (log : Text) → (name : Text) → CommandValues
  Strata : (playback : PlaybackValues) → (name : Text) → CommandValues

-- ---- each subcommand, from what was found for its operands

abbrev pub playback_of : List Row → Option PlaybackValues
playback_of rows =
    option_and_then (λ image. option_and_then (λ memory. option_map (λ log. record { image = image; memory = memory; log = log })
    (first_of (codes "LOG") rows))
    (option_and_then memory_of (first_of (codes "MEMORY") rows)))
    (first_of (codes "IMAGE") rows)

abbrev pub query_of : Question → List Row → Option QueryValues
query_of question rows =
    option_and_then (λ playback. option_map (λ address. record { playback = playback; address = address; question = question })
    (option_and_then (address_of playback.memory) (first_of (codes "ADDR") rows)))
    (playback_of rows)

abbrev pub run_of : List Row → Option CommandValues
run_of rows = option_map Run (first_of (codes "PLAN") rows)

abbrev pub inspect_of : List Row → Option CommandValues
inspect_of rows = option_map Inspect (first_of (codes "LOG") rows)

abbrev pub walk_of : List Row → Option CommandValues
walk_of rows = option_map Walk (playback_of rows)

abbrev pub interval_of : List Row → Option CommandValues
interval_of rows =
    option_and_then (λ playback. option_and_then (λ every. option_and_then (λ to.
    option_map (λ from. Interval (record { playback = playback; every = every; from = from; to = to }))
    (option_and_then (up_to to) (first_of (codes "I") rows)))
    (option_and_then place_of (first_of (codes "J") rows)))
    (option_and_then every_of (first_of (codes "EVERY") rows)))
    (playback_of rows)

abbrev pub tail_of : List Row → Option CommandValues
tail_of rows = option_map Tail (first_of (codes "NAME") rows)

abbrev pub watch_of : List Row → Option CommandValues
watch_of rows = option_map Query (query_of Question.Watch rows)

abbrev pub who_of : List Row → Option CommandValues
who_of rows =
    option_and_then (λ before. option_map Query (query_of (Question.Who before) rows))
    (option_and_then place_of (first_of (codes "I") rows))

abbrev pub when_of : List Row → Option CommandValues
when_of rows =
    option_and_then (λ value. option_map Query (query_of (Question.When value) rows))
    (option_and_then number_of (first_of (codes "VALUE") rows))

abbrev pub make_of : List Row → Option CommandValues
make_of rows =
    option_and_then (λ number. option_map (λ name. Make number name) (first_of (codes "NAME") rows))
    (option_and_then number_of (first_of (codes "NUMBER") rows))

abbrev pub drill_of : List Row → Option CommandValues
drill_of rows = option_map Drill (option_and_then number_of (first_of (codes "NUMBER") rows))

abbrev pub asm_of : List Row → Option CommandValues
asm_of rows =
    option_and_then (λ source. option_map (λ name. Asm source name) (first_of (codes "NAME") rows))
    (first_of (codes "SOURCE") rows)

abbrev pub migrate_of : List Row → Option CommandValues
migrate_of rows =
    option_and_then (λ log. option_map (λ name. Migrate log name) (first_of (codes "NAME") rows))
    (first_of (codes "LOG") rows)

abbrev pub strata_of : List Row → Option CommandValues
strata_of rows =
    option_and_then (λ playback. option_map (λ name. Strata playback name) (first_of (codes "NAME") rows))
    (playback_of rows)

abbrev pub named : (subcommand : Text) → List Row → Option CommandValues
named name rows =
    if bytes_eq name (codes "run") then run_of rows
    else if bytes_eq name (codes "inspect") then inspect_of rows
    else if bytes_eq name (codes "walk") then walk_of rows
    else if bytes_eq name (codes "interval") then interval_of rows
    else if bytes_eq name (codes "tail") then tail_of rows
    else if bytes_eq name (codes "watch") then watch_of rows
    else if bytes_eq name (codes "who") then who_of rows
    else if bytes_eq name (codes "when") then when_of rows
    else if bytes_eq name (codes "make") then make_of rows
    else if bytes_eq name (codes "drill") then drill_of rows
    else if bytes_eq name (codes "asm") then asm_of rows
    else if bytes_eq name (codes "migrate") then migrate_of rows
    else if bytes_eq name (codes "strata") then strata_of rows
    else None

-- ---- the words

-- where `clap` finds no fault: the subcommand, and what it finds for its operands
abbrev pub matched : Kinds → Option (Text × List Row) → Option (Text × List Row)
matched [] found = found
matched (kind ∷ kinds) found = None

abbrev pub found_in : (words : List Text) → Option (Text × List Row)
found_in words = matched (fault_of command_line words) (subcommand_of command_line words)

abbrev pub command_of : (words : List Text) → Option CommandValues
command_of words = option_and_then (λ found. named found.0 found.1) (found_in words)

-- ---- commands of the code

abbrev pub playback_view : Playback → PlaybackValues
playback_view p = record { image = p.image.now; memory = p.memory; log = p.log.now }

abbrev pub interval_view : IntervalWords → IntervalValues
interval_view i = record { playback = playback_view i.playback; every = i.every; from = i.from; to = i.to }

abbrev pub query_view : QueryWords → QueryValues
query_view q = record { playback = playback_view q.playback; address = q.address; question = q.question }

abbrev pub command_view : Command → CommandValues
command_view (command.Run plan) = Run plan.now
command_view (command.Inspect log) = Inspect log.now
command_view (command.Walk playback) = Walk (playback_view playback)
command_view (command.Interval interval) = Interval (interval_view interval)
command_view (command.Tail name) = Tail name.now
command_view (command.Query query) = Query (query_view query)
command_view (command.Make number name) = Make number name.now
command_view (command.Drill number) = Drill number
command_view (command.Asm source name) = Asm source.now name.now
command_view (command.Migrate log name) = Migrate log.now name.now
command_view (command.Strata playback name) = Strata (playback_view playback) name.now
