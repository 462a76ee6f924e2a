-- What tasks have in common that agree on a sphere.
use Rattle.std.specs.Prelude.{◌≡◌, ℕ, ◌≤◌, List, slice_get, Option, Some, None, Ok}
use Rattle.dl_account.specs.Account.{account_of}
use Rattle.dl_elf.specs.Loading.{image_of}
use Rattle.dl_files.specs.Contents.{Contents}
use Rattle.dl_entry.specs.declared.End.{End}
use Rattle.dl_plan.specs.declared.Product.{Product}
use Rattle.dl_plan.specs.Values.{EpochValues}
use Rattle.dl_words.specs.Commands.{IntervalValues}
use Rattle.spec_play.specs.declared.WalkEnd.{WalkEnd}
use Rattle.spec_protocol.specs.promises.Sound.{IsWithinLimits}
use Rattle.spec_run.specs.Tails.{tail_of_points}
use Rattle.spec_run.specs.Texts.{log_of_points}
use Rattle.spec_program.specs.Built.{epoch_setup, record_setup}
use Rattle.spec_program.specs.commands.Interval.{told}
use Rattle.spec_program.specs.Files.{RecordInputs, ReplayInputs, whole, RoleRead, PlainRead, RecordRead, ReplayRead, StrataRead, SphereRead}
use Rattle.spec_program.specs.Operands.{PlaybackRead}
use Rattle.spec_program.specs.Runs.{product_for}
use Rattle.spec_program.specs.Tasks.{Task, IsTask, setup_in}
use Rattle.spec_tail.specs.Bytes.{tail_bytes}
use Rattle.spec_tail.specs.Playing.{walked}
use Rattle.spec_tail.specs.Tails.{Tail}

-- the account of sphere i, as the task has it written
abbrev pub account_in : Task → (i : ℕ) → List ℕ
account_in t i = product_for (setup_in t) t.events (Product.Account i)

-- a log or strata are replayed
abbrev pub IsReplay : RoleRead → Type 0
IsReplay PlainRead = ⊥
IsReplay (RecordRead inputs) = ⊥
IsReplay (ReplayRead inputs) = Unit {0}
IsReplay (StrataRead strata) = Unit {0}

-- two tasks that replay a sphere of the same image and memory size by the same log and interval, or the same strata, write
-- equal accounts of it, whatever else their plans and files say
abbrev pub AccountsAgree : Type 0
AccountsAgree =
    (plan other : List ℕ) (m n : Contents) (t u : Task) (i j : ℕ) (s : SphereRead)
    → IsTask plan m t
    → IsTask other n u
    → IsReplay s.role
    → slice_get t.read.spheres i ≡ Some s
    → slice_get u.read.spheres j ≡ Some s
    → account_in t i ≡ account_in u j

-- where one task records a sphere whole, and another replays what it recorded on the same image in a memory of the same size,
-- both write the same account
abbrev pub RecordingsAreReplayed : Type 0
RecordingsAreReplayed =
    (plan other : List ℕ) (m n : Contents) (t u : Task) (i j : ℕ) (s : SphereRead) (inputs : RecordInputs)
    → IsTask plan m t
    → IsTask other n u
    → s.role ≡ RecordRead inputs
    → inputs.epochs ≡ None
    → slice_get t.read.spheres i ≡ Some s
    → slice_get u.read.spheres j
    ≡ Some (record s { role = ReplayRead (whole (log_of_points (setup_in t) t.events i (record_setup inputs))) })
    → account_in t i ≡ account_in u j

-- ---- intervals

-- the numbers of `interval` are the ends that a plan names, one of them at least. In place of a first that it doesn't name they
-- have 0, and in place of a last the log's count or more
abbrev pub AreEnds : (from to : Option ℕ) → (count : ℕ) → IntervalValues → Type 0
AreEnds None None count asked = ⊥
AreEnds None (Some to) count asked = (asked.from ≡ 0) × (asked.to ≡ to)
AreEnds (Some from) None count asked = (asked.from ≡ from) × (count ≤ asked.to)
AreEnds (Some from) (Some to) count asked = (asked.from ≡ from) × (asked.to ≡ to)

-- a sphere replays an interval, and `interval` is asked for the same one, of the same log on the same image
pub record AsksSame (s : SphereRead) (inputs : ReplayInputs) (asked : IntervalValues) (read : PlaybackRead) : Type 0 where
  pub image : image_of s.image s.memory ≡ Ok read.image
  pub log : inputs.log ≡ Ok read.log
  pub ends : AreEnds inputs.from inputs.to read.log.count asked
  pub order : asked.from ≤ asked.to

-- then the account that the task has written is the text that `interval` tells
abbrev pub IntervalsAreTold : Type 0
IntervalsAreTold =
    (plan : List ℕ) (m : Contents) (t : Task) (i : ℕ) (s : SphereRead) (inputs : ReplayInputs) (asked : IntervalValues) (read : PlaybackRead)
    → IsTask plan m t
    → s.role ≡ ReplayRead inputs
    → slice_get t.read.spheres i ≡ Some s
    → AsksSame s inputs asked read
    → account_in t i ≡ (told asked read).text

-- ---- tails

-- how a walk has ended; one that was stopped has come so far
abbrev pub walk_end : WalkEnd → End
walk_end (WalkEnd.Reached commits) = End.At commits
walk_end (WalkEnd.Ended how) = how

-- the account of the walk of a tail, whose first commit has the base as its number
abbrev pub walked_account : Tail → List ℕ
walked_account t = let v = walked t in account_of t.base v.commits v.threads v.request v.memory (walk_end v.end)

-- what a task that records a sphere in epochs has written as its log is a tail, and the walk of this tail has the account that
-- it has written, byte for byte
pub record IsTailWalked (t : Task) (i : ℕ) (tail : Tail) : Type 0 where
  pub bytes : product_for (setup_in t) t.events (Product.Log i) ≡ tail_bytes tail
  pub account : account_in t i ≡ walked_account tail

abbrev pub TailsAreWalked : Type 0
TailsAreWalked =
    (plan : List ℕ) (m : Contents) (t : Task) (i : ℕ) (s : SphereRead) (inputs : RecordInputs) (x : EpochValues)
    → IsTask plan m t
    → IsWithinLimits (setup_in t)
    → s.role ≡ RecordRead inputs
    → inputs.epochs ≡ Some x
    → slice_get t.read.spheres i ≡ Some s
    → IsTailWalked t i (tail_of_points (setup_in t) t.events i (record_setup inputs) (epoch_setup x))
