-- A log as it is looked up in.
use Rattle.std.specs.Prelude.{ℕ, Bool, List, Option}
use Rattle.dl_entry.specs.declared.Actor.{Actor}
use Rattle.spec_log.specs.Head.{head}
use Rattle.spec_strata.specs.Standing.{Standing}
use Rattle.dl_mode.specs.Strata.{head_at}
use Rattle.spec_log.specs.declared.log.LogParts.{LogParts}
use Rattle.dl_mode.specs.declared.lists.Lists.{Lists}

-- a log; and how far its strata have come, if it has strata instead of an order
pub record Looked : Type 0 where
  pub log : LogParts
  pub strata : Option Standing

-- the actor that comes next: the head of strata, or the one that the log names
abbrev pub head_of : Looked → (position : ℕ) → (last : Option ℕ) → (live : List Bool) → Option Actor
head_of l n last live = head_at l.strata (head l.log n last live)

-- the lists of a log that depend on its mode
abbrev pub lists_in : LogParts → Lists
lists_in log = record { mode = log.mode; s = log.s; count = log.count; order = log.order; sizes = log.sizes }
