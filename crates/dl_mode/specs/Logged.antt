-- What a log of a mode is seen as.
use Rattle.std.specs.Prelude.{ℕ, Bool}
use Rattle.dl_entry.specs.declared.actor.Actor.{Actor}
use Rattle.dl_entry.specs.declared.commit.Commit.{Commit}
use Rattle.spec_log.specs.Noting.{Kept, Note}

-- what is kept, and whether there is room for one commit more
pub record Logged : Type 0 where
  pub kept : Kept
  pub room : Bool

-- a commit as a log sees it
abbrev pub note : Actor → ℕ → Bool → Note
note actor size short = record { actor = actor; size = size; short = short }

abbrev pub note_of : Commit → Bool → Note
note_of commit short = note commit.actor commit.size short
