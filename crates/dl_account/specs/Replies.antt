-- Replies by name, as a report has them.
use Rattle.std.specs.Prelude.{ℕ, nat_lt, if◌then◌else◌, List, [], ◌∷◌, codes, decimal, flat_map}
use Rattle.dl_entry.specs.declared.counts.Counts.{Counts}
use Rattle.dl_entry.specs.declared.reply_name.ReplyName.{ReplyName}
use Rattle.dl_entry.specs.declared.reply_name.ReplyName.TheVariants.{Ran, Closed, Bounced, Waiting, Idle, Stopped, NothingRun, Granted, Piece}
use Rattle.dl_entry.specs.declared.reply_name.ReplyName.TheVariants.{NotClosed, NotTurn, WindowFull, Denied, SphereBusy, Drained, Clean, Delivered}
use Rattle.dl_entry.specs.declared.reply_name.ReplyName.TheVariants.{Squashed, Already, Retired, NotDone, NoCommit, Placed, Elsewhere, NoThread}
use Rattle.dl_entry.specs.declared.reply_name.ReplyName.TheVariants.{Ended, Raised, Masked, NoHandler, FromLog, DmaDone, NoDma, Diverged}
use Rattle.dl_entry.specs.Counts.{count_of}
use Rattle.dl_account.specs.Lines.{line}

-- a reply without its operands
abbrev pub word_of : ReplyName → List ℕ
word_of Ran = codes "Ran"
word_of Closed = codes "Closed"
word_of Bounced = codes "Bounced"
word_of Waiting = codes "Waiting"
word_of Idle = codes "Idle"
word_of Stopped = codes "Stopped"
word_of NothingRun = codes "NothingRun"
word_of Granted = codes "Granted"
word_of Piece = codes "Piece"
word_of NotClosed = codes "NotClosed"
word_of NotTurn = codes "NotTurn"
word_of WindowFull = codes "WindowFull"
word_of Denied = codes "Denied"
word_of SphereBusy = codes "SphereBusy"
word_of Drained = codes "Drained"
word_of Clean = codes "Clean"
word_of Delivered = codes "Delivered"
word_of Squashed = codes "Squashed"
word_of Already = codes "Already"
word_of Retired = codes "Retired"
word_of NotDone = codes "NotDone"
word_of NoCommit = codes "NoCommit"
word_of Placed = codes "Placed"
word_of Elsewhere = codes "Elsewhere"
word_of NoThread = codes "NoThread"
word_of Ended = codes "Ended"
word_of Raised = codes "Raised"
word_of Masked = codes "Masked"
word_of NoHandler = codes "NoHandler"
word_of FromLog = codes "FromLog"
word_of DmaDone = codes "DmaDone"
word_of NoDma = codes "NoDma"
word_of Diverged = codes "Diverged"

-- the names in the order of a report
abbrev pub in_order : List ReplyName
in_order =
    Ran ∷ Closed ∷ Bounced ∷ Waiting ∷ Idle ∷ Stopped ∷ NothingRun ∷ Granted ∷ Piece ∷ NotClosed ∷
    NotTurn ∷ WindowFull ∷ Denied ∷ SphereBusy ∷ Drained ∷ Clean ∷ Delivered ∷ Squashed ∷ Already ∷
    Retired ∷ NotDone ∷ NoCommit ∷ Placed ∷ Elsewhere ∷ NoThread ∷ Ended ∷ Raised ∷ Masked ∷ NoHandler ∷
    FromLog ∷ DmaDone ∷ NoDma ∷ Diverged ∷ []

-- `r NAME COUNT`, if the reply was given at all
abbrev pub reply_line : ReplyName → (count : ℕ) → List ℕ
reply_line name count = if nat_lt 0 count then line (codes "r") (word_of name ∷ decimal count ∷ []) else []

-- the replies that were given
abbrev pub reply_lines : Counts → List ℕ
reply_lines counts = flat_map (λ name. reply_line name (count_of counts name)) in_order
