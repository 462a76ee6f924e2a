-- The names of replies in the order of a report.
use Rattle.std.specs.Prelude.{ℕ}
use Rattle.dl_entry.specs.declared.reply_name.ReplyName.{ReplyName}
use Rattle.dl_entry.specs.declared.reply_name.ReplyName.TheVariants.{Ran, Closed, Bounced, Waiting, Idle, Stopped, NothingRun, Granted, Piece}
use Rattle.dl_entry.specs.declared.reply_name.ReplyName.TheVariants.{NotClosed, NotTurn, WindowFull, Denied, SphereBusy, Drained, Clean, Delivered}
use Rattle.dl_entry.specs.declared.reply_name.ReplyName.TheVariants.{Squashed, Already, Retired, NotDone, NoCommit, Placed, Elsewhere, NoThread}
use Rattle.dl_entry.specs.declared.reply_name.ReplyName.TheVariants.{Ended, Raised, Masked, NoHandler, FromLog, DmaDone, NoDma, Diverged}

-- the place of a name, from 0
abbrev pub place : ReplyName → ℕ
place Ran = 0
place Closed = 1
place Bounced = 2
place Waiting = 3
place Idle = 4
place Stopped = 5
place NothingRun = 6
place Granted = 7
place Piece = 8
place NotClosed = 9
place NotTurn = 10
place WindowFull = 11
place Denied = 12
place SphereBusy = 13
place Drained = 14
place Clean = 15
place Delivered = 16
place Squashed = 17
place Already = 18
place Retired = 19
place NotDone = 20
place NoCommit = 21
place Placed = 22
place Elsewhere = 23
place NoThread = 24
place Ended = 25
place Raised = 26
place Masked = 27
place NoHandler = 28
place FromLog = 29
place DmaDone = 30
place NoDma = 31
place Diverged = 32
