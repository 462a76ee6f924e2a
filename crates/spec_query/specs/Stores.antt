-- The stores of a play: of each commit the words that it stored to, with the values that they have after it.
use Rattle.std.specs.Prelude.{ℕ, zero, suc, ◌*◌, List, [], ◌++◌, map, slice_get, Option, Some, None}
use Rattle.dl_entry.specs.declared.Actor.{Actor}
use Rattle.spec_isa.specs.declared.thread.Parts.{Parts}
use Rattle.spec_isa.specs.Words.{Stored, lays, read}
use Rattle.spec_log.specs.declared.LogParts.{LogParts}
use Rattle.spec_kernel.specs.Needs.{next_kind}
use Rattle.spec_play.specs.Progress.{position}
use Rattle.spec_play.specs.Turns.{TurnOrEnd, Turn, TurnOfDma, Ended}
use Rattle.spec_play.specs.Verdicts.{LogVerdict, Goes, Fails}
use Rattle.spec_play.specs.Transfers.{DmaVerdict, DmaGoes, DmaFails, dma_verdict}
use Rattle.spec_play.specs.Plays.{Played, opened, plays, thread_verdict}
use Rattle.spec_query.specs.declared.store.Store.{Store}

-- ---- the words that a commit lays on memory: a chunk's stores, or the bytes that the kernel or a DMA copies

abbrev pub words_gone : LogVerdict → List Stored
words_gone (Goes e u) = e.words
words_gone (Fails why) = []

abbrev pub words_transferred : DmaVerdict → List Stored
words_transferred (DmaGoes words) = words
words_transferred (DmaFails why) = []

abbrev pub thread_words : LogParts → Played → (thread : ℕ) → Option Parts → List Stored
thread_words log y k None = []
thread_words log y k (Some t) = words_gone (thread_verdict log y k t (next_kind t y.memory))

-- ---- the stores of a commit

-- a word as it is after the commit of that number
abbrev pub store_of : (commit : ℕ) → Actor → (after : List ℕ) → Stored → Store
store_of i actor after s = record { commit = i; actor = actor; address = 4 * s.number; value = read after s.number }

-- those of words that are laid on this memory
abbrev pub stores_of : (commit : ℕ) → Actor → (memory : List ℕ) → (words : List Stored) → List Store
stores_of i actor m words = map (store_of i actor (lays m words)) words

abbrev pub turn_stores : LogParts → Played → TurnOrEnd → List Store
turn_stores log y (Ended how) = []
turn_stores log y TurnOfDma =
    stores_of (position y.progress) Actor.Dma y.memory (words_transferred (dma_verdict log y.progress y.used))
turn_stores log y (Turn k) =
    stores_of (position y.progress) (Actor.Thread k) y.memory (thread_words log y k (slice_get y.threads k))

-- of the next commit; none if there is none, or if it diverges
unfoldable pub next_stores : LogParts → Played → List Store
next_stores log y = turn_stores log y y.now

-- ---- the stores of a play

-- of the next i commits, in their order
abbrev pub stores : LogParts → Played → (i : ℕ) → List Store
stores log y zero = []
stores log y (suc i) = stores log y i ++ next_stores log (plays log y i)

-- of the first i commits of a log on an image
abbrev pub stores_in : LogParts → (memory : List ℕ) → (entry i : ℕ) → List Store
stores_in log memory entry i = stores log (opened log memory entry) i
