-- The log of a tail without what is logged for moments before the base, and its play: that of the tail, except for what is
-- left over at the end.
use Rattle.std.specs.Prelude.{ℕ, ◌+◌, nat_lt, Bool, true, false, not, ◌||◌, List, length, map, filter, if◌then◌else◌}
use Rattle.std.specs.List.{list_any}
use Rattle.dl_entry.specs.declared.End.{End}
use Rattle.dl_entry.specs.declared.Why.{Why}
use Rattle.spec_isa.specs.declared.thread.Parts.{Parts}
use Rattle.spec_log.specs.declared.DmaRecord.{DmaRecord}
use Rattle.spec_log.specs.declared.Interrupt.{Interrupt}
use Rattle.spec_log.specs.declared.LogParts.{LogParts}
use Rattle.spec_log.specs.declared.ShortSize.{ShortSize}
use Rattle.spec_log.specs.declared.Sizes.{Sizes}
use Rattle.spec_play.specs.declared.used.Used.{Used}
use Rattle.spec_play.specs.declared.WalkEnd.{WalkEnd}
use Rattle.spec_play.specs.Plays.{Played, plays}
use Rattle.spec_play.specs.Progress.{nothing_used}
use Rattle.spec_play.specs.Walks.{Walked, walked_at}
use Rattle.spec_tail.specs.Tails.{Tail, state_of}
use Rattle.spec_tail.specs.Playing.{begun, short_since, interrupt_since, dma_since, Raised, raised, uncounted, log_since, begun_play}

-- ---- what is logged for later

-- a size of a commit before the base
abbrev pub is_early_size : List Parts → ShortSize → Bool
is_early_size threads x = nat_lt x.index (begun threads x.thread)

abbrev pub sizes_later : List Parts → Sizes → Sizes
sizes_later threads (Sizes.Each sizes) = Sizes.Each sizes
sizes_later threads (Sizes.Short sizes) =
    Sizes.Short (map (short_since threads) (filter (λ x. not (is_early_size threads x)) sizes))

-- an interrupt at the base has been applied before its thread's next commit
abbrev pub is_later_interrupt : List Parts → Interrupt → Bool
is_later_interrupt threads x = nat_lt (begun threads x.thread) x.index

abbrev pub interrupts_later : List Parts → List Interrupt → List Interrupt
interrupts_later threads xs = map (interrupt_since threads) (filter (is_later_interrupt threads) xs)

-- a DMA before the base
abbrev pub is_early_dma : (base : ℕ) → DmaRecord → Bool
is_early_dma base x = nat_lt x.position base

abbrev pub dmas_later : (base count : ℕ) → List DmaRecord → List DmaRecord
dmas_later base count xs = map (dma_since base count) (filter (λ x. not (is_early_dma base x)) xs)

abbrev pub log_later : Tail → LogParts
log_later t =
    record t.log {
      sizes = sizes_later t.threads t.log.sizes;
      interrupts = interrupts_later t.threads t.log.interrupts;
      dmas = dmas_later t.base t.log.count t.log.dmas;
    }

-- ---- the play

-- the interrupts at the base
abbrev pub raised_at : Tail → Raised
raised_at t = raised (log_since t).interrupts 0 (map uncounted t.threads)

-- DMAs are used in their order, so that after one before the base none is ever used
abbrev pub dmas_passed : Tail → ℕ
dmas_passed t = if list_any (is_early_dma t.base) t.log.dmas then length (log_later t).dmas else 0

abbrev pub opened_later : Tail → Played
opened_later t =
    let r = raised_at t in
    begun_play (log_later t)
    (record (state_of t) { threads = r.threads; commits = 0; used = record nothing_used { dmas = dmas_passed t } }) r.refused

abbrev pub play_later : Tail → Played
play_later t = plays (log_later t) (opened_later t) t.log.count

-- ---- the end

abbrev pub has_early_size : List Parts → Sizes → Bool
has_early_size threads (Sizes.Each sizes) = false
has_early_size threads (Sizes.Short sizes) = list_any (is_early_size threads) sizes

-- whether a size, a DMA or an interrupt of the tail isn't used, once so much of what is logged for later is
abbrev pub has_more_left : Tail → Used → Bool
has_more_left t u =
    has_early_size t.threads t.log.sizes || list_any (is_early_dma t.base) t.log.dmas
    || nat_lt ((raised_at t).count + u.interrupts) (length t.log.interrupts)

-- complete only if nothing is left
abbrev pub end_left : (left : Bool) → End → End
end_left true (End.Complete i) = End.Diverged i Why.LeftOver
end_left true (End.At i) = End.At i
end_left true (End.Diverged i why) = End.Diverged i why
end_left false how = how

abbrev pub walk_end_left : (left : Bool) → WalkEnd → WalkEnd
walk_end_left left (WalkEnd.Reached i) = WalkEnd.Reached i
walk_end_left left (WalkEnd.Ended how) = WalkEnd.Ended (end_left left how)

abbrev pub walked_left : (left : Bool) → Walked → Walked
walked_left left v = record v { end = walk_end_left left v.end }

abbrev pub walked_later : Tail → Walked
walked_later t =
    let y = play_later t in walked_left (has_more_left t y.used) (walked_at (log_later t) t.log.count y)
