-- Who commits, as a number.
use Rattle.std.specs.Prelude.{ℕ}
use Rattle.dl_entry.specs.declared.actor.Actor.{Actor}
use Rattle.dl_entry.specs.declared.actor.Actor.TheVariants.{Thread, Dma}
use Rattle.dl_entry.specs.Numbers.{dma_code}

-- a thread is its number, and a DMA is the number after that of the last thread
abbrev pub code : Actor → ℕ
code (Thread number) = number
code Dma = dma_code
