-- What holds of a log holds of one that may have more threads, and no log may have more than any sphere.
use Rattle.std.proofs.Common.{ℕ, ◌≤◌, List, inl, inr, arith}
use Rattle.std.proofs.lemmas.List.Elements.{All-weaker}
use Rattle.dl_entry.specs.declared.actor.Actor.{Actor}
use Rattle.dl_entry.specs.declared.actor.Actor.TheVariants.{Thread, Dma}
use Rattle.dl_entry.specs.Numbers.{least_chunk, most_chunk, most_threads}
use Rattle.spec_log.specs.declared.mode_name.ModeName.{ModeName}
use Rattle.spec_log.specs.declared.mode_name.ModeName.TheVariants.{OrderSize, OrderOnly, Picolog}
use Rattle.spec_log.specs.declared.records.Interrupt.{Interrupt}
use Rattle.spec_log.specs.declared.sizes.ShortSize.{ShortSize}
use Rattle.spec_log.specs.declared.sizes.Sizes.{Sizes}
use Rattle.spec_log.specs.declared.sizes.Sizes.TheVariants.{Each, Short}
use Rattle.spec_log.specs.declared.log.LogParts.{LogParts}
use Rattle.spec_log.specs.Log.{IsActor, IsOrder, IsShortSize, AreShortSizes, IsSizes, IsInterrupt, AreInterrupts, IsLog}
use Rattle.spec_log.specs.Versions.{IsVersion, IsStandard, new_threads}

-- no version has logs of more threads, or longer standard chunks, than any sphere may have

-- no version allows a log more threads than any sphere may have
pub threads-few : (version threads : ℕ) → IsVersion version threads → threads ≤ most_threads
threads-few version threads v =
    elim v [ inl first ↦ omega (arith, first.1) | inr second ↦ elim second.1 [ inl few ↦ omega (arith, few) | inr many ↦ omega (arith, many) ] ]

-- a new log of either version may have no more threads than any sphere
pub new_threads-few : (version : ℕ) → IsVersion version (new_threads version) → new_threads version ≤ most_threads
new_threads-few version v = threads-few version (new_threads version) v

-- no version allows a longer standard chunk than any sphere may have
pub standard-few : (version threads s : ℕ) → IsVersion version threads → IsStandard version s → s ≤ most_chunk
standard-few version threads s v standard =
    elim v [ inl first ↦ omega (arith, rw first.0 at standard.1) | inr second ↦ omega (arith, rw second.0 at standard.1) ]

-- with more threads

-- an actor of a log is still one if the log may have more threads
pub actor-among : (few many : ℕ) → few ≤ many → (actor : Actor) → IsActor few actor → IsActor many actor
actor-among few many h (Thread thread) is = omega arith
actor-among few many h Dma is = tt

-- an order of a log is still one if the log may have more threads
pub order-among : (few many : ℕ) → few ≤ many → (mode : ModeName) (count : ℕ) (order : List Actor) → IsOrder mode few count order → IsOrder mode many count order
order-among few many h OrderSize count order is = (is.0, All-weaker (IsActor few) (IsActor many) (actor-among few many h) order is.1)
order-among few many h OrderOnly count order is = (is.0, All-weaker (IsActor few) (IsActor many) (actor-among few many h) order is.1)
order-among few many h Picolog count order is = is

-- the short sizes of a log are still valid if the log may have more threads
pub short_sizes-among : (few many : ℕ) → few ≤ many → (s : ℕ) (sizes : List ShortSize) → AreShortSizes few s sizes → AreShortSizes many s sizes
short_sizes-among few many h s sizes are =
    record {
      few = are.few;
      each = All-weaker (IsShortSize few s) (IsShortSize many s) (λ short is. (omega (arith, is.0), is.1, is.2, is.3)) sizes are.each;
      rising = are.rising;
    }

-- the sizes of a log in any mode are still valid if the log may have more threads
pub sizes-among : (few many : ℕ) → few ≤ many → (mode : ModeName) (s count : ℕ) (sizes : Sizes) → IsSizes mode few s count sizes → IsSizes mode many s count sizes
sizes-among few many h OrderSize s count (Each sizes) are = are
sizes-among few many h OrderSize s count (Short sizes) are = absurd are
sizes-among few many h OrderOnly s count (Each sizes) are = absurd are
sizes-among few many h OrderOnly s count (Short sizes) are = short_sizes-among few many h s sizes are
sizes-among few many h Picolog s count (Each sizes) are = absurd are
sizes-among few many h Picolog s count (Short sizes) are = short_sizes-among few many h s sizes are

-- the interrupts of a log are still valid if the log may have more threads
pub interrupts-among : (few many : ℕ) → few ≤ many → (interrupts : List Interrupt) → AreInterrupts few interrupts → AreInterrupts many interrupts
interrupts-among few many h interrupts are =
    record {
      few = are.few;
      each = All-weaker (IsInterrupt few) (IsInterrupt many) (λ interrupt is. (omega (arith, is.0), is.1, is.2)) interrupts are.each;
      rising = are.rising;
    }

-- the parts of a log, as those of a log that may have as many threads as any
pub record IsAmongAll (log : LogParts) : Type 0 where
  pub threads : log.threads ≤ most_threads
  pub least : least_chunk ≤ log.s
  pub most : log.s ≤ most_chunk
  pub order : IsOrder log.mode most_threads log.count log.order
  pub sizes : IsSizes log.mode most_threads log.s log.count log.sizes
  pub interrupts : AreInterrupts most_threads log.interrupts

-- a log's parts are also valid in one with as many threads as any sphere may have
pub log-among : (log : LogParts) → IsLog log → IsAmongAll log
log-among log is =
    let few = threads-few log.version log.threads is.version in
    record {
      threads = few;
      least = is.s.0;
      most = standard-few log.version log.threads log.s is.version is.s;
      order = order-among log.threads most_threads few log.mode log.count log.order is.order;
      sizes = sizes-among log.threads most_threads few log.mode log.s log.count log.sizes is.sizes;
      interrupts = interrupts-among log.threads most_threads few log.interrupts is.interrupts;
    }
