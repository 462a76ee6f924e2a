-- What a mode's log and the stores of records give back is what the log says.
use Rattle.std.proofs.Common.{◌≡◌, ℕ, ◌==◌, ◌&&◌, Bool, List, [], ◌∷◌, map, Option, Some, None, option_map, is_some, inl, inr, refl, ap, sym, ◌∙◌}
use Rattle.std.specs.Option.{MatchOption}
use Rattle.std.proofs.lemmas.Bool.{cases_Bool}
use Rattle.dl_entry.specs.declared.actor.Actor.{Actor}
use Rattle.dl_entry.specs.declared.input.Input.{Input}
use Rattle.spec_log.specs.declared.mode_name.ModeName.{ModeName}
use Rattle.spec_log.specs.declared.mode_name.ModeName.TheVariants.{OrderSize, OrderOnly, Picolog}
use Rattle.spec_log.specs.declared.records.Interrupt.{Interrupt}
use Rattle.spec_log.specs.declared.records.DmaRecord.{DmaRecord}
use Rattle.spec_log.specs.Head.{head, is_dma_at}
use Rattle.spec_log.specs.Noting.{Kept, kept_size, kept_head, log_of}
use Rattle.spec_log.specs.Size.{size_in}
use Rattle.spec_play.specs.Verdicts.{interrupt_at}
use Rattle.dl_input.specs.Dmas.{bytes_at}
use Rattle.dl_input.specs.Tracked.{Tracked, raised_at, interrupt_of}

-- the size that is kept of an actor's commit is the one that the log has
pub size-is : (version threads : ℕ) (mode : ModeName) (kept : Kept) (interrupts : List Interrupt) (inputs : List Input) (dmas : List DmaRecord) (actor : Actor) (index : ℕ)
    → kept_size kept actor index ≡ size_in (log_of version threads mode kept interrupts inputs dmas) actor index
size-is version threads mode kept interrupts inputs dmas (Actor.Thread thread) index = refl
size-is version threads mode kept interrupts inputs dmas Actor.Dma index = refl

-- the value that is held at a moment is that of the log's interrupt
pub interrupt-is : (entries : List Tracked) (thread commits : ℕ)
    → option_map (λ r. r.value) (raised_at entries thread commits) ≡ interrupt_at (map interrupt_of entries) thread commits
interrupt-is [] thread commits = refl
interrupt-is (held ∷ entries) thread commits =
    elim (cases_Bool ((held.thread == thread) && (held.index == commits))) [
      | inl e ↦ rw e refl
      | inr e ↦ rw e (interrupt-is entries thread commits)
    ]

dma-found : (position : ℕ) (dmas : List DmaRecord) → is_some (bytes_at position dmas) ≡ is_dma_at dmas position
dma-found position [] = refl
dma-found position (dma ∷ dmas) =
    elim (cases_Bool (dma.position == position)) [
      | inl e ↦ rw e refl
      | inr e ↦ rw e (dma-found position dmas)
    ]

abbrev Holds : (position : ℕ) → List DmaRecord → {B : Type 0} → (B → List ℕ) → Option B → Type 0
Holds position dmas now found = MatchOption found (bytes_at position dmas ≡ None) (λ b. bytes_at position dmas ≡ Some (now b))

-- bytes are found for a position just where the log has a DMA at it
pub dma-is : (position : ℕ) (dmas : List DmaRecord) {B : Type 0} (now : B → List ℕ) (found : Option B) → Holds position dmas now found
    → is_some found ≡ is_dma_at dmas position
dma-is position dmas now None h = sym (ap is_some h) ∙ dma-found position dmas
dma-is position dmas now (Some b) h = sym (ap is_some h) ∙ dma-found position dmas

-- the head by what a mode keeps is the head by the log
pub head-is : (version threads : ℕ) (mode : ModeName) (kept : Kept) (interrupts : List Interrupt) (inputs : List Input) (dmas : List DmaRecord)
    (position : ℕ) (last : Option ℕ) (live : List Bool)
    → kept_head mode kept.order position (is_dma_at dmas position) last live ≡ head (log_of version threads mode kept interrupts inputs dmas) position last live
head-is version threads OrderSize kept interrupts inputs dmas position last live = refl
head-is version threads OrderOnly kept interrupts inputs dmas position last live = refl
head-is version threads Picolog kept interrupts inputs dmas position last live = refl
