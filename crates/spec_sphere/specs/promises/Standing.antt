-- How the log of a recorded sphere stands to it: it has what the sphere has done, and nothing of what comes next.
use Rattle.std.specs.Prelude.{◌≡◌, ℕ, suc, ◌<◌, ◌≤◌, false, ◌&&◌, nat_eq, if◌then◌else◌, List, [], ◌∷◌, length, find, slice_get, Option, Some, None, option_map}
use Rattle.dl_entry.specs.declared.Actor.{Actor}
use Rattle.spec_isa.specs.declared.thread.Parts.{Parts}
use Rattle.spec_log.specs.declared.ModeName.{ModeName}
use Rattle.spec_log.specs.declared.DmaRecord.{DmaRecord}
use Rattle.spec_log.specs.declared.ShortSize.{ShortSize}
use Rattle.spec_log.specs.declared.Sizes.{Sizes}
use Rattle.spec_log.specs.declared.LogParts.{LogParts}
use Rattle.spec_log.specs.Size.{is_thread}
use Rattle.spec_play.specs.Progress.{position}
use Rattle.spec_play.specs.Verdicts.{interrupt_at}
pub use Rattle.spec_play.specs.Spawned.{IsNew, AreNew}
use Rattle.spec_sphere.specs.sphere.Spheres.{Sphere}
use Rattle.spec_sphere.specs.promises.Sound.{commits_in}

-- ---- its parts

-- how often the thread is among these
abbrev pub count_of : (thread : ℕ) → List Actor → ℕ
count_of k [] = 0
count_of k (a ∷ acts) = if is_thread k a then suc (count_of k acts) else count_of k acts

-- the short size of a thread's commit, if there is one
abbrev pub short_at : List ShortSize → (thread index : ℕ) → Option ℕ
short_at sizes k i = option_map (λ s. s.size) (find (λ s. nat_eq s.thread k && nat_eq s.index i) sizes)

-- every DMA is of a commit before number n
abbrev pub DmasBelow : (n : ℕ) → List DmaRecord → Type 0
DmasBelow n [] = Unit {0}
DmasBelow n (d ∷ ds) = (d.position < n) × DmasBelow n ds

-- the order has as many actors as there were commits, and each thread as often as it committed
abbrev pub OrderStands : ModeName → List Actor → (n : ℕ) → List Parts → Type 0
OrderStands ModeName.OrderSize order n ts = (length order ≡ n) × ((k : ℕ) → count_of k order ≡ commits_in ts k)
OrderStands ModeName.OrderOnly order n ts = (length order ≡ n) × ((k : ℕ) → count_of k order ≡ commits_in ts k)
OrderStands ModeName.Picolog order n ts = Unit {0}

-- the sizes are those of the commits so far: all of them, or none past a thread's last
abbrev pub SizesStand : ModeName → Sizes → (n : ℕ) → List Parts → Type 0
SizesStand ModeName.OrderSize (Sizes.Each xs) n ts = length xs ≡ n
SizesStand ModeName.OrderSize (Sizes.Short xs) n ts = ⊥
SizesStand ModeName.OrderOnly (Sizes.Each xs) n ts = ⊥
SizesStand ModeName.OrderOnly (Sizes.Short xs) n ts = (k i : ℕ) → commits_in ts k ≤ i → short_at xs k i ≡ None
SizesStand ModeName.Picolog (Sizes.Each xs) n ts = ⊥
SizesStand ModeName.Picolog (Sizes.Short xs) n ts = (k i : ℕ) → commits_in ts k ≤ i → short_at xs k i ≡ None

-- ---- the log

pub record Stands (p : Sphere) (log : LogParts) : Type 0 where
  pub count : log.count ≡ position p.progress
  pub order : OrderStands log.mode log.order (position p.progress) p.threads
  pub sizes : SizesStand log.mode log.sizes (position p.progress) p.threads
  pub past : (k i : ℕ) → commits_in p.threads k < i → interrupt_at log.interrupts k i ≡ None
  pub absent : (k i : ℕ) → slice_get p.threads k ≡ None → interrupt_at log.interrupts k i ≡ None
  pub unmasked : (k : ℕ) (t : Parts)
      → slice_get p.threads k ≡ Some t
      → t.mask ≡ false
      → interrupt_at log.interrupts k t.commits ≡ None
  pub dmas : DmasBelow (position p.progress) log.dmas
