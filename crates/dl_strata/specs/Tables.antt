-- A table of who has touched each word in a stratum.
use Rattle.std.specs.Prelude.{◌≡◌, ℕ, ◌<◌, Bool, true, false, List, Option, Some, None, slice_get, if◌then◌else◌}
use Rattle.spec_strata.specs.declared.touch.Touch.{Touch}
use Rattle.spec_strata.specs.declared.touch.Touch.TheVariants.{Untouched, StoredBy}
use Rattle.spec_strata.specs.Touches.{bars_look, bars_store, looked_at}
use Rattle.dl_serial.specs.declared.footprint.Footprint.{Footprint}
use Rattle.dl_serial.specs.Looks.{has}

-- how many strata there were, and who has touched each word in the present one
pub record Table : Type 0 where
  pub stratum : ℕ
  pub touches : List Touch

-- a word that isn't in the table is untouched
abbrev pub or_untouched : Option Touch → Touch
or_untouched None = Untouched
or_untouched (Some touch) = touch

abbrev pub touch_of : List Touch → (number : ℕ) → Touch
touch_of touches a = or_untouched (slice_get touches a)

-- the commit with this footprint touches no word that is barred
pub record IsFreeIn (touches : List Touch) (k : ℕ) (f : Footprint) : Type 0 where
  pub looked : (a : ℕ) → has f.looked.items a ≡ true → bars_look (touch_of touches a) k ≡ false
  pub stored : (a : ℕ) → has f.stored.items a ≡ true → bars_store (touch_of touches a) k ≡ false

-- its words are in a table of that length
pub record IsWithin (words : ℕ) (f : Footprint) : Type 0 where
  pub looked : (a : ℕ) → has f.looked.items a ≡ true → a < words
  pub stored : (a : ℕ) → has f.stored.items a ≡ true → a < words

-- who has touched a word, once the commit of thread k is done
abbrev pub touched_by : Touch → (thread : ℕ) → (looked stored : Bool) → Touch
touched_by touch k looked stored = if stored then StoredBy k else if looked then looked_at touch k else touch

pub record Touched (old : List Touch) (k : ℕ) (f : Footprint) (new : List Touch) : Type 0 where
  pub each : (a : ℕ) → touch_of new a ≡ touched_by (touch_of old a) k (has f.looked.items a) (has f.stored.items a)
