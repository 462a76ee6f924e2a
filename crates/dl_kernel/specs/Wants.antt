-- What a step wants from outside, as the code keeps it.
use Rattle.std.specs.Prelude.{ℕ, ◌+◌, ◌≤◌, length}
use Rattle.dl_entry.specs.Numbers.{most_bytes}
use Rattle.spec_kernel.specs.Needs as needs
use Rattle.dl_kernel.specs.declared.need.Want.{Want}

abbrev pub wanted : Want → needs.Need
wanted (Want.Write channel bytes) = needs.Write channel bytes.now
wanted (Want.Read channel buf len) = needs.Read channel buf len
wanted (Want.Random buf len) = needs.Random buf len
wanted Want.Clock = needs.Clock
wanted Want.MomentWord = needs.MomentWord
wanted Want.InputWord = needs.InputWord

-- no more bytes go at once than a record has
abbrev pub IsShort : Want → Type 0
IsShort (Want.Write channel bytes) = length bytes.now ≤ most_bytes
IsShort (Want.Read channel buf len) = len ≤ most_bytes
IsShort (Want.Random buf len) = len ≤ most_bytes
IsShort Want.Clock = Unit {0}
IsShort Want.MomentWord = Unit {0}
IsShort Want.InputWord = Unit {0}

-- its buffer lies in a memory of that size
abbrev pub IsIn : (size : ℕ) → Want → Type 0
IsIn size (Want.Write channel bytes) = Unit {0}
IsIn size (Want.Read channel buf len) = buf + len ≤ size
IsIn size (Want.Random buf len) = buf + len ≤ size
IsIn size Want.Clock = Unit {0}
IsIn size Want.MomentWord = Unit {0}
IsIn size Want.InputWord = Unit {0}
