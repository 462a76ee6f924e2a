-- Why a replay left its log, as texts say it.
use Rattle.std.specs.Prelude.{ℕ, List, [], ◌∷◌, map, codes, decimal}
use Rattle.dl_entry.specs.declared.end.Why.{Why}
use Rattle.dl_entry.specs.declared.end.Why.TheVariants.{NoThread, Short, NotSerial, Input, Interrupt, Dma, SizeOfSerial, LeftOver}

-- the number of a reason
abbrev pub number_of : Why → ℕ
number_of NoThread = 1
number_of (Short logged found) = 2
number_of NotSerial = 3
number_of Input = 4
number_of Interrupt = 5
number_of Dma = 6
number_of (SizeOfSerial logged) = 7
number_of LeftOver = 8

-- the sizes that belong to it: the logged one and the one found
abbrev pub sizes_of : Why → List ℕ
sizes_of (Short logged found) = logged ∷ found ∷ []
sizes_of (SizeOfSerial logged) = logged ∷ []
sizes_of why = []

-- the fields of a reason
abbrev pub why_fields : Why → List (List ℕ)
why_fields why = map decimal (number_of why ∷ sizes_of why)

-- of a replay that left its log at a commit, by its index
abbrev pub diverged_fields : (index : ℕ) → Why → List (List ℕ)
diverged_fields index why = codes "diverged" ∷ decimal index ∷ why_fields why
