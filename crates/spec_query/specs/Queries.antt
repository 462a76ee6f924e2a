-- The answers to questions about one word, from the stores of a play.
use Rattle.std.specs.Prelude.{ℕ, not, nat_eq, nat_lt, List, map, reverse, filter, find, Option, Some, None, if◌then◌else◌}
use Rattle.spec_query.specs.declared.store.Store.{Store}
use Rattle.spec_query.specs.declared.line.Line.{Line}
use Rattle.spec_query.specs.declared.when.When.{When}

abbrev pub line_of : Store → Line
line_of s = record { commit = s.commit; actor = s.actor; value = s.value }

-- every store to the word of that address, in order
abbrev pub watch : List Store → (addr : ℕ) → List Line
watch stores addr = map line_of (filter (λ s. nat_eq s.address addr) stores)

-- the last one of a commit below i
abbrev pub who : List Store → (addr i : ℕ) → Option Line
who stores addr i = find (λ l. nat_lt l.commit i) (reverse (watch stores addr))

-- the first one that left another value
abbrev pub change : List Store → (addr value : ℕ) → Option Line
change stores addr value = find (λ l. not (nat_eq l.value value)) (watch stores addr)

abbrev pub at_change : Option Line → When
at_change (Some l) = When.At l
at_change None = When.None

-- when the word, which is `first` in the image, first had another value
abbrev pub when_changed : List Store → (first addr value : ℕ) → When
when_changed stores first addr value = if nat_eq first value then at_change (change stores addr value) else When.Start
