-- Calls that are numbered from 0, some of which fail.
use Rattle.std.specs.Prelude.{ℕ, List, Contains, refl}
use Rattle.std.specs.Coded.{Coded, code_by, coded×, coded_ℕ, coded_list}
use Rattle.dl_files.specs.Count.{next}

-- the numbers of the calls that fail, how many calls were made, and how many of them failed
pub record Numbered : Type 0 where
  pub failing : List ℕ
  pub made : ℕ
  pub faults : ℕ

-- numbered calls are stored as their three parts
abbrev pub numbered_code : Coded Numbered
numbered_code =
    code_by (List ℕ × (ℕ × ℕ)) (coded× (coded_list coded_ℕ) (coded× coded_ℕ coded_ℕ))
    (λ c. (c.failing, (c.made, c.faults))) (λ p. record { failing = p.0; made = p.1.0; faults = p.1.1 }) (λ _. refl)

-- no call has been made yet
abbrev pub unmade : List ℕ → Numbered
unmade failing = record { failing = failing; made = 0; faults = 0 }

-- the next call fails
abbrev pub FailsNext : Numbered → Type 0
FailsNext calls = Contains calls.failing calls.made

-- after a call that succeeded
abbrev pub passed : Numbered → Numbered
passed calls = record calls { made = next calls.made }

-- after a call that failed
abbrev pub faulted : Numbered → Numbered
faulted calls = record calls { made = next calls.made; faults = next calls.faults }
