-- What is true of every memory.
use Rattle.std.specs.Prelude.{◌≡◌, ℕ, List, [], length, slice_index_or, Option, None, IfSome}
use Rattle.std.specs.List.{All, concat}
use Rattle.dl_elf.specs.Images.{IsSize}
use Rattle.spec_isa.specs.Words.{IsBytes}

-- it has the size of a memory, and each of its values is a byte
pub record IsMemory (memory : List ℕ) : Type 0 where
  pub size : IsSize (length memory)
  pub bytes : IsBytes memory

-- these pages are whole, and one after another they are a memory
pub record IsPaged (pages : List (List ℕ)) : Type 0 where
  pub whole : All (λ page. length page ≡ 4096) pages
  pub memory : IsMemory (concat pages)

-- what is there for a page, if anything, has the page's bytes
abbrev pub Renews : (pages : List (List ℕ)) → List (Option (List ℕ)) → Type 0
Renews pages renewals = (i : ℕ) → IfSome (slice_index_or renewals i None) (λ shared. shared ≡ slice_index_or pages i [])
