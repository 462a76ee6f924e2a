-- The threads that a serial step spawns.
use Rattle.std.specs.Prelude.{◌≡◌, List, [], ◌∷◌}
use Rattle.spec_isa.specs.declared.thread.Parts.{Parts}

-- a thread that has done nothing yet
pub record IsNew (t : Parts) : Type 0 where
  pub commits : t.commits ≡ 0
  pub handler : t.handler ≡ 0

abbrev pub AreNew : List Parts → Type 0
AreNew [] = Unit {0}
AreNew (t ∷ ts) = IsNew t × AreNew ts
