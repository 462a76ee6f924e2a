-- A whole log in strata.
use Rattle.spec_play.specs.Turns.{TurnOrEnd}
use Rattle.std.specs.Prelude.{◌≡◌, ℕ, ◌<◌, List, [], ◌∷◌}
use Rattle.spec_log.specs.declared.LogParts.{LogParts}
use Rattle.spec_play.specs.Plays.{Played, play_turn}
use Rattle.spec_strata.specs.InPlay.{IsStratum, IsLike, plays_of}
use Rattle.spec_strata.specs.Shares.{counts_of}

-- a stratum: its commits in canonical order, and in the order in which they are done; or a serial step or a DMA
pub data Block : Type 0 where
  Chunks : (canonical done : List ℕ) → Block
  Alone : (now : TurnOrEnd) → Block

-- the play with all of them, each stratum in canonical order, or as it is done
abbrev pub in_canonical_order : LogParts → Played → List Block → Played
in_canonical_order log y [] = y
in_canonical_order log y (Chunks ks js ∷ bs) = in_canonical_order log (plays_of log y ks) bs
in_canonical_order log y (Alone now ∷ bs) = in_canonical_order log (play_turn log y now) bs

abbrev pub as_done : LogParts → Played → List Block → Played
as_done log y [] = y
as_done log y (Chunks ks js ∷ bs) = as_done log (plays_of log y js) bs
as_done log y (Alone now ∷ bs) = as_done log (play_turn log y now) bs

-- in canonical order each is a stratum, or a step by itself, and the orders have the same numbers of commits
abbrev pub AreBlocks : LogParts → Played → List Block → Type 0
AreBlocks log y [] = Unit {0}
AreBlocks log y (Chunks ks js ∷ bs) =
    IsStratum log y ks × ((j : ℕ) → counts_of js j ≡ counts_of ks j) × AreBlocks log (plays_of log y ks) bs
AreBlocks log y (Alone now ∷ bs) = AreBlocks log (play_turn log y now) bs

-- Strata that are done one after the other, each in any order, leave what canonical order leaves, except for the order of
-- commits of different threads.
abbrev pub BlocksInterleave : Type 0
BlocksInterleave =
    (log : LogParts) (y : Played) (bs : List Block) → 0 < log.s → AreBlocks log y bs
    → IsLike (in_canonical_order log y bs) (as_done log y bs)
