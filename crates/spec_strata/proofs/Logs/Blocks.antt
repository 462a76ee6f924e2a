-- A whole log in strata.
use Rattle.std.proofs.Common.{◌≡◌, ◌≢◌, ℕ, ◌+◌, ◌<◌, inr, Bool, List, [], ◌∷◌, map, Option, refl, sym, ap, ◌∙◌}
use Rattle.dl_entry.specs.declared.Actor.{Actor}
use Rattle.spec_isa.specs.declared.thread.Parts.{Parts}
use Rattle.spec_log.specs.declared.LogParts.{LogParts}
use Rattle.spec_log.specs.declared.ModeName.{ModeName}
use Rattle.spec_log.specs.Head.{head, head_in}
use Rattle.spec_kernel.specs.Interrupts.{is_live}
use Rattle.spec_play.specs.Progress.{Progress, position}
use Rattle.spec_play.specs.declared.used.Used.{Used}
use Rattle.spec_play.specs.Turns.{turn_of, at_end, has_left_over, now_at}
use Rattle.std.specs.Prelude.{nat_lt, if◌then◌else◌}
use Rattle.spec_play.specs.Plays.{Played, play_turn}
use Rattle.spec_strata.specs.InPlay.{plays_of, IsLike}
use Rattle.spec_strata.specs.Orders.{TurnsAlike}
use Rattle.spec_strata.specs.Blocks.{Block, Chunks, Alone, in_canonical_order, as_done, AreBlocks, BlocksInterleave}
use Rattle.spec_strata.specs.Relogged.{SaysAlike}
use Rattle.spec_strata.proofs.Plays.Staying.{plays_stay_alike}
use Rattle.spec_strata.proofs.Logs.Strata.{strata_relog}

-- ---- whose turn it is

head-same : (mode : ModeName) (log : LogParts) (i : ℕ) (a b : Option ℕ) (live : List Bool) → mode ≢ ModeName.Picolog → head_in mode log i a live ≡ head_in mode log i b live
head-same ModeName.OrderSize log i a b live ne = refl
head-same ModeName.OrderOnly log i a b live ne = refl
head-same ModeName.Picolog log i a b live ne = absurd (ne refl)

looked-same : (log : LogParts) (p o : Progress) (u : Used) (ts : List Parts) → log.mode ≢ ModeName.Picolog → position o ≡ position p → now_at log o u ts ≡ now_at log p u ts
unfolding now_at
looked-same log p o u ts ne e =
    (λ i. if nat_lt (e i) log.count then turn_of (e i) ts (head log (e i) o.last (map is_live ts)) else at_end (e i) (has_left_over log u ts))
    ∙ ap (λ (a : Option Actor). if nat_lt (position p) log.count then turn_of (position p) ts a else at_end (position p) (has_left_over log u ts))
    (head-same log.mode log (position p) o.last p.last (map is_live ts) ne)

-- if an order is logged, plays that are alike have the same turn
pub turns_alike : TurnsAlike
turns_alike log y z ne like ly lz =
    lz ∙ looked-same log y.progress z.progress z.used z.threads ne (λ i. like.first i + like.count i)
    ∙ (λ i. now_at log y.progress (like.used i) (like.threads i)) ∙ sym ly

-- ---- all strata

says-itself : (log : LogParts) → SaysAlike log log
says-itself log = record { standard = refl; interrupts = refl; size = λ k c. inr refl }

blocks-on : (log : LogParts) (y z : Played) (bs : List Block) → 0 < log.s → IsLike y z → AreBlocks log y bs → IsLike (in_canonical_order log y bs) (as_done log z bs)
blocks-on log y z [] l like are = like
blocks-on log y z (Chunks ks js ∷ bs) l like are =
    blocks-on log (plays_of log y ks) (plays_of log z js) bs l (strata_relog log log y z ks js (says-itself log) l like are.0 are.1).1 are.2
blocks-on log y z (Alone now ∷ bs) l like are =
    blocks-on log (play_turn log y now) (play_turn log z now) bs l (plays_stay_alike log y z now like) are

-- strata that are each done in any order leave a play like that of canonical order
pub blocks_interleave : BlocksInterleave
blocks_interleave log y bs l are =
    blocks-on log y y bs l (record { memory = refl; threads = refl; request = refl; used = refl; first = refl; count = refl; each = λ by. refl }) are
