-- A walk of as many commits as the log has comes to an end.
use Rattle.std.proofs.Common.{◌≡◌, ℕ, List, refl, sym, subst, arith}
use Rattle.spec_log.specs.declared.LogParts.{LogParts}
use Rattle.spec_play.specs.declared.WalkEnd.{WalkEnd}
use Rattle.spec_play.specs.Walks.{Walked, walked}
use Rattle.spec_play.proofs.Walking.{walks_are_plays}
use Rattle.dl_commands.specs.Walks.{HasEnded}

ended : (e : WalkEnd) → ((i : ℕ) → e ≡ WalkEnd.Reached i → ⊥) → HasEnded e
ended (WalkEnd.Ended how) not_reached = tt
ended (WalkEnd.Reached i) not_reached = not_reached i refl

-- a walk up to as many commits as the log has comes to an end, and isn't stopped before it
pub whole_walk : (log : LogParts) (memory : List ℕ) (entry to : ℕ) (w : Walked) → w ≡ walked log memory entry to → to ≡ log.count → HasEnded w.end
whole_walk log memory entry to w is all =
    subst (λ (x : Walked). HasEnded x.end) (sym is)
    (ended (walked log memory entry to).end (λ i e. let more = ((walks_are_plays log memory entry to).reached i e).more in omega (arith, more, all)))
