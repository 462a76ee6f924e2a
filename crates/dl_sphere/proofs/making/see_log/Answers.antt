use Rattle.std.proofs.Common.{◌≡◌, sym, subst, arith}
use Rattle.spec_log.specs.Log.{IsLog}
use Rattle.spec_strata.specs.Strata.{AreStrata}
use Rattle.spec_strata.proofs.Images.Canonical.{canonical_is_log}
use Rattle.dl_sphere.specs.Setups.{log_of}
use Rattle.dl_sphere.specs.declared.setup.Replay.{Replay}
use Rattle.dl_sphere.proofs.making.see_log.Goals as goal

pub returns-in-Strata : goal.returns-in-Strata
returns-in-Strata c =
    let here : c.deref.result.now ≡ c.in-Strata.strata.value = grind arith in
    subst (λ (r : Replay). IsLog (log_of r)) (sym c.in-Strata.is) (canonical_is_log c.in-Strata.strata.value (subst AreStrata here c.parts-in-Strata.ensures.good))
