use Rattle.std.proofs.Common.{None, Option, sym, subst}
use Rattle.spec_play.specs.declared.interval.Interval.{Interval}
use Rattle.dl_sphere.specs.Setups.{IsBegun}
use Rattle.dl_gather.specs.Intervals.{sphere_on}
use Rattle.dl_gather.proofs.intervals.begun_of.Goals as goal

pub returns-in_ok-begin-in-Some-clause-begun : goal.returns-in_ok-begin-in-Some-clause-begun
returns-in_ok-begin-in-Some-clause-begun c =
    λ role.
    subst (λ (i : Option Interval). IsBegun (sphere_on c.args.image.now role) (record { log = c.args.log.now; interval = i; strata = None }) c.in_ok-begin-in-Some.field-0)
    (sym c.in-Some.is) (c.in_ok-begin-in-Some.ensures.begun role)
