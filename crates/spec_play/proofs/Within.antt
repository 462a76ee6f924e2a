-- An interval is in order, and within the log.
use Rattle.std.proofs.Common.{◌≡◌, ℕ, ◌≤◌, Some, None, subst, arith}
use Rattle.std.specs.Prelude.{min}
use Rattle.spec_play.specs.declared.interval.Interval.{Interval}
use Rattle.spec_play.specs.Intervals.{within, IsWithin, IntervalsAreWithin}

same_interval : (a b : Interval) → Some a ≡ Some b → a ≡ b
same_interval a b e = cc

least_within : (count first last : ℕ) (i : Interval) → min first count ≤ min last count → Some (within count first last) ≡ Some i → IsWithin count i
least_within count first last i order e =
    subst (IsWithin count) (same_interval (within count first last) i e) (record { order = order; most = omega arith })

-- an interval that a plan asks for in order is in order and within the log
pub intervals_are_within : IntervalsAreWithin
intervals_are_within None None count i ordered e = cc
intervals_are_within None (Some to) count i ordered e = least_within count 0 to i (omega arith) e
intervals_are_within (Some from) None count i ordered e = least_within count from count i (omega arith) e
intervals_are_within (Some from) (Some to) count i ordered e = least_within count from to i (omega (arith, ordered)) e
