-- What strata keep, in place of a log in order-only.
use Rattle.std.specs.Prelude.{ℕ, false, List, replicate}
use Rattle.std.specs.List.{flat_map}
use Rattle.dl_entry.specs.Numbers.{most_threads}
use Rattle.spec_log.specs.declared.sizes.Sizes.TheVariants.{Short}
use Rattle.spec_log.specs.Noting.{Kept}
use Rattle.spec_strata.specs.declared.stratum.Stratum.{Stratum}
use Rattle.spec_strata.specs.declared.strata.StrataParts.{StrataParts}
use Rattle.spec_strata.specs.Canonical.{order_of}
use Rattle.spec_strata.specs.Strata.{commits_in_all}
use Rattle.spec_strata.specs.Standing.{Standing}
use Rattle.dl_mode.specs.Logged.{Logged}
use Rattle.dl_mode.specs.ThreadSizes.{ThreadSizes}
use Rattle.dl_replay.specs.Standings.{Stood}

-- what a log of their order keeps, and how far they have come
pub record StrataLogged : Type 0 where
  pub logged : Logged
  pub strata : Standing

abbrev pub kept_of : (s count : ℕ) → List Stratum → ThreadSizes → Kept
kept_of s count strata sizes =
    record { s = s; count = count; order = flat_map order_of strata; sizes = Short sizes.sizes; done = sizes.done }

abbrev pub strata_logged : (s count : ℕ) → Stood → ThreadSizes → StrataLogged
strata_logged s count x sizes =
    record { logged = record { kept = kept_of s count x.all sizes; room = false }; strata = x.standing }

-- what a log of their order keeps before the first commit
abbrev pub kept_begun : StrataParts → Kept
kept_begun v =
    record {
      s = v.s;
      count = commits_in_all v.strata;
      order = flat_map order_of v.strata;
      sizes = Short v.sizes;
      done = replicate most_threads 0;
    }
