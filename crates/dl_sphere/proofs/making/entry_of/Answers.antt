use Rattle.std.proofs.Common.{sym, subst, ◌≤◌, ◌<◌, ◌^◌, ◌≡◌, ◌%◌}
use Rattle.dl_sphere.specs.Setups.{IsParallelAs, setup_of}
use Rattle.dl_sphere.proofs.Standing.Start.{parallel_as}
use Rattle.dl_sphere.proofs.making.entry_of.Goals as goal

pub returns-clause-image : goal.returns-clause-image
returns-clause-image c s role =
    let image = c.args.setup.now.image in
    let is = c.entry.ensures.image in
    record {
      least = subst (λ n. 4096 ≤ n) (sym is.whole) is.size.least;
      most = subst (λ n. n ≤ 2 ^ 24) (sym is.whole) is.size.most;
      pages = subst (λ n. n % 4096 ≡ 0) (sym is.whole) is.size.pages;
      bytes = c.bytes_of.ensures;
      aligned = is.aligned;
      inside = subst (λ n. image.entry < n) (sym is.whole) is.inside;
      role = role;
      strata = λ asked is. subst (IsParallelAs (setup_of c.args.setup.now)) is (parallel_as (setup_of c.args.setup.now) c.args.setup.now.role c.requires);
    }
