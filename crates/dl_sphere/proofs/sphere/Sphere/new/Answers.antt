use Rattle.std.proofs.Common.{refl}
use Rattle.dl_kernel.specs.declared.past.Past.{Past}
use Rattle.dl_sphere.specs.Roles.{keeping_of}
use Rattle.dl_sphere.specs.Setups.{setup_of}
use Rattle.dl_sphere.proofs.Standing.Start.{Starts, parallel_as, start_standing, start_seen}
use Rattle.dl_sphere.proofs.sphere.Sphere.new.Goals as goal

pub invariant_of-result : goal.invariant_of-result
invariant_of-result c =
    let image = setup_of c.args.setup.now in
    let past : Past = record { alloc = c.args.alloc; first = c.in_ok-state.state.commits; commits = c.new.result; state = c.in_ok-state.state } in
    let x = keeping_of c.in_ok-part.part in
    let h : Starts c.args.s image past x =
    record {
      state = c.in_ok-state.ensures.state;
      first = refl;
      commits = c.new.ensures.none;
      none = c.new.ensures.settled;
      kept = c.in_ok-part.ensures.kept;
      at = c.in_ok-part.ensures.at;
      parallel = parallel_as image c.args.setup.now.role c.requires.begun;
    }
    in
    start_standing c.args.s image past x c.requires.size h

pub returns-clause-made : goal.returns-clause-made
returns-clause-made c =
    let image = setup_of c.args.setup.now in
    let past : Past = record { alloc = c.args.alloc; first = c.in_ok-state.state.commits; commits = c.new.result; state = c.in_ok-state.state } in
    let x = keeping_of c.in_ok-part.part in
    let h : Starts c.args.s image past x =
    record {
      state = c.in_ok-state.ensures.state;
      first = refl;
      commits = c.new.ensures.none;
      none = c.new.ensures.settled;
      kept = c.in_ok-part.ensures.kept;
      at = c.in_ok-part.ensures.at;
      parallel = parallel_as image c.args.setup.now.role c.requires.begun;
    }
    in
    (λ i. record { s = c.args.s; sphere = start_seen c.args.s image past x h i })

pub part_of-requires-clause-image : goal.part_of-requires-clause-image
part_of-requires-clause-image c = c.start_of.ensures.image c.args.s

pub returns-clause-image : goal.returns-clause-image
returns-clause-image c = c.start_of.ensures.image c.args.s c.in_ok-part.ensures.role
