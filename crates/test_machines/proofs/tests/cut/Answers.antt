use Rattle.std.proofs.Common.{◌≡◌, ◌≤◌, refl, ap, ◌∙◌, arith}
use Rattle.spec_log.specs.declared.LogParts.{LogParts}
use Rattle.spec_sphere.specs.sphere.Setups.{IsPlain}
use Rattle.dl_sphere.specs.Starting.{first_state}
use Rattle.test_machines.proofs.tests.cut.Goals as goal

-- before the first commit the log's play is at the image's own start
pub returns : goal.returns
returns c =
    let log : LogParts = c.args.log in
    let count = ap (λ (l : LogParts). l.count) c.parts.ensures.parts in
    let last = c.min-last.ensures in (
      record {
        within = record { order = omega arith; most = omega (arith, last, count) };
        state =
            c.first-state.ensures log
            ∙ (λ i. first_state (record { memory = c.in_ok-new.ensures i; entry = c.entry.ensures.value i; role = IsPlain }));
        come = refl;
      },
      tt,
    )
