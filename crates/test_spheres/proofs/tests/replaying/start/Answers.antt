use Rattle.std.proofs.Common.{ℕ, List, sym, ap, ◌∙◌}
use Rattle.spec_play.specs.States as play
use Rattle.test_spheres.proofs.tests.replaying.start.Goals as goal

pub returns : goal.returns
returns c = λ log.
    let first = c.first.ensures log in
    first ∙ ap (λ (m : List ℕ). play.state_after log m 0 0) (sym (ap (λ (s : play.State). s.memory) first))
