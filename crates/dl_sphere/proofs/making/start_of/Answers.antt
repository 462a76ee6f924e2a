use Rattle.std.proofs.Common.{◌≡◌, [], ◌∷◌, Bor, Option, None, sym, ap, ◌∙◌}
use Rattle.std.specs.Prelude.{option_map}
use Rattle.spec_isa.specs.Threads.{started}
use Rattle.spec_log.specs.declared.ModeName.{ModeName}
use Rattle.spec_play.specs.Progress.{nothing_used}
use Rattle.spec_play.specs.Recording.{new_log}
use Rattle.dl_sphere.specs.Setups.{begun_as, setup_of}
use Rattle.dl_sphere.specs.declared.setup.Begun.{Begun}
use Rattle.dl_sphere.proofs.Standing.Start.{starts_first}
use Rattle.dl_sphere.proofs.making.start_of.Goals as goal

-- the log makes no difference before the first commit
pub returns-in_ok-new-in-None-clause-state : goal.returns-in_ok-new-in-None-clause-state
returns-in_ok-new-in-None-clause-state c =
    let setup = c.args.setup.now in
    let none : begun_as setup.role ≡ None = sym c.begun.ensures ∙ ap (λ (o : Option (Bor Begun)). option_map (λ b. b.now) o) c.in-None.is in
    c.first.ensures (new_log 1 ModeName.OrderOnly 16)
    ∙ (λ i. record {
      memory = c.in_ok-new-in-None.ensures i;
      threads = started (c.entry_of-entry.ensures.value i) ∷ [];
      request = None;
      last = None;
      commits = 0;
      used = nothing_used;
    })
    ∙ starts_first (setup_of setup) setup.role none

pub returns-in-Some-clause-image : goal.returns-in-Some-clause-image
returns-in-Some-clause-image c = c.entry_of-entry.ensures.image

pub returns-in_err-new-in-None-clause-image : goal.returns-in_err-new-in-None-clause-image
returns-in_err-new-in-None-clause-image c = c.entry_of-entry.ensures.image

pub returns-in_ok-new-in-None-clause-image : goal.returns-in_ok-new-in-None-clause-image
returns-in_ok-new-in-None-clause-image c = c.entry_of-entry.ensures.image
