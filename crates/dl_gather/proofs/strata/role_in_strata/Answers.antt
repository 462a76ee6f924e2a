use Rattle.std.proofs.Common.{◌≡◌, refl, sym, subst}
use Rattle.spec_strata.specs.Checking.{IsAnswer}
use Rattle.spec_strata.specs.OnImages.{IsParallelOn}
use Rattle.spec_strata.specs.Reading.{read_of}
use Rattle.spec_strata.specs.Strata.{HaveSome}
use Rattle.spec_strata.specs.declared.strata.StrataParts.{StrataParts}
use Rattle.spec_strata.proofs.Images.Found.{answers_are_found}
use Rattle.spec_strata.proofs.Sized.{strata-some}
use Rattle.spec_program.specs.Built.{bad_strata}
use Rattle.spec_program.proofs.Made.{not_refused}
use Rattle.dl_gather.proofs.strata.role_in_strata.Goals as goal

pub returns-clause-begun : goal.returns-clause-begun
returns-clause-begun c =
    let v : StrataParts = c.in_ok-strata.strata in
    let w : StrataParts = c.in_ok-shared.shared.value in
    let same : w ≡ v = c.in_ok-shared.ensures in
    let image = c.args.image.now in (
      tt,
      record {
        strata = w;
        asks = refl;
        some =
            subst (λ (x : StrataParts). HaveSome x.strata) (sym same)
            (strata-some c.args.bytes.now v (not_refused (bad_strata c.args.sphere) (read_of c.args.bytes.now) v c.in_ok-strata.ensures.strata));
        parallel =
            subst (λ (x : StrataParts). IsParallelOn x image.bytes image.entry) (sym same)
            (subst (IsAnswer v image.bytes image.entry) c.in_ok-check.ensures.parallel (answers_are_found v image.bytes image.entry));
      },
    )
