use Rattle.std.proofs.Common.{◌∙◌, subst}
use Rattle.spec_program.specs.Asked.{IsDone}
use Rattle.spec_program.specs.Headline.{Headline}
use Rattle.delorean.proofs.Telling.{known_held}
use Rattle.delorean.proofs.delorean_over.Goals as goal

pub returns-clause-headline : goal.returns-clause-headline
returns-clause-headline g c = λ plan m asked told done.
    subst (λ k. Headline plan m k c.args.out.now.taken c.delorean.new.out.taken c.delorean.result) (known_held _ _) (c.delorean.ensures.headline plan m asked (known_held _ _ ∙ told) done)

pub returns-clause-done : goal.returns-clause-done
returns-clause-done g c = λ command m asked told done.
    subst (λ k. IsDone command m k c.args.out.now.taken c.delorean.new.out.taken c.delorean.result) (known_held _ _) (c.delorean.ensures.done command m asked (known_held _ _ ∙ told) done)

pub returns-clause-stands : goal.returns-clause-stands
returns-clause-stands g c = λ m told. c.delorean.ensures.stands m (known_held _ _ ∙ told)
