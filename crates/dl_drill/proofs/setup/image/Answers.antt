use Rattle.std.proofs.Common.{◌≡◌, ◌∙◌, ℕ, List, Result, Ok, Err, ap, sym, refl, subst, arith}
use Rattle.dl_elf.specs.Causes.{IsCause}
use Rattle.dl_elf.specs.Images.{Image, IsSize}
use Rattle.dl_elf.specs.Loading.{image_of}
use Rattle.spec_program.specs.Drills.{drill_image}
use Rattle.dl_drill.proofs.setup.image.Goals as goal

page : IsSize 4096
page = record { pages = refl; least = omega arith; most = omega arith }

same_image : (a b : Image) → ◌≡◌ {A = Result Image ℕ} (Ok a) (Ok b) → a ≡ b
same_image a b e = cc

not_both : (a : Image) (n : ℕ) (o : Result Image ℕ) → o ≡ Ok a → o ≡ Err n → ⊥
not_both a n o e f = cc

pub returns-in-Ok : goal.returns-in-Ok
returns-in-Ok c =
    same_image c.in-Ok.image (drill_image c.args.number)
    (sym c.in-Ok.ensures ∙ ap (λ (b : List ℕ). image_of b 4096) c.deref.ensures.value ∙ c.in_ok-file.ensures.loaded 4096 page)

pub unreachable-requires : goal.unreachable-requires
unreachable-requires c =
    not_both (drill_image c.args.number) c.in-Err-Refused.field-0-0 (image_of c.deref.result.now 4096)
    (ap (λ (b : List ℕ). image_of b 4096) c.deref.ensures.value ∙ c.in_ok-file.ensures.loaded 4096 page)
    (subst (IsCause (image_of c.deref.result.now 4096)) c.in-Err-Refused.field-0-is c.in-Err-Refused.ensures)
