use Rattle.std.proofs.Common.{◌∙◌, ◌≤◌, Ok, ap, arith, length}
use Rattle.dl_asm.specs.File.{code_of, file_of, image_by}
use Rattle.dl_make.proofs.Sizes.{code-length, made-length}
use Rattle.dl_make.proofs.image.make.Goals as goal

pub returns-clause-bytes : goal.returns-clause-bytes
returns-clause-bytes c = c.in_ok-image_file.ensures.bytes ∙ ap file_of (c.deref.ensures.value ∙ c.in_ok-words.ensures.value)

pub returns-clause-length : goal.returns-clause-length
returns-clause-length c = ap length (returns-clause-bytes c) ∙ made-length c.args.number

pub returns-clause-loaded : goal.returns-clause-loaded
returns-clause-loaded c = λ size is.
    let words = c.deref.ensures.value ∙ c.in_ok-words.ensures.value in
    let room : length (code_of c.deref.result.now) ≤ size = omega (arith, ap (λ ws. length (code_of ws)) words, code-length c.args.number, is.least) in
    c.in_ok-image_file.ensures.loaded size is room ∙ ap (λ ws. Ok (image_by ws size)) words
