use Rattle.std.proofs.Common.{◌∙◌, ◌++◌, ◌*◌, ap, sym, arith, length}
use Rattle.dl_elf.specs.Loading.{image_of}
use Rattle.dl_asm.specs.File.{allowed, code_of}
use Rattle.dl_asm.proofs.Words.Loading.{loaded-file, file-parts, code-length}
use Rattle.dl_asm.proofs.file.image_file.Goals as goal

pub returns-clause-bytes : goal.returns-clause-bytes
returns-clause-bytes c =
    let words = c.args.words.now in
    c.in_ok-append_words.ensures ∙ ap (λ front. front ++ code_of words) (c.in_ok-extend_from_slice-3.ensures.items ∙ ap (λ front. front ++ allowed) (c.in_ok-extend_from_slice-2.ensures.items
    ∙ ap (λ front. front ++ c.to_le_bytes-2.result) (c.in_ok-extend_from_slice.ensures.items ∙ ap (λ front. front ++ c.to_le_bytes.result) c.in_ok-file.ensures.items)))
    ∙ file-parts words (4 * length words) c.to_le_bytes.result c.to_le_bytes-2.result c.to_le_bytes.ensures c.to_le_bytes-2.ensures (sym (code-length words))

pub returns-clause-loaded : goal.returns-clause-loaded
returns-clause-loaded c = λ size is l.
    let words = c.args.words.now in
    ap (λ file. image_of file size) (returns-clause-bytes c) ∙ loaded-file words size (omega (arith, code-length words, c.requires)) is l
