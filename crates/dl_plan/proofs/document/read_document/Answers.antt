use Rattle.std.proofs.Common.{refl, sym, ◌∙◌}
use Rattle.std.proofs.lemmas.Bool.{false≢true}
use Rattle.dl_plan.proofs.Documents.{document-utf8, document-none}
use Rattle.dl_plan.proofs.document.read_document.Goals as goal

pub returns-in-Ok-clause-ok : goal.returns-in-Ok-clause-ok
returns-in-Ok-clause-ok c = document-utf8 c.args.bytes.now c.in-Ok.ensures.ok.0 ∙ c.in-Ok.ensures.ok.1

pub returns-in-Err-2-clause-refused : goal.returns-in-Err-2-clause-refused
returns-in-Err-2-clause-refused c =
    (refl, document-none c.args.bytes.now (c.in-Err.ensures.refused (λ m. absurd (false≢true (sym c.if-is_memory.false ∙ c.is_memory.ensures.1 m)))))
