use Rattle.std.proofs.Common.{ℕ, Vec, ap, ◌∙◌, append_assoc}
use Rattle.std.specs.declared.alloc.Global.{Global}
use Rattle.dl_gather.proofs.lines.bad_strata_line.Goals as goal

pub returns : goal.returns
returns c = ap (λ (w : Vec ℕ Global). w.items) c.into_bytes.ensures.value ∙ c.in_ok-format.ensures.ok ∙ simp append_assoc
