use Rattle.std.proofs.Common.{◌≡◌, false, Bool, replicate, rules, ap, ◌∙◌}
use Rattle.dl_sig.specs.Banks.{of_flags}
use Rattle.dl_sig.proofs.Flagged.{flags_none}
use Rattle.dl_sig.proofs.flags.Flags.new.Goals as goal

pub returns : goal.returns
returns c =
    let items : c.in_ok-vec.field-0.items ≡ replicate {A = Bool} c.args.size false = search rules in
    ap of_flags items ∙ flags_none c.args.size
