use Rattle.std.proofs.Common.{◌≡◌, false, Bool, replicate, length, rules, ap, ◌∙◌}
use Rattle.dl_sig.specs.Banks.{Places, no_place, of_flags}
use Rattle.dl_sig.proofs.Flagged.{flags_none}
use Rattle.dl_sig.proofs.flags.Flags.clear.Goals as goal

pub returns : goal.returns
returns c =
    let n = length c.self.inside.flags.items in
    let items : c.fill.new.self.items ≡ replicate {A = Bool} n false = search rules in
    ap of_flags items ∙ flags_none n ∙ ap (λ (b : Places). no_place b.size) c.self.view_is
