use Rattle.std.proofs.Common.{◌<◌, sym, ap, ◌∙◌, subst}
use Rattle.dl_sig.specs.Banks.{Places, with_place}
use Rattle.dl_sig.proofs.Flagged.{flags_set}
use Rattle.dl_sig.proofs.flags.Flags.set.Goals as goal

pub returns : goal.returns
returns c =
    flags_set c.self.inside.flags.items c.args.place (subst (λ (b : Places). c.args.place < b.size) (sym c.self.view_is) c.requires)
    ∙ ap (with_place c.args.place) c.self.view_is
