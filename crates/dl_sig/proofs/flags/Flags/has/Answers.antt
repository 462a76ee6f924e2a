use Rattle.std.proofs.Common.{◌≡◌, ◌<◌, sym, ◌∙◌, subst, false}
use Rattle.std.proofs.lemmas.List.{get_or_default}
use Rattle.std.specs.FinSet as set
use Rattle.dl_sig.specs.Banks.{Places, has_flag}
use Rattle.dl_sig.proofs.Sets.{member_at}
use Rattle.dl_sig.proofs.flags.Flags.has.Goals as goal

pub returns : goal.returns
returns c =
    let xs = c.self.inside.flags.items in
    let within = subst (λ (b : Places). c.args.place < b.size) (sym c.self.view_is) c.requires in
    subst (λ (b : Places). c.index.result.now ≡ set.contains b.set c.args.place) c.self.view_is
    (c.index.ensures ∙ get_or_default xs c.args.place c.index.result.now false within ∙ member_at (has_flag xs) _ c.args.place within)
