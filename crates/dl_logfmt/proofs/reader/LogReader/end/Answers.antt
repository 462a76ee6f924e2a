use Rattle.std.proofs.Common.{arith, rules, ◌≡◌, ◌+◌, ◌∙◌, ap, sym, subst, length}
use Rattle.spec_log.specs.Log.{IsLog}
use Rattle.spec_log.specs.Fields.{fails}
use Rattle.dl_logfmt.specs.declared.stage_name.StageName.TheVariants.{End}
use Rattle.dl_logfmt.specs.Feeding.{HasFed}
use Rattle.dl_logfmt.proofs.Feeding.Pieces.{holding, refused, refused-says, held-short, held-whole, held-good}
use Rattle.dl_logfmt.proofs.reader.LogReader.end.Goals as goal

pub returns-in-Some-clause-log : goal.returns-in-Some-clause-log
returns-in-Some-clause-log c bytes fed =
    let inside = subst (HasFed bytes) (sym c.self.view_is) fed in
    refused-says bytes c.in-Some.refusal (refused bytes _ _ c.in-Some.is inside)

pub returns-then-ne-clause-log : goal.returns-then-ne-clause-log
returns-then-ne-clause-log c bytes fed =
    let inside = subst (HasFed bytes) (sym c.self.view_is) fed in
    let other : c.self.inside.parser.stage ≡ End → ⊥ = search rules in
    let end : length c.self.inside.pending.items ≡ c.len.result = omega arith in
    held-short bytes _ (holding bytes _ c.in_default.is inside) other ∙ ap (λ n. fails 1 (c.self.inside.start + n)) end

pub new-requires : goal.new-requires
new-requires c =
    let (bytes, are, fed) = c.self.invariant in
    let whole : c.self.inside.parser.stage ≡ End = search rules in
    subst IsLog (sym c.log_of.ensures) (held-good bytes _ (holding bytes _ c.in_default.is fed) are whole)

pub returns-clause-log : goal.returns-clause-log
returns-clause-log c bytes fed =
    let inside = subst (HasFed bytes) (sym c.self.view_is) fed in
    let whole : c.self.inside.parser.stage ≡ End = search rules in
    held-whole bytes _ (holding bytes _ c.in_default.is inside) whole ∙ cc
