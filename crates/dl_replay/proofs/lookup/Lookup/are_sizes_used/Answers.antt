use Rattle.std.proofs.Common.{◌≡◌, inl, inr, sym, ◌∙◌}
use Rattle.spec_log.specs.declared.mode_name.ModeName.TheVariants.{OrderSize}
use Rattle.dl_replay.proofs.Turns.{short-used}
use Rattle.dl_replay.proofs.lookup.Lookup.are_sizes_used.Goals as goal

pub returns-in-OrderOnly : goal.returns-in-OrderOnly
returns-in-OrderOnly g c threads few is =
    let kept = (g.M.Mode.logged c.self.inside.log).kept in
    let other : g.M.Mode.mode ≡ OrderSize → ⊥ = λ e. elim c.in-OrderOnly.is [ inl a ↦ let f = sym a ∙ (c.name.ensures ∙ e) in cc | inr a ↦ let f = sym a ∙ (c.name.ensures ∙ e) in cc ] in
    rw (← c.self.view_is)
    (c.used.ensures ∙ short-used g.M.Mode.mode c.self.inside.threads kept.s kept.count kept.sizes kept.order c.args.commits.now threads other c.self.invariant.0.sizes few is)
