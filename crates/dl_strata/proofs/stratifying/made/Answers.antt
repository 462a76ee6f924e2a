use Rattle.std.proofs.Common.{◌≡◌, List, length, sym, ap, ◌∙◌, subst, arith}
use Rattle.dl_entry.specs.declared.Commit.{Commit}
use Rattle.spec_log.specs.declared.LogParts.{LogParts}
use Rattle.spec_play.specs.Plays.{opened, play}
use Rattle.spec_play.specs.Walks as play
use Rattle.spec_strata.specs.declared.strata.StrataParts.{StrataParts}
use Rattle.spec_strata.specs.Strata.{AreStrata}
use Rattle.spec_strata.specs.Making.{made, cut_off, cut_on, no_cuts, sizes_made}
use Rattle.spec_strata.proofs.Making.Made.{made_are_strata}
use Rattle.dl_strata.proofs.Adding.{all-commits}
use Rattle.dl_strata.proofs.stratifying.made.Goals as goal

pub sizes_of-requires : goal.sizes_of-requires
sizes_of-requires c =
    let log = c.args.log.now in
    let i = c.args.image.now in
    let same = ap (λ (xs : List Commit). length xs) (c.as_slice-commits.ensures ∙ ap (λ (w : play.Walked). w.commits) c.requires.walked) in
    let all = all-commits log i.bytes i.entry c.requires.fits in
    let most = c.parts-parts.ensures.good.count in
    omega (arith, same, all, most)

pub new-requires : goal.new-requires
new-requires c =
    let log = c.args.log.now in
    let i = c.args.image.now in
    let counted : c.len-counted.result ≡ length (play log i.bytes i.entry).threads =
    c.len-counted.ensures.value ∙ ap (λ (w : play.Walked). length w.threads) c.requires.walked in
    let commits = c.as_slice-commits.ensures ∙ ap (λ (w : play.Walked). w.commits) c.requires.walked in
    let parts = c.parts-parts.ensures.parts in
    let v : StrataParts = record {
      counted = c.len-counted.result;
      threads = c.parts-parts.result.now.threads;
      s = c.parts-parts.result.now.s;
      strata = c.in_ok-cut.field-0;
      sizes = c.in_ok-sizes_of.field-0;
      interrupts = c.in_ok-from_slice.field-0;
      inputs = c.in_ok-copy_inputs.field-0;
      dmas = c.in_ok-copy_dmas.field-0;
    } in
    let strata = c.in_ok-cut.ensures ∙ (λ j. cut_off (counted j) (cut_on (counted j) log (opened log i.bytes i.entry) (commits j) no_cuts)) in
    let sizes = c.in_ok-sizes_of.ensures ∙ (λ j. sizes_made (counted j) (commits j) (parts j).sizes) in
    let interrupts = c.in_ok-from_slice.ensures ∙ c.as_slice.ensures ∙ ap (λ (l : LogParts). l.interrupts) parts in
    let inputs = c.in_ok-copy_inputs.ensures ∙ c.as_slice-2.ensures ∙ ap (λ (l : LogParts). l.inputs) parts in
    let dmas = c.in_ok-copy_dmas.ensures ∙ c.as_slice-3.ensures ∙ ap (λ (l : LogParts). l.dmas) parts in
    let is : v ≡ made log i.bytes i.entry = (λ j. record {
      counted = counted j;
      threads = (parts j).threads;
      s = (parts j).s;
      strata = strata j;
      sizes = sizes j;
      interrupts = interrupts j;
      inputs = inputs j;
      dmas = dmas j;
    }) in
    subst AreStrata (sym is) (made_are_strata log i.bytes i.entry c.parts-parts.ensures.good c.requires.fits)
