use Rattle.std.proofs.Common.{◌≡◌, ◌+◌, ◌<◌, [], ◌∷◌, ◌++◌, map, Some, None, refl, sym, ap, ◌∙◌, subst}
use Rattle.std.specs.Prelude.{replicate}
use Rattle.std.proofs.lemmas.Bool.{true≢false}
use Rattle.spec_strata.specs.declared.touch.Touch.{Touch}
use Rattle.spec_strata.specs.declared.touch.Touch.TheVariants.{Untouched}
use Rattle.spec_play.specs.Turns.{Turn}
use Rattle.spec_play.specs.Plays.{play_turn}
use Rattle.spec_strata.specs.declared.stratum.Stratum.TheVariants.{Chunks}
use Rattle.spec_strata.specs.Making.{Cuts, chunk_cut}
use Rattle.dl_strata.specs.Tables.{Table}
use Rattle.dl_strata.specs.Cutting.{Cutting, HasCut, IsCounted, closed_strata}
use Rattle.dl_strata.proofs.Cuts.{begins-cut, first-cut, apart-cut, joins-cut, on-ok}
use Rattle.dl_strata.proofs.cutter.Cutter.add_chunk.Goals as goal

pub returns-in_default-clause-cut : goal.returns-in_default-clause-cut
returns-in_default-clause-cut c log y x next cut =
    let i = c.self.inside in
    let old : Cutting = record { counted = i.counted; strata = i.strata; present = i.present; table = i.touches } in
    let k = c.args.thread in
    let f = c.args.footprint.now in
    let here : HasCut old y x = subst (λ (v : Cutting). HasCut v y x) (sym c.self.view_is) cut in
    let l : k < old.counted = subst (λ (v : Cutting). k < v.counted) (sym c.self.view_is) c.requires.thread in
    let count = ap (λ (v : Cutting). chunk_cut v.counted log y k x) (sym c.self.view_is) in
    let none : i.present ≡ None = sym c.in_default.ensures.value in
    let same = count ∙ first-cut old log y x k here none in
    on-ok c.begin.result _ _
    (λ b. subst (λ (w : Cuts). HasCut c.begin.new.self (play_turn log y (Turn k)) w) (sym same)
    (begins-cut old c.begin.new.self i.strata c.take.new.self log y x k f l next here (sym (ap (closed_strata i.strata) none)) b))
    c.begin.ensures

pub returns-then-joins-clause-cut : goal.returns-then-joins-clause-cut
returns-then-joins-clause-cut c log y x next cut =
    let i = c.self.inside in
    let old : Cutting = record { counted = i.counted; strata = i.strata; present = i.present; table = i.touches } in
    let k = c.args.thread in
    let f = c.args.footprint.now in
    let here : HasCut old y x = subst (λ (v : Cutting). HasCut v y x) (sym c.self.view_is) cut in
    let l : k < old.counted = subst (λ (v : Cutting). k < v.counted) (sym c.self.view_is) c.requires.thread in
    let count = ap (λ (v : Cutting). chunk_cut v.counted log y k x) (sym c.self.view_is) in
    let some : i.present ≡ Some c.in-Some.counts = sym c.in-Some.ensures.value in
    let can = c.if-joins.ensures.joins.0 refl in
    subst (λ (w : Cuts). HasCut c.count.new.self (play_turn log y (Turn k)) w) (sym count)
    (joins-cut old c.count.new.self c.take.new.self log y x k f c.in-Some.counts l next here some can.0 can.1 c.count.ensures)

pub returns-clause-cut : goal.returns-clause-cut
returns-clause-cut c log y x next cut =
    let i = c.self.inside in
    let old : Cutting = record { counted = i.counted; strata = i.strata; present = i.present; table = i.touches } in
    let k = c.args.thread in
    let f = c.args.footprint.now in
    let here : HasCut old y x = subst (λ (v : Cutting). HasCut v y x) (sym c.self.view_is) cut in
    let l : k < old.counted = subst (λ (v : Cutting). k < v.counted) (sym c.self.view_is) c.requires.thread in
    let count = ap (λ (v : Cutting). chunk_cut v.counted log y k x) (sym c.self.view_is) in
    let some : i.present ≡ Some c.in-Some.counts = sym c.in-Some.ensures.value in
    let same = count ∙ apart-cut old log y x k f c.in-Some.counts l next here some c.if-joins.ensures.most (λ p. true≢false (sym (c.if-joins.ensures.joins.1 p))) in
    on-ok c.begin-2.result _ _
    (λ b. subst (λ (w : Cuts). HasCut c.begin-2.new.self (play_turn log y (Turn k)) w) (sym same)
    (begins-cut old c.begin-2.new.self (i.strata ++ Chunks c.in-Some.counts ∷ []) c.take.new.self log y x k f l next here (sym (ap (closed_strata i.strata) some))
    (subst (λ (v : Cutting).
    let t : Table = record { stratum = v.table.stratum + 1; touches = map (λ (t : Touch). Untouched) v.table.touches } in
    let from : Cutting = record { counted = v.counted; strata = v.strata; present = v.present; table = t } in
    IsCounted from (replicate v.counted 0) k f c.begin-2.new.self) c.in_ok-push.ensures b)))
    c.begin-2.ensures
