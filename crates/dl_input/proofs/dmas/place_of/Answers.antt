use Rattle.std.proofs.Common.{◌≡◌, ◌<◌, length, get_or, arith, ap, sym, ◌∙◌}
use Rattle.std.proofs.lemmas.List.{get_or_default}
use Rattle.spec_log.specs.declared.records.DmaRecord.{DmaRecord}
use Rattle.dl_input.proofs.Positions.{bytes_at-found, bytes_at-missed, taken_at-found, taken_at-missed}
use Rattle.dl_input.proofs.dmas.place_of.Goals as goal
use Rattle.dl_input.proofs.dmas.place_of.Goals.{else-place-dmas-via-then-place-dmas+else-dmas-place, else-place-dmas-via-else-place-dmas}

pub returns-then-dmas-place : goal.returns-then-dmas-place
returns-then-dmas-place c =
    let dmas = c.args.dmas.now in
    let place = c.lowest-place.result in
    let within = c.if-place-dmas.true in
    let same_position : (d : DmaRecord) → (get_or dmas place d).position ≡ c.args.position =
    λ d. ap (λ (m : DmaRecord). m.position) (get_or_default dmas place d c.index-dmas-place.result within) ∙ c.if-dmas-place.true in
    record {
      within = within;
      bytes = λ d. sym (bytes_at-found c.args.position dmas place (get_or dmas place d) within c.lowest-place.ensures.below
          (get_or_default dmas place d (get_or dmas place d) within) (same_position d));
      take = λ taken same. taken_at-found c.args.position dmas taken place same within c.lowest-place.ensures.below same_position;
    }

pub returns-else-place-dmas : goal.returns-else-place-dmas
returns-else-place-dmas c =
    let dmas = c.args.dmas.now in
    let place = c.lowest-place.result in
    let above : (d : DmaRecord) → place < length dmas → c.args.position < (get_or dmas place d).position =
    elim c.else-place-dmas.branch [
      | else-place-dmas-via-then-place-dmas+else-dmas-place w ↦
          λ d h. let at = ap (λ (m : DmaRecord). m.position) (get_or_default dmas place d w.index-dmas-place.result h) in
          omega (arith, c.lowest-place.ensures.above place d (omega arith) h, w.if-dmas-place.false)
      | else-place-dmas-via-else-place-dmas w ↦ λ d h. absurd (omega (arith, w.if-place-dmas.false))
    ] in
    record {
      bytes = sym (bytes_at-missed c.args.position dmas place c.requires c.lowest-place.ensures.below above);
      take = λ taken same. taken_at-missed c.args.position dmas taken place same c.requires c.lowest-place.ensures.below above;
    }
