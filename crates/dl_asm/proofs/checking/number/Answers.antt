use Rattle.std.proofs.Common.{◌∙◌, Some, cond, sym, refl, ap}
use Rattle.std.specs.Option.{option_map, option_or}
use Rattle.dl_asm.specs.Numbers.{number_in, number_capped}
use Rattle.dl_asm.specs.Values.{address_number}
use Rattle.dl_asm.specs.Sources.{number_by_label}
use Rattle.dl_asm.proofs.Numbers.Statements.{number-by-place, none-capped, place-words}
use Rattle.dl_asm.proofs.checking.number.Goals as goal

pub returns-then-is_empty : goal.returns-then-is_empty
returns-then-is_empty c = λ places is.
    let value = c.args.value.now in
    ap Some (c.address.ensures 0 refl)
    ∙ sym (ap (λ b. option_map number_capped (cond b (Some (address_number 0)) (option_or (number_in value) (option_map (number_by_label c.args.form c.args.here) (places value))))) (sym c.is_empty.ensures ∙ c.if-is_empty.true))

pub returns : goal.returns
returns c = λ places is.
    let value = c.args.value.now in
    let by_label = option_map (number_by_label c.args.form c.args.here) (places value) in
    let place = place-words c.args.labels.now places value c.in_ok-place.place is c.in_ok-place.ensures in
    let none = none-capped (number_in value) c.in_default.ensures in
    number-by-place (number_by_label c.args.form c.args.here) (places value) c.in_ok-place.place.words c.number_by_label.result place c.number_by_label.ensures
    ∙ sym (ap (λ o. option_map number_capped (option_or o by_label)) none)
    ∙ sym (ap (λ b. option_map number_capped (cond b (Some (address_number 0)) (option_or (number_in value) by_label))) (sym c.is_empty.ensures ∙ c.if-is_empty.false))
