use Rattle.std.proofs.Common.{◌≡◌, ◌+◌, ◌*◌, ◌∷◌, [], arith, ap, sym, ◌∙◌, add-one, drop, drop-cons, get_or}
use Rattle.std.specs.Char.{digit_value}
use Rattle.std.specs.Str.Parse.{digits_value_after}
use Rattle.std.proofs.lemmas.List.{drop_all}
use Rattle.dl_asm.specs.Numbers.{capped}
use Rattle.dl_asm.proofs.Numbers.Digits.{capped-before}
use Rattle.dl_asm.proofs.number.value.Goals as goal

pub loop-byte-preserved : goal.loop-byte-preserved
loop-byte-preserved c =
    let ds = c.args.digits.now in
    let i = c.loop-byte.byte-index in
    let radix = c.args.radix in
    let next : c.min-number.result ≡ capped (c.loop-byte.number * radix + digit_value (get_or ds i 0)) = omega arith in
    let front : drop i ds ≡ get_or ds i 0 ∷ drop (i + 1) ds = rw add-one (drop-cons ds i 0 c.loop-byte-test.true) in
    record {
      value = ap (λ k. capped (digits_value_after radix k (drop (i + 1) ds))) next ∙ capped-before radix _ (drop (i + 1) ds) c.requires.some
          ∙ sym (ap (λ t. capped (digits_value_after radix c.loop-byte.number t)) front) ∙ c.loop-byte.invariant.value;
      fits = omega arith;
    }

pub returns : goal.returns
returns c =
    let ds = c.args.digits.now in
    let i = c.loop-byte.byte-index in
    let end : drop i ds ≡ [] = drop_all i ds (omega arith) in
    let fits : c.loop-byte.number ≡ capped c.loop-byte.number = omega (arith, c.loop-byte.invariant.fits) in
    fits ∙ sym (ap (λ t. capped (digits_value_after c.args.radix c.loop-byte.number t)) end) ∙ c.loop-byte.invariant.value
