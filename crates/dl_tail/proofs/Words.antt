-- Readers of words, of bytes as they are, and of entries that need not be in order.
use Rattle.std.proofs.Common.{◌≡◌, ℕ, ◌+◌, true, nat_lt, List, [], ◌∷◌, ◌++◌, length, take, drop, Option, Some, None, Ok, Err, refl, ap, sym, ◌∙◌, arith}
use Rattle.std.proofs.lemmas.Bool.{ltb-false}
use Rattle.std.proofs.lemmas.List.{length-drop, length-take-le}
use Rattle.spec_log.specs.declared.fault.Fault.{Fault}
use Rattle.spec_log.specs.Fields.{Read, Reader, raw, comes_after, last, one_more}
use Rattle.dl_logfmt.proofs.Codes.{untested}

-- bytes that are read as they are, are so many
pub raw-length : (width : ℕ) (bytes : List ℕ) (at : ℕ) (x : List ℕ) (after : ℕ) → raw width bytes at ≡ Ok (record { value = x; after = after }) → length x ≡ width
raw-length width bytes at x after e =
    let r : Read (List ℕ) = record { value = take width (drop at bytes); after = at + width } in
    let t = untested (nat_lt (length bytes) (at + width)) r (record { value = x; after = after }) (record { number = 1; offset = length bytes }) e in
    let long = ltb-false (length bytes) (at + width) t.0 in
    let count = length-drop at bytes in
    ap length (sym (ap (λ (z : Read (List ℕ)). z.value) t.1)) ∙ length-take-le width (drop at bytes) (omega (arith, long, count))

any-after : {X : Type 0} (o : Option X) (x : X) → comes_after (λ x y. true) o x ≡ true
any-after None x = refl
any-after (Some y) x = refl

-- one entry more, in any order
module _ {X : Type 0} (entry : Reader X) (xs : List X) (bytes : List ℕ) (at : ℕ) where
  pub more-read : (x : X) (after : ℕ) → entry bytes at ≡ Ok (record { value = x; after = after })
      → one_more (λ x y. true) entry xs bytes at ≡ Ok (record { value = xs ++ x ∷ []; after = after })
  more-read x after e = rw (e, any-after (last xs) x) refl

  pub more-not : (fault : Fault) → entry bytes at ≡ Err fault → one_more (λ x y. true) entry xs bytes at ≡ Err fault
  more-not fault e = rw e refl
