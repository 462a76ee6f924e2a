-- One more event after events that are held together with how often each comes in a row.
use Rattle.std.proofs.Common.{◌≡◌, ℕ, ◌+◌, ◌-◌, List, [], ◌∷◌, ◌++◌, length, set, get_or, sym, ap, ◌∙◌, arith, append_assoc, append-nil}
use Rattle.std.specs.Prelude.{flat_map, replicate}
use Rattle.std.proofs.Math.ListN.{length-append}
use Rattle.std.proofs.Math.Seq.{set-append_seam, get_or-append_seam}
use Rattle.std.proofs.lemmas.List.{replicate-append-replicate}
use Rattle.std.proofs.lemmas.Grind.{flat_map-append}
use Rattle.spec_protocol.specs.declared.event.Event.{Event}
use Rattle.dl_event.specs.declared.events.Repeated.{Repeated}
use Rattle.dl_event.specs.Repeated.{expanded, EndsWith}

all_of : Repeated → List Event
all_of r = replicate r.times r.event

-- a last one comes after the others, as often as it comes
pub expanded-push : (rs : List Repeated) (r : Repeated) → expanded (rs ++ r ∷ []) ≡ expanded rs ++ replicate r.times r.event
unfolding all_of
expanded-push rs r =
    flat_map-append all_of rs (r ∷ []) ∙ ap (λ (es : List Event). flat_map all_of rs ++ es) (append-nil (all_of r))

more_often : ℕ → Repeated → Repeated
more_often n r = record { event = r.event; times = r.times + n }

-- the last one comes that many times more
pub expanded-again : (event : Event) (rs : List Repeated) (count n : ℕ) (r : Repeated) → EndsWith event rs → count ≡ length rs → r ≡ get_or rs (count - 1) r → expanded (set rs (count - 1) (record { event = r.event; times = r.times + n })) ≡ expanded rs ++ replicate n event
unfolding more_often
expanded-again event rs count n r ends all at =
    let b = ends.before in
    let x : Repeated = record { event = event; times = ends.times } in
    let last : count - 1 ≡ length b = (let a = ap (λ (l : List Repeated). length l) ends.is in let l = length-append b (x ∷ []) in omega arith) in
    let is_x : r ≡ x = at ∙ (λ i. get_or (ends.is i) (last i) r) ∙ get_or-append_seam b x [] r in
    let now : set rs (count - 1) (more_often n r) ≡ b ++ more_often n x ∷ [] =
    (λ i. set (ends.is i) (last i) (more_often n (is_x i))) ∙ set-append_seam b x [] (more_often n x)
    in
    ap expanded now ∙ expanded-push b (more_often n x)
    ∙ ap (λ (es : List Event). expanded b ++ es) (sym (replicate-append-replicate ends.times n event))
    ∙ sym (append_assoc (expanded b) (replicate ends.times event) (replicate n event))
    ∙ ap (λ (es : List Event). es ++ replicate n event) (sym (expanded-push b x) ∙ ap expanded (sym ends.is))
