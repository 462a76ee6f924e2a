-- The event Dma keeps the invariant.
use Rattle.std.proofs.Common.{◌≡◌, ℕ, ◌<◌, inl, inr, false, List, length, Some, None, refl, sym, ap, ◌∙◌, subst}
use Rattle.std.specs.Prelude.{slice_get, option_map, IsSome}
use Rattle.std.proofs.Math.ListN.{length-set}
use Rattle.std.proofs.lemmas.Bool.{or_parts, cases_eq}
use Rattle.dl_entry.specs.declared.Actor.{Actor}
use Rattle.dl_entry.specs.declared.Why.{Why}
use Rattle.spec_isa.specs.declared.thread.Parts.{Parts}
use Rattle.spec_isa.specs.Words.{Apart}
use Rattle.spec_engine.specs.Signatures.{Signature, hits, nothing, signed}
use Rattle.spec_engine.specs.Flights.{Flight, first_slot, is_full, meets_chunk}
use Rattle.spec_engine.specs.Laws.{CoversWords}
use Rattle.spec_engine.proofs.Searches.{first_none, told-zero}
use Rattle.spec_sphere.specs.sphere.Commits.{Granted, Diverged, MovedSphere}
use Rattle.spec_protocol.specs.machine.World.{World, sphere_at, flown, answered}
use Rattle.spec_protocol.specs.machine.Transferring.{dma_move, dma_done, dma_with, transferring}
use Rattle.spec_sphere.specs.sphere.Spheres.{replays}
use Rattle.spec_protocol.specs.machine.Serial.{do_moved, do_dma}
use Rattle.spec_engine.specs.Flying.{flying}
use Rattle.spec_protocol.specs.machine.Shown.{shown_of}
use Rattle.spec_protocol.specs.machine.Moves.{do_at, do_move, FitsAt, Fits}
use Rattle.spec_sphere.proofs.Memory.Laying.{AllLack_flip}
use Rattle.spec_protocol.proofs.Memory.Slots.{flown-flew}
use Rattle.spec_protocol.proofs.Memory.Covering.{bits-signed, CoversWords-signed, apart-covered, flying-all_lack}
use Rattle.spec_sphere.proofs.Moves.Granted.{Divergence}
use Rattle.spec_sphere.proofs.Moves.AnyMemory.{relaid, dma-relaid}
use Rattle.spec_sphere.proofs.Moves.Transfers.{DmaMoves, dma-lives, dma-moves}
use Rattle.spec_protocol.proofs.Invariants.Preserved.{Preserved, point-made, point-other, unchanged-preserved}
use Rattle.spec_protocol.proofs.Moves.AnyEvent.{Transfers, any-transfer}
use Rattle.spec_protocol.proofs.Invariants.Landing.{landed-held, elsewhere-held, moved-shown}
use Rattle.spec_protocol.proofs.Invariants.Granting.{stopped-good, stopped-shown}
use Rattle.spec_protocol.proofs.Invariants.Asks.{shown_at, shown_over, turn_over}
use Rattle.spec_play.specs.Touching.{AllLack}
use Rattle.spec_protocol.specs.promises.Invariants.{IsFlightCovered, current, IsGood}

moves_of : (w : World) (i : ℕ) (v : MovedSphere) → Transfers w i v → DmaMoves w.devices (sphere_at w i) v
moves_of w i v t = dma-moves w.devices (sphere_at w i) v t.going t.turn t.is

abbrev marks_of : World → (i : ℕ) → MovedSphere → Signature
marks_of w i v = signed i v.words (nothing w.numbers.bits)

abbrev dma_flight : World → (i : ℕ) → MovedSphere → Flight
dma_flight w i v = record { sphere = i; words = v.words; writes = marks_of w i v; told = 0 }

dma_covered : (w : World) (i : ℕ) (v : MovedSphere) → IsFlightCovered w.numbers.bits (dma_flight w i v)
dma_covered w i v =
    record {
      size = bits-signed i v.words (nothing w.numbers.bits);
      words = CoversWords-signed i v.words (nothing w.numbers.bits);
    }

dma_lacks : (w : World) (i : ℕ) (v : MovedSphere) → IsGood w → first_slot (meets_chunk (marks_of w i v) (marks_of w i v)) w.slots ≡ None → AllLack v.words (flying i w.slots)
dma_lacks w i v good none =
    let g = marks_of w i v in
    let c = dma_covered w i v in
    flying-all_lack i v.words w.slots
    (λ k f is same.
    let cov = good.covered k f is in
    AllLack_flip f.words v.words
    (apart-covered i f.writes g f.words v.words (c.size ∙ sym cov.size) (subst (λ (n : ℕ). CoversWords n f.writes f.words) same cov.words) c.words
    (or_parts (hits f.writes g) (hits f.writes g) (first_none (meets_chunk g g) w.slots none k f is)).0))

-- ---- done whole

dma_whole : (w : World) (i : ℕ) (v : MovedSphere) → Transfers w i v → do_move w.numbers (shown_of w) (dma_move w i) ≡ do_moved (shown_of w) i (relaid (current w i) v)
unfolding do_move
dma_whole w i v t =
    let m = current w i in
    ap (do_at w.numbers (shown_of w) (dma_move w i)) (shown_at w i t.within ∙ ap Some (shown_over w i))
    ∙ ap (do_dma (shown_of w) i) (dma-relaid w.devices (sphere_at w i) m ∙ ap (option_map (relaid m)) t.is)

dma_fits : (w : World) (i : ℕ) (v : MovedSphere) → Transfers w i v → Fits w.numbers (shown_of w) (dma_move w i)
dma_fits w i v t =
    let m = current w i in
    subst (FitsAt w.numbers w.devices (dma_move w i)) (sym (shown_at w i t.within ∙ ap Some (shown_over w i)))
    (record { going = t.going; turn = turn_over (sphere_at w i) Actor.Dma m ∙ t.turn; moves = subst IsSome (sym (dma-relaid w.devices (sphere_at w i) m ∙ ap (option_map (relaid m)) t.is)) refl })

-- ---- the event

done_good : (w : World) (i : ℕ) (v : MovedSphere) → IsGood w → Transfers w i v → is_full w.slots ≡ false → first_slot (meets_chunk (marks_of w i v) (marks_of w i v)) w.slots ≡ None → IsGood (dma_done w i (marks_of w i v) v).world
done_good w i v good t free none =
    let moves = moves_of w i v t in
    let f = dma_flight w i v in
    let flew = flown-flew i v.words (marks_of w i v) 0 w.slots free (good.apart i) moves.apart (dma_lacks w i v good none) in
    let u = (dma_done w i (marks_of w i v) v).world in
    let count = length-set w.spheres i v.sphere in
    record {
      buffer = good.buffer;
      standard = good.standard;
      apart = λ j. elim (cases_eq j i) [
        | inl e ↦ subst (λ (n : ℕ). Apart (flying n u.slots)) (sym e) flew.apart
        | inr ne ↦ subst Apart (sym (flew.others j ne)) (good.apart j)
      ];
      covered = λ k x e. elim (flew.stood k x e) [
        | inl p ↦ good.covered k x p
        | inr p ↦ subst (IsFlightCovered w.numbers.bits) (sym p) (dma_covered w i v)
      ];
      flights = λ k x e. subst (λ (n : ℕ). x.sphere < n) (sym count) (elim (flew.stood k x e) [
        | inl p ↦ good.flights k x p
        | inr p ↦ subst (λ (y : Flight). y.sphere < length w.spheres) (sym p) t.within
      ]);
      held = λ d x e. elim (cases_eq x.chunk.sphere i) [
        | inl same ↦ landed-held w i v.sphere f u.slots w.cores v.devices d x same
            (record {
              within = t.within;
              flew = flew;
              sphere = refl;
              covered = dma_covered w i v;
              untold = told-zero d;
              memory = moves.memory;
              keeps = record {
                threads = λ u h. ap (λ (ts : List Parts). slice_get ts x.thread) moves.threads ∙ h;
                halving = moves.halving;
                replaying = moves.replaying;
                going = λ h. t.going;
                limits = λ h u. moves.limits w.numbers.s x.thread u h;
                after = λ h u. moves.after w.numbers.s x.thread u;
              };
            })
            (good.held d x e)
        | inr ne ↦ elsewhere-held w i v.sphere f u.slots w.cores v.devices d x ne flew (good.held d x e)
      ];
      alone = good.alone;
    }

done_preserved : (w : World) (i : ℕ) (v : MovedSphere) → IsGood w → Transfers w i v → is_full w.slots ≡ false → first_slot (meets_chunk (marks_of w i v) (marks_of w i v)) w.slots ≡ None → Preserved w (dma_done w i (marks_of w i v) v)
done_preserved w i v good t free none =
    let moves = moves_of w i v t in
    let flew = flown-flew i v.words (marks_of w i v) 0 w.slots free (good.apart i) moves.apart (dma_lacks w i v good none) in
    record {
      good = done_good w i v good t free none;
      sizes = record { numbers = refl; spheres = length-set w.spheres i v.sphere; cores = refl; slots = flew.size };
      point = point-made w.numbers (replays (sphere_at w i).role) (dma_move w i);
      whole = moved-shown w i v (dma_flight w i v) (flown i v.words (marks_of w i v) 0 w.slots) w.cores moves.memory refl flew ∙ sym (dma_whole w i v t);
      fits = dma_fits w i v t;
    }

diverged_preserved : (w : World) (i : ℕ) (v : MovedSphere) (j : ℕ) (why : Why) → IsGood w → Transfers w i v → v.outcome ≡ Diverged j why → Preserved w (dma_with w i v (Diverged j why))
diverged_preserved w i v j why good t is =
    let moves = moves_of w i v t in
    let d : Divergence w.devices (sphere_at w i) v (Diverged j why) = subst (Divergence w.devices (sphere_at w i) v) is moves.divergence in
    record {
      good = stopped-good w i v.sphere good (record { within = t.within; memory = moves.memory; threads = d.2; halving = moves.halving; replaying = moves.replaying; stopped = d.3 });
      sizes = record { numbers = refl; spheres = length-set w.spheres i v.sphere; cores = refl; slots = refl };
      point = point-other w.numbers (replays (sphere_at w i).role) (dma_move w i) _
          (λ live. let e : Granted ≡ Diverged j why = sym (dma-lives w.devices (sphere_at w i) v live t.is) ∙ is in cc) tt;
      whole = stopped-shown w i v good moves.memory d.0 d.1 ∙ sym (dma_whole w i v t);
      fits = dma_fits w i v t;
    }

-- the event Dma keeps the invariant
pub dma-preserved : (w : World) (i : ℕ) → IsGood w → Preserved w (transferring w i)
dma-preserved w i good =
    any-transfer w (Preserved w) (λ r none. unchanged-preserved w (answered w r) refl refl refl good) i
    (λ v t free none. done_preserved w i v good t free none)
    (λ v j why t is. diverged_preserved w i v j why good t is)
