-- A piece of a replayed sphere's commit counts as no commit: only the thread moves on, and the words fly.
use Rattle.std.proofs.Common.{◌≡◌, ℕ, ◌<◌, Bool, true, length, Option, Some, None, refl, sym, ap, ◌∙◌, subst, arith}
use Rattle.std.specs.Prelude.{slice_get}
use Rattle.dl_entry.specs.declared.Actor.{Actor}
use Rattle.spec_isa.specs.declared.thread.Parts.{Parts}
use Rattle.spec_isa.specs.Runs.{Run, run}
use Rattle.spec_kernel.specs.Devices.{Devices}
use Rattle.spec_engine.specs.declared.answers.How.{How}
use Rattle.spec_sphere.specs.sphere.Spheres.{turn_in, turn_against, Cursor, Role, Replay, Sphere, is_stopped}
use Rattle.spec_sphere.specs.sphere.Spheres.{replays}
use Rattle.spec_sphere.specs.sphere.Commits.{MovedSphere, chunk_in, chunk_moved, laid}
use Rattle.spec_engine.specs.Closing.{is_piece, is_short}
use Rattle.spec_protocol.specs.machine.World.{Numbers, World, OfChunk, Move, sphere_at}
use Rattle.spec_protocol.specs.machine.Machine.{happens}
use Rattle.spec_protocol.specs.machine.Serial.{SerialState}
use Rattle.spec_protocol.specs.machine.Shown.{shown, shown_of}
use Rattle.spec_protocol.specs.machine.Moves.{move_chunk, do_by_kind, do_at, do_move, do_if, FitsChunk, FitsWhat, FitsAt, Fits, FitsIf}
use Rattle.spec_protocol.specs.promises.Promises.{after}
use Rattle.spec_protocol.specs.promises.Pieces.{CountsNothing, PiecesCountNothing}
use Rattle.spec_sphere.proofs.Moves.Joining.{MayGo, may_go, turn_in_order}
use Rattle.spec_strata.proofs.Shares.Steps.{get-set_same}
use Rattle.spec_protocol.proofs.Invariants.Preserved.{shown-get}
use Rattle.spec_protocol.proofs.Invariants.Schedules.{happens-preserved, invariants_hold}
use Rattle.spec_protocol.proofs.Replays.Pieces.{there-is}

-- ---- a piece done whole

abbrev in_piece : Cursor → (thread : ℕ) → Run → Devices → (short : Bool) → Sphere → MovedSphere
in_piece b k r devices short p = chunk_in (Replay b) k true short r devices p

piece_counts : (b : Cursor) (k : ℕ) (r : Run) (devices : Devices) (short : Bool) (p : Sphere) → MayGo b k → CountsNothing b k p (laid (in_piece b k r devices short p))
piece_counts b k r devices short p may =
    record { cursor = _; role = refl; turn = refl; same = λ none. sym (turn_in_order b k may none); progress = refl }

chunk_counts : (b : Cursor) (k : ℕ) (piece short : Bool) (r : Run) (devices : Devices) (p : Sphere) → p.role ≡ Replay b → MayGo b k → piece ≡ true → CountsNothing b k p (laid (chunk_moved k piece short r devices p))
unfolding chunk_moved
chunk_counts b k piece short r devices p role may is =
    subst (λ (v : MovedSphere). CountsNothing b k p (laid v)) (sym (λ j. chunk_in (role j) k (is j) short r devices p)) (piece_counts b k r devices short p may)

-- the sphere that stands at i counts nothing
record Stays (b : Cursor) (k i : ℕ) (p : Sphere) (x : SerialState) : Type 0 where
  sphere : Sphere
  there : slice_get x.spheres i ≡ Some sphere
  counts : CountsNothing b k p sphere

chunk_stays : (z : Numbers) (x : SerialState) (i : ℕ) (b : Cursor) (k : ℕ) (how : How) (n limit : ℕ) (p : Sphere) (o : Option Parts) → slice_get x.spheres i ≡ Some p → p.role ≡ Replay b → is_piece how ≡ true → FitsChunk z p k how n limit o → Stays b k i p (move_chunk z x i k how n limit p o)
unfolding turn_against
chunk_stays z x i b k how n limit p None there role piece fits = absurd fits
chunk_stays z x i b k how n limit p (Some t) there role piece fits =
    let may = may_go b k p (sym (ap is_stopped role) ∙ fits.going) (sym (ap (λ (r : Role). turn_in r p (Actor.Thread k)) role) ∙ fits.turn) in
    let v : MovedSphere = chunk_moved k (is_piece how) (is_short z.s how limit) (run p.memory t n) x.devices p in
    record {
      sphere = laid v;
      there = get-set_same x.spheres i (laid v) p there;
      counts = chunk_counts b k (is_piece how) (is_short z.s how limit) (run p.memory t n) x.devices p role may piece;
    }

move_stays : (z : Numbers) (x : SerialState) (m : Move) (b : Cursor) (k : ℕ) (how : How) (n limit : ℕ) (p : Sphere) → slice_get x.spheres m.sphere ≡ Some p → p.role ≡ Replay b → m.what ≡ OfChunk k how n limit → is_piece how ≡ true → Fits z x m → Stays b k m.sphere p (do_move z x m)
unfolding do_move
move_stays z x m b k how n limit p there role what piece fits =
    let fit : FitsWhat z x.devices p m.what = subst (FitsAt z x.devices m) there fits in
    subst (Stays b k m.sphere p) (sym (ap (do_at z x m) there ∙ ap (do_by_kind z x m.moment m.sphere p) what))
    (chunk_stays z x m.sphere b k how n limit p (slice_get p.threads k) there role piece (subst (FitsWhat z x.devices p) what fit))

-- ---- in the machine

-- a piece counts as no commit
pub pieces_count : PiecesCountNothing
unfolding shown
pieces_count s es i b is role event m k how n limit is_move of_i what piece =
    let w : World = after s es in
    let v : World = (happens w event).world in
    let kept = happens-preserved w event (invariants_hold s es is) in
    let p : Sphere = shown w.slots i (sphere_at w i) in
    let q : Sphere = shown v.slots i (sphere_at v i) in
    let l : i < length w.spheres = there-is w i (ap replays role) in
    let before_ : slice_get (shown_of w).spheres i ≡ Some p = shown-get w.slots i w.spheres l in
    let after_ : slice_get (shown_of v).spheres i ≡ Some q = shown-get v.slots i v.spheres (let h = kept.sizes.spheres in omega (arith, l)) in
    let fits : Fits w.numbers (shown_of w) m = subst (FitsIf w.numbers (shown_of w)) is_move kept.fits in
    let st : Stays b k m.sphere p (do_move w.numbers (shown_of w) m) = move_stays w.numbers (shown_of w) m b k how n limit p (ap (slice_get (shown_of w).spheres) of_i ∙ before_) role what piece fits in
    let whole : shown_of v ≡ do_move w.numbers (shown_of w) m = kept.whole ∙ ap (do_if w.numbers (shown_of w)) is_move in
    let same : st.sphere ≡ q =
    (let h : Some st.sphere ≡ Some q = sym st.there ∙ ap (λ (x : SerialState). slice_get x.spheres m.sphere) (sym whole) ∙ ap (slice_get (shown_of v).spheres) of_i ∙ after_ in cc) in
    let c : CountsNothing b k p q = subst (CountsNothing b k p) same st.counts in
    record { cursor = c.cursor; role = c.role; turn = c.turn; same = c.same; progress = c.progress }
