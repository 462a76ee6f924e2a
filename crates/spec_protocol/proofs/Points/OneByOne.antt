-- Points done one at a time, from the first to the last: what each of them keeps of a recorded sphere holds in the end.
use Rattle.std.proofs.Common.{◌≡◌, ◌≢◌, ℕ, inl, inr, Bool, true, false, eqb, cond, List, [], ◌∷◌, ◌++◌, Option, Some, None, refl, sym, ap, ◌∙◌, subst}
use Rattle.std.specs.Prelude.{slice_get, IsSome}
use Rattle.std.proofs.lemmas.Bool.{true≢false, cases_Bool, eqb-true, eq-eqb}
use Rattle.std.proofs.lemmas.List.{append_assoc, append-nil}
use Rattle.std.proofs.lemmas.Option.{get_or_from_slice_get}
use Rattle.dl_entry.specs.declared.Actor.{Actor}
use Rattle.dl_entry.specs.declared.CommitKind.{CommitKind}
use Rattle.dl_entry.specs.declared.Point.{Point}
use Rattle.dl_entry.specs.declared.Request.{Request}
use Rattle.spec_isa.specs.declared.thread.Parts.{Parts}
use Rattle.spec_isa.specs.Runs.{run}
use Rattle.spec_kernel.specs.Needs.{need}
use Rattle.spec_kernel.specs.Answers.{taken, dma_bytes}
use Rattle.spec_sphere.specs.sphere.Spheres.{Recording, Role, Plain, Record, Replay, Sphere, no_sphere}
use Rattle.spec_sphere.specs.sphere.Commits.{MovedSphere, chunk_in, chunk_moved, serial_in, serial_moved, live_dma, dma_log, dma_in, dma_moved, raised, laid}
use Rattle.spec_protocol.specs.machine.Serial.{SerialState, do_moved, do_chunk, do_serial, do_dma, do_raise, do_kind, in_live, do_commit, do_interrupt, do_point, do_points, CanChunk, CanSerial, CanTake, CanKind, InLive, CanCommit, CanInterrupt, CanDo, CanDoAll}
use Rattle.spec_sphere.specs.sphere.Logged.{Supplied, answer_to, bytes_for, is_of}
use Rattle.spec_protocol.specs.machine.Logged.{sphere_in, input_at, bytes_at, supplied}
use Rattle.spec_strata.proofs.Shares.Steps.{get-set_other, get-set_same}
use Rattle.spec_protocol.proofs.Moves.Elsewhere.{serial-away, dma-away, raise-away}
use Rattle.spec_protocol.proofs.Invariants.Preserved.{sphere_of_point}
use Rattle.spec_sphere.proofs.PlayingBack.Moves.{recorded_serial, recorded_dma}
use Rattle.spec_sphere.proofs.Points.Kept.{IsKeptByPoints}

-- ---- what points keep

-- it holds of sphere i
pub record HoldsIn (K : List Supplied → Sphere → Type 0) (i : ℕ) (cs : List Supplied) (x : SerialState) : Type 0 where
  pub sphere : Sphere
  pub there : slice_get x.spheres i ≡ Some sphere
  pub holds : K cs sphere

-- ---- in its sphere

at_once : (K : List Supplied → Sphere → Type 0) (i : ℕ) (cs : List Supplied) (x : SerialState) (p : Sphere) (v : MovedSphere) → slice_get x.spheres i ≡ Some p → K cs (laid v) → HoldsIn K i cs (do_moved x i v)
at_once K i cs x p v is keeps = record { sphere = laid v; there = get-set_same x.spheres i (laid v) p is; holds = keeps }

-- a point, with what comes from outside at it
abbrev pub supplied_at : SerialState → Point → Supplied
supplied_at x q = record { point = q; input = input_at x q; bytes = bytes_at x q }

-- the points so far, and the state that they leave
module _ (K : List Supplied → Sphere → Type 0) (steps : IsKeptByPoints K) (cs : List Supplied) (x : SerialState) where
  chunk_kept : (moment i k size : ℕ) (short : Bool) (p : Sphere) (o : Option Parts) → slice_get x.spheres i ≡ Some p → K cs p → slice_get p.threads k ≡ o → CanChunk size p o
      → HoldsIn K i (cs ++ record { point = Point.Commit moment i (Actor.Thread k) CommitKind.Chunk size short; input = None; bytes = [] } ∷ []) (do_chunk x i k size short p o)
  unfolding chunk_moved
  chunk_kept moment i k size short p None is keeps thread can = absurd can
  chunk_kept moment i k size short p (Some t) is keeps thread can =
      let all = cs ++ record { point = Point.Commit moment i (Actor.Thread k) CommitKind.Chunk size short; input = None; bytes = [] } ∷ [] in
      subst (λ (v : MovedSphere). HoldsIn K i all (do_moved x i v))
      (sym (ap (λ (r : Role). chunk_in r k false short (run p.memory t size) x.devices p) (steps.role cs p keeps).1))
      (at_once K i all x p (chunk_in (Record (steps.role cs p keeps).0) k false short (run p.memory t size) x.devices p) is (steps.chunk cs moment i k size short p t x.devices (steps.role cs p keeps).0 keeps (steps.role cs p keeps).1 thread can.ran))

  serial_kept : (moment i k size : ℕ) (short : Bool) (p : Sphere) (o : Option Parts) → slice_get x.spheres i ≡ Some p → K cs p → slice_get p.threads k ≡ o → CanSerial size p o
      → HoldsIn K i (cs ++ record { point = Point.Commit moment i (Actor.Thread k) CommitKind.Serial size short; input = answer_to x.devices moment p o; bytes = [] } ∷ []) (do_serial x i k moment p o)
  unfolding serial_moved
  serial_kept moment i k size short p None is keeps thread can = absurd can
  serial_kept moment i k size short p (Some t) is keeps thread can =
      let all = cs ++ record { point = Point.Commit moment i (Actor.Thread k) CommitKind.Serial size short; input = (taken (need t p.memory) x.devices moment).input; bytes = [] } ∷ [] in
      subst (λ (v : MovedSphere). HoldsIn K i all (do_moved x i v))
      (sym (ap (λ (r : Role). serial_in r k moment t x.devices p) (steps.role cs p keeps).1))
      (at_once K i all x p (recorded_serial (steps.role cs p keeps).0 p k moment t x.devices) is (steps.serial cs moment i k size short p t x.devices (steps.role cs p keeps).0 keeps (steps.role cs p keeps).1 thread can.empty))

  dma_kept : (moment i : ℕ) (short : Bool) (p : Sphere) (o : Option Request) → slice_get x.spheres i ≡ Some p → K cs p → p.progress.request ≡ o → IsSome o
      → HoldsIn K i (cs ++ record { point = Point.Commit moment i Actor.Dma CommitKind.Dma 0 short; input = None; bytes = bytes_for x.devices o } ∷ []) (do_dma x i (dma_moved x.devices p))
  unfolding dma_moved
  dma_kept moment i short p None is keeps asked some = absurd (true≢false (sym some))
  dma_kept moment i short p (Some request) is keeps asked some =
      let r : Recording = (steps.role cs p keeps).0 in
      let all = cs ++ record { point = Point.Commit moment i Actor.Dma CommitKind.Dma 0 short; input = None; bytes = dma_bytes x.devices request } ∷ [] in
      subst (λ (v : Option MovedSphere). HoldsIn K i all (do_dma x i v))
      (sym (ap (λ (r : Role). dma_in r x.devices p) (steps.role cs p keeps).1 ∙ (λ j. live_dma (Record (record r { log = dma_log r.log x.devices p (asked j) })) x.devices p (asked j))))
      (at_once K i all x p (recorded_dma r p x.devices request) is (steps.dma cs moment i short p request x.devices r keeps (steps.role cs p keeps).1))

  raise_kept : (moment i k value : ℕ) (p : Sphere) (o : Option Parts) → slice_get x.spheres i ≡ Some p → K cs p → slice_get p.threads k ≡ o → CanTake o
      → HoldsIn K i (cs ++ record { point = Point.Raise moment i k value; input = None; bytes = [] } ∷ []) (do_raise x i k value p o)
  raise_kept moment i k value p None is keeps thread can = absurd can
  raise_kept moment i k value p (Some t) is keeps thread can =
      record { sphere = raised k value t p; there = get-set_same x.spheres i (raised k value t p) p is; holds = steps.raise cs moment i k value p t (steps.role cs p keeps).0 keeps (steps.role cs p keeps).1 thread can }

  kind_kept : (moment i : ℕ) (actor : Actor) (kind : CommitKind) (size : ℕ) (short : Bool) (p : Sphere) → slice_get x.spheres i ≡ Some p → K cs p → CanKind x.devices actor kind size p
      → HoldsIn K i (cs ++ supplied_at x (Point.Commit moment i actor kind size short) ∷ []) (do_kind x moment i actor kind size short p)
  kind_kept moment i (Actor.Thread k) CommitKind.Chunk size short p is keeps can = chunk_kept moment i k size short p (slice_get p.threads k) is keeps refl can
  kind_kept moment i (Actor.Thread k) CommitKind.Serial size short p is keeps can =
      subst (λ (r : Sphere). HoldsIn K i (cs ++ record { point = Point.Commit moment i (Actor.Thread k) CommitKind.Serial size short; input = answer_to x.devices moment r (slice_get r.threads k); bytes = [] } ∷ []) (do_serial x i k moment p (slice_get p.threads k)))
      (sym (get_or_from_slice_get x.spheres i p no_sphere is))
      (serial_kept moment i k size short p (slice_get p.threads k) is keeps refl can)
  kind_kept moment i (Actor.Thread k) CommitKind.Dma size short p is keeps can = absurd can
  kind_kept moment i (Actor.Thread k) CommitKind.Piece size short p is keeps can = absurd can
  kind_kept moment i Actor.Dma CommitKind.Chunk size short p is keeps can = absurd can
  kind_kept moment i Actor.Dma CommitKind.Serial size short p is keeps can = absurd can
  kind_kept moment i Actor.Dma CommitKind.Piece size short p is keeps can = absurd can
  kind_kept moment i Actor.Dma CommitKind.Dma size short p is keeps can =
      subst (λ (n : ℕ). HoldsIn K i (cs ++ record { point = Point.Commit moment i Actor.Dma CommitKind.Dma n short; input = None; bytes = bytes_for x.devices (sphere_in x i).progress.request } ∷ []) (do_dma x i (dma_moved x.devices p))) (sym can.0)
      (subst (λ (r : Sphere). HoldsIn K i (cs ++ record { point = Point.Commit moment i Actor.Dma CommitKind.Dma 0 short; input = None; bytes = bytes_for x.devices r.progress.request } ∷ []) (do_dma x i (dma_moved x.devices p)))
      (sym (get_or_from_slice_get x.spheres i p no_sphere is))
      (dma_kept moment i short p p.progress.request is keeps refl can.1))

  point_kept : (q : Point) → HoldsIn K (sphere_of_point q) cs x → CanDo x q → HoldsIn K (sphere_of_point q) (cs ++ supplied_at x q ∷ []) (do_point x q)
  unfolding do_point
  point_kept (Point.Commit moment i actor kind size short) k can =
      let p : Sphere = k.sphere in
      let all = cs ++ supplied_at x (Point.Commit moment i actor kind size short) ∷ [] in
      let fits : CanKind x.devices actor kind size p = subst (λ (r : Role). InLive r (CanKind x.devices actor kind size p)) (steps.role cs p k.holds).1 (subst (CanCommit x.devices actor kind size) k.there can) in
      subst (HoldsIn K i all)
      (sym (ap (do_commit x moment i actor kind size short) k.there ∙ ap (λ (r : Role). in_live r x (do_kind x moment i actor kind size short p)) (steps.role cs p k.holds).1))
      (kind_kept moment i actor kind size short p k.there k.holds fits)
  point_kept (Point.Raise moment i k value) h can =
      let p : Sphere = h.sphere in
      let all = cs ++ supplied_at x (Point.Raise moment i k value) ∷ [] in
      let fits : CanTake (slice_get p.threads k) = subst (λ (r : Role). InLive r (CanTake (slice_get p.threads k))) (steps.role cs p h.holds).1 (subst (CanInterrupt k) h.there can) in
      subst (HoldsIn K i all)
      (sym (ap (do_interrupt x i k value) h.there ∙ ap (λ (r : Role). in_live r x (do_raise x i k value p (slice_get p.threads k))) (steps.role cs p h.holds).1))
      (raise_kept moment i k value p (slice_get p.threads k) h.there h.holds refl fits)

-- ---- in another sphere

live_away : (role : Role) (x done : SerialState) (j : ℕ) → slice_get done.spheres j ≡ slice_get x.spheres j → slice_get (in_live role x done).spheres j ≡ slice_get x.spheres j
live_away Plain x done j e = e
live_away (Record recording) x done j e = e
live_away (Replay b) x done j e = refl

chunk_away : (x : SerialState) (i j k size : ℕ) (short : Bool) (p : Sphere) (o : Option Parts) → j ≢ i → slice_get (do_chunk x i k size short p o).spheres j ≡ slice_get x.spheres j
chunk_away x i j k size short p None ne = refl
chunk_away x i j k size short p (Some t) ne = get-set_other x.spheres i j _ ne

kind_away : (x : SerialState) (moment i j : ℕ) (actor : Actor) (kind : CommitKind) (size : ℕ) (short : Bool) (p : Sphere) → j ≢ i → slice_get (do_kind x moment i actor kind size short p).spheres j ≡ slice_get x.spheres j
kind_away x moment i j (Actor.Thread k) CommitKind.Chunk size short p ne = chunk_away x i j k size short p (slice_get p.threads k) ne
kind_away x moment i j (Actor.Thread k) CommitKind.Serial size short p ne = serial-away x i j k moment p (slice_get p.threads k) ne
kind_away x moment i j (Actor.Thread k) CommitKind.Dma size short p ne = refl
kind_away x moment i j (Actor.Thread k) CommitKind.Piece size short p ne = refl
kind_away x moment i j Actor.Dma CommitKind.Chunk size short p ne = refl
kind_away x moment i j Actor.Dma CommitKind.Serial size short p ne = refl
kind_away x moment i j Actor.Dma CommitKind.Piece size short p ne = refl
kind_away x moment i j Actor.Dma CommitKind.Dma size short p ne = dma-away x i j (dma_moved x.devices p) ne

commit_away : (x : SerialState) (moment i j : ℕ) (actor : Actor) (kind : CommitKind) (size : ℕ) (short : Bool) (o : Option Sphere) → j ≢ i → slice_get (do_commit x moment i actor kind size short o).spheres j ≡ slice_get x.spheres j
commit_away x moment i j actor kind size short None ne = refl
commit_away x moment i j actor kind size short (Some p) ne = live_away p.role x _ j (kind_away x moment i j actor kind size short p ne)

interrupt_away : (x : SerialState) (i j k value : ℕ) (o : Option Sphere) → j ≢ i → slice_get (do_interrupt x i k value o).spheres j ≡ slice_get x.spheres j
interrupt_away x i j k value None ne = refl
interrupt_away x i j k value (Some p) ne = live_away p.role x _ j (raise-away x i j k value p (slice_get p.threads k) ne)

-- a point of another sphere leaves the sphere
pub point-away : (x : SerialState) (q : Point) (j : ℕ) → j ≢ sphere_of_point q → slice_get (do_point x q).spheres j ≡ slice_get x.spheres j
unfolding do_point
point-away x (Point.Commit moment i actor kind size short) j ne = commit_away x moment i j actor kind size short (slice_get x.spheres i) ne
point-away x (Point.Raise moment i k value) j ne = interrupt_away x i j k value (slice_get x.spheres i) ne

-- ---- all points

-- a point is of its own sphere and no other
pub of-sphere : (i : ℕ) (q : Point) → is_of i q ≡ eqb (sphere_of_point q) i
of-sphere i (Point.Commit moment j actor kind size short) = refl
of-sphere i (Point.Raise moment j k value) = refl

-- the first point, if it is of the sphere, is told
pub one-more : (i : ℕ) (x : SerialState) (q : Point) (qs : List Point) (b : Bool) → is_of i q ≡ b → supplied i x (q ∷ qs) ≡ cond b (supplied_at x q ∷ supplied i (do_point x q) qs) (supplied i (do_point x q) qs)
one-more i x q qs b e = ap (λ (c : Bool). cond c (supplied_at x q ∷ supplied i (do_point x q) qs) (supplied i (do_point x q) qs)) e

-- points done one at a time keep what each of them keeps
pub points-kept : (K : List Supplied → Sphere → Type 0) → IsKeptByPoints K → (i : ℕ) (cs : List Supplied) (x : SerialState) (qs : List Point) → HoldsIn K i cs x → CanDoAll x qs → HoldsIn K i (cs ++ supplied i x qs) (do_points x qs)
points-kept K steps i cs x [] k can = subst (λ (ds : List Supplied). HoldsIn K i ds x) (sym (append-nil cs)) k
points-kept K steps i cs x (q ∷ qs) k can =
    let y : SerialState = do_point x q in
    elim (cases_Bool (is_of i q)) [
      | inl own ↦ (
          let e : sphere_of_point q ≡ i = eqb-true (sphere_of_point q) i (sym (of-sphere i q) ∙ own) in
          let one : HoldsIn K i (cs ++ supplied_at x q ∷ []) y =
          subst (λ (j : ℕ). HoldsIn K j (cs ++ supplied_at x q ∷ []) y) e (point_kept K steps cs x q (subst (λ (j : ℕ). HoldsIn K j cs x) (sym e) k) can.0)
          in
          subst (λ (ds : List Supplied). HoldsIn K i ds (do_points y qs))
          (append_assoc cs (supplied_at x q ∷ []) (supplied i y qs) ∙ ap (λ (ds : List Supplied). cs ++ ds) (sym (one-more i x q qs true own)))
          (points-kept K steps i (cs ++ supplied_at x q ∷ []) y qs one can.1)
          )
      | inr other ↦ (
          let ne : i ≢ sphere_of_point q = (λ e. true≢false (sym (eq-eqb (sphere_of_point q) i (sym e)) ∙ sym (of-sphere i q) ∙ other)) in
          subst (λ (ds : List Supplied). HoldsIn K i (cs ++ ds) (do_points y qs)) (sym (one-more i x q qs false other))
          (points-kept K steps i cs y qs (record { sphere = k.sphere; there = point-away x q i ne ∙ k.there; holds = k.holds }) can.1)
          )
    ]
