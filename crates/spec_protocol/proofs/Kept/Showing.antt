-- A sphere of a world that keeps the end of its recording, beside the sphere that keeps all of it.
use Rattle.std.proofs.Common.{◌≡◌, ◌≢◌, ℕ, inl, inr, true, false, List, [], ◌∷◌, Option, Some, None, refl, sym, ap, ◌∙◌, subst}
use Rattle.std.specs.Prelude.{slice_get}
use Rattle.std.proofs.lemmas.Bool.{true≢false, cases_Bool, eqb-true}
use Rattle.std.proofs.lemmas.Option.{same_Some}
use Rattle.dl_entry.specs.declared.Actor.{Actor}
use Rattle.dl_entry.specs.declared.CommitKind.{CommitKind}
use Rattle.dl_entry.specs.declared.Point.{Point}
use Rattle.spec_isa.specs.declared.thread.Parts.{Parts}
use Rattle.spec_isa.specs.Words.{lays}
use Rattle.spec_kernel.specs.Devices.{Devices}
use Rattle.spec_kernel.specs.Needs.{need}
use Rattle.spec_kernel.specs.Answers.{taken}
use Rattle.spec_sphere.specs.sphere.Spheres.{Sphere, replays}
use Rattle.spec_protocol.specs.machine.World.{World, sphere_at}
use Rattle.spec_engine.specs.Flying.{flying}
use Rattle.spec_protocol.specs.machine.Shown.{shown}
use Rattle.spec_protocol.specs.machine.Serial.{SerialState}
use Rattle.spec_sphere.specs.sphere.Logged.{Supplied, answer_to, bytes_for, is_of}
use Rattle.spec_protocol.specs.machine.Logged.{sphere_in, supplied}
use Rattle.spec_protocol.specs.promises.Alike.{AreAlike}
use Rattle.spec_protocol.proofs.Invariants.Preserved.{sphere_of_point}
use Rattle.spec_protocol.proofs.Points.Serial.{Agrees}
use Rattle.spec_protocol.proofs.Points.OneByOne.{HoldsIn, supplied_at, of-sphere, one-more}
use Rattle.spec_sphere.proofs.Points.KeptLogs.{Keeping, Keeps}
use Rattle.spec_protocol.proofs.Alike.Good.{sphere-alike}

-- ---- alike

-- what is shown of the sphere has the same memory
pub memory-shown : (w v : World) (i : ℕ) → AreAlike w v → (shown w.slots i (sphere_at w i)).memory ≡ (shown v.slots i (sphere_at v i)).memory
unfolding shown
memory-shown w v i same = (λ j. lays (sphere-alike w v i same j).memory (flying i (same j).slots))

-- ---- what is shown and what points leave

-- the one state has sphere i as the other has it, if that keeps a log
pub holds-shown : (how : Keeping) (i : ℕ) (cs : List Supplied) (x y : SerialState) (p : Sphere) → Agrees x y → slice_get x.spheres i ≡ Some p → (k : HoldsIn (Keeps how) i cs y) → k.sphere ≡ p
holds-shown how i cs x y p a e k =
    elim (cases_Bool (replays p.role)) [
      | inl replay ↦ (
          let q = a.replayed i p e replay in
          let same : k.sphere ≡ q.0 = same_Some _ _ (sym k.there ∙ q.1) in
          absurd (true≢false (sym q.2 ∙ ap (λ (r : Sphere). replays r.role) (sym same) ∙ ap replays k.holds.role))
          )
      | inr live ↦ same_Some _ _ (sym k.there ∙ a.live i p e live)
    ]

-- ---- what comes from outside

-- spheres that get the same from outside
pub record AsksAs (p q : Sphere) : Type 0 where
  pub memory : p.memory ≡ q.memory
  pub threads : p.threads ≡ q.threads
  pub request : p.progress.request ≡ q.progress.request

answer_same : (d : Devices) (moment : ℕ) (p q : Sphere) (o : Option Parts) → p.memory ≡ q.memory → answer_to d moment p o ≡ answer_to d moment q o
answer_same d moment p q None same = refl
answer_same d moment p q (Some t) same = ap (λ (m : List ℕ). (taken (need t m) d moment).input) same

serial_input : (d e : Devices) (moment k : ℕ) (p q : Sphere) → d ≡ e → AsksAs p q → answer_to d moment p (slice_get p.threads k) ≡ answer_to e moment q (slice_get q.threads k)
serial_input d e moment k p q devices same =
    (λ j. answer_to (devices j) moment p (slice_get (same.threads j) k)) ∙ answer_same e moment p q (slice_get q.threads k) same.memory

at_same : (x y : SerialState) (q : Point) → x.devices ≡ y.devices → AsksAs (sphere_in x (sphere_of_point q)) (sphere_in y (sphere_of_point q)) → supplied_at x q ≡ supplied_at y q
at_same x y (Point.Commit moment i (Actor.Thread k) CommitKind.Serial size short) d same =
    let q = Point.Commit moment i (Actor.Thread k) CommitKind.Serial size short in
    (λ j. record { point = q; input = serial_input x.devices y.devices moment k (sphere_in x i) (sphere_in y i) d same j; bytes = [] })
at_same x y (Point.Commit moment i (Actor.Thread k) CommitKind.Chunk size short) d same = refl
at_same x y (Point.Commit moment i (Actor.Thread k) CommitKind.Dma size short) d same = refl
at_same x y (Point.Commit moment i (Actor.Thread k) CommitKind.Piece size short) d same = refl
at_same x y (Point.Commit moment i Actor.Dma kind size short) d same =
    let q = Point.Commit moment i Actor.Dma kind size short in
    (λ j. record { point = q; input = None; bytes = bytes_for (d j) (same.request j) })
at_same x y (Point.Raise moment i k value) d same = refl

-- one point more tells the same in both states
pub supplied-same : (i : ℕ) (x y : SerialState) (q : Point) → x.devices ≡ y.devices → AsksAs (sphere_in x i) (sphere_in y i) → supplied i x (q ∷ []) ≡ supplied i y (q ∷ [])
supplied-same i x y q d same =
    elim (cases_Bool (is_of i q)) [
      | inl own ↦ (
          let e : sphere_of_point q ≡ i = eqb-true (sphere_of_point q) i (sym (of-sphere i q) ∙ own) in
          one-more i x q [] true own
          ∙ ap (λ (c : Supplied). c ∷ []) (at_same x y q d (subst (λ (j : ℕ). AsksAs (sphere_in x j) (sphere_in y j)) (sym e) same))
          ∙ sym (one-more i y q [] true own)
          )
      | inr other ↦ one-more i x q [] false other ∙ sym (one-more i y q [] false other)
    ]
