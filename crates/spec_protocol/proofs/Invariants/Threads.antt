-- The events of threads keep the invariant: Place and Raise.
use Rattle.std.proofs.Common.{◌≡◌, ◌≢◌, ℕ, ◌<◌, inl, inr, true, false, not, eqb, List, [], length, Option, Some, None, refl, sym, ap, ◌∙◌, subst}
use Rattle.std.specs.Prelude.{slice_get}
use Rattle.std.proofs.Math.ListN.{length-set}
use Rattle.std.proofs.lemmas.Bool.{true≢false, and_parts, and_from, eqb-true, eq-eqb, cases_eq, cases_lt}
use Rattle.std.proofs.lemmas.Option.{none-some}
use Rattle.std.proofs.lemmas.List.{get_or_past}
use Rattle.spec_isa.specs.declared.thread.Parts.{Parts}
use Rattle.spec_isa.specs.Words.{lays}
use Rattle.spec_kernel.specs.Interrupts.{is_live, has_handler, takes_interrupt, interrupted}
use Rattle.spec_engine.specs.Signatures.{nothing}
use Rattle.spec_engine.specs.Flights.{Flight, at}
use Rattle.spec_engine.proofs.Searches.{first_none, first_some}
use Rattle.spec_sphere.specs.sphere.Spheres.{Role, Plain, Record, Replay, Sphere, no_sphere, is_stopped, limit_of, halves, limit_after}
use Rattle.spec_sphere.specs.sphere.Commits.{role_raised, raised}
use Rattle.spec_protocol.specs.machine.World.{Occupant, World, moment, sphere_at, with_sphere, with_core, held_afresh, runs, core_of, OfRaise, answered}
use Rattle.spec_protocol.specs.machine.Placing.{placing, with_renewed, raise_in, raising}
use Rattle.spec_sphere.specs.sphere.Spheres.{replays}
use Rattle.spec_protocol.specs.machine.Serial.{do_raise}
use Rattle.spec_engine.specs.Flying.{flying}
use Rattle.spec_protocol.specs.machine.Shown.{shown, shown_of}
use Rattle.spec_protocol.specs.machine.Moves.{do_at, do_move, FitsAt, Fits}
use Rattle.spec_sphere.specs.sphere.Moves.{FitsRaise}
use Rattle.spec_strata.proofs.Shares.Steps.{get-set_other}
use Rattle.spec_sphere.proofs.Moves.AnyMemory.{over}
use Rattle.spec_protocol.proofs.Moves.AnyEvent.{Raises, any-place, any-raise}
use Rattle.spec_protocol.proofs.Invariants.Preserved.{SameSizes, Preserved, point-made, sphere-same, shown-set, unchanged-preserved}
use Rattle.spec_protocol.proofs.Invariants.Cores.{set-cases, alone-set, held_there, core-good, core-preserved}
use Rattle.spec_protocol.proofs.Invariants.Landing.{afresh-begins, afresh-held, elsewhere-held}
use Rattle.spec_protocol.proofs.Invariants.Granting.{unflown}
use Rattle.spec_protocol.proofs.Invariants.Asks.{shown_at, shown_over}
use Rattle.spec_protocol.proofs.Invariants.Held.{KeepsThread, thread-stays, follows-stays}
use Rattle.spec_protocol.specs.promises.Invariants.{IsGoodChunk, current, IsOfThread, IsGoodHeld, IsGood, Follows}

-- a sphere with a thread is one of the spheres
inside : (w : World) (i k : ℕ) (t : Parts) → slice_get (sphere_at w i).threads k ≡ Some t → i < length w.spheres
inside w i k t e =
    elim (cases_lt i (length w.spheres)) [
      | inl l ↦ l
      | inr past ↦ absurd (none-some t (sym (ap (λ (p : Sphere). slice_get p.threads k) (get_or_past w.spheres i no_sphere past)) ∙ e))
    ]

-- no core runs the thread, where none is found
nobody : (w : World) (i k : ℕ) → core_of w i k ≡ None → (d : ℕ) (g : Occupant) → at w.cores d ≡ Some g → g.chunk.sphere ≡ i → g.thread ≡ k → ⊥
nobody w i k none d g there sphere thread =
    true≢false (sym (and_from (eqb g.chunk.sphere i) (eqb g.thread k) (eq-eqb g.chunk.sphere i sphere) (eq-eqb g.thread k thread)) ∙ first_none (runs i k) w.cores none d g there)

-- ---- Place

placed_good : (w : World) (c i k : ℕ) → IsGood w → i < length w.spheres → ((d : ℕ) (g : Occupant) → d ≢ c → at w.cores d ≡ Some g → g.chunk.sphere ≡ i → g.thread ≡ k → ⊥) → IsGood (with_core w c (held_afresh w.numbers i k (sphere_at w i)))
placed_good w c i k good within free =
    core-good w c (held_afresh w.numbers i k (sphere_at w i)) good
    (λ h e. afresh-held w i k c (sphere_at w i) h within good.standard refl (afresh-begins w.numbers i k (sphere_at w i) h e))
    (λ h e d g ne there sphere thread.
    let b = afresh-begins w.numbers i k (sphere_at w i) h e in
    free d g ne there (sym sphere ∙ ap (λ (x : Occupant). x.chunk.sphere) (sym b.is)) (sym thread ∙ ap (λ (x : Occupant). x.thread) (sym b.is)))

-- the event Place keeps the invariant
pub place-preserved : (w : World) (c i k : ℕ) → IsGood w → Preserved w (placing w c i k)
place-preserved w c i k good =
    any-place w (Preserved w) (λ r none. unchanged-preserved w (answered w r) refl refl refl good) c i k
    (λ t is live none.
    core-preserved w c (held_afresh w.numbers i k (sphere_at w i)) _ refl refl refl
    (placed_good w c i k good (inside w i k t is) (λ d g ne there sphere thread. nobody w i k none d g there sphere thread)))

-- ---- Raise

raised_role : (k n value : ℕ) (role : Role) → (halves (role_raised k n value role) ≡ halves role) × (replays (role_raised k n value role) ≡ replays role) × ((s j : ℕ) (u : Parts) → limit_of s (role_raised k n value role) j u ≡ limit_of s role j u) × (is_stopped (role_raised k n value role) ≡ is_stopped role) × ((s j : ℕ) (u : Parts) → limit_after s (role_raised k n value role) j u ≡ limit_after s role j u)
unfolding limit_of limit_after
raised_role k n value Plain = (refl, refl, λ s j u. refl, refl, λ s j u. refl)
raised_role k n value (Record recording) = (refl, refl, λ s j u. refl, refl, λ s j u. refl)
raised_role k n value (Replay b) = (refl, refl, λ s j u. refl, refl, λ s j u. refl)

raised_here : (w : World) (k value : ℕ) (t : Parts) (d : ℕ) (x : Occupant) → x.chunk.sphere < length w.spheres → x.thread ≢ k → IsGoodHeld w d x → IsGoodHeld (with_sphere w x.chunk.sphere (raised k value t (sphere_at w x.chunk.sphere))) d x
unfolding raised
raised_here w k value t d x within ne good =
    let i = x.chunk.sphere in
    let p = sphere_at w i in
    let q = raised k value t p in
    let v = with_sphere w i q in
    let there : sphere_at v i ≡ q = sphere-same w.spheres i q within in
    let r = raised_role k t.commits value p.role in
    let keeps : KeepsThread w.numbers.s p q x.thread = record {
      threads = λ u e. get-set_other p.threads k x.thread (interrupted value t) ne ∙ e;
      halving = r.0;
      replaying = r.1;
      going = λ e. sym r.3 ∙ e;
      limits = λ e u. r.2 w.numbers.s x.thread u;
      after = λ e u. r.4 w.numbers.s x.thread u;
    }
    in
    record {
      sphere = subst (λ (n : ℕ). i < n) (sym (length-set w.spheres i q)) good.sphere;
      thread = subst (λ (y : Sphere). IsOfThread w.numbers.s y x.thread x.chunk) (sym there) (thread-stays w.numbers.s p q x.thread x.chunk keeps good.thread);
      chunk = subst (λ (m : List ℕ). IsGoodChunk w.numbers.capacity w.numbers.bits w.slots d m x.chunk) (ap (λ (y : Sphere). lays y.memory (flying i w.slots)) (sym there)) good.chunk;
      follows = λ y e. subst (λ (z : Sphere). Follows w.numbers z x.thread x.chunk y) (sym there) (follows-stays w.numbers p q x.thread x.chunk y keeps (good.follows y e));
      younger = λ y e. subst (λ (m : List ℕ). IsGoodChunk w.numbers.capacity w.numbers.bits w.slots d (lays m x.chunk.done.words) y) (ap (λ (z : Sphere). lays z.memory (flying i w.slots)) (sym there)) (good.younger y e);
    }

raised_held : (w : World) (i k value : ℕ) (t : Parts) (d : ℕ) (x : Occupant) → IsGood w → i < length w.spheres → (x.chunk.sphere ≡ i → x.thread ≢ k) → IsGoodHeld w d x → IsGoodHeld (with_sphere w i (raised k value t (sphere_at w i))) d x
raised_held w i k value t d x good within other held =
    let f : Flight = record { sphere = i; words = []; writes = nothing w.numbers.bits; told = 0 } in
    elim (cases_eq x.chunk.sphere i) [
      | inl same ↦ subst (λ (n : ℕ). n < length w.spheres → IsGoodHeld (with_sphere w n (raised k value t (sphere_at w n))) d x) same (λ l. raised_here w k value t d x l (other same) held) within
      | inr ne ↦ elsewhere-held w i (raised k value t (sphere_at w i)) f w.slots w.cores w.devices d x ne (unflown w i f good refl) held
    ]

-- each chunk but the thread's goes on, and this one is as it should be
raised_good : (w : World) (i k value : ℕ) (t : Parts) (c : ℕ) (o : Option Occupant) → IsGood w → i < length w.spheres → ((d : ℕ) (x : Occupant) → d ≢ c → at w.cores d ≡ Some x → x.chunk.sphere ≡ i → x.thread ≢ k)
    → ((h : Occupant) → o ≡ Some h → IsGoodHeld (with_sphere w i (raised k value t (sphere_at w i))) c h × (h.chunk.sphere ≡ i) × (h.thread ≡ k)) → IsGood (with_core (with_sphere w i (raised k value t (sphere_at w i))) c o)
raised_good w i k value t c o good within others new =
    let q = raised k value t (sphere_at w i) in
    let v = with_sphere w i q in
    record {
      buffer = good.buffer;
      standard = good.standard;
      apart = good.apart;
      covered = good.covered;
      flights = λ j x e. subst (λ (n : ℕ). x.sphere < n) (sym (length-set w.spheres i q)) (good.flights j x e);
      held = λ d x e. elim (set-cases w.cores c d o x e) [
        | inl p ↦ held_there v c d o x (subst (λ (n : ℕ). IsGoodHeld v n x) (sym p.0) (new x p.1).0)
        | inr p ↦ held_there v c d o x (raised_held w i k value t d x good within (others d x p.0 p.1) (good.held d x p.1))
      ];
      alone = alone-set w.cores c o good.alone
          (λ h e d g ne there sphere thread. let n = new h e in others d g ne there (sym sphere ∙ n.1) (sym thread ∙ n.2));
    }

-- where no core runs the thread
raised_alone : (w : World) (i k value : ℕ) (t : Parts) → IsGood w → i < length w.spheres → core_of w i k ≡ None → IsGood (with_sphere w i (raised k value t (sphere_at w i)))
raised_alone w i k value t good within none =
    let q = raised k value t (sphere_at w i) in
    record {
      buffer = good.buffer;
      standard = good.standard;
      apart = good.apart;
      covered = good.covered;
      flights = λ j x e. subst (λ (n : ℕ). x.sphere < n) (sym (length-set w.spheres i q)) (good.flights j x e);
      held = λ d x e. raised_held w i k value t d x good within (λ same thread. nobody w i k none d x e same thread) (good.held d x e);
      alone = good.alone;
    }

-- the core that is found runs the thread, and no other one does
only_core : (w : World) (i k c : ℕ) → IsGood w → core_of w i k ≡ Some c → (d : ℕ) (x : Occupant) → d ≢ c → at w.cores d ≡ Some x → x.chunk.sphere ≡ i → x.thread ≢ k
only_core w i k c good some d x ne there same thread =
    let f = first_some (runs i k) w.cores c some in
    let p = and_parts (eqb f.0.chunk.sphere i) (eqb f.0.thread k) f.2 in
    ne (good.alone d c x f.0 there f.1 (same ∙ sym (eqb-true f.0.chunk.sphere i p.0)) (thread ∙ sym (eqb-true f.0.thread k p.1)))

abbrev raised_world : World → (i k value : ℕ) → Parts → World
raised_world w i k value t = with_sphere w i (raised k value t (sphere_at w i))

renewed_good : (w : World) (i k value : ℕ) (t : Parts) (o : Option ℕ) → IsGood w → i < length w.spheres → core_of w i k ≡ o → IsGood (with_renewed (raised_world w i k value t) i k o)
renewed_good w i k value t None good within is = raised_alone w i k value t good within is
renewed_good w i k value t (Some c) good within is =
    let q = raised k value t (sphere_at w i) in
    let v = raised_world w i k value t in
    raised_good w i k value t c (held_afresh v.numbers i k (sphere_at v i)) good within (only_core w i k c good is)
    (λ h e.
    let b = afresh-begins v.numbers i k (sphere_at v i) h e in (
      afresh-held v i k c (sphere_at v i) h (subst (λ (n : ℕ). i < n) (sym (length-set w.spheres i q)) within) good.standard refl b,
      ap (λ (x : Occupant). x.chunk.sphere) (sym b.is),
      ap (λ (x : Occupant). x.thread) (sym b.is),
    ))

renewed_shown : (v : World) (i k : ℕ) (o : Option ℕ) → shown_of (with_renewed v i k o) ≡ shown_of v
renewed_shown v i k None = refl
renewed_shown v i k (Some c) = refl

renewed_sizes : (w v : World) (i k : ℕ) (o : Option ℕ) → SameSizes w v → SameSizes w (with_renewed v i k o)
renewed_sizes w v i k None s = s
renewed_sizes w v i k (Some c) s =
    record { numbers = s.numbers; spheres = s.spheres; cores = length-set v.cores c (held_afresh v.numbers i k (sphere_at v i)) ∙ s.cores; slots = s.slots }

raise_shown : (w : World) (i k value : ℕ) (t : Parts) → i < length w.spheres → slice_get (sphere_at w i).threads k ≡ Some t
    → shown_of (raised_world w i k value t) ≡ do_move w.numbers (shown_of w) (record { moment = moment w; sphere = i; what = OfRaise k value })
unfolding do_move shown raised
raise_shown w i k value t within start =
    let p = sphere_at w i in
    let q = raised k value t p in
    (λ j. record { spheres = shown-set w.slots w.slots i w.spheres q (λ n ne. refl) j; devices = w.devices })
    ∙ sym (ap (do_raise (shown_of w) i k value (over (current w i) p)) start)
    ∙ sym (ap (do_at w.numbers (shown_of w) (record { moment = moment w; sphere = i; what = OfRaise k value })) (shown_at w i within))

taken_by : (t : Parts) → is_live t ≡ true → has_handler t ≡ true → t.mask ≡ false → takes_interrupt t ≡ true
taken_by t live handler mask = and_from _ _ (and_from _ _ live handler) (ap not mask)

raise_fits : (w : World) (i k value : ℕ) (t : Parts) → i < length w.spheres → Raises k t (sphere_at w i) → Fits w.numbers (shown_of w) (record { moment = moment w; sphere = i; what = OfRaise k value })
raise_fits w i k value t within r =
    subst (FitsAt w.numbers w.devices (record { moment = moment w; sphere = i; what = OfRaise k value })) (sym (shown_at w i within ∙ ap Some (shown_over w i)))
    (subst (FitsRaise (over (current w i) (sphere_at w i))) (sym r.is) (record { live = r.role; takes = taken_by t r.live r.handler r.mask }))

raise_in_preserved : (w : World) (i k value : ℕ) (t : Parts) → IsGood w → Raises k t (sphere_at w i) → Preserved w (raise_in w i k value t)
raise_in_preserved w i k value t good r =
    let within = inside w i k t r.is in
    record {
      good = renewed_good w i k value t (core_of w i k) good within refl;
      sizes = renewed_sizes w (raised_world w i k value t) i k (core_of w i k)
          (record { numbers = refl; spheres = length-set w.spheres i (raised k value t (sphere_at w i)); cores = refl; slots = refl });
      point = point-made w.numbers (replays (sphere_at w i).role) (record { moment = moment w; sphere = i; what = OfRaise k value });
      whole = renewed_shown (raised_world w i k value t) i k (core_of w i k) ∙ raise_shown w i k value t within r.is;
      fits = raise_fits w i k value t within r;
    }

-- the event Raise keeps the invariant
pub raise-preserved : (w : World) (i k value : ℕ) → IsGood w → Preserved w (raising w i k value)
raise-preserved w i k value good =
    any-raise w (Preserved w) (λ r none. unchanged-preserved w (answered w r) refl refl refl good) i k value
    (λ t r. raise_in_preserved w i k value t good r)
