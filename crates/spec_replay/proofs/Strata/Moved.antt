-- What each move makes of a sphere that is replayed in strata: it has come as far as they say again.
use Rattle.std.proofs.Common.{◌≡◌, ℕ, ◌<◌, ◌⊎◌, inl, inr, Bool, true, false, List, [], ◌∷◌, Option, Some, None, refl, sym, ap, ◌∙◌, subst, arith}
use Rattle.std.specs.Prelude.{slice_get, IsSome}
use Rattle.std.proofs.lemmas.Bool.{true≢false, ltb-true, ltb-false}
use Rattle.dl_entry.specs.declared.Actor.{Actor}
use Rattle.spec_isa.specs.declared.thread.Parts.{Parts}
use Rattle.spec_isa.specs.declared.thread.Kind.{Kind}
use Rattle.spec_isa.specs.Runs.{run}
use Rattle.spec_kernel.specs.Devices.{Devices}
use Rattle.spec_kernel.specs.Needs.{next_kind}
use Rattle.spec_play.specs.Turns.{TurnOfDma}
use Rattle.spec_play.specs.Verdicts.{serial_verdict}
use Rattle.spec_play.specs.Transfers.{dma_verdict}
use Rattle.spec_play.specs.Plays.{Played}
use Rattle.spec_strata.specs.declared.stratum.Stratum.{Stratum}
use Rattle.spec_strata.specs.declared.stratum.Stratum.TheVariants.{Chunks, Serial, Dma}
use Rattle.spec_strata.specs.declared.strata.StrataParts.{StrataParts}
use Rattle.spec_strata.specs.Canonical.{canonical}
use Rattle.spec_strata.specs.Standing.{Standing}
use Rattle.spec_strata.proofs.Shares.Steps.{same_some, get-set_same}
use Rattle.spec_engine.specs.declared.answers.How.{How}
use Rattle.spec_sphere.specs.sphere.Spheres.{turn_against, Cursor, Role, Replay, Sphere, is_stopped, is_in_pieces}
use Rattle.spec_sphere.specs.sphere.Commits.{MovedSphere, replayed_chunk, by_verdict, chunk_in, chunk_moved, serial_in, serial_moved, dma_by_verdict, dma_in, dma_moved}
use Rattle.spec_engine.specs.Closing.{is_piece, is_short}
use Rattle.spec_protocol.specs.machine.World.{Numbers, MoveKind, OfChunk, OfSerial, OfDma, OfRaise}
use Rattle.spec_sphere.specs.sphere.Commits.{laid}
use Rattle.spec_sphere.specs.sphere.Setups.{SphereSetup}
use Rattle.spec_protocol.specs.machine.Serial.{SerialState, do_moved, do_serial, do_dma}
use Rattle.spec_protocol.specs.machine.Moves.{move_chunk, do_by_kind, FitsChunk, ChunkFits, FitsSerial, DmaFits, FitsWhat}
use Rattle.spec_sphere.proofs.Moves.Joining.{MayGo}
use Rattle.spec_sphere.proofs.PlayingBack.Verdicts.{run-first}
use Rattle.spec_sphere.proofs.Replays.Turns.{no_raise}
use Rattle.spec_replay.specs.Following.{IsWhole}
use Rattle.spec_replay.specs.InStrata.{stratum_at}
use Rattle.spec_replay.proofs.Replays.Keeping.{Stands, Keeps}
use Rattle.spec_replay.proofs.Replays.Moved.{may-go, turn_of_dma}
use Rattle.spec_replay.proofs.Strata.Coming.{Comes}
use Rattle.spec_replay.proofs.Strata.Going.{IsThere, ComesTo, WhoGoes, who-goes, dma-goes}
use Rattle.spec_replay.proofs.Strata.Chunks.{some-ran, chunk-goes, chunk-comes}
use Rattle.spec_replay.proofs.Strata.Steps.{step-serial, serial-comes, transfer-comes}

-- ---- strata

not_cons : {A : Type 0} (s : Stratum) (xs : List Stratum) → [] ≡ s ∷ xs → A
not_cons s xs e = cc

not_step : {A : Type 0} (counts : List ℕ) (k : ℕ) (xs ys : List Stratum) → Chunks counts ∷ xs ≡ Serial k ∷ ys → A
not_step counts k xs ys e = cc

dma_no_step : {A : Type 0} (k : ℕ) (xs ys : List Stratum) → Dma ∷ xs ≡ Serial k ∷ ys → A
dma_no_step k xs ys e = cc

same_step : (j k : ℕ) (xs ys : List Stratum) → Serial j ∷ xs ≡ Serial k ∷ ys → j ≡ k
same_step j k xs ys e = cc

chunks_no_dma : {A : Type 0} (counts : List ℕ) (xs ys : List Stratum) → Chunks counts ∷ xs ≡ Dma ∷ ys → A
chunks_no_dma counts xs ys e = cc

step_no_dma : {A : Type 0} (k : ℕ) (xs ys : List Stratum) → Serial k ∷ xs ≡ Dma ∷ ys → A
step_no_dma k xs ys e = cc

no_some : {A : Type 0} (o : Option Kind) → IsSome o → o ≡ None → A
no_some None some e = absurd (true≢false (sym some))
no_some (Some kind) some e = cc

-- the standing in its parts
abbrev pub at_standing : List Stratum → List ℕ → ℕ → Standing
at_standing st ds n = record { strata = st; done = ds; before = n }

-- where the sphere is, which is at that standing
abbrev pub Where : StrataParts → SphereSetup → List Stratum → List ℕ → ℕ → Sphere → Cursor → Type 0
Where v image st ds n p b = IsThere (canonical v) (stratum_at v image (at_standing st ds n)) (at_standing st ds n) p b

module _ (v : StrataParts) (image : SphereSetup) (s : 0 < v.s) where
  -- ---- a chunk

  chunk-of : (st : List Stratum) (ds : List ℕ) (n : ℕ) (p : Sphere) (b : Cursor) (k : ℕ) → Comes v image (at_standing st ds n) → Where v image st ds n p b → MayGo b k → WhoGoes (stratum_at v image (at_standing st ds n)) (at_standing st ds n) p b k
      → (z : Numbers) (u : Parts) (how : How) (m limit : ℕ) (devices : Devices) → 0 < z.capacity → slice_get p.threads k ≡ Some u → is_in_pieces p.role ≡ false ⊎ (0 < b.total) → ChunkFits z p k u how m limit
      → ComesTo v image (laid (replayed_chunk (is_piece how) b k (run p.memory u m) devices p))
  chunk-of [] ds n p b k c a may (inl left) z u how m limit devices some there o f = absurd (omega (arith, left))
  chunk-of [] ds n p b k c a may (inr step) z u how m limit devices some there o f = not_cons (Serial k) step.rest step.strata
  chunk-of (Chunks counts ∷ xs) ds n p b k c a may (inl left) z u how m limit devices some there o f =
      chunk-comes v image counts xs ds n s c k left p b a may z u how m limit devices some there f
  chunk-of (Chunks counts ∷ xs) ds n p b k c a may (inr step) z u how m limit devices some there o f = not_step counts k xs step.rest step.strata
  chunk-of (Dma ∷ xs) ds n p b k c a may (inl left) z u how m limit devices some there o f = absurd (omega (arith, left))
  chunk-of (Dma ∷ xs) ds n p b k c a may (inr step) z u how m limit devices some there o f = dma_no_step k xs step.rest step.strata
  chunk-of (Serial j ∷ xs) ds n p b k c a may (inl left) z u how m limit devices some there o f = absurd (omega (arith, left))
  chunk-of (Serial j ∷ xs) ds n p b k c a may (inr step) z u how m limit devices some there o f =
      let same : j ≡ k = same_step j k xs step.rest step.strata in
      let none : is_in_pieces p.role ≡ false = elim o [ inl e ↦ e | inr l ↦ (let e = step.whole.total in absurd (omega (arith, e, l))) ] in
      no_some (next_kind u p.memory)
      (step-serial v image j xs ds n c p b u step.whole (ap (slice_get p.threads) same ∙ there))
      (run-first p.memory u m (some-ran z p k u how m limit some none f) f.ran)

  -- ---- a serial step

  whole-of : (y : Played) (x : Standing) (p : Sphere) (b : Cursor) → IsThere (canonical v) y x p b → b.total ≡ 0 → IsWhole y p b
  whole-of y x p b a none = elim a.state [ inl w ↦ w | inr h ↦ (let l = h.1.some in absurd (omega (arith, l, none))) ]

  step-of : (st : List Stratum) (ds : List ℕ) (n : ℕ) (p : Sphere) (b : Cursor) (k : ℕ) → Comes v image (at_standing st ds n) → Where v image st ds n p b → WhoGoes (stratum_at v image (at_standing st ds n)) (at_standing st ds n) p b k
      → (u : Parts) (devices : Devices) → slice_get p.threads k ≡ Some u → b.total ≡ 0 → IsSome (next_kind u p.memory)
      → ComesTo v image (laid (by_verdict b k (serial_verdict b.log p.progress b.used k p.threads u p.memory) devices p))
  step-of [] ds n p b k c a (inl left) u devices there none serial = absurd (omega (arith, left))
  step-of [] ds n p b k c a (inr step) u devices there none serial = not_cons (Serial k) step.rest step.strata
  step-of (Chunks counts ∷ xs) ds n p b k c a (inl left) u devices there none serial =
      let w = whole-of (stratum_at v image (at_standing (Chunks counts ∷ xs) ds n)) (at_standing (Chunks counts ∷ xs) ds n) p b a none in
      let g = chunk-goes v image counts xs ds n s c k left in
      let same : u ≡ g.thread = same_some u g.thread (sym there ∙ ap (λ (ts : List Parts). slice_get ts k) w.threads ∙ g.there) in
      no_some (next_kind u p.memory) serial ((λ i. next_kind (same i) (w.memory i)) ∙ g.chunk)
  step-of (Chunks counts ∷ xs) ds n p b k c a (inr step) u devices there none serial = not_step counts k xs step.rest step.strata
  step-of (Dma ∷ xs) ds n p b k c a (inl left) u devices there none serial = absurd (omega (arith, left))
  step-of (Dma ∷ xs) ds n p b k c a (inr step) u devices there none serial = dma_no_step k xs step.rest step.strata
  step-of (Serial j ∷ xs) ds n p b k c a (inl left) u devices there none serial = absurd (omega (arith, left))
  step-of (Serial j ∷ xs) ds n p b k c a (inr step) u devices there none serial =
      let same : j ≡ k = same_step j k xs step.rest step.strata in
      subst (λ (i : ℕ). ComesTo v image (laid (by_verdict b i (serial_verdict b.log p.progress b.used i p.threads u p.memory) devices p))) same
      (serial-comes v image j xs ds n c p b u devices a step.whole (ap (slice_get p.threads) same ∙ there))

  -- ---- a DMA

  dma-of : (st : List Stratum) (ds : List ℕ) (n : ℕ) (p : Sphere) (b : Cursor) → Comes v image (at_standing st ds n) → Where v image st ds n p b → IsWhole (stratum_at v image (at_standing st ds n)) p b → (rest : List Stratum) → st ≡ Dma ∷ rest
      → (devices : Devices) → ComesTo v image (laid (dma_by_verdict b (dma_verdict b.log p.progress b.used) devices p))
  dma-of [] ds n p b c a w rest e devices = not_cons Dma rest e
  dma-of (Chunks counts ∷ xs) ds n p b c a w rest e devices = chunks_no_dma counts xs rest e
  dma-of (Serial k ∷ xs) ds n p b c a w rest e devices = step_no_dma k xs rest e
  dma-of (Dma ∷ xs) ds n p b c a w rest e devices = transfer-comes v image xs ds n c p b devices a w

  -- ---- moves

  no-pieces : (b : Cursor) (r : Role) → r ≡ Replay b → is_in_pieces r ≡ false → b.total ≡ 0
  no-pieces b r role none = let h = ltb-false 0 b.total (ap is_in_pieces (sym role) ∙ none) in omega (arith, h)

  in-pieces : (b : Cursor) (r : Role) (some : Bool) → r ≡ Replay b → is_in_pieces r ≡ some → is_in_pieces r ≡ false ⊎ (0 < b.total)
  in-pieces b r false role e = inl e
  in-pieces b r true role e = inr (ltb-true 0 b.total (ap is_in_pieces (sym role) ∙ e))

  -- the sphere i, which is p, has come as far as the strata say
  module _ (x : SerialState) (i : ℕ) (p : Sphere) (is : slice_get x.spheres i ≡ Some p) (r : ComesTo v image p) where
    moved_stands : (w : MovedSphere) → ComesTo v image (laid w) → Stands (ComesTo v image) (do_moved x i w) i
    moved_stands w c = record { sphere = laid w; there = get-set_same x.spheres i (laid w) p is; is = c }

    who : (k : ℕ) → is_stopped p.role ≡ false → turn_against p (Actor.Thread k) ≡ None → MayGo r.cursor k
    who k going free = may-go p r.cursor k r.is.role going free

    chunk_stands : (z : Numbers) (k : ℕ) (how : How) (n limit : ℕ) (o : Option Parts) → 0 < z.capacity → slice_get p.threads k ≡ o → FitsChunk z p k how n limit o → Stands (ComesTo v image) (move_chunk z x i k how n limit p o) i
    unfolding chunk_moved
    chunk_stands z k how n limit None some there fits = absurd fits
    chunk_stands z k how n limit (Some u) some there fits =
        let b : Cursor = r.cursor in
        let y : Standing = r.standing in
        let may : MayGo b k = who k fits.going fits.turn in
        subst (λ (w : MovedSphere). Stands (ComesTo v image) (do_moved x i w) i)
        (sym (ap (λ (role : Role). chunk_in role k (is_piece how) (is_short z.s how limit) (run p.memory u n) x.devices p) r.is.role))
        (moved_stands (replayed_chunk (is_piece how) b k (run p.memory u n) x.devices p)
        (chunk-of y.strata y.done y.before p b k r.comes r.is may (who-goes (canonical v) (stratum_at v image y) y p b r.is k may) z u how n limit x.devices some there (in-pieces b p.role (is_in_pieces p.role) r.is.role refl) fits))

    serial_stands : (moment k : ℕ) (o : Option Parts) → slice_get p.threads k ≡ o → FitsSerial p k o → Stands (ComesTo v image) (do_serial x i k moment p o) i
    unfolding serial_moved
    serial_stands moment k None there fits = absurd fits
    serial_stands moment k (Some u) there fits =
        let b : Cursor = r.cursor in
        let y : Standing = r.standing in
        let may : MayGo b k = who k fits.going fits.turn in
        subst (λ (w : MovedSphere). Stands (ComesTo v image) (do_moved x i w) i)
        (sym (ap (λ (role : Role). serial_in role k moment u x.devices p) r.is.role))
        (moved_stands (serial_in (Replay b) k moment u x.devices p)
        (step-of y.strata y.done y.before p b k r.comes r.is (who-goes (canonical v) (stratum_at v image y) y p b r.is k may) u x.devices there (no-pieces b p.role r.is.role fits.whole) fits.serial))

    dma_stands : DmaFits x.devices p → Stands (ComesTo v image) (do_dma x i (dma_moved x.devices p)) i
    unfolding dma_moved
    dma_stands fits =
        let b : Cursor = r.cursor in
        let y : Standing = r.standing in
        let turn : b.now ≡ TurnOfDma = turn_of_dma p b r.is.role fits.going fits.turn in
        let g = dma-goes (canonical v) (stratum_at v image y) y p b r.is turn in
        subst (λ (o : Option MovedSphere). Stands (ComesTo v image) (do_dma x i o) i)
        (sym (ap (λ (role : Role). dma_in role x.devices p) r.is.role))
        (moved_stands (dma_by_verdict b (dma_verdict b.log p.progress b.used) x.devices p)
        (dma-of y.strata y.done y.before p b r.comes r.is g.0 g.1.0 g.1.1 x.devices))

    what-stands : (z : Numbers) (moment : ℕ) (what : MoveKind) → 0 < z.capacity → FitsWhat z x.devices p what → Stands (ComesTo v image) (do_by_kind z x moment i p what) i
    what-stands z moment (OfChunk k how n limit) some fits = chunk_stands z k how n limit (slice_get p.threads k) some refl fits
    what-stands z moment (OfSerial k) some fits = serial_stands moment k (slice_get p.threads k) refl fits
    what-stands z moment OfDma some fits = dma_stands fits
    what-stands z moment (OfRaise k value) some fits = absurd (no_raise p r.cursor (slice_get p.threads k) r.is.role fits)

  -- each move of a sphere that has come as far as the strata say leaves it so
  pub strata-keep : (z : Numbers) → 0 < z.capacity → Keeps (ComesTo v image) z
  strata-keep z some x i p is r moment what fits = what-stands x i p is r z moment what some fits
