-- The events of flights keep the invariant: Drain, Deliver and Retire.
use Rattle.std.specs.Prelude.{option_map}
use Rattle.std.proofs.Common.{◌≡◌, ◌≢◌, ℕ, ◌<◌, ◌≤◌, inl, inr, Bool, true, false, eqb, cond, ◌&&◌, List, [], ◌∷◌, ◌++◌, length, Option, Some, None, refl, sym, ap, ◌∙◌, subst, arith, set}
use Rattle.std.proofs.Math.ListN.{length-set}
use Rattle.std.proofs.lemmas.Bool.{true≢false, and_parts, or_parts, cases_eq}
use Rattle.std.proofs.lemmas.List.{set-get_or}
use Rattle.std.proofs.lemmas.Option.{none-some}
use Rattle.spec_isa.specs.Words.{Stored, lay, lays, Lacks, Apart}
use Rattle.spec_engine.specs.declared.answers.Deliver.{Deliver}
use Rattle.spec_engine.specs.declared.answers.Retire.{Retire}
use Rattle.spec_engine.specs.Signatures.{Signature, hits}
use Rattle.spec_engine.specs.Flights.{Flight, at, told_at, all_told, meets_chunk, drain_words, Delivered, tell, deliver, has_none, is_done, Retired, retire}
use Rattle.spec_engine.specs.Chunks.{Chunk, squash, is_fourth, halved, next_squashes}
use Rattle.spec_engine.specs.Laws.{CoversWords}
use Rattle.spec_engine.proofs.Searches.{told-tell_other, all_told-at}
use Rattle.spec_protocol.specs.declared.reply.Reply.{Reply}
use Rattle.spec_sphere.specs.sphere.Spheres.{Role, Plain, Record, Replay, Sphere, halves, replays}
use Rattle.spec_protocol.specs.machine.World.{Occupant, World, Move, EventOutcome, sphere_at, with_memory, with_core, with_slot, answered, Numbers}
use Rattle.spec_engine.specs.Flying.{words_of, flying}
use Rattle.spec_protocol.specs.machine.Shown.{shown, shown_of}
use Rattle.spec_protocol.specs.machine.Moves.{do_if, FitsIf}
use Rattle.spec_protocol.specs.machine.Flying.{reply_of_drain, drain_slot, draining, reads_of, writes_of, squashed, told, delivering, reply_of_retire, retiring, younger_of, hits_younger, squashed_younger}
use Rattle.spec_play.proofs.Local.Laying.{lays_append, lays-lay}
use Rattle.spec_sphere.proofs.Memory.Laying.{AllLack_flip, Apart_lack, Apart_first, Apart_last, Apart-append}
use Rattle.spec_protocol.proofs.Memory.Slots.{at-set_same, at-set_other, at_within, before, behind, flying-at, flying-set, flying_same, words-same, words-other}
use Rattle.spec_protocol.proofs.Invariants.Preserved.{SameSizes, PointIs, Preserved, sphere-same, sphere-other, shown_from-same, shown-unmoved, set-itself, unchanged-preserved}
use Rattle.spec_protocol.proofs.Invariants.Cores.{set-cases, alone-set, held_there, others-differ}
use Rattle.spec_play.proofs.Threads.{branch}
use Rattle.spec_protocol.proofs.Invariants.Held.{chunk-beside, Beside, held-beside, begun-good}
use Rattle.spec_protocol.specs.promises.Currency.{IsQuiet}
use Rattle.spec_protocol.specs.promises.Invariants.{IsFlightCovered, IsGoodChunk, current, IsGoodOver, IsOfThread, IsGoodHeld, IsGood, Follows}

-- ---- a slot is set to what stands there

slot_itself : (w : World) (k : ℕ) → with_slot w k (at w.slots k) ≡ w
slot_itself w k = (λ j. record w { slots = set-get_or w.slots k None j })

abbrev set_to : World → ℕ → Option Flight → World
set_to w k v = with_slot w k v

unchanged : (w : World) (k : ℕ) (v : Option Flight) → at w.slots k ≡ v → with_slot w k v ≡ w
unchanged w k v e = ap (set_to w k) (sym e) ∙ slot_itself w k

-- ---- Drain

drain_lays : (m : List ℕ) (b h ss : List Stored) (s : Stored) → Lacks s.number b → lays (lay m s) (b ++ (ss ++ h)) ≡ lays m (b ++ ((s ∷ ss) ++ h))
drain_lays m b h ss s lacks =
    lays_append (lay m s) b (ss ++ h) ∙ ap (λ (n : List ℕ). lays n (ss ++ h)) (lays-lay m s b lacks) ∙ sym (lays_append m b ((s ∷ ss) ++ h))

-- flights of which one has a word less
shorter_quiet : (xs : List (Option Flight)) (k : ℕ) (f : Flight) (ss : List Stored) (i c : ℕ) (reads : Signature) → at xs k ≡ Some f → IsQuiet (set xs k (Some (record f { words = ss }))) i c reads → IsQuiet xs i c reads
shorter_quiet xs k f ss i c reads is q =
    record {
      misses = λ j g there same untold. elim (cases_eq j k) [
        | inl e ↦ (
            let fg : f ≡ g = (let o : Some f ≡ Some g = sym is ∙ ap (at xs) (sym e) ∙ there in cc) in
            subst (λ (x : Flight). hits x.writes reads ≡ false) fg
            (q.misses k (record f { words = ss }) (at-set_same xs k (Some (record f { words = ss })) (at_within xs k f is))
            (ap (λ (x : Flight). x.sphere) fg ∙ same) (ap (λ (x : Flight). told_at x.told c) fg ∙ untold))
            )
        | inr ne ↦ q.misses j g (at-set_other xs k j (Some (record f { words = ss })) ne ∙ there) same untold
      ];
    }

lacks_before : (b h : List Stored) (s : Stored) (ss : List Stored) → Apart (b ++ ((s ∷ ss) ++ h)) → Lacks s.number b
lacks_before b h s ss apart = (AllLack_flip b ((s ∷ ss) ++ h) (Apart_lack b ((s ∷ ss) ++ h) apart)).0

without_first : (b h : List Stored) (s : Stored) (ss : List Stored) → Apart (b ++ ((s ∷ ss) ++ h)) → Apart (b ++ (ss ++ h))
without_first b h s ss apart =
    let last = Apart_last b ((s ∷ ss) ++ h) apart in
    Apart-append b (ss ++ h) (Apart_first b ((s ∷ ss) ++ h) apart) last.1
    (AllLack_flip (ss ++ h) b (AllLack_flip b ((s ∷ ss) ++ h) (Apart_lack b ((s ∷ ss) ++ h) apart)).1)

drained_world : World → ℕ → Flight → Stored → List Stored → World
drained_world w k f s ss = with_slot (with_memory w f.sphere (lay (sphere_at w f.sphere).memory s)) k (Some (record f { words = ss }))

drained_preserved : (w : World) (k : ℕ) (f : Flight) (s : Stored) (ss : List Stored) (a : EventOutcome) → IsGood w → at w.slots k ≡ Some f → f.words ≡ s ∷ ss → a.world ≡ drained_world w k f s ss → a.move ≡ None → a.point ≡ None → Preserved w a
unfolding drained_world shown
drained_preserved w k f s ss a good is words world move point =
    let i = f.sphere in
    let m = (sphere_at w i).memory in
    let b = before i w.slots k in
    let h = behind i w.slots k in
    let g = record f { words = ss } in
    let ys = set w.slots k (Some g) in
    let within = at_within w.slots k f is in
    let inside = good.flights k f is in
    let was : flying i w.slots ≡ b ++ ((s ∷ ss) ++ h) =
    flying-at i w.slots k ∙ ap (λ (o : Option Flight). b ++ (words_of i o ++ h)) is ∙ ap (λ (ws : List Stored). b ++ (ws ++ h)) (words-same i f refl ∙ words)
    in
    let now : flying i ys ≡ b ++ (ss ++ h) =
    flying-set i w.slots k (Some g) within ∙ ap (λ (ws : List Stored). b ++ (ws ++ h)) (words-same i g refl)
    in
    let apart : Apart (b ++ ((s ∷ ss) ++ h)) = subst Apart was (good.apart i) in
    let memory : lays (lay m s) (flying i ys) ≡ lays m (flying i w.slots) =
    ap (lays (lay m s)) now ∙ drain_lays m b h ss s (lacks_before b h s ss apart) ∙ sym (ap (lays m) was)
    in
    let others : (j : ℕ) → j ≢ i → flying j ys ≡ flying j w.slots =
    (λ j ne. flying_same j w.slots k (Some g) within (words-other j g (λ e. ne (sym e)) ∙ sym (ap (words_of j) is ∙ words-other j f (λ e. ne (sym e)))))
    in
    let v = drained_world w k f s ss in
    let there : sphere_at v i ≡ record (sphere_at w i) { memory = lay m s } = sphere-same w.spheres i (record (sphere_at w i) { memory = lay m s }) inside in
    let elsewhere : (j : ℕ) → j ≢ i → sphere_at v j ≡ sphere_at w j = (λ j ne. sphere-other w.spheres i j (record (sphere_at w i) { memory = lay m s }) ne) in
    let beside : (c n : ℕ) → Beside w v c n =
    (λ c n. record {
      numbers = refl;
      spheres = length-set w.spheres i (record (sphere_at w i) { memory = lay m s });
      threads = elim (cases_eq n i) [
        | inl e ↦ (λ j. (sphere_at v (e j)).threads) ∙ ap (λ (p : Sphere). p.threads) there ∙ sym (λ j. (sphere_at w (e j)).threads)
        | inr ne ↦ ap (λ (p : Sphere). p.threads) (elsewhere n ne)
      ];
      role = elim (cases_eq n i) [
        | inl e ↦ (λ j. (sphere_at v (e j)).role) ∙ ap (λ (p : Sphere). p.role) there ∙ sym (λ j. (sphere_at w (e j)).role)
        | inr ne ↦ ap (λ (p : Sphere). p.role) (elsewhere n ne)
      ];
      memory = elim (cases_eq n i) [
        | inl e ↦ (λ j. current v (e j)) ∙ ap (λ (p : Sphere). lays p.memory (flying i ys)) there ∙ memory ∙ sym (λ j. current w (e j))
        | inr ne ↦ (λ j. lays (elsewhere n ne j).memory (others n ne j))
      ];
      quiet = λ reads. shorter_quiet w.slots k f ss n c reads is;
    })
    in
    record {
      good = subst IsGood (sym world) (record {
        buffer = good.buffer;
        standard = good.standard;
        apart = λ j. elim (cases_eq j i) [
          | inl e ↦ subst (λ (n : ℕ). Apart (flying n ys)) (sym e) (subst Apart (sym now) (without_first b h s ss apart))
          | inr ne ↦ subst Apart (sym (others j ne)) (good.apart j)
        ];
        covered = λ j x e. elim (set-cases w.slots k j (Some g) x e) [
          | inl p ↦ (
              let c = good.covered k f is in
              let gx : g ≡ x = (let o : Some g ≡ Some x = p.1 in cc) in
              subst (IsFlightCovered w.numbers.bits) gx (record { size = c.size; words = (subst (CoversWords f.sphere f.writes) words c.words).1 })
              )
          | inr p ↦ good.covered j x p.1
        ];
        flights = λ j x e. subst (λ (n : ℕ). x.sphere < n) (sym (length-set w.spheres i (record (sphere_at w i) { memory = lay m s }))) (elim (set-cases w.slots k j (Some g) x e) [
          | inl p ↦ (let gx : g ≡ x = (let o : Some g ≡ Some x = p.1 in cc) in subst (λ (y : Flight). y.sphere < length w.spheres) gx inside)
          | inr p ↦ good.flights j x p.1
        ]);
        held = λ c x e. held-beside w v c x (beside c x.chunk.sphere) (good.held c x e);
        alone = good.alone;
      });
      sizes = subst (SameSizes w) (sym world) (record { numbers = refl; spheres = length-set w.spheres i (record (sphere_at w i) { memory = lay m s }); cores = refl; slots = length-set w.slots k (Some g) });
      point = subst (λ (m : Option Move). PointIs w m a.point) (sym move) point;
      whole = ap shown_of world
          ∙ (λ j. record { spheres = shown-unmoved w.slots ys i w.spheres (record (sphere_at w i) { memory = lay m s }) others (λ n. record (sphere_at w i) { memory = memory n }) j; devices = w.devices })
          ∙ sym (ap (do_if w.numbers (shown_of w)) move);
      fits = subst (FitsIf w.numbers (shown_of w)) (sym move) tt;
    }

clean_world : (w : World) (k i : ℕ) (v : Option Flight) → at w.slots k ≡ v → with_slot (with_memory w i (sphere_at w i).memory) k v ≡ w
clean_world w k i v is =
    (λ j. record w { spheres = set-itself w.spheres i j; slots = (ap (set w.slots k) (sym is) ∙ set-get_or w.slots k None) j })

drain_words_preserved : (w : World) (k : ℕ) (f : Flight) (ws : List Stored) → IsGood w → at w.slots k ≡ Some f → f.words ≡ ws
    → let d = drain_words (sphere_at w f.sphere).memory f ws in Preserved w (answered (with_slot (with_memory w f.sphere d.memory) k d.slot) (reply_of_drain d.reply))
unfolding drained_world
drain_words_preserved w k f [] good is words = unchanged-preserved w _ (clean_world w k f.sphere (Some f) is) refl refl good
drain_words_preserved w k f (s ∷ ss) good is words = drained_preserved w k f s ss _ good is words refl refl refl

drain_slot_preserved : (w : World) (k : ℕ) (o : Option Flight) → at w.slots k ≡ o → IsGood w → Preserved w (drain_slot w k o)
drain_slot_preserved w k None is good = unchanged-preserved w (answered w Reply.NoCommit) refl refl refl good
drain_slot_preserved w k (Some f) is good = drain_words_preserved w k f f.words good is refl

-- the event Drain keeps the invariant
pub drain-preserved : (w : World) (k : ℕ) → IsGood w → Preserved w (draining w k)
unfolding draining
drain-preserved w k good = drain_slot_preserved w k (at w.slots k) refl good

-- ---- a slot whose flight keeps its words

-- only what is told has changed, or the flight had no word left
record SlotKept (w : World) (k : ℕ) (v : Option Flight) : Type 0 where
  words : (i : ℕ) → words_of i v ≡ words_of i (at w.slots k)
  covered : (x : Flight) → v ≡ Some x → IsFlightCovered w.numbers.bits x
  flights : (x : Flight) → v ≡ Some x → x.sphere < length w.spheres

slot_memory : (w : World) (k : ℕ) (v : Option Flight) (i : ℕ) → k < length w.slots → SlotKept w k v → current (with_slot w k v) i ≡ current w i
slot_memory w k v i within s = ap (lays (sphere_at w i).memory) (flying_same i w.slots k v within (s.words i))

slot_beside : (w : World) (k : ℕ) (v : Option Flight) (c i : ℕ) → k < length w.slots → SlotKept w k v → ((reads : Signature) → IsQuiet (set w.slots k v) i c reads → IsQuiet w.slots i c reads) → Beside w (with_slot w k v) c i
slot_beside w k v c i within s quiet =
    record {
      numbers = refl;
      spheres = refl;
      threads = refl;
      role = refl;
      memory = slot_memory w k v i within s;
      quiet = quiet;
    }

slot_good : (w : World) (k : ℕ) (v : Option Flight) → k < length w.slots → IsGood w → SlotKept w k v → ((c : ℕ) (x : Occupant) → at w.cores c ≡ Some x → IsGoodHeld (with_slot w k v) c x) → IsGood (with_slot w k v)
slot_good w k v within good s held =
    record {
      buffer = good.buffer;
      standard = good.standard;
      apart = λ i. subst Apart (sym (flying_same i w.slots k v within (s.words i))) (good.apart i);
      covered = λ j x e. elim (set-cases w.slots k j v x e) [ inl p ↦ s.covered x p.1 | inr p ↦ good.covered j x p.1 ];
      flights = λ j x e. elim (set-cases w.slots k j v x e) [ inl p ↦ s.flights x p.1 | inr p ↦ good.flights j x p.1 ];
      held = held;
      alone = good.alone;
    }

slot_shown : (w : World) (k : ℕ) (v : Option Flight) → k < length w.slots → SlotKept w k v → shown_of (with_slot w k v) ≡ shown_of w
slot_shown w k v within s =
    (λ j. record { spheres = shown_from-same w.slots (set w.slots k v) 0 w.spheres (λ i l. flying_same i w.slots k v within (s.words i)) j; devices = w.devices })

-- ---- Retire

no_word : (ws : List Stored) → has_none ws ≡ true → ws ≡ []
no_word [] e = refl
no_word (s ∷ ss) e = absurd (true≢false (sym e))

empty_words : (i : ℕ) (f : Flight) → f.words ≡ [] → [] ≡ words_of i (Some f)
empty_words i f e =
    elim (eqb f.sphere i) as (λ (b : Bool). [] ≡ cond b f.words []) [
      | true ↦ sym e
      | false ↦ refl
    ]

retired_quiet : (w : World) (k : ℕ) (f : Flight) (i c : ℕ) (reads : Signature) → at w.slots k ≡ Some f → all_told (length w.cores) f.told ≡ true → c < length w.cores → IsQuiet (set w.slots k None) i c reads → IsQuiet w.slots i c reads
retired_quiet w k f i c reads is all l q =
    record {
      misses = λ j g there same untold. elim (cases_eq j k) [
        | inl e ↦ (
            let fg : f ≡ g = (let o : Some f ≡ Some g = sym is ∙ ap (at w.slots) (sym e) ∙ there in cc) in
            absurd (true≢false (sym (all_told-at (length w.cores) f.told c all l) ∙ ap (λ (x : Flight). told_at x.told c) fg ∙ untold))
            )
        | inr ne ↦ q.misses j g (at-set_other w.slots k j None ne ∙ there) same untold
      ];
    }

retired_preserved : (w : World) (k : ℕ) (f : Flight) (a : EventOutcome) → IsGood w → at w.slots k ≡ Some f → is_done (length w.cores) f ≡ true → a.world ≡ with_slot w k None → a.move ≡ None → a.point ≡ None → Preserved w a
retired_preserved w k f a good is done world move point =
    let p = and_parts (has_none f.words) (all_told (length w.cores) f.told) done in
    let within = at_within w.slots k f is in
    let s : SlotKept w k None = record {
      words = λ i. empty_words i f (no_word f.words p.0) ∙ ap (words_of i) (sym is);
      covered = λ x e. absurd (none-some x e);
      flights = λ x e. absurd (none-some x e);
    }
    in
    record {
      good = subst IsGood (sym world) (slot_good w k None within good s
          (λ c x e. held-beside w (with_slot w k None) c x
          (slot_beside w k None c x.chunk.sphere within s (λ reads. retired_quiet w k f x.chunk.sphere c reads is p.1 (at_within w.cores c x e))) (good.held c x e)));
      sizes = subst (SameSizes w) (sym world) (record { numbers = refl; spheres = refl; cores = refl; slots = length-set w.slots k None });
      point = subst (λ (m : Option Move). PointIs w m a.point) (sym move) point;
      whole = ap shown_of world ∙ slot_shown w k None within s ∙ sym (ap (do_if w.numbers (shown_of w)) move);
      fits = subst (FitsIf w.numbers (shown_of w)) (sym move) tt;
    }

retire_slot_preserved : (w : World) (k : ℕ) (o : Option Flight) → at w.slots k ≡ o → IsGood w → let d = retire (length w.cores) o in Preserved w (answered (with_slot w k d.slot) (reply_of_retire d.reply))
retire_slot_preserved w k None is good = unchanged-preserved w _ (unchanged w k None is) refl refl good
retire_slot_preserved w k (Some f) is good =
    branch (λ (d : Retired). Preserved w (answered (with_slot w k d.slot) (reply_of_retire d.reply))) (is_done (length w.cores) f)
    (record { reply = Retire.Retired; slot = None }) (record { reply = Retire.NotDone; slot = Some f })
    (λ done. retired_preserved w k f _ good is done refl refl refl)
    (λ _. unchanged-preserved w _ (unchanged w k (Some f) is) refl refl good)

-- the event Retire keeps the invariant
pub retire-preserved : (w : World) (k : ℕ) → IsGood w → Preserved w (retiring w k)
unfolding retiring
retire-preserved w k good = retire_slot_preserved w k (at w.slots k) refl good

-- ---- Deliver

told_quiet : (xs : List (Option Flight)) (k : ℕ) (f : Flight) (c d i : ℕ) (reads : Signature) → at xs k ≡ Some f → (d ≡ c → hits f.writes reads ≡ false) → IsQuiet (set xs k (Some (tell f c))) i d reads → IsQuiet xs i d reads
told_quiet xs k f c d i reads is free q =
    record {
      misses = λ j g there same untold. elim (cases_eq j k) [
        | inl e ↦ (
            let fg : f ≡ g = (let o : Some f ≡ Some g = sym is ∙ ap (at xs) (sym e) ∙ there in cc) in
            subst (λ (x : Flight). hits x.writes reads ≡ false) fg (elim (cases_eq d c) [
              | inl dc ↦ free dc
              | inr ne ↦ q.misses k (tell f c) (at-set_same xs k (Some (tell f c)) (at_within xs k f is)) (ap (λ (x : Flight). x.sphere) fg ∙ same)
                  (told-tell_other f c d ne ∙ ap (λ (x : Flight). told_at x.told d) fg ∙ untold)
            ])
            )
        | inr ne ↦ q.misses j g (at-set_other xs k j (Some (tell f c)) ne ∙ there) same untold
      ];
    }

told_slot : (w : World) (k c : ℕ) (f : Flight) → IsGood w → at w.slots k ≡ Some f → SlotKept w k (Some (tell f c))
told_slot w k c f good is =
    record {
      words = λ i. ap (words_of i) (sym is);
      covered = λ x e.
          let cov = good.covered k f is in
          let q : tell f c ≡ x = cc in
          subst (IsFlightCovered w.numbers.bits) q (record { size = cov.size; words = cov.words });
      flights = λ x e. let q : tell f c ≡ x = cc in subst (λ (y : Flight). y.sphere < length w.spheres) q (good.flights k f is);
    }

either_positive : (b : Bool) (limit : ℕ) → 0 < limit → 0 < cond b (halved limit) limit
either_positive true limit positive = omega arith
either_positive false limit positive = positive

either_most : (b : Bool) (limit most : ℕ) → 0 < limit → limit ≤ most → cond b (halved limit) limit ≤ most
either_most true limit most positive l = omega arith
either_most false limit most positive l = l

-- a chunk that begins again from its start
squash_good : (capacity : ℕ) (xs : List (Option Flight)) (c : ℕ) (m : List ℕ) (ch : Chunk) (bits : ℕ) → 0 < ch.limit → ch.reads.bits ≡ bits → IsGoodChunk capacity bits xs c m (squash ch)
squash_good capacity xs c m ch bits positive size =
    begun-good capacity bits xs c m ch.reads.bits ch.sphere ch.start (cond (is_fourth ch) (halved ch.limit) ch.limit) ch.halves (next_squashes ch) size (either_positive (is_fourth ch) ch.limit positive)

not_both : (role : Role) → replays role ≡ true → halves role ≡ false
not_both Plain r = refl
not_both (Record recording) r = absurd (true≢false (sym r))
not_both (Replay b) r = refl

-- of a sphere that is not recorded no squash changes the limit
not_halved : (ch : Chunk) (role : Role) → ch.halves ≡ halves role → replays role ≡ true → cond (is_fourth ch) (halved ch.limit) ch.limit ≡ ch.limit
not_halved ch role e r = ap (λ (b : Bool). cond (b && eqb ch.squashes 3) (halved ch.limit) ch.limit) (e ∙ not_both role r)

squash_thread : (s : ℕ) (p : Sphere) (k : ℕ) (ch : Chunk) → 0 < ch.limit → IsOfThread s p k ch → IsOfThread s p k (squash ch)
squash_thread s p k ch positive is =
    record {
      start = is.start;
      lives = is.lives;
      halving = is.halving;
      limit = λ going.
          let l = is.limit going in
          record {
            most = either_most (is_fourth ch) ch.limit _ positive l.most;
            replayed = λ r. not_halved ch p.role is.halving r ∙ l.replayed r;
          };
    }

squash_held : (w : World) (k c : ℕ) (o : Option Flight) (h : Occupant) → IsGoodHeld w c h → IsGoodHeld (with_slot w k o) c (record h { chunk = squash h.chunk; younger = None })
squash_held w k c o h good =
    let positive = good.chunk.closes.positive in
    record {
      sphere = good.sphere;
      thread = squash_thread w.numbers.s (sphere_at w h.chunk.sphere) h.thread h.chunk positive good.thread;
      chunk = squash_good w.numbers.capacity (set w.slots k o) c (current (with_slot w k o) h.chunk.sphere) h.chunk w.numbers.bits positive good.chunk.reads_size;
      follows = λ y e. absurd (none-some y e);
      younger = λ y e. absurd (none-some y e);
    }

squash_follows : (z : Numbers) (p : Sphere) (k : ℕ) (older y : Chunk) → 0 < y.limit → Follows z p k older y → Follows z p k older (squash y)
squash_follows z p k older y positive is =
    record {
      deep = is.deep;
      sphere = is.sphere;
      allowed = is.allowed;
      start = is.start;
      halving = is.halving;
      limit = λ going.
          let l = is.limit going in
          record {
            most = either_most (is_fourth y) y.limit _ positive l.most;
            replayed = λ r. not_halved y p.role is.halving r ∙ l.replayed r;
          };
    }

was_squashed : (o : Option Chunk) (y : Chunk) → option_map squash o ≡ Some y → (x : Chunk) × (o ≡ Some x) × (squash x ≡ y)
was_squashed None y e = absurd (none-some y e)
was_squashed (Some x) y e = (x, refl, (let q : squash x ≡ y = cc in q))

abbrev tell_in : World → (slot core : ℕ) → Flight → World
tell_in w k c f = with_slot w k (Some (tell f c))

-- another core's chunks stay good
told_other : (w : World) (k c : ℕ) (f : Flight) (d : ℕ) (x : Occupant) → IsGood w → at w.slots k ≡ Some f → d ≢ c → at w.cores d ≡ Some x → IsGoodHeld (tell_in w k c f) d x
told_other w k c f d x good is ne there =
    held-beside w (tell_in w k c f) d x
    (slot_beside w k (Some (tell f c)) d x.chunk.sphere (at_within w.slots k f is) (told_slot w k c f good is) (λ reads. told_quiet w.slots k f c d x.chunk.sphere reads is (λ dc. absurd (ne dc))))
    (good.held d x there)

-- a chunk of the core that is told stays good over its base where the flight doesn't hit what it has read
told_over : (w : World) (k c : ℕ) (f : Flight) (i : ℕ) (ws : List Stored) (ch : Chunk) → IsGood w → at w.slots k ≡ Some f → hits f.writes ch.reads ≡ false → IsGoodOver w c i ws ch → IsGoodOver (tell_in w k c f) c i ws ch
told_over w k c f i ws ch good is free chunk =
    let v = tell_in w k c f in
    chunk-beside w.numbers.capacity w.numbers.bits w.slots v.slots c (lays (current w i) ws) (lays (current v i) ws) ch
    (ap (λ (m : List ℕ). lays m ws) (slot_memory w k (Some (tell f c)) i (at_within w.slots k f is) (told_slot w k c f good is)))
    (told_quiet w.slots k f c c ch.sphere ch.reads is (λ _. free)) chunk

told_own : (w : World) (k c : ℕ) (f : Flight) (x : Occupant) → IsGood w → at w.slots k ≡ Some f → hits f.writes x.chunk.reads ≡ false → ((y : Chunk) → x.younger ≡ Some y → hits f.writes y.reads ≡ false) → at w.cores c ≡ Some x
    → IsGoodHeld (tell_in w k c f) c x
told_own w k c f x good is free younger_free there =
    let held = good.held c x there in
    record {
      sphere = held.sphere;
      thread = held.thread;
      chunk = told_over w k c f x.chunk.sphere [] x.chunk good is free held.chunk;
      follows = held.follows;
      younger = λ y e. told_over w k c f x.chunk.sphere x.chunk.done.words y good is (younger_free y e) (held.younger y e);
    }

-- where the older is not hit, the younger may begin again
squash_younger_held : (w : World) (k c : ℕ) (f : Flight) (x : Occupant) → IsGood w → at w.slots k ≡ Some f → hits f.writes x.chunk.reads ≡ false → at w.cores c ≡ Some x → IsGoodHeld (tell_in w k c f) c (record x { younger = option_map squash x.younger })
squash_younger_held w k c f x good is free there =
    let held = good.held c x there in
    let v = tell_in w k c f in
    let i = x.chunk.sphere in
    record {
      sphere = held.sphere;
      thread = held.thread;
      chunk = told_over w k c f i [] x.chunk good is free held.chunk;
      follows = λ y e.
          let s = was_squashed x.younger y e in
          subst (Follows w.numbers (sphere_at w i) x.thread x.chunk) s.2
          (squash_follows w.numbers (sphere_at w i) x.thread x.chunk s.0 (held.younger s.0 s.1).closes.positive (held.follows s.0 s.1));
      younger = λ y e.
          let s = was_squashed x.younger y e in
          let g = held.younger s.0 s.1 in
          subst (IsGoodOver v c i x.chunk.done.words) s.2
          (squash_good w.numbers.capacity v.slots c (lays (current v i) x.chunk.done.words) s.0 w.numbers.bits g.closes.positive g.reads_size);
    }

told_sizes : (w : World) (k c : ℕ) (f : Flight) → SameSizes w (tell_in w k c f)
told_sizes w k c f = record { numbers = refl; spheres = refl; cores = refl; slots = length-set w.slots k (Some (tell f c)) }

younger_free : (f : Flight) (o : Option Chunk) (y : Chunk) → hits_younger (Some f) o ≡ false → o ≡ Some y → hits f.writes y.reads ≡ false
younger_free f o y free e = (or_parts (hits f.writes y.reads) (hits f.writes y.writes) (ap (hits_younger (Some f)) (sym e) ∙ free)).0

delivered_preserved : (w : World) (k c : ℕ) (f : Flight) (held : Option Occupant) → IsGood w → at w.slots k ≡ Some f → at w.cores c ≡ held → meets_chunk (reads_of w held) (writes_of w held) f ≡ false → hits_younger (Some f) (younger_of held) ≡ false → Preserved w (answered (tell_in w k c f) Reply.Delivered)
delivered_preserved w k c f held good is there free free_younger =
    record {
      good = slot_good w k (Some (tell f c)) (at_within w.slots k f is) good (told_slot w k c f good is)
          (λ d x e. elim (cases_eq d c) [
            | inl dc ↦ (
                let own : at w.cores c ≡ Some x = ap (at w.cores) (sym dc) ∙ e in
                let h : held ≡ Some x = sym there ∙ own in
                subst (λ (n : ℕ). IsGoodHeld (tell_in w k c f) n x) (sym dc)
                (told_own w k c f x good is
                (or_parts (hits f.writes x.chunk.reads) (hits f.writes x.chunk.writes) (ap (λ (o : Option Occupant). meets_chunk (reads_of w o) (writes_of w o) f) (sym h) ∙ free)).0
                (λ y there_y. younger_free f x.younger y (ap (λ (o : Option Occupant). hits_younger (Some f) (younger_of o)) (sym h) ∙ free_younger) there_y)
                own)
                )
            | inr ne ↦ told_other w k c f d x good is ne e
          ]);
      sizes = told_sizes w k c f;
      point = refl;
      whole = slot_shown w k (Some (tell f c)) (at_within w.slots k f is) (told_slot w k c f good is);
      fits = tt;
    }

-- core c is told, and what it holds changes
told_good : (w : World) (k c : ℕ) (f : Flight) (o : Option Occupant) → IsGood w → at w.slots k ≡ Some f → ((x : Occupant) → o ≡ Some x → IsGoodHeld (tell_in w k c f) c x)
    → ((h : Occupant) → o ≡ Some h → (d : ℕ) (g : Occupant) → d ≢ c → at w.cores d ≡ Some g → h.chunk.sphere ≡ g.chunk.sphere → h.thread ≡ g.thread → ⊥) → IsGood (with_core (tell_in w k c f) c o)
told_good w k c f o good is new other =
    let within = at_within w.slots k f is in
    let s = told_slot w k c f good is in
    record {
      buffer = good.buffer;
      standard = good.standard;
      apart = λ i. subst Apart (sym (flying_same i w.slots k (Some (tell f c)) within (s.words i))) (good.apart i);
      covered = λ j x e. elim (set-cases w.slots k j (Some (tell f c)) x e) [ inl p ↦ s.covered x p.1 | inr p ↦ good.covered j x p.1 ];
      flights = λ j x e. elim (set-cases w.slots k j (Some (tell f c)) x e) [ inl p ↦ s.flights x p.1 | inr p ↦ good.flights j x p.1 ];
      held = λ d x e. elim (set-cases w.cores c d o x e) [
        | inl p ↦ held_there (tell_in w k c f) c d o x (subst (λ (n : ℕ). IsGoodHeld (tell_in w k c f) n x) (sym p.0) (new x p.1))
        | inr p ↦ held_there (tell_in w k c f) c d o x (told_other w k c f d x good is p.0 p.1)
      ];
      alone = alone-set w.cores c o good.alone other;
    }

squashed_good : (w : World) (k c : ℕ) (f : Flight) (held : Option Occupant) → IsGood w → at w.slots k ≡ Some f → at w.cores c ≡ held → IsGood (with_core (tell_in w k c f) c (squashed held))
squashed_good w k c f None good is there =
    told_good w k c f None good is (λ x e. absurd (none-some x e)) (λ h e. absurd (none-some h e))
squashed_good w k c f (Some h) good is there =
    let x : Occupant = record h { chunk = squash h.chunk; younger = None } in
    told_good w k c f (Some x) good is
    (λ y e. subst (IsGoodHeld (tell_in w k c f) c) (let q : x ≡ y = cc in q) (squash_held w k c (Some (tell f c)) h (good.held c h there)))
    (others-differ w c h x good there refl refl)

-- the older chunk is not hit, and the younger begins again
younger_squashed_good : (w : World) (k c : ℕ) (f : Flight) (held : Option Occupant) → IsGood w → at w.slots k ≡ Some f → at w.cores c ≡ held → meets_chunk (reads_of w held) (writes_of w held) f ≡ false → IsGood (with_core (tell_in w k c f) c (squashed_younger held))
younger_squashed_good w k c f None good is there free =
    told_good w k c f None good is (λ x e. absurd (none-some x e)) (λ h e. absurd (none-some h e))
younger_squashed_good w k c f (Some h) good is there free =
    let x : Occupant = record h { younger = option_map squash h.younger } in
    told_good w k c f (Some x) good is
    (λ y e. subst (IsGoodHeld (tell_in w k c f) c) (let q : x ≡ y = cc in q)
    (squash_younger_held w k c f h good is (or_parts (hits f.writes h.chunk.reads) (hits f.writes h.chunk.writes) free).0 there))
    (others-differ w c h x good there refl refl)

younger_squashed_preserved : (w : World) (k c : ℕ) (f : Flight) (held : Option Occupant) → IsGood w → at w.slots k ≡ Some f → at w.cores c ≡ held → meets_chunk (reads_of w held) (writes_of w held) f ≡ false
    → Preserved w (answered (with_core (tell_in w k c f) c (squashed_younger held)) Reply.Squashed)
younger_squashed_preserved w k c f held good is there free =
    record {
      good = younger_squashed_good w k c f held good is there free;
      sizes = record { numbers = refl; spheres = refl; cores = length-set w.cores c (squashed_younger held); slots = length-set w.slots k (Some (tell f c)) };
      point = refl;
      whole = slot_shown w k (Some (tell f c)) (at_within w.slots k f is) (told_slot w k c f good is);
      fits = tt;
    }

squashed_preserved : (w : World) (k c : ℕ) (f : Flight) (held : Option Occupant) → IsGood w → at w.slots k ≡ Some f → at w.cores c ≡ held → Preserved w (answered (with_core (tell_in w k c f) c (squashed held)) Reply.Squashed)
squashed_preserved w k c f held good is there =
    record {
      good = squashed_good w k c f held good is there;
      sizes = record { numbers = refl; spheres = refl; cores = length-set w.cores c (squashed held); slots = length-set w.slots k (Some (tell f c)) };
      point = refl;
      whole = slot_shown w k (Some (tell f c)) (at_within w.slots k f is) (told_slot w k c f good is);
      fits = tt;
    }

deliver_slot_preserved : (w : World) (c k : ℕ) (held : Option Occupant) (o : Option Flight) → at w.cores c ≡ held → at w.slots k ≡ o → IsGood w
    → let d = deliver c (reads_of w held) (writes_of w held) o in Preserved w (told (with_slot w k d.slot) c held d.reply (hits_younger o (younger_of held)))
deliver_slot_preserved w c k held None there is good = unchanged-preserved w _ (unchanged w k None is) refl refl good
deliver_slot_preserved w c k held (Some f) there is good =
    branch (λ (d : Delivered). Preserved w (told (with_slot w k d.slot) c held d.reply (hits_younger (Some f) (younger_of held)))) (told_at f.told c)
    (record { reply = Deliver.Already; slot = Some f })
    (record { reply = cond (meets_chunk (reads_of w held) (writes_of w held) f) Deliver.Squashed Deliver.Delivered; slot = Some (tell f c) })
    (λ _. unchanged-preserved w _ (unchanged w k (Some f) is) refl refl good)
    (λ _. branch (λ (r : Deliver). Preserved w (told (tell_in w k c f) c held r (hits_younger (Some f) (younger_of held)))) (meets_chunk (reads_of w held) (writes_of w held) f) Deliver.Squashed Deliver.Delivered
    (λ _. squashed_preserved w k c f held good is there)
    (λ free. branch (Preserved w) (hits_younger (Some f) (younger_of held)) (answered (with_core (tell_in w k c f) c (squashed_younger held)) Reply.Squashed) (answered (tell_in w k c f) Reply.Delivered)
    (λ _. younger_squashed_preserved w k c f held good is there free)
    (λ free_younger. delivered_preserved w k c f held good is there free free_younger)))

-- the event Deliver keeps the invariant
pub deliver-preserved : (w : World) (c k : ℕ) → IsGood w → Preserved w (delivering w c k)
unfolding delivering
deliver-preserved w c k good = deliver_slot_preserved w c k (at w.cores c) (at w.slots k) refl refl good
