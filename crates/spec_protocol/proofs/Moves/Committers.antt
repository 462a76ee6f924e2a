-- A flight that begins has the mark of the committing core, and no other.
use Rattle.std.proofs.Common.{◌≡◌, ℕ, ◌^◌, inl, inr, Bool, true, false, cond, List, Option, Some, None, refl, sym, ap, ◌∙◌}
use Rattle.std.specs.Int.Bits.{or_zero_l}
use Rattle.std.proofs.lemmas.Option.{none-some}
use Rattle.spec_isa.specs.Words.{Stored}
use Rattle.spec_engine.specs.declared.answers.How.{How}
use Rattle.spec_engine.specs.Signatures.{Signature, nothing, signed}
use Rattle.spec_engine.specs.Flights.{Flight, at, free_slot, has_none, fill_at, fill, told_at, tell}
use Rattle.spec_engine.proofs.Searches.{told-zero, told-tell, told-tell_other, free_slot-within}
use Rattle.spec_protocol.specs.declared.event.Event.{Event}
use Rattle.spec_sphere.specs.sphere.Commits.{CommitOutcome, Granted, Piece, Diverged, MovedSphere, chunk_moved, serial_moved}
use Rattle.spec_engine.specs.Closing.{is_piece}
use Rattle.spec_protocol.specs.machine.World.{Occupant, World, EventOutcome, moment, sphere_at, answered}
use Rattle.spec_protocol.specs.machine.Asking.{CommitRequest, chunk_request, granted, grant_chunk, serial_request, grant_serial}
use Rattle.spec_protocol.specs.machine.Transferring.{dma_with}
use Rattle.spec_protocol.specs.machine.Machine.{core_no, sphere_no, act, happens}
use Rattle.spec_protocol.specs.promises.Committers.{CommittersAreTold}
use Rattle.spec_protocol.proofs.Moves.AnyEvent.{any-ask, any-transfer}
use Rattle.spec_protocol.proofs.Memory.Slots.{at-set}

-- a flight that begins has this mark
abbrev BeginWith : World → (mark : ℕ) → EventOutcome → Type 0
BeginWith w mark a = (k : ℕ) (f : Flight) → at w.slots k ≡ None → at a.world.slots k ≡ Some f → f.told ≡ mark

-- where no slot changes, none begins
none_begins : (w : World) (mark : ℕ) (a : EventOutcome) → a.world.slots ≡ w.slots → BeginWith w mark a
none_begins w mark a same k f free stands = absurd (none-some f (sym free ∙ ap (λ (xs : List (Option Flight)). at xs k) (sym same) ∙ stands))

filled_by : (xs : List (Option Flight)) (o : Option ℕ) (g : Flight) → free_slot xs ≡ o → (k : ℕ) (f : Flight) → at xs k ≡ None → at (fill_at o g xs) k ≡ Some f → f.told ≡ g.told
filled_by xs None g is k f free stands = absurd (none-some f (sym free ∙ stands))
filled_by xs (Some j) g is k f free stands = elim (at-set xs j k (Some g) (free_slot-within xs j is)) [
  | inl e ↦ (let h : Some f ≡ Some g = sym stands ∙ e.1 in ap (λ (x : Flight). x.told) (let q : f ≡ g = cc in q))
  | inr e ↦ absurd (none-some f (sym free ∙ sym e.1 ∙ stands))
]

flown_by : (i : ℕ) (words : List Stored) (writes : Signature) (mark : ℕ) (xs : List (Option Flight)) (b : Bool) (k : ℕ) (f : Flight) → at xs k ≡ None
    → at (cond b xs (fill (record { sphere = i; words = words; writes = writes; told = mark }) xs)) k ≡ Some f → f.told ≡ mark
flown_by i words writes mark xs true k f free stands = absurd (none-some f (sym free ∙ stands))
flown_by i words writes mark xs false k f free stands = filled_by xs (free_slot xs) (record { sphere = i; words = words; writes = writes; told = mark }) refl k f free stands

-- ---- an ask

granted_marks : (w : World) (c : ℕ) (q : CommitRequest) (writes : Signature) (v : MovedSphere) (o : CommitOutcome) → BeginWith w (2 ^ c) (granted w c q writes v o)
granted_marks w c q writes v Granted = λ k f free stands. flown_by q.sphere v.words writes (2 ^ c) w.slots (has_none v.words) k f free stands
granted_marks w c q writes v Piece = λ k f free stands. flown_by q.sphere v.words writes (2 ^ c) w.slots (has_none v.words) k f free stands
granted_marks w c q writes v (Diverged i why) = none_begins w (2 ^ c) (granted w c q writes v (Diverged i why)) refl

chunk_marks : (w : World) (c : ℕ) (h : Occupant) (how : How) → BeginWith w (2 ^ c) (grant_chunk w c h how)
unfolding grant_chunk
chunk_marks w c h how =
    let q = chunk_request w h how in
    let v = chunk_moved h.thread (is_piece how) q.short h.chunk.done w.devices (sphere_at w h.chunk.sphere) in
    granted_marks w c q h.chunk.writes v v.outcome

serial_marks : (w : World) (c : ℕ) (h : Occupant) → BeginWith w (2 ^ c) (grant_serial w c h)
unfolding grant_serial
serial_marks w c h =
    let v = serial_moved h.thread (moment w) h.chunk.start w.devices (sphere_at w h.chunk.sphere) in
    granted_marks w c (serial_request h) (signed h.chunk.sphere v.words (nothing w.numbers.bits)) v v.outcome

asks_mark : (w : World) (c : ℕ) → BeginWith w (2 ^ core_no w c) (act w (Event.Ask c))
unfolding act
asks_mark w c =
    let d = core_no w c in
    any-ask w (BeginWith w (2 ^ d)) (λ r none. none_begins w (2 ^ d) (answered w r) refl) d (λ h how may chunk none. chunk_marks w d h how) (λ h how may serial none. serial_marks w d h)

-- ---- a DMA

dmas_mark : (w : World) (i : ℕ) → BeginWith w 0 (act w (Event.Dma i))
unfolding act
dmas_mark w i =
    let j = sphere_no w i in
    any-transfer w (BeginWith w 0) (λ r none. none_begins w 0 (answered w r) refl) j
    (λ v t room none k f free stands. flown_by j v.words (signed j v.words (nothing w.numbers.bits)) 0 w.slots (has_none v.words) k f free stands)
    (λ v n why t is. none_begins w 0 (dma_with w j v (Diverged n why)) refl)

-- ---- both

-- the mark of a core alone is the one of telling it
one_told : (f : Flight) (c : ℕ) → (2 ^ c) ≡ (tell (record f { told = 0 }) c).told
one_told f c = sym (or_zero_l (2 ^ c))

-- the core that commits is told of its flight and no other, and of a DMA's flight none
pub committers_told : CommittersAreTold
unfolding happens
committers_told =
    record {
      asks = λ w c k f b.
          let mark = asks_mark w c k f b.free b.stands ∙ one_told f (core_no w c) in
          ap (λ (n : ℕ). told_at n (core_no w c)) mark ∙ told-tell (record f { told = 0 }) (core_no w c);
      others = λ w c k f b d ne.
          let mark = asks_mark w c k f b.free b.stands ∙ one_told f (core_no w c) in
          ap (λ (n : ℕ). told_at n d) mark ∙ told-tell_other (record f { told = 0 }) (core_no w c) d ne ∙ told-zero d;
      dmas = λ w i k f b d. ap (λ (n : ℕ). told_at n d) (dmas_mark w i k f b.free b.stands) ∙ told-zero d;
    }
