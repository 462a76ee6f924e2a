-- Which asks are granted.
use Rattle.std.proofs.Common.{◌≡◌, ℕ, ◌<◌, ◌/◌, ◌⊎◌, inl, inr, Bool, true, false, cond, List, [], ◌∷◌, length, Option, Some, None, refl, sym, ap, ◌∙◌, subst, arith}
use Rattle.std.proofs.lemmas.Bool.{true≢false, eqb-false, false_from_ne_true}
use Rattle.std.proofs.lemmas.Option.{none-some}
use Rattle.dl_entry.specs.declared.Actor.{Actor}
use Rattle.spec_isa.specs.declared.thread.Load.{Load}
use Rattle.spec_isa.specs.Words.{Stored, Lacks}
use Rattle.spec_log.specs.declared.ModeName.{ModeName}
use Rattle.spec_engine.specs.declared.answers.How.{How}
use Rattle.spec_engine.specs.Signatures.{Signature, hits, covers, line, nothing, signed}
use Rattle.spec_engine.specs.Flights.{Flight, at, is_none, first_slot, free_slot, is_full, meets_chunk, is_of_sphere}
use Rattle.spec_engine.specs.Asking.{denied_by, busy_by}
use Rattle.spec_engine.specs.Laws.{CoversLoads, CoversWords}
use Rattle.spec_engine.proofs.Marking.{covers_hit}
use Rattle.spec_engine.proofs.Searches.{first_none, first_some, full_at}
use Rattle.spec_protocol.specs.declared.event.Event.{Event}
use Rattle.spec_protocol.specs.declared.reply.Reply.{Reply}
use Rattle.spec_sphere.specs.sphere.Spheres.{other_than, turn_in, turn_against, Role, Plain, Record, Replay, Sphere, is_stopped, recording_turn}
use Rattle.spec_sphere.specs.sphere.Spheres.{replays}
use Rattle.spec_sphere.specs.sphere.Commits.{CommitOutcome, Granted, Piece, Diverged, MovedSphere, chunk_moved, serial_moved}
use Rattle.spec_engine.specs.Closing.{is_piece}
use Rattle.spec_protocol.specs.machine.World.{Occupant, World, moment, sphere_at, EventOutcome, answered}
use Rattle.spec_protocol.specs.machine.Asking.{CommitRequest, chunk_request, granted, grant_chunk, unless_denied, serial_request, grant_serial, unless_busy, asks_serial, ask_arbiter, unless_turn, ask_closed, ask_held, asking}
use Rattle.spec_protocol.specs.machine.Machine.{world_of, core_no, act, happens, world_after}
use Rattle.spec_protocol.specs.promises.Invariants.{IsGoodHeld, IsGood}
use Rattle.spec_protocol.specs.promises.Replying.{makes_point, IsInTurns, IsGranted, AsksAreGranted, LoadsLack, IsClearOf, GrantsAreClear}
use Rattle.spec_sphere.proofs.Memory.Laying.{AllLack_flip}
use Rattle.spec_protocol.proofs.Memory.Covering.{uncovered-lacks, apart-covered}
use Rattle.spec_sphere.proofs.Moves.Granted.{chunk-lives, serial-lives}
use Rattle.spec_play.proofs.Threads.{branch}
use Rattle.spec_protocol.proofs.Moves.AnyEvent.{any-closed}
use Rattle.spec_protocol.proofs.Invariants.Asks.{never_hits}
use Rattle.spec_protocol.proofs.Invariants.Schedules.{start-good, after-good, sizes_kept}

-- ---- with no flight standing

record Empty (w : World) : Type 0 where
  none : (k : ℕ) → at w.slots k ≡ None
  some_slot : 0 < length w.slots

not_found : (w : World) (p : Flight → Bool) (o : Option ℕ) → first_slot p w.slots ≡ o → ((k : ℕ) → at w.slots k ≡ None) → o ≡ None
not_found w p None e none = refl
not_found w p (Some k) e none = let f = first_some p w.slots k e in absurd (none-some f.0 (sym (none k) ∙ f.1))

not_full : (w : World) (o : Option ℕ) → free_slot w.slots ≡ o → Empty w → is_none o ≡ false
not_full w None e m = absurd (true≢false (sym (ap is_none (m.none 0)) ∙ full_at w.slots e 0 m.some_slot))
not_full w (Some k) e m = refl

abbrev IsGrantedOr : World → Occupant → EventOutcome → Type 0
IsGrantedOr w h a = (a.reply ≡ Reply.Granted) ⊎ ((actor : Actor) × (a.reply ≡ Reply.NotTurn actor) × IsInTurns (sphere_at w h.chunk.sphere).role)

granted_reply : (w : World) (c : ℕ) (q : CommitRequest) (writes : Signature) (v : MovedSphere) (o : CommitOutcome) → o ≡ Granted → (granted w c q writes v o).reply ≡ Reply.Granted
granted_reply w c q writes v Granted e = refl
granted_reply w c q writes v Piece e = cc
granted_reply w c q writes v (Diverged i why) e = cc

chunk_reply : (w : World) (c : ℕ) (h : Occupant) (how : How) → replays (sphere_at w h.chunk.sphere).role ≡ false → (grant_chunk w c h how).reply ≡ Reply.Granted
unfolding grant_chunk
chunk_reply w c h how live =
    let q = chunk_request w h how in
    granted_reply w c q h.chunk.writes (chunk_moved h.thread (is_piece how) q.short h.chunk.done w.devices (sphere_at w h.chunk.sphere)) _
    (chunk-lives h.thread (is_piece how) q.short h.chunk.done w.devices (sphere_at w h.chunk.sphere) live)

serial_reply : (w : World) (c : ℕ) (h : Occupant) → replays (sphere_at w h.chunk.sphere).role ≡ false → (grant_serial w c h).reply ≡ Reply.Granted
unfolding grant_serial
serial_reply w c h live =
    let v = serial_moved h.thread (moment w) h.chunk.start w.devices (sphere_at w h.chunk.sphere) in
    granted_reply w c (serial_request h) (signed h.chunk.sphere v.words (nothing w.numbers.bits)) v _ (serial-lives h.thread (moment w) h.chunk.start w.devices (sphere_at w h.chunk.sphere) live)

denied_reply : (w : World) (a : EventOutcome) (o : Option ℕ) → o ≡ None → a.reply ≡ Reply.Granted → (unless_denied (denied_by o) w a).reply ≡ Reply.Granted
denied_reply w a None e g = g
denied_reply w a (Some k) e g = absurd (none-some k (sym e))

busy_reply : (w : World) (a : EventOutcome) (o : Option ℕ) → o ≡ None → a.reply ≡ Reply.Granted → (unless_busy (busy_by o) w a).reply ≡ Reply.Granted
busy_reply w a None e g = g
busy_reply w a (Some k) e g = absurd (none-some k (sym e))

arbiter_reply : (w : World) (c : ℕ) (h : Occupant) (how : How) (serial : Bool) → Empty w → replays (sphere_at w h.chunk.sphere).role ≡ false → (ask_arbiter w c h how serial).reply ≡ Reply.Granted
arbiter_reply w c h how true m live =
    busy_reply w (grant_serial w c h) (first_slot (is_of_sphere h.chunk.sphere) w.slots) (not_found w (is_of_sphere h.chunk.sphere) _ refl m.none) (serial_reply w c h live)
arbiter_reply w c h how false m live =
    denied_reply w (grant_chunk w c h how) (first_slot (meets_chunk h.chunk.reads h.chunk.writes) w.slots) (not_found w (meets_chunk h.chunk.reads h.chunk.writes) _ refl m.none) (chunk_reply w c h how live)

live_going : (role : Role) → replays role ≡ false → is_stopped role ≡ false
live_going Plain e = refl
live_going (Record recording) e = refl
live_going (Replay b) e = absurd (true≢false e)

recorded_turn : (mode : ModeName) (p : Sphere) (k : ℕ) (actor : Actor) → other_than (Actor.Thread k) (recording_turn mode p) ≡ Some actor → mode ≡ ModeName.Picolog
recorded_turn ModeName.Picolog p k actor e = refl
recorded_turn ModeName.OrderSize p k actor e = absurd (none-some actor e)
recorded_turn ModeName.OrderOnly p k actor e = absurd (none-some actor e)

in_turns : (role : Role) (p : Sphere) (k : ℕ) (actor : Actor) → replays role ≡ false → turn_in role p (Actor.Thread k) ≡ Some actor → IsInTurns role
in_turns Plain p k actor live e = none-some actor e
in_turns (Record recording) p k actor live e = recorded_turn recording.log.mode p k actor e
in_turns (Replay b) p k actor live e = absurd (true≢false live)

turn_reply : (w : World) (h : Occupant) (a : EventOutcome) (o : Option Actor) → ((actor : Actor) → o ≡ Some actor → IsInTurns (sphere_at w h.chunk.sphere).role) → IsGrantedOr w h a → IsGrantedOr w h (unless_turn o w a)
turn_reply w h a None turns g = g
turn_reply w h a (Some actor) turns g = inr (actor, refl, turns actor refl)

turns_of : (p : Sphere) (k : ℕ) (actor : Actor) → replays p.role ≡ false → turn_against p (Actor.Thread k) ≡ Some actor → IsInTurns p.role
unfolding turn_against
turns_of p k actor live e = in_turns p.role p k actor live e

closed_reply : (w : World) (c : ℕ) (h : Occupant) (how : How) → Empty w → replays (sphere_at w h.chunk.sphere).role ≡ false → IsGrantedOr w h (ask_closed w c h (Some how))
closed_reply w c h how m live =
    let p = sphere_at w h.chunk.sphere in
    let turn = turn_against p (Actor.Thread h.thread) in
    let arbiter = ask_arbiter w c h how (asks_serial h.chunk p.role) in
    branch (IsGrantedOr w h) (is_stopped p.role) (answered w Reply.Stopped) (unless_turn turn w (cond (is_full w.slots) (answered w Reply.WindowFull) arbiter))
    (λ stopped. absurd (true≢false (sym stopped ∙ live_going p.role live)))
    (λ _. turn_reply w h (cond (is_full w.slots) (answered w Reply.WindowFull) arbiter) turn (λ actor e. turns_of p h.thread actor live e)
    (branch (IsGrantedOr w h) (is_full w.slots) (answered w Reply.WindowFull) arbiter
    (λ full. absurd (true≢false (sym full ∙ not_full w (free_slot w.slots) refl m)))
    (λ _. inl (arbiter_reply w c h how (asks_serial h.chunk p.role) m live))))

ask_reply : (w : World) (c : ℕ) (h : Occupant) (how : How) (o : Option Occupant) (q : Option How) → o ≡ Some h → h.chunk.closed ≡ Some how → Empty w → replays (sphere_at w h.chunk.sphere).role ≡ false → IsGrantedOr w h (ask_held w c o)
ask_reply w c h how o q is closed m live =
    subst (λ (x : Option Occupant). IsGrantedOr w h (ask_held w c x)) (sym is)
    (subst (λ (x : Option How). IsGrantedOr w h (ask_closed w c h x)) (sym closed) (closed_reply w c h how m live))

happens_reply : (w : World) (c : ℕ) → (happens w (Event.Ask c)).reply ≡ (ask_held w (core_no w c) (at w.cores (core_no w c))).reply
unfolding happens act asking
happens_reply w c = refl

-- with no flight standing a closed chunk's ask is granted, or it is another's turn
pub asks_granted : AsksAreGranted
asks_granted s es is window c h how can =
    let w = world_after (world_of s) es in
    let m : Empty w = record { none = can.clear; some_slot = (let e = (sizes_kept s es is).slots in omega (arith, e)) } in
    subst (λ (r : Reply). IsGranted r (sphere_at w h.chunk.sphere).role) (sym (happens_reply w c))
    (ask_reply w (core_no w c) h how (at w.cores (core_no w c)) None can.there can.closed m can.live)

-- ---- what a granted chunk is clear of

uncovered_loads : (i : ℕ) (g f : Signature) (ls : List Load) (ws : List Stored) → g.bits ≡ f.bits → CoversLoads i g ls → ((a : ℕ) → covers f (line i a) ≡ false → Lacks a ws) → hits f g ≡ false → LoadsLack ls ws
uncovered_loads i g f [] ws size c lacks e = tt
uncovered_loads i g f (l ∷ ls) ws size c lacks e = (
  lacks (l.addr / 4) (false_from_ne_true (covers f (line i (l.addr / 4))) (λ h. true≢false (sym (covers_hit f g (line i (l.addr / 4)) size h c.0) ∙ e))),
  uncovered_loads i g f ls ws size c.1 lacks e,
)

-- no flight of its sphere shares a word with the chunk, where none hits it
chunk_clear : (w : World) (c : ℕ) (h : Occupant) (k : ℕ) (f : Flight) → IsGood w → IsGoodHeld w c h → at w.slots k ≡ Some f → f.sphere ≡ h.chunk.sphere → first_slot (meets_chunk h.chunk.reads h.chunk.writes) w.slots ≡ None → IsClearOf h f
chunk_clear w c h k f good held there same none =
    let cov = good.covered k f there in
    let words = subst (λ (n : ℕ). CoversWords n f.writes f.words) same cov.words in
    let miss = never_hits w h.chunk none k f there in
    record {
      stores = AllLack_flip f.words h.chunk.done.words (apart-covered h.chunk.sphere f.writes h.chunk.writes f.words h.chunk.done.words (held.chunk.writes_size ∙ sym cov.size) words held.chunk.writes miss.1);
      loads = uncovered_loads h.chunk.sphere h.chunk.reads f.writes h.chunk.done.loads f.words (held.chunk.reads_size ∙ sym cov.size) held.chunk.loads (λ a e. uncovered-lacks h.chunk.sphere a f.writes f.words words e) miss.0;
    }

abbrev Clear : World → Occupant → EventOutcome → Type 0
Clear w h a = makes_point a.reply ≡ true → (k : ℕ) (f : Flight) → at w.slots k ≡ Some f → f.sphere ≡ h.chunk.sphere → IsClearOf h f

closed_clear : (w : World) (c : ℕ) (h : Occupant) → IsGood w → at w.cores c ≡ Some h → Clear w h (ask_closed w c h h.chunk.closed)
closed_clear w c h good is =
    any-closed w (Clear w h) (λ r none made. absurd (true≢false (sym made ∙ none))) c h h.chunk.closed is refl
    (λ how may chunk none made k f there same. chunk_clear w c h k f good (good.held c h is) there same none)
    (λ how may serial none made k f there same. absurd (eqb-false f.sphere h.chunk.sphere (first_none (is_of_sphere h.chunk.sphere) w.slots none k f there) same))

-- no ask is granted where a word of the chunk is left in a flight of its sphere
pub grants_clear : GrantsAreClear
grants_clear s es is c h there made =
    let w = world_after (world_of s) es in
    let good = after-good (world_of s) es (start-good s is) in
    subst (λ (o : Option Occupant). Clear w h (ask_held w (core_no w c) o)) (sym there) (closed_clear w (core_no w c) h good there)
    (ap makes_point (sym (happens_reply w c)) ∙ made)
