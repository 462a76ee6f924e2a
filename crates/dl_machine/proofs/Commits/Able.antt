-- In a world that is ready, what is asked for can commit.
use Rattle.std.proofs.Common.{◌≡◌, ℕ, zero, suc, ◌+◌, ◌^◌, ◌<◌, ◌≤◌, ◌&&◌, true, false, not, nat_eq, nat_lt, length, List, Option, Some, None, refl, sym, ap, ◌∙◌, subst, inl, inr, arith}
use Rattle.std.specs.Prelude.{option_map, slice_get}
use Rattle.std.proofs.lemmas.Option.{none-some, same_Some}
use Rattle.std.proofs.lemmas.Bool.{true≢false}
use Rattle.dl_entry.specs.declared.Actor.{Actor}
use Rattle.spec_isa.specs.declared.thread.Parts.{Parts}
use Rattle.spec_play.specs.Progress.{position}
use Rattle.spec_play.specs.Turns.{TurnOrEnd, Turn, TurnOfDma, Ended}
use Rattle.spec_engine.specs.declared.answers.How.{How}
use Rattle.spec_engine.specs.Chunks.{Chunk, is_serial}
use Rattle.spec_engine.specs.Flights.{at}
use Rattle.spec_sphere.specs.sphere.Spheres.{other_than, turn_in, turn_against, Cursor, Role, Plain, Record, Replay, Sphere, actor_of, is_over, is_stopped, limit_in, limit_of, whole_limit}
use Rattle.spec_sphere.specs.sphere.Spheres.{replays}
use Rattle.spec_protocol.specs.machine.Asking.{asks_serial}
use Rattle.spec_engine.specs.Closing.{is_short, is_piece}
use Rattle.spec_protocol.specs.machine.World.{Occupant, World, sphere_at}
use Rattle.spec_protocol.specs.promises.Invariants.{Closes, LimitFits}
use Rattle.spec_sphere.specs.promises.Sound.{IsSoundCursor}
use Rattle.spec_sphere.proofs.Moves.Joining.{may_go, joins-whole}
use Rattle.spec_sphere.proofs.Sound.Limits.{whole-positive}
use Rattle.dl_sphere.specs.Moving.{CanCommit, IsPartIn, IsTurnOf, IsTurnOfDma, MayCommit}
use Rattle.dl_machine.specs.declared.one_core.Held.{Held as Seen}
use Rattle.dl_machine.specs.Cores.{seen}
use Rattle.dl_machine.specs.Ready.{HasRoom, IsReady}
use Rattle.dl_machine.specs.Requests.{closed_by}
use Rattle.dl_machine.proofs.Commits.Granted.{chunk_of}
use Rattle.dl_machine.proofs.Worlds.Ready.{sphere_sound}

-- ---- commits

few_in : (role : Role) (n : ℕ) (ts : List Parts) → ((b : Cursor) → role ≡ Replay b → IsSoundCursor n ts b) → is_stopped role ≡ false → (replays role ≡ false → n < 2 ^ 24) → n < 2 ^ 24
few_in Plain n ts sound going few = few refl
few_in (Record recording) n ts sound going few = few refl
few_in (Replay b) n ts sound going few = let h = sound b refl in let l = h.going going in let m = h.log.count in omega arith

-- a sphere that goes on has fewer commits than a log may have
pub few_commits : (w : World) (i : ℕ) → IsReady w → HasRoom w → i < length w.spheres → is_stopped (sphere_at w i).role ≡ false → position (sphere_at w i).progress < 2 ^ 24
few_commits w i ready room within going =
    let p = sphere_at w i in
    few_in p.role (position p.progress) p.threads (sphere_sound w i ready within).replay going (room.few i within)

-- ---- turns

thread_turn : (role : Role) (p : Sphere) (k : ℕ) → is_stopped role ≡ false → turn_in role p (Actor.Thread k) ≡ None → IsTurnOf k role
thread_turn Plain p k going free = tt
thread_turn (Record recording) p k going free = tt
thread_turn (Replay b) p k going free = elim (may_go b k p going free).turn [
  | inl turn ↦ inl turn
  | inr joins ↦ inr (record { going = going; joins = joins })
]

-- in a replay that goes on a thread may commit where nobody else's turn keeps it from that
pub turn_of : (p : Sphere) (k : ℕ) → is_stopped p.role ≡ false → turn_against p (Actor.Thread k) ≡ None → IsTurnOf k p.role
unfolding turn_against
turn_of p k going free = thread_turn p.role p k going free

dma_now : (now : TurnOrEnd) → is_over now ≡ false → other_than Actor.Dma (actor_of now) ≡ None → now ≡ TurnOfDma
dma_now (Turn j) going free = cc
dma_now TurnOfDma going free = refl
dma_now (Ended how) going free = cc

dma_turn : (role : Role) (p : Sphere) → is_stopped role ≡ false → turn_in role p Actor.Dma ≡ None → IsTurnOfDma role
dma_turn Plain p going free = tt
dma_turn (Record recording) p going free = tt
dma_turn (Replay b) p going free = dma_now b.now going free

-- in a replay that goes on it is the turn of a DMA where it is nobody else's
pub turn_of_dma : (p : Sphere) → is_stopped p.role ≡ false → turn_against p Actor.Dma ≡ None → IsTurnOfDma p.role
unfolding turn_against
turn_of_dma p going free = dma_turn p.role p going free

-- ---- chunks

standard_limit : (role : Role) (s k : ℕ) (t : Parts) → replays role ≡ false → limit_of s role k t ≡ s
unfolding limit_of
standard_limit Plain s k t e = refl
standard_limit (Record recording) s k t e = refl
standard_limit (Replay b) s k t e = cc

short_some : (s capacity : ℕ) (how : How) (ch : Chunk) → Closes capacity ch → 0 < capacity → ch.closed ≡ Some how → is_short s how ch.limit ≡ true → 1 ≤ ch.done.n
short_some s capacity How.Limit ch closes some is short = let f = closes.full is in let p = closes.positive in omega arith
short_some s capacity How.Serial ch closes some is short = absurd (true≢false (sym short))
short_some s capacity How.Overflow ch closes some is short = let r = closes.room is in omega arith
short_some s capacity How.Cut ch closes some is short = let c = closes.cut is in omega arith

within_limit : (capacity : ℕ) (ch : Chunk) (how : How) → Closes capacity ch → ch.closed ≡ Some how → ch.done.n ≤ ch.limit
within_limit capacity ch How.Limit closes is = let f = closes.full is in omega arith
within_limit capacity ch How.Serial closes is = let l = closes.early How.Serial is (λ (e : How.Serial ≡ How.Limit). cc) in omega arith
within_limit capacity ch How.Overflow closes is = let l = closes.early How.Overflow is (λ (e : How.Overflow ≡ How.Limit). cc) in omega arith
within_limit capacity ch How.Cut closes is = let l = closes.early How.Cut is (λ (e : How.Cut ≡ How.Limit). cc) in omega arith

replayed_limit : (b : Cursor) (s k : ℕ) (t : Parts) → limit_of s (Replay b) k t ≡ limit_in (Replay b) 0 k t.commits
unfolding limit_of
replayed_limit b s k t = refl

below_limit : (capacity : ℕ) (ch : Chunk) (how : How) → Closes capacity ch → ch.closed ≡ Some how → is_piece how ≡ true → ch.done.n < ch.limit
below_limit capacity ch How.Limit closes is piece = cc
below_limit capacity ch How.Serial closes is piece = cc
below_limit capacity ch How.Overflow closes is piece = closes.early How.Overflow is (λ (e : How.Overflow ≡ How.Limit). cc)
below_limit capacity ch How.Cut closes is piece = closes.early How.Cut is (λ (e : How.Cut ≡ How.Limit). cc)

-- a chunk that met a serial instruction has some before it, or in pieces before it
serial_some : (n total : ℕ) → (nat_eq n 0 && true) && not (nat_lt 0 total) ≡ false → 1 ≤ total + n
serial_some zero zero e = absurd (true≢false e)
serial_some zero (suc total) e = omega arith
serial_some (suc n) total e = omega arith

some_in_all : (b : Cursor) (capacity : ℕ) (how : How) (ch : Chunk) → Closes capacity ch → 0 < capacity → ch.closed ≡ Some how → asks_serial ch (Replay b) ≡ false → 1 ≤ b.total + ch.done.n
some_in_all b capacity How.Limit ch closes some is whole = let f = closes.full is in let p = closes.positive in omega arith
some_in_all b capacity How.Serial ch closes some is whole =
    serial_some ch.done.n b.total (subst (λ (o : Option How). (nat_eq ch.done.n 0 && is_serial o) && not (nat_lt 0 b.total) ≡ false) is whole)
some_in_all b capacity How.Overflow ch closes some is whole = let r = closes.room is in omega arith
some_in_all b capacity How.Cut ch closes some is whole = let c = closes.cut is in omega arith

-- the commit of a thread that may commit has room for an instruction more than the pieces before it
room_for : (n : ℕ) (ts : List Parts) (k : ℕ) (b : Cursor) (t : Parts) (commits : ℕ) → IsSoundCursor n ts b → MayCommit b k → slice_get ts k ≡ Some t → commits ≡ t.commits → b.total < whole_limit b.log k commits
room_for n ts k b t commits sound may there same = elim may [
  | inl turn ↦ (
      let now = sound.turn k turn in
      let is : now.thread ≡ t = same_Some _ _ (sym now.there ∙ there) in
      subst (λ (m : ℕ). b.total < whole_limit b.log k m) (ap (λ (u : Parts). u.commits) is ∙ sym same) now.room
      )
  | inr joins ↦ subst (λ (m : ℕ). m < whole_limit b.log k commits) (sym (joins-whole b.strata k b.total joins.joins)) (whole-positive b.log k commits sound.log)
]

part_in : (role : Role) (s n capacity : ℕ) (ts : List Parts) (k : ℕ) (how : How) (ch : Chunk) → ((b : Cursor) → role ≡ Replay b → IsSoundCursor n ts b) → IsTurnOf k role → slice_get ts k ≡ Some ch.start → ch.done.thread.commits ≡ ch.start.commits
    → LimitFits role (limit_of s role k ch.start) ch.limit → Closes capacity ch → 0 < capacity → ch.closed ≡ Some how → asks_serial ch role ≡ false → IsPartIn role k how ch
part_in Plain s n capacity ts k how ch sound turn there commits fits closes some closed whole = tt
part_in (Record recording) s n capacity ts k how ch sound turn there commits fits closes some closed whole = tt
part_in (Replay b) s n capacity ts k how ch sound turn there commits fits closes some closed whole =
    record {
      may = turn;
      room = room_for n ts k b ch.start ch.done.thread.commits (sound b refl) turn there commits;
      limit = fits.replayed refl ∙ replayed_limit b s k ch.start ∙ ap (λ (m : ℕ). limit_in (Replay b) 0 k m) (sym commits);
      most = within_limit capacity ch how closes closed;
      early = λ piece. below_limit capacity ch how closes closed piece;
      some = some_in_all b capacity how ch closes some closed whole;
    }

can_commit_held : (w : World) (c : ℕ) (h : Occupant) (how : How) → IsReady w → at w.cores c ≡ Some h → h.chunk.closed ≡ Some how → is_stopped (sphere_at w h.chunk.sphere).role ≡ false → turn_against (sphere_at w h.chunk.sphere) (Actor.Thread h.thread) ≡ None
    → asks_serial h.chunk (sphere_at w h.chunk.sphere).role ≡ false → CanCommit w.numbers.s (sphere_at w h.chunk.sphere) h.thread how h.chunk
can_commit_held w c h how ready is closed going free whole =
    let g = ready.good.held c h is in
    let p = sphere_at w h.chunk.sphere in
    record {
      closed = closed;
      commits = λ t there.
          let same : h.chunk.start ≡ t = same_Some _ _ (sym g.thread.start ∙ there) in
          (ready.sound.held c h is).commits ∙ ap (λ (u : Parts). u.commits) same;
      size = λ live.
          let l = within_limit _ h.chunk how g.chunk.closes closed in
          let m = (g.thread.limit going).most in
          let s = standard_limit p.role w.numbers.s h.thread h.chunk.start live in
          omega arith;
      some = short_some w.numbers.s w.numbers.capacity how h.chunk g.chunk.closes ready.good.buffer closed;
      part = part_in p.role w.numbers.s _ w.numbers.capacity p.threads h.thread how h.chunk (sphere_sound w h.chunk.sphere ready g.sphere).replay (turn_of p h.thread going free) g.thread.start (ready.sound.held c h is).commits (g.thread.limit going) g.chunk.closes ready.good.buffer closed whole;
    }

-- a closed chunk of a sphere that goes on can be committed, where it is nobody else's turn and no serial step is asked for
pub can_commit : (w : World) (c : ℕ) (o : Option Occupant) (held : Seen) (how : How) (ch : Chunk) → IsReady w → at w.cores c ≡ o → option_map seen o ≡ Some held → option_map closed_by o ≡ Some (Some how) → Some ch ≡ option_map chunk_of o
    → is_stopped (sphere_at w held.sphere).role ≡ false → turn_against (sphere_at w held.sphere) (Actor.Thread held.thread) ≡ None → Some false ≡ option_map (λ h. asks_serial h.chunk (sphere_at w held.sphere).role) o
    → CanCommit w.numbers.s (sphere_at w held.sphere) held.thread how ch
can_commit w c None held how ch ready is eh ew ec going free whole = absurd (none-some held eh)
can_commit w c (Some h) held how ch ready is eh ew ec going free whole =
    let seen_ : seen h ≡ held = same_Some _ _ eh in
    let same : h.chunk ≡ ch = sym (same_Some _ _ ec) in
    let at_h : is_stopped (sphere_at w h.chunk.sphere).role ≡ false = subst (λ (s : Seen). is_stopped (sphere_at w s.sphere).role ≡ false) (sym seen_) going in
    let free_h : turn_against (sphere_at w h.chunk.sphere) (Actor.Thread h.thread) ≡ None = subst (λ (s : Seen). turn_against (sphere_at w s.sphere) (Actor.Thread s.thread) ≡ None) (sym seen_) free in
    let whole_h : asks_serial h.chunk (sphere_at w h.chunk.sphere).role ≡ false = subst (λ (s : Seen). asks_serial h.chunk (sphere_at w s.sphere).role ≡ false) (sym seen_) (sym (same_Some _ _ whole)) in
    subst (λ (d : Chunk). CanCommit w.numbers.s (sphere_at w held.sphere) held.thread how d) same
    (subst (λ (s : Seen). CanCommit w.numbers.s (sphere_at w s.sphere) s.thread how h.chunk) seen_
    (can_commit_held w c h how ready is (same_Some _ _ ew) at_h free_h whole_h))
