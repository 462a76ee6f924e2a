-- What is promised of replays: that nothing of a sphere comes between two pieces of a commit, and nothing after its end; and
-- that a piece counts as no commit.
use Rattle.std.specs.Prelude.{◌≡◌, ◌≢◌, ℕ, ◌<◌, true, false, List, Some, None}
use Rattle.spec_play.specs.Turns.{Turn}
use Rattle.spec_engine.specs.declared.answers.How.{How}
use Rattle.spec_protocol.specs.declared.event.Event.{Event}
use Rattle.spec_sphere.specs.sphere.Spheres.{Cursor, Replay, Sphere, is_over, is_stopped}
use Rattle.spec_engine.specs.Closing.{is_piece}
use Rattle.spec_protocol.specs.machine.World.{World, MoveKind, OfChunk, OfSerial, OfDma, OfRaise, Move, sphere_at}
use Rattle.spec_protocol.specs.machine.Machine.{Setup, happens}
use Rattle.spec_protocol.specs.promises.Promises.{IsSetup, after}

-- ---- in pieces

-- a chunk of thread k: a further piece, the last part, or what leaves the log
abbrev pub IsChunkOf : (thread : ℕ) → MoveKind → Type 0
IsChunkOf k (OfChunk j how n limit) = j ≡ k
IsChunkOf k (OfSerial j) = ⊥
IsChunkOf k OfDma = ⊥
IsChunkOf k (OfRaise j value) = ⊥

-- the commit of sphere i is in pieces: it is thread k's turn, and whatever comes next, of this sphere only chunks of k
-- take effect
pub record GoesOn (w : World) (i : ℕ) (b : Cursor) (k : ℕ) : Type 0 where
  pub turn : b.now ≡ Turn k
  pub only : (e : Event) (m : Move) → (happens w e).move ≡ Some m → m.sphere ≡ i
      → IsChunkOf k m.what

-- a replay that has not stopped, and of whose present commit earlier pieces have run instructions
abbrev pub PiecesStayTogether : Type 0
PiecesStayTogether =
    (s : Setup) (es : List Event) (i : ℕ) (b : Cursor) → IsSetup s → let w = after s es in
    (sphere_at w i).role ≡ Replay b → is_over b.now ≡ false → 0 < b.total → (k : ℕ) × GoesOn w i b k

-- ---- stopped

-- in a replay that is complete or has diverged nothing takes effect any more
abbrev pub StoppedSpheresStay : Type 0
StoppedSpheresStay =
    (s : Setup) (es : List Event) (i : ℕ) → IsSetup s
    → let w = after s es in is_stopped (sphere_at w i).role ≡ true → (e : Event) (m : Move)
    → (happens w e).move ≡ Some m → m.sphere ≢ i

-- ---- counted

-- the sphere, which was p and is q, has the same commits, last thread and request, and it is thread k's turn; except in strata,
-- where others may commit before those whose turn it is, it was its turn before
pub record CountsNothing (b : Cursor) (k : ℕ) (p q : Sphere) : Type 0 where
  pub cursor : Cursor
  pub role : q.role ≡ Replay cursor
  pub turn : cursor.now ≡ Turn k
  pub same : b.strata ≡ None → cursor.now ≡ b.now
  pub progress : q.progress ≡ p.progress

-- so it is after a chunk of a replay that was closed for lack of room or by Cut
abbrev pub PiecesCountNothing : Type 0
PiecesCountNothing =
    (s : Setup) (es : List Event) (i : ℕ) (b : Cursor) → IsSetup s
    → let w = after s es in (sphere_at w i).role ≡ Replay b
    → (e : Event) (m : Move) (k : ℕ) (how : How) (n limit : ℕ) → (happens w e).move ≡ Some m
    → m.sphere ≡ i → m.what ≡ OfChunk k how n limit → is_piece how ≡ true
    → CountsNothing b k (sphere_at w i) (sphere_at (happens w e).world i)
