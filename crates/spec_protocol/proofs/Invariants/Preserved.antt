-- What holds of every world that the machine comes to, and what an event preserves.
use Rattle.std.proofs.Common.{◌≡◌, ◌≢◌, ℕ, zero, suc, ◌+◌, ◌<◌, ◌≤◌, Bool, true, false, List, [], ◌∷◌, length, Option, Some, None, refl, sym, ap, ◌∙◌, subst, arith, set, get_or, get_or-set_same, get_or-set_other}
use Rattle.std.specs.Prelude.{slice_get}
use Rattle.dl_entry.specs.declared.Actor.{Actor}
use Rattle.dl_entry.specs.declared.CommitKind.{CommitKind}
use Rattle.dl_entry.specs.declared.Point.{Point}
use Rattle.spec_engine.specs.Closing.{is_short}
use Rattle.spec_isa.specs.Words.{lays}
use Rattle.spec_engine.specs.Flights.{Flight}
use Rattle.spec_sphere.specs.sphere.Spheres.{Sphere, no_sphere, replays}
use Rattle.spec_protocol.specs.machine.World.{Numbers, World, MoveKind, OfChunk, OfSerial, OfDma, OfRaise, Move, EventOutcome, sphere_at}
use Rattle.spec_engine.specs.Flying.{flying}
use Rattle.spec_protocol.specs.machine.Shown.{shown, shown_from, shown_of}
use Rattle.spec_protocol.specs.machine.Moves.{do_if, FitsIf}
use Rattle.spec_protocol.specs.promises.Invariants.{IsGood}

-- ---- what an event preserves

-- v has the numbers of w, and as many spheres, cores and slots
pub record SameSizes (w v : World) : Type 0 where
  pub numbers : v.numbers ≡ w.numbers
  pub spheres : length v.spheres ≡ length w.spheres
  pub cores : length v.cores ≡ length w.cores
  pub slots : length v.slots ≡ length w.slots

-- the point that a move makes where the sphere is plain or recorded
abbrev pub point_for : Numbers → (moment i : ℕ) → MoveKind → Point
point_for z now i (OfChunk k how n limit) = Point.Commit now i (Actor.Thread k) CommitKind.Chunk n (is_short z.s how limit)
point_for z now i (OfSerial k) = Point.Commit now i (Actor.Thread k) CommitKind.Serial 0 false
point_for z now i OfDma = Point.Commit now i Actor.Dma CommitKind.Dma 0 false
point_for z now i (OfRaise k value) = Point.Raise now i k value

-- the sphere that a point is of
abbrev pub sphere_of_point : Point → ℕ
sphere_of_point (Point.Commit moment i actor kind size short) = i
sphere_of_point (Point.Raise moment i k value) = i

-- the point is of that sphere, if there is one
abbrev pub IsOf : (i : ℕ) → Option Point → Type 0
IsOf i None = Unit {0}
IsOf i (Some p) = sphere_of_point p ≡ i

-- in a plain or recorded sphere a move makes its point; in a replayed one it may make one of the sphere
abbrev pub PointOf : Numbers → (replays : Bool) → Move → Option Point → Type 0
PointOf z true m o = IsOf m.sphere o
PointOf z false m o = o ≡ Some (point_for z m.moment m.sphere m.what)

-- where an event moves no sphere it makes no point, and else it makes the move's
abbrev pub PointIs : World → Option Move → Option Point → Type 0
PointIs w None o = o ≡ None
PointIs w (Some m) o = PointOf w.numbers (replays (sphere_at w m.sphere).role) m o

-- what an event at w leaves: a good world of the same sizes, whose move is done whole on what is shown
pub record Preserved (w : World) (a : EventOutcome) : Type 0 where
  pub good : IsGood a.world
  pub sizes : SameSizes w a.world
  pub point : PointIs w a.move a.point
  -- the world shows what its move, done whole, gives
  pub whole : shown_of a.world ≡ do_if w.numbers (shown_of w) a.move
  -- and the move can be done as it says
  pub fits : FitsIf w.numbers (shown_of w) a.move

-- a world has its own sizes
pub same_sizes : (w : World) → SameSizes w w
same_sizes w = record { numbers = refl; spheres = refl; cores = refl; slots = refl }

-- ---- rows of spheres

-- the sphere that is put at i stands there
pub sphere-same : (ps : List Sphere) (i : ℕ) (p : Sphere) → i < length ps → get_or (set ps i p) i no_sphere ≡ p
sphere-same ps i p l = get_or-set_same ps i p no_sphere l

-- a sphere that is put at i leaves every other one
pub sphere-other : (ps : List Sphere) (i j : ℕ) (p : Sphere) → j ≢ i → get_or (set ps i p) j no_sphere ≡ get_or ps j no_sphere
sphere-other ps i j p ne = get_or-set_other ps i j p no_sphere ne

-- ---- what is shown

shown_same : (xs ys : List (Option Flight)) (i : ℕ) (p : Sphere) → flying i ys ≡ flying i xs → shown ys i p ≡ shown xs i p
unfolding shown
shown_same xs ys i p e = (λ j. record p { memory = lays p.memory (e j) })

-- spheres of which the same words fly are shown alike
pub shown_from-same : (xs ys : List (Option Flight)) (n : ℕ) (ps : List Sphere) → ((j : ℕ) → n ≤ j → flying j ys ≡ flying j xs) → shown_from ys n ps ≡ shown_from xs n ps
shown_from-same xs ys n [] same = refl
shown_from-same xs ys n (p ∷ ps) same =
    (λ j. shown_same xs ys n p (same n (omega arith)) j ∷ shown_from-same xs ys (suc n) ps (λ i l. same i (omega arith)) j)

-- a sphere that is changed, and words that fly of that sphere alone
pub shown_from-set : (xs ys : List (Option Flight)) (n i : ℕ) (ps : List Sphere) (p : Sphere) → ((j : ℕ) → n ≤ j → j ≢ n + i → flying j ys ≡ flying j xs) → shown_from ys n (set ps i p) ≡ set (shown_from xs n ps) i (shown ys (n + i) p)
shown_from-set xs ys n i [] p same = refl
shown_from-set xs ys n zero (q ∷ ps) p same =
    let e : n ≡ n + 0 = omega arith in
    (λ j. shown ys (e j) p ∷ shown_from-same xs ys (suc n) ps (λ i l. same i (omega arith) (λ h. omega arith)) j)
shown_from-set xs ys n (suc i) (q ∷ ps) p same =
    let e : suc n + i ≡ n + suc i = omega arith in
    (λ j. shown_same xs ys n q (same n (omega arith) (λ h. omega arith)) j ∷ shown_from-set xs ys (suc n) i ps p (λ k l ne. same k (omega arith) (λ h. ne (h ∙ sym e))) j)
    ∙ ap (λ (k : ℕ). shown xs n q ∷ set (shown_from xs (suc n) ps) i (shown ys k p)) e

-- where words fly of sphere i alone, a change of sphere i changes what is shown of it, and no other
pub shown-set : (xs ys : List (Option Flight)) (i : ℕ) (ps : List Sphere) (p : Sphere) → ((j : ℕ) → j ≢ i → flying j ys ≡ flying j xs) → shown_from ys 0 (set ps i p) ≡ set (shown_from xs 0 ps) i (shown ys i p)
shown-set xs ys i ps p same =
    let e : 0 + i ≡ i = omega arith in
    shown_from-set xs ys 0 i ps p (λ j l ne. same j (λ h. ne (h ∙ sym e)))
    ∙ ap (λ (k : ℕ). set (shown_from xs 0 ps) i (shown ys k p)) e

shown_get_from : (xs : List (Option Flight)) (n i : ℕ) (ps : List Sphere) → i < length ps → slice_get (shown_from xs n ps) i ≡ Some (shown xs (n + i) (get_or ps i no_sphere))
shown_get_from xs n i [] l = absurd (omega arith)
shown_get_from xs n zero (p ∷ ps) l = let e : n ≡ n + 0 = omega arith in ap (λ (k : ℕ). Some (shown xs k p)) e
shown_get_from xs n (suc i) (p ∷ ps) l =
    let e : suc n + i ≡ n + suc i = omega arith in
    shown_get_from xs (suc n) i ps (omega arith) ∙ ap (λ (k : ℕ). Some (shown xs k (get_or ps i no_sphere))) e

-- the sphere that is shown at i
pub shown-get : (xs : List (Option Flight)) (i : ℕ) (ps : List Sphere) → i < length ps → slice_get (shown_from xs 0 ps) i ≡ Some (shown xs i (get_or ps i no_sphere))
shown-get xs i ps l =
    let e : 0 + i ≡ i = omega arith in
    shown_get_from xs 0 i ps l ∙ ap (λ (k : ℕ). Some (shown xs k (get_or ps i no_sphere))) e

-- a sphere that is put where it stands changes nothing
pub set-itself : (ps : List Sphere) (i : ℕ) → set ps i (get_or ps i no_sphere) ≡ ps
set-itself [] i = refl
set-itself (p ∷ ps) zero = refl
set-itself (p ∷ ps) (suc i) = ap (λ (qs : List Sphere). p ∷ qs) (set-itself ps i)

-- a sphere whose own memory and flying words have changed, and not what is shown of it
pub shown-unmoved : (xs ys : List (Option Flight)) (i : ℕ) (ps : List Sphere) (p : Sphere) → ((j : ℕ) → j ≢ i → flying j ys ≡ flying j xs) → shown ys i p ≡ shown xs i (get_or ps i no_sphere) → shown_from ys 0 (set ps i p) ≡ shown_from xs 0 ps
shown-unmoved xs ys i ps p same e =
    shown-set xs ys i ps p same ∙ ap (set (shown_from xs 0 ps) i) e ∙ sym (shown-set xs xs i ps (get_or ps i no_sphere) (λ j ne. refl))
    ∙ ap (shown_from xs 0) (set-itself ps i)

-- ---- points

sphere_for : (z : Numbers) (now i : ℕ) (what : MoveKind) → sphere_of_point (point_for z now i what) ≡ i
sphere_for z now i (OfChunk k how n limit) = refl
sphere_for z now i (OfSerial k) = refl
sphere_for z now i OfDma = refl
sphere_for z now i (OfRaise k value) = refl

-- a move makes its point, whatever the role
pub point-made : (z : Numbers) (b : Bool) (m : Move) → PointOf z b m (Some (point_for z m.moment m.sphere m.what))
point-made z true m = sphere_for z m.moment m.sphere m.what
point-made z false m = refl

-- in a replay it may make another one, or none
pub point-other : (z : Numbers) (b : Bool) (m : Move) (o : Option Point) → (b ≡ false → ⊥) → IsOf m.sphere o → PointOf z b m o
point-other z true m o replayed is = is
point-other z false m o replayed is = absurd (replayed refl)

-- ---- an event that answers and does nothing

-- an event that leaves the world as it was keeps the invariant
pub unchanged-preserved : (w : World) (a : EventOutcome) → a.world ≡ w → a.move ≡ None → a.point ≡ None → IsGood w → Preserved w a
unchanged-preserved w a world move point good =
    record {
      good = subst IsGood (sym world) good;
      sizes = subst (SameSizes w) (sym world) (same_sizes w);
      point = subst (λ (m : Option Move). PointIs w m a.point) (sym move) point;
      whole = ap shown_of world ∙ sym (ap (do_if w.numbers (shown_of w)) move);
      fits = subst (FitsIf w.numbers (shown_of w)) (sym move) tt;
    }
