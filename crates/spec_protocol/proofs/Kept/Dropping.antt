-- A point makes the same commit of a recorded sphere, whether or not its earlier commits are there.
use Rattle.std.proofs.Common.{◌≡◌, ◌≢◌, ℕ, ◌+◌, ◌≤◌, inl, inr, Bool, true, false, List, [], ◌∷◌, ◌++◌, length, drop, Option, Some, None, refl, sym, ap, ◌∙◌, subst, arith, set}
use Rattle.std.specs.Prelude.{slice_get}
use Rattle.std.proofs.lemmas.Bool.{cases_eq}
use Rattle.std.proofs.lemmas.List.{drop-append-le}
use Rattle.dl_entry.specs.declared.Actor.{Actor}
use Rattle.dl_entry.specs.declared.Commit.{Commit}
use Rattle.dl_entry.specs.declared.CommitKind.{CommitKind}
use Rattle.dl_entry.specs.declared.Point.{Point}
use Rattle.dl_entry.specs.declared.Request.{Request}
use Rattle.spec_isa.specs.declared.thread.Parts.{Parts}
use Rattle.spec_isa.specs.Runs.{run}
use Rattle.spec_kernel.specs.Devices.{Devices}
use Rattle.spec_kernel.specs.Needs.{need}
use Rattle.spec_kernel.specs.Answers.{taken}
use Rattle.spec_kernel.specs.Serving.{serve}
use Rattle.spec_play.specs.Effects.{chunk_effect, serial_effect, dma_commit}
use Rattle.spec_play.specs.Progress.{Progress}
use Rattle.spec_sphere.specs.sphere.Spheres.{Recording, Record, Sphere}
use Rattle.spec_sphere.specs.sphere.Commits.{MovedSphere, live_dma, dma_log, chunk_moved, serial_moved, dma_moved, raised}
use Rattle.spec_protocol.specs.machine.Serial.{SerialState, do_moved, do_chunk, do_serial, do_dma, do_raise, do_kind, do_commit, do_interrupt, do_point}
use Rattle.spec_sphere.specs.sphere.Commits.{laid}
use Rattle.spec_strata.proofs.Shares.Steps.{get-set_same}
use Rattle.spec_protocol.proofs.Invariants.Preserved.{sphere_of_point}
use Rattle.spec_sphere.proofs.PlayingBack.Moves.{recorded_dma}

-- without the first b commits
abbrev pub cut_at : (b : ℕ) → Progress → Progress
cut_at b g = record g { first = b; commits = drop b g.commits }

-- a recorded sphere with this memory, these threads, this progress and this recording
abbrev pub recorded_so : (m : List ℕ) → List Parts → Progress → Recording → Sphere
recorded_so m ts g r = record { memory = m; threads = ts; progress = g; role = Record r }

-- in both states there is sphere i, and in the first its progress is that in the second, without b commits
pub record IsCutIn (b i : ℕ) (x y : SerialState) : Type 0 where
  pub kept : Sphere
  pub whole : Sphere
  pub there : slice_get x.spheres i ≡ Some kept
  pub is : slice_get y.spheres i ≡ Some whole
  pub progress : kept.progress ≡ cut_at b whole.progress

moved_cut : (b i : ℕ) (x y : SerialState) (p q : Sphere) (u v : MovedSphere) → slice_get x.spheres i ≡ Some p → slice_get y.spheres i ≡ Some q → (laid u).progress ≡ cut_at b (laid v).progress → IsCutIn b i (do_moved x i u) (do_moved y i v)
moved_cut b i x y p q u v xi yi same = record { kept = laid u; whole = laid v; there = get-set_same x.spheres i (laid u) p xi; is = get-set_same y.spheres i (laid v) q yi; progress = same }

-- sphere i has given up b commits in the first state, and none in the second; the devices are the same
module _ (b : ℕ) (m : List ℕ) (ts : List Parts) (g : Progress) (r a : Recording) (l : b ≤ length g.commits) (most : r.log.threads ≡ a.log.threads) where
  one_kept : (c : Commit) → drop b g.commits ++ c ∷ [] ≡ drop b (g.commits ++ c ∷ [])
  one_kept c = sym (drop-append-le b g.commits (c ∷ []) l)

  module _ (i : ℕ) (x y : SerialState) (devices : x.devices ≡ y.devices) (xi : slice_get x.spheres i ≡ Some (recorded_so m ts (cut_at b g) r)) (yi : slice_get y.spheres i ≡ Some (recorded_so m ts g a)) where
    still_cut : IsCutIn b i x y
    still_cut = record { kept = recorded_so m ts (cut_at b g) r; whole = recorded_so m ts g a; there = xi; is = yi; progress = refl }

    chunk_cut : (k size : ℕ) (short : Bool) (o : Option Parts) → IsCutIn b i (do_chunk x i k size short (recorded_so m ts (cut_at b g) r) o) (do_chunk y i k size short (recorded_so m ts g a) o)
    unfolding chunk_moved
    chunk_cut k size short None = still_cut
    chunk_cut k size short (Some t) =
        let p = recorded_so m ts (cut_at b g) r in
        let q = recorded_so m ts g a in
        let e = chunk_effect k g.request (run m t size) in
        moved_cut b i x y p q (chunk_moved k false short (run m t size) x.devices p) (chunk_moved k false short (run m t size) y.devices q) xi yi
        (λ j. record { first = b; commits = one_kept e.commit j; last = Some k; request = e.request })

    serial_cut : (k moment : ℕ) (o : Option Parts) → IsCutIn b i (do_serial x i k moment (recorded_so m ts (cut_at b g) r) o) (do_serial y i k moment (recorded_so m ts g a) o)
    unfolding serial_moved
    serial_cut k moment None = still_cut
    serial_cut k moment (Some t) =
        let p = recorded_so m ts (cut_at b g) r in
        let q = recorded_so m ts g a in
        let e = λ (n : ℕ) (d : Devices). serial_effect k (serve n k ts g.request t m (taken (need t m) d moment).input) in
        moved_cut b i x y p q (serial_moved k moment t x.devices p) (serial_moved k moment t y.devices q) xi yi
        ((λ j. record { first = b; commits = drop b g.commits ++ (e (most j) (devices j)).commit ∷ []; last = Some k; request = (e (most j) (devices j)).request })
        ∙ (λ j. record { first = b; commits = one_kept (e a.log.threads y.devices).commit j; last = Some k; request = (e a.log.threads y.devices).request }))

    dma_of_cut : (o : Option Request) → IsCutIn b i (do_dma x i (live_dma (Record (record r { log = dma_log r.log x.devices (recorded_so m ts (cut_at b g) r) o })) x.devices (recorded_so m ts (cut_at b g) r) o))
        (do_dma y i (live_dma (Record (record a { log = dma_log a.log y.devices (recorded_so m ts g a) o })) y.devices (recorded_so m ts g a) o))
    dma_of_cut None = still_cut
    dma_of_cut (Some request) =
        let p = recorded_so m ts (cut_at b g) r in
        let q = recorded_so m ts g a in
        moved_cut b i x y p q (recorded_dma r p x.devices request) (recorded_dma a q y.devices request) xi yi
        (λ j. record { first = b; commits = one_kept dma_commit j; last = g.last; request = None })

    dma_cut : IsCutIn b i (do_dma x i (dma_moved x.devices (recorded_so m ts (cut_at b g) r))) (do_dma y i (dma_moved y.devices (recorded_so m ts g a)))
    unfolding dma_moved
    dma_cut = dma_of_cut g.request

    raise_cut : (k value : ℕ) (o : Option Parts) → IsCutIn b i (do_raise x i k value (recorded_so m ts (cut_at b g) r) o) (do_raise y i k value (recorded_so m ts g a) o)
    unfolding raised
    raise_cut k value None = still_cut
    raise_cut k value (Some t) =
        let p = recorded_so m ts (cut_at b g) r in
        let q = recorded_so m ts g a in
        record {
          kept = raised k value t p;
          whole = raised k value t q;
          there = get-set_same x.spheres i (raised k value t p) p xi;
          is = get-set_same y.spheres i (raised k value t q) q yi;
          progress = refl;
        }

    kind_cut : (moment : ℕ) (actor : Actor) (kind : CommitKind) (size : ℕ) (short : Bool) → IsCutIn b i (do_kind x moment i actor kind size short (recorded_so m ts (cut_at b g) r)) (do_kind y moment i actor kind size short (recorded_so m ts g a))
    kind_cut moment (Actor.Thread k) CommitKind.Chunk size short = chunk_cut k size short (slice_get ts k)
    kind_cut moment (Actor.Thread k) CommitKind.Serial size short = serial_cut k moment (slice_get ts k)
    kind_cut moment (Actor.Thread k) CommitKind.Dma size short = still_cut
    kind_cut moment (Actor.Thread k) CommitKind.Piece size short = still_cut
    kind_cut moment Actor.Dma CommitKind.Chunk size short = still_cut
    kind_cut moment Actor.Dma CommitKind.Serial size short = still_cut
    kind_cut moment Actor.Dma CommitKind.Piece size short = still_cut
    kind_cut moment Actor.Dma CommitKind.Dma size short = dma_cut

    -- a commit of the sphere makes the same of both
    pub commit-cut : (moment : ℕ) (actor : Actor) (kind : CommitKind) (size : ℕ) (short : Bool) → IsCutIn b i (do_point x (Point.Commit moment i actor kind size short)) (do_point y (Point.Commit moment i actor kind size short))
    unfolding do_point
    commit-cut moment actor kind size short =
        subst (λ (u : SerialState). IsCutIn b i u (do_commit y moment i actor kind size short (slice_get y.spheres i))) (sym (ap (do_commit x moment i actor kind size short) xi))
        (subst (λ (u : SerialState). IsCutIn b i (do_kind x moment i actor kind size short (recorded_so m ts (cut_at b g) r)) u) (sym (ap (do_commit y moment i actor kind size short) yi))
        (kind_cut moment actor kind size short))

    -- so does an interrupt
    pub interrupt-cut : (moment k value : ℕ) → IsCutIn b i (do_point x (Point.Raise moment i k value)) (do_point y (Point.Raise moment i k value))
    unfolding do_point
    interrupt-cut moment k value =
        subst (λ (u : SerialState). IsCutIn b i u (do_interrupt y i k value (slice_get y.spheres i))) (sym (ap (do_interrupt x i k value) xi))
        (subst (λ (u : SerialState). IsCutIn b i (do_raise x i k value (recorded_so m ts (cut_at b g) r) (slice_get ts k)) u) (sym (ap (do_interrupt y i k value) yi))
        (raise_cut k value (slice_get ts k)))

-- any point of the sphere
pub point-cut : (b i : ℕ) (m : List ℕ) (ts : List Parts) (g : Progress) (r a : Recording) (x y : SerialState) (q : Point) → b ≤ length g.commits → r.log.threads ≡ a.log.threads → x.devices ≡ y.devices → slice_get x.spheres i ≡ Some (recorded_so m ts (cut_at b g) r) → slice_get y.spheres i ≡ Some (recorded_so m ts g a) → i ≡ sphere_of_point q
    → IsCutIn b i (do_point x q) (do_point y q)
point-cut b i m ts g r a x y (Point.Commit moment j actor kind size short) l most devices xi yi own =
    subst (λ (n : ℕ). IsCutIn b i (do_point x (Point.Commit moment n actor kind size short)) (do_point y (Point.Commit moment n actor kind size short))) own
    (commit-cut b m ts g r a l most i x y devices xi yi moment actor kind size short)
point-cut b i m ts g r a x y (Point.Raise moment j k value) l most devices xi yi own =
    subst (λ (n : ℕ). IsCutIn b i (do_point x (Point.Raise moment n k value)) (do_point y (Point.Raise moment n k value))) own
    (interrupt-cut b m ts g r a l most i x y devices xi yi moment k value)
