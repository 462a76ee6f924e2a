-- The console grows at each point by what the point's commit puts out.
use Rattle.std.proofs.Common.{◌≡◌, ℕ, Bool, false, List, [], ◌∷◌, ◌++◌, length, Option, Some, None, refl, sym, ap, ◌∙◌}
use Rattle.std.specs.Prelude.{slice_get, slice_set, drop}
use Rattle.std.specs.List.{flat_map}
use Rattle.std.proofs.lemmas.List.{append-nil, append_assoc}
use Rattle.std.proofs.lemmas.Option.{get_or_from_slice_get}
use Rattle.std.proofs.Math.Seq.{drop-append_seam, drop-length}
use Rattle.dl_entry.specs.Numbers.{plain_threads}
use Rattle.dl_entry.specs.declared.Actor.{Actor}
use Rattle.dl_entry.specs.declared.Commit.{Commit}
use Rattle.dl_entry.specs.declared.CommitKind.{CommitKind}
use Rattle.dl_entry.specs.declared.Output.{Output}
use Rattle.dl_entry.specs.declared.Point.{Point}
use Rattle.dl_entry.specs.declared.Request.{Request}
use Rattle.spec_isa.specs.declared.thread.Parts.{Parts}
use Rattle.spec_isa.specs.Runs.{run}
use Rattle.spec_kernel.specs.Devices.{Devices}
use Rattle.spec_kernel.specs.Needs.{need}
use Rattle.spec_kernel.specs.Copies.{dma_words}
use Rattle.spec_kernel.specs.Answers.{taken, dma_bytes, dma_taken}
use Rattle.spec_kernel.specs.Serving.{serve}
use Rattle.spec_play.specs.Effects.{chunk_commit, serial_effect, dma_commit}
use Rattle.spec_sphere.specs.sphere.Spheres.{Role, Plain, Record, Replay, Sphere, no_sphere}
use Rattle.spec_sphere.specs.sphere.Commits.{MovedSphere, dma_as, chunk_in, chunk_moved, serial_in, serial_moved, live_dma, dma_log, dma_in, dma_moved, raised}
use Rattle.spec_protocol.specs.machine.Serial.{SerialState, serial_start, do_moved, do_chunk, do_serial, do_dma, do_raise, do_kind, in_live, do_commit, do_interrupt, do_point, do_points}
use Rattle.spec_sphere.specs.sphere.Commits.{laid}
use Rattle.spec_protocol.specs.machine.Logged.{sphere_in}
use Rattle.spec_protocol.specs.promises.Promises.{after}
use Rattle.spec_sphere.specs.promises.ConsoleBytes.{on_console, put_out}
use Rattle.spec_protocol.specs.promises.ConsoleBytes.{place_of, new_commits, console_of, ConsoleIsPutOut}
use Rattle.spec_strata.proofs.Shares.Steps.{get-set_same}
use Rattle.spec_sphere.proofs.Points.Outputs.{serve-tells}
use Rattle.spec_protocol.proofs.Points.Serial.{commits_are}

-- ---- what a point puts out

abbrev Puts : (i : ℕ) → SerialState → SerialState → Type 0
Puts i x y = y.devices.console ≡ x.devices.console ++ put_out (new_commits i x y)

-- no commit more
still_puts : (i : ℕ) (x y : SerialState) → y.devices.console ≡ x.devices.console → (sphere_in y i).progress.commits ≡ (sphere_in x i).progress.commits → Puts i x y
still_puts i x y same commits =
    let cs = (sphere_in x i).progress.commits in
    same ∙ sym (append-nil x.devices.console)
    ∙ ap (λ (ds : List Commit). x.devices.console ++ put_out ds) (sym (ap (drop (length cs)) commits ∙ drop-length cs))

-- one commit more
moved_puts : (i : ℕ) (x : SerialState) (p : Sphere) (v : MovedSphere) (c : Commit) → slice_get x.spheres i ≡ Some p → v.sphere.progress.commits ≡ p.progress.commits ++ c ∷ [] → v.devices.console ≡ x.devices.console ++ flat_map on_console c.outputs → Puts i x (do_moved x i v)
moved_puts i x p v c is commits console =
    let was : sphere_in x i ≡ p = get_or_from_slice_get x.spheres i p no_sphere is in
    let now : sphere_in (do_moved x i v) i ≡ laid v = get_or_from_slice_get (slice_set x.spheres i (laid v)) i (laid v) no_sphere (get-set_same x.spheres i (laid v) p is) in
    let new : new_commits i x (do_moved x i v) ≡ c ∷ [] =
    (λ h. drop (length (was h).progress.commits) (now h).progress.commits) ∙ ap (drop (length p.progress.commits)) commits ∙ drop-append_seam p.progress.commits (c ∷ [])
    in
    console
    ∙ ap (λ (bytes : List ℕ). x.devices.console ++ bytes) (sym (append-nil (flat_map on_console c.outputs)))
    ∙ ap (λ (cs : List Commit). x.devices.console ++ put_out cs) (sym new)

-- a commit without outputs
silent_puts : (i : ℕ) (x : SerialState) (p : Sphere) (v : MovedSphere) (c : Commit) → slice_get x.spheres i ≡ Some p → v.sphere.progress.commits ≡ p.progress.commits ++ c ∷ [] → c.outputs ≡ [] → v.devices.console ≡ x.devices.console → Puts i x (do_moved x i v)
silent_puts i x p v c is commits silent same =
    moved_puts i x p v c is commits (same ∙ sym (append-nil x.devices.console) ∙ ap (λ (os : List Output). x.devices.console ++ flat_map on_console os) (sym silent))

-- ---- in a plain or recorded sphere

abbrev IsLive : Role → Type 0
IsLive Plain = Unit {0}
IsLive (Record recording) = Unit {0}
IsLive (Replay b) = ⊥

chunk_puts : (role : Role) (i : ℕ) (x : SerialState) (k size : ℕ) (short : Bool) (p : Sphere) (t : Parts) → IsLive role → slice_get x.spheres i ≡ Some p → Puts i x (do_moved x i (chunk_in role k false short (run p.memory t size) x.devices p))
chunk_puts Plain i x k size short p t live is =
    silent_puts i x p (chunk_in Plain k false short (run p.memory t size) x.devices p) (chunk_commit k (run p.memory t size)) is refl refl refl
chunk_puts (Record recording) i x k size short p t live is =
    silent_puts i x p (chunk_in (Record recording) k false short (run p.memory t size) x.devices p) (chunk_commit k (run p.memory t size)) is refl refl refl
chunk_puts (Replay b) i x k size short p t live is = absurd live

chunk_if : (i : ℕ) (x : SerialState) (k size : ℕ) (short : Bool) (p : Sphere) (o : Option Parts) → IsLive p.role → slice_get x.spheres i ≡ Some p → Puts i x (do_chunk x i k size short p o)
unfolding chunk_moved
chunk_if i x k size short p None live is = still_puts i x x refl refl
chunk_if i x k size short p (Some t) live is = chunk_puts p.role i x k size short p t live is

abbrev served_commit : (most thread moment : ℕ) → Parts → Devices → Sphere → Commit
served_commit most k moment t devices p =
    (serial_effect k (serve most k p.threads p.progress.request t p.memory (taken (need t p.memory) devices moment).input)).commit

serial_puts : (role : Role) (i : ℕ) (x : SerialState) (k moment : ℕ) (p : Sphere) (t : Parts) → IsLive role → slice_get x.spheres i ≡ Some p → Puts i x (do_moved x i (serial_in role k moment t x.devices p))
serial_puts Plain i x k moment p t live is =
    moved_puts i x p (serial_in Plain k moment t x.devices p) (served_commit plain_threads k moment t x.devices p) is refl (serve-tells plain_threads k p.threads p.progress.request t p.memory x.devices moment)
serial_puts (Record recording) i x k moment p t live is =
    moved_puts i x p (serial_in (Record recording) k moment t x.devices p) (served_commit recording.log.threads k moment t x.devices p) is refl (serve-tells recording.log.threads k p.threads p.progress.request t p.memory x.devices moment)
serial_puts (Replay b) i x k moment p t live is = absurd live

serial_if : (i : ℕ) (x : SerialState) (k moment : ℕ) (p : Sphere) (o : Option Parts) → IsLive p.role → slice_get x.spheres i ≡ Some p → Puts i x (do_serial x i k moment p o)
unfolding serial_moved
serial_if i x k moment p None live is = still_puts i x x refl refl
serial_if i x k moment p (Some t) live is = serial_puts p.role i x k moment p t live is

live_puts : (role : Role) (i : ℕ) (x : SerialState) (p : Sphere) (o : Option Request) → slice_get x.spheres i ≡ Some p → Puts i x (do_dma x i (live_dma role x.devices p o))
live_puts role i x p None is = still_puts i x x refl refl
live_puts role i x p (Some request) is =
    silent_puts i x p (dma_as role (dma_words request (dma_bytes x.devices request)) (dma_taken x.devices request) p) dma_commit is refl refl refl

dma_puts : (role : Role) (i : ℕ) (x : SerialState) (p : Sphere) → IsLive role → slice_get x.spheres i ≡ Some p → Puts i x (do_dma x i (dma_in role x.devices p))
dma_puts Plain i x p live is = live_puts Plain i x p p.progress.request is
dma_puts (Record recording) i x p live is = live_puts (Record (record recording { log = dma_log recording.log x.devices p p.progress.request })) i x p p.progress.request is
dma_puts (Replay b) i x p live is = absurd live

raise_puts : (i : ℕ) (x : SerialState) (k value : ℕ) (p : Sphere) (o : Option Parts) → slice_get x.spheres i ≡ Some p → Puts i x (do_raise x i k value p o)
unfolding raised
raise_puts i x k value p None is = still_puts i x x refl refl
raise_puts i x k value p (Some t) is =
    let q : Sphere = raised k value t p in
    let y : SerialState = do_raise x i k value p (Some t) in
    let now : sphere_in y i ≡ q = get_or_from_slice_get (slice_set x.spheres i q) i q no_sphere (get-set_same x.spheres i q p is) in
    let was : sphere_in x i ≡ p = get_or_from_slice_get x.spheres i p no_sphere is in
    still_puts i x y refl (ap (λ (r : Sphere). r.progress.commits) now ∙ sym (ap (λ (r : Sphere). r.progress.commits) was))

kind_puts : (i : ℕ) (x : SerialState) (moment : ℕ) (actor : Actor) (kind : CommitKind) (size : ℕ) (short : Bool) (p : Sphere) → IsLive p.role → slice_get x.spheres i ≡ Some p → Puts i x (do_kind x moment i actor kind size short p)
unfolding dma_moved
kind_puts i x moment (Actor.Thread k) CommitKind.Chunk size short p live is = chunk_if i x k size short p (slice_get p.threads k) live is
kind_puts i x moment (Actor.Thread k) CommitKind.Serial size short p live is = serial_if i x k moment p (slice_get p.threads k) live is
kind_puts i x moment (Actor.Thread k) CommitKind.Dma size short p live is = still_puts i x x refl refl
kind_puts i x moment (Actor.Thread k) CommitKind.Piece size short p live is = still_puts i x x refl refl
kind_puts i x moment Actor.Dma CommitKind.Chunk size short p live is = still_puts i x x refl refl
kind_puts i x moment Actor.Dma CommitKind.Serial size short p live is = still_puts i x x refl refl
kind_puts i x moment Actor.Dma CommitKind.Piece size short p live is = still_puts i x x refl refl
kind_puts i x moment Actor.Dma CommitKind.Dma size short p live is = dma_puts p.role i x p live is

-- ---- a point

role_puts : (role : Role) (i : ℕ) (x done : SerialState) → (IsLive role → Puts i x done) → Puts i x (in_live role x done)
role_puts Plain i x done puts = puts tt
role_puts (Record recording) i x done puts = puts tt
role_puts (Replay b) i x done puts = still_puts i x x refl refl

commit_puts : (i : ℕ) (x : SerialState) (moment : ℕ) (actor : Actor) (kind : CommitKind) (size : ℕ) (short : Bool) (o : Option Sphere) → slice_get x.spheres i ≡ o → Puts i x (do_commit x moment i actor kind size short o)
commit_puts i x moment actor kind size short None is = still_puts i x x refl refl
commit_puts i x moment actor kind size short (Some p) is =
    role_puts p.role i x (do_kind x moment i actor kind size short p) (λ live. kind_puts i x moment actor kind size short p live is)

interrupt_puts : (i : ℕ) (x : SerialState) (k value : ℕ) (o : Option Sphere) → slice_get x.spheres i ≡ o → Puts i x (do_interrupt x i k value o)
interrupt_puts i x k value None is = still_puts i x x refl refl
interrupt_puts i x k value (Some p) is =
    role_puts p.role i x (do_raise x i k value p (slice_get p.threads k)) (λ live. raise_puts i x k value p (slice_get p.threads k) is)

point_puts : (x : SerialState) (q : Point) → Puts (place_of q) x (do_point x q)
unfolding do_point
point_puts x (Point.Commit moment i actor kind size short) = commit_puts i x moment actor kind size short (slice_get x.spheres i) refl
point_puts x (Point.Raise moment i k value) = interrupt_puts i x k value (slice_get x.spheres i) refl

-- ---- all points

points_put : (x : SerialState) (qs : List Point) → (do_points x qs).devices.console ≡ x.devices.console ++ console_of x qs
points_put x [] = sym (append-nil x.devices.console)
points_put x (q ∷ qs) =
    let y : SerialState = do_point x q in
    let bytes = put_out (new_commits (place_of q) x y) in
    points_put y qs ∙ ap (λ (cs : List ℕ). cs ++ console_of y qs) (point_puts x q) ∙ append_assoc x.devices.console bytes (console_of y qs)

-- the console has what the commits of the points put out, in their order
pub console_is_put_out : ConsoleIsPutOut
console_is_put_out s es is =
    let w = after s es in
    let so = commits_are s es is in
    ap (λ (d : Devices). d.console) so.devices ∙ points_put (serial_start s) w.points
