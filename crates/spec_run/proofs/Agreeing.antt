-- Runs that agree where it matters have the same texts.
use Rattle.std.proofs.Common.{◌≡◌, ℕ, List, Option, Some, None, refl, ap, ◌∙◌, sym, get_or}
use Rattle.dl_entry.specs.declared.Point.{Point}
use Rattle.spec_kernel.specs.Devices.{devices_of}
use Rattle.spec_protocol.specs.declared.event.Event.{Event}
use Rattle.spec_sphere.specs.sphere.Setups.{EpochSetup, RecordSetup, RoleSetup, IsPlain, IsRecorded, IsReplayed, SphereSetup, sphere_of}
use Rattle.spec_protocol.specs.machine.Machine.{Setup}
use Rattle.spec_protocol.specs.machine.Serial.{SerialState, serial_start, do_points}
use Rattle.spec_protocol.specs.machine.Logged.{sphere_in, supplied, logged_since}
use Rattle.spec_sphere.specs.sphere.Logged.{logged}
use Rattle.spec_sphere.specs.sphere.Kept.{points_until, points_since}
use Rattle.spec_sphere.specs.sphere.Spheres.{Sphere}
use Rattle.spec_protocol.specs.promises.Sound.{image_at}
use Rattle.spec_sphere.specs.promises.Sound.{no_image}
use Rattle.std.proofs.Common.{map}
use Rattle.spec_log.specs.Bytes.{log_bytes}
use Rattle.spec_run.specs.Runs.{points_of, executed}
use Rattle.spec_run.specs.Tails.{base_in, tail_of_points}
use Rattle.spec_run.specs.Texts.{account_as, account_text, console_text, log_as, log_of_points, log_text, recorded_bytes}
use Rattle.spec_tail.specs.Bytes.{tail_bytes}
use Rattle.spec_tail.specs.Tails.{Tail}
use Rattle.spec_run.specs.Promise.{AccountsAgree, AreAlike, TextsAreOfPoints}

-- two runs that agree on a replayed sphere's image, log and interval write the same account of it
pub accounts_agree : AccountsAgree
unfolding account_text
accounts_agree s z es fs i j asked role same =
    ap (λ (image : SphereSetup). account_as image (sphere_in (executed z fs) j) image.role) same
    ∙ ap (account_as (image_at s i) (sphere_in (executed z fs) j)) role
    ∙ sym (ap (account_as (image_at s i) (sphere_in (executed s es) i)) role)

-- ---- the points executed

same_start : (s z : Setup) → AreAlike s z → serial_start s ≡ serial_start z
same_start s z a =
    let chunk = a.chunk in
    let seed = a.seed in
    let input = a.input in
    let spheres = a.spheres in
    (λ k. record { spheres = map (sphere_of (chunk k)) (spheres k); devices = devices_of (input k) (seed k) })

executed_same : (s z : Setup) (es fs : List Event) → AreAlike s z → points_of s es ≡ points_of z fs → executed s es ≡ executed z fs
executed_same s z es fs a points =
    let start = same_start s z a in
    (λ k. do_points (start k) (points k))

-- the tail of points that are done from there
abbrev tail_from : (size : ℕ) → (start : SerialState) → List Point → (i : ℕ) → RecordSetup → (n : ℕ) → Tail
tail_from size start ps i asked n =
    let y = do_points start (points_until i n ps) in
    let p : Sphere = sphere_in y i in
    record {
      base = n;
      threads = p.threads;
      memory = p.memory;
      request = p.progress.request;
      last = p.progress.last;
      log = logged_since asked.version asked.mode size y i (supplied i y (points_since i n ps));
    }

log_of_points-same : (s z : Setup) (es fs : List Event) (i : ℕ) (asked : RecordSetup) → AreAlike s z → points_of s es ≡ points_of z fs → log_of_points s es i asked ≡ log_of_points z fs i asked
log_of_points-same s z es fs i asked a points =
    let start = same_start s z a in
    let chunk = a.chunk in
    (λ k. logged asked.version asked.mode (chunk k) (supplied i (start k) (points k)))

tail_of_points-same : (s z : Setup) (es fs : List Event) (i : ℕ) (asked : RecordSetup) (x : EpochSetup) → AreAlike s z → points_of s es ≡ points_of z fs → tail_of_points s es i asked x ≡ tail_of_points z fs i asked x
tail_of_points-same s z es fs i asked x a points =
    let start = same_start s z a in
    let chunk = a.chunk in
    (λ k. tail_from (chunk k) (start k) (points k) i asked (base_in (sphere_in (do_points (start k) (points k)) i) x))

recorded_same : (s z : Setup) (es fs : List Event) (i : ℕ) (asked : RecordSetup) (o : Option EpochSetup) → AreAlike s z → points_of s es ≡ points_of z fs → recorded_bytes s es i asked o ≡ recorded_bytes z fs i asked o
recorded_same s z es fs i asked None a points = ap log_bytes (log_of_points-same s z es fs i asked a points)
recorded_same s z es fs i asked (Some x) a points = ap tail_bytes (tail_of_points-same s z es fs i asked x a points)

log_same : (s z : Setup) (es fs : List Event) (i : ℕ) (role : RoleSetup) → AreAlike s z → points_of s es ≡ points_of z fs → log_as s es i role ≡ log_as z fs i role
log_same s z es fs i IsPlain a points = refl
log_same s z es fs i (IsRecorded asked) a points = recorded_same s z es fs i asked asked.epochs a points
log_same s z es fs i (IsReplayed asked) a points = refl

image_same : (s z : Setup) (i : ℕ) → AreAlike s z → image_at s i ≡ image_at z i
image_same s z i a = ap (λ (images : List SphereSetup). get_or images i no_image) a.spheres

-- if two runs differ at most in cores, windows, buffers and signatures, and their points are the same,
-- so are their logs, accounts and consoles
pub texts_of_points : TextsAreOfPoints
unfolding log_text account_text console_text
texts_of_points s z es fs a points =
    let image : (i : ℕ) → image_at s i ≡ image_at z i = λ i. image_same s z i a in
    let x = executed_same s z es fs a points in
    record {
      logs = λ i.
          log_same s z es fs i (image_at s i).role a points
          ∙ ap (λ (d : SphereSetup). log_as z fs i d.role) (image i);
      accounts = λ i. (λ k. account_as (image i k) (sphere_in (x k) i) (image i k).role);
      console = ap (λ (y : SerialState). y.devices.console) x;
    }
