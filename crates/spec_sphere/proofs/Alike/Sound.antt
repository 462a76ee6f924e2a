-- A sphere that is sound is sound if its recording in epochs has forgotten what came before.
use Rattle.std.proofs.Common.{◌≡◌, ℕ, ◌≤◌, List, [], length, Option, Some, None, refl, sym, subst, arith}
use Rattle.spec_isa.specs.declared.thread.Parts.{Parts}
use Rattle.spec_log.specs.declared.LogParts.{LogParts}
use Rattle.spec_play.specs.Progress.{Progress, position}
use Rattle.spec_play.specs.Epochs.{Epochs}
use Rattle.spec_sphere.specs.sphere.Spheres.{Role, Plain, Record, Replay, Sphere}
use Rattle.spec_sphere.specs.sphere.Setups.{SphereSetup}
use Rattle.spec_sphere.specs.promises.Alike.{progress_without, log_without, epochs_in, role_without, forgotten}
use Rattle.spec_sphere.specs.promises.Sound.{AreFresh, IsSoundLog, IsSoundRole, IsSoundSphere, IsSoundThread}
use Rattle.spec_sphere.proofs.Alike.Forgetting.{most-without}

-- what is forgotten is still counted
pub position-without : (o : Option Epochs) (g : Progress) → position (progress_without o g) ≡ position g
position-without None g = refl
position-without (Some x) g = omega arith

few_without : (o : Option Epochs) (g : Progress) (n : ℕ) → length g.commits ≤ n → length (progress_without o g).commits ≤ n
few_without None g n few = few
few_without (Some x) g n few = omega arith

nothing_fresh : (ts : List Parts) → AreFresh ts []
nothing_fresh ts = record { later = λ k i t there late. refl; unmasked = λ k t there e. refl; absent = λ k i none. refl }

log_sound : (s n : ℕ) (ts : List Parts) (o : Option Epochs) (log : LogParts) → IsSoundLog s n ts log → IsSoundLog s n ts (log_without o n log)
log_sound s n ts None log h = h
log_sound s n ts (Some x) log h = record { version = h.version; size = h.size; count = refl; interrupts = nothing_fresh ts }

role_sound : (s n : ℕ) (ts : List Parts) (r : Role) → IsSoundRole s n ts r → IsSoundRole s n ts (role_without n r)
role_sound s n ts Plain h = h
role_sound s n ts (Record recording) h = log_sound s n ts recording.epochs recording.log h
role_sound s n ts (Replay b) h = h

-- a sphere is as sound
pub sphere-sound : (s : ℕ) (image : SphereSetup) (events : ℕ) (p : Sphere) → IsSoundSphere s image events p → IsSoundSphere s image events (forgotten p)
sphere-sound s image events p h =
    let o = epochs_in p.role in
    let here : position p.progress ≡ position (progress_without o p.progress) = sym (position-without o p.progress) in
    record {
      size = h.size;
      bytes = h.bytes;
      request = h.request;
      some = h.some;
      few = subst (λ (n : ℕ). length p.threads ≤ n) (sym (most-without (position p.progress) p.role)) h.few;
      threads = λ k t there. subst (λ (n : ℕ). IsSoundThread n t) here (h.threads k t there);
      commits = few_without o p.progress events h.commits;
      role = subst (λ (n : ℕ). IsSoundRole s n p.threads (role_without (position p.progress) p.role)) here (role_sound s (position p.progress) p.threads p.role h.role);
    }
