-- What is noted of a sound world fits a log.
use Rattle.std.proofs.Common.{◌≡◌, ℕ, ◌<◌, ◌≤◌, inl, inr, true, false, length, Some, refl, sym, ap, ◌∙◌, subst, arith}
use Rattle.std.proofs.lemmas.Bool.{true≢false, cases_lt}
use Rattle.std.proofs.lemmas.List.{get_or_past}
use Rattle.std.proofs.lemmas.Option.{none-some, slice_get_within}
use Rattle.dl_entry.specs.declared.Request.{Request}
use Rattle.spec_isa.specs.declared.thread.Parts.{Parts}
use Rattle.spec_engine.specs.declared.answers.How.{How}
use Rattle.spec_sphere.specs.sphere.Spheres.{Role, Plain, Record, Replay, Sphere, no_sphere, is_stopped, limit_of}
use Rattle.spec_engine.specs.Closing.{is_short}
use Rattle.spec_sphere.specs.sphere.Spheres.{replays}
use Rattle.spec_protocol.specs.machine.World.{Occupant, World, moment, sphere_at}
use Rattle.spec_protocol.specs.machine.Machine.{Setup}
use Rattle.spec_protocol.specs.promises.Invariants.{Closes, IsGood}
use Rattle.spec_sphere.specs.promises.Sound.{IsSoundRequest, IsSoundIf}
use Rattle.spec_protocol.specs.promises.Sound.{image_at, IsSound}
use Rattle.spec_protocol.specs.promises.Notable.{IsNotable, IsClosed, NotesFitLogs}
use Rattle.spec_sphere.specs.promises.Notable.{FitsLog}
use Rattle.spec_protocol.proofs.Sound.Changes.{within-sphere}
use Rattle.spec_protocol.proofs.Sound.Chunks.{within-limit}
use Rattle.spec_sphere.proofs.Sound.Devices.{taken-sound, dma-bytes}

live-going : (role : Role) → replays role ≡ false → is_stopped role ≡ false
live-going Plain e = refl
live-going (Record recording) e = refl
live-going (Replay b) e = absurd (true≢false e)

live-limit : (s k : ℕ) (t : Parts) (role : Role) → replays role ≡ false → limit_of s role k t ≡ s
unfolding limit_of
live-limit s k t Plain e = refl
live-limit s k t (Record recording) e = refl
live-limit s k t (Replay b) e = absurd (true≢false e)

short-over : (capacity s : ℕ) (h : Occupant) (how : How) → h.chunk.closed ≡ Some how → 0 < capacity → Closes capacity h.chunk → is_short s how h.chunk.limit ≡ true → 1 ≤ h.chunk.done.n
short-over capacity s h How.Limit e some c short = let a = c.full e in let l = c.positive in omega (arith, a, l)
short-over capacity s h How.Serial e some c short = absurd (true≢false (sym short))
short-over capacity s h How.Overflow e some c short = let a = c.room e in omega (arith, a, some)
short-over capacity s h How.Cut e some c short = let a = c.cut e in omega (arith, a)

request-within : (w : World) (i : ℕ) (request : Request) → (sphere_at w i).progress.request ≡ Some request → i < length w.spheres
request-within w i request e =
    elim (cases_lt i (length w.spheres)) [
      | inl l ↦ l
      | inr past ↦ absurd (none-some request (sym (ap (λ (p : Sphere). p.progress.request) (get_or_past w.spheres i no_sphere past)) ∙ e))
    ]

fits_log : (s : Setup) (w : World) (i : ℕ) → IsSound s w → FitsLog (moment w) w.devices (sphere_at w i)
fits_log s w i sound =
    let p = sphere_at w i in
    record {
      threads = λ k t e.
          let few = (sound.spheres i (within-sphere w i k t e)).few in
          let l = slice_get_within p.threads k t e in
          omega (arith, few, l);
      inputs = λ k t e. (taken-sound t p.memory w.devices (moment w) (sound.spheres i (within-sphere w i k t e)).bytes sound.devices).input;
      bytes = λ request e.
          let size = length (image_at s i).memory in
          let r : IsSoundRequest size request = subst (IsSoundIf size) e (sound.spheres i (request-within w i request e)).request in
          dma-bytes w.devices request r.few sound.devices;
    }

fits_chunk : (w : World) (c : ℕ) (h : Occupant) (how : How) → IsGood w → IsClosed w c h how → IsNotable w.numbers.s h how
fits_chunk w c h how good is =
    let held = good.held c h is.is in
    let role = (sphere_at w h.chunk.sphere).role in
    let most = (held.thread.limit (live-going role is.live)).most in
    let n = within-limit w.numbers.capacity h.chunk held.chunk.closes in
    let e = live-limit w.numbers.s h.thread h.chunk.start role is.live in
    record { size = omega (arith, most, n, e); over = short-over w.numbers.capacity w.numbers.s h how is.closed good.buffer held.chunk.closes }

-- what is noted of the next commit of a sound world fits a log
pub notes_fit : NotesFitLogs
notes_fit s w limits good sound =
    record { spheres = λ i. fits_log s w i sound; chunks = λ c h how is. fits_chunk w c h how good is }
