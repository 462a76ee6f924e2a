-- The events of threads: Place and Raise.
use Rattle.std.specs.Prelude.{ℕ, slice_get, Option, Some, None, if◌then◌else◌}
use Rattle.dl_entry.specs.declared.Point.{Point}
use Rattle.spec_isa.specs.declared.thread.Parts.{Parts}
use Rattle.spec_kernel.specs.Interrupts.{is_live, has_handler}
use Rattle.spec_protocol.specs.declared.reply.Reply.{Reply}
use Rattle.spec_sphere.specs.sphere.Commits.{raised}
use Rattle.spec_protocol.specs.machine.World.{World, moment, sphere_at, with_sphere, with_core, held_afresh, core_of, OfRaise, EventOutcome, answered}
use Rattle.spec_sphere.specs.sphere.Spheres.{replays}

-- ---- Place

abbrev pub unless_elsewhere : Option ℕ → World → EventOutcome → EventOutcome
unless_elsewhere None w a = a
unless_elsewhere (Some d) w a = answered w (Reply.Elsewhere d)

abbrev pub place_thread : World → (core i thread : ℕ) → Option Parts → EventOutcome
place_thread w c i k None = answered w Reply.NoThread
place_thread w c i k (Some t) =
    if is_live t
    then unless_elsewhere (core_of w i k) w (answered (with_core w c (held_afresh w.numbers i k (sphere_at w i))) Reply.Placed)
    else answered w Reply.Ended

-- core c takes thread k of sphere i; what it ran is abandoned
unfoldable pub placing : World → (core i thread : ℕ) → EventOutcome
placing w c i k = place_thread w c i k (slice_get (sphere_at w i).threads k)

-- ---- Raise

-- a core that runs the thread abandons its chunks
abbrev pub with_renewed : World → (i thread : ℕ) → Option ℕ → World
with_renewed w i k None = w
with_renewed w i k (Some c) = with_core w c (held_afresh w.numbers i k (sphere_at w i))

abbrev pub raise_in : World → (i thread value : ℕ) → Parts → EventOutcome
raise_in w i k value t =
    record {
      reply = Reply.Raised;
      world = with_renewed (with_sphere w i (raised k value t (sphere_at w i))) i k (core_of w i k);
      point = Some (Point.Raise (moment w) i k value);
      move = Some (record { moment = moment w; sphere = i; what = OfRaise k value });
    }

abbrev pub raise_thread : World → (i thread value : ℕ) → Option Parts → EventOutcome
raise_thread w i k value None = answered w Reply.NoThread
raise_thread w i k value (Some t) =
    if is_live t
    then if has_handler t
    then if t.mask then answered w Reply.Masked else raise_in w i k value t
    else answered w Reply.NoHandler
    else answered w Reply.Ended

-- thread k of sphere i is interrupted with the value
unfoldable pub raising : World → (i thread value : ℕ) → EventOutcome
raising w i k value =
    let p = sphere_at w i in
    if replays p.role then answered w Reply.FromLog else raise_thread w i k value (slice_get p.threads k)
