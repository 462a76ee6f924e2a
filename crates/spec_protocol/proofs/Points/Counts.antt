-- No event touches the points and the counts by itself: they grow only where the event is counted.
use Rattle.std.proofs.Common.{◌≡◌, ℕ, false, Option, Some, None, refl, sym, ap, length, Bool, true}
use Rattle.std.specs.Prelude.{is_some}
use Rattle.spec_isa.specs.declared.thread.Parts.{Parts}
use Rattle.spec_engine.specs.declared.answers.How.{How}
use Rattle.spec_engine.specs.declared.answers.Deliver.{Deliver}
use Rattle.spec_engine.specs.Signatures.{Signature}
use Rattle.spec_engine.specs.Flights.{Flight, at, drain, retire}
use Rattle.spec_engine.specs.Chunks.{step, cut}
use Rattle.spec_protocol.specs.declared.event.Event.{Event}
use Rattle.spec_sphere.specs.sphere.Commits.{CommitOutcome, Granted, Piece, Diverged, MovedSphere, chunk_moved, serial_moved}
use Rattle.spec_engine.specs.Closing.{is_piece}
use Rattle.spec_protocol.specs.machine.World.{Occupant, World, EventOutcome, moment, sphere_at, with_sphere, with_slot, core_of}
use Rattle.spec_protocol.specs.machine.Stepping.{reply_of_step, reply_of_cut}
use Rattle.spec_protocol.specs.machine.Asking.{CommitRequest, chunk_request, granted, grant_chunk, grant_serial, serial_request}
use Rattle.spec_protocol.specs.machine.Flying.{drain_slot, told, delivering, retiring, reply_of_drain, reply_of_retire}
use Rattle.spec_protocol.specs.machine.Placing.{with_renewed, raise_in}
use Rattle.spec_protocol.specs.machine.Machine.{act, name_of, with_point, happens}
use Rattle.spec_protocol.proofs.Moves.AnyEvent.{any-event}
use Rattle.dl_entry.specs.declared.Counts.{Counts}
use Rattle.dl_entry.specs.Counts.{counted}
use Rattle.spec_isa.specs.Words.{lays}
use Rattle.spec_engine.specs.declared.answers.Stepped.{Stepped}
use Rattle.spec_engine.specs.declared.answers.CutReply.{CutReply}
use Rattle.spec_engine.specs.declared.answers.Drain.{Drain}
use Rattle.spec_engine.specs.declared.answers.Retire.{Retire}
use Rattle.spec_protocol.specs.promises.Replying.{makes_point, IsAt, PointsAreMade}

pub record Untold (w : World) (a : EventOutcome) : Type 0 where
  pub points : a.world.points ≡ w.points
  pub counts : a.world.counts ≡ w.counts
  pub exactly : is_some a.point ≡ makes_point a.reply
  pub moment : IsAt (moment w) a.point

-- the replies of steps, cuts, drains and retires make no point
step_none : (r : Stepped) → false ≡ makes_point (reply_of_step r)
step_none Stepped.Ran = refl
step_none (Stepped.Closed how) = refl
step_none (Stepped.Bounced k) = refl

cut_none : (r : CutReply) → false ≡ makes_point (reply_of_cut r)
cut_none CutReply.Waiting = refl
cut_none CutReply.NothingRun = refl
cut_none CutReply.Closed = refl

drain_none : (r : Drain) → false ≡ makes_point (reply_of_drain r)
drain_none Drain.NoCommit = refl
drain_none Drain.Clean = refl
drain_none Drain.Drained = refl

retire_none : (r : Retire) → false ≡ makes_point (reply_of_retire r)
retire_none Retire.NoCommit = refl
retire_none Retire.NotDone = refl
retire_none Retire.Retired = refl

granted_untold : (w : World) (c : ℕ) (q : CommitRequest) (writes : Signature) (v : MovedSphere) (o : CommitOutcome) → Untold w (granted w c q writes v o)
granted_untold w c q writes v Granted = record { points = refl; counts = refl; exactly = refl; moment = refl }
granted_untold w c q writes v Piece = record { points = refl; counts = refl; exactly = refl; moment = refl }
granted_untold w c q writes v (Diverged i why) = record { points = refl; counts = refl; exactly = refl; moment = tt }

chunk_untold : (w : World) (c : ℕ) (h : Occupant) (how : How) → Untold w (grant_chunk w c h how)
unfolding grant_chunk
chunk_untold w c h how =
    let q = chunk_request w h how in
    granted_untold w c q h.chunk.writes (chunk_moved h.thread (is_piece how) q.short h.chunk.done w.devices (sphere_at w h.chunk.sphere)) _

serial_untold : (w : World) (c : ℕ) (h : Occupant) → Untold w (grant_serial w c h)
unfolding grant_serial
serial_untold w c h = granted_untold w c (serial_request h) _ (serial_moved h.thread (moment w) h.chunk.start w.devices (sphere_at w h.chunk.sphere)) _

drain_untold : (w : World) (k : ℕ) (f : Flight) → Untold w (drain_slot w k (Some f))
drain_untold w k f = record { points = refl; counts = refl; exactly = drain_none (drain (sphere_at w f.sphere).memory (Some f)).reply; moment = tt }

told_untold : (w : World) (k c : ℕ) (v : Option Flight) (held : Option Occupant) (d : Deliver) (hit : Bool) → Untold w (told (with_slot w k v) c held d hit)
told_untold w k c v held Deliver.NoCommit hit = record { points = refl; counts = refl; exactly = refl; moment = tt }
told_untold w k c v held Deliver.Already hit = record { points = refl; counts = refl; exactly = refl; moment = tt }
told_untold w k c v held Deliver.Squashed hit = record { points = refl; counts = refl; exactly = refl; moment = tt }
told_untold w k c v held Deliver.Delivered true = record { points = refl; counts = refl; exactly = refl; moment = tt }
told_untold w k c v held Deliver.Delivered false = record { points = refl; counts = refl; exactly = refl; moment = tt }

deliver_untold : (w : World) (c k : ℕ) → Untold w (delivering w c k)
unfolding delivering
deliver_untold w c k = told_untold w k c _ (at w.cores c) _ _

retire_untold : (w : World) (k : ℕ) → Untold w (retiring w k)
unfolding retiring
retire_untold w k = record { points = refl; counts = refl; exactly = retire_none (retire (length w.cores) (at w.slots k)).reply; moment = tt }

renewed_untold : (w v : World) (i k : ℕ) (o : Option ℕ) → v.points ≡ w.points → v.counts ≡ w.counts → ((with_renewed v i k o).points ≡ w.points) × ((with_renewed v i k o).counts ≡ w.counts)
renewed_untold w v i k None p q = (p, q)
renewed_untold w v i k (Some c) p q = (p, q)

raise_in_untold : (w : World) (i k value : ℕ) (t : Parts) → Untold w (raise_in w i k value t)
raise_in_untold w i k value t =
    let r = renewed_untold w (with_sphere w i _) i k (core_of w i k) refl refl in record { points = r.0; counts = r.1; exactly = refl; moment = refl }

-- an event by itself touches neither points nor counts, and gives a point where its reply says so
pub act-untold : (w : World) (e : Event) → Untold w (act w e)
act-untold w e =
    any-event w (Untold w)
    (record {
      answers = λ r none. record { points = refl; counts = refl; exactly = sym none; moment = tt };
      steps = λ c h is opened.
          let s = step w.numbers.capacity (sphere_at w h.chunk.sphere).memory w.slots c h.chunk in
          record { points = refl; counts = refl; exactly = step_none s.reply; moment = tt };
      youngers = λ c h y is e opened.
          let s = step w.numbers.capacity (lays (sphere_at w h.chunk.sphere).memory h.chunk.done.words) w.slots c y in
          record { points = refl; counts = refl; exactly = step_none s.reply; moment = tt };
      cuts = λ c h is none. record { points = refl; counts = refl; exactly = cut_none (cut h.chunk).reply; moment = tt };
      cut_youngers = λ c h y is e. record { points = refl; counts = refl; exactly = cut_none (cut y).reply; moment = tt };
      chunks = λ c h how may chunk none. chunk_untold w c h how;
      serials = λ c h how may serial none. serial_untold w c h;
      drains = λ k f is. drain_untold w k f;
      delivers = deliver_untold w;
      retires = retire_untold w;
      places = λ c i k t is live none. record { points = refl; counts = refl; exactly = refl; moment = tt };
      raises = λ i k value t r. raise_in_untold w i k value t;
      transfers = λ i v t free none. record { points = refl; counts = refl; exactly = refl; moment = refl };
      diverges = λ i v j why t is. record { points = refl; counts = refl; exactly = refl; moment = tt };
    })
    e

-- a point is made where the reply says so, and each event is counted with its reply
pub points_made : PointsAreMade
unfolding happens
points_made w e =
    let u = act-untold w e in
    record {
      exactly = u.exactly;
      moment = u.moment;
      kept = ap (with_point (act w e).point) u.points;
      counted = ap (λ (n : Counts). counted n (name_of (act w e).reply)) u.counts;
    }
