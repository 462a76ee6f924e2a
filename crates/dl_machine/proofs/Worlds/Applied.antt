-- What an event comes to before which epochs have begun: it answers and leaves what it would have without them.
use Rattle.std.proofs.Common.{◌≡◌, ℕ, ◌≤◌, Bool, ◌∷◌, ◌++◌, [], List, true, false, length, Result, refl, sym, ap, ◌∙◌, subst, arith}
use Rattle.std.specs.Prelude.{IfOk, OnErr, OnOk, slice_index}
use Rattle.std.proofs.lemmas.Bool.{true≢false}
use Rattle.std.proofs.lemmas.Result.{on_err_weaker}
use Rattle.dl_entry.specs.declared.Counts.{Counts}
use Rattle.spec_protocol.specs.declared.event.Event.{Event}
use Rattle.spec_protocol.specs.declared.reply.Reply.{Reply}
use Rattle.spec_protocol.specs.machine.Epochs.{epochs_begun}
use Rattle.spec_protocol.specs.machine.World.{World}
use Rattle.spec_protocol.specs.machine.Machine.{Setup, act, happens}
use Rattle.spec_protocol.specs.promises.Alike.{AreAlike, all_forgotten}
use Rattle.spec_protocol.specs.promises.Kept.{NoneIsDue}
use Rattle.spec_protocol.proofs.Alike.All.{events_alike}
use Rattle.dl_machine.specs.Begun.{HasBegunSome, IsOneDue}
use Rattle.dl_machine.specs.Events.{IsWanted, wants_memory}
use Rattle.dl_machine.specs.Ready.{IsReady}
use Rattle.dl_machine.specs.Runs.{HasRun, IsRun}
use Rattle.dl_machine.specs.States.{left}
use Rattle.dl_machine.proofs.Worlds.Begun.{ok_or_err, on_ok}
use Rattle.dl_machine.proofs.Worlds.Events.{act_counts, replies_few}
use Rattle.dl_machine.proofs.Worlds.InTurn.{all_begun}
use Rattle.dl_machine.proofs.Worlds.Promised.{led_on, run_more}

-- ---- it is counted

-- there is room to count the event
pub few_events : (e : Event) (now between : World) → between ≡ left (act now e) → between.counts.events ≡ now.counts.events
few_events e now between is = ap (λ (w : World). w.counts.events) is ∙ ap (λ (n : Counts). n.events) (act_counts now e)

-- in the world that an act leaves, no reply was given more often than there were events
pub few_replies : (e : Event) (now between : World) → IsReady now → between ≡ left (act now e) → (k : ℕ) → slice_index between.counts.replies k ≤ between.counts.events
few_replies e now between ready is k =
    let same : between.counts ≡ now.counts = ap (λ (w : World). w.counts) is ∙ act_counts now e in
    subst (λ (n : Counts). slice_index n.replies k ≤ n.events) (sym same) (replies_few now ready k)

-- ---- epochs begin before it

-- before an event that may want memory epochs have begun in the world
pub record IsPrepared (e : Event) (old now : World) : Type 0 where
  pub begun : wants_memory e ≡ true → NoneIsDue now
  pub all : wants_memory e ≡ true → now ≡ epochs_begun old
  pub still : wants_memory e ≡ false → now ≡ old
  pub alike : AreAlike now old
  pub run : (s : Setup) (es : List Event) → IsRun s es old → IsRun s es now
  pub same : NoneIsDue old → now ≡ old

-- a world that still shows each run of another has been led to, if the other was
pub still_led : (old now : World) → ((s : Setup) (es : List Event) → IsRun s es old → IsRun s es now) → HasRun old → HasRun now
still_led old now run r = record { setup = r.setup; schedule = r.schedule; run = run r.setup r.schedule r.run }

-- if an epoch is still due, nothing is said of the event
pub due_or : {P : Type 0} (w : World) → IsOneDue w → NoneIsDue w → P
due_or w one none = absurd (true≢false (sym one.due ∙ none one.sphere))

-- ---- it is taken

-- the event was taken in this world, or memory ran out
pub record IsTaken {E : Type 0} (e : Event) (r : Result Reply E) (now new : World) : Type 0 where
  pub reply : IfOk r (λ x. x ≡ (happens now e).reply)
  pub world : OnOk r (new ≡ (happens now e).world)
  pub err : OnErr r (new ≡ now)
  pub wanted : OnErr r (IsWanted e (happens now e).reply)

module _ {E : Type 0} (e : Event) (old now new : World) (r : Result Reply E) (prepared : IsPrepared e old now) (taken : IsTaken e r now new) where
  same_reply : (happens now e).reply ≡ (happens old e).reply
  same_reply = (events_alike.each now old e prepared.alike).reply

  -- it answers the same
  pub taken_reply : IfOk r (λ x. x ≡ (happens old e).reply)
  taken_reply = subst (λ (y : Reply). IfOk r (λ x. x ≡ y)) same_reply taken.reply

  -- it leaves a world alike
  pub taken_alike : OnOk r (AreAlike new (happens old e).world)
  taken_alike = on_ok r (λ is. ap all_forgotten is ∙ (events_alike.each now old e prepared.alike).worlds) taken.world

  left_by : (w : World) → now ≡ w → OnOk r (new ≡ (happens w e).world)
  left_by w same = subst (λ (v : World). OnOk r (new ≡ (happens v e).world)) same taken.world

  -- the same one, if no epoch was due or it wants no memory, or else that of the world in which the epochs have begun
  pub taken_world : OnOk r (NoneIsDue old → new ≡ (happens old e).world)
  taken_world = on_ok r (λ is none. is ∙ ap (λ (w : World). (happens w e).world) (prepared.same none)) taken.world

  pub taken_still : wants_memory e ≡ false → OnOk r (new ≡ (happens old e).world)
  taken_still free = left_by old (prepared.still free)

  pub taken_begun : wants_memory e ≡ true → OnOk r (new ≡ (happens (epochs_begun old) e).world)
  taken_begun wants = left_by (epochs_begun old) (prepared.all wants)

  -- which shows one event more
  pub taken_run : OnOk r ((s : Setup) (es : List Event) → IsRun s es old → IsRun s (es ++ e ∷ []) new)
  taken_run = on_ok r (λ is s es run. run_more s es e now new prepared.begun is (prepared.run s es run)) taken.world

  pub taken_led : HasRun old → HasRun new
  taken_led h =
      let here = still_led old now prepared.run h in
      ok_or_err HasRun r new (happens now e).world now taken.world taken.err (led_on now (happens now e).world e prepared.begun refl here) here

  -- if memory runs out, the world is as it was prepared
  pub taken_refused : OnErr r (NoneIsDue old → new ≡ old)
  taken_refused = on_err_weaker r (λ is none. is ∙ prepared.same none) taken.err

  some_begun : (b : Bool) → wants_memory e ≡ b → HasBegunSome old now
  some_begun true is = record { many = length old.spheres; begun = prepared.all is ∙ sym (all_begun (length old.spheres) old (omega arith)) }
  some_begun false is = record { many = 0; begun = prepared.still is }

  pub taken_partly : OnErr r (HasBegunSome old new)
  taken_partly = on_err_weaker r (λ is. subst (HasBegunSome old) (sym is) (some_begun (wants_memory e) refl)) taken.err

  pub taken_refused_alike : OnErr r (AreAlike new old)
  taken_refused_alike = on_err_weaker r (λ is. ap all_forgotten is ∙ prepared.alike) taken.err

  pub taken_refused_run : OnErr r ((s : Setup) (es : List Event) → IsRun s es old → IsRun s es new)
  taken_refused_run = on_err_weaker r (λ is s es run. subst (IsRun s es) (sym is) (prepared.run s es run)) taken.err

  -- and the event wanted it
  pub taken_wanted : OnErr r (NoneIsDue new → IsWanted e (happens old e).reply)
  taken_wanted = on_err_weaker r (λ wanted none. subst (IsWanted e) same_reply wanted) taken.wanted
