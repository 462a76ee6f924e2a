-- What a log says of a commit leaves a sound replay.
use Rattle.std.proofs.Common.{◌≡◌, ℕ, suc, ◌≤◌, List, length, Option, Some, None, refl, sym, ap, ◌∙◌, subst, arith}
use Rattle.std.specs.Prelude.{slice_get, option_map}
use Rattle.std.proofs.lemmas.Bool.{true≢false}
use Rattle.std.proofs.lemmas.Option.{none-some}
use Rattle.dl_entry.specs.declared.Actor.{Actor}
use Rattle.dl_entry.specs.declared.End.{End}
use Rattle.dl_entry.specs.declared.Why.{Why}
use Rattle.spec_isa.specs.declared.thread.Parts.{Parts}
use Rattle.spec_log.specs.declared.LogParts.{LogParts}
use Rattle.spec_kernel.specs.Devices.{Devices, HaveByteInput}
use Rattle.spec_kernel.specs.Interrupts.{takes_interrupt, interrupted}
use Rattle.spec_play.specs.Effects.{Effect}
use Rattle.spec_play.specs.Progress.{position, with_interrupt}
use Rattle.spec_play.specs.declared.used.Used.{Used}
use Rattle.spec_play.specs.Turns.{Ended}
use Rattle.spec_play.specs.Plays.{with_threads}
use Rattle.spec_play.specs.Verdicts.{LogVerdict, Goes, Fails, unless, interrupt_at, with_interrupted, ended}
use Rattle.spec_strata.specs.Standing.{after_thread}
use Rattle.spec_sphere.specs.sphere.Spheres.{Cursor, Role, Replay, Sphere, actor_of, most_in}
use Rattle.spec_sphere.specs.sphere.Commits.{with_commit, diverged, by_verdict}
use Rattle.spec_sphere.specs.sphere.Setups.{SphereSetup}
use Rattle.spec_sphere.specs.promises.Sound.{IsDoneInOrder, due, IsSoundCursor, IsSoundRole, IsSoundSphere}
use Rattle.spec_play.proofs.Threads.{branch}
use Rattle.spec_sphere.proofs.Moves.Joining.{MayGo, turn_in_order, none-mapped}
use Rattle.spec_sphere.proofs.Sound.Words.{sound-none}
use Rattle.spec_sphere.proofs.Replays.Order.{done-commit}
use Rattle.spec_sphere.proofs.Replays.Uses.{Rising, once-more, same-due, one-due}
use Rattle.spec_sphere.proofs.Sound.Commits.{IsSoundEffect, commit-position, IsSoundMoved, granted-sound, interrupted-effect}
use Rattle.spec_sphere.proofs.Replays.Turns.{over-turn, turned-sound}

-- ---- cursors

-- no more of the log is used than there is, and of its interrupts those that are due
pub record Uses (log : LogParts) (threads : List Parts) (u : Used) : Type 0 where
  pub rising : Rising log.interrupts
  pub inputs : u.inputs ≤ length log.inputs
  pub dmas : u.dmas ≤ length log.dmas
  pub interrupts : u.interrupts ≡ due threads log.interrupts

-- what it comes to where it goes
abbrev pub IfGoes : (Effect → Used → Type 0) → LogVerdict → Type 0
IfGoes Q (Goes e u) = Q e u
IfGoes Q (Fails why) = Unit {0}

-- what holds where a verdict goes on holds so too where it may fail for one reason more
pub unless-goes : (Q : Effect → Used → Type 0) (o : Option Why) (x : LogVerdict) → IfGoes Q x → IfGoes Q (unless o x)
unless-goes Q None x h = h
unless-goes Q (Some why) x h = tt

-- what goes on has a sound effect, and uses the log soundly
abbrev pub SoundlyIn : (size : ℕ) (log : LogParts) (k : ℕ) (ts : List Parts) (t : Parts) → Effect → Used → Type 0
SoundlyIn size log k ts t e u = IsSoundEffect size log.threads ts t e × Uses log (with_threads k e ts) u

interrupted-goes : (size : ℕ) (log : LogParts) (k : ℕ) (ts : List Parts) (t : Parts) (e : Effect) (u : Used) (o : Option ℕ) → interrupt_at log.interrupts k e.thread.commits ≡ o → slice_get ts k ≡ Some t → IsSoundEffect size log.threads ts t e → Uses log ts u
    → IfGoes (SoundlyIn size log k ts t) (with_interrupted o e u)
interrupted-goes size log k ts t e u None at is sound uses =
    let m = once-more ts e.spawned k t e.thread is sound.commits sound.fresh in
    let c : suc t.commits ≡ e.thread.commits = (let h = sound.commits in omega (arith, h)) in
    let d = same-due log.interrupts ts (with_threads k e ts) k t.commits m (ap (interrupt_at log.interrupts k) c ∙ at) in
    (sound, record { rising = uses.rising; inputs = uses.inputs; dmas = uses.dmas; interrupts = uses.interrupts ∙ sym d })
interrupted-goes size log k ts t e u (Some value) at is sound uses =
    let f = record e { thread = interrupted value e.thread } in
    let m = once-more ts f.spawned k t f.thread is sound.commits sound.fresh in
    let c : suc t.commits ≡ e.thread.commits = (let h = sound.commits in omega (arith, h)) in
    let d = one-due log.interrupts ts (with_threads k f ts) k t.commits value uses.rising m (ap (interrupt_at log.interrupts k) c ∙ at) in
    branch (IfGoes (SoundlyIn size log k ts t)) (takes_interrupt e.thread) (Goes f (with_interrupt u)) (Fails Why.Interrupt)
    (λ _. (interrupted-effect size log.threads value ts t e sound, record { rising = uses.rising; inputs = uses.inputs; dmas = uses.dmas; interrupts = ap suc uses.interrupts ∙ sym d }))
    (λ _. tt)

-- a commit with a sound effect goes on soundly past the interrupt that is due after it
pub ended-goes : (size : ℕ) (log : LogParts) (k : ℕ) (ts : List Parts) (t : Parts) (e : Effect) (u : Used) → slice_get ts k ≡ Some t → IsSoundEffect size log.threads ts t e → Uses log ts u → IfGoes (SoundlyIn size log k ts t) (ended log k e u)
ended-goes size log k ts t e u is sound uses = interrupted-goes size log k ts t e u (interrupt_at log.interrupts k e.thread.commits) refl is sound uses

-- ---- by a verdict

over-sound : (commits : ℕ) (threads : List Parts) (b : Cursor) (how : End) → IsSoundCursor commits threads b → IsSoundCursor commits threads (record b { now = Ended how })
over-sound commits threads b how s =
    record {
      log = s.log;
      within = s.within;
      going = λ e. absurd (true≢false e);
      done = s.done;
      named = λ actor none e. absurd (none-some actor e);
      inputs = s.inputs;
      dmas = s.dmas;
      interrupts = s.interrupts;
      loads = s.loads;
      turn = λ k e. absurd (over-turn how k e);
    }

-- a sound sphere is sound an event later in another role that is sound
pub as-role : (s : ℕ) (image : SphereSetup) (now : ℕ) (role : Role) (p : Sphere) → IsSoundRole s (position p.progress) p.threads role → length p.threads ≤ most_in role → IsSoundSphere s image now p → IsSoundSphere s image (suc now) (record p { role = role })
as-role s image now role p new few sound =
    record {
      size = sound.size;
      bytes = sound.bytes;
      request = sound.request;
      some = sound.some;
      few = few;
      threads = sound.threads;
      commits = (let l = sound.commits in omega (arith, l));
      role = new;
    }

-- a divergence leaves a sound replay
pub diverged-sound : (s : ℕ) (image : SphereSetup) (now : ℕ) (b : Cursor) (why : Why) (devices : Devices) (p : Sphere) → IsSoundCursor (position p.progress) p.threads b → IsSoundSphere s image now p → length p.threads ≤ b.log.threads → HaveByteInput devices → IsSoundMoved s image (suc now) (diverged b why devices p)
diverged-sound s image now b why devices p cursor sound few d =
    record {
      sphere = as-role s image now (Replay (record b { now = Ended (End.Diverged (position p.progress) why) })) p (over-sound (position p.progress) p.threads b (End.Diverged (position p.progress) why) cursor) few sound;
      words = sound-none (length image.memory);
      devices = d;
    }

-- a commit leaves a sound replay, whether it goes on or diverges
pub verdict-sound : (s : ℕ) (image : SphereSetup) (now k : ℕ) (b : Cursor) (t : Parts) (x : LogVerdict) (devices : Devices) (p : Sphere) → IsSoundCursor (position p.progress) p.threads b → MayGo b k → IsSoundSphere s image now p → length p.threads ≤ b.log.threads → slice_get p.threads k ≡ Some t
    → IfGoes (SoundlyIn (length image.memory) b.log k p.threads t) x → HaveByteInput devices → IsSoundMoved s image (suc now) (by_verdict b k x devices p)
verdict-sound s image now k b t (Fails why) devices p cursor turn sound few is goes d = diverged-sound s image now b why devices p cursor sound few d
verdict-sound s image now k b t (Goes e u) devices p cursor turn sound few is goes d =
    let n = commit-position b.strata k e p.progress in
    let l = cursor.going turn.going in
    let effect = goes.0 in
    let done : b.strata ≡ None → IsDoneInOrder b.log.mode b.log.order (suc (position p.progress)) (with_threads k e p.threads) =
    λ none. done-commit b.log.mode b.log.order (position p.progress) k p.threads e.spawned t e.thread is effect.commits effect.fresh
    (cursor.named (Actor.Thread k) none (ap actor_of (turn_in_order b k turn none))) (cursor.done none)
    in
    granted-sound s image now k b.strata _ t e devices p sound is effect
    (turned-sound b.log b.interval (option_map (after_thread k) b.strata) (with_commit b.strata k e p.progress) u (with_threads k e p.threads) cursor.log (omega (arith, n, l))
    (λ none. subst (λ (m : ℕ). IsDoneInOrder b.log.mode b.log.order m (with_threads k e p.threads)) (sym n) (done (none-mapped (after_thread k) b.strata none)))
    goes.1.inputs goes.1.dmas goes.1.interrupts) d
