use Rattle.std.proofs.Common.{◌≡◌, ◌+◌, ◌≤◌, false, [], ◌∷◌, ◌++◌, List, length, Option, Some, None, refl, sym, ap, ◌∙◌, subst, set, arith, suc}
use Rattle.std.specs.Prelude.{slice_get}
use Rattle.std.proofs.lemmas.Option.{slice_get_within}
use Rattle.dl_entry.specs.declared.Commit.{Commit}
use Rattle.dl_entry.specs.declared.Request.{Request}
use Rattle.spec_isa.specs.declared.thread.Parts.{Parts}
use Rattle.spec_log.specs.declared.LogParts.{LogParts}
use Rattle.spec_isa.specs.Words.{Stored}
use Rattle.spec_kernel.specs.Devices.{Devices}
use Rattle.spec_kernel.specs.Needs.{need}
use Rattle.spec_kernel.specs.Answers.{taken}
use Rattle.spec_kernel.specs.Serving.{serve}
use Rattle.spec_play.specs.Effects.{counted, serial_commit}
use Rattle.spec_sphere.specs.sphere.Spheres.{Sphere, Role}
use Rattle.dl_kernel.specs.InOrder.{listed}
use Rattle.dl_sphere.specs.declared.part.Part.{Part}
use Rattle.spec_sphere.specs.sphere.Commits.{Granted, MovedSphere, serial_moved}
use Rattle.spec_sphere.specs.promises.Sound.{IsSoundIf, commits_if}
use Rattle.spec_sphere.proofs.Logs.Growing.{pushed_length}
use Rattle.spec_sphere.proofs.Moves.Threads.{serve-keeps}
use Rattle.dl_kernel.specs.Calls.{spawned_list}
use Rattle.dl_replay.proofs.Requests.{serve-request}
use Rattle.dl_sphere.specs.Roles.{Keeping, keeping_of, role_in, role_of, most_of, with_noted, IsLiveOf}
use Rattle.dl_sphere.specs.Inside.{sphere_in}
use Rattle.dl_sphere.specs.Pasts.{sphere_with}
use Rattle.dl_sphere.specs.Moving.{IsTurnOf}
use Rattle.dl_sphere.specs.SizedSpheres.{SizedSphere}
use Rattle.dl_sphere.specs.Setups.{standard_in}
use Rattle.dl_sphere.proofs.Standing.Sizes.{noted_size}
use Rattle.dl_sphere.proofs.Standing.Moves.{Commits, commits_stand, threads_few}
use Rattle.dl_sphere.proofs.Replays.Limits.{alone, few_here, few_live, kept_live, live_part, replayed, stands_replayed}
use Rattle.dl_sphere.proofs.Live.Moved.{step_is_moved}
use Rattle.dl_sphere.proofs.sphere.Sphere.serial_step.Goals as goal

pub counted-after-requires : goal.counted-after-requires
counted-after-requires c =
    let a = c.self.inside in
    let k = c.args.thread in
    let t = c.thread_at.result in
    let g = taken (need t a.past.state.memory) c.args.devices.now c.args.moment in
    let keeps = serve-keeps (most_of (keeping_of a.part)) k a.past.state.threads a.past.state.request t a.past.state.memory g.input in
    let same : c.in_ok-left.left.thread.commits ≡ t.commits = ap (λ (v : Parts). v.commits) c.in_ok-left.ensures.thread ∙ keeps.commits in
    let here = alone a (live_part a.part c.in_default.not-Replayed) c.self.invariant in
    let most : t.commits ≤ a.past.first + length (listed a.past.commits) =
    subst (λ n. n ≤ a.past.first + length (listed a.past.commits)) (ap commits_if c.thread_at.ensures.thread) ((few_live a.s (sphere_in a) (keeping_of a.part) here).few k)
    in
    let few = few_here a c.args.self.now (ap (λ (v : SizedSphere). v.sphere) c.self.view_is) (live_part a.part c.in_default.not-Replayed) c.requires.few in
    omega (arith, same, most, few)

pub invariant_of-self-2 : goal.invariant_of-self-2
invariant_of-self-2 c =
    let a = c.self.inside in
    let k = c.args.thread in
    let t = c.thread_at.result in
    let g = taken (need t a.past.state.memory) c.args.devices.now c.args.moment in
    let v = serve (most_of (keeping_of a.part)) k a.past.state.threads a.past.state.request t a.past.state.memory g.input in
    let keeps = serve-keeps (most_of (keeping_of a.part)) k a.past.state.threads a.past.state.request t a.past.state.memory g.input in
    let u = c.counted-after.result in
    let left = c.in_ok-left.left in
    let commit : Commit = serial_commit k v.loads v.outputs in
    let h = c.self.invariant in
    let q : Sphere = sphere_with a.past.first a.past.state.memory c.settle.new.threads (listed c.push_reserved.new.self) (Some k) left.request (role_in a.past.state.used c.live_step.new.part) in
    let threads : c.settle.new.threads ≡ set a.past.state.threads k u ++ v.spawned = c.settle.ensures ∙ ap (λ spawned. set a.past.state.threads k u ++ spawned) c.in_ok-left.ensures.spawned in
    let commits : (listed c.push_reserved.new.self) ≡ (listed a.past.commits) ++ commit ∷ [] = c.push_reserved.ensures.all ∙ (λ i. c.in_ok-reserve.ensures.same.all i ++ c.in_ok-left.ensures.commit i ∷ []) in
    let d : Commits (sphere_in a) q k t u v.spawned commit =
    record {
      start = c.thread_at.ensures.thread;
      within = let inside = slice_get_within a.past.state.threads k t c.thread_at.ensures.thread in let few = c.thread_at.ensures.few in omega arith;
      threads = threads;
      commits =
          ap (λ (x : Parts). x.commits) c.counted-after.ensures
          ∙ ap (λ (x : Parts). x.commits + 1) c.in_ok-left.ensures.thread
          ∙ ap (λ n. n + 1) keeps.commits;
      new = keeps.fresh;
      first = refl;
      position_ =
          let count : length (listed c.push_reserved.new.self) ≡ suc (length (listed a.past.commits)) = ap length commits ∙ pushed_length (listed a.past.commits) commit (length (listed a.past.commits)) refl in
          omega arith;
      actor = refl;
    }
    in
    let state = record a.past.state { threads = c.settle.new.threads; request = left.request; last = Some k; commits = a.past.state.commits + 1 } in
    let past = record a.past { commits = c.push_reserved.new.self; state = state } in
    let was = h.counted in
    let more = d.position_ in
    record {
      size = h.size;
      counted = omega (arith, was, more);
      request =
          subst (IsSoundIf (length a.past.state.memory)) (sym c.in_ok-left.ensures.request)
          (serve-request (most_of (keeping_of a.part)) k a.past.state.threads a.past.state.request t a.past.state.memory g.input h.request);
      kept = kept_live a.s past (keeping_of c.live_step.new.part)
          (subst (IsLiveOf a.s q) (sym c.in_ok-left.ensures.noted)
          (commits_stand (sphere_in a) q k t u v.spawned commit d a.s false g.input (keeping_of a.part)
          (threads_few (most_of (keeping_of a.part)) a.past.state.threads k u left.spawned c.settle.new.threads c.settle.ensures c.in_ok-left.ensures.room)
          (alone a (live_part a.part c.in_default.not-Replayed) c.self.invariant)));
    }

pub returns-clause-ok : goal.returns-clause-ok
returns-clause-ok c =
    λ (t : Parts) is.
    let a = c.self.inside in
    let k = c.args.thread in
    let moment = c.args.moment in
    let d = c.args.devices.now in
    let x = c.thread_at.result in
    let start : slice_get c.args.self.now.sphere.threads k ≡ Some x =
    sym (ap (λ (s : SizedSphere). slice_get s.sphere.threads k) c.self.view_is) ∙ c.thread_at.ensures.thread
    in
    let same : x ≡ t = (let e : Some x ≡ Some t = sym start ∙ is in cc) in
    let g = taken (need x a.past.state.memory) d moment in
    let v = serve (most_of (keeping_of a.part)) k a.past.state.threads a.past.state.request x a.past.state.memory g.input in
    let commit : Commit = serial_commit k v.loads v.outputs in
    let left = c.in_ok-left.left in
    let l = c.in_ok-left.ensures in
    let made : List Parts → List Commit → Option Request → Role → List Stored → Devices → MovedSphere =
    λ us cs rq role ws e. record { outcome = Granted; sphere = sphere_with a.past.first a.past.state.memory us cs (Some k) rq role; words = ws; devices = e }
    in
    let threads : c.settle.new.threads ≡ set a.past.state.threads k (counted v.thread) ++ v.spawned =
    c.settle.ensures ∙ ap (λ u. set a.past.state.threads k u ++ spawned_list left.spawned) (c.counted-after.ensures ∙ ap counted l.thread) ∙ ap (λ xs. set a.past.state.threads k (counted v.thread) ++ xs) l.spawned
    in
    let commits : (listed c.push_reserved.new.self) ≡ (listed a.past.commits) ++ commit ∷ [] = c.push_reserved.ensures.all ∙ (λ i. c.in_ok-reserve.ensures.same.all i ++ l.commit i ∷ []) in
    let role : role_in a.past.state.used c.live_step.new.part ≡ role_of a.past.state.used (with_noted commit false g.input None (keeping_of a.part)) = ap (role_of a.past.state.used) l.noted in
    ap (λ us. made us (listed c.push_reserved.new.self) left.request (role_in a.past.state.used c.live_step.new.part) left.words.words c.live_step.new.devices) threads
    ∙ ap (λ cs. made (set a.past.state.threads k (counted v.thread) ++ v.spawned) cs left.request (role_in a.past.state.used c.live_step.new.part) left.words.words c.live_step.new.devices) commits
    ∙ ap (λ rq. made (set a.past.state.threads k (counted v.thread) ++ v.spawned) ((listed a.past.commits) ++ commit ∷ []) rq (role_in a.past.state.used c.live_step.new.part) left.words.words c.live_step.new.devices) l.request
    ∙ ap (λ r. made (set a.past.state.threads k (counted v.thread) ++ v.spawned) ((listed a.past.commits) ++ commit ∷ []) v.request r left.words.words c.live_step.new.devices) role
    ∙ ap (λ ws. made (set a.past.state.threads k (counted v.thread) ++ v.spawned) ((listed a.past.commits) ++ commit ∷ []) v.request (role_of a.past.state.used (with_noted commit false g.input None (keeping_of a.part))) ws c.live_step.new.devices) l.words
    ∙ ap (made (set a.past.state.threads k (counted v.thread) ++ v.spawned) ((listed a.past.commits) ++ commit ∷ []) v.request (role_of a.past.state.used (with_noted commit false g.input None (keeping_of a.part))) v.words) l.devices
    ∙ step_is_moved a.past.first a.past.state.memory a.past.state.used a.past.state.threads (listed a.past.commits) a.past.state.last d a.s (keeping_of a.part) a.past.state.request k moment x c.thread_at.ensures.thread (alone a (live_part a.part c.in_default.not-Replayed) c.self.invariant)
    ∙ ap (λ (y : Parts). serial_moved k moment y d (sphere_in a)) same
    ∙ ap (λ (s : SizedSphere). serial_moved k moment t d s.sphere) c.self.view_is

-- ---- a replayed sphere

pub serve_step-requires-clause-may : goal.serve_step-requires-clause-may
serve_step-requires-clause-may c =
    let a = c.self.inside in
    let k = c.args.thread in
    let here : IsTurnOf k (role_in a.past.state.used a.part) = subst (λ (v : SizedSphere). IsTurnOf k v.sphere.role) (sym c.self.view_is) c.requires.turn in
    subst (λ (x : Part). IsTurnOf k (role_in a.past.state.used x)) c.in-Replayed.is here

pub serve_step-requires-clause-at : goal.serve_step-requires-clause-at
serve_step-requires-clause-at c =
    let a = c.self.inside in
    replayed a c.in-Replayed.replay c.in-Replayed.is c.self.invariant

pub invariant_of-self : goal.invariant_of-self
invariant_of-self c =
    let a = c.self.inside in
    stands_replayed a.s a.past c.serve_step.new.past (keeping_of a.part) c.serve_step.new.replay c.self.invariant c.serve_step.ensures.at

pub returns-clause-size : goal.returns-clause-size
returns-clause-size c =
    let a = c.self.inside in
    let k = c.args.thread in
    let t = c.thread_at.result in
    let g = taken (need t a.past.state.memory) c.args.devices.now c.args.moment in
    let v = serve (most_of (keeping_of a.part)) k a.past.state.threads a.past.state.request t a.past.state.memory g.input in
    ap (λ (x : Keeping). standard_in a.s (role_of a.past.state.used x)) c.in_ok-left.ensures.noted
    ∙ noted_size a.past.state.used a.s (serial_commit k v.loads v.outputs) false g.input None (keeping_of a.part)
    ∙ ap (λ (v : SizedSphere). standard_in v.s v.sphere.role) c.self.view_is

pub returns-in-Replayed-clause-size : goal.returns-in-Replayed-clause-size
returns-in-Replayed-clause-size c =
    let a = c.self.inside in
    ap (λ (l : LogParts). l.s) c.serve_step.ensures.log
    ∙ sym (ap (λ (x : Part). standard_in a.s (role_in a.past.state.used x)) c.in-Replayed.is)
    ∙ ap (λ (v : SizedSphere). standard_in v.s v.sphere.role) c.self.view_is
