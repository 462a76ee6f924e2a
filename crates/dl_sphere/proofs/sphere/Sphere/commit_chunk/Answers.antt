use Rattle.std.proofs.Common.{◌≡◌, ◌+◌, ◌<◌, ◌∷◌, ◌++◌, Bool, [], length, Some, None, sym, ap, ◌∙◌, subst, refl, rules, set, length-set, append-nil, arith, suc}
use Rattle.std.specs.Prelude.{slice_get, IfOk, Result, Ok, Err}
use Rattle.spec_kernel.specs.Devices.{Devices}
use Rattle.std.proofs.lemmas.Option.{slice_get_within}
use Rattle.spec_isa.specs.declared.thread.Parts.{Parts}
use Rattle.spec_log.specs.declared.LogParts.{LogParts}
use Rattle.dl_entry.specs.declared.Commit.{Commit}
use Rattle.spec_play.specs.Effects.{chunk_commit, counted}
use Rattle.spec_engine.specs.Closing.{is_short, is_piece}
use Rattle.spec_sphere.specs.sphere.Commits.{Granted, MovedSphere, chunk_moved}
use Rattle.spec_sphere.specs.sphere.Spheres.{Sphere}
use Rattle.dl_kernel.specs.InOrder.{listed}
use Rattle.dl_sphere.specs.declared.part.Part.{Part}
use Rattle.dl_sphere.specs.Moving.{came, CanCommit}
use Rattle.spec_sphere.proofs.Logs.Growing.{pushed_length}
use Rattle.dl_sphere.specs.Roles.{Keeping, keeping_of, role_in, role_of, with_noted, IsLiveOf}
use Rattle.dl_sphere.specs.Inside.{replayed_at, sphere_in}
use Rattle.dl_sphere.specs.Pasts.{sphere_at, sphere_with}
use Rattle.dl_sphere.specs.SizedSpheres.{SizedSphere}
use Rattle.dl_sphere.proofs.Live.Moved.{chunk_is_moved}
use Rattle.dl_sphere.specs.Setups.{standard_in}
use Rattle.dl_sphere.proofs.Standing.Sizes.{noted_size}
use Rattle.dl_sphere.proofs.Standing.Moves.{Commits, commits_stand}
use Rattle.dl_sphere.proofs.Replays.Limits.{alone, kept_live, replayed, stands_replayed, live_part}
use Rattle.dl_sphere.proofs.sphere.Sphere.commit_chunk.Goals as goal

pub invariant_of-self-2 : goal.invariant_of-self-2
invariant_of-self-2 g c =
    let a = c.self.inside in
    let k = c.args.thread in
    let t = c.thread_at-after.result in
    let u = c.counted-after.result in
    let commit = c.in_ok-commit.commit in
    let h = c.self.invariant in
    let q : Sphere = sphere_with a.past.first a.past.state.memory c.set.new.self (listed c.push_reserved.new.self) (Some k) a.past.state.request (role_in a.past.state.used c.note.new.part) in
    let start : slice_get c.args.self.now.sphere.threads k ≡ Some t =
    sym (ap (λ (v : SizedSphere). slice_get v.sphere.threads k) c.self.view_is) ∙ c.thread_at-after.ensures.thread
    in
    let d : Commits (sphere_in a) q k t u [] commit =
    record {
      start = c.thread_at-after.ensures.thread;
      within = let inside = slice_get_within a.past.state.threads k t c.thread_at-after.ensures.thread in let few = c.thread_at-after.ensures.few in omega arith;
      threads = c.set.ensures ∙ sym (append-nil (set a.past.state.threads k u));
      commits =
          ap (λ (v : Parts). v.commits) (c.counted-after.ensures)
          ∙ ap (λ (v : Parts). v.commits + 1) c.state.ensures
          ∙ ap (λ n. n + 1) (c.requires.1.1.0.commits t start);
      new = tt;
      first = refl;
      position_ =
          let count : length (listed c.push_reserved.new.self) ≡ suc (length (listed a.past.commits)) = ap length (c.push_reserved.ensures.all ∙ ap (λ xs. xs ++ c.in_ok-commit.commit ∷ []) c.in_ok-reserve.ensures.same.all) ∙ pushed_length (listed a.past.commits) commit (length (listed a.past.commits)) refl in
          omega arith;
      actor = ap (λ (v : Commit). v.actor) c.in_ok-commit.ensures;
    }
    in
    let past = record a.past { commits = c.push_reserved.new.self; state = record a.past.state { threads = c.set.new.self; last = Some k; commits = a.past.state.commits + 1 } } in
    let was = h.counted in
    let more = d.position_ in
    record {
      size = h.size;
      counted = omega (arith, was, more);
      request = h.request;
      kept = kept_live a.s past (keeping_of c.note.new.part)
          (subst (IsLiveOf a.s q) (sym c.in_ok-note.ensures.noted)
          (commits_stand (sphere_in a) q k t u [] commit d a.s c.is_short.result None (keeping_of a.part)
          (λ few. let n : length c.set.new.self ≡ length a.past.state.threads = ap length c.set.ensures ∙ length-set a.past.state.threads k u in omega arith)
          (alone a (live_part a.part c.in_default.not-Replayed) c.self.invariant)));
    }

pub returns-clause-ok : goal.returns-clause-ok
returns-clause-ok g c d =
    let a = c.self.inside in
    let k = c.args.thread in
    let how = g.how in
    let ch = c.args.chunk.now.chunk in
    let run = ch.done in
    let t = c.thread_at-after.result in
    let start : slice_get c.args.self.now.sphere.threads k ≡ Some t =
    sym (ap (λ (v : SizedSphere). slice_get v.sphere.threads k) c.self.view_is) ∙ c.thread_at-after.ensures.thread
    in
    let threads : c.set.new.self ≡ set a.past.state.threads k (counted run.thread) =
    c.set.ensures ∙ ap (set a.past.state.threads k) (c.counted-after.ensures ∙ ap counted c.state.ensures)
    in
    let commits : (listed c.push_reserved.new.self) ≡ (listed a.past.commits) ++ chunk_commit k run ∷ [] =
    (c.push_reserved.ensures.all ∙ ap (λ xs. xs ++ c.in_ok-commit.commit ∷ []) c.in_ok-reserve.ensures.same.all) ∙ ap (λ (x : Commit). (listed a.past.commits) ++ x ∷ []) c.in_ok-commit.ensures
    in
    let noted : keeping_of c.note.new.part ≡ with_noted (chunk_commit k run) c.is_short.result None None (keeping_of a.part) =
    c.in_ok-note.ensures.noted ∙ ap (λ (x : Commit). with_noted x c.is_short.result None None (keeping_of a.part)) c.in_ok-commit.ensures
    in
    (λ i. record {
      outcome = Granted;
      sphere = sphere_with a.past.first a.past.state.memory (threads i) (commits i) (Some k) a.past.state.request (role_of a.past.state.used (noted i));
      words = (c.in_ok-words.ensures ∙ c.words.ensures.words) i;
      devices = d;
    })
    ∙ chunk_is_moved a.past.first a.past.state.memory a.past.state.used a.past.state.threads (listed a.past.commits) a.past.state.last d a.s (keeping_of a.part) a.past.state.request k t (is_piece how) c.is_short.result run
    c.thread_at-after.ensures.thread (c.requires.1.1.0.commits t start) (alone a (live_part a.part c.in_default.not-Replayed) c.self.invariant)
    ∙ ap (λ (x : Bool). chunk_moved k (is_piece how) x run d (sphere_in a)) (c.is_short.ensures how c.requires.1.1.0.closed)
    ∙ ap (λ (x : SizedSphere). chunk_moved k (is_piece how) (is_short x.s how ch.limit) run d x.sphere) c.self.view_is

-- ---- a replayed sphere

pub commit_part-requires : goal.commit_part-requires
commit_part-requires g c =
    let a = c.self.inside in
    let k = c.args.thread in
    let r = c.in-Replayed.replay in
    let ch = c.args.chunk.now.chunk in
    let view = sym c.self.view_is in
    let can : CanCommit a.s (sphere_in a) k g.how ch = subst (λ (v : SizedSphere). CanCommit v.s v.sphere k g.how ch) view c.requires.1.1.0 in
    λ κs below. (
      search (rules, below),
      (
        subst (λ (v : SizedSphere). k < length v.sphere.threads) view c.requires.1.0,
        (
          (a.s, subst (λ (x : Part). CanCommit a.s (sphere_at a.past (role_in a.past.state.used x)) k g.how ch) c.in-Replayed.is can),
          replayed a r c.in-Replayed.is c.self.invariant,
        ),
      ),
    )

pub invariant_of-self : goal.invariant_of-self
invariant_of-self g c =
    let a = c.self.inside in
    stands_replayed a.s a.past c.commit_part.new.past (keeping_of a.part) c.commit_part.new.replay c.self.invariant c.commit_part.ensures.at

if_ok : {A E : Type 0} (r : Result A E) (P Q : A → Type 0) → ((x : A) → P x → Q x) → IfOk r P → IfOk r Q
if_ok (Ok x) P Q f h = f x h
if_ok (Err e) P Q f h = tt

pub returns-in-Replayed-clause-ok : goal.returns-in-Replayed-clause-ok
returns-in-Replayed-clause-ok g c =
    let a = c.self.inside in
    let k = c.args.thread in
    let how = g.how in
    let ch = c.args.chunk.now.chunk in
    let was : Bool → Devices → Sphere → MovedSphere = λ short d p. chunk_moved k (is_piece how) short ch.done d p in
    let after : Sphere = replayed_at c.commit_part.new.past c.commit_part.new.replay in
    if_ok c.commit_part.result (λ m. (short : Bool) (d : Devices) → came m after d ≡ was short d (replayed_at a.past c.in-Replayed.replay))
    (λ m. (d : Devices) → came m after d ≡ was (is_short c.args.self.now.s how ch.limit) d c.args.self.now.sphere)
    (λ m said d.
    said (is_short a.s how ch.limit) d
    ∙ ap (λ (x : Part). was (is_short a.s how ch.limit) d (sphere_at a.past (role_in a.past.state.used x))) (sym c.in-Replayed.is)
    ∙ ap (λ (x : SizedSphere). was (is_short x.s how ch.limit) d x.sphere) c.self.view_is)
    c.commit_part.ensures.moved

pub returns-clause-size : goal.returns-clause-size
returns-clause-size g c =
    let a = c.self.inside in
    ap (λ (x : Keeping). standard_in a.s (role_of a.past.state.used x)) c.in_ok-note.ensures.noted
    ∙ noted_size a.past.state.used a.s c.in_ok-commit.commit c.is_short.result None None (keeping_of a.part)
    ∙ ap (λ (v : SizedSphere). standard_in v.s v.sphere.role) c.self.view_is

pub returns-in-Replayed-clause-size : goal.returns-in-Replayed-clause-size
returns-in-Replayed-clause-size g c =
    let a = c.self.inside in
    ap (λ (l : LogParts). l.s) c.commit_part.ensures.log
    ∙ sym (ap (λ (x : Part). standard_in a.s (role_in a.past.state.used x)) c.in-Replayed.is)
    ∙ ap (λ (v : SizedSphere). standard_in v.s v.sphere.role) c.self.view_is
