use Rattle.std.proofs.Common.{◌≡◌, ◌^◌, ◌+◌, ◌∷◌, ◌++◌, [], false, length, Option, Some, None, refl, sym, ap, ◌∙◌, subst, arith, suc}
use Rattle.std.specs.Prelude.{IsSome}
use Rattle.std.proofs.lemmas.Bool.{true≢false}
use Rattle.dl_entry.specs.declared.Request.{Request}
use Rattle.spec_log.specs.declared.LogParts.{LogParts}
use Rattle.spec_kernel.specs.Answers.{dma_bytes}
use Rattle.spec_play.specs.Effects.{dma_commit}
use Rattle.spec_sphere.specs.sphere.Commits.{Granted, MovedSphere, dma_moved}
use Rattle.spec_sphere.specs.sphere.Spheres.{Sphere}
use Rattle.spec_sphere.specs.promises.Sound.{IsSoundIf}
use Rattle.spec_sphere.proofs.Logs.Growing.{pushed_length}
use Rattle.dl_kernel.specs.InOrder.{listed}
use Rattle.dl_sphere.specs.declared.part.Part.{Part}
use Rattle.dl_sphere.specs.Inside.{sphere_in}
use Rattle.dl_sphere.specs.Pasts.{sphere_with}
use Rattle.dl_sphere.specs.Roles.{Keeping, keeping_of, role_in, role_of, IsLive, IsLiveOf}
use Rattle.dl_sphere.specs.Moving.{IsTurnOfDma}
use Rattle.dl_sphere.specs.SizedSpheres.{SizedSphere}
use Rattle.dl_sphere.specs.Setups.{standard_in}
use Rattle.dl_sphere.proofs.Standing.Sizes.{noted_size}
use Rattle.dl_sphere.proofs.Standing.Moves.{transferred_stand}
use Rattle.dl_sphere.proofs.Replays.Limits.{sound-within, alone, kept_live, replayed, stands_replayed, live_part}
use Rattle.dl_sphere.proofs.Live.Moved.{none_moved, dma_is_moved}
use Rattle.dl_sphere.proofs.sphere.Sphere.dma.Goals as goal

pub unreachable-requires : goal.unreachable-requires
unreachable-requires c =
    let a = c.self.inside in
    let d = c.args.devices.now in
    let live : IsLive (keeping_of a.part) = live_part a.part c.in_default.not-Replayed in
    let some : IsSome (dma_moved d (sphere_in a)) = subst (λ (v : SizedSphere). IsSome (dma_moved d v.sphere)) (sym c.self.view_is) c.requires.some in
    let none : dma_moved d (sphere_in a) ≡ None =
    ap (λ (q : Option Request). dma_moved d (sphere_with a.past.first a.past.state.memory a.past.state.threads (listed a.past.commits) a.past.state.last q (role_in a.past.state.used a.part))) c.in_default-request.is
    ∙ none_moved a.past.first a.past.state.memory a.past.state.used a.past.state.threads (listed a.past.commits) a.past.state.last d (keeping_of a.part) live
    in
    absurd (true≢false (sym (subst (λ (x : Option MovedSphere). IsSome x) none some)))

pub live_dma-requires-clause-request : goal.live_dma-requires-clause-request
live_dma-requires-clause-request c =
    let a = c.self.inside in
    subst (IsSoundIf (2 ^ 24)) c.in-Some.is (sound-within (length a.past.state.memory) (2 ^ 24) a.past.state.request c.size.ensures.memory.size.most c.self.invariant.request)

pub invariant_of-self-2 : goal.invariant_of-self-2
invariant_of-self-2 c =
    let a = c.self.inside in
    let request = c.in-Some.request in
    let live : IsLive (keeping_of a.part) = live_part a.part c.in_default.not-Replayed in
    let e = c.in_ok-words.ensures in
    let q : Sphere = sphere_with a.past.first a.past.state.memory a.past.state.threads (listed c.push_reserved.new.self) a.past.state.last None (role_in a.past.state.used c.live_dma.new.part) in
    let count : length (listed c.push_reserved.new.self) ≡ suc (length (listed a.past.commits)) =
    ap length (c.push_reserved.ensures.all ∙ (λ i. c.in_ok-reserve.ensures.same.all i ++ c.dma_commit.ensures i ∷ [])) ∙ pushed_length (listed a.past.commits) dma_commit (length (listed a.past.commits)) refl
    in
    let past = record a.past { commits = c.push_reserved.new.self; state = record a.past.state { request = None; commits = a.past.state.commits + 1 } } in
    let was = c.self.invariant.counted in
    record {
      size = c.self.invariant.size;
      counted = omega (arith, was, count);
      request = tt;
      kept = kept_live a.s past (keeping_of c.live_dma.new.part)
          (subst (IsLiveOf a.s q) (sym e.noted)
          (transferred_stand (sphere_in a) q a.s (dma_bytes c.args.devices.now request) (keeping_of a.part) refl refl (omega (arith, count)) (alone a live c.self.invariant)));
    }

pub returns : goal.returns
returns c =
    let a = c.self.inside in
    let d = c.args.devices.now in
    let request = c.in-Some.request in
    let live : IsLive (keeping_of a.part) = live_part a.part c.in_default.not-Replayed in
    let e = c.in_ok-words.ensures in
    let here : IsLiveOf a.s (sphere_with a.past.first a.past.state.memory a.past.state.threads (listed a.past.commits) a.past.state.last (Some request) (role_in a.past.state.used a.part)) (keeping_of a.part) =
    subst (λ (q : Option Request). IsLiveOf a.s (sphere_with a.past.first a.past.state.memory a.past.state.threads (listed a.past.commits) a.past.state.last q (role_in a.past.state.used a.part)) (keeping_of a.part)) c.in-Some.is (alone a live c.self.invariant)
    in
    record {
      ok =
          sym (ap (λ (v : SizedSphere). dma_moved d v.sphere) c.self.view_is)
          ∙ ap (λ (q : Option Request). dma_moved d (sphere_with a.past.first a.past.state.memory a.past.state.threads (listed a.past.commits) a.past.state.last q (role_in a.past.state.used a.part))) c.in-Some.is
          ∙ dma_is_moved a.past.first a.past.state.memory a.past.state.used a.past.state.threads (listed a.past.commits) a.past.state.last d a.s (keeping_of a.part) request here
          ∙ (λ i. Some (record {
            outcome = Granted;
            sphere = sphere_with a.past.first a.past.state.memory a.past.state.threads (sym (c.push_reserved.ensures.all ∙ (λ i. c.in_ok-reserve.ensures.same.all i ++ c.dma_commit.ensures i ∷ [])) i) a.past.state.last None (role_of a.past.state.used (sym e.noted i));
            words = sym e.words i;
            devices = sym e.devices i;
          }));
      standard = ap (λ (v : SizedSphere). v.s) c.self.view_is;
      size =
          ap (λ (x : Keeping). standard_in a.s (role_of a.past.state.used x)) e.noted
          ∙ noted_size a.past.state.used a.s dma_commit false None (Some (dma_bytes d request)) (keeping_of a.part)
          ∙ ap (λ (v : SizedSphere). standard_in v.s v.sphere.role) c.self.view_is;
      err = tt;
      devices = tt;
    }

-- ---- a replayed sphere

pub serve_dma-requires-clause-turn : goal.serve_dma-requires-clause-turn
serve_dma-requires-clause-turn c =
    let a = c.self.inside in
    let here : IsTurnOfDma (role_in a.past.state.used a.part) = subst (λ (v : SizedSphere). IsTurnOfDma v.sphere.role) (sym c.self.view_is) c.requires.turn in
    subst (λ (x : Part). IsTurnOfDma (role_in a.past.state.used x)) c.in-Replayed.is here

pub serve_dma-requires-clause-at : goal.serve_dma-requires-clause-at
serve_dma-requires-clause-at c =
    let a = c.self.inside in
    replayed a c.in-Replayed.replay c.in-Replayed.is c.self.invariant

pub invariant_of-self : goal.invariant_of-self
invariant_of-self c =
    let a = c.self.inside in
    stands_replayed a.s a.past c.serve_dma.new.past (keeping_of a.part) c.serve_dma.new.replay c.self.invariant c.serve_dma.ensures.at

pub returns-in-Replayed-clause-size : goal.returns-in-Replayed-clause-size
returns-in-Replayed-clause-size c =
    let a = c.self.inside in
    ap (λ (l : LogParts). l.s) c.serve_dma.ensures.log
    ∙ sym (ap (λ (x : Part). standard_in a.s (role_in a.past.state.used x)) c.in-Replayed.is)
    ∙ ap (λ (v : SizedSphere). standard_in v.s v.sphere.role) c.self.view_is
