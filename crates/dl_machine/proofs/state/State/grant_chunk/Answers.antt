use Rattle.std.proofs.Common.{◌≡◌, [], ◌∷◌, ◌++◌, ◌<◌, false, List, length, Option, None, Some, refl, sym, ap, ◌∙◌, subst}
use Rattle.std.specs.Prelude.{option_map, slice_get}
use Rattle.dl_entry.specs.declared.Actor.{Actor}
use Rattle.dl_entry.specs.declared.CommitKind.{CommitKind}
use Rattle.dl_entry.specs.declared.Point.{Point}
use Rattle.spec_engine.specs.Flights.{at}
use Rattle.spec_protocol.specs.declared.reply.Reply.{Reply}
use Rattle.spec_sphere.specs.sphere.Spheres.{turn_against, Sphere, is_stopped}
use Rattle.spec_sphere.specs.sphere.Commits.{MovedSphere}
use Rattle.spec_engine.specs.Closing.{is_short}
use Rattle.spec_protocol.specs.machine.World.{EventOutcome, Occupant, World, sphere_at, with_core}
use Rattle.spec_protocol.specs.machine.Flying.{younger_of}
use Rattle.spec_protocol.specs.machine.Asking.{asks_serial, grant_chunk, promoted}
use Rattle.dl_wbuf.specs.Buffers.{Words}
use Rattle.dl_sphere.specs.declared.moved.Moved.{Moved}
use Rattle.dl_sphere.specs.declared.moved.Moved.TheVariants as moved_as
use Rattle.dl_sphere.specs.Moving.{came}
use Rattle.dl_machine.specs.Cores.{goes_on, seen, writes_in}
use Rattle.dl_machine.specs.Ready.{HasRoom, IsReady}
use Rattle.dl_machine.specs.Requests.{closed_by}
use Rattle.dl_machine.specs.Rows.{Spheres, nth_sphere, with_nth}
use Rattle.dl_machine.specs.States.{left, world_in}
use Rattle.dl_machine.proofs.Commits.Able.{can_commit}
use Rattle.dl_machine.proofs.Commits.Granted.{point_in, moved_by, with_grant, grant_done, goes_as, held_after, closed_is, chunk_after, younger_is}
use Rattle.dl_machine.proofs.state.State.grant_chunk.Goals as goal
use Rattle.dl_machine.proofs.state.State.grant_chunk.Goals.{in-Granted, in-Piece}

pub commit_chunk-requires-clause-chunk : goal.commit_chunk-requires-clause-chunk
commit_chunk-requires-clause-chunk g c =
    let x = c.self.inside in
    let w : World = world_in x.cores x.spheres x.flights x.devices x.counts x.points.items in
    let view : w ≡ c.args.self.now = c.self.view_is in
    let core = c.args.core in
    let ready : IsReady w = subst IsReady (sym view) c.requires.ready in
    let held : option_map seen (at w.cores core) ≡ Some c.args.held = subst (λ (u : World). option_map seen (at u.cores core) ≡ Some c.args.held) (sym view) c.requires.held in
    let closed : option_map closed_by (at w.cores core) ≡ Some (Some c.args.how) = subst (λ (u : World). option_map closed_by (at u.cores core) ≡ Some (Some c.args.how)) (sym view) c.requires.closed in
    let going : is_stopped (sphere_at w c.args.held.sphere).role ≡ false = subst (λ (u : World). is_stopped (sphere_at u c.args.held.sphere).role ≡ false) (sym view) c.requires.going in
    let free : turn_against (sphere_at w c.args.held.sphere) (Actor.Thread c.args.held.thread) ≡ None = subst (λ (u : World). turn_against (sphere_at u c.args.held.sphere) (Actor.Thread c.args.held.thread) ≡ None) (sym view) c.requires.turn in
    let whole : Some false ≡ option_map (λ h. asks_serial h.chunk (sphere_at w c.args.held.sphere).role) (at w.cores core) = subst (λ (u : World). Some false ≡ option_map (λ h. asks_serial h.chunk (sphere_at u c.args.held.sphere).role) (at u.cores core)) (sym view) c.requires.chunk in
    (c.args.how, can_commit w core _ c.args.held c.args.how c.older-chunk.result.now.chunk ready refl held closed c.older-chunk.ensures going free whole)

pub commit_chunk-requires-clause-few : goal.commit_chunk-requires-clause-few
commit_chunk-requires-clause-few g c =
    let view = sym c.self.view_is in
    (subst HasRoom view c.requires.room).few c.args.held.sphere (subst (λ (u : World). c.args.held.sphere < length u.spheres) view c.requires.good.sphere)

pub returns-clause-reply : goal.returns-clause-reply
returns-clause-reply g c =
    let x = c.self.inside in
    let w : World = world_in x.cores x.spheres x.flights x.devices x.counts x.points.items in
    let view : w ≡ c.args.self.now = c.self.view_is in
    let core = c.args.core in
    let how = c.args.how in
    let ch = c.older-chunk.result.now.chunk in
    let p : Sphere = nth_sphere c.args.held.sphere c.commit_chunk.new.self in
    let held : option_map seen (at w.cores core) ≡ Some c.args.held = subst (λ (u : World). option_map seen (at u.cores core) ≡ Some c.args.held) (sym view) c.requires.held in
    let closed : option_map closed_by (at w.cores core) ≡ Some (Some how) = subst (λ (u : World). option_map closed_by (at u.cores core) ≡ Some (Some how)) (sym view) c.requires.closed in
    let shut : ch.closed ≡ Some how = closed_is (at w.cores core) ch how closed c.older-chunk.ensures in
    let came_ : came c.in_ok-moved.moved p x.devices ≡ moved_by w c.args.held how ch = c.in_ok-moved.ensures.ok x.devices how shut in
    let younger = younger_is (at w.cores core) c.args.held held in
    let after = λ (m : Moved) (is : c.in_ok-moved.moved ≡ m).
    held_after (λ (a : EventOutcome). a.reply) (λ h. grant_chunk w core h how) (at w.cores core) _
    (chunk_after w core how (at w.cores core) c.args.held ch (younger_of (at w.cores core)) (writes_in w.numbers.bits (at w.cores core)) (came m p x.devices) held c.older-chunk.ensures younger refl (subst (λ (n : Moved). came n p x.devices ≡ moved_by w c.args.held how ch) is came_))
    in
    subst (λ (u : World). Some c.match-moved.words.2 ≡ option_map (λ h. (grant_chunk u core h how).reply) (at u.cores core)) view
    (elim c.match-moved.branch [
      | in-Granted b ↦ ap (λ (t : Words × CommitKind × Reply). Some t.2) b.words-is ∙ after (moved_as.Granted b.in-Granted.words) b.in-Granted.is
      | in-Piece b ↦ ap (λ (t : Words × CommitKind × Reply). Some t.2) b.words-is ∙ after (moved_as.Piece b.in-Piece.words) b.in-Piece.is
    ])

pub returns-clause-world : goal.returns-clause-world
returns-clause-world g c =
    let x = c.self.inside in
    let w : World = world_in x.cores x.spheres x.flights x.devices x.counts x.points.items in
    let view : w ≡ c.args.self.now = c.self.view_is in
    let core = c.args.core in
    let how = c.args.how in
    let ch = c.older-chunk.result.now.chunk in
    let p : Sphere = nth_sphere c.args.held.sphere c.commit_chunk.new.self in
    let held : option_map seen (at w.cores core) ≡ Some c.args.held = subst (λ (u : World). option_map seen (at u.cores core) ≡ Some c.args.held) (sym view) c.requires.held in
    let closed : option_map closed_by (at w.cores core) ≡ Some (Some how) = subst (λ (u : World). option_map closed_by (at u.cores core) ≡ Some (Some how)) (sym view) c.requires.closed in
    let shut : ch.closed ≡ Some how = closed_is (at w.cores core) ch how closed c.older-chunk.ensures in
    let came_ : came c.in_ok-moved.moved p x.devices ≡ moved_by w c.args.held how ch = c.in_ok-moved.ensures.ok x.devices how shut in
    let younger = younger_is (at w.cores core) c.args.held held in
    let marks = g.G.Sig.marks c.hand_over-writes.result in
    let sent = c.match-moved.words in
    let goes : Option Occupant = promoted w.numbers c.args.held.sphere c.args.held.thread p (younger_of (at w.cores core)) (slice_get p.threads c.args.held.thread) in
    let made : Words × CommitKind × Reply → World =
    λ t. with_grant w core c.args.held p t.0.words marks x.devices (point_in w c.args.held t.1 ch.done.n (is_short w.numbers.s how ch.limit)) goes
    in
    let after = λ (m : Moved) (is : c.in_ok-moved.moved ≡ m).
    held_after left (λ h. grant_chunk w core h how) (at w.cores core) _
    (chunk_after w core how (at w.cores core) c.args.held ch (younger_of (at w.cores core)) marks (came m p x.devices) held c.older-chunk.ensures younger c.hand_over-writes.ensures.given (subst (λ (n : Moved). came n p x.devices ≡ moved_by w c.args.held how ch) is came_))
    in
    let point : c.push_reserved.new.self.items ≡ x.points.items ++ point_in w c.args.held sent.1 ch.done.n (is_short w.numbers.s how ch.limit) ∷ [] = cc in
    let within : core < length x.cores.held = subst (λ (u : World). core < length u.cores) (sym view) c.requires.core in
    let i = c.args.held.sphere in
    let on : World → World = λ u. with_core u core (goes_on u.numbers (sphere_at u i) (at u.cores core)) in
    let done = grant_done x.cores x.spheres x.flights x.devices x.counts x.points.items core c.args.held c.commit_chunk.new.self sent.0.words _ _ _ c.hand_over-writes.new.self within c.hand_over-writes.ensures.core c.in_ok-moved.ensures.others point in
    let code : c.go_on.new.self ≡ made sent =
    c.go_on.ensures ∙ ap on c.fly_from.ensures ∙ done ∙ ap (λ (o : Option Occupant). with_grant w core c.args.held p sent.0.words marks x.devices (point_in w c.args.held sent.1 ch.done.n (is_short w.numbers.s how ch.limit)) o) (goes_as w.numbers p (at w.cores core) c.args.held held)
    in
    subst (λ (u : World). Some c.go_on.new.self ≡ option_map (λ h. left (grant_chunk u core h how)) (at u.cores core)) view
    (ap (λ (u : World). Some u) code
    ∙ elim c.match-moved.branch [
      | in-Granted b ↦ ap (λ (t : Words × CommitKind × Reply). Some (made t)) b.words-is ∙ after (moved_as.Granted b.in-Granted.words) b.in-Granted.is
      | in-Piece b ↦ ap (λ (t : Words × CommitKind × Reply). Some (made t)) b.words-is ∙ after (moved_as.Piece b.in-Piece.words) b.in-Piece.is
    ])

pub returns-in-Diverged-clause-reply : goal.returns-in-Diverged-clause-reply
returns-in-Diverged-clause-reply g c =
    let x = c.self.inside in
    let w : World = world_in x.cores x.spheres x.flights x.devices x.counts x.points.items in
    let view : w ≡ c.args.self.now = c.self.view_is in
    let core = c.args.core in
    let how = c.args.how in
    let ch = c.older-chunk.result.now.chunk in
    let p : Sphere = nth_sphere c.args.held.sphere c.commit_chunk.new.self in
    let v : MovedSphere = came (moved_as.Diverged c.in-Diverged.commits c.in-Diverged.why) p x.devices in
    let held : option_map seen (at w.cores core) ≡ Some c.args.held = subst (λ (u : World). option_map seen (at u.cores core) ≡ Some c.args.held) (sym view) c.requires.held in
    let closed : option_map closed_by (at w.cores core) ≡ Some (Some how) = subst (λ (u : World). option_map closed_by (at u.cores core) ≡ Some (Some how)) (sym view) c.requires.closed in
    let shut : ch.closed ≡ Some how = closed_is (at w.cores core) ch how closed c.older-chunk.ensures in
    let moved : v ≡ moved_by w c.args.held how ch = subst (λ (m : Moved). came m p x.devices ≡ moved_by w c.args.held how ch) c.in-Diverged.is (c.in_ok-moved.ensures.ok x.devices how shut) in
    let younger = younger_is (at w.cores core) c.args.held held in
    let after = chunk_after w core how (at w.cores core) c.args.held ch (younger_of (at w.cores core)) (writes_in w.numbers.bits (at w.cores core)) v held c.older-chunk.ensures younger refl moved in
    subst (λ (u : World). Some (Reply.Diverged c.in-Diverged.commits c.in-Diverged.why) ≡ option_map (λ h. (grant_chunk u core h how).reply) (at u.cores core)) view
    (held_after (λ (a : EventOutcome). a.reply) (λ h. grant_chunk w core h how) (at w.cores core) _ after)

pub returns-in-Diverged-clause-world : goal.returns-in-Diverged-clause-world
returns-in-Diverged-clause-world g c =
    let x = c.self.inside in
    let w : World = world_in x.cores x.spheres x.flights x.devices x.counts x.points.items in
    let view : w ≡ c.args.self.now = c.self.view_is in
    let core = c.args.core in
    let how = c.args.how in
    let ch = c.older-chunk.result.now.chunk in
    let p : Sphere = nth_sphere c.args.held.sphere c.commit_chunk.new.self in
    let v : MovedSphere = came (moved_as.Diverged c.in-Diverged.commits c.in-Diverged.why) p x.devices in
    let held : option_map seen (at w.cores core) ≡ Some c.args.held = subst (λ (u : World). option_map seen (at u.cores core) ≡ Some c.args.held) (sym view) c.requires.held in
    let closed : option_map closed_by (at w.cores core) ≡ Some (Some how) = subst (λ (u : World). option_map closed_by (at u.cores core) ≡ Some (Some how)) (sym view) c.requires.closed in
    let shut : ch.closed ≡ Some how = closed_is (at w.cores core) ch how closed c.older-chunk.ensures in
    let moved : v ≡ moved_by w c.args.held how ch = subst (λ (m : Moved). came m p x.devices ≡ moved_by w c.args.held how ch) c.in-Diverged.is (c.in_ok-moved.ensures.ok x.devices how shut) in
    let younger = younger_is (at w.cores core) c.args.held held in
    let after = chunk_after w core how (at w.cores core) c.args.held ch (younger_of (at w.cores core)) (writes_in w.numbers.bits (at w.cores core)) v held c.older-chunk.ensures younger refl moved in
    let world : world_in x.cores c.commit_chunk.new.self x.flights x.devices x.counts c.reserve.new.self.items ≡ world_in x.cores (with_nth c.args.held.sphere p x.spheres) x.flights x.devices x.counts x.points.items =
    ap (λ (s : Spheres). world_in x.cores s x.flights x.devices x.counts c.reserve.new.self.items) c.in_ok-moved.ensures.others
    ∙ ap (λ (ps : List Point). world_in x.cores (with_nth c.args.held.sphere p x.spheres) x.flights x.devices x.counts ps) c.reserve.ensures.items
    in
    subst (λ (u : World). Some (world_in x.cores c.commit_chunk.new.self x.flights x.devices x.counts c.reserve.new.self.items) ≡ option_map (λ h. left (grant_chunk u core h how)) (at u.cores core)) view
    (ap (λ (u : World). Some u) world ∙ held_after left (λ h. grant_chunk w core h how) (at w.cores core) _ after)
