-- A replay is as far as its sphere, and the limits of its chunks and its requests are within their bounds.
use Rattle.std.proofs.Common.{◌≡◌, ℕ, Bool, true, false, ◌+◌, ◌^◌, ◌<◌, ◌≤◌, length, Option, Some, None, inl, inr, refl, sym, ap, ◌∙◌, subst, arith, set}
use Rattle.std.specs.Prelude.{slice_get}
use Rattle.std.proofs.lemmas.Bool.{true≢false}
use Rattle.dl_entry.specs.declared.Request.{Request}
use Rattle.spec_isa.specs.declared.thread.Parts.{Parts}
use Rattle.spec_log.specs.Log.{IsLog}
use Rattle.spec_play.specs.Progress.{position}
use Rattle.spec_play.specs.declared.used.Used.{Used}
use Rattle.spec_sphere.specs.promises.Sound.{IsSoundIf, commits_in, commits_if}
use Rattle.spec_sphere.specs.sphere.Spheres.{replays}
use Rattle.spec_sphere.specs.sphere.Spheres.{Cursor, Replay as IsReplay, Sphere, is_over, limit_in, pieces_of, whole_limit}
use Rattle.spec_sphere.proofs.Moves.Joining.{MayGo, its_turn, own_pieces}
use Rattle.spec_sphere.proofs.Sound.Commits.{set-all}
use Rattle.spec_sphere.proofs.Sound.Limits.{whole-most}
use Rattle.dl_kernel.specs.declared.past.Past.{Past}
use Rattle.dl_kernel.specs.States.{PlayState as State}
use Rattle.dl_kernel.specs.InOrder.{listed}
use Rattle.dl_replay.specs.Following.{Following}
use Rattle.dl_replay.specs.Limits.{chunk_limit_in}
use Rattle.dl_replay.specs.Replays.{IsReplaying}
use Rattle.dl_sphere.specs.Inside.{sphere_in, IsAt}
use Rattle.dl_sphere.specs.Moving.{MayCommit}
use Rattle.dl_sphere.specs.Pasts.{sphere_at}
use Rattle.dl_sphere.specs.Roles.{role_of, keeping_of, Keeping, Plain, Recording, Replaying as Replays, HasFew, IsKeepingOf, IsLive, IsLiveOf, IsSphere}
use Rattle.dl_sphere.specs.SizedSpheres.{SizedSphere}
use Rattle.dl_sphere.specs.declared.part.Part.{Part}
use Rattle.dl_sphere.specs.declared.part.Replayed.{Replayed}
use Rattle.dl_sphere.specs.declared.sphere.Sphere.TheInside.{Inside}

-- ---- replayed spheres

-- a replayed sphere that stands is as far in its log as its player
pub replayed : (a : Inside) (r : Replayed) → a.part ≡ Part.Replayed r → IsSphere a.s a.past (keeping_of a.part) → IsAt a.past r
replayed a r is h =
    let kept = subst (λ (part : Part). IsKeepingOf a.s a.past (keeping_of part)) is h.kept in
    record { replaying = kept.0; counted = h.counted; listed = kept.1 }

-- and the other way round
pub stands_replayed : (s : ℕ) (before after : Past) (x : Keeping) (r : Replayed) → IsSphere s before x → IsAt after r → IsSphere s after (Replays r.player r.loads.items)
stands_replayed s before after x r h at = record { size = h.size; counted = at.counted; request = at.replaying.request; kept = (at.replaying, at.listed) }

-- a piece of a commit leaves the number of its thread's commits
pub moved_on : (r : Following) (s : State) (k : ℕ) (t u : Parts) → slice_get s.threads k ≡ Some t → u.commits ≡ t.commits → IsReplaying r s → IsReplaying r (record s { threads = set s.threads k u })
moved_on r s k t u there same h =
    let few : u.commits ≤ s.commits = (let f = h.bounded.threads k t there in omega (arith, f, same)) in
    record {
      is_log = h.is_log;
      bounded =
          record {
            commits = h.bounded.commits;
            threads = set-all (λ (x : Parts). x.commits ≤ s.commits) s.threads k u few h.bounded.threads;
            interrupts = h.bounded.interrupts;
          };
      left = h.left;
      request = h.request;
      strata = h.strata;
    }

commits-within : (r : Following) (s : State) (k : ℕ) (o : Option Parts) → slice_get s.threads k ≡ o → IsReplaying r s → commits_if o ≤ r.log.count
commits-within r s k None is h = omega arith
commits-within r s k (Some t) is h = let f = h.bounded.threads k t is in let n = h.bounded.commits in omega (arith, f, n)

-- no thread of a replay has more commits than its log
pub commits_within : (r : Following) (s : State) (k : ℕ) → IsReplaying r s → commits_in s.threads k ≤ r.log.count
commits_within r s k h = commits-within r s k (slice_get s.threads k) refl h

-- a thread that may commit goes on
may_be : (b : Cursor) (k : ℕ) → MayCommit b k → MayGo b k
may_be b k may = elim may [
  | inl turn ↦ its_turn b k turn
  | inr joins ↦ record { going = joins.going; turn = inr joins.joins }
]

-- a replay in which some thread may commit isn't over
pub may_going : (b : Cursor) (k : ℕ) → MayCommit b k → is_over b.now ≡ false
may_going b k may = (may_be b k may).going

-- a part and those before it are no more than a standard chunk
pub part_fits : (b : Cursor) (k n : ℕ) (t : Parts) → IsLog b.log → MayCommit b k → b.total < whole_limit b.log k t.commits → n ≤ limit_in (IsReplay b) 0 k t.commits → b.total + n ≤ b.log.s
part_fits b k n t is may room within =
    let a = whole-most b.log k t.commits is in
    let own : pieces_of b.now k b.total ≡ b.total = own_pieces b k (may_be b k may) in
    omega (arith, a, own, room, within)

-- the limit of a replay's chunk is at least 1
pub replay_least : (after : Bool) (s : ℕ) (b : Cursor) (k n : ℕ) → 1 ≤ chunk_limit_in after (IsReplay b) s k n
replay_least false s b k n = omega arith
replay_least true s b k n = omega arith

-- ---- live spheres

-- a part that isn't a replayed one is live
pub live_part : (part : Part) → ((r : Replayed) → part ≡ Part.Replayed r → ⊥) → IsLive (keeping_of part)
live_part Part.Plain other = tt
live_part (Part.Recorded r) other = tt
live_part (Part.Replayed r) other = other r refl

-- a role that isn't replayed is kept by a live part
pub live_role : (u : Used) (x : Keeping) → replays (role_of u x) ≡ false → IsLive x
live_role u Plain other = tt
live_role u (Recording r) other = tt
live_role u (Replays r loads) other = absurd (true≢false other)

role_live : (u : Used) (x : Keeping) → IsLive x → replays (role_of u x) ≡ false
role_live u Plain live = refl
role_live u (Recording r) live = refl
role_live u (Replays r loads) live = absurd live

kept-alone : (s : ℕ) (past : Past) (x : Keeping) → IsLive x → IsKeepingOf s past x → IsLiveOf s (sphere_at past (role_of past.state.used x)) x
kept-alone s past Plain live h = h
kept-alone s past (Recording r) live h = h
kept-alone s past (Replays r loads) live h = absurd live

-- what a live part keeps stands with its sphere
pub alone : (a : Inside) → IsLive (keeping_of a.part) → IsSphere a.s a.past (keeping_of a.part) → IsLiveOf a.s (sphere_in a) (keeping_of a.part)
alone a live h = kept-alone a.s a.past (keeping_of a.part) live h.kept

-- and the other way round
pub kept_live : (s : ℕ) (past : Past) (x : Keeping) → IsLiveOf s (sphere_at past (role_of past.state.used x)) x → IsKeepingOf s past x
kept_live s past Plain h = h
kept_live s past (Recording r) h = h
kept_live s past (Replays r loads) h = absurd h

-- no thread of a sphere that isn't replayed has more commits than the sphere
pub few_live : (s : ℕ) (p : Sphere) (x : Keeping) → IsLiveOf s p x → HasFew p
few_live s p Plain h = h
few_live s p (Recording r) h = h.few
few_live s p (Replays r loads) h = absurd h

-- a live sphere has fewer commits than a log may have, where its caller says so
pub few_here : (a : Inside) (v : SizedSphere) → sphere_in a ≡ v.sphere → IsLive (keeping_of a.part) → (replays v.sphere.role ≡ false → position v.sphere.progress < 2 ^ 24) → a.past.first + length (listed a.past.commits) < 2 ^ 24
few_here a v is live few =
    subst (λ (p : Sphere). position p.progress < 2 ^ 24) (sym is)
    (few (sym (ap (λ (p : Sphere). replays p.role) is) ∙ role_live a.past.state.used (keeping_of a.part) live))

-- ---- any sphere

-- a request inside a memory is inside the largest
pub sound-within : (size most : ℕ) (o : Option Request) → size ≤ most → IsSoundIf size o → IsSoundIf most o
sound-within size most None l h = tt
sound-within size most (Some r) l h =
    let i = h.inside in
    record { aligned = h.aligned; inside = omega (arith, l, i); few = h.few }
