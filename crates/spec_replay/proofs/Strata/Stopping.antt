-- A replay that has stopped, in strata or not, has done the whole play of what it was asked for.
use Rattle.std.proofs.Common.{◌≡◌, ℕ, ◌+◌, ◌<◌, ◌⊎◌, inl, inr, true, false, List, [], ◌∷◌, Option, Some, None, refl, sym, ap, ◌∙◌, subst, arith}
use Rattle.std.specs.Prelude.{option_map}
use Rattle.std.proofs.lemmas.Bool.{true≢false}
use Rattle.std.proofs.lemmas.List.Sums.{sum_by-append, sum_by-cons}
use Rattle.dl_entry.specs.declared.Actor.{Actor}
use Rattle.spec_log.specs.declared.LogParts.{LogParts}
use Rattle.spec_play.specs.Progress.{position}
use Rattle.spec_play.specs.Turns.{TurnOrEnd}
use Rattle.spec_play.specs.Plays.{Played, plays}
use Rattle.spec_play.proofs.Going.{plays-first, turn-lives}
use Rattle.spec_strata.specs.declared.stratum.Stratum.{Stratum}
use Rattle.spec_strata.specs.declared.stratum.Stratum.TheVariants.{Chunks, Serial, Dma}
use Rattle.spec_strata.specs.declared.strata.StrataParts.{StrataParts}
use Rattle.spec_strata.specs.Strata.{commits_in, commits_in_all}
use Rattle.spec_strata.specs.Canonical.{canonical}
use Rattle.spec_strata.specs.Standing.{Standing}
use Rattle.spec_protocol.specs.declared.event.Event.{Event}
use Rattle.spec_sphere.specs.sphere.Spheres.{Cursor, Replay, Sphere, is_over}
use Rattle.spec_sphere.specs.sphere.Commits.{now_by}
use Rattle.spec_sphere.specs.sphere.Setups.{last_played, ReplaySetup, in_strata, SphereSetup}
use Rattle.spec_protocol.specs.machine.Machine.{Setup}
use Rattle.spec_sphere.specs.promises.Sound.{AreReplayableIf}
use Rattle.spec_replay.specs.Following.{IsWhole}
use Rattle.spec_replay.specs.InStrata.{stratum_from, stratum_at}
use Rattle.spec_replay.specs.Promises.{IsReplay, IsPlayed, StoppedArePlayed}
use Rattle.spec_replay.proofs.Replays.Stopping.{stopped_in_order}
use Rattle.spec_strata.proofs.Standing.Counts.{count_at, least-there}
use Rattle.spec_replay.proofs.Strata.Heads.{turn-by, dma-by}
use Rattle.spec_replay.proofs.Strata.Coming.{Comes, opened_by, none-in, only-done, length-in}
use Rattle.spec_replay.proofs.Strata.Chunks.{thread-lives}
use Rattle.spec_replay.proofs.Strata.Going.{IsThere, ComesTo}
use Rattle.spec_replay.proofs.Strata.Moved.{at_standing, Where}
use Rattle.spec_replay.proofs.Strata.All.{over-now, strata_reach}

-- ---- how many commits are done

-- those before the present stratum and those from it on are all
pub count-is : (v : StrataParts) (image : SphereSetup) (x : Standing) → Comes v image x → x.before + commits_in_all x.strata ≡ (canonical v).count
count-is v image x c =
    let a = ap commits_in_all c.strata in
    let b = sum_by-append commits_in c.past x.strata in
    let d = c.before in omega (arith, a, b, d)

-- the play has done those before the stratum
pub position-from : (v : StrataParts) (image : SphereSetup) (x : Standing) → Comes v image x → position (stratum_from v image x).progress ≡ x.before
position-from v image x c =
    let first : (stratum_from v image x).progress.first ≡ 0 = plays-first (canonical v) (opened_by v image) x.before in
    let n = c.commits in omega (arith, first, n)

-- ---- while strata are left it goes on

-- whose turn it is with that standing
abbrev pub now_in_strata : StrataParts → SphereSetup → Standing → TurnOrEnd
now_in_strata v image x = let y = stratum_at v image x in now_by (Some x) (canonical v) y.progress y.used y.threads

-- with nothing done of the present stratum it is the turn that the stratum begins with
pub now-at-start : (v : StrataParts) (image : SphereSetup) (x : Standing) → Comes v image x → x.done ≡ [] → now_in_strata v image x ≡ (let y = stratum_from v image x in now_by (Some x) (canonical v) y.progress y.used y.threads)
now-at-start v image x c none =
    ap (λ (y : Played). now_by (Some x) (canonical v) y.progress y.used y.threads)
    (none-in (canonical v) (stratum_from v image x) x.done c.looked (λ j. ap (λ (ds : List ℕ). count_at ds j) none))

-- while strata are left, the replay of them isn't over
pub goes-on : (v : StrataParts) (image : SphereSetup) (st : List Stratum) (ds : List ℕ) (n : ℕ) → 0 < v.s → Comes v image (at_standing st ds n) → (st ≡ []) ⊎ (is_over (now_in_strata v image (at_standing st ds n)) ≡ false)
goes-on v image [] ds n s c = inl refl
goes-on v image (Chunks counts ∷ xs) ds n s c =
    let log : LogParts = canonical v in
    let x : Standing = at_standing (Chunks counts ∷ xs) ds n in
    let y : Played = stratum_at v image x in
    let r = least-there 0 counts ds c.open_.0 c.open_.1 in
    let k : ℕ = r.0 in
    let is = r.1.is in
    let place : r.1.place ≡ k = omega (arith, is) in
    let left : count_at ds k < count_at counts k = subst (λ (i : ℕ). count_at ds i < count_at counts i) place r.1.left in
    let from = position-from v image x c in
    let size = length-in log (stratum_from v image x) ds (only-done v image counts xs ds n s c k left) in
    let count = count-is v image x c in
    let sums = sum_by-cons commits_in (Chunks counts) xs in
    let less = c.open_.1 in
    inr (ap is_over (turn-by log x y.progress y.used y.threads k (omega (arith, from, size, count, sums, less)) (ap (option_map Actor.Thread) r.1.there) (thread-lives v image counts xs ds n s c k left)))
goes-on v image (Serial k ∷ xs) ds n s c =
    let log : LogParts = canonical v in
    let x : Standing = at_standing (Serial k ∷ xs) ds n in
    let y : Played = stratum_from v image x in
    let from = position-from v image x c in
    let count = count-is v image x c in
    let sums = sum_by-cons commits_in (Serial k) xs in
    inr (ap is_over (now-at-start v image x c c.open_
    ∙ turn-by log x y.progress y.used y.threads k (omega (arith, from, count, sums)) refl (turn-lives log y.progress y.used y.threads k (sym c.looked ∙ c.goes.1.turn))))
goes-on v image (Dma ∷ xs) ds n s c =
    let log : LogParts = canonical v in
    let x : Standing = at_standing (Dma ∷ xs) ds n in
    let y : Played = stratum_from v image x in
    let from = position-from v image x c in
    let count = count-is v image x c in
    let sums = sum_by-cons commits_in Dma xs in
    inr (ap is_over (now-at-start v image x c c.open_ ∙ dma-by log x y.progress y.used y.threads (omega (arith, from, count, sums)) refl))

-- ---- once none are left

-- the standing is the play's end
record AtEnd (v : StrataParts) (image : SphereSetup) (x : Standing) : Type 0 where
  same : stratum_at v image x ≡ last_played image (in_strata v)
  now : now_in_strata v image x ≡ (last_played image (in_strata v)).now

at-end : (v : StrataParts) (image : SphereSetup) (st : List Stratum) (ds : List ℕ) (n : ℕ) → Comes v image (at_standing st ds n) → st ≡ [] → AtEnd v image (at_standing st ds n)
at-end v image (t ∷ ts) ds n c e = cc
at-end v image [] ds n c e =
    let log : LogParts = canonical v in
    let x : Standing = at_standing [] ds n in
    let y : Played = stratum_from v image x in
    let none : commits_in_all [] ≡ 0 = refl in
    let from = position-from v image x c in
    let count = count-is v image x c in
    let all : n ≡ log.count = omega (arith, count, none) in
    let last : y ≡ last_played image (in_strata v) = ap (plays log (opened_by v image)) all in
    record {
      same = none-in log y ds c.looked (λ j. ap (λ (es : List ℕ). count_at es j) c.open_) ∙ last;
      now = now-at-start v image x c c.open_ ∙ sym (over-now log x y c.looked (omega (arith, from, all))) ∙ ap (λ (z : Played). z.now) last;
    }

-- a replay that has stopped, of which no piece is done
whole-played : (v : StrataParts) (image : SphereSetup) (st : List Stratum) (ds : List ℕ) (n : ℕ) (p : Sphere) (b : Cursor) → 0 < v.s → Comes v image (at_standing st ds n) → Where v image st ds n p b → IsWhole (stratum_at v image (at_standing st ds n)) p b
    → is_over b.now ≡ true → IsPlayed (in_strata v) (last_played image (in_strata v)) p b
whole-played v image st ds n p b s c a w stopped =
    elim (goes-on v image st ds n s c) [
      | inr going ↦ absurd (true≢false (sym stopped ∙ ap is_over (a.now w.total) ∙ going))
      | inl none ↦ (
          let e : AtEnd v image (at_standing st ds n) = at-end v image st ds n c none in
          record {
            progress = a.progress ∙ ap (λ (z : Played). z.progress) e.same;
            now = a.now w.total ∙ e.now;
            memory = λ how is between. w.memory ∙ ap (λ (z : Played). z.memory) e.same;
            threads = λ how is between. w.threads ∙ ap (λ (z : Played). z.threads) e.same;
          }
          )
    ]

-- replay roles that are the same have the same cursor
pub same_cursor : (b c : Cursor) → Replay b ≡ Replay c → b ≡ c
same_cursor b c e = cc

stopped_in_strata : (image : SphereSetup) (v : StrataParts) (s : Setup) (es : List Event) (i : ℕ) (p : Sphere) (b : Cursor) → IsReplay image (in_strata v) s es i p → p.role ≡ Replay b → is_over b.now ≡ true → IsPlayed (in_strata v) (last_played image (in_strata v)) p b
stopped_in_strata image v s es i p b r role stopped =
    let c : ComesTo v image p = strata_reach image v s es i p r in
    let x : Standing = c.standing in
    let same : c.cursor ≡ b = same_cursor c.cursor b (sym c.is.role ∙ role) in
    let a : IsThere (canonical v) (stratum_at v image x) x p b = subst (IsThere (canonical v) (stratum_at v image x) x p) same c.is in
    elim a.state [
      | inl w ↦ whole-played v image x.strata x.done x.before p b r.standard c.comes a w stopped
      | inr h ↦ absurd (true≢false (sym stopped ∙ ap is_over h.1.turn))
    ]

-- ---- the promise

stopped_by : (image : SphereSetup) (asked : ReplaySetup) (s : Setup) (es : List Event) (i : ℕ) (p : Sphere) (b : Cursor) (o : Option (List Stratum)) → asked.strata ≡ o → AreReplayableIf image.memory image.entry asked o → IsReplay image asked s es i p → p.role ≡ Replay b → is_over b.now ≡ true
    → IsPlayed asked (last_played image asked) p b
stopped_by image asked s es i p b None e are x role stopped = stopped_in_order image asked s es i p b x e role stopped
stopped_by image asked s es i p b (Some strata) e are x role stopped =
    subst (λ (r : ReplaySetup). IsReplay image r s es i p → IsPlayed r (last_played image r) p b) (sym are.asks)
    (λ y. stopped_in_strata image are.strata s es i p b y role stopped) x

-- a replay that has stopped has done the whole play
pub stopped_played : StoppedArePlayed
stopped_played image asked s es i p b x role stopped = stopped_by image asked s es i p b asked.strata refl x.strata x role stopped
