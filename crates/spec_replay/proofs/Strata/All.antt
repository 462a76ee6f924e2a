-- Every replay in strata follows the play of their log.
use Rattle.std.proofs.Common.{◌≡◌, ℕ, ◌+◌, ◌≤◌, List, [], ◌∷◌, Some, None, refl, sym, ap, ◌∙◌, subst, arith}
use Rattle.std.specs.Prelude.{option_map}
use Rattle.std.proofs.lemmas.Bool.{le-ltb}
use Rattle.std.proofs.lemmas.List.Sums.{sum_by-cons}
use Rattle.dl_entry.specs.declared.Actor.{Actor}
use Rattle.spec_log.specs.declared.LogParts.{LogParts}
use Rattle.spec_play.specs.Progress.{position}
use Rattle.spec_play.specs.Turns.{Turn}
use Rattle.spec_play.specs.Plays.{Played, opened}
use Rattle.spec_play.proofs.Going.{turn-lives}
use Rattle.spec_strata.specs.declared.stratum.Stratum.{Stratum}
use Rattle.spec_strata.specs.declared.stratum.Stratum.TheVariants.{Chunks, Serial, Dma}
use Rattle.spec_strata.specs.declared.strata.StrataParts.{StrataParts}
use Rattle.spec_strata.specs.Strata.{HaveSome, commits_in, commits_in_all}
use Rattle.spec_strata.specs.Canonical.{canonical}
use Rattle.spec_strata.specs.InPlay.{IsLooked}
use Rattle.spec_strata.specs.Orders.{TurnsAre}
use Rattle.spec_strata.specs.OnImages.{GoesThrough}
use Rattle.spec_strata.proofs.Images.Following.{over-is}
use Rattle.spec_strata.specs.Standing.{Standing, stratum_begun}
use Rattle.spec_strata.proofs.Shares.Steps.{same_some}
use Rattle.spec_strata.proofs.Images.Going.{parallel_strata_go}
use Rattle.spec_protocol.specs.declared.event.Event.{Event}
use Rattle.spec_sphere.specs.sphere.Spheres.{Cursor, Sphere}
use Rattle.spec_sphere.specs.sphere.Commits.{between, now_by}
use Rattle.spec_sphere.specs.sphere.Setups.{first_played, replay_at, ReplaySetup, in_strata, RoleSetup, IsReplayed, SphereSetup, sphere_as, sphere_of}
use Rattle.spec_protocol.specs.machine.Machine.{Setup}
use Rattle.spec_sphere.specs.promises.Sound.{AreReplayable}
use Rattle.spec_replay.specs.Promises.{IsReplay, StrataAreFollowed}
use Rattle.spec_replay.proofs.Replays.Keeping.{after-stands}
use Rattle.spec_strata.proofs.Standing.Counts.{begins}
use Rattle.spec_replay.proofs.Strata.Heads.{now_if, turn-by, dma-by}
use Rattle.spec_replay.proofs.Strata.Coming.{NextIs, opened_by, begins-at}
use Rattle.spec_replay.proofs.Strata.Going.{ComesTo, comes-whole, follows-in}
use Rattle.spec_replay.proofs.Strata.Moved.{strata-keep}

-- ---- the strata

-- what a setup asks of strata
pub record AreAsked (v : StrataParts) (image : SphereSetup) : Type 0 where
  pub some : HaveSome v.strata
  pub goes : GoesThrough (canonical v) (opened_by v image) v.strata

-- strata that can be replayed on an image aren't empty, and the play goes through them
pub are-asked : (v : StrataParts) (image : SphereSetup) → AreReplayable image.memory image.entry (in_strata v) → AreAsked v image
are-asked v image a =
    let w : StrataParts = a.strata in
    let log : canonical w ≡ canonical v = sym (ap (λ (r : ReplaySetup). r.log) a.asks) in
    let strata : w.strata ≡ v.strata = same_some w.strata v.strata (sym (ap (λ (r : ReplaySetup). r.strata) a.asks)) in
    record {
      some = subst HaveSome strata a.some;
      goes = (let g = parallel_strata_go w image.memory image.entry a.parallel in
          subst (λ (xs : List Stratum). GoesThrough (canonical v) (opened_by v image) xs) strata
          (subst (λ (l : LogParts). GoesThrough l (opened l image.memory image.entry) w.strata) log g));
    }

-- ---- whose turn it is

abbrev Position : Played → ℕ
Position y = position y.progress

-- with all commits done the end is the log's
pub over-now : (log : LogParts) (x : Standing) (y : Played) → IsLooked log y → log.count ≤ Position y → y.now ≡ now_by (Some x) log y.progress y.used y.threads
over-now log x y looked full =
    looked ∙ over-is log y.progress y.used y.threads full
    ∙ sym (ap (now_if log x y.progress y.used y.threads) (le-ltb (Position y) log.count full))

-- where the first stratum that is left begins, the turn is the log's
begins-now : (log : LogParts) (y : Played) (xs : List Stratum) (n : ℕ) → HaveSome xs → IsLooked log y → GoesThrough log y xs → Position y ≡ n → n + commits_in_all xs ≡ log.count
    → y.now ≡ now_by (Some (stratum_begun xs n)) log y.progress y.used y.threads
begins-now log y [] n some looked goes at_ count = over-now log (stratum_begun [] n) y looked (let z : commits_in_all [] ≡ 0 = refl in omega (arith, at_, count, z))
begins-now log y (Chunks counts ∷ xs) n some looked goes at_ count =
    let b = begins 0 counts some.0 in
    let turn : y.now ≡ Turn b.first = (subst (TurnsAre log y) b.order goes.1.1).0 in
    let sums = sum_by-cons commits_in (Chunks counts) xs in
    let few = some.0 in
    turn ∙ sym (turn-by log (stratum_begun (Chunks counts ∷ xs) n) y.progress y.used y.threads b.first (omega (arith, at_, count, sums, few)) (ap (option_map Actor.Thread) b.least)
    (turn-lives log y.progress y.used y.threads b.first (sym looked ∙ turn)))
begins-now log y (Serial k ∷ xs) n some looked goes at_ count =
    let turn : y.now ≡ Turn k = goes.1.turn in
    let sums = sum_by-cons commits_in (Serial k) xs in
    turn ∙ sym (turn-by log (stratum_begun (Serial k ∷ xs) n) y.progress y.used y.threads k (omega (arith, at_, count, sums)) refl
    (turn-lives log y.progress y.used y.threads k (sym looked ∙ turn)))
begins-now log y (Dma ∷ xs) n some looked goes at_ count =
    let sums = sum_by-cons commits_in Dma xs in
    goes.1.0 ∙ sym (dma-by log (stratum_begun (Dma ∷ xs) n) y.progress y.used y.threads (omega (arith, at_, count, sums)) refl)

-- ---- the start

start-comes : (v : StrataParts) (image : SphereSetup) (z : ℕ) → AreAsked v image → image.role ≡ IsReplayed (in_strata v) → ComesTo v image (sphere_of z image)
start-comes v image z a role =
    let log : LogParts = canonical v in
    let y : Played = opened_by v image in
    let x : Standing = stratum_begun v.strata 0 in
    let start : Played = first_played image (in_strata v) in
    let p : Sphere = replay_at (in_strata v) start in
    let b : Cursor = between log None (Some x) (position start.progress) start.used start.now in
    let n : NextIs v image x y = begins-at v image [] v.strata 0 y refl refl a.some refl refl refl a.goes in
    let all : 0 + commits_in_all v.strata ≡ log.count = omega arith in
    subst (λ (r : RoleSetup). ComesTo v image (sphere_as z image r)) (sym role)
    (comes-whole v image x y p b n refl refl refl refl refl refl (begins-now log y v.strata 0 a.some refl a.goes refl all)
    (record { memory = refl; threads = refl; total = refl; loads = refl }))

-- ---- the promise

-- after every schedule a sphere that is replayed in strata has come as far as they say
pub strata_reach : (image : SphereSetup) (v : StrataParts) (s : Setup) (es : List Event) (i : ℕ) (p : Sphere) → IsReplay image (in_strata v) s es i p → ComesTo v image p
strata_reach image v s es i p r =
    after-stands (ComesTo v image) image s es i p r.setup r.there (strata-keep v image r.standard s.numbers r.setup.buffer)
    (start-comes v image s.numbers.s (are-asked v image r.strata) r.replays) r.shown

-- after every schedule a sphere replayed in strata has come as far as its cursor says
pub strata_follow : StrataAreFollowed
strata_follow image v s es i p r = follows-in v image p (strata_reach image v s es i p r)
