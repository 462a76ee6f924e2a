-- Tasks that agree on a sphere write the same account of it.
use Rattle.std.proofs.Common.{◌≡◌, ℕ, min, Option, Some, None, Result, Ok, Err, refl, sym, ap, ◌∙◌, arith}
use Rattle.dl_elf.specs.Images.{Image}
use Rattle.dl_elf.specs.Loading.{image_of}
use Rattle.std.specs.Prelude.{option_map}
use Rattle.dl_plan.specs.Values.{EpochValues}
use Rattle.dl_words.specs.Commands.{IntervalValues}
use Rattle.spec_interval.specs.Slices.{Slice, slice}
use Rattle.spec_interval.proofs.Counting.{slices_stop_at_count}
use Rattle.spec_log.specs.declared.LogParts.{LogParts}
use Rattle.spec_log.specs.declared.fault.Fault.{Fault}
use Rattle.spec_protocol.specs.machine.Logged.{sphere_in}
use Rattle.spec_sphere.specs.sphere.Setups.{RecordSetup, ReplaySetup, RoleSetup, IsRecorded, IsReplayed, SphereSetup, in_strata}
use Rattle.dl_account.specs.Account.{account_of}
use Rattle.spec_play.specs.declared.interval.Interval.{Interval}
use Rattle.spec_play.specs.Intervals.{interval_of, within}
use Rattle.spec_play.specs.Walks.{Walked}
use Rattle.spec_run.specs.Runs.{executed}
use Rattle.spec_run.specs.Tails.{tail_of_points}
use Rattle.spec_run.specs.Texts.{account_as, account_text, log_as, log_of_points, log_text, recorded_account, recorded_bytes}
use Rattle.spec_run.proofs.Described.{recordings_reproduced}
use Rattle.spec_run.proofs.Slices.{intervals_sliced}
use Rattle.spec_run.proofs.Tails.{tails_are_played}
use Rattle.spec_strata.specs.declared.strata.StrataParts.{StrataParts}
use Rattle.spec_strata.specs.Checking.{StrataAnswer, Parallel, Unfit, Conflict, answer_of}
use Rattle.spec_program.specs.Agreement.{AreEnds, IsReplay, AccountsAgree, IntervalsAreTold, RecordingsAreReplayed, TailsAreWalked, walk_end}
use Rattle.spec_tail.specs.Tails.{Tail}
use Rattle.spec_program.specs.Built.{bad_log, epoch_setup, record_setup, replay_setup, role_in_strata, role_of}
use Rattle.spec_program.specs.Files.{ReplayInputs, whole, RoleRead, PlainRead, RecordRead, ReplayRead, StrataRead, SphereRead}
use Rattle.spec_program.specs.Stages.{refusing, ◌>>◌}
use Rattle.spec_program.specs.Tasks.{setup_in}
use Rattle.spec_program.proofs.Able.{task_can_finish}
use Rattle.spec_program.proofs.Made.{IsMade, sphere_of_task}

same_Ok : {A E : Type 0} (a b : A) → ◌≡◌ {A = Result A E} (Ok a) (Ok b) → a ≡ b
same_Ok a b e = cc

-- ---- what is made of the same is the same

same_image : (s r : SphereRead) (x y : SphereSetup) → s.image ≡ r.image → s.memory ≡ r.memory → (a : IsMade s x) → (b : IsMade r y) → a.image ≡ b.image
same_image s r x y file size a b = same_Ok a.image b.image (sym a.loaded ∙ (λ k. image_of (file k) (size k)) ∙ b.loaded)

-- the role that replays a log
abbrev replays_log : ReplayInputs → LogParts → RoleSetup
replays_log inputs log = IsReplayed (replay_setup inputs log)

replayed_by : (i : ℕ) (inputs : ReplayInputs) (o : Result LogParts Fault) (r : RoleSetup) → (refusing (bad_log i) o >> λ log. Ok (replays_log inputs log)) ≡ Ok r → (parts : LogParts) × (o ≡ Ok parts) × (r ≡ replays_log inputs parts)
replayed_by i inputs (Err fault) r e = absurd cc
replayed_by i inputs (Ok parts) r e = (parts, refl, sym (same_Ok (replays_log inputs parts) r e))

-- what is replayed
replayed : (inputs : ReplayInputs) (s : SphereRead) (x : SphereSetup) → s.role ≡ ReplayRead inputs → IsMade s x → (parts : LogParts) × (inputs.log ≡ Ok parts) × (x.role ≡ replays_log inputs parts)
replayed inputs s x role made = replayed_by 0 inputs inputs.log x.role (ap (role_of 0 made.image) (sym role) ∙ made.role)

parallel_by : (i : ℕ) (v : StrataParts) (answer : StrataAnswer) (r : RoleSetup) → role_in_strata i v answer ≡ Ok r → r ≡ IsReplayed (in_strata v)
parallel_by i v Parallel r e = sym (same_Ok (IsReplayed (in_strata v)) r e)
parallel_by i v (Conflict commit) r e = absurd cc
parallel_by i v (Unfit commit) r e = absurd cc

strata_by : (i : ℕ) (image : Image) (o : Result StrataParts Fault) (r : RoleSetup) → role_of i image (StrataRead o) ≡ Ok r → (asked : ReplaySetup) × (r ≡ IsReplayed asked)
strata_by i image (Err fault) r e = absurd cc
strata_by i image (Ok v) r e = (in_strata v, parallel_by i v (answer_of v image.bytes image.entry) r e)

-- a log or strata
is_replay : (image : Image) (role : RoleRead) (r : RoleSetup) → IsReplay role → role_of 0 image role ≡ Ok r → (asked : ReplaySetup) × (r ≡ IsReplayed asked)
is_replay image PlainRead r is e = absurd is
is_replay image (RecordRead inputs) r is e = absurd is
is_replay image (ReplayRead inputs) r is e = let p = replayed_by 0 inputs inputs.log r e in (replay_setup inputs p.0, p.2)
is_replay image (StrataRead read) r is e = strata_by 0 image read r e

-- ---- accounts

-- two tasks that replay a sphere of the same image and memory size by the same log or strata write equal accounts of it
pub accounts_agree : AccountsAgree
unfolding account_text
accounts_agree plan other m n t u i j s is is_too replay at there =
    let a = sphere_of_task plan m t i s is at in
    let b = sphere_of_task other n u j s is_too there in
    let image = same_image s s a.setup b.setup refl refl a.made b.made in
    let p = is_replay a.made.image s.role a.setup.role replay a.made.role in
    let roles : a.setup.role ≡ b.setup.role = same_Ok a.setup.role b.setup.role (sym a.made.role ∙ ap (λ (x : Image). role_of 0 x s.role) image ∙ b.made.role) in
    let setup : a.setup ≡ b.setup = (λ k. record { memory = (a.made.memory ∙ ap (λ (x : Image). x.bytes) image ∙ sym b.made.memory) k; entry = (a.made.entry ∙ ap (λ (x : Image). x.entry) image ∙ sym b.made.entry) k; role = roles k }) in
    let x = sphere_in (executed (setup_in t) t.events) i in
    let y = sphere_in (executed (setup_in u) u.events) j in
    ap (λ (d : SphereSetup). account_as d x d.role) a.at
    ∙ ap (account_as a.setup x) p.1
    ∙ ap (λ (d : SphereSetup). account_as d y (IsReplayed p.0)) setup
    ∙ ap (account_as b.setup y) (sym p.1 ∙ roles)
    ∙ ap (λ (d : SphereSetup). account_as d y d.role) (sym b.at)

-- where one task records a sphere and another replays what it recorded, both write the same account
pub recordings_replayed : RecordingsAreReplayed
unfolding account_text
recordings_replayed plan other m n t u i j s inputs is is_too role whole_log at there =
    let asked : RecordSetup = record_setup inputs in
    let noted_log = log_of_points (setup_in t) t.events i asked in
    let replay : ReplayInputs = whole noted_log in
    let r : SphereRead = record s { role = ReplayRead replay } in
    let a = sphere_of_task plan m t i s is at in
    let b = sphere_of_task other n u j r is_too there in
    let image = same_image s r a.setup b.setup refl refl a.made b.made in
    let recorded : a.setup.role ≡ IsRecorded asked = sym (same_Ok (IsRecorded asked) a.setup.role (ap (role_of 0 a.made.image) (sym role) ∙ a.made.role)) in
    let q = replayed replay r b.setup refl b.made in
    let parts : q.0 ≡ noted_log = same_Ok q.0 noted_log (sym q.1) in
    let x = sphere_in (executed (setup_in t) t.events) i in
    let y = sphere_in (executed (setup_in u) u.events) j in
    let plays : account_as a.setup y (replays_log replay noted_log) ≡ account_as b.setup y (replays_log replay noted_log) =
    (λ k. account_as (record { memory = (a.made.memory ∙ ap (λ (d : Image). d.bytes) image ∙ sym b.made.memory) k; entry = (a.made.entry ∙ ap (λ (d : Image). d.entry) image ∙ sym b.made.entry) k; role = replays_log replay noted_log }) y (replays_log replay noted_log))
    in
    ap (λ (d : SphereSetup). account_as d x d.role) a.at
    ∙ ap (account_as a.setup x) recorded
    ∙ ap (λ (o : Option EpochValues). recorded_account x (option_map epoch_setup o)) whole_log
    ∙ sym (recordings_reproduced (setup_in t) t.events i a.setup asked (task_can_finish plan m t is) a.there recorded).account
    ∙ plays
    ∙ ap (account_as b.setup y) (ap (replays_log replay) (sym parts) ∙ sym q.2)
    ∙ ap (λ (d : SphereSetup). account_as d y d.role) (sym b.at)

-- ---- intervals

-- the interval that a plan asks for, by the numbers of `interval`
named-ends : (from to : Option ℕ) (count : ℕ) (asked : IntervalValues) → AreEnds from to count asked → interval_of from to count ≡ Some (within count asked.from asked.to)
named-ends None None count asked e = absurd e
named-ends None (Some to) count asked e = λ k. Some (within count (sym e.0 k) (sym e.1 k))
named-ends (Some from) None count asked e =
    let few = e.1 in
    let last : min count count ≡ min asked.to count = omega (arith, few) in
    λ k. Some (record { first = min (sym e.0 k) count; last = last k })
named-ends (Some from) (Some to) count asked e = λ k. Some (within count (sym e.0 k) (sym e.1 k))

-- an interval's account is what `interval` tells of it
pub intervals_told : IntervalsAreTold
unfolding account_text
intervals_told plan m t i s inputs asked read is role at same =
    let a = sphere_of_task plan m t i s is at in
    let q = replayed inputs s a.setup role a.made in
    let log : LogParts = read.log in
    let parts : q.0 ≡ log = same_Ok q.0 log (sym q.1 ∙ same.log) in
    let image : a.made.image ≡ read.image = same_Ok a.made.image read.image (sym a.made.loaded ∙ same.image) in
    let bytes : a.setup.memory ≡ read.image.bytes = a.made.memory ∙ ap (λ (d : Image). d.bytes) image in
    let entry : a.setup.entry ≡ read.image.entry = a.made.entry ∙ ap (λ (d : Image). d.entry) image in
    let x = sphere_in (executed (setup_in t) t.events) i in
    let w : Interval = within log.count asked.from asked.to in
    let order = same.order in
    ap (λ (d : SphereSetup). account_as d x d.role) a.at
    ∙ ap (account_as a.setup x) (q.2 ∙ ap (replays_log inputs) parts)
    ∙ ap (λ (o : Option Interval). account_as a.setup x (IsReplayed (record { log = log; interval = o; strata = None }))) (named-ends inputs.from inputs.to log.count asked same.ends)
    ∙ intervals_sliced a.setup log w (record { order = omega (arith, order); most = omega arith })
    ∙ (λ k. (slice log (bytes k) (entry k) w.first w.last).text)
    ∙ ap (λ (v : Slice). v.text) (slices_stop_at_count log read.image.bytes read.image.entry asked.from asked.to)

-- ---- tails

-- what a task writes of a sphere that it records in epochs is a tail, and the account of its walk
pub tails_walked : TailsAreWalked
unfolding account_text log_text
tails_walked plan m t i s inputs x is limits role epochs at =
    let asked : RecordSetup = record_setup inputs in
    let a = sphere_of_task plan m t i s is at in
    let recorded : a.setup.role ≡ IsRecorded asked = sym (same_Ok (IsRecorded asked) a.setup.role (ap (role_of 0 a.made.image) (sym role) ∙ a.made.role)) in
    let so : asked.epochs ≡ Some (epoch_setup x) = ap (option_map epoch_setup) epochs in
    let tail : Tail = tail_of_points (setup_in t) t.events i asked (epoch_setup x) in
    let p = sphere_in (executed (setup_in t) t.events) i in
    let played = tails_are_played (setup_in t) t.events i a.setup asked (epoch_setup x) limits (record { there = a.there; role = recorded; epochs = so }) in
    record {
      bytes = ap (λ (d : SphereSetup). log_as (setup_in t) t.events i d.role) a.at
          ∙ ap (log_as (setup_in t) t.events i) recorded
          ∙ ap (recorded_bytes (setup_in t) t.events i asked) so;
      account = ap (λ (d : SphereSetup). account_as d p d.role) a.at
          ∙ ap (account_as a.setup p) recorded
          ∙ ap (recorded_account p) so
          ∙ ap (λ (v : Walked). account_of tail.base v.commits v.threads v.request v.memory (walk_end v.end)) (sym played.walked);
    }
