-- What a recorder makes of an epoch that begins is what the definitions make of it, and its sphere stands.
use Rattle.std.proofs.Common.{◌≡◌, ℕ, ◌+◌, ◌-◌, ◌≤◌, Bool, true, false, cond, nat_lt, List, [], ◌∷◌, ◌++◌, length, slice_index, drop, Option, Some, None, refl, sym, ap, ◌∙◌, subst, arith}
use Rattle.std.proofs.lemmas.Bool.{true≢false}
use Rattle.std.proofs.lemmas.List.{length-drop}
use Rattle.dl_entry.specs.declared.Commit.{Commit}
use Rattle.dl_entry.specs.declared.Request.{Request}
use Rattle.spec_isa.specs.declared.thread.Parts.{Parts}
use Rattle.spec_log.specs.Versions.{new_threads}
use Rattle.spec_play.specs.Epochs as play
use Rattle.spec_play.specs.Epochs.{Epoch, Epochs, with_epoch, given_up}
use Rattle.spec_play.specs.Noted.{Recorded, as_log}
use Rattle.spec_play.specs.Progress.{position}
use Rattle.spec_play.specs.declared.used.Used.{Used}
use Rattle.spec_sphere.specs.sphere.Epochs as protocol
use Rattle.spec_sphere.specs.sphere.Epochs.{epoch_at, state_in, trimmed_by, epoch_begun}
use Rattle.spec_sphere.specs.sphere.Spheres.{Sphere, Role, Record}
use Rattle.spec_sphere.specs.promises.Sound.{AreFresh}
use Rattle.dl_record.specs.Epochs as recorder
use Rattle.dl_record.specs.Epochs.{InEpochs, base, due_in, left_of}
use Rattle.dl_kernel.specs.declared.past.Past.{Past}
use Rattle.dl_sphere.specs.Pasts.{sphere_at, sphere_with}
use Rattle.dl_sphere.specs.Recorded.{Recording, commits_of}
use Rattle.dl_sphere.specs.Roles.{recording_of, role_in, HasRecorded}
use Rattle.dl_sphere.specs.declared.part.Part.{Part}
use Rattle.dl_sphere.proofs.Begins.Fresh.{fresh-left}
use Rattle.dl_sphere.proofs.Standing.Moves.{commits_are}

-- ---- what is left of a recording

-- what stays as it was
record Keeps (a b : Recorded) : Type 0 where
  s : b.kept.s ≡ a.kept.s
  version : b.version ≡ a.version
  done : b.kept.done ≡ a.kept.done
  fresh : (ts : List Parts) → AreFresh ts a.interrupts → AreFresh ts b.interrupts

left_keeps : (o : Option (Epoch × Epoch)) (r : Recorded) (y : Epochs) → Keeps r (left_of o r y).recorded
left_keeps None r y = record { s = refl; version = refl; done = refl; fresh = λ ts h. h }
left_keeps (Some (a, b)) r y = record { s = refl; version = refl; done = refl; fresh = λ ts h. fresh-left _ ts r.interrupts h }

-- A sphere of this memory and these threads has done these commits.
module _ (first : ℕ) (m : List ℕ) (ts : List Parts) (cs : List Commit) (last : Option ℕ) (q : Option Request) where
  abbrev pub with_commits : (first : ℕ) → List Commit → InEpochs → Sphere
  with_commits n commits w = sphere_with n m ts commits last q (Record (recording_of w))

  -- without the commits before number n
  abbrev pub from_first : (n : ℕ) → InEpochs → Sphere
  from_first n w = with_commits n (drop (n - first) cs) w

  -- what is given up
  abbrev pub IsGivenUp : Option (Epoch × Epoch) → (base : ℕ) → Type 0
  IsGivenUp None n = n ≡ first
  IsGivenUp (Some (a, b)) n = (n ≡ b.state.commits) × (first ≡ a.state.commits) × (a.state.commits ≤ b.state.commits)

  left_is : (o : Option (Epoch × Epoch)) (r : Recorded) (y : Epochs) (role : Role) → let w = left_of o r y in
      IsGivenUp o (base w.epochs) → from_first (base w.epochs) w ≡ trimmed_by o (as_log r) y (sphere_with first m ts cs last q role)
  left_is None r y role h =
      let w : InEpochs = record { recorded = r; epochs = Some y } in
      let none : base w.epochs - first ≡ 0 = omega (arith, h) in
      (λ i. with_commits (h i) (drop (none i) cs) w)
  left_is (Some (a, b)) r y role h =
      let w = left_of (Some (a, b)) r y in
      let n : ℕ = b.state.commits - a.state.commits in
      let now : base w.epochs ≡ first + n = (let e = h.0 in let f = h.1 in let l = h.2 in omega (arith, e, f, l)) in
      let dropped : base w.epochs - first ≡ n = omega (arith, now) in
      (λ i. with_commits (now i) (drop (dropped i) cs) w)

  no_earlier : (o : Option (Epoch × Epoch)) (n : ℕ) → IsGivenUp o n → first ≤ n
  no_earlier None n h = omega (arith, h)
  no_earlier (Some (a, b)) n h = let e = h.0 in let f = h.1 in let l = h.2 in omega (arith, e, f, l)

  -- ---- how far it is

  -- the sphere has as many commits as before
  pub still_at : (n : ℕ) → first ≤ n → n ≤ first + length cs → n + length (drop (n - first) cs) ≡ first + length cs
  still_at n least most = let l = length-drop (n - first) cs in omega (arith, least, most, l)

  -- what is left if these epochs have begun, the last of them now: so many commits and inputs, counted as before
  given_if : (c : Bool) (a b : Epoch) (es : List Epoch) (r : Recorded) (y : Epochs) → y.begun ≡ a ∷ b ∷ es → first ≡ a.state.commits → let o : Option (Epoch × Epoch) = cond c (Some (a, b)) None in let w = left_of o r y in
      commits_of w ≡ first + r.kept.count → IsGivenUp o (base w.epochs)
  given_if true a b es r y begun at_ same =
      let now : base (Some (play.without_first y)) ≡ b.state.commits = ap (λ (es : List Epoch). play.commits_before (drop 1 es)) begun in
      (now, at_, omega (arith, now, at_, same))
  given_if false a b es r y begun at_ same = ap play.commits_before begun ∙ sym at_

  given_up_is : (begun : List Epoch) (e : Epoch) (r : Recorded) (y : Epochs) → y.begun ≡ begun ++ e ∷ [] → first ≡ play.commits_before begun → let o = given_up y.keep (begun ++ e ∷ []) in let w = left_of o r y in
      commits_of w ≡ first + r.kept.count → IsGivenUp o (base w.epochs)
  given_up_is [] e r y begun at_ same = let now : base (Some y) + r.kept.count ≡ first + r.kept.count = same in omega (arith, now)
  given_up_is (a ∷ []) e r y begun at_ same = given_if (nat_lt y.keep 2) a e [] r y begun at_ same
  given_up_is (a ∷ b ∷ es) e r y begun at_ same = given_if (nat_lt y.keep (length (a ∷ b ∷ es ++ e ∷ []))) a b (es ++ e ∷ []) r y begun at_ same

  -- ---- one more epoch

  -- the sphere of a recording r is now the one of w, from its base on, as the definitions have it, and stands
  pub record Begins (s : ℕ) (memory : List ℕ) (r w : InEpochs) : Type 0 where
    pub sphere : from_first (base w.epochs) w ≡ epoch_begun memory (with_commits first cs r)
    pub stands : HasRecorded s (from_first (base w.epochs) w) w
    pub counted : base w.epochs + length (drop (base w.epochs - first) cs) ≡ first + length cs

  stands_from : (s : ℕ) (r w : InEpochs) → HasRecorded s (with_commits first cs r) r → Keeps r.recorded w.recorded → first ≤ base w.epochs → commits_of w ≡ first + length cs → HasRecorded s (from_first (base w.epochs) w) w
  stands_from s r w h k least all =
      let n = base w.epochs in
      let still = still_at n least (omega (arith, all)) in
      let left = length-drop (n - first) cs in
      record {
        few = record { few = λ j. let f = h.few.few j in omega (arith, f, still) };
        s = k.s ∙ h.s;
        threads = subst (λ (v : ℕ). length ts ≤ new_threads v) (sym k.version) h.threads;
        all = ap length k.done ∙ h.all;
        done = λ j. ap (λ (ds : List ℕ). slice_index ds j) k.done ∙ h.done j;
        first = refl;
        count = omega (arith, all, left, least);
        fresh = k.fresh ts h.fresh;
      }

  begins_in : (s : ℕ) (memory : List ℕ) (x : Recorded) (o : Option Epochs) → let r : InEpochs = record { recorded = x; epochs = o } in let p = with_commits first cs r in let w = recorder.epoch_begun (state_in memory p) r in
      HasRecorded s p r → due_in o (commits_of r) ≡ true → commits_of w ≡ commits_of r → Begins s memory r w
  unfolding epoch_begun
  begins_in s memory x None h due same = absurd (true≢false (sym due))
  begins_in s memory x (Some e) h due same =
      let r : InEpochs = record { recorded = x; epochs = Some e } in
      let p = with_commits first cs r in
      let here = state_in memory p in
      let new : Epoch = record { state = here; inputs = play.inputs_before e.begun + length x.inputs } in
      let y = with_epoch new e in
      let up = given_up y.keep y.begun in
      let w = left_of up x y in
      let all = commits_are s p r h in
      let count = h.count in
      let is_first = h.first in
      let given = given_up_is e.begun new x y refl is_first (omega (arith, same, all, count)) in
      let least = no_earlier up (base w.epochs) given in
      let done : commits_of w ≡ first + length cs = omega (arith, same, all) in
      let is_due : play.is_due (position p.progress) e ≡ true = ap (λ (n : ℕ). play.is_due n e) (sym all) ∙ due in
      let begun : Epoch → Sphere = λ z. trimmed_by (given_up e.keep (e.begun ++ z ∷ [])) (as_log x) (with_epoch z e) p in
      record {
        sphere =
            left_is up x y p.role given
            ∙ sym (ap (λ (b : Bool). cond b (begun (epoch_at memory (as_log x) e p)) p) is_due);
        stands = stands_from s r w h (left_keeps up x y) least done;
        counted = still_at (base w.epochs) least (omega (arith, done));
      }

  -- a recorder whose epoch was due, and that counts its commits as before, has begun one as the definitions do
  pub begins : (s : ℕ) (memory : List ℕ) (r : InEpochs) → let p = with_commits first cs r in let w = recorder.epoch_begun (state_in memory p) r in
      HasRecorded s p r → due_in r.epochs (commits_of r) ≡ true → commits_of w ≡ commits_of r → Begins s memory r w
  begins s memory r h due same = begins_in s memory r.recorded r.epochs h due same

  none_in : (s : ℕ) (memory : List ℕ) (x : Recorded) (o : Option Epochs) → let r : InEpochs = record { recorded = x; epochs = o } in let p = with_commits first cs r in
      HasRecorded s p r → due_in o (commits_of r) ≡ false → epoch_begun memory p ≡ p
  unfolding epoch_begun
  none_in s memory x None h due = refl
  none_in s memory x (Some e) h due =
      let r : InEpochs = record { recorded = x; epochs = Some e } in
      let p = with_commits first cs r in
      let no : play.is_due (position p.progress) e ≡ false = ap (λ (n : ℕ). play.is_due n e) (sym (commits_are s p r h)) ∙ due in
      ap (λ (b : Bool). cond b (protocol.trimmed (as_log x) (with_epoch (epoch_at memory (as_log x) e p) e) p) p) no

  -- if none was due, none begins
  pub none_begins : (s : ℕ) (memory : List ℕ) (r : InEpochs) → let p = with_commits first cs r in
      HasRecorded s p r → due_in r.epochs (commits_of r) ≡ false → epoch_begun memory p ≡ p
  none_begins s memory r h due = none_in s memory r.recorded r.epochs h due

-- in a sphere that isn't recorded none begins
pub unrecorded : (past : Past) (u : Used) (memory : List ℕ) (part : Part) → ((r : Recording) → part ≡ Part.Recorded r → ⊥) → epoch_begun memory (sphere_at past (role_in u part)) ≡ sphere_at past (role_in u part)
unfolding epoch_begun
unrecorded past u memory Part.Plain other = refl
unrecorded past u memory (Part.Recorded r) other = absurd (other r refl)
unrecorded past u memory (Part.Replayed r) other = refl
