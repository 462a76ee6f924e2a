-- Two spheres that are alike are the same if they aren't recorded in epochs, and they have done as many commits.
use Rattle.std.proofs.Common.{◌≡◌, ℕ, true, List, ◌∷◌, Option, Some, None, refl, sym, ap, ◌∙◌}
use Rattle.std.proofs.lemmas.Bool.{true≢false}
use Rattle.std.proofs.lemmas.Option.{none-some}
use Rattle.spec_isa.specs.declared.thread.Parts.{Parts}
use Rattle.spec_log.specs.declared.LogParts.{LogParts}
use Rattle.spec_play.specs.Epochs.{Epochs}
use Rattle.spec_play.specs.Progress.{Progress, position}
use Rattle.spec_sphere.specs.sphere.Spheres.{Role, Plain, Record, Replay, Sphere, replays}
use Rattle.spec_sphere.specs.promises.Alike.{epochs_in, epochs_without, role_without, forgotten}
use Rattle.spec_sphere.proofs.Alike.Forgetting.{replays-without}
use Rattle.spec_sphere.proofs.Alike.Sound.{position-without}

-- ---- without epochs

epochs_of_without : (n : ℕ) (r : Role) → epochs_in (role_without n r) ≡ epochs_without (epochs_in r)
epochs_of_without n Plain = refl
epochs_of_without n (Record recording) = refl
epochs_of_without n (Replay b) = refl

none_if : (o : Option Epochs) → epochs_without o ≡ None → o ≡ None
none_if None e = refl
none_if (Some x) e = absurd (none-some _ (sym e))

-- of two spheres that are alike both are recorded in epochs, or none
pub none-alike : (p q : Sphere) → forgotten p ≡ forgotten q → epochs_in q.role ≡ None → epochs_in p.role ≡ None
none-alike p q same none =
    none_if (epochs_in p.role)
    (sym (epochs_of_without _ p.role) ∙ ap (λ (x : Sphere). epochs_in x.role) same ∙ epochs_of_without _ q.role ∙ ap epochs_without none)

recorded_whole : (m : List ℕ) (ts : List Parts) (g : Progress) (log : LogParts) (o : Option Epochs) → o ≡ None → let p : Sphere = record { memory = m; threads = ts; progress = g; role = Record (record { log = log; epochs = o }) } in forgotten p ≡ p
recorded_whole m ts g log None none = refl
recorded_whole m ts g log (Some x) none = absurd (none-some x (sym none))

whole_in : (m : List ℕ) (ts : List Parts) (g : Progress) (r : Role) → epochs_in r ≡ None → let p : Sphere = record { memory = m; threads = ts; progress = g; role = r } in forgotten p ≡ p
whole_in m ts g Plain none = refl
whole_in m ts g (Record r) none = recorded_whole m ts g r.log r.epochs none
whole_in m ts g (Replay b) none = refl

-- a sphere that isn't recorded in epochs has nothing to forget
pub whole-sphere : (p : Sphere) → epochs_in p.role ≡ None → forgotten p ≡ p
whole-sphere p none = whole_in p.memory p.threads p.progress p.role none

-- so two that are alike are the same
pub same-unless-epochs : (p q : Sphere) → forgotten p ≡ forgotten q → epochs_in q.role ≡ None → p ≡ q
same-unless-epochs p q same none = sym (whole-sphere p (none-alike p q same none)) ∙ same ∙ whole-sphere q none

-- a replay is never recorded in epochs
replay_whole : (r : Role) → replays r ≡ true → epochs_in r ≡ None
replay_whole Plain e = refl
replay_whole (Record recording) e = absurd (true≢false (sym e))
replay_whole (Replay b) e = refl

-- two spheres that are alike are the same if the second is a replay
pub same-if-replayed : (p q : Sphere) → forgotten p ≡ forgotten q → replays q.role ≡ true → p ≡ q
same-if-replayed p q same e = same-unless-epochs p q same (replay_whole q.role e)

-- ---- numbers

-- two spheres that are alike have done the same number of commits
pub position-alike : (p q : Sphere) → forgotten p ≡ forgotten q → position p.progress ≡ position q.progress
position-alike p q same =
    sym (position-without (epochs_in p.role) p.progress) ∙ ap (λ (x : Sphere). position x.progress) same ∙ position-without (epochs_in q.role) q.progress

-- of two spheres that are alike both are replays, or neither is
pub replays-alike : (p q : Sphere) → forgotten p ≡ forgotten q → replays p.role ≡ replays q.role
replays-alike p q same = sym (replays-without _ p.role) ∙ ap (λ (x : Sphere). replays x.role) same ∙ replays-without _ q.role

-- ---- in rows of spheres

abbrev pub IsShownAs : Option Sphere → Sphere → Type 0
IsShownAs o p = (q : Sphere) × (o ≡ Some q) × (forgotten p ≡ forgotten q)

-- rows of spheres that are the same have the same first sphere
pub head_same : {x y : Sphere} {xs ys : List Sphere} → x ∷ xs ≡ y ∷ ys → x ≡ y
head_same e = cc

-- rows of spheres that are the same have the same spheres after the first
pub tail_same : {x y : Sphere} {xs ys : List Sphere} → x ∷ xs ≡ y ∷ ys → xs ≡ ys
tail_same e = cc
