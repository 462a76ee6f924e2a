-- Worlds whose recordings in epochs keep the end of what their points tell: from the start on, after each event and each epoch that
-- begins.
use Rattle.std.proofs.Common.{◌≡◌, ◌≢◌, ℕ, zero, suc, ◌+◌, ◌*◌, ◌<◌, ◌≤◌, ◌⊎◌, inl, inr, Bool, true, false, cond, List, [], ◌∷◌, ◌++◌, length, drop, Option, Some, None, refl, sym, ap, ◌∙◌, subst, arith, get_or}
use Rattle.std.specs.Prelude.{slice_get, All}
use Rattle.std.proofs.lemmas.Bool.{true≢false, cases_Bool, cases_lt, eqb-true}
use Rattle.std.proofs.lemmas.List.{get_or_past}
use Rattle.std.proofs.lemmas.List.Elements.{All-nil, All-cons, All-from_get_or}
use Rattle.std.proofs.lemmas.Option.{none-some, same_Some, get_or_from_slice_get, slice_get_within, slice_get-get_or}
use Rattle.std.proofs.Math.Nat.{suc-mul, add-mul, zero-mul}
use Rattle.dl_entry.specs.declared.Point.{Point}
use Rattle.spec_isa.specs.Words.{lays}
use Rattle.spec_log.specs.declared.LogParts.{LogParts}
use Rattle.spec_play.specs.Progress.{Progress, position}
use Rattle.spec_play.specs.Epochs.{Epoch, Epochs, is_due}
use Rattle.spec_engine.specs.Flights.{Flight}
use Rattle.spec_protocol.specs.declared.event.Event.{Event}
use Rattle.spec_sphere.specs.sphere.Spheres.{Recording, Role, Plain, Record, Replay, Sphere, no_sphere}
use Rattle.spec_protocol.specs.machine.World.{World, moment, sphere_at}
use Rattle.spec_engine.specs.Flying.{flying}
use Rattle.spec_protocol.specs.machine.Shown.{shown}
use Rattle.spec_sphere.specs.sphere.Setups.{EpochSetup, RecordSetup, RoleSetup, IsPlain, IsRecorded, IsReplayed, new_epochs, SphereSetup}
use Rattle.spec_protocol.specs.machine.Machine.{Setup, with_point, world_of, happens, world_after}
use Rattle.spec_protocol.specs.machine.Serial.{serial_start, CanDoAll}
use Rattle.spec_sphere.specs.sphere.Logged.{actors_of, is_of}
use Rattle.spec_protocol.specs.machine.Logged.{supplied}
use Rattle.spec_sphere.specs.sphere.Epochs.{begun_if, begun_in, epoch_begun, base_of}
use Rattle.spec_protocol.specs.machine.Epochs.{begun_from, epochs_begun}
use Rattle.spec_protocol.specs.machine.Kept.{serial_until, epoch_of, epochs_of, supplied_since, tail_log}
use Rattle.spec_protocol.specs.promises.Promises.{IsSetup, after}
use Rattle.spec_sphere.specs.promises.Sound.{no_image, AreFresh, AreEpochs, AreEpochsIf, IsRole}
use Rattle.spec_protocol.specs.promises.Sound.{IsSound, IsWithinLimits}
use Rattle.spec_sphere.specs.promises.Alike.{epochs_without, epochs_in, forgotten, HaveBegun, HaveBegunIf}
use Rattle.spec_protocol.specs.promises.Alike.{all_forgotten, AreAlike, EndAlike, HaveAllBegun}
use Rattle.spec_protocol.specs.promises.Kept.{IsKeptFrom, IsKept, WillKeep, Shows, IsReady, NoneIsDue, WorldsShowTails, RecordingsAreKept}
use Rattle.spec_sphere.specs.promises.Kept.{is_due_if, is_due_in, has_due, IsSoundTail}
use Rattle.spec_protocol.proofs.Invariants.Preserved.{sphere_of_point}
use Rattle.spec_sphere.proofs.Points.OneMore.{points_so}
use Rattle.spec_sphere.proofs.Points.KeptLogs.{log_by, keeping}
use Rattle.spec_protocol.proofs.Points.OneByOne.{of-sphere}
use Rattle.spec_protocol.proofs.Points.Counts.{points_made}
use Rattle.spec_protocol.proofs.Sound.Schedules.{setup-within, worlds_sound}
use Rattle.spec_protocol.proofs.Alike.Events.{happen-alike}
use Rattle.spec_protocol.proofs.Alike.Good.{sphere-alike, spheres-alike}
use Rattle.spec_protocol.proofs.Alike.Beginning.{begun-alike}
use Rattle.spec_protocol.proofs.Invariants.Schedules.{sizes_kept}
use Rattle.spec_sphere.proofs.Kept.Cutting.{commits_among, since_none}
use Rattle.spec_protocol.proofs.Kept.Tails.{tail-whole}
use Rattle.spec_protocol.proofs.Kept.Due.{IsInLast, base-is, is-due, not-due}
use Rattle.spec_protocol.proofs.Kept.Standing.{Stand, stands}
use Rattle.spec_protocol.proofs.Kept.Stepping.{count-kept, held-since, base-among}
use Rattle.spec_protocol.proofs.Kept.Events.{IsEarly, epoch-commits, early-in, event-kept}
use Rattle.spec_protocol.proofs.Kept.Roles.{epochs-stay, epochs_of_role}
use Rattle.spec_protocol.proofs.Kept.Begun.{begun-kept}
use Rattle.spec_protocol.proofs.Kept.Holding.{how_since}
use Rattle.spec_protocol.proofs.Kept.Sound.{sound-forgotten}

-- ---- what is asked for

role_asks : (s : ℕ) (r : RoleSetup) (asked : RecordSetup) → IsRole s r → r ≡ IsRecorded asked → AreEpochsIf asked.version asked.epochs
role_asks s r asked is e = (subst (IsRole s) e is).2

-- epochs are of version 2, have a commit at least, and one is kept at least
pub asks-epochs : (s : Setup) (i : ℕ) (image : SphereSetup) (asked : RecordSetup) (x : EpochSetup) → IsWithinLimits s → WillKeep s i image asked x → AreEpochs asked.version x
asks-epochs s i image asked x limits will = subst (AreEpochsIf asked.version) will.epochs (role_asks s.numbers.s image.role asked (limits.images i image will.there).role will.role)

-- ---- which spheres

epochs_in_forgotten : (r : Role) (p : Sphere) → p.role ≡ r → epochs_in (forgotten p).role ≡ epochs_without (epochs_in p.role)
epochs_in_forgotten Plain p e = ap (λ (r : Role). epochs_in (forgotten (record p { role = r })).role) e ∙ sym (ap (λ (r : Role). epochs_without (epochs_in r)) e)
epochs_in_forgotten (Record recording) p e = ap (λ (r : Role). epochs_in (forgotten (record p { role = r })).role) e ∙ sym (ap (λ (r : Role). epochs_without (epochs_in r)) e)
epochs_in_forgotten (Replay b) p e = ap (λ (r : Role). epochs_in (forgotten (record p { role = r })).role) e ∙ sym (ap (λ (r : Role). epochs_without (epochs_in r)) e)

epochs_alike : (p q : Sphere) → forgotten p ≡ forgotten q → epochs_without (epochs_in p.role) ≡ epochs_without (epochs_in q.role)
epochs_alike p q e = sym (epochs_in_forgotten p.role p refl) ∙ ap (λ (x : Sphere). epochs_in x.role) e ∙ epochs_in_forgotten q.role q refl

-- the sphere is set up to be recorded in epochs, or isn't recorded so
abbrev KeptOrNot : Setup → (i : ℕ) → SphereSetup → Sphere → Type 0
KeptOrNot s i image p = ((asked : RecordSetup) × (x : EpochSetup) × WillKeep s i image asked x) ⊎ (epochs_in p.role ≡ None)

without_none : (o : Option Epochs) → epochs_without o ≡ None → o ≡ None
without_none None e = refl
without_none (Some x) e = absurd (none-some _ (sym e))

asked_or_not : (s : Setup) (i : ℕ) (image : SphereSetup) (asked : RecordSetup) (p : Sphere) → slice_get s.spheres i ≡ Some image → image.role ≡ IsRecorded asked → (o : Option EpochSetup) → asked.epochs ≡ o → epochs_without (epochs_in p.role) ≡ epochs_without (new_epochs o) → KeptOrNot s i image p
asked_or_not s i image asked p there role None e same = inr (without_none (epochs_in p.role) same)
asked_or_not s i image asked p there role (Some x) e same = inl (asked, x, record { there = there; role = role; epochs = e })

by_setup : (s : Setup) (i : ℕ) (image : SphereSetup) (p : Sphere) → slice_get s.spheres i ≡ Some image → (r : RoleSetup) → image.role ≡ r → epochs_without (epochs_in p.role) ≡ epochs_without (epochs_of_role r) → KeptOrNot s i image p
by_setup s i image p there IsPlain role same = inr (without_none (epochs_in p.role) same)
by_setup s i image p there (IsRecorded asked) role same = asked_or_not s i image asked p there role asked.epochs refl same
by_setup s i image p there (IsReplayed asked) role same = inr (without_none (epochs_in p.role) same)

kept_or_not : (s : Setup) (es : List Event) (w : World) (i : ℕ) (image : SphereSetup) → IsSetup s → AreAlike w (after s es) → slice_get s.spheres i ≡ Some image → KeptOrNot s i image (sphere_at w i)
kept_or_not s es w i image is same there =
    by_setup s i image (sphere_at w i) there image.role refl
    (epochs_alike (sphere_at w i) (sphere_at (after s es) i) (sphere-alike w (after s es) i same) ∙ ap epochs_without (epochs-stay s es i image is there))

-- ---- epochs have begun

first_of : (e f : Epoch) (es fs : List Epoch) → e ∷ es ≡ f ∷ fs → e ≡ f
first_of e f es fs h = let o : Some e ≡ Some f = ap (λ (xs : List Epoch). slice_get xs 0) h in same_Some _ _ o

first_begun : (s : Setup) (ps : List Point) (i size n m : ℕ) → ((c : ℕ) → c ≤ n → (epoch_of s ps i c).state.commits ≡ c) → (e : Epoch) (es : List Epoch) → epochs_of s ps i size n m ≡ e ∷ es → e.state.commits ≡ n
first_begun s ps i size n zero at_ e es h = absurd (let l = ap (λ (xs : List Epoch). length xs) h in omega (arith, l))
first_begun s ps i size n (suc m) at_ e es h = ap (λ (f : Epoch). f.state.commits) (sym (first_of (epoch_of s ps i n) e (epochs_of s ps i size (n + size) m) es h)) ∙ at_ n (omega arith)

all_begun : (s : Setup) (ps : List Point) (i size n m most : ℕ) → 0 < size → ((c : ℕ) → c ≤ most → (epoch_of s ps i c).state.commits ≡ c) → n + m * size ≤ most + size → All (λ (e : Epoch). e.state.commits ≤ most) (epochs_of s ps i size n m)
all_begun s ps i size n zero most some at_ l = All-nil (λ (e : Epoch). e.state.commits ≤ most)
all_begun s ps i size n (suc m) most some at_ l =
    let a : suc m * size ≡ m * size + size = suc-mul m size in
    let here = at_ n (omega (arith, l, a)) in
    All-cons (λ (e : Epoch). e.state.commits ≤ most) (epoch_of s ps i n) (epochs_of s ps i size (n + size) m) (omega (arith, l, a, here)) (all_begun s ps i size (n + size) m most some at_ (omega (arith, l, a)))

-- ---- spheres of a world

begun_at_from : (slots : List (Option Flight)) (n i : ℕ) (ps : List Sphere) → get_or (begun_from slots n ps) i no_sphere ≡ epoch_begun (lays (get_or ps i no_sphere).memory (flying (n + i) slots)) (get_or ps i no_sphere)
unfolding epoch_begun
begun_at_from slots n i [] = refl
begun_at_from slots n zero (p ∷ ps) = let e : n ≡ n + 0 = omega arith in ap (λ (k : ℕ). epoch_begun (lays p.memory (flying k slots)) p) e
begun_at_from slots n (suc i) (p ∷ ps) =
    let e : suc n + i ≡ n + suc i = omega arith in
    begun_at_from slots (suc n) i ps ∙ ap (λ (k : ℕ). epoch_begun (lays (get_or ps i no_sphere).memory (flying k slots)) (get_or ps i no_sphere)) e

-- in each sphere an epoch has begun if one was due
pub begun-at : (w : World) (i : ℕ) → sphere_at (epochs_begun w) i ≡ epoch_begun (lays (sphere_at w i).memory (flying i w.slots)) (sphere_at w i)
unfolding epochs_begun
begun-at w i =
    let e : 0 + i ≡ i = omega arith in
    begun_at_from w.slots 0 i w.spheres ∙ ap (λ (k : ℕ). epoch_begun (lays (sphere_at w i).memory (flying k w.slots)) (sphere_at w i)) e

no_epochs : (m : List ℕ) (r : Role) (p : Sphere) → p.role ≡ r → epochs_in r ≡ None → has_due (begun_in r m p) ≡ false
no_epochs m Plain p e none = ap (λ (r : Role). is_due_in r (position p.progress)) e
no_epochs m (Record recording) p e none =
    ap (λ (o : Option Epochs). has_due (begun_if recording.log o m p)) none ∙ ap (λ (r : Role). is_due_in r (position p.progress)) e ∙ ap (is_due_if (position p.progress)) none
no_epochs m (Replay b) p e none = ap (λ (r : Role). is_due_in r (position p.progress)) e

-- in a sphere that isn't recorded in epochs none is due
not_recorded : (m : List ℕ) (p : Sphere) → epochs_in p.role ≡ None → has_due (epoch_begun m p) ≡ false
unfolding epoch_begun
not_recorded m p none = no_epochs m p.role p refl none

-- one event more
after-more : (w : World) (es : List Event) (e : Event) → world_after w (es ++ e ∷ []) ≡ (happens (world_after w es) e).world
after-more w [] e = refl
after-more w (f ∷ es) e = after-more (happens w f).world es e

module _ (s : Setup) (limits : IsWithinLimits s) where
  -- a sphere that is recorded in epochs, and as it is after its points
  stand : (es : List Event) (w : World) (i : ℕ) (image : SphereSetup) (asked : RecordSetup) (x : EpochSetup) → AreAlike w (after s es) → WillKeep s i image asked x
      → Stand s es w i asked (shown w.slots i (sphere_at w i)) (shown (after s es).slots i (sphere_at (after s es) i))
  stand es w i image asked x same will = stands s es w i image asked (setup-within s limits) will.there will.role same

  counted : (es : List Event) (w : World) (i : ℕ) (image : SphereSetup) (asked : RecordSetup) (x : EpochSetup) → AreAlike w (after s es) → WillKeep s i image asked x
      → (c : ℕ) → c ≤ position (sphere_at w i).progress → (epoch_of s (after s es).points i c).state.commits ≡ c
  counted es w i image asked x same will c l =
      let st = stand es w i image asked x same will in
      let count = count-kept s i image asked x will.there will.role es w _ _ st in
      epoch-commits s i image asked will.there will.role (after s es).points st.can c (omega (arith, l, count))

  begun_in_one : (es : List Event) (w : World) (i : ℕ) (image : SphereSetup) (asked : RecordSetup) (x : EpochSetup) → Shows s es w → WillKeep s i image asked x → HaveBegunIf (sphere_at w i).progress (epochs_in (sphere_at w i).role)
  begun_in_one es w i image asked x sh will =
      let k = sh.kept i image asked x will in
      let g = k.0 in
      let m = k.1 in
      let kk : IsKeptFrom s (after s es).points i asked x g m (sphere_at w i) = k.2 in
      let b = g * x.size in
      let n = position (sphere_at w i).progress in
      let some : 0 < x.size = (let l = (asks-epochs s i image asked x limits will).least in omega arith) in
      let at_ = counted es w i image asked x sh.alike will in
      let a : (g + m) * x.size ≡ g * x.size + m * x.size = add-mul g m x.size in
      let within : b ≤ n = (let f = kk.first in omega arith) in
      let has : HaveBegun (sphere_at w i).progress (epochs_of s (after s es).points i x.size b m) =
      record {
        first = λ e es_ h. first_begun s (after s es).points i x.size b m (λ c l. at_ c (omega (arith, l, within))) e es_ h ∙ sym kk.first;
        done = all_begun s (after s es).points i x.size b m n some at_ (let l = kk.last in omega arith);
      }
      in
      subst (HaveBegunIf (sphere_at w i).progress) (sym (ap epochs_in kk.role)) has

  all_have_begun : (es : List Event) (w : World) → Shows s es w → HaveAllBegun w
  all_have_begun es w sh =
      All-from_get_or (λ (p : Sphere). HaveBegunIf p.progress (epochs_in p.role)) w.spheres no_sphere
      (λ i l.
      let inside : i < length s.spheres = (let a = spheres-alike w (after s es) sh.alike in let b = (sizes_kept s es (setup-within s limits)).spheres in omega (arith, l, a, b)) in
      let image = get_or s.spheres i no_image in
      let there : slice_get s.spheres i ≡ Some image = slice_get-get_or s.spheres i no_image inside in
      elim (kept_or_not s es w i image (setup-within s limits) sh.alike there) [
        | inl k ↦ begun_in_one es w i image k.0 k.1 sh k.2
        | inr none ↦ subst (HaveBegunIf (sphere_at w i).progress) (sym none) tt
      ])

  -- ---- epochs that begin

  begun_shows : (es : List Event) (w : World) → Shows s es w → AreAlike (epochs_begun w) (after s es)
  begun_shows es w sh = begun-alike w (all_have_begun es w sh) ∙ sh.alike

  begun_one : (es : List Event) (w : World) (i : ℕ) (image : SphereSetup) (asked : RecordSetup) (x : EpochSetup) → Shows s es w → WillKeep s i image asked x
      → let q = sphere_at (epochs_begun w) i in
      (g : ℕ) × (h : ℕ) × IsKeptFrom s (after s es).points i asked x g h q × (position q.progress < (g + h) * x.size)
  unfolding shown
  begun_one es w i image asked x sh will =
      let k = sh.kept i image asked x will in
      let asks = asks-epochs s i image asked x limits will in
      let some : 0 < x.size = (let l = asks.least in omega arith) in
      let more : 0 < x.keep = (let l = asks.some in omega arith) in
      let st = stand es w i image asked x sh.alike will in
      subst (λ (q : Sphere). (g : ℕ) × (h : ℕ) × IsKeptFrom s (after s es).points i asked x g h q × (position q.progress < (g + h) * x.size))
      (sym (begun-at w i))
      (begun-kept s i image asked x will.there will.role some more es w (shown w.slots i (sphere_at w i)) (shown (after s es).slots i (sphere_at (after s es) i)) k.0 k.1 st k.2)

  shows_begun : (es : List Event) (w : World) → Shows s es w → Shows s es (epochs_begun w)
  shows_begun es w sh =
      record {
        alike = begun_shows es w sh;
        kept = λ i image asked x will. let b = begun_one es w i image asked x sh will in (b.0, b.1, b.2);
      }

  -- ---- whether one is due

  -- fewer commits than the epochs have: none is due
  none_due : (es : List Event) (w : World) (i : ℕ) (image : SphereSetup) (asked : RecordSetup) (x : EpochSetup) (g h : ℕ) → AreAlike w (after s es) → WillKeep s i image asked x → IsKeptFrom s (after s es).points i asked x g h (sphere_at w i) → position (sphere_at w i).progress < (g + h) * x.size → has_due (sphere_at w i) ≡ false
  none_due es w i image asked x g h same will k less =
      let asks = asks-epochs s i image asked x limits will in
      let some : 0 < x.size = (let l = asks.least in omega arith) in
      let more : 0 < x.keep = (let l = asks.some in omega arith) in
      let n = position (sphere_at w i).progress in
      elim (cases_Bool (has_due (sphere_at w i))) [
        | inl due ↦ (
            let e : n ≡ (g + h) * x.size =
            is-due s (after s es).points i x.size n some (counted es w i image asked x same will) g h x.keep (record { next = k.next; last = k.last }) more k.all
            (ap (λ (r : Role). is_due_in r n) (sym k.role) ∙ due)
            in
            absurd (omega (arith, e, less))
            )
        | inr none ↦ none
      ]

  ready_begun : (es : List Event) (w : World) → Shows s es w → NoneIsDue (epochs_begun w)
  ready_begun es w sh i =
      elim (cases_lt i (length s.spheres)) [
        | inl inside ↦ (
            let image = get_or s.spheres i no_image in
            elim (kept_or_not s es w i image (setup-within s limits) sh.alike (slice_get-get_or s.spheres i no_image inside)) [
              | inl k ↦ (
                  let b = begun_one es w i image k.0 k.1 sh k.2 in
                  none_due es (epochs_begun w) i image k.0 k.1 b.0 b.1 (begun_shows es w sh) k.2 b.2 b.3
                  )
              | inr none ↦ ap has_due (begun-at w i) ∙ not_recorded (lays (sphere_at w i).memory (flying i w.slots)) (sphere_at w i) none
            ]
            )
        | inr past ↦ (
            let out : length w.spheres ≤ i = (let a = spheres-alike w (after s es) sh.alike in let b = (sizes_kept s es (setup-within s limits)).spheres in omega (arith, past, a, b)) in
            ap has_due (begun-at w i)
            ∙ not_recorded (lays (sphere_at w i).memory (flying i w.slots)) (sphere_at w i) (ap (λ (p : Sphere). epochs_in p.role) (get_or_past w.spheres i no_sphere out))
            )
      ]

  -- ---- an event

  early_of : (es : List Event) (w : World) (i : ℕ) (image : SphereSetup) (asked : RecordSetup) (x : EpochSetup) (g h : ℕ) (o : Option Point) → AreAlike w (after s es) → WillKeep s i image asked x → IsKeptFrom s (after s es).points i asked x g h (sphere_at w i) → IsReady w o → IsEarly i (commits_among i (after s es).points) ((g + h) * x.size) o
  early_of es w i image asked x g h None same will k ready = tt
  early_of es w i image asked x g h (Some p) same will k ready =
      (λ own.
      let some : 0 < x.size = (let l = (asks-epochs s i image asked x limits will).least in omega arith) in
      let e : sphere_of_point p ≡ i = eqb-true (sphere_of_point p) i (sym (of-sphere i p) ∙ own) in
      early-in s i image asked x will.there will.role some es w _ _ g h (stand es w i image asked x same will) k (subst (λ (j : ℕ). has_due (sphere_at w j) ≡ false) e ready))

  shows_event : (es : List Event) (w : World) (e : Event) → Shows s es w → IsReady w (happens w e).point → Shows s (es ++ e ∷ []) (happens w e).world
  shows_event es w e sh ready =
      let v : World = after s es in
      let both = happen-alike w v e sh.alike in
      let later : after s (es ++ e ∷ []) ≡ (happens v e).world = after-more (world_of s) es e in
      let alike : AreAlike (happens w e).world (after s (es ++ e ∷ [])) = subst (AreAlike (happens w e).world) (sym later) both.worlds in
      let points : (after s (es ++ e ∷ [])).points ≡ with_point (happens w e).point v.points =
      ap (λ (u : World). u.points) later ∙ (points_made v e).kept ∙ ap (λ (o : Option Point). with_point o v.points) (sym both.point) in
      record {
        alike = alike;
        kept = λ i image asked x will.
            let k = sh.kept i image asked x will in
            let some : 0 < x.size = (let l = (asks-epochs s i image asked x limits will).least in omega arith) in
            subst (λ (ps : List Point). IsKept s ps i asked x (sphere_at (happens w e).world i)) (sym points) (
              k.0,
              k.1,
              event-kept s i image asked x will.there will.role some es w e _ _ _ _ k.0 k.1 (happens w e).point (stand es w i image asked x sh.alike will) (stand (es ++ e ∷ []) (happens w e).world i image asked x alike will) k.2 refl points
                  (early_of es w i image asked x k.0 k.1 (happens w e).point sh.alike will k.2 ready),
            );
      }

  -- ---- the start, and the base

  shows_start : Shows s [] (world_of s)
  shows_start =
      record {
        alike = refl;
        kept = λ i image asked x will.
            let w = world_of s in
            let st = stand [] w i image asked x refl will in
            let q = sphere_at w i in
            let zero_ : 0 * x.size ≡ 0 = zero-mul x.size in
            let count : position q.progress ≡ 0 = count-kept s i image asked x will.there will.role [] w _ _ st in
            let first : q.progress.first ≡ 0 = ap (λ (g : Progress). g.first) (sym st.progress) ∙ st.begins in
            let whole = get_or_from_slice_get (serial_start s).spheres i (shown w.slots i q) no_sphere st.is in (
              0,
              0,
              record {
                first = first ∙ sym zero_;
                commits = ap (λ (g : Progress). g.commits) (sym st.progress) ∙ ap (λ (p : Sphere). p.progress.commits) (sym whole) ∙ ap (λ (n : ℕ). drop n (sphere_at w i).progress.commits) (sym zero_);
                role = sym st.role ∙ st.keeps.role
                    ∙ (λ j. Record (record {
                      log = (sym (tail-whole s i image asked will.there will.role []) ∙ ap (tail_log s [] i asked) (sym zero_)) j;
                      epochs = ap new_epochs will.epochs j;
                    }));
                few = omega arith;
                all = λ h. absurd (omega (arith, h));
                next = omega (arith, count);
                last = omega (arith, count, zero_);
                still = λ _. ap (supplied i (serial_until s [] i (position q.progress))) (since_none i (position q.progress));
              },
            );
      }

  base_shown : (es : List Event) (w : World) (i : ℕ) (image : SphereSetup) (asked : RecordSetup) (x : EpochSetup) → Shows s es w → NoneIsDue w → WillKeep s i image asked x → let g = (sphere_at w i).progress in g.first ≡ base_of (position g) x.size x.keep
  base_shown es w i image asked x sh none will =
      let k = sh.kept i image asked x will in
      let kk : IsKeptFrom s (after s es).points i asked x k.0 k.1 (sphere_at w i) = k.2 in
      let n = position (sphere_at w i).progress in
      let some : 0 < x.size = (let l = (asks-epochs s i image asked x limits will).least in omega arith) in
      let is : IsInLast x.size (k.0 + k.1) n = record { next = kk.next; last = kk.last } in
      let less : n < (k.0 + k.1) * x.size =
      not-due s (after s es).points i x.size n some (counted es w i image asked x sh.alike will) k.0 k.1 x.keep is (ap (λ (r : Role). is_due_in r n) (sym kk.role) ∙ none i)
      in
      kk.first ∙ base-is k.0 k.1 x.size x.keep n some kk.few kk.all is less

  -- ---- what is sound

  tails_sound : (es : List Event) (w : World) (i : ℕ) (image : SphereSetup) (asked : RecordSetup) (x : EpochSetup) → Shows s es w → WillKeep s i image asked x → (r : Recording) → (sphere_at w i).role ≡ Record r → IsSoundTail (moment w) (sphere_at w i) r.log
  unfolding shown
  tails_sound es w i image asked x sh will r role =
      let v : World = after s es in
      let ps = v.points in
      let k = sh.kept i image asked x will in
      let kk : IsKeptFrom s ps i asked x k.0 k.1 (sphere_at w i) = k.2 in
      let q = sphere_at w i in
      let b = k.0 * x.size in
      let how = how_since s ps i asked x k.0 k.1 in
      let cs = supplied_since s ps i b in
      let st = stand es w i image asked x sh.alike will in
      let h = held-since s i image asked x will.there will.role es w _ _ st k.0 k.1 kk in
      let same : h.sphere ≡ shown w.slots i q = same_Some _ _ (sym h.there ∙ st.there) in
      let rec : keeping how (log_by how cs) ≡ r = (let e : Record (keeping how (log_by how cs)) ≡ Record r = sym kk.role ∙ role in cc) in
      let log : log_by how cs ≡ r.log = ap (λ (y : Recording). y.log) rec in
      let place : how.before + length (actors_of (points_so cs)) ≡ position q.progress = h.holds.place ∙ ap (λ (p : Sphere). position p.progress) same in
      let base : how.before ≡ b = epoch-commits s i image asked will.there will.role ps st.can b (base-among s i image asked x will.there will.role es w _ _ st k.0 k.1 kk) in
      let count : r.log.count ≡ length (actors_of (points_so cs)) = ap (λ (l : LogParts). l.count) (sym log) in
      let inside : i < length v.spheres = (let a = slice_get_within s.spheres i image will.there in let c = (sizes_kept s es (setup-within s limits)).spheres in omega arith) in
      let few = ((worlds_sound s es limits).spheres i inside).commits in
      let now : moment w ≡ moment v = ap moment sh.alike in
      record {
        few = (let a = st.place in let c = st.begins in let f = kk.first in omega (arith, a, c, f, few, now));
        count = (let f = kk.first in omega (arith, place, base, count, f));
        interrupts = subst (λ (p : Sphere). AreFresh p.threads r.log.interrupts) same (subst (λ (l : LogParts). AreFresh h.sphere.threads l.interrupts) log h.holds.fresh);
      }

  rest_sound : (es : List Event) (w : World) → Shows s es w → IsSound s (all_forgotten w)
  rest_sound es w sh = subst (IsSound s) (sym sh.alike) (sound-forgotten s (after s es) (worlds_sound s es limits))

-- if none is due, anything may take effect
all_ready : (w : World) (o : Option Point) → NoneIsDue w → IsReady w o
all_ready w None none = tt
all_ready w (Some p) none = none (sphere_of_point p)

-- recordings are kept so
pub recordings_kept : RecordingsAreKept
recordings_kept s limits =
    record {
      start = shows_start s limits;
      event = shows_event s limits;
      begun = shows_begun s limits;
      ready = ready_begun s limits;
      after = λ es w e sh. shows_event s limits es (epochs_begun w) e (shows_begun s limits es w sh) (all_ready (epochs_begun w) (happens (epochs_begun w) e).point (ready_begun s limits es w sh));
      base = base_shown s limits;
      tails = tails_sound s limits;
      rest = rest_sound s limits;
    }
