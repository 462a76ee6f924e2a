-- The epochs of a recording stand together with one more of them, without the earliest, and with one more commit.
use Rattle.std.proofs.Common.{◌≡◌, ℕ, zero, suc, ◌+◌, ◌-◌, ◌%◌, ◌<◌, ◌≤◌, nat_lt, nat_eq, not, Bool, true, false, ◌&&◌, ◌||◌, List, [], ◌∷◌, ◌++◌, length, drop, Option, Some, None, inl, inr, refl, ap, sym, ◌∙◌, arith}
use Rattle.std.proofs.Math.Nat.{zero-mod}
use Rattle.std.proofs.lemmas.Bool.{lt-ltb, le-ltb, cases_lt, both_ways}
use Rattle.std.proofs.lemmas.List.{length_push}
use Rattle.std.proofs.lemmas.Option.{none-some, same_Some}
use Rattle.spec_play.specs.Noted.{Recorded}
use Rattle.spec_play.specs.States.{State}
use Rattle.spec_play.specs.Epochs.{Epoch, Epochs, recorded_from, commits_before, inputs_before, is_due, with_epoch, given_up, without_first}
use Rattle.dl_record.specs.Epochs.{IsBegun, IsCounted, Follow, AreEpochs, AreEpochsIf, epoch_begun}

-- ---- one more commit

Follow-later : (es : List Epoch) (n m k l : ℕ) → n ≤ k → m ≤ l → Follow es n m → Follow es k l
Follow-later [] n m k l h i f = tt
Follow-later (e ∷ []) n m k l h i f = (f.0, omega (arith, f.1), omega (arith, f.2))
Follow-later (a ∷ b ∷ es) n m k l h i f = (f.0, f.1, f.2, Follow-later (b ∷ es) n m k l h i f.3)

pub AreEpochs-commit : (x : Option Epochs) (n m k : ℕ) → AreEpochsIf x n m → IsBegun x n → m ≤ k → AreEpochsIf x (n + 1) k
AreEpochs-commit None n m k a b h = tt
AreEpochs-commit (Some x) n m k a b h =
    record {
      size = a.size;
      keep = a.keep;
      few = a.few;
      first = λ e. absurd (both_ways _ b (rw (a.first e, e, zero-mod x.size) refl));
      follow = Follow-later x.begun n m (n + 1) k (omega arith) h a.follow;
    }

-- ---- one more epoch

Follow-push : (es : List Epoch) (e : Epoch) (n m : ℕ) → Follow es n m → IsCounted e.state → e.state.commits ≡ n → e.inputs ≡ m → Follow (es ++ e ∷ []) n m
Follow-push [] e n m f c s i = (c, omega arith, omega arith)
Follow-push (a ∷ []) e n m f c s i = (f.0, omega (arith, f.1), omega (arith, f.2), (c, omega arith, omega arith))
Follow-push (a ∷ b ∷ es) e n m f c s i = (f.0, f.1, f.2, Follow-push (b ∷ es) e n m f.3 c s i)

-- none is given up only if there are no more than are kept
kept-all : (keep : ℕ) (es : List Epoch) → 1 ≤ keep → given_up keep es ≡ None → length es ≤ keep
kept-all keep [] h g = omega arith
kept-all keep (a ∷ []) h g = omega arith
kept-all keep (a ∷ b ∷ es) h g =
    elim (cases_lt keep (length (a ∷ b ∷ es))) [
      | inl less ↦ absurd (none-some (a, b) (sym (rw (lt-ltb keep (length (a ∷ b ∷ es)) less) at g)))
      | inr more ↦ more
    ]

-- what holds of the epochs with one more, if none is given up
pub record IsBegunIn (x y : Epochs) (n m : ℕ) : Type 0 where
  pub commits : commits_before y.begun ≡ commits_before x.begun
  pub inputs : inputs_before y.begun ≡ inputs_before x.begun
  pub are : AreEpochs y n m

module _ (x : Epochs) (e : Epoch) (n m : ℕ) (a : AreEpochs x n m) (counted : IsCounted e.state) (commits : e.state.commits ≡ n) (inputs : e.inputs ≡ m) (fewer : m ≤ n) where
  begun-before : (es : List Epoch) → (es ≡ [] → n ≡ 0) → (commits_before (es ++ e ∷ []) ≡ commits_before es) × (inputs_before (es ++ e ∷ []) ≡ inputs_before es)
  begun-before [] h = (omega (arith, commits, h refl), omega (arith, inputs, h refl, fewer))
  begun-before (b ∷ es) h = (refl, refl)

  first-after : (es : List Epoch) → es ++ e ∷ [] ≡ [] → n ≡ 0
  first-after es h = absurd (omega (arith, length_push es e, ap length h))

  pub begun_in : given_up x.keep (x.begun ++ e ∷ []) ≡ None → IsBegunIn x (with_epoch e x) n m
  begun_in g =
      let b = begun-before x.begun a.first in
      record {
        commits = b.0;
        inputs = b.1;
        are = record {
          size = a.size;
          keep = a.keep;
          few = kept-all x.keep (x.begun ++ e ∷ []) a.keep g;
          first = first-after x.begun;
          follow = Follow-push x.begun e n m a.follow counted commits inputs;
        };
      }

-- ---- the earliest is given up

-- what holds of the epochs without the earliest
pub record IsGivenUp (x y : Epochs) (a b : Epoch) (n m : ℕ) : Type 0 where
  pub commits : commits_before x.begun ≡ a.state.commits
  pub inputs : inputs_before x.begun ≡ a.inputs
  pub base : commits_before y.begun ≡ b.state.commits
  pub base_inputs : inputs_before y.begun ≡ b.inputs
  pub later : a.state.commits ≤ b.state.commits
  pub later_inputs : a.inputs ≤ b.inputs
  pub within : b.state.commits ≤ n
  pub within_inputs : b.inputs ≤ m
  pub counted : IsCounted b.state
  pub are : AreEpochs y n m

Follow-first : (b : Epoch) (es : List Epoch) (n m : ℕ) → Follow (b ∷ es) n m → IsCounted b.state × (b.state.commits ≤ n) × (b.inputs ≤ m)
Follow-first b [] n m f = f
Follow-first b (c ∷ es) n m f = let rest = Follow-first c es n m f.3 in (f.0, omega (arith, f.1, rest.1), omega (arith, f.2, rest.2))

given-both : (keep : ℕ) (a b c d : Epoch) (es : List Epoch) → given_up keep (a ∷ b ∷ es) ≡ Some (c, d) → (a ≡ c) × (b ≡ d)
given-both keep a b c d es g =
    elim (cases_lt keep (length (a ∷ b ∷ es))) [
      | inl less ↦ let e = same_Some (a, b) (c, d) (rw (lt-ltb keep (length (a ∷ b ∷ es)) less) at g) in (ap (λ (p : Epoch × Epoch). p.0) e, ap (λ (p : Epoch × Epoch). p.1) e)
      | inr more ↦ absurd (none-some (c, d) (rw (le-ltb keep (length (a ∷ b ∷ es)) more) at g))
    ]

-- the same of the list of epochs
record Gone (keep : ℕ) (es ys : List Epoch) (a b : Epoch) (n m : ℕ) : Type 0 where
  pub commits : commits_before es ≡ a.state.commits
  pub inputs : inputs_before es ≡ a.inputs
  pub base : commits_before ys ≡ b.state.commits
  pub base_inputs : inputs_before ys ≡ b.inputs
  pub later : a.state.commits ≤ b.state.commits
  pub later_inputs : a.inputs ≤ b.inputs
  pub first : IsCounted b.state × (b.state.commits ≤ n) × (b.inputs ≤ m)
  pub few : length ys ≤ keep
  pub some : ys ≡ [] → n ≡ 0
  pub follow : Follow ys n m

cons-some : {n : ℕ} (b : Epoch) (es : List Epoch) → b ∷ es ≡ [] → n ≡ 0
cons-some b es h = absurd (omega (arith, ap length h))

gone : (keep : ℕ) (es : List Epoch) (e : Epoch) (n m : ℕ) (c d : Epoch) → Follow es n m → length es ≤ keep → IsCounted e.state → e.state.commits ≡ n → e.inputs ≡ m
    → given_up keep (es ++ e ∷ []) ≡ Some (c, d) → Gone keep es (drop 1 (es ++ e ∷ [])) c d n m
gone keep [] e n m c d f few counted s i g = absurd (none-some (c, d) g)
gone keep (p ∷ []) e n m c d f few counted s i g =
    let both = given-both keep p e c d [] g in
    let all = Follow-push (p ∷ []) e n m f counted s i in
    rw (← both.0, ← both.1)
    (record {
      commits = refl;
      inputs = refl;
      base = refl;
      base_inputs = refl;
      later = all.1;
      later_inputs = all.2;
      first = all.3;
      few = few;
      some = cons-some e [];
      follow = all.3;
    })
gone keep (p ∷ q ∷ es) e n m c d f few counted s i g =
    let both = given-both keep p q c d (es ++ e ∷ []) g in
    let all = Follow-push (p ∷ q ∷ es) e n m f counted s i in
    rw (← both.0, ← both.1)
    (record {
      commits = refl;
      inputs = refl;
      base = refl;
      base_inputs = refl;
      later = all.1;
      later_inputs = all.2;
      first = Follow-first q (es ++ e ∷ []) n m all.3;
      few = omega (arith, few, length_push es e);
      some = cons-some q (es ++ e ∷ []);
      follow = all.3;
    })

-- if a new epoch makes a recording give up its earliest, it goes on with the others
pub gives_up : (x : Epochs) (e : Epoch) (n m : ℕ) (c d : Epoch) → AreEpochs x n m → IsCounted e.state → e.state.commits ≡ n → e.inputs ≡ m
    → given_up x.keep (x.begun ++ e ∷ []) ≡ Some (c, d) → IsGivenUp x (without_first (with_epoch e x)) c d n m
gives_up x e n m c d a counted s i g =
    let all = gone x.keep x.begun e n m c d a.follow a.few counted s i g in
    record {
      commits = all.commits;
      inputs = all.inputs;
      base = all.base;
      base_inputs = all.base_inputs;
      later = all.later;
      later_inputs = all.later_inputs;
      within = all.first.1;
      within_inputs = all.first.2;
      counted = all.first.0;
      are = record { size = a.size; keep = a.keep; few = all.few; first = all.some; follow = all.follow };
    }

-- what is left then of what is recorded
pub epoch_begun-up : (s : State) (r : Recorded) (x : Epochs) (a b : Epoch)
    → let e : Epoch = record { state = s; inputs = inputs_before x.begun + length r.inputs } in
    given_up x.keep (x.begun ++ e ∷ []) ≡ Some (a, b)
    → epoch_begun s (record { recorded = r; epochs = Some x })
    ≡ record { recorded = recorded_from (b.state.commits - a.state.commits) (b.inputs - a.inputs) b.state r; epochs = Some (without_first (with_epoch e x)) }
epoch_begun-up s r x a b g = rw g refl
