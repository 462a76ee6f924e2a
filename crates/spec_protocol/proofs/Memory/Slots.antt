-- Slots and their flights: what stands where after a change, and the words that fly then.
use Rattle.std.proofs.Common.{◌≡◌, ◌≢◌, ℕ, zero, suc, ◌<◌, ◌⊎◌, inl, inr, Bool, true, false, cond, List, [], ◌∷◌, ◌++◌, length, Option, Some, None, refl, sym, ap, ◌∙◌, subst, arith, set, get_or-set_same, get_or-set_other}
use Rattle.std.proofs.Math.ListN.{length-set}
use Rattle.std.proofs.lemmas.Bool.{cases_lt, cases_eq, eq-eqb, ne_eqb}
use Rattle.std.proofs.lemmas.Option.{none-some}
use Rattle.std.proofs.lemmas.List.{get_or_past, append_assoc}
use Rattle.spec_isa.specs.Words.{Stored, lays, Apart}
use Rattle.spec_engine.specs.Signatures.{Signature}
use Rattle.spec_engine.specs.Flights.{Flight, at, is_none, free_slot, is_full, fill, fill_at}
use Rattle.spec_engine.proofs.Searches.{free_slot-within, free_slot-free}
use Rattle.spec_protocol.specs.machine.World.{flown}
use Rattle.spec_engine.specs.Flying.{words_of, flying}
use Rattle.spec_play.proofs.Local.Laying.{lays_append, lays-lays}
use Rattle.spec_sphere.proofs.Memory.Laying.{AllLack_flip, AllLack_left, AllLack_right, AllLack-append, Apart_first, Apart_last, Apart_lack, Apart-append}
use Rattle.spec_play.specs.Touching.{AllLack}

-- ---- rows

-- what is put in a slot stands there
pub at-set_same : {A : Type 0} (xs : List (Option A)) (k : ℕ) (v : Option A) → k < length xs → at (set xs k v) k ≡ v
at-set_same xs k v l = get_or-set_same xs k v None l

-- what is put in a slot leaves the others
pub at-set_other : {A : Type 0} (xs : List (Option A)) (k j : ℕ) (v : Option A) → j ≢ k → at (set xs k v) j ≡ at xs j
at-set_other xs k j v ne = get_or-set_other xs k j v None ne

-- a slot in which something stands is one of the slots
pub at_within : {A : Type 0} (xs : List (Option A)) (k : ℕ) (x : A) → at xs k ≡ Some x → k < length xs
at_within xs k x e =
    elim (cases_lt k (length xs)) [ inl l ↦ l | inr past ↦ absurd (none-some x (sym (get_or_past xs k None past) ∙ e)) ]

-- what stands at j after a change at k: that, or what stood there
pub at-set : {A : Type 0} (xs : List (Option A)) (k j : ℕ) (v : Option A) → k < length xs → ((j ≡ k) × (at (set xs k v) j ≡ v)) ⊎ ((j ≢ k) × (at (set xs k v) j ≡ at xs j))
at-set xs k j v l =
    elim (cases_eq j k) [
      | inl e ↦ inl (e, ap (at (set xs k v)) e ∙ at-set_same xs k v l)
      | inr ne ↦ inr (ne, at-set_other xs k j v ne)
    ]

-- ---- the words that fly

-- the words of sphere i that fly in the slots before k
abbrev pub before : (i : ℕ) → List (Option Flight) → ℕ → List Stored
before i [] k = []
before i (x ∷ xs) zero = []
before i (x ∷ xs) (suc k) = words_of i x ++ before i xs k

-- the words of sphere i that fly in the slots after k
abbrev pub behind : (i : ℕ) → List (Option Flight) → ℕ → List Stored
behind i [] k = []
behind i (x ∷ xs) zero = flying i xs
behind i (x ∷ xs) (suc k) = behind i xs k

-- what flies of a sphere is what flies before slot k, in it and after it
pub flying-at : (i : ℕ) (xs : List (Option Flight)) (k : ℕ) → flying i xs ≡ before i xs k ++ (words_of i (at xs k) ++ behind i xs k)
flying-at i [] k = refl
flying-at i (x ∷ xs) zero = refl
flying-at i (x ∷ xs) (suc k) =
    ap (λ (ws : List Stored). words_of i x ++ ws) (flying-at i xs k) ∙ sym (append_assoc (words_of i x) (before i xs k) _)

-- after a change of slot k the new words stand between those before and after
pub flying-set : (i : ℕ) (xs : List (Option Flight)) (k : ℕ) (v : Option Flight) → k < length xs
    → flying i (set xs k v) ≡ before i xs k ++ (words_of i v ++ behind i xs k)
flying-set i [] k v l = absurd (omega arith)
flying-set i (x ∷ xs) zero v l = refl
flying-set i (x ∷ xs) (suc k) v l =
    ap (λ (ws : List Stored). words_of i x ++ ws) (flying-set i xs k v (omega arith)) ∙ sym (append_assoc (words_of i x) (before i xs k) _)

-- a slot with the same words of a sphere changes nothing of what flies
pub flying_same : (i : ℕ) (xs : List (Option Flight)) (k : ℕ) (v : Option Flight) → k < length xs → words_of i v ≡ words_of i (at xs k) → flying i (set xs k v) ≡ flying i xs
flying_same i xs k v l e =
    flying-set i xs k v l ∙ ap (λ (ws : List Stored). before i xs k ++ (ws ++ behind i xs k)) e ∙ sym (flying-at i xs k)

-- a flight of the sphere has all of its words in it
pub words-same : (i : ℕ) (f : Flight) → f.sphere ≡ i → words_of i (Some f) ≡ f.words
words-same i f e = ap (λ (b : Bool). cond b f.words []) (eq-eqb f.sphere i e)

-- a flight of another sphere has no words of this one
pub words-other : (i : ℕ) (f : Flight) → f.sphere ≢ i → words_of i (Some f) ≡ []
words-other i f ne = ap (λ (b : Bool). cond b f.words []) (ne_eqb f.sphere i ne)

-- ---- a new flight

-- if the slots aren't full, one of them is free
pub free_if : (xs : List (Option Flight)) → is_full xs ≡ false → (k : ℕ) × (free_slot xs ≡ Some k)
free_if xs e =
    elim (free_slot xs) as (λ (o : Option ℕ). is_none o ≡ false → (k : ℕ) × (o ≡ Some k)) [
      | None ↦ λ h. absurd (let k : true ≡ false = h in grind arith)
      | Some k ↦ λ h. (k, refl)
    ] e

-- how the slots are after a new flight f of sphere i, which stands at k then
pub record Filled (xs ys : List (Option Flight)) (f : Flight) (k : ℕ) : Type 0 where
  pub within : k < length xs
  pub free : at xs k ≡ None
  pub is : ys ≡ set xs k (Some f)

-- if the slots aren't full, a new flight goes into a free one and the others stay
pub fill-filled : (xs : List (Option Flight)) (f : Flight) → is_full xs ≡ false → (k : ℕ) × Filled xs (fill f xs) f k
fill-filled xs f e =
    let s = free_if xs e in (
      s.0,
      record {
        within = free_slot-within xs s.0 s.1;
        free = free_slot-free xs s.0 s.1;
        is = ap (λ (o : Option ℕ). fill_at o f xs) s.1;
      },
    )

no_words_there : (i : ℕ) (xs : List (Option Flight)) (k : ℕ) → at xs k ≡ None → flying i xs ≡ before i xs k ++ behind i xs k
no_words_there i xs k e = flying-at i xs k ∙ ap (λ (o : Option Flight). before i xs k ++ (words_of i o ++ behind i xs k)) e

record Landing (m : List ℕ) (i : ℕ) (xs ys : List (Option Flight)) (ws : List Stored) : Type 0 where
  lands : lays m (flying i ys) ≡ lays (lays m (flying i xs)) ws
  apart : Apart (flying i ys)

-- new words between two parts of those that fly, of which they share no word
between : (m : List ℕ) (b h ws : List Stored) → Apart (b ++ h) → Apart ws → AllLack ws (b ++ h) → (lays m (b ++ (ws ++ h)) ≡ lays (lays m (b ++ h)) ws) × Apart (b ++ (ws ++ h))
between m b h ws old apart lack =
    let wh = AllLack_right ws b h lack in
    let wb = AllLack_left ws b h lack in (
      lays_append m b (ws ++ h) ∙ lays_append (lays m b) ws h ∙ lays-lays (lays m b) ws h wh
          ∙ ap (λ (n : List ℕ). lays n ws) (sym (lays_append m b h)),
      Apart-append b (ws ++ h) (Apart_first b h old) (Apart-append ws h apart (Apart_last b h old) wh)
          (AllLack-append b ws h (AllLack_flip ws b wb) (Apart_lack b h old)),
    )

landing : (m : List ℕ) (i : ℕ) (xs ys : List (Option Flight)) (f : Flight) (k : ℕ) → Filled xs ys f k → f.sphere ≡ i → Apart (flying i xs) → Apart f.words → AllLack f.words (flying i xs) → Landing m i xs ys f.words
landing m i xs ys f k fl e old apart lack =
    let b = before i xs k in
    let h = behind i xs k in
    let was : flying i xs ≡ b ++ h = no_words_there i xs k fl.free in
    let now : flying i ys ≡ b ++ (f.words ++ h) =
    ap (flying i) fl.is ∙ flying-set i xs k (Some f) fl.within ∙ ap (λ (ws : List Stored). b ++ (ws ++ h)) (words-same i f e)
    in
    let r = between m b h f.words (subst Apart was old) apart (subst (AllLack f.words) was lack) in
    record {
      lands = ap (lays m) now ∙ r.0 ∙ ap (λ (ws : List Stored). lays (lays m ws) f.words) (sym was);
      apart = subst Apart (sym now) r.1;
    }

elsewhere : (j : ℕ) (xs ys : List (Option Flight)) (f : Flight) (k : ℕ) → Filled xs ys f k → f.sphere ≢ j → flying j ys ≡ flying j xs
elsewhere j xs ys f k fl ne =
    ap (flying j) fl.is ∙ flying_same j xs k (Some f) fl.within (words-other j f ne ∙ sym (ap (words_of j) fl.free))

-- what is true after the words of sphere i's commit were put in flight, if there are any
pub record Flew (i : ℕ) (f : Flight) (xs ys : List (Option Flight)) : Type 0 where
  pub size : length ys ≡ length xs
  pub lands : (m : List ℕ) → lays m (flying i ys) ≡ lays (lays m (flying i xs)) f.words
  pub apart : Apart (flying i ys)
  pub others : (j : ℕ) → j ≢ i → flying j ys ≡ flying j xs
  -- what stood stays; what stands stood or is the new flight; and this stands unless it has no words
  pub stays : (k : ℕ) (g : Flight) → at xs k ≡ Some g → at ys k ≡ Some g
  pub stood : (k : ℕ) (g : Flight) → at ys k ≡ Some g → (at xs k ≡ Some g) ⊎ (g ≡ f)
  pub stands : (f.words ≡ []) ⊎ ((k : ℕ) × (at ys k ≡ Some f))

stays_there : (xs ys : List (Option Flight)) (f : Flight) (k j : ℕ) (g : Flight) → Filled xs ys f k → at xs j ≡ Some g → at ys j ≡ Some g
stays_there xs ys f k j g fl e =
    ap (λ (zs : List (Option Flight)). at zs j) fl.is
    ∙ at-set_other xs k j (Some f) (λ same. none-some g (sym fl.free ∙ ap (at xs) (sym same) ∙ e)) ∙ e

stood_there : (xs ys : List (Option Flight)) (f : Flight) (k j : ℕ) (g : Flight) → Filled xs ys f k → at ys j ≡ Some g → (at xs j ≡ Some g) ⊎ (g ≡ f)
stood_there xs ys f k j g fl e =
    let h : at (set xs k (Some f)) j ≡ Some g = sym (ap (λ (zs : List (Option Flight)). at zs j) fl.is) ∙ e in
    elim (at-set xs k j (Some f) fl.within) [
      | inl p ↦ inr (let q : Some g ≡ Some f = sym h ∙ p.1 in let r : g ≡ f = cc in r)
      | inr p ↦ inl (sym p.1 ∙ h)
    ]

filled_flew : (i : ℕ) (f : Flight) (xs : List (Option Flight)) → f.sphere ≡ i → is_full xs ≡ false → Apart (flying i xs) → Apart f.words → AllLack f.words (flying i xs) → Flew i f xs (fill f xs)
filled_flew i f xs e full old apart lack =
    let s = fill-filled xs f full in
    let fl = s.1 in
    record {
      size = ap length fl.is ∙ length-set xs s.0 (Some f);
      lands = λ m. (landing m i xs (fill f xs) f s.0 fl e old apart lack).lands;
      apart = (landing [] i xs (fill f xs) f s.0 fl e old apart lack).apart;
      others = λ j ne. elsewhere j xs (fill f xs) f s.0 fl (λ h. ne (sym h ∙ e));
      stays = λ k g h. stays_there xs (fill f xs) f s.0 k g fl h;
      stood = λ k g h. stood_there xs (fill f xs) f s.0 k g fl h;
      stands = inr (s.0, ap (λ (zs : List (Option Flight)). at zs s.0) fl.is ∙ at-set_same xs s.0 (Some f) fl.within);
    }

unflown_flew : (i : ℕ) (f : Flight) (xs : List (Option Flight)) → f.words ≡ [] → Apart (flying i xs) → Flew i f xs xs
unflown_flew i f xs e old =
    record {
      size = refl;
      lands = λ m. ap (lays (lays m (flying i xs))) (sym e);
      apart = old;
      others = λ j ne. refl;
      stays = λ k g h. h;
      stood = λ k g h. inl h;
      stands = inl e;
    }

-- the words of a commit fly in a slot that was free, and no other slot has changed
pub flown-flew : (i : ℕ) (ws : List Stored) (writes : Signature) (told : ℕ) (xs : List (Option Flight)) → is_full xs ≡ false → Apart (flying i xs) → Apart ws → AllLack ws (flying i xs)
    → Flew i (record { sphere = i; words = ws; writes = writes; told = told }) xs (flown i ws writes told xs)
flown-flew i [] writes told xs full old apart lack = unflown_flew i _ xs refl old
flown-flew i (w ∷ ws) writes told xs full old apart lack = filled_flew i _ xs refl full old apart lack
