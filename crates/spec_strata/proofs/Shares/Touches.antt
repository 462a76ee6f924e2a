-- Who has touched each word tells conflicts, and follows the commits.
use Rattle.std.proofs.Common.{◌≡◌, ◌≢◌, ℕ, inl, inr, Bool, true, false, ◌||◌, List, [], ◌∷◌, ◌++◌, map, Option, Some, refl, sym, ap, ◌∙◌, subst}
use Rattle.std.specs.Prelude.{slice_get, slice_set, nat_eq, if◌then◌else◌}
use Rattle.std.proofs.lemmas.Bool.{cases_Bool, cases_eq, eq-eqb, ne_eqb, or_left, or_right, or_cases}
use Rattle.spec_isa.specs.declared.thread.Parts.{Parts}
use Rattle.spec_isa.specs.Words.{Stored, holds}
use Rattle.spec_play.specs.Touching.{Unseen}
use Rattle.spec_strata.specs.Footprints.{looks}
use Rattle.spec_strata.specs.Shares.{Share, empty_share, next_run, next_seen, share_more, with_more, commit_more}
use Rattle.spec_strata.specs.Parallel.{OthersMiss, OthersBlind}
use Rattle.spec_strata.specs.declared.touch.Touch.{Touch}
use Rattle.spec_strata.specs.declared.touch.Touch.TheVariants.{Untouched, SeenBy, Shared, StoredBy}
use Rattle.spec_strata.specs.Touches.{is_other, bars_look, bars_store, looked_at, touched, IsFree, HasShare, EachShare, OtherShares, IsTouch, AreTouches, TouchesBegin, TouchesTell, TouchesFollow}
use Rattle.spec_strata.proofs.Shares.Steps.{get-set_same, get-set_other, same_some, mapped}
use Rattle.spec_strata.proofs.Shares.Testing.{clear_is_tested}
use Rattle.spec_strata.proofs.Plays.Strata.{get-map}

-- ---- truth

clash : {A : Type 0} (b : Bool) → b ≡ true → b ≡ false → A
clash true p q = cc
clash false p q = cc

or-false : (a b : Bool) → a ≡ false → b ≡ false → (a || b) ≡ false
or-false a b p q = (λ i. p i || q i)

other-is : (k j : ℕ) → j ≢ k → is_other k j ≡ true
other-is k j ne = ap (λ (b : Bool). if b then false else true) (ne_eqb j k ne)

other-isnt : (k j : ℕ) → j ≡ k → is_other k j ≡ false
other-isnt k j e = ap (λ (b : Bool). if b then false else true) (eq-eqb j k e)

-- a thread that isn't barred is the one
same-thread : (k j : ℕ) → is_other k j ≡ false → j ≡ k
same-thread k j e = elim (cases_eq j k) [
  | inl same ↦ same
  | inr ne ↦ clash (is_other k j) (other-is k j ne) e
]

-- ---- words

-- what isn't seen holds no word that is
unseen-from : (seen : ℕ → Bool) (ws : List Stored) → ((a : ℕ) → holds ws a ≡ true → seen a ≡ false) → Unseen seen ws
unseen-from seen [] h = tt
unseen-from seen (w ∷ ws) h = (
  h w.number (ap (λ (b : Bool). if b then true else holds ws w.number) (eq-eqb w.number w.number refl)),
  unseen-from seen ws (λ a is. h a (later (nat_eq w.number a) (holds ws a) is)),
)
  where
    later : (b c : Bool) → c ≡ true → (if b then true else c) ≡ true
    later true c e = refl
    later false c e = e

unseen-at : (seen : ℕ → Bool) (ws : List Stored) → Unseen seen ws → (a : ℕ) → holds ws a ≡ true → seen a ≡ false
unseen-at seen [] u a is = cc
unseen-at seen (w ∷ ws) u a is =
    elim (cases_eq w.number a) [
      | inl e ↦ ap seen (sym e) ∙ u.0
      | inr ne ↦ unseen-at seen ws u.1 a (sym (ap (λ (b : Bool). if b then true else holds ws a) (ne_eqb w.number a ne)) ∙ is)
    ]

holds-append : (xs ys : List Stored) (a : ℕ) → holds (xs ++ ys) a ≡ (holds xs a || holds ys a)
holds-append [] ys a = refl
holds-append (x ∷ xs) ys a = by (nat_eq x.number a) (holds xs a) (holds ys a) (holds (xs ++ ys) a) (holds-append xs ys a)
  where
    by : (b c d e : Bool) → e ≡ (c || d) → (if b then true else e) ≡ ((if b then true else c) || d)
    by true c d e h = refl
    by false c d e h = h

-- ---- conflicts

-- what a commit of thread k looks at, and what it stores
module _ (ps : List Share) (touches : ℕ → Touch) (t : AreTouches ps touches) (k : ℕ) (seen : ℕ → Bool) (ws : List Stored) where
  -- a word that another thread stores is barred
  stored-barred : (j : ℕ) (p : Share) (a : ℕ) → j ≢ k → slice_get ps j ≡ Some p → holds p.words a ≡ true → (x : Touch) → IsTouch ps a x → bars_look x k ≡ true
  stored-barred j p a ne there stores Untouched is = clash (p.seen a) (t.stored_seen a j p there stores) (is j p there)
  stored-barred j p a ne there stores (SeenBy i) is = clash (holds p.words a) stores (is.0 j p there)
  stored-barred j p a ne there stores Shared is = clash (holds p.words a) stores (is.0 j p there)
  stored-barred j p a ne there stores (StoredBy i) is =
      elim (cases_eq j i) [
        | inl e ↦ other-is k i (λ h. ne (e ∙ h))
        | inr apart ↦ clash (p.seen a) (t.stored_seen a j p there stores) (is.1 j p apart there)
      ]

  -- a word that another thread has seen bars stores
  seen-barred : (j : ℕ) (p : Share) (a : ℕ) → j ≢ k → slice_get ps j ≡ Some p → p.seen a ≡ true → (x : Touch) → IsTouch ps a x → bars_store x k ≡ true
  seen-barred j p a ne there sees Untouched is = clash (p.seen a) sees (is j p there)
  seen-barred j p a ne there sees (SeenBy i) is =
      elim (cases_eq j i) [
        | inl e ↦ other-is k i (λ h. ne (e ∙ h))
        | inr apart ↦ clash (p.seen a) sees (is.2 j p apart there)
      ]
  seen-barred j p a ne there sees Shared is = refl
  seen-barred j p a ne there sees (StoredBy i) is =
      elim (cases_eq j i) [
        | inl e ↦ other-is k i (λ h. ne (e ∙ h))
        | inr apart ↦ clash (p.seen a) sees (is.1 j p apart there)
      ]

  not-true : (b : Bool) → (b ≡ true → b ≡ false) → b ≡ false
  not-true b h = elim (cases_Bool b) [ inl e ↦ h e | inr e ↦ e ]

  free-misses : IsFree touches k seen ws → OthersMiss seen k ps
  free-misses f =
      record {
        each = λ j p ne there. unseen-from seen p.words (λ a stores. not-true (seen a) (λ looks.
            clash (bars_look (touches a) k) (stored-barred j p a ne there stores (touches a) (t.each a)) (f.looks a looks)));
      }

  free-blind : IsFree touches k seen ws → OthersBlind ws k ps
  free-blind f =
      record {
        each = λ j p ne there. unseen-from p.seen ws (λ a stores. not-true (p.seen a) (λ sees.
            clash (bars_store (touches a) k) (seen-barred j p a ne there sees (touches a) (t.each a)) (f.stores a stores)));
      }

  -- and so the other way round
  looks-free : OthersMiss seen k ps → (a : ℕ) → seen a ≡ true → (x : Touch) → IsTouch ps a x → bars_look x k ≡ false
  looks-free miss a looks Untouched is = refl
  looks-free miss a looks (SeenBy i) is = refl
  looks-free miss a looks Shared is = refl
  looks-free miss a looks (StoredBy i) is =
      elim (cases_eq i k) [
        | inl e ↦ other-isnt k i e
        | inr ne ↦ clash (seen a) looks (unseen-at seen is.0.share.words (miss.each i is.0.share ne is.0.there) a is.0.so)
      ]

  stores-free : OthersBlind ws k ps → (a : ℕ) → holds ws a ≡ true → (x : Touch) → IsTouch ps a x → bars_store x k ≡ false
  stores-free blind a stores Untouched is = refl
  stores-free blind a stores (SeenBy i) is =
      elim (cases_eq i k) [
        | inl e ↦ other-isnt k i e
        | inr ne ↦ clash (is.1.share.seen a) is.1.so (unseen-at is.1.share.seen ws (blind.each i is.1.share ne is.1.there) a stores)
      ]
  stores-free blind a stores Shared is =
      let o = is.1 k in
      let h = o.1.1 in
      clash (h.share.seen a) h.so (unseen-at h.share.seen ws (blind.each o.0 h.share o.1.0 h.there) a stores)
  stores-free blind a stores (StoredBy i) is =
      elim (cases_eq i k) [
        | inl e ↦ other-isnt k i e
        | inr ne ↦ (
            let h = is.0 in
            clash (h.share.seen a) (t.stored_seen a i h.share h.there h.so) (unseen-at h.share.seen ws (blind.each i h.share ne h.there) a stores)
            )
      ]

  is-free : OthersMiss seen k ps → OthersBlind ws k ps → IsFree touches k seen ws
  is-free miss blind =
      record {
        looks = λ a looks. looks-free miss a looks (touches a) (t.each a);
        stores = λ a stores. stores-free blind a stores (touches a) (t.each a);
      }

-- a commit passes the test for conflicts exactly if it touches no barred word
pub touches_tell : TouchesTell
touches_tell q x k p touches t =
    let seen : ℕ → Bool = next_seen q x.memory p in
    let ws : List Stored = (next_run q x.memory p).words in
    let tested = clear_is_tested q x k p in (
      (λ f. tested.1 (record { miss = free-misses x.shares touches t k seen ws f; blind = free-blind x.shares touches t k seen ws f })),
      (λ e. let c = tested.0 e in is-free x.shares touches t k seen ws c.miss c.blind),
    )

-- ---- at the start

-- at the start of a stratum no word is touched
pub touches_begin : TouchesBegin
touches_begin m ts =
    record {
      each = λ a j p there. let s = start j p there in subst (λ (o : Share). o.seen a ≡ false) s.1 refl;
      stored_seen = λ a j p there stores. let s = start j p there in clash (holds p.words a) stores (subst (λ (o : Share). holds o.words a ≡ false) s.1 refl);
    }
  where
    start : (j : ℕ) (p : Share) → slice_get (map empty_share ts) j ≡ Some p → (t : Parts) × (empty_share t ≡ p)
    start j p there = let a = mapped empty_share (slice_get ts j) p (sym (get-map empty_share ts j) ∙ there) in (a.0, a.1.1)

-- ---- one commit more

-- thread k's share grows by a commit that touches no barred word
module _ (ps : List Share) (touches : ℕ → Touch) (t : AreTouches ps touches) (k : ℕ) (seen : ℕ → Bool) (ws : List Stored) (f : IsFree touches k seen ws)
    (p r : Share) (there : slice_get ps k ≡ Some p) (sees : (a : ℕ) → r.seen a ≡ (p.seen a || seen a)) (stores : (a : ℕ) → holds r.words a ≡ (holds p.words a || holds ws a))
    (covers : (a : ℕ) → holds ws a ≡ true → seen a ≡ true) where
  abbrev now : List Share
  now = slice_set ps k r

  mine : slice_get now k ≡ Some r
  mine = get-set_same ps k r p there

  others : (j : ℕ) → j ≢ k → slice_get now j ≡ slice_get ps j
  others j ne = get-set_other ps k j r ne

  -- what holds of the new share and of the old ones holds of each
  each-now : (is : Share → Type 0) → is r → ((j : ℕ) (o : Share) → j ≢ k → slice_get ps j ≡ Some o → is o) → EachShare now is
  each-now is own old j o get =
      elim (cases_eq j k) [
        | inl e ↦ subst is (same_some r o (sym mine ∙ ap (λ (i : ℕ). slice_get now i) (sym e) ∙ get)) own
        | inr ne ↦ old j o ne (sym (others j ne) ∙ get)
      ]

  has-now : (is : Share → Type 0) (j : ℕ) → j ≢ k → HasShare ps j is → HasShare now j is
  has-now is j ne h = record { share = h.share; there = others j ne ∙ h.there; so = h.so }

  own-now : (is : Share → Type 0) → is r → HasShare now k is
  own-now is own = record { share = r; there = mine; so = own }

  others-now : (is : Share → Type 0) → ((j : ℕ) (o : Share) → j ≢ k → slice_get ps j ≡ Some o → is o) → OtherShares now k is
  others-now is old j o ne get = old j o ne (sym (others j ne) ∙ get)

  not-stored : (a : ℕ) (j : ℕ) (o : Share) → slice_get ps j ≡ Some o → o.seen a ≡ false → holds o.words a ≡ false
  not-stored a j o get unseen =
      elim (cases_Bool (holds o.words a)) [
        | inl e ↦ clash (o.seen a) (t.stored_seen a j o get e) unseen
        | inr e ↦ e
      ]

  -- a word that it stores
  stored-now : (a : ℕ) → holds ws a ≡ true → (x : Touch) → IsTouch ps a x → bars_store x k ≡ false → IsTouch now a (StoredBy k)
  stored-now a store x is free = (
    own-now (λ o. holds o.words a ≡ true) (stores a ∙ or_right (holds p.words a) (holds ws a) store),
    others-now (λ o. o.seen a ≡ false) (λ j o ne get. unseen j o ne get x is free),
  )
    where
      unseen : (j : ℕ) (o : Share) → j ≢ k → slice_get ps j ≡ Some o → (x : Touch) → IsTouch ps a x → bars_store x k ≡ false → o.seen a ≡ false
      unseen j o ne get Untouched is free = is j o get
      unseen j o ne get (SeenBy i) is free = is.2 j o (λ e. ne (e ∙ same-thread k i free)) get
      unseen j o ne get Shared is free = cc
      unseen j o ne get (StoredBy i) is free = is.1 j o (λ e. ne (e ∙ same-thread k i free)) get

  own-seen : (a : ℕ) → seen a ≡ true → r.seen a ≡ true
  own-seen a look = sees a ∙ or_right (p.seen a) (seen a) look

  own-unstored : (a : ℕ) → holds ws a ≡ false → holds p.words a ≡ false → holds r.words a ≡ false
  own-unstored a store old = stores a ∙ or-false (holds p.words a) (holds ws a) old store

  -- a word that it looks at, and doesn't store
  looked-now : (a : ℕ) → holds ws a ≡ false → seen a ≡ true → (x : Touch) → IsTouch ps a x → bars_look x k ≡ false → IsTouch now a (looked_at x k)
  looked-now a store look Untouched is free = (
    each-now (λ o. holds o.words a ≡ false) (own-unstored a store (not-stored a k p there (is k p there))) (λ j o ne get. not-stored a j o get (is j o get)),
    own-now (λ o. o.seen a ≡ true) (own-seen a look),
    others-now (λ o. o.seen a ≡ false) (λ j o ne get. is j o get),
  )
  looked-now a store look (SeenBy i) is free =
      elim (cases_eq i k) [
        | inl e ↦ subst (IsTouch now a) (sym (ap (λ (b : Bool). if b then SeenBy k else Shared) (eq-eqb i k e))) (
          each-now (λ o. holds o.words a ≡ false) (own-unstored a store (is.0 k p there)) (λ j o ne get. is.0 j o get),
          own-now (λ o. o.seen a ≡ true) (own-seen a look),
          others-now (λ o. o.seen a ≡ false) (λ j o ne get. is.2 j o (λ h. ne (h ∙ e)) get),
        )
        | inr apart ↦ subst (IsTouch now a) (sym (ap (λ (b : Bool). if b then SeenBy k else Shared) (ne_eqb i k apart))) (
          each-now (λ o. holds o.words a ≡ false) (own-unstored a store (is.0 k p there)) (λ j o ne get. is.0 j o get),
          (λ j. elim (cases_eq j k) [
            | inl e ↦ (i, ((λ h. apart (h ∙ e)), has-now (λ o. o.seen a ≡ true) i apart is.1))
            | inr ne ↦ (k, ((λ h. ne (sym h)), own-now (λ o. o.seen a ≡ true) (own-seen a look)))
          ]),
        )
      ]
  looked-now a store look Shared is free = (
    each-now (λ o. holds o.words a ≡ false) (own-unstored a store (is.0 k p there)) (λ j o ne get. is.0 j o get),
    (λ j. let s = is.1 j in elim (cases_eq s.0 k) [
      | inl e ↦ (k, ((λ h. s.1.0 (e ∙ h)), own-now (λ o. o.seen a ≡ true) (own-seen a look)))
      | inr ne ↦ (s.0, (s.1.0, has-now (λ o. o.seen a ≡ true) s.0 ne s.1.1))
    ]),
  )
  looked-now a store look (StoredBy i) is free =
      let e : i ≡ k = same-thread k i free in
      let mine_was = subst (λ (j : ℕ). HasShare ps j (λ o. holds o.words a ≡ true)) e is.0 in
      let held : holds p.words a ≡ true = subst (λ (o : Share). holds o.words a ≡ true) (same_some mine_was.share p (sym mine_was.there ∙ there)) mine_was.so in
      subst (λ (j : ℕ). IsTouch now a (StoredBy j)) (sym e) (
        own-now (λ o. holds o.words a ≡ true) (stores a ∙ or_left (holds p.words a) (holds ws a) held),
        others-now (λ o. o.seen a ≡ false) (λ j o ne get. is.1 j o (λ h. ne (h ∙ e)) get),
      )

  -- any other word
  kept-now : (a : ℕ) → holds ws a ≡ false → seen a ≡ false → (x : Touch) → IsTouch ps a x → IsTouch now a x
  kept-now a store look Untouched is =
      each-now (λ o. o.seen a ≡ false) (sees a ∙ or-false (p.seen a) (seen a) (is k p there) look) (λ j o ne get. is j o get)
  kept-now a store look (SeenBy i) is = (
    each-now (λ o. holds o.words a ≡ false) (own-unstored a store (is.0 k p there)) (λ j o ne get. is.0 j o get),
    elim (cases_eq i k) [
      | inl e ↦ subst (λ (j : ℕ). HasShare now j (λ o. o.seen a ≡ true)) (sym e) (own-now (λ o. o.seen a ≡ true) (sees a ∙ or_left (p.seen a) (seen a) (had (λ o. o.seen a ≡ true) i e is.1)))
      | inr ne ↦ has-now (λ o. o.seen a ≡ true) i ne is.1
    ],
    (λ j o ne get. elim (cases_eq j k) [
      | inl e ↦ subst (λ (s : Share). s.seen a ≡ false) (same_some r o (sym mine ∙ ap (λ (i : ℕ). slice_get now i) (sym e) ∙ get))
          (sees a ∙ or-false (p.seen a) (seen a) (is.2 k p (λ h. ne (e ∙ h)) there) look)
      | inr apart ↦ is.2 j o ne (sym (others j apart) ∙ get)
    ]),
  )
    where
      had : (is : Share → Type 0) (i : ℕ) → i ≡ k → HasShare ps i is → is p
      had is i e h = let g = subst (λ (j : ℕ). HasShare ps j is) e h in subst is (same_some g.share p (sym g.there ∙ there)) g.so
  kept-now a store look Shared is = (
    each-now (λ o. holds o.words a ≡ false) (own-unstored a store (is.0 k p there)) (λ j o ne get. is.0 j o get),
    (λ j. let s = is.1 j in elim (cases_eq s.0 k) [
      | inl e ↦ (k, ((λ h. s.1.0 (e ∙ h)), own-now (λ o. o.seen a ≡ true) (sees a ∙ or_left (p.seen a) (seen a) (had (λ o. o.seen a ≡ true) s.0 e s.1.1))))
      | inr ne ↦ (s.0, (s.1.0, has-now (λ o. o.seen a ≡ true) s.0 ne s.1.1))
    ]),
  )
    where
      had : (is : Share → Type 0) (i : ℕ) → i ≡ k → HasShare ps i is → is p
      had is i e h = let g = subst (λ (j : ℕ). HasShare ps j is) e h in subst is (same_some g.share p (sym g.there ∙ there)) g.so
  kept-now a store look (StoredBy i) is = (
    elim (cases_eq i k) [
      | inl e ↦ subst (λ (j : ℕ). HasShare now j (λ o. holds o.words a ≡ true)) (sym e)
          (own-now (λ o. holds o.words a ≡ true) (stores a ∙ or_left (holds p.words a) (holds ws a) (had (λ o. holds o.words a ≡ true) i e is.0)))
      | inr ne ↦ has-now (λ o. holds o.words a ≡ true) i ne is.0
    ],
    (λ j o ne get. elim (cases_eq j k) [
      | inl e ↦ subst (λ (s : Share). s.seen a ≡ false) (same_some r o (sym mine ∙ ap (λ (i : ℕ). slice_get now i) (sym e) ∙ get))
          (sees a ∙ or-false (p.seen a) (seen a) (is.1 k p (λ h. ne (e ∙ h)) there) look)
      | inr apart ↦ is.1 j o ne (sym (others j apart) ∙ get)
    ]),
  )
    where
      had : (is : Share → Type 0) (i : ℕ) → i ≡ k → HasShare ps i is → is p
      had is i e h = let g = subst (λ (j : ℕ). HasShare ps j is) e h in subst is (same_some g.share p (sym g.there ∙ there)) g.so

  touch-now : (a : ℕ) (h s : Bool) → holds ws a ≡ h → seen a ≡ s → IsTouch now a (if h then StoredBy k else if s then looked_at (touches a) k else touches a)
  touch-now a true s store look = stored-now a store (touches a) (t.each a) (f.stores a store)
  touch-now a false true store look = looked-now a store look (touches a) (t.each a) (f.looks a look)
  touch-now a false false store look = kept-now a store look (touches a) (t.each a)

  pub touches-now : AreTouches now (touched touches k seen ws)
  touches-now =
      record {
        each = λ a. touch-now a (holds ws a) (seen a) refl refl;
        stored_seen = λ a. each-now (λ o. holds o.words a ≡ true → o.seen a ≡ true)
            (λ held. elim (or_cases (holds p.words a) (holds ws a) (sym (stores a) ∙ held)) [
              | inl e ↦ sees a ∙ or_left (p.seen a) (seen a) (t.stored_seen a k p there e)
              | inr e ↦ own-seen a (covers a e)
            ])
            (λ j o ne get. t.stored_seen a j o get);
      }

-- after a commit that touches no barred word, only the touches of its own words have changed
pub touches_follow : TouchesFollow
unfolding commit_more share_more
touches_follow q x k p touches t there f =
    let seen : ℕ → Bool = next_seen (q k) x.memory p in
    let ws : List Stored = (next_run (q k) x.memory p).words in
    let r : Share = share_more (q k) x.memory p in
    let moved : (commit_more q x k).shares ≡ slice_set x.shares k r = ap (λ (o : Option Share). (with_more q x k o).shares) there in
    subst (λ (ps : List Share). AreTouches ps (touched touches k seen ws)) (sym moved)
    (touches-now x.shares touches t k seen ws f p r there (λ a. refl) (λ a. holds-append p.words ws a)
    (λ a is. or_right (looks x.memory p.thread ((q k).size p.thread) a) (holds ws a) is))
