-- The answer that is found by going through the commits is the answer.
use Rattle.std.proofs.Common.{◌≡◌, ◌≢◌, ℕ, zero, suc, ◌+◌, ◌<◌, ◌≤◌, ◌⊎◌, inl, inr, ◌-◌, Bool, true, false, List, [], ◌∷◌, length, map, Option, Some, None, if◌then◌else◌, refl, sym, ap, ◌∙◌, subst, arith}
use Rattle.std.specs.Prelude.{slice_get, nat_eq, ◌||◌, not}
use Rattle.std.specs.List.{flat_map, sum}
use Rattle.std.proofs.Math.Nat.{eq-or-lt_of_le}
use Rattle.std.proofs.lemmas.Bool.{true≢false, cases_lt, le-ltb, eq-eqb, eqb-true}
use Rattle.std.proofs.lemmas.List.{length-append, length-map, length-replicate}
use Rattle.std.proofs.lemmas.List.Sums.{sum_by-cons}
use Rattle.std.proofs.lemmas.Option.{none-some}
use Rattle.dl_entry.specs.declared.Commit.{Commit}
use Rattle.dl_entry.specs.declared.CommitKind.{CommitKind}
use Rattle.dl_entry.specs.declared.End.{End}
use Rattle.dl_entry.specs.declared.Why.{Why}
use Rattle.spec_log.specs.declared.LogParts.{LogParts}
use Rattle.spec_play.specs.Turns.{TurnOrEnd, Turn, TurnOfDma, Ended}
use Rattle.spec_play.specs.Plays.{Played, FitsImage, opened, plays, play}
use Rattle.spec_play.proofs.Going.{play-over}
use Rattle.spec_strata.specs.declared.stratum.Stratum.{Stratum}
use Rattle.spec_strata.specs.declared.stratum.Stratum.TheVariants.{Chunks, Serial, Dma}
use Rattle.spec_strata.specs.declared.strata.StrataParts.{StrataParts}
use Rattle.spec_strata.specs.Strata.{commits_in, commits_in_all}
use Rattle.spec_strata.specs.Canonical.{canonical}
use Rattle.spec_strata.specs.OnImages.{kinds_of, conflicts_in, conflicts_at}
use Rattle.spec_strata.specs.Checking.{IsUnfit, IsAnswer, first_from, is_diverged_at, are_same, is_other_kind, is_unfit, is_conflict, conflict_or_none, unfit_or, answer_of, AnswersAreFound}
use Rattle.spec_strata.proofs.Images.Ending.{ends-as, fits-complete, few-commits}
use Rattle.spec_strata.proofs.Images.Following.{follows}
use Rattle.spec_strata.proofs.Images.Going.{get-past, length-of}
use Rattle.spec_strata.proofs.Shares.Steps.{same_by_get}

-- ---- the least number

record FoundAt (test : ℕ → Bool) (i n k : ℕ) : Type 0 where
  from : i ≤ k
  holds : test k ≡ true
  first : (j : ℕ) → i ≤ j → j < k → test j ≡ false

abbrev Found : (test : ℕ → Bool) → (i n : ℕ) → Option ℕ → Type 0
Found test i n None = (j : ℕ) → i ≤ j → j < i + n → test j ≡ false
Found test i n (Some k) = FoundAt test i n k

further : (test : ℕ → Bool) (i n : ℕ) (o : Option ℕ) → test i ≡ false → Found test (suc i) n o → Found test i (suc n) o
further test i n None e h = λ j l m. elim (eq-or-lt_of_le l) as (λ _. test j ≡ false) [
  | inl same ↦ subst (λ (x : ℕ). test x ≡ false) same e
  | inr less ↦ h j less (omega (arith, m))
]
further test i n (Some k) e h = record {
  from = let l = h.from in omega (arith, l);
  holds = h.holds;
  first = λ j l m. elim (eq-or-lt_of_le l) as (λ _. test j ≡ false) [
    | inl same ↦ subst (λ (x : ℕ). test x ≡ false) same e
    | inr less ↦ h.first j less m
  ];
}

more-from : (test : ℕ → Bool) (i n : ℕ) (b : Bool) → test i ≡ b → Found test (suc i) n (first_from test (suc i) n) → Found test i (suc n) (if b then Some i else first_from test (suc i) n)
more-from test i n true e found = record { from = omega arith; holds = e; first = λ j l m. absurd (omega (arith, l, m)) }
more-from test i n false e found = further test i n (first_from test (suc i) n) e found

found-from : (test : ℕ → Bool) (i n : ℕ) → Found test i n (first_from test i n)
found-from test i zero = λ j l m. absurd (omega (arith, l, m))
found-from test i (suc n) = more-from test i n (test i) refl (found-from test (suc i) n)

-- ---- a commit that doesn't fit

nat_eq-same : (n : ℕ) → nat_eq n n ≡ true
nat_eq-same n = eq-eqb n n refl

nat_eq-is : (n m : ℕ) → nat_eq n m ≡ true → n ≡ m
nat_eq-is n m e = eqb-true n m e

or-cases : (a b : Bool) → (a || b) ≡ true → (a ≡ true) ⊎ (b ≡ true)
or-cases true b e = inl refl
or-cases false b e = inr e

or-last : (a b : Bool) → b ≡ true → (a || b) ≡ true
or-last true b e = refl
or-last false b e = e

or-none : (a b : Bool) → (a || b) ≡ false → b ≡ false
or-none true b e = absurd (true≢false e)
or-none false b e = e

diverged-is : (now : TurnOrEnd) (i : ℕ) → is_diverged_at now i ≡ true → (why : Why) × (now ≡ Ended (End.Diverged i why))
diverged-is (Turn k) i e = absurd (true≢false (sym e))
diverged-is TurnOfDma i e = absurd (true≢false (sym e))
diverged-is (Ended (End.Complete n)) i e = absurd (true≢false (sym e))
diverged-is (Ended (End.At n)) i e = absurd (true≢false (sym e))
diverged-is (Ended (End.Diverged n why)) i e = (why, ap (λ (j : ℕ). Ended (End.Diverged j why)) (nat_eq-is n i e))

same-kind : (a b : CommitKind) → not (are_same a b) ≡ false → b ≡ a
same-kind CommitKind.Chunk CommitKind.Chunk e = refl
same-kind CommitKind.Chunk CommitKind.Serial e = absurd (true≢false e)
same-kind CommitKind.Chunk CommitKind.Dma e = absurd (true≢false e)
same-kind CommitKind.Chunk CommitKind.Piece e = absurd (true≢false e)
same-kind CommitKind.Serial CommitKind.Chunk e = absurd (true≢false e)
same-kind CommitKind.Serial CommitKind.Serial e = refl
same-kind CommitKind.Serial CommitKind.Dma e = absurd (true≢false e)
same-kind CommitKind.Serial CommitKind.Piece e = absurd (true≢false e)
same-kind CommitKind.Dma CommitKind.Chunk e = absurd (true≢false e)
same-kind CommitKind.Dma CommitKind.Serial e = absurd (true≢false e)
same-kind CommitKind.Dma CommitKind.Dma e = refl
same-kind CommitKind.Dma CommitKind.Piece e = absurd (true≢false e)
same-kind CommitKind.Piece CommitKind.Chunk e = absurd (true≢false e)
same-kind CommitKind.Piece CommitKind.Serial e = absurd (true≢false e)
same-kind CommitKind.Piece CommitKind.Dma e = absurd (true≢false e)
same-kind CommitKind.Piece CommitKind.Piece e = refl

are_same-self : (a : CommitKind) → are_same a a ≡ true
are_same-self CommitKind.Chunk = refl
are_same-self CommitKind.Serial = refl
are_same-self CommitKind.Dma = refl
are_same-self CommitKind.Piece = refl

other-kind : (a b : CommitKind) → not (are_same a b) ≡ true → b ≢ a
other-kind a b e same =
    true≢false (sym e ∙ ap (λ (k : CommitKind). not (are_same a k)) same ∙ ap not (are_same-self a))

some-same : (a b : CommitKind) → Some a ≡ Some b → a ≡ b
some-same a b e = cc

-- what the test says of a commit that is done, and what is held in its place
record IsOther (done held : Option CommitKind) : Type 0 where
  kind : CommitKind
  there : done ≡ Some kind
  other : held ≢ Some kind

other-is : (done held : Option CommitKind) → is_other_kind done held ≡ true → IsOther done held
other-is None held e = absurd (true≢false (sym e))
other-is (Some k) None e = record { kind = k; there = refl; other = λ same. none-some k same }
other-is (Some k) (Some h) e = record { kind = k; there = refl; other = λ same. other-kind k h e (some-same h k same) }

held-is : (done held : Option CommitKind) (k : CommitKind) → is_other_kind done held ≡ false → done ≡ Some k → held ≡ Some k
held-is None held k e is = absurd (none-some k is)
held-is (Some d) None k e is = absurd (true≢false e)
held-is (Some d) (Some h) k e is = ap (λ (x : CommitKind). Some x) (same-kind d h e) ∙ is

other-shown : (done held : Option CommitKind) (k : CommitKind) → done ≡ Some k → held ≢ Some k → is_other_kind done held ≡ true
other-shown done held k is other = by-test (is_other_kind done held) refl
  where
    by-test : (b : Bool) → is_other_kind done held ≡ b → b ≡ true
    by-test true e = refl
    by-test false e = absurd (other (held-is done held k e is))

module _ (v : StrataParts) (memory : List ℕ) (entry : ℕ) where
  abbrev log : LogParts
  log = canonical v

  abbrev done : List CommitKind
  done = map (λ (c : Commit). c.kind) (play log memory entry).progress.commits

  abbrev held : List CommitKind
  held = flat_map kinds_of v.strata

  unfit-is : (i : ℕ) → is_unfit v memory entry i ≡ true → IsUnfit v memory entry i
  unfit-is i e =
      elim (or-cases (is_diverged_at (play log memory entry).now i) (is_other_kind (slice_get done i) (slice_get held i)) e) [
        | inl h ↦ inl (diverged-is (play log memory entry).now i h)
        | inr h ↦ (let o = other-is (slice_get done i) (slice_get held i) h in inr (record { kind = o.kind; done = o.there; other = o.other }))
      ]

  unfit-shown : (i : ℕ) → IsUnfit v memory entry i → is_unfit v memory entry i ≡ true
  unfit-shown i (inl d) =
      ap (λ (now : TurnOrEnd). is_diverged_at now i || is_other_kind (slice_get done i) (slice_get held i)) d.1
      ∙ ap (λ (b : Bool). b || is_other_kind (slice_get done i) (slice_get held i)) (nat_eq-same i)
  unfit-shown i (inr o) =
      or-last (is_diverged_at (play log memory entry).now i) (is_other_kind (slice_get done i) (slice_get held i))
      (other-shown (slice_get done i) (slice_get held i) o.kind o.done o.other)

  -- it is one of the log's commits, or comes right after them
  unfit-within : (i : ℕ) → IsUnfit v memory entry i → i ≤ log.count
  unfit-within i (inl d) =
      let e = ends-as log memory entry (End.Diverged i d.0) d.1 in
      let few = few-commits log memory entry in
      omega (arith, e, few)
  unfit-within i (inr o) =
      let few = few-commits log memory entry in
      let n = length-map (play log memory entry).progress.commits (λ (c : Commit). c.kind) in
      elim (cases_lt i (length done)) [
        | inl l ↦ omega (arith, l, few, n)
        | inr l ↦ absurd (none-some o.kind (sym (get-past done i l) ∙ o.done))
      ]

  -- ---- where all commits fit

  length-kinds : (x : Stratum) → length (kinds_of x) ≡ commits_in x
  length-kinds (Chunks counts) = length-replicate (sum counts) CommitKind.Chunk
  length-kinds (Serial thread) = refl
  length-kinds Dma = refl

  length-held : (xs : List Stratum) → length (flat_map kinds_of xs) ≡ commits_in_all xs
  length-held [] = refl
  length-held (x ∷ xs) =
      length-append (kinds_of x) (flat_map kinds_of xs)
      ∙ (let a = length-kinds x in let b = length-held xs in let c = sum_by-cons commits_in x xs in omega (arith, a, b, c))

  fits-by : (how : End) → (play log memory entry).now ≡ Ended how → ((i : ℕ) → IsUnfit v memory entry i → ⊥) → FitsImage log memory entry
  fits-by (End.Complete n) e none = fits-complete log memory entry n e
  fits-by (End.Diverged i why) e none = absurd (none i (inl (why, e)))
  fits-by (End.At n) e none = absurd (ends-as log memory entry (End.At n) e)

  fits-so : ((i : ℕ) → IsUnfit v memory entry i → ⊥) → FitsImage log memory entry
  fits-so none = let over = play-over log memory entry in fits-by over.0 over.1 none

  same-length : FitsImage log memory entry → length done ≡ length held
  same-length fits =
      let cs = (play log memory entry).progress.commits in
      let n = length-map cs (λ (c : Commit). c.kind) in
      let all = length-of log (opened log memory entry) cs (follows log memory entry fits) in
      let h = length-held v.strata in
      omega (arith, n, all, h)

  same-at : (i : ℕ) (o : Option CommitKind) → slice_get done i ≡ o → length done ≡ length held → is_unfit v memory entry i ≡ false → o ≡ slice_get held i
  same-at i None e same fit =
      elim (cases_lt i (length done)) [
        | inl l ↦ absurd (none-there done i l e)
        | inr l ↦ sym (get-past held i (omega (arith, l, same)))
      ]
    where
      none-there : (ks : List CommitKind) (j : ℕ) → j < length ks → slice_get ks j ≡ None → ⊥
      none-there [] j l h = absurd (omega (arith, l))
      none-there (k ∷ ks) zero l h = none-some k (sym h)
      none-there (k ∷ ks) (suc j) l h = none-there ks j (omega (arith, l)) h
  same-at i (Some k) e same fit =
      sym (held-is (slice_get done i) (slice_get held i) k (or-none (is_diverged_at (play log memory entry).now i) _ fit) e)

  not-unfit : (i : ℕ) → (IsUnfit v memory entry i → ⊥) → is_unfit v memory entry i ≡ false
  not-unfit i none = by-test (is_unfit v memory entry i) refl
    where
      by-test : (b : Bool) → is_unfit v memory entry i ≡ b → b ≡ false
      by-test true e = absurd (none (unfit-is i e))
      by-test false e = refl

  kinds-same : ((i : ℕ) → IsUnfit v memory entry i → ⊥) → done ≡ held
  kinds-same none =
      same_by_get done held (λ i. same-at i (slice_get done i) refl (same-length (fits-so none)) (not-unfit i (none i)))

  -- ---- conflicts

  past : (l : LogParts) (y : Played) (xs : List Stratum) (i : ℕ) → commits_in_all xs ≤ i → conflicts_at l y xs i ≡ false
  past l y [] i few = refl
  past l y (x ∷ xs) i few =
      let c = sum_by-cons commits_in x xs in
      ap (λ (b : Bool). if b then conflicts_in l y x i else conflicts_at l (plays l y (commits_in x)) xs (i - commits_in x)) (le-ltb i (commits_in x) (omega (arith, few, c)))
      ∙ past l (plays l y (commits_in x)) xs (i - commits_in x) (omega (arith, few, c))

  -- ---- the answer

  by-conflict : (o : Option ℕ) → ((i : ℕ) → IsUnfit v memory entry i → ⊥) → Found (is_conflict v memory entry) 0 log.count o → IsAnswer v memory entry (conflict_or_none o)
  by-conflict None none found = record {
    fits = fits-so none;
    kinds = kinds-same none;
    apart = λ i. elim (cases_lt i log.count) [
      | inl l ↦ found i (omega arith) (omega (arith, l))
      | inr l ↦ past log (opened log memory entry) v.strata i l
    ];
  }
  by-conflict (Some i) none found =
      (none, record { there = found.holds; least = λ j l h. true≢false (sym h ∙ found.first j (omega arith) l) })

  by-unfit : (o : Option ℕ) → Found (is_unfit v memory entry) 0 (suc log.count) o → IsAnswer v memory entry (unfit_or o (conflict_or_none (first_from (is_conflict v memory entry) 0 log.count)))
  by-unfit None found =
      by-conflict (first_from (is_conflict v memory entry) 0 log.count)
      (λ i h. let l = unfit-within i h in true≢false (sym (unfit-shown i h) ∙ found i (omega arith) (omega (arith, l))))
      (found-from (is_conflict v memory entry) 0 log.count)
  by-unfit (Some i) found =
      record { there = unfit-is i found.holds; least = λ j l h. true≢false (sym (unfit-shown j h) ∙ found.first j (omega arith) l) }

-- the answer found by trying each commit in turn is that of the strata on the image
pub answers_are_found : AnswersAreFound
unfolding answer_of
answers_are_found v memory entry =
    by-unfit v memory entry (first_from (is_unfit v memory entry) 0 (suc (canonical v).count)) (found-from (is_unfit v memory entry) 0 (suc (canonical v).count))
