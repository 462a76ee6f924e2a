-- A replay in strata has done first commits of the log's play, and stops with all of them.
use Rattle.std.proofs.Common.{◌≡◌, ◌≢◌, ◌↔◌, ℕ, zero, suc, ◌+◌, ◌-◌, ◌<◌, ◌≤◌, ◌⊎◌, inl, inr, true, false, List, [], ◌∷◌, ◌++◌, length, map, Option, Some, None, refl, sym, ap, ◌∙◌, subst, arith}
use Rattle.std.specs.Prelude.{take}
use Rattle.std.specs.List.{sum}
use Rattle.std.proofs.Math.Seq.{take-append_seam, take-length}
use Rattle.std.proofs.lemmas.Bool.{cases_Bool, cases_eq, cases_lt, ne_eqb, true≢false}
use Rattle.std.proofs.lemmas.List.{append-nil, append_assoc}
use Rattle.std.proofs.lemmas.List.Sums.{sum_by-cons}
use Rattle.dl_entry.specs.declared.Commit.{Commit}
use Rattle.dl_entry.specs.declared.End.{End}
use Rattle.spec_isa.specs.declared.thread.Parts.{Parts}
use Rattle.spec_isa.specs.Runs.{Run}
use Rattle.spec_isa.specs.Words.{lays}
use Rattle.spec_log.specs.declared.LogParts.{LogParts}
use Rattle.spec_play.specs.Effects.{chunk_commit}
use Rattle.spec_play.specs.Turns.{Turn, Ended}
use Rattle.spec_play.specs.Plays.{Played, play, plays}
use Rattle.spec_play.proofs.Going.{IsBehind, plays-behind}
use Rattle.spec_strata.specs.declared.stratum.Stratum.{Stratum}
use Rattle.spec_strata.specs.declared.stratum.Stratum.TheVariants.{Chunks, Serial, Dma}
use Rattle.spec_strata.specs.declared.strata.StrataParts.{StrataParts}
use Rattle.spec_strata.specs.Strata.{commits_in, commits_in_all}
use Rattle.spec_strata.specs.Canonical.{canonical, rising}
use Rattle.spec_strata.specs.Shares.{Rule, Share, alone, counts_of, next_run, share_more, shares_at}
use Rattle.spec_strata.specs.InPlay.{commits_by, commits_of, in_stratum, is_by, rule_of}
use Rattle.spec_strata.specs.Standing.{Standing}
use Rattle.spec_strata.proofs.Images.Canonical.{length-rising}
use Rattle.spec_strata.proofs.Plays.Canonical.{canonical_plays}
use Rattle.spec_strata.proofs.Shares.Checking.{shares-of}
use Rattle.spec_strata.proofs.Standing.Counts.{count_at, counts-rising}
use Rattle.spec_protocol.specs.declared.event.Event.{Event}
use Rattle.spec_protocol.specs.machine.Machine.{Setup}
use Rattle.spec_sphere.specs.sphere.Spheres.{Cursor, Sphere, is_over}
use Rattle.spec_sphere.specs.sphere.Setups.{SphereSetup, in_strata}
use Rattle.spec_replay.specs.InStrata.{AreFirst, NeverDiverges, count_in, done_by, stratum_at, stratum_from}
use Rattle.spec_replay.specs.Promises.{IsReplay, StrataNeverDiverge}
use Rattle.spec_replay.proofs.Strata.Coming.{Comes, none-in, opened_by, plays-more, rising-up}
use Rattle.spec_replay.proofs.Strata.Going.{ComesTo, IsThere}
use Rattle.spec_replay.proofs.Strata.Moved.{at_standing}
use Rattle.spec_replay.proofs.Strata.Stopping.{count-is, goes-on, now-at-start, now_in_strata, position-from}
use Rattle.spec_replay.proofs.Strata.All.{over-now, strata_reach}

-- ---- the first of a list

behind-all : (xs : List Commit) → IsBehind xs xs
behind-all xs = record { rest = []; same = sym (append-nil xs) }

behind-more : (xs ys zs : List Commit) → IsBehind xs ys → IsBehind ys zs → IsBehind xs zs
behind-more xs ys zs a b =
    record { rest = a.rest ++ b.rest; same = b.same ∙ ap (λ (l : List Commit). l ++ b.rest) a.same ∙ append_assoc xs a.rest b.rest }

first-of : (xs ys : List Commit) → IsBehind xs ys → AreFirst xs ys
first-of xs ys b = ap (take (length xs)) b.same ∙ take-append_seam xs b.rest

-- lists that are the same as two of which one begins the other
behind-same : (xs ys us vs : List Commit) → xs ≡ us → ys ≡ vs → IsBehind us vs → IsBehind xs ys
behind-same xs ys us vs x y b = record { rest = b.rest; same = y ∙ b.same ∙ ap (λ (l : List Commit). l ++ b.rest) (sym x) }

-- ---- each thread's commits

by-append : (a : Option ℕ) (xs ys : List Commit) → commits_by a (xs ++ ys) ≡ commits_by a xs ++ commits_by a ys
by-append a [] ys = refl
by-append a (x ∷ xs) ys =
    elim (cases_Bool (is_by a x)) [
      | inl h ↦ rw h (ap (λ (cs : List Commit). x ∷ cs) (by-append a xs ys))
      | inr h ↦ rw h (by-append a xs ys)
    ]

behind-by : (a : Option ℕ) (xs ys : List Commit) → IsBehind xs ys → IsBehind (commits_by a xs) (commits_by a ys)
behind-by a xs ys b = record { rest = commits_by a b.rest; same = ap (commits_by a) b.same ∙ by-append a xs b.rest }

by-none : (a : Option ℕ) (f : Run → Commit) (rs : List Run) → ((r : Run) → is_by a (f r) ≡ false) → commits_by a (map f rs) ≡ []
by-none a f [] none = refl
by-none a f (r ∷ rs) none = rw (none r) (by-none a f rs none)

by-none-of : (a : Option ℕ) (f : ℕ → Run → Commit) (ps : List Share) → ((j : ℕ) (r : Run) → is_by a (f j r) ≡ false) → commits_by a (commits_of f ps) ≡ []
by-none-of a f [] none = refl
by-none-of a f (o ∷ os) none =
    by-append a (map (f 0) o.runs) (commits_of (λ j. f (suc j)) os)
    ∙ (λ i. by-none a (f 0) o.runs (none 0) i ++ by-none-of a (λ j. f (suc j)) os (λ j r. none (suc j) r) i)

-- of each thread either none are meant, or none of the others
abbrev IsOne : Option ℕ → (ℕ → Run → Commit) → Type 0
IsOne a f = (j : ℕ) → ((r : Run) → is_by a (f j r) ≡ false) ⊎ ((i : ℕ) (r : Run) → i ≢ j → is_by a (f i r) ≡ false)

one-after : (a : Option ℕ) (f : ℕ → Run → Commit) → IsOne a f → IsOne a (λ j. f (suc j))
one-after a f one j =
    elim (one (suc j)) [
      | inl none ↦ inl none
      | inr others ↦ inr (λ i r ne. others (suc i) r (λ e. ne (omega (arith, e))))
    ]

is-one : (a : Option ℕ) → IsOne a chunk_commit
is-one None j = inl (λ r. refl)
is-one (Some k) j =
    elim (cases_eq k j) [
      | inl e ↦ inr (λ i r ne. ne_eqb k i (λ h. ne (sym h ∙ e)))
      | inr ne ↦ inl (λ r. ne_eqb k j ne)
    ]

-- ---- in a stratum

-- what a thread does alone begins with what it does in fewer commits
runs-behind : (q : Rule) (m : List ℕ) (t : Parts) (i n : ℕ) → i ≤ n → (rest : List Run) × ((alone q m t n).runs ≡ (alone q m t i).runs ++ rest)
unfolding share_more
runs-behind q m t i zero l = let h : 0 ≡ i = omega (arith, l) in ([], subst (λ (k : ℕ). (alone q m t 0).runs ≡ (alone q m t k).runs ++ []) h refl)
runs-behind q m t i (suc n) l =
    let p : Share = alone q m t n in
    let r : Run = next_run q (lays m p.words) p in
    elim (cases_lt i (suc n)) [
      | inl h ↦ (let b = runs-behind q m t i n (omega (arith, h)) in
          (b.0 ++ r ∷ [], ap (λ (rs : List Run). rs ++ r ∷ []) b.1 ∙ append_assoc (alone q m t i).runs b.0 (r ∷ [])))
      | inr h ↦ (let same : suc n ≡ i = omega (arith, h, l) in
          ([], subst (λ (k : ℕ). (alone q m t (suc n)).runs ≡ (alone q m t k).runs ++ []) same (sym (append-nil (alone q m t (suc n)).runs))))
    ]

map-append : (f : Run → Commit) (rs ss : List Run) → map f (rs ++ ss) ≡ map f rs ++ map f ss
map-append f [] ss = refl
map-append f (r ∷ rs) ss = ap (λ (cs : List Commit). f r ∷ cs) (map-append f rs ss)

shares-behind : (a : Option ℕ) (f : ℕ → Run → Commit) (q : ℕ → Rule) (m : List ℕ) (ts : List Parts) (done count : ℕ → ℕ) → IsOne a f → ((j : ℕ) → done j ≤ count j)
    → IsBehind (commits_by a (commits_of f (shares_at q m ts done))) (commits_by a (commits_of f (shares_at q m ts count)))
shares-behind a f q m [] done count one few = behind-all []
shares-behind a f q m (t ∷ ts) done count one few =
    let g : ℕ → Run → Commit = λ j. f (suc j) in
    let old : List Share = shares_at (λ j. q (suc j)) m ts (λ j. done (suc j)) in
    let new : List Share = shares_at (λ j. q (suc j)) m ts (λ j. count (suc j)) in
    let runs : List Run = (alone (q 0) m t (done 0)).runs in
    let all : List Run = (alone (q 0) m t (count 0)).runs in
    elim (one 0) [
      | inl none ↦ behind-same _ _ _ _
          (by-append a (map (f 0) runs) (commits_of g old) ∙ ap (λ (cs : List Commit). cs ++ commits_by a (commits_of g old)) (by-none a (f 0) runs none))
          (by-append a (map (f 0) all) (commits_of g new) ∙ ap (λ (cs : List Commit). cs ++ commits_by a (commits_of g new)) (by-none a (f 0) all none))
          (shares-behind a g (λ j. q (suc j)) m ts (λ j. done (suc j)) (λ j. count (suc j)) (one-after a f one) (λ j. few (suc j)))
      | inr others ↦ (
          let none : (j : ℕ) (r : Run) → is_by a (g j r) ≡ false = (λ j r. others (suc j) r (λ e. omega (arith, e))) in
          let r = runs-behind (q 0) m t (done 0) (count 0) (few 0) in
          behind-same _ _ _ _
          (by-append a (map (f 0) runs) (commits_of g old) ∙ ap (λ (cs : List Commit). commits_by a (map (f 0) runs) ++ cs) (by-none-of a g old none) ∙ append-nil (commits_by a (map (f 0) runs)))
          (by-append a (map (f 0) all) (commits_of g new) ∙ ap (λ (cs : List Commit). commits_by a (map (f 0) all) ++ cs) (by-none-of a g new none) ∙ append-nil (commits_by a (map (f 0) all)))
          (behind-by a (map (f 0) runs) (map (f 0) all) (record { rest = map (f 0) r.0; same = ap (map (f 0)) r.1 ∙ map-append (f 0) runs r.0 }))
          )
    ]

-- with fewer commits done in a stratum, each thread's are its first ones
in-behind : (a : Option ℕ) (log : LogParts) (y : Played) (done count : ℕ → ℕ) → ((j : ℕ) → done j ≤ count j) → IsBehind (commits_by a (in_stratum log y done).progress.commits) (commits_by a (in_stratum log y count).progress.commits)
in-behind a log y done count few =
    let q : ℕ → Rule = rule_of log in
    let before : List Commit = y.progress.commits in
    let old : List Commit = commits_of chunk_commit (shares_at q y.memory y.threads done) in
    let new : List Commit = commits_of chunk_commit (shares_at q y.memory y.threads count) in
    let b = shares-behind a chunk_commit q y.memory y.threads done count (is-one a) few in
    let old-is : commits_by a (in_stratum log y done).progress.commits ≡ commits_by a before ++ commits_by a old =
    ap (λ (ps : List Share). commits_by a (before ++ commits_of chunk_commit ps)) (shares-of q y.memory y.threads done) ∙ by-append a before old in
    let new-is : commits_by a (in_stratum log y count).progress.commits ≡ commits_by a before ++ commits_by a new =
    ap (λ (ps : List Share). commits_by a (before ++ commits_of chunk_commit ps)) (shares-of q y.memory y.threads count) ∙ by-append a before new in
    behind-same _ _ _ _ old-is new-is
    (record { rest = b.rest; same = ap (λ (cs : List Commit). commits_by a before ++ cs) b.same ∙ sym (append_assoc (commits_by a before) (commits_by a old) b.rest) })

-- ---- in the whole play

abbrev all_of : StrataParts → SphereSetup → List Commit
all_of v image = (play (canonical v) image.memory image.entry).progress.commits

plays-whole : (v : StrataParts) (image : SphereSetup) (n : ℕ) → n ≤ (canonical v).count → IsBehind (plays (canonical v) (opened_by v image) n).progress.commits (all_of v image)
plays-whole v image n few =
    let log : LogParts = canonical v in
    let e : (log.count - n) + n ≡ log.count = omega (arith, few) in
    subst (λ (i : ℕ). IsBehind (plays log (opened_by v image) n).progress.commits (plays log (opened_by v image) i).progress.commits) e
    (plays-behind log (opened_by v image) n (log.count - n))

-- nothing of the present stratum is done
whole-behind : (a : Option ℕ) (v : StrataParts) (image : SphereSetup) (st : List Stratum) (ds : List ℕ) (n : ℕ) → Comes v image (at_standing st ds n) → ds ≡ []
    → IsBehind (commits_by a (stratum_at v image (at_standing st ds n)).progress.commits) (commits_by a (all_of v image))
whole-behind a v image st ds n c none =
    let log : LogParts = canonical v in
    let y : Played = stratum_from v image (at_standing st ds n) in
    let here : stratum_at v image (at_standing st ds n) ≡ y = none-in log y ds c.looked (λ j. ap (λ (es : List ℕ). count_at es j) none) in
    let count = count-is v image (at_standing st ds n) c in
    subst (λ (z : Played). IsBehind (commits_by a z.progress.commits) (commits_by a (all_of v image))) (sym here)
    (behind-by a y.progress.commits (all_of v image) (plays-whole v image n (omega (arith, count))))

-- of chunks some are
chunks-behind : (a : Option ℕ) (v : StrataParts) (image : SphereSetup) (counts : List ℕ) (xs : List Stratum) (ds : List ℕ) (n : ℕ) → 0 < v.s → Comes v image (at_standing (Chunks counts ∷ xs) ds n)
    → IsBehind (commits_by a (stratum_at v image (at_standing (Chunks counts ∷ xs) ds n)).progress.commits) (commits_by a (all_of v image))
chunks-behind a v image counts xs ds n s c =
    let log : LogParts = canonical v in
    let x : Standing = at_standing (Chunks counts ∷ xs) ds n in
    let y : Played = stratum_from v image x in
    let ks : List ℕ = rising 0 counts in
    let size : length ks ≡ sum counts = length-rising 0 counts in
    let all : (j : ℕ) → counts_of (take (length ks) ks) j ≡ count_at counts j = (λ j. ap (λ (js : List ℕ). counts_of js j) (take-length ks) ∙ counts-rising counts j) in
    let over : plays log (opened_by v image) (n + sum counts) ≡ in_stratum log y (count_at counts) =
    plays-more log (opened_by v image) n (sum counts) ∙ ap (plays log y) (sym size)
    ∙ canonical_plays log y ks (length ks) s c.goes.1.0 (rising-up 0 0 counts (omega arith)) c.looked c.goes.1.1 (omega arith)
    ∙ (λ i. in_stratum log y (λ j. all j i)) in
    let count = count-is v image x c in
    let sums = sum_by-cons commits_in (Chunks counts) xs in
    behind-more _ _ _ (in-behind a log y (count_at ds) (count_at counts) c.few)
    (subst (λ (z : Played). IsBehind (commits_by a z.progress.commits) (commits_by a (all_of v image))) over
    (behind-by a (plays log (opened_by v image) (n + sum counts)).progress.commits (all_of v image) (plays-whole v image (n + sum counts) (omega (arith, count, sums)))))

done-behind : (a : Option ℕ) (v : StrataParts) (image : SphereSetup) (st : List Stratum) (ds : List ℕ) (n : ℕ) → 0 < v.s → Comes v image (at_standing st ds n)
    → IsBehind (commits_by a (stratum_at v image (at_standing st ds n)).progress.commits) (commits_by a (all_of v image))
done-behind a v image [] ds n s c = whole-behind a v image [] ds n c c.open_
done-behind a v image (Chunks counts ∷ xs) ds n s c = chunks-behind a v image counts xs ds n s c
done-behind a v image (Serial k ∷ xs) ds n s c = whole-behind a v image (Serial k ∷ xs) ds n c c.open_
done-behind a v image (Dma ∷ xs) ds n s c = whole-behind a v image (Dma ∷ xs) ds n c c.open_

-- ---- the end

-- once no stratum is left the replay is complete
complete : (v : StrataParts) (image : SphereSetup) (st : List Stratum) (ds : List ℕ) (n : ℕ) → Comes v image (at_standing st ds n) → st ≡ [] → now_in_strata v image (at_standing st ds n) ≡ Ended (End.Complete (canonical v).count)
complete v image (t ∷ ts) ds n c e = cc
complete v image [] ds n c e =
    let log : LogParts = canonical v in
    let x : Standing = at_standing [] ds n in
    let y : Played = stratum_from v image x in
    let none : commits_in_all [] ≡ 0 = refl in
    let from = position-from v image x c in
    let count = count-is v image x c in
    now-at-start v image x c c.open_ ∙ sym (over-now log x y c.looked (omega (arith, from, count, none))) ∙ c.goes

same-end : (how other : End) → Ended how ≡ Ended other → how ≡ other
same-end how other e = cc

none-left : (st : List Stratum) (k d : ℕ) → st ≡ [] → d < count_in st k → ⊥
none-left [] k d e l = omega (arith, l)
none-left (s ∷ st) k d e l = cc

abbrev EndsSo : StrataParts → List Stratum → Cursor → Type 0
EndsSo v st b = (how : End) → (b.now ≡ Ended how) ↔ ((st ≡ []) × (how ≡ End.Complete (canonical v).count))

ends-so : (v : StrataParts) (image : SphereSetup) (st : List Stratum) (ds : List ℕ) (n : ℕ) (p : Sphere) (b : Cursor) → 0 < v.s → Comes v image (at_standing st ds n)
    → IsThere (canonical v) (stratum_at v image (at_standing st ds n)) (at_standing st ds n) p b → EndsSo v st b
ends-so v image st ds n p b s c a how =
    let x : Standing = at_standing st ds n in
    elim a.state [
      | inr h ↦ (
        (λ e. let turn : Turn h.0 ≡ Ended how = sym h.1.turn ∙ e in cc),
        (λ e. absurd (none-left st h.0 (done_by x h.0) e.0 h.1.left)),
      )
      | inl w ↦ elim (goes-on v image st ds n s c) [
        | inr going ↦ (
          (λ e. absurd (true≢false (sym (ap is_over (sym (a.now w.total) ∙ e)) ∙ going))),
          (λ e. absurd (true≢false (sym (ap is_over (complete v image st ds n c e.0)) ∙ going))),
        )
        | inl none ↦ (
            let over : b.now ≡ Ended (End.Complete (canonical v).count) = a.now w.total ∙ complete v image st ds n c none in
            ((λ e. (none, same-end how (End.Complete (canonical v).count) (sym e ∙ over))), (λ e. over ∙ ap Ended (sym e.1)))
            )
      ]
    ]

-- ---- the promise

-- a sphere replayed in strata never diverges, and is complete exactly if no stratum is left
pub strata_end : StrataNeverDiverge
strata_end image v s es i p r =
    let c : ComesTo v image p = strata_reach image v s es i p r in
    let x : Standing = c.standing in
    record {
      cursor = c.cursor;
      role = c.is.role;
      standing = x;
      there = c.is.there;
      ends = ends-so v image x.strata x.done x.before p c.cursor r.standard c.comes c.is;
      first = λ by. first-of _ _ (behind-same _ _ _ _ (ap (λ (q : _). commits_by by q.commits) c.is.progress) refl (done-behind by v image x.strata x.done x.before r.standard c.comes));
    }
