-- Chunks that are counted and noted are those of the cuts.
use Rattle.std.proofs.Common.{◌≡◌, ℕ, zero, suc, ◌+◌, ◌<◌, ◌≤◌, inl, inr, Bool, true, false, ◌||◌, List, [], ◌∷◌, ◌++◌, map, set, Option, Some, None, Result, Ok, Err, OnOk, refl, sym, ap, ◌∙◌, subst, arith}
use Rattle.std.specs.Prelude.{slice_set, slice_index, nat_eq, replicate, if◌then◌else◌}
use Rattle.std.specs.List.{range_with_len}
use Rattle.std.proofs.lemmas.Bool.{cases_Bool, cases_lt, eq-eqb, ne_eqb, or_left, or_right, or_cases}
use Rattle.std.proofs.lemmas.List.FromFn.{get_or-map-range_with_len}
use Rattle.spec_isa.specs.declared.thread.Parts.{Parts}
use Rattle.spec_isa.specs.Words.{Stored, holds}
use Rattle.spec_isa.specs.Runs.{run}
use Rattle.spec_log.specs.declared.LogParts.{LogParts}
use Rattle.spec_play.specs.Turns.{Turn}
use Rattle.spec_play.specs.Plays.{Played, size_or_standard, play_turn}
use Rattle.spec_strata.specs.declared.touch.Touch.{Touch}
use Rattle.spec_strata.specs.declared.touch.Touch.TheVariants.{Untouched, SeenBy, Shared, StoredBy}
use Rattle.spec_strata.specs.declared.stratum.Stratum.{Stratum}
use Rattle.spec_strata.specs.declared.stratum.Stratum.TheVariants.{Chunks}
use Rattle.spec_strata.specs.Footprints.{looks}
use Rattle.spec_strata.specs.Shares.{Share, stratum_start, commit_more, bump, counts_of}
use Rattle.spec_strata.specs.Parallel.{clashes_next}
use Rattle.spec_strata.specs.InPlay.{rule_of, ChunkGoes}
use Rattle.spec_strata.specs.Touches.{bars_look, bars_store, looked_at, IsTouch, AreTouches}
use Rattle.spec_strata.specs.Making.{Present, most_chunks, no_chunks, with_chunk, is_apart, stratum_of, Cuts, cut_off, chunk_begins, chunk_cut}
use Rattle.spec_strata.proofs.Shares.Steps.{bump_same, bump_other}
use Rattle.spec_strata.proofs.Shares.Touches.{touches_begin}
use Rattle.spec_strata.proofs.Making.Cutting.{bumps-push}
use Rattle.spec_strata.proofs.Plays.Coming.{come-start, come-more, FreeOn, tells-next, touched_on, touches-more}
use Rattle.dl_serial.specs.declared.footprint.Footprint.{Footprint}
use Rattle.dl_strata.specs.Tables.{Table, touch_of, IsFreeIn, Touched, touched_by}
use Rattle.dl_strata.specs.Cutting.{Cutting, IsPresent, IsPresentIf, HasCut, closed_strata, IsNextChunk, IsCounted}

-- ---- counts

bump-set : (c : ℕ → ℕ) (k from n : ℕ) → map (bump c (from + k)) (range_with_len from n) ≡ set (map c (range_with_len from n)) k (suc (c (from + k)))
bump-set c k from zero = refl
bump-set c zero from (suc n) =
    let same : from + 0 ≡ from = omega arith in
    let first : bump c (from + 0) from ≡ suc (c (from + 0)) =
    ap (bump c (from + 0)) (sym same) ∙ bump_same c (from + 0) in
    (λ i. first i ∷ later (from + 0) (from + 1) n (omega arith) i)
  where
    later : (k from n : ℕ) → k < from → map (bump c k) (range_with_len from n) ≡ map c (range_with_len from n)
    later k from zero l = refl
    later k from (suc n) l = (λ i. bump_other c k from (λ e. omega (arith, e, l)) i ∷ later k (from + 1) n (omega arith) i)
bump-set c (suc k) from (suc n) =
    let e : from + suc k ≡ (from + 1) + k = omega arith in
    let first : bump c (from + suc k) from ≡ c from = bump_other c (from + suc k) from (λ h. omega (arith, h)) in
    let rest : map (bump c (from + suc k)) (range_with_len (from + 1) n) ≡ set (map c (range_with_len (from + 1) n)) k (suc (c (from + suc k))) =
    ap (λ (j : ℕ). map (bump c j) (range_with_len (from + 1) n)) e ∙ bump-set c k (from + 1) n
    ∙ ap (λ (j : ℕ). set (map c (range_with_len (from + 1) n)) k (suc (c j))) (sym e) in
    (λ i. first i ∷ rest i)

map-same : (f g : ℕ → ℕ) (xs : List ℕ) → ((j : ℕ) → f j ≡ g j) → map f xs ≡ map g xs
map-same f g [] e = refl
map-same f g (x ∷ xs) e = (λ i. e x i ∷ map-same f g xs e i)

-- with one more chunk of thread k
count-more : (counted : ℕ) (ks : List ℕ) (k : ℕ) (counts : List ℕ) → k < counted → counts ≡ map (counts_of ks) (range_with_len 0 counted)
    → slice_set counts k (slice_index counts k + 1) ≡ map (counts_of (ks ++ k ∷ [])) (range_with_len 0 counted)
count-more counted ks k counts l is =
    let c : ℕ → ℕ = counts_of ks in
    let row : List ℕ = map c (range_with_len 0 counted) in
    let z : 0 + k ≡ k = omega arith in
    let at_ : slice_index row k ≡ c k = get_or-map-range_with_len c 0 counted k k 0 l z in
    let one : slice_index row k + 1 ≡ suc (c (0 + k)) = (let h : c (0 + k) ≡ c k = ap c z in omega (arith, h, at_)) in
    ap (λ (xs : List ℕ). slice_set xs k (slice_index xs k + 1)) is
    ∙ ap (slice_set row k) one
    ∙ sym (bump-set c k 0 counted)
    ∙ map-same (bump c (0 + k)) (counts_of (ks ++ k ∷ [])) (range_with_len 0 counted) (λ j. ap (λ (i : ℕ). bump c i j) z ∙ sym (bumps-push (λ (i : ℕ). 0) ks k j))

none-counted : (from n : ℕ) → replicate n 0 ≡ map (counts_of []) (range_with_len from n)
none-counted from zero = refl
none-counted from (suc n) = ap (λ (xs : List ℕ). 0 ∷ xs) (none-counted (from + 1) n)

count-at : (counted : ℕ) (ks : List ℕ) (k : ℕ) (counts : List ℕ) → k < counted → counts ≡ map (counts_of ks) (range_with_len 0 counted) → slice_index counts k ≡ counts_of ks k
count-at counted ks k counts l is =
    ap (λ (xs : List ℕ). slice_index xs k) is ∙ get_or-map-range_with_len (counts_of ks) 0 counted k k 0 l (omega arith)

-- ---- the footprint

store-looks : (t : Touch) (k : ℕ) → bars_store t k ≡ false → bars_look t k ≡ false
store-looks Untouched k e = refl
store-looks (SeenBy j) k e = refl
store-looks Shared k e = refl
store-looks (StoredBy j) k e = e

-- the table bars the chunk exactly if its touches do
pub free-on : (log : LogParts) (y : Played) (k : ℕ) (f : Footprint) (touches : List Touch) (x : IsNextChunk log y k f) → IsFreeIn touches k f → FreeOn log (touch_of touches) k y.memory x.goes.thread
free-on log y k f touches x free =
    let t : Parts = x.goes.thread in
    let n : ℕ = size_or_standard log k t.commits in
    let words : List Stored = (run y.memory t n).words in
    record {
      looks = λ a seen. elim (or_cases (looks y.memory t n a) (holds words a) seen) [
        | inl e ↦ free.looked a (x.footprint.looked a ∙ e)
        | inr e ↦ store-looks (touch_of touches a) k (free.stored a (x.footprint.stored a ∙ e))
      ];
      stores = λ a held. free.stored a (x.footprint.stored a ∙ held);
    }

-- a chunk whose looks and stores no touch bars is free in the table
pub free-in : (log : LogParts) (y : Played) (k : ℕ) (f : Footprint) (touches : List Touch) (x : IsNextChunk log y k f) → FreeOn log (touch_of touches) k y.memory x.goes.thread → IsFreeIn touches k f
free-in log y k f touches x free =
    let t : Parts = x.goes.thread in
    let n : ℕ = size_or_standard log k t.commits in
    let words : List Stored = (run y.memory t n).words in
    record {
      looked = λ a h. free.looks a (or_left (looks y.memory t n a) (holds words a) (sym (x.footprint.looked a) ∙ h));
      stored = λ a h. free.stores a (sym (x.footprint.stored a) ∙ h);
    }

touched-is : (t : Touch) (k : ℕ) (looked held : Bool) → touched_by t k looked held ≡ (if held then StoredBy k else if (looked || held) then looked_at t k else t)
touched-is t k looked true = refl
touched-is t k true false = refl
touched-is t k false false = refl

-- and notes it as they do
pub touched-as : (log : LogParts) (y : Played) (k : ℕ) (f : Footprint) (old new : List Touch) (x : IsNextChunk log y k f) → Touched old k f new
    → (a : ℕ) → touch_of new a ≡ touched_on log (touch_of old) k y.memory x.goes.thread a
touched-as log y k f old new x is a =
    is.each a ∙ (λ i. touched_by (touch_of old a) k (x.footprint.looked a i) (x.footprint.stored a i))
    ∙ touched-is (touch_of old a) k _ _

-- touches that are the same at every word are touches of the same shares
pub touches-as : (shares : List Share) (touches others : ℕ → Touch) → ((a : ℕ) → others a ≡ touches a) → AreTouches shares touches → AreTouches shares others
touches-as shares touches others e are =
    record {
      each = λ a. subst (λ (t : Touch). IsTouch shares a t) (sym (e a)) (are.each a);
      stored_seen = are.stored_seen;
    }

-- ---- a chunk that joins others

-- a free chunk that is counted and noted joins the present ones as the code keeps them
pub joined : (counted : ℕ) (log : LogParts) (y : Played) (k : ℕ) (f : Footprint) (old new : List Touch) (counts : List ℕ) (p : Present) → k < counted → IsNextChunk log y k f
    → IsPresent counted y old counts p → IsFreeIn old k f → Touched old k f new
    → IsPresent counted (play_turn log y (Turn k)) new (slice_set counts k (slice_index counts k + 1)) (with_chunk log p k)
joined counted log y k f old new counts p l x is free noted =
    let c : ChunkGoes log y k = x.goes in
    record {
      counts_are = count-more counted p.threads k counts l is.counts_are;
      touches_are = touches-as (commit_more (rule_of log) p.state k).shares (touched_on log (touch_of old) k y.memory c.thread) (touch_of new) (touched-as log y k f old new x noted)
          (touches-more log y p.state k c.thread (touch_of old) is.touches_are is.come c.there (free-on log y k f old x free));
      come = come-more log y p.state k x.some c is.come;
    }

-- ---- a chunk that begins a stratum

-- in a table of untouched words any word is untouched
pub untouched-at : (touches : List Touch) (a : ℕ) → touch_of (map (λ (t : Touch). Untouched) touches) a ≡ Untouched
untouched-at [] a = refl
untouched-at (t ∷ ts) zero = refl
untouched-at (t ∷ ts) (suc a) = untouched-at ts a

-- a chunk that begins a stratum is counted and noted as its only present one
pub begun : (counted : ℕ) (log : LogParts) (y : Played) (k : ℕ) (f : Footprint) (old new : List Touch) → k < counted → IsNextChunk log y k f → Touched (map (λ (t : Touch). Untouched) old) k f new
    → IsPresent counted (play_turn log y (Turn k)) new (slice_set (replicate counted 0) k (slice_index (replicate counted 0) k + 1)) (with_chunk log (no_chunks y) k)
begun counted log y k f old new l x noted =
    let none : List Touch = map (λ (t : Touch). Untouched) old in
    joined counted log y k f none new (replicate counted 0) (no_chunks y) l x
    (record {
      counts_are = none-counted 0 counted;
      touches_are = touches-as (stratum_start y.memory y.threads).shares (λ a. Untouched) (touch_of none) (untouched-at old) (touches_begin y.memory y.threads);
      come = come-start y;
    })
    (record {
      looked = λ a h. ap (λ (t : Touch). bars_look t k) (untouched-at old a);
      stored = λ a h. ap (λ (t : Touch). bars_store t k) (untouched-at old a);
    })
    noted

-- ---- whether it joins

or-none : (a b : Bool) → a ≡ false → b ≡ false → (a || b) ≡ false
or-none a b p q = (λ i. p i || q i)

-- a free chunk of a thread that has fewer than 255 joins the present chunks
pub joins : (counted : ℕ) (log : LogParts) (y : Played) (k : ℕ) (f : Footprint) (old : List Touch) (counts : List ℕ) (p : Present) → k < counted → IsNextChunk log y k f
    → IsPresent counted y old counts p → slice_index counts k < 255 → IsFreeIn old k f → is_apart log p k ≡ false
joins counted log y k f old counts p l x is few free =
    let c : ChunkGoes log y k = x.goes in
    let n = count-at counted p.threads k counts l is.counts_are in
    or-none (nat_eq (counts_of p.threads k) most_chunks) (clashes_next (rule_of log) p.state k)
    (ne_eqb (counts_of p.threads k) most_chunks (λ e. omega (arith, n, e, few)))
    ((tells-next log y p.state k c.thread (touch_of old) is.touches_are is.come c.there).joins (free-on log y k f old x free))

-- a chunk that isn't free, or whose thread has 255 already, can't join the present chunks
pub parts : (counted : ℕ) (log : LogParts) (y : Played) (k : ℕ) (f : Footprint) (old : List Touch) (counts : List ℕ) (p : Present) → k < counted → IsNextChunk log y k f
    → IsPresent counted y old counts p → slice_index counts k ≤ 255 → ((slice_index counts k < 255) × IsFreeIn old k f → ⊥) → is_apart log p k ≡ true
parts counted log y k f old counts p l x is most apart =
    let c : ChunkGoes log y k = x.goes in
    let n = count-at counted p.threads k counts l is.counts_are in
    let full : Bool = nat_eq (counts_of p.threads k) most_chunks in
    let clash : Bool = clashes_next (rule_of log) p.state k in
    elim (cases_lt (slice_index counts k) 255) [
      | inr h ↦ or_left full clash (eq-eqb (counts_of p.threads k) most_chunks (omega (arith, n, h, most)))
      | inl h ↦ elim (cases_Bool clash) [
        | inl yes_ ↦ or_right full clash yes_
        | inr none ↦ absurd (apart (h, free-in log y k f old x ((tells-next log y p.state k c.thread (touch_of old) is.touches_are is.come c.there).free none)))
      ]
    ]

-- ---- the cuts

-- a chunk begins a stratum after those that are closed
pub begins-cut : (old new : Cutting) (strata : List Stratum) (o : Option (List ℕ)) (log : LogParts) (y : Played) (x : Cuts) (k : ℕ) (f : Footprint) → k < old.counted → IsNextChunk log y k f
    → HasCut old y x → strata ≡ closed_strata old.strata old.present
    → (let t : Table = record { stratum = old.table.stratum + 1; touches = map (λ (t : Touch). Untouched) old.table.touches } in
    let from : Cutting = record { counted = old.counted; strata = strata; present = o; table = t } in IsCounted from (replicate old.counted 0) k f new)
    → HasCut new (play_turn log y (Turn k)) (chunk_begins old.counted log y k x)
begins-cut old new strata o log y x k f l next cut is counted =
    record {
      strata = counted.strata ∙ is ∙ closed-as old.present x.present refl cut.present;
      present = there new.present counted.present new.counted counted.counted;
    }
  where
    closed-as : (a : Option (List ℕ)) (b : Option Present) → x.present ≡ b → IsPresentIf old.counted y old.table.touches a b → closed_strata old.strata a ≡ cut_off old.counted x
    closed-as None None e p = cut.strata ∙ ap (λ (q : Option Present). elim q [ None ↦ x.strata | Some r ↦ x.strata ++ stratum_of old.counted r ∷ [] ]) (sym e)
    closed-as None (Some p) e h = absurd h
    closed-as (Some counts) None e h = absurd h
    closed-as (Some counts) (Some p) e h =
        (λ i. cut.strata i ++ Chunks (h.counts_are i) ∷ [])
        ∙ ap (λ (q : Option Present). elim q [ None ↦ x.strata | Some r ↦ x.strata ++ stratum_of old.counted r ∷ [] ]) (sym e)

    there : (q : Option (List ℕ)) → q ≡ Some (slice_set (replicate old.counted 0) k (slice_index (replicate old.counted 0) k + 1)) → (n : ℕ) → n ≡ old.counted
        → IsPresentIf n (play_turn log y (Turn k)) new.table.touches q (Some (with_chunk log (no_chunks y) k))
    there q e n same =
        subst (λ (m : ℕ). IsPresentIf m (play_turn log y (Turn k)) new.table.touches q (Some (with_chunk log (no_chunks y) k))) (sym same)
        (subst (λ (r : Option (List ℕ)). IsPresentIf old.counted (play_turn log y (Turn k)) new.table.touches r (Some (with_chunk log (no_chunks y) k))) (sym e)
        (begun old.counted log y k f old.table.touches new.table.touches l next counted.touched))

cut-as : (counted : ℕ) (log : LogParts) (y : Played) (k : ℕ) (x : Cuts) (o : Option Present) → x.present ≡ o
    → chunk_cut counted log y k x ≡ elim o [
      | None ↦ chunk_begins counted log y k x
      | Some p ↦ if is_apart log p k then chunk_begins counted log y k x else record x { present = Some (with_chunk log p k) }
    ]
cut-as counted log y k x o e =
    ap (λ (q : Option Present). elim q [
      | None ↦ chunk_begins counted log y k x
      | Some p ↦ if is_apart log p k then chunk_begins counted log y k x else record x { present = Some (with_chunk log p k) }
    ]) e

-- no chunks are there
pub first-cut : (old : Cutting) (log : LogParts) (y : Played) (x : Cuts) (k : ℕ) → HasCut old y x → old.present ≡ None → chunk_cut old.counted log y k x ≡ chunk_begins old.counted log y k x
first-cut old log y x k cut none = by x.present refl (subst (λ (q : Option (List ℕ)). IsPresentIf old.counted y old.table.touches q x.present) none cut.present)
  where
    by : (o : Option Present) → x.present ≡ o → IsPresentIf old.counted y old.table.touches None x.present → chunk_cut old.counted log y k x ≡ chunk_begins old.counted log y k x
    by None e h = cut-as old.counted log y k x None e
    by (Some p) e h = absurd (subst (λ (o : Option Present). IsPresentIf old.counted y old.table.touches None o) e h)

-- those that are there, which it can't join
pub apart-cut : (old : Cutting) (log : LogParts) (y : Played) (x : Cuts) (k : ℕ) (f : Footprint) (counts : List ℕ) → k < old.counted → IsNextChunk log y k f → HasCut old y x → old.present ≡ Some counts
    → slice_index counts k ≤ 255 → ((slice_index counts k < 255) × IsFreeIn old.table.touches k f → ⊥) → chunk_cut old.counted log y k x ≡ chunk_begins old.counted log y k x
apart-cut old log y x k f counts l next cut some most apart = by x.present refl (subst (λ (q : Option (List ℕ)). IsPresentIf old.counted y old.table.touches q x.present) some cut.present)
  where
    by : (o : Option Present) → x.present ≡ o → IsPresentIf old.counted y old.table.touches (Some counts) x.present → chunk_cut old.counted log y k x ≡ chunk_begins old.counted log y k x
    by None e h = absurd (subst (λ (o : Option Present). IsPresentIf old.counted y old.table.touches (Some counts) o) e h)
    by (Some p) e h =
        let is : IsPresent old.counted y old.table.touches counts p = subst (λ (o : Option Present). IsPresentIf old.counted y old.table.touches (Some counts) o) e h in
        cut-as old.counted log y k x (Some p) e
        ∙ ap (λ (b : Bool). if b then chunk_begins old.counted log y k x else record x { present = Some (with_chunk log p k) })
        (parts old.counted log y k f old.table.touches counts p l next is most apart)

-- and which it can join
pub joins-cut : (old new : Cutting) (o : Option (List ℕ)) (log : LogParts) (y : Played) (x : Cuts) (k : ℕ) (f : Footprint) (counts : List ℕ) → k < old.counted → IsNextChunk log y k f → HasCut old y x
    → old.present ≡ Some counts → slice_index counts k < 255 → IsFreeIn old.table.touches k f
    → (let from : Cutting = record { counted = old.counted; strata = old.strata; present = o; table = old.table } in IsCounted from counts k f new)
    → HasCut new (play_turn log y (Turn k)) (chunk_cut old.counted log y k x)
joins-cut old new o log y x k f counts l next cut some few free counted =
    by x.present refl (subst (λ (q : Option (List ℕ)). IsPresentIf old.counted y old.table.touches q x.present) some cut.present)
  where
    by : (q : Option Present) → x.present ≡ q → IsPresentIf old.counted y old.table.touches (Some counts) x.present → HasCut new (play_turn log y (Turn k)) (chunk_cut old.counted log y k x)
    by None e h = absurd (subst (λ (q : Option Present). IsPresentIf old.counted y old.table.touches (Some counts) q) e h)
    by (Some p) e h =
        let is : IsPresent old.counted y old.table.touches counts p = subst (λ (q : Option Present). IsPresentIf old.counted y old.table.touches (Some counts) q) e h in
        let z : Played = play_turn log y (Turn k) in
        let now : Cuts = record x { present = Some (with_chunk log p k) } in
        let same : chunk_cut old.counted log y k x ≡ now =
        cut-as old.counted log y k x (Some p) e
        ∙ ap (λ (b : Bool). if b then chunk_begins old.counted log y k x else record x { present = Some (with_chunk log p k) })
        (joins old.counted log y k f old.table.touches counts p l next is few free) in
        let there : IsPresent old.counted z new.table.touches (slice_set counts k (slice_index counts k + 1)) (with_chunk log p k) =
        joined old.counted log y k f old.table.touches new.table.touches counts p l next is free counted.touched in
        subst (λ (w : Cuts). HasCut new z w) (sym same)
        (record {
          strata = counted.strata ∙ cut.strata;
          present = subst (λ (m : ℕ). IsPresentIf m z new.table.touches new.present (Some (with_chunk log p k))) (sym counted.counted)
              (subst (λ (r : Option (List ℕ)). IsPresentIf old.counted z new.table.touches r (Some (with_chunk log p k))) (sym counted.present) there);
        })

-- where P implies Q, an Ok of which P holds is one of which Q does
pub on-ok : {A E : Type 0} (r : Result A E) (P Q : Type 0) → (P → Q) → OnOk r P → OnOk r Q
on-ok (Ok x) P Q f p = f p
on-ok (Err e) P Q f p = tt
