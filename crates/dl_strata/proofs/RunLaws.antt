-- Reading runs of commits undoes writing them.
use Rattle.std.proofs.Common.{◌≡◌, ℕ, zero, suc, ◌+◌, ◌<◌, ◌≤◌, ◌^◌, nat_le, nat_lt, true, List, [], ◌∷◌, ◌++◌, All, length, drop, Result, Ok, Err, refl, ap, sym, ◌∙◌, append-nil, append_assoc, arith}
use Rattle.std.specs.List.{flat_map, AllByRecursion}
use Rattle.std.proofs.lemmas.Bool.{leb-true, le-leb, ltb-true, lt-ltb, and_parts, and_from}
use Rattle.std.proofs.lemmas.List.{nil_from_length}
use Rattle.std.proofs.lemmas.List.Elements.{All-from_recursion, recursion_from_All}
use Rattle.std.proofs.lemmas.List.Sums.{sum_by-cons}
use Rattle.spec_log.specs.Bytes.{u8, little, section}
use Rattle.spec_log.specs.declared.fault.Fault.{Fault}
use Rattle.spec_log.specs.Fields.{Read, Reader, continues, read, gives, raw, field, any, at_most, passes, repeated}
use Rattle.spec_strata.specs.declared.draft.StrataDraft.{StrataDraft}
use Rattle.spec_strata.specs.declared.stratum.Stratum.{Stratum}
use Rattle.spec_strata.specs.declared.stratum.Stratum.TheVariants.{Chunks, Serial, Dma}
use Rattle.spec_strata.specs.Bytes.{stratum_bytes}
use Rattle.spec_strata.specs.Reading.{stratum_after, stratum, are_commits, strata}
use Rattle.spec_strata.specs.Strata.{commits_in, commits_in_all, IsStratumOf}
use Rattle.dl_logfmt.proofs.ByteNumbers.{IsByte}
use Rattle.dl_logfmt.proofs.Codes.{Codes, Codes-as, Codes-read, Codes-then, Codes-gives, Codes-number, Codes-raw, Codes-tested}
use Rattle.dl_logfmt.proofs.EntryLaws.{Codes-field}

-- ---- one

-- the number of its kind, and the bytes after it
abbrev tag_of : Stratum → ℕ
tag_of (Chunks counts) = 0
tag_of (Serial thread) = 1
tag_of Dma = 2

abbrev bytes_after : Stratum → List ℕ
bytes_after (Chunks counts) = counts
bytes_after (Serial thread) = u8 thread
bytes_after Dma = []

-- it may be written, if perhaps it has no commits
abbrev IsWritten : (counted : ℕ) → Stratum → Type 0
IsWritten counted (Chunks counts) = (length counts ≡ counted) × All IsByte counts
IsWritten counted (Serial thread) = thread < counted
IsWritten counted Dma = Unit {0}

abbrev IsTagged : (counted tag : ℕ) → Stratum → Type 0
IsTagged counted tag x = (tag_of x ≡ tag) × IsWritten counted x

Codes-chunks : (counted : ℕ) → Codes (read (raw counted) (λ counts. gives (Chunks counts))) bytes_after (IsTagged counted 0)
Codes-chunks counted =
    Codes-then (raw counted) (λ counts. gives (Chunks counts)) (λ bytes. bytes) (λ bytes. (counted ≡ length bytes) × All IsByte bytes)
    (λ bytes x. []) (λ bytes x. x ≡ Chunks bytes) bytes_after (IsTagged counted 0)
    (Codes-raw counted) (λ bytes g. Codes-gives (Chunks bytes) (λ x. x ≡ Chunks bytes) refl (λ x e. e)) split
    (λ bytes x g e. rw e ((refl, (sym g.0, g.1)), sym (append-nil bytes)))
  where
    split : (x : Stratum) → IsTagged counted 0 x → (bytes : List ℕ) × ((counted ≡ length bytes) × All IsByte bytes) × (x ≡ Chunks bytes) × (bytes_after x ≡ bytes ++ [])
    split (Chunks counts) g = (counts, (sym g.1.0, g.1.1), refl, sym (append-nil counts))
    split (Serial thread) g = absurd (omega (arith, g.0))
    split Dma g = absurd (omega (arith, g.0))

Codes-serial : (counted : ℕ) → counted ≤ 63 → Codes (read (field 1 (λ thread. nat_lt thread counted)) (λ thread. gives (Serial thread))) bytes_after (IsTagged counted 1)
Codes-serial counted few =
    Codes-then (field 1 (λ thread. nat_lt thread counted)) (λ thread. gives (Serial thread)) u8 (λ thread. thread < counted)
    (λ thread x. []) (λ thread x. x ≡ Serial thread) bytes_after (IsTagged counted 1)
    (Codes-field 1 5 (λ thread. nat_lt thread counted) (λ thread. thread < counted) (λ t h l. ltb-true t counted h) (λ t h. (omega (arith, h, few), lt-ltb t counted h)))
    (λ thread g. Codes-gives (Serial thread) (λ x. x ≡ Serial thread) refl (λ x e. e)) split
    (λ thread x g e. rw e ((refl, g), sym (append-nil (u8 thread))))
  where
    split : (x : Stratum) → IsTagged counted 1 x → (thread : ℕ) × (thread < counted) × (x ≡ Serial thread) × (bytes_after x ≡ u8 thread ++ [])
    split (Chunks counts) g = absurd (omega (arith, g.0))
    split (Serial thread) g = (thread, g.1, refl, sym (append-nil (u8 thread)))
    split Dma g = absurd (omega (arith, g.0))

Codes-alone : (counted : ℕ) → Codes (gives Dma) bytes_after (IsTagged counted 2)
Codes-alone counted =
    Codes-as (gives Dma) (λ x. []) bytes_after (λ x. x ≡ Dma) (IsTagged counted 2)
    (Codes-gives Dma (λ x. x ≡ Dma) refl (λ x e. e)) (λ x e. rw e refl) (λ x e. rw e (refl, tt)) only
  where
    only : (x : Stratum) → IsTagged counted 2 x → x ≡ Dma
    only (Chunks counts) g = absurd (omega (arith, g.0))
    only (Serial thread) g = absurd (omega (arith, g.0))
    only Dma g = refl

Codes-after : (counted : ℕ) → counted ≤ 63 → (tag : ℕ) → tag ≤ 2 → Codes (stratum_after counted tag) bytes_after (IsTagged counted tag)
Codes-after counted few zero l = Codes-chunks counted
Codes-after counted few (suc zero) l = Codes-serial counted few
Codes-after counted few (suc (suc zero)) l = Codes-alone counted
Codes-after counted few (suc (suc (suc n))) l = absurd (omega (arith, l))

tag-small : (x : Stratum) → tag_of x ≤ 2
tag-small (Chunks counts) = omega arith
tag-small (Serial thread) = omega arith
tag-small Dma = omega arith

tagged-bytes : (x : Stratum) → stratum_bytes x ≡ u8 (tag_of x) ++ bytes_after x
tagged-bytes (Chunks counts) = refl
tagged-bytes (Serial thread) = refl
tagged-bytes Dma = refl

Codes-stratum : (counted : ℕ) → counted ≤ 63 → Codes (stratum counted) stratum_bytes (IsWritten counted)
Codes-stratum counted few =
    Codes-then (field 1 (at_most 2)) (stratum_after counted) u8 (λ tag. tag ≤ 2) (λ tag. bytes_after) (IsTagged counted) stratum_bytes (IsWritten counted)
    (Codes-field 1 5 (at_most 2) (λ tag. tag ≤ 2) (λ tag h l. leb-true tag 2 h) (λ tag h. (omega (arith, h), le-leb tag 2 h)))
    (Codes-after counted few)
    (λ x g. (tag_of x, tag-small x, (refl, g), tagged-bytes x))
    (λ tag x l g. (g.1, tagged-bytes x ∙ ap (λ (n : ℕ). u8 n ++ bytes_after x) g.0))

-- ---- the next, after so many commits

-- it is a stratum, and with it there are not too many commits
abbrev IsNext : (counted before : ℕ) → Stratum → Type 0
IsNext counted before x = IsStratumOf counted x × (before + commits_in x ≤ 2 ^ 24)

some-commits : (counted : ℕ) (x : Stratum) → IsWritten counted x → 1 ≤ commits_in x → IsStratumOf counted x
some-commits counted (Chunks counts) g some = (g.0, g.1, some)
some-commits counted (Serial thread) g some = g
some-commits counted Dma g some = tt

has-commits : (counted : ℕ) (x : Stratum) → IsStratumOf counted x → IsWritten counted x × (1 ≤ commits_in x)
has-commits counted (Chunks counts) g = ((g.0, g.1), g.2)
has-commits counted (Serial thread) g = (g, omega arith)
has-commits counted Dma g = (tt, omega arith)

abbrev next_run : (counted before : ℕ) → Reader Stratum
next_run counted before bytes start =
    read (stratum counted) (λ x. passes (are_commits before (commits_in x)) 5 start x) bytes start

Codes-next : (counted before : ℕ) → counted ≤ 63 → Codes (next_run counted before) stratum_bytes (IsNext counted before)
Codes-next counted before few =
    Codes-as (next_run counted before) stratum_bytes stratum_bytes (λ x. IsWritten counted x × (are_commits before (commits_in x) ≡ true)) (IsNext counted before)
    (Codes-tested 5 (stratum counted) (λ x. are_commits before (commits_in x)) stratum_bytes (IsWritten counted) (Codes-stratum counted few))
    (λ x g. refl)
    (λ x g.
    let p = and_parts (nat_lt 0 (commits_in x)) (nat_le (before + commits_in x) (2 ^ 24)) g.1 in
    let some = ltb-true 0 (commits_in x) p.0 in
    (some-commits counted x g.0 (omega (arith, some)), leb-true (before + commits_in x) (2 ^ 24) p.1))
    (λ x g.
    let h = has-commits counted x g.0 in
    let some = h.1 in
    (h.0, and_from (nat_lt 0 (commits_in x)) (nat_le (before + commits_in x) (2 ^ 24)) (lt-ltb 0 (commits_in x) (omega (arith, some))) (le-leb (before + commits_in x) (2 ^ 24) g.1)))

-- ---- so many

-- reads so many strata, with so many commits before them
abbrev pub runs : (counted before n : ℕ) → Reader (List Stratum)
runs counted before zero bytes start = gives [] bytes start
runs counted before (suc n) bytes start =
    continues (next_run counted before bytes start)
    (λ x after. read (runs counted (before + commits_in x) n) (λ xs. gives (x ∷ xs)) bytes after)

abbrev AreRuns : (counted before n : ℕ) → List Stratum → Type 0
AreRuns counted before n xs = (length xs ≡ n) × AllByRecursion (IsStratumOf counted) xs × (before + commits_in_all xs ≤ 2 ^ 24)

-- with x in front
abbrev AreMore : (counted before n : ℕ) → Stratum → List Stratum → Type 0
AreMore counted before n x y = (xs : List Stratum) × (y ≡ x ∷ xs) × AreRuns counted (before + commits_in x) n xs

Codes-more : (counted before n : ℕ) (x : Stratum) → Codes (runs counted (before + commits_in x) n) (flat_map stratum_bytes) (AreRuns counted (before + commits_in x) n)
    → Codes (read (runs counted (before + commits_in x) n) (λ xs. gives (x ∷ xs))) (λ y. flat_map stratum_bytes (drop 1 y)) (AreMore counted before n x)
Codes-more counted before n x codes =
    Codes-then (runs counted (before + commits_in x) n) (λ xs. gives (x ∷ xs)) (flat_map stratum_bytes) (AreRuns counted (before + commits_in x) n)
    (λ xs y. []) (λ xs y. y ≡ x ∷ xs) _ _ codes
    (λ xs g. Codes-gives (x ∷ xs) (λ y. y ≡ x ∷ xs) refl (λ y e. e))
    (λ y g. (g.0, g.2, g.1, rw (g.1, append-nil (flat_map stratum_bytes g.0)) refl))
    (λ xs y g e. ((xs, e, g), rw (e, append-nil (flat_map stratum_bytes xs)) refl))

Codes-runs : (n counted before : ℕ) → counted ≤ 63 → before ≤ 2 ^ 24 → Codes (runs counted before n) (flat_map stratum_bytes) (AreRuns counted before n)
Codes-runs zero counted before few l =
    Codes-as (gives []) (λ xs. []) (flat_map stratum_bytes) (λ xs. xs ≡ []) (AreRuns counted before zero)
    (Codes-gives [] (λ xs. xs ≡ []) refl (λ y e. e))
    (λ xs e. rw e refl) (λ xs e. rw e (refl, tt, omega (arith, l))) (λ xs g. nil_from_length xs g.0)
Codes-runs (suc n) counted before few l =
    Codes-then (next_run counted before) (λ x. read (runs counted (before + commits_in x) n) (λ xs. gives (x ∷ xs)))
    stratum_bytes (IsNext counted before) (λ x y. flat_map stratum_bytes (drop 1 y)) (AreMore counted before n) (flat_map stratum_bytes) (AreRuns counted before (suc n))
    (Codes-next counted before few)
    (λ x g. Codes-more counted before n x (Codes-runs n counted (before + commits_in x) few g.1))
    split join
  where
    split : (y : List Stratum) → AreRuns counted before (suc n) y
        → (x : Stratum) × IsNext counted before x × AreMore counted before n x y × (flat_map stratum_bytes y ≡ stratum_bytes x ++ flat_map stratum_bytes (drop 1 y))
    split [] g = absurd (omega (arith, g.0))
    split (x ∷ xs) g =
        let all = sum_by-cons commits_in x xs in
        let most = g.2 in
        let size = g.0 in
        (x, (g.1.0, omega (arith, all, most)), (xs, refl, (omega (arith, size), g.1.1, omega (arith, all, most))), refl)

    join : (x : Stratum) (y : List Stratum) → IsNext counted before x → AreMore counted before n x y
        → AreRuns counted before (suc n) y × (flat_map stratum_bytes y ≡ stratum_bytes x ++ flat_map stratum_bytes (drop 1 y))
    join x y g r =
        let all = sum_by-cons commits_in x r.0 in
        let most = r.2.2 in
        rw r.1 ((ap suc r.2.0, (g.0, r.2.1), omega (arith, all, most)), refl)

-- ---- a number, and so many

-- 32 bits can count the runs, each is a stratum, and their commits are not too many
pub record AreAll (counted : ℕ) (xs : List Stratum) : Type 0 where
  pub few : length xs < 2 ^ 32
  pub each : All (IsStratumOf counted) xs
  pub commits : commits_in_all xs ≤ 2 ^ 24

-- reads the number of the strata, and then as many strata
abbrev pub counted_runs : (counted : ℕ) → Reader (List Stratum)
counted_runs counted = read (any 4) (λ n. runs counted 0 n)

pub Codes-counted_runs : (counted : ℕ) → counted ≤ 63 → Codes (counted_runs counted) (section stratum_bytes) (AreAll counted)
Codes-counted_runs counted few =
    Codes-as (counted_runs counted) _ (section stratum_bytes) _ (AreAll counted)
    (Codes-read (any 4) (λ n. runs counted 0 n) length (little 4) (λ x. (x < 256 ^ 4) × (true ≡ true))
    (flat_map stratum_bytes) (λ xs. AllByRecursion (IsStratumOf counted) xs × (0 + commits_in_all xs ≤ 2 ^ 24))
    (Codes-number 4 5 (λ x. true))
    (λ n g. Codes-as (runs counted 0 n) (flat_map stratum_bytes) (flat_map stratum_bytes) (AreRuns counted 0 n) _
    (Codes-runs n counted 0 few (omega arith)) (λ xs h. refl) (λ xs h. (h.0, (h.1, h.2))) (λ xs h. (h.0, h.1.0, h.1.1))))
    (λ xs h. refl)
    (λ xs h. let most = h.1.1 in record { few = h.0.0; each = All-from_recursion (IsStratumOf counted) xs h.1.0; commits = omega (arith, most) })
    (λ xs h. let most = h.commits in ((h.few, refl), (recursion_from_All (IsStratumOf counted) xs h.each, omega (arith, most))))

-- ---- the stage of the runs

-- a draft with these runs and their commits
module _ (set : List Stratum → ℕ → StrataDraft) (counted : ℕ)
    (on : (xs : List Stratum) (c : ℕ) (bytes : List ℕ) (at : ℕ) → strata.one (set xs c) bytes at ≡ read (next_run counted c) (λ x. gives (set (xs ++ x ∷ []) (c + commits_in x))) bytes at) where
  abbrev with-more : List Stratum → ℕ → List Stratum → StrataDraft
  with-more xs c ys = set (xs ++ ys) (c + commits_in_all ys)

  same-more : (xs : List Stratum) (c : ℕ) (x : Stratum) (ys : List Stratum) → with-more (xs ++ x ∷ []) (c + commits_in x) ys ≡ with-more xs c (x ∷ ys)
  same-more xs c x ys =
      let e : (c + commits_in x) + commits_in_all ys ≡ c + commits_in_all (x ∷ ys) = (let all = sum_by-cons commits_in x ys in omega (arith, all)) in
      let a : (xs ++ x ∷ []) ++ ys ≡ xs ++ x ∷ ys = append_assoc xs (x ∷ []) ys in
      (λ i. set (a i) (e i))

  put-more : (xs : List Stratum) (c : ℕ) (x : Stratum) (bytes : List ℕ) (r : Result (Read (List Stratum)) Fault)
      → continues r (λ ys. gives (with-more (xs ++ x ∷ []) (c + commits_in x) ys) bytes)
      ≡ continues (continues r (λ ys. gives (x ∷ ys) bytes)) (λ ys. gives (with-more xs c ys) bytes)
  put-more xs c x bytes (Ok r) = ap (λ (d : StrataDraft). gives d bytes r.after) (same-more xs c x r.value)
  put-more xs c x bytes (Err fault) = refl

  runs-on : (n : ℕ) (xs : List Stratum) (c : ℕ) (bytes : List ℕ)
      → ((xs : List Stratum) (c at : ℕ) → repeated strata.one n (set xs c) bytes at ≡ read (runs counted c n) (λ ys. gives (with-more xs c ys)) bytes at)
      → (r : Result (Read Stratum) Fault)
      → continues (continues r (λ x. gives (set (xs ++ x ∷ []) (c + commits_in x)) bytes)) (λ d after. repeated strata.one n d bytes after)
      ≡ continues (continues r (λ x after. read (runs counted (c + commits_in x) n) (λ ys. gives (x ∷ ys)) bytes after)) (λ ys. gives (with-more xs c ys) bytes)
  runs-on n xs c bytes rest (Ok r) =
      rest (xs ++ r.value ∷ []) (c + commits_in r.value) r.after
      ∙ put-more xs c r.value bytes (runs counted (c + commits_in r.value) n bytes r.after)
  runs-on n xs c bytes rest (Err fault) = refl

  repeated-runs : (n : ℕ) (xs : List Stratum) (c : ℕ) (bytes : List ℕ) (at : ℕ)
      → repeated strata.one n (set xs c) bytes at ≡ read (runs counted c n) (λ ys. gives (with-more xs c ys)) bytes at
  repeated-runs zero xs c bytes at =
      let e : c ≡ c + commits_in_all [] = omega arith in
      let a : xs ≡ xs ++ [] = sym (append-nil xs) in
      ap (λ (d : StrataDraft). gives d bytes at) (λ i. set (a i) (e i))
  repeated-runs (suc n) xs c bytes at =
      rw (on xs c bytes at) (runs-on n xs c bytes (λ ys k to. repeated-runs n ys k bytes to) (next_run counted c bytes at))

  counted-on : (bytes : List ℕ) (r : Result (Read ℕ) Fault)
      → continues r (λ n after. repeated strata.one n (set [] 0) bytes after)
      ≡ continues (continues r (λ n after. runs counted 0 n bytes after)) (λ ys. gives (with-more [] 0 ys) bytes)
  counted-on bytes (Ok r) = repeated-runs r.value [] 0 bytes r.after
  counted-on bytes (Err fault) = refl

  -- the stage reads the runs after their number
  pub staged-runs : (bytes : List ℕ) (at : ℕ)
      → read (any 4) (λ n. repeated strata.one n (set [] 0)) bytes at ≡ read (counted_runs counted) (λ ys. gives (set ys (0 + commits_in_all ys))) bytes at
  staged-runs bytes at = counted-on bytes (any 4 bytes at)
