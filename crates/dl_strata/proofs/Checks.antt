-- What the calls of the check come to, one after the other.
use Rattle.std.proofs.Common.{◌≡◌, ℕ, suc, ◌+◌, ◌-◌, ◌<◌, Bool, List, [], ◌∷◌, ◌++◌, length, map, drop, get_or, Ok, Err, Result, sym, ap, ◌∙◌, subst, append_assoc, arith}
use Rattle.std.specs.Prelude.{replicate}
use Rattle.std.proofs.lemmas.List.{append-nil}
use Rattle.std.proofs.Math.Seq.{drop-cons}
use Rattle.spec_strata.specs.declared.touch.Touch.{Touch}
use Rattle.spec_strata.specs.declared.touch.Touch.TheVariants.{Untouched}
use Rattle.spec_strata.specs.declared.stratum.Stratum.{Stratum}
use Rattle.spec_strata.specs.declared.stratum.Stratum.TheVariants.{Chunks, Serial, Dma}
use Rattle.spec_strata.specs.Canonical.{rising}
use Rattle.dl_serial.specs.Playing.{Playing, advanced}
use Rattle.dl_strata.specs.declared.checking.CheckError.{CheckError}
use Rattle.dl_strata.specs.declared.checker.Checker.{Checker}
use Rattle.dl_strata.specs.Conflicts.{IsFirst, IsBetween, IsInStratum, CanCheck, Checks, CanCheckChunks, ChecksChunks}
use Rattle.dl_strata.proofs.Conflicts.{within-begins, within-ends, serial-passed, dma-passed}

-- ---- chunks of a stratum

-- of these chunks the old check has come to, the new one has those that are left
abbrev pub Leads : (old new : Checker) → (ks left : List ℕ) → Type 0
Leads old new ks left =
    (all : ℕ → Bool) (js : List ℕ) (xs : List Stratum) → IsInStratum all old.player old.touches.touches (ks ++ js) xs
    → IsInStratum all new.player new.touches.touches (left ++ js) xs

-- before any chunk is checked, all of them are left
pub leads-start : (c : Checker) (ks left : List ℕ) → ks ≡ left → Leads c c ks left
leads-start c ks left e all js xs w = subst (λ (is : List ℕ). IsInStratum all c.player c.touches.touches (is ++ js) xs) e w

-- a part of those that are left is next
pub can-check : (old now : Checker) (ks left part rest : List ℕ) → left ≡ part ++ rest → Leads old now ks left → CanCheckChunks old ks → CanCheckChunks now part
can-check old now ks left part rest e leads can =
    record {
      all = can.all;
      threads = rest ++ can.threads;
      strata = can.strata;
      within = subst (λ (is : List ℕ). IsInStratum can.all now.player now.touches.touches is can.strata)
          (ap (λ (is : List ℕ). is ++ can.threads) e ∙ append_assoc part rest can.threads)
          (leads can.all can.threads can.strata can.within);
    }

-- and is checked
pub leads-more : (old now new : Checker) (ks left part rest : List ℕ) → left ≡ part ++ rest → Leads old now ks left → ChecksChunks part now (Ok tt) new → Leads old new ks rest
leads-more old now new ks left part rest e leads checks all js xs w =
    checks all (rest ++ js) xs
    (subst (λ (is : List ℕ). IsInStratum all now.player now.touches.touches is xs)
    (ap (λ (is : List ℕ). is ++ js) e ∙ append_assoc part rest js)
    (leads all js xs w))

-- or a commit of it conflicts
pub leads-error : (old now new end : Checker) (ks left part rest : List ℕ) (error : CheckError) → left ≡ part ++ rest → Leads old now ks left → ChecksChunks part now (Err error) new
    → ChecksChunks ks old (Err error) end
leads-error old now new end ks left part rest error e leads checks all js xs w =
    checks all (rest ++ js) xs
    (subst (λ (is : List ℕ). IsInStratum all now.player now.touches.touches is xs)
    (ap (λ (is : List ℕ). is ++ js) e ∙ append_assoc part rest js)
    (leads all js xs w))

-- none is left
pub leads-end : (old new : Checker) (ks left : List ℕ) → left ≡ [] → Leads old new ks left → ChecksChunks ks old (Ok tt) new
leads-end old new ks left e leads all js xs w =
    subst (λ (is : List ℕ). IsInStratum all new.player new.touches.touches (is ++ js) xs) e (leads all js xs w)

-- ---- which chunks are next

-- if i of a thread's n chunks are done, one more comes next, and then the others
pub one-of : (n i k : ℕ) → i < n → replicate (n - i) k ≡ (k ∷ []) ++ replicate (n - (i + 1)) k
one-of n i k l = let e : n - i ≡ suc (n - (i + 1)) = omega (arith, l) in ap (λ (m : ℕ). replicate m k) e

-- the chunks of the threads from i on are those of thread i, and then the later threads'
pub thread-of : (counts : List ℕ) (i k d : ℕ) → k ≡ i → i < length counts
    → rising i (drop i counts) ≡ replicate (get_or counts i d) k ++ rising (i + 1) (drop (i + 1) counts)
thread-of counts i k d same l =
    let s : suc i ≡ i + 1 = omega arith in
    ap (rising i) (drop-cons counts i d l)
    ∙ (λ t. replicate (get_or counts i d) (sym same t) ++ rising (s t) (drop (s t) counts))

-- ---- a stratum

begun : (all : ℕ → Bool) (old now : Checker) (counts : List ℕ) (xs : List Stratum) → now.player ≡ old.player → now.touches.touches ≡ map (λ (t : Touch). Untouched) old.touches.touches
    → IsBetween all old.player old.touches.touches (Chunks counts ∷ xs) → IsInStratum all now.player now.touches.touches (rising 0 counts ++ []) xs
begun all old now counts xs player touches before =
    subst (λ (is : List ℕ). IsInStratum all now.player now.touches.touches is xs) (sym (append-nil (rising 0 counts)))
    (subst (λ (p : Playing). IsInStratum all p now.touches.touches (rising 0 counts) xs) (sym player)
    (subst (λ (ts : List Touch). IsInStratum all old.player ts (rising 0 counts) xs) (sym touches)
    (within-begins all old.player old.touches.touches counts xs before)))

-- if a stratum of chunks can be checked, so can its chunks once no word is touched
pub can-begin : (old now : Checker) (counts : List ℕ) → now.player ≡ old.player → now.touches.touches ≡ map (λ (t : Touch). Untouched) old.touches.touches → CanCheck old (Chunks counts)
    → CanCheckChunks now (rising 0 counts)
can-begin old now counts player touches can =
    record { all = can.all; threads = []; strata = can.strata; within = begun can.all old now counts can.strata player touches can.before }

-- a stratum of chunks is checked if its chunks are, with no word touched at first
pub chunks-checked : (old now new : Checker) (counts : List ℕ) (result : Result (Unit {0}) CheckError) → now.player ≡ old.player → now.touches.touches ≡ map (λ (t : Touch). Untouched) old.touches.touches
    → ChecksChunks (rising 0 counts) now result new → Checks (Chunks counts) old result new
chunks-checked old now new counts (Ok done) player touches checks all xs before =
    within-ends all new.player new.touches.touches xs (checks all [] xs (begun all old now counts xs player touches before))
chunks-checked old now new counts (Err error) player touches checks all xs before =
    checks all [] xs (begun all old now counts xs player touches before)

-- a stratum that is a serial step is checked once the play has advanced by it
pub serial-checked : (old new : Checker) (k : ℕ) → new.player ≡ advanced old.player → new.touches.touches ≡ old.touches.touches → Checks (Serial k) old (Ok tt) new
serial-checked old new k player touches all xs before =
    subst (λ (p : Playing). IsBetween all p new.touches.touches xs) (sym player)
    (subst (λ (ts : List Touch). IsBetween all (advanced old.player) ts xs) (sym touches) (serial-passed all old.player old.touches.touches k xs before))

-- a stratum that is a DMA is checked once the play has advanced by it
pub dma-checked : (old new : Checker) → new.player ≡ advanced old.player → new.touches.touches ≡ old.touches.touches → Checks Dma old (Ok tt) new
dma-checked old new player touches all xs before =
    subst (λ (p : Playing). IsBetween all p new.touches.touches xs) (sym player)
    (subst (λ (ts : List Touch). IsBetween all (advanced old.player) ts xs) (sym touches) (dma-passed all old.player old.touches.touches xs before))

-- ---- one stratum after the other

next-stratum : (xs : List Stratum) (i : ℕ) (x : Stratum) → i < length xs → x ≡ get_or xs i x → drop i xs ≡ x ∷ drop (i + 1) xs
next-stratum xs i x l is =
    let e : suc i ≡ i + 1 = omega arith in
    drop-cons xs i x l ∙ (λ j. sym is j ∷ drop (e j) xs)

between-next : (all : ℕ → Bool) (c : Checker) (xs : List Stratum) (i : ℕ) (x : Stratum) → i < length xs → x ≡ get_or xs i x → IsBetween all c.player c.touches.touches (drop i xs)
    → IsBetween all c.player c.touches.touches (x ∷ drop (i + 1) xs)
between-next all c xs i x l is between = subst (IsBetween all c.player c.touches.touches) (next-stratum xs i x l is) between

-- a check that has come to the strata from i on can check stratum i
pub can-check-next : (all : ℕ → Bool) (c : Checker) (xs : List Stratum) (i : ℕ) (x : Stratum) → i < length xs → x ≡ get_or xs i x → IsBetween all c.player c.touches.touches (drop i xs) → CanCheck c x
can-check-next all c xs i x l is between = record { all = all; strata = drop (i + 1) xs; before = between-next all c xs i x l is between }

-- once stratum i is checked without a conflict, the check has come to the strata after it
pub checked-next : (all : ℕ → Bool) (old new : Checker) (xs : List Stratum) (i : ℕ) (x : Stratum) → i < length xs → x ≡ get_or xs i x → IsBetween all old.player old.touches.touches (drop i xs)
    → Checks x old (Ok tt) new → IsBetween all new.player new.touches.touches (drop (i + 1) xs)
checked-next all old new xs i x l is between checks = checks all (drop (i + 1) xs) (between-next all old xs i x l is between)

-- a conflict that the check of stratum i finds is the first one of all commits
pub checked-error : (all : ℕ → Bool) (old new : Checker) (xs : List Stratum) (i : ℕ) (x : Stratum) (error : CheckError) → i < length xs → x ≡ get_or xs i x
    → IsBetween all old.player old.touches.touches (drop i xs) → Checks x old (Err error) new → IsFirst all error
checked-error all old new xs i x error l is between checks = checks all (drop (i + 1) xs) (between-next all old xs i x l is between)
