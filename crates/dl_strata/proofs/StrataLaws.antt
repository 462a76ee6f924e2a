-- Reading strata undoes writing them, and bytes that are read as strata are those of these strata.
use Rattle.std.proofs.Common.{◌≡◌, ℕ, ◌+◌, ◌<◌, ◌≤◌, ◌^◌, ◌==◌, ◌||◌, ◌⊎◌, inl, inr, nat_le, nat_lt, true, false, List, [], ◌++◌, All, length, drop, Result, Ok, Err, refl, ap, sym, subst, ◌∙◌, append-nil, append_assoc, arith}
use Rattle.std.specs.List.{flat_map}
use Rattle.std.proofs.lemmas.Bool.{leb-true, le-leb, and_parts, and_from, le-ltb, ltb-false}
use Rattle.dl_entry.specs.declared.Input.{Input}
use Rattle.dl_entry.specs.Numbers.{least_chunk, most_threads, plain_threads}
use Rattle.spec_log.specs.declared.fault.Fault.{Fault}
use Rattle.spec_log.specs.declared.DmaRecord.{DmaRecord}
use Rattle.spec_log.specs.declared.Interrupt.{Interrupt}
use Rattle.spec_log.specs.declared.Shape.{Shape}
use Rattle.spec_log.specs.declared.ShortSize.{ShortSize}
use Rattle.spec_log.specs.Bytes.{u8, u16, u32, section, short_size_bytes, interrupt_bytes, input_bytes, dma_bytes}
use Rattle.spec_log.specs.Fields.{Read, Reader, continues, read, gives, number, field, any, from_to, staged, all_of}
use Rattle.spec_log.specs.Log.{AreShortSizes, AreInterrupts, AreInputs, AreDmas}
use Rattle.spec_log.specs.Reading.{short_size, interrupt, input, dma}
use Rattle.spec_log.specs.Versions.{IsStandard, most_standard}
use Rattle.spec_strata.specs.declared.draft.StrataDraft.{StrataDraft}
use Rattle.spec_strata.specs.declared.stratum.Stratum.{Stratum}
use Rattle.spec_strata.specs.declared.strata.StrataParts.{StrataParts}
use Rattle.spec_strata.specs.Bytes.{magic as magic_bytes, stratum_bytes, strata_bytes}
use Rattle.spec_strata.specs.Reading.{magic, version, counted, threads, are_threads, chunk_size, strata, sizes, interrupts, inputs, dmas, stages, blank, sizes_rise, interrupts_rise, strata_of, ended, read_of}
use Rattle.spec_strata.specs.Strata.{commits_in_all, AreThreads, AreStrata}
use Rattle.dl_logfmt.proofs.ByteNumbers.{IsByte}
use Rattle.dl_logfmt.proofs.Codes.{Codes, Codes-as, Codes-via, Codes-gives, Codes-part, untested}
use Rattle.dl_logfmt.proofs.EntryLaws.{FitsBytes, Codes-field}
use Rattle.dl_logfmt.proofs.SectionLaws.{section_of, staged-entries}
use Rattle.dl_logfmt.proofs.SizeLaws.{Codes-short_sizes}
use Rattle.dl_logfmt.proofs.LogLaws.{interrupts_of, inputs_of, dmas_of, Codes-interrupts, Codes-inputs, Codes-dmas, Codes-chunk_size, staged-on, staged-once, Codes-constant_then, Decides-threads, nothing-behind}
use Rattle.dl_strata.proofs.RunLaws.{AreAll, counted_runs, Codes-counted_runs, staged-runs}

-- ---- fields

-- so many threads may be counted
abbrev IsCounted : ℕ → Type 0
IsCounted k = (1 ≤ k) × (k ≤ most_threads)

Codes-counted : Codes (field 1 (from_to 1 most_threads)) u8 IsCounted
Codes-counted =
    Codes-field 1 5 (from_to 1 most_threads) IsCounted
    (λ x h l. let p = and_parts (nat_le 1 x) (nat_le x most_threads) h in (leb-true 1 x p.0, leb-true x most_threads p.1))
    (λ x h. (omega (arith, h.1), and_from (nat_le 1 x) (nat_le x most_threads) (le-leb 1 x h.0) (le-leb x most_threads h.1)))

-- and so many may there be
abbrev IsAmong : (counted threads : ℕ) → Type 0
IsAmong k t = ((t ≡ plain_threads) ⊎ (t ≡ most_threads)) × (k ≤ t)

Codes-threads : (k : ℕ) → Codes (field 2 (are_threads k)) u16 (IsAmong k)
Codes-threads k =
    Codes-field 2 5 (are_threads k) (IsAmong k)
    (λ t h l. let p = and_parts ((t == plain_threads) || (t == most_threads)) (nat_le k t) h in ((Decides-threads t).0 p.0, leb-true k t p.1))
    (λ t h. (small t h.0, and_from ((t == plain_threads) || (t == most_threads)) (nat_le k t) ((Decides-threads t).1 h.0) (le-leb k t h.1)))
  where
    small : (t : ℕ) → (t ≡ plain_threads) ⊎ (t ≡ most_threads) → t < 256 ^ 2
    small t (inl few) = omega (arith, few)
    small t (inr many) = omega (arith, many)

-- ---- drafts

-- the draft of strata with these parts, named by their first letters, `k` the threads that are counted, `x` the runs, `z` the
-- sizes and `n` the inputs
abbrev whole : (k t s : ℕ) (x : List Stratum) (z : List ShortSize) (i : List Interrupt) (n : List Input) (d : List DmaRecord) → StrataDraft
whole k t s x z i n d =
    record { counted = k; threads = t; s = s; strata = x; commits = commits_in_all x; sizes = z; interrupts = i; inputs = n; dmas = d }

abbrev shaped : (k s : ℕ) → Shape
shaped k s = record { version = 2; threads = k; s = s }

abbrev sizes_in : Shape → Reader (List ShortSize)
sizes_in h = section_of sizes_rise (short_size h)

-- the stages from one on
abbrev from : ℕ → StrataDraft → Reader StrataDraft
from j d = all_of (drop j stages) d

-- what is known of a whole draft of which the parts before are these, and the bytes of the parts from here on
abbrev Known-dmas : (k t s : ℕ) → List Stratum → List ShortSize → List Interrupt → List Input → StrataDraft → Type 0
Known-dmas k t s x z i n l = (d : List DmaRecord) × AreDmas d × (l ≡ whole k t s x z i n d)

abbrev bytes-dmas : StrataDraft → List ℕ
bytes-dmas l = (section dma_bytes) l.dmas ++ []

abbrev Known-inputs : (k t s : ℕ) → List Stratum → List ShortSize → List Interrupt → StrataDraft → Type 0
Known-inputs k t s x z i l = (n : List Input) × AreInputs n × Known-dmas k t s x z i n l

abbrev bytes-inputs : StrataDraft → List ℕ
bytes-inputs l = (section input_bytes) l.inputs ++ bytes-dmas l

abbrev Known-interrupts : (k t s : ℕ) → List Stratum → List ShortSize → StrataDraft → Type 0
Known-interrupts k t s x z l = (i : List Interrupt) × AreInterrupts k i × Known-inputs k t s x z i l

abbrev bytes-interrupts : StrataDraft → List ℕ
bytes-interrupts l = (section interrupt_bytes) l.interrupts ++ bytes-inputs l

abbrev Known-sizes : (k t s : ℕ) → List Stratum → StrataDraft → Type 0
Known-sizes k t s x l = (z : List ShortSize) × AreShortSizes k s z × Known-interrupts k t s x z l

abbrev bytes-sizes : StrataDraft → List ℕ
bytes-sizes l = (section (short_size_bytes 2)) l.sizes ++ bytes-interrupts l

abbrev Known-strata : (k t s : ℕ) → StrataDraft → Type 0
Known-strata k t s l = (x : List Stratum) × AreAll k x × Known-sizes k t s x l

abbrev bytes-strata : StrataDraft → List ℕ
bytes-strata l = (section stratum_bytes) l.strata ++ bytes-sizes l

abbrev Known-s : (k t : ℕ) → StrataDraft → Type 0
Known-s k t l = (s : ℕ) × IsStandard 2 s × Known-strata k t s l

abbrev bytes-s : StrataDraft → List ℕ
bytes-s l = u32 l.s ++ bytes-strata l

abbrev Known-threads : ℕ → StrataDraft → Type 0
Known-threads k l = (t : ℕ) × IsAmong k t × Known-s k t l

abbrev bytes-threads : StrataDraft → List ℕ
bytes-threads l = u16 l.threads ++ bytes-s l

abbrev Known-counted : StrataDraft → Type 0
Known-counted l = (k : ℕ) × IsCounted k × Known-threads k l

abbrev bytes-counted : StrataDraft → List ℕ
bytes-counted l = u8 l.counted ++ bytes-threads l

abbrev bytes-all : StrataDraft → List ℕ
bytes-all l = magic_bytes ++ (u8 1 ++ bytes-counted l)

-- ---- stage by stage

Codes-from_dmas : (k t s : ℕ) (x : List Stratum) (z : List ShortSize) (i : List Interrupt) (n : List Input) → Codes (from 9 (whole k t s x z i n [])) bytes-dmas (Known-dmas k t s x z i n)
Codes-from_dmas k t s x z i n =
    let put : List DmaRecord → StrataDraft = λ (d : List DmaRecord). whole k t s x z i n d in
    Codes-via (from 9 (put [])) (read dmas_of (λ d. gives (put d))) bytes-dmas (Known-dmas k t s x z i n)
    (staged-on dmas [] (put []) dmas_of put (staged-entries dmas.one put (λ x y. nat_lt x.position y.position) dma (λ xs bytes at. refl) (any 4)))
    (Codes-part dmas_of (λ d. gives (put d)) (λ l. l.dmas) (section dma_bytes) AreDmas (λ l. []) (λ d l. l ≡ put d)
    Codes-dmas (λ d g. Codes-gives (put d) (λ l. l ≡ put d) refl (λ l e. e))
    (λ d l r. ap (λ (l : StrataDraft). l.dmas) r))

Codes-from_inputs : (k t s : ℕ) (x : List Stratum) (z : List ShortSize) (i : List Interrupt) → Codes (from 8 (whole k t s x z i [] [])) bytes-inputs (Known-inputs k t s x z i)
Codes-from_inputs k t s x z i =
    let put : List Input → StrataDraft = λ (n : List Input). whole k t s x z i n [] in
    Codes-via (from 8 (put [])) (read inputs_of (λ n. from 9 (put n))) bytes-inputs (Known-inputs k t s x z i)
    (staged-on inputs (drop 9 stages) (put []) inputs_of put (staged-entries inputs.one put (λ x y. true) input (λ xs bytes at. refl) (any 4)))
    (Codes-part inputs_of (λ n. from 9 (put n)) (λ l. l.inputs) (section input_bytes) AreInputs bytes-dmas (λ n. Known-dmas k t s x z i n)
    Codes-inputs (λ n g. Codes-from_dmas k t s x z i n)
    (λ n l r. ap (λ (l : StrataDraft). l.inputs) r.2))

Codes-from_interrupts : (k t s : ℕ) (x : List Stratum) (z : List ShortSize) → FitsBytes (shaped k s) → Codes (from 7 (whole k t s x z [] [] [])) bytes-interrupts (Known-interrupts k t s x z)
Codes-from_interrupts k t s x z fits =
    let put : List Interrupt → StrataDraft = λ (i : List Interrupt). whole k t s x z i [] [] in
    let reader : Reader (List Interrupt) = interrupts_of (shaped k s) in
    Codes-via (from 7 (put [])) (read reader (λ i. from 8 (put i))) bytes-interrupts (Known-interrupts k t s x z)
    (staged-on interrupts (drop 8 stages) (put []) reader put (staged-entries interrupts.one put interrupts_rise (interrupt (shaped k s)) (λ xs bytes at. refl) (any 4)))
    (Codes-part reader (λ i. from 8 (put i)) (λ l. l.interrupts) (section interrupt_bytes) (AreInterrupts k) bytes-inputs (λ i. Known-inputs k t s x z i)
    (Codes-interrupts (shaped k s) fits) (λ i g. Codes-from_inputs k t s x z i)
    (λ i l r. ap (λ (l : StrataDraft). l.interrupts) r.2.2))

Codes-from_sizes : (k t s : ℕ) (x : List Stratum) → FitsBytes (shaped k s) → Codes (from 6 (whole k t s x [] [] [] [])) bytes-sizes (Known-sizes k t s x)
Codes-from_sizes k t s x fits =
    let put : List ShortSize → StrataDraft = λ (z : List ShortSize). whole k t s x z [] [] [] in
    let reader : Reader (List ShortSize) = sizes_in (shaped k s) in
    Codes-via (from 6 (put [])) (read reader (λ z. from 7 (put z))) bytes-sizes (Known-sizes k t s x)
    (staged-on sizes (drop 7 stages) (put []) reader put (staged-entries sizes.one put sizes_rise (short_size (shaped k s)) (λ xs bytes at. refl) (any 4)))
    (Codes-part reader (λ z. from 7 (put z)) (λ l. l.sizes) (section (short_size_bytes 2)) (AreShortSizes k s) bytes-interrupts (λ z. Known-interrupts k t s x z)
    (Codes-short_sizes (shaped k s) fits) (λ z g. Codes-from_interrupts k t s x z fits)
    (λ z l r. ap (λ (l : StrataDraft). l.sizes) r.2.2.2))

-- the runs are put with the number of their commits
staged-strata : (k t s : ℕ) (bytes : List ℕ) (at : ℕ)
    → staged strata (whole k t s [] [] [] [] []) bytes at ≡ read (counted_runs k) (λ x. gives (whole k t s x [] [] [] [])) bytes at
staged-strata k t s bytes at =
    let set : List Stratum → ℕ → StrataDraft =
    λ (x : List Stratum) (c : ℕ). record { counted = k; threads = t; s = s; strata = x; commits = c; sizes = []; interrupts = []; inputs = []; dmas = [] } in
    staged-runs set k (λ xs c bytes at. refl) bytes at ∙ same set (counted_runs k bytes at)
  where
    same : (set : List Stratum → ℕ → StrataDraft) (r : Result (Read (List Stratum)) Fault)
        → continues r (λ x. gives (set x (0 + commits_in_all x)) bytes) ≡ continues r (λ x. gives (set x (commits_in_all x)) bytes)
    same set (Ok r) =
        let e : 0 + commits_in_all r.value ≡ commits_in_all r.value = omega arith in ap (λ (c : ℕ). gives (set r.value c) bytes r.after) e
    same set (Err fault) = refl

Codes-from_strata : (k t s : ℕ) → FitsBytes (shaped k s) → Codes (from 5 (whole k t s [] [] [] [] [])) bytes-strata (Known-strata k t s)
Codes-from_strata k t s fits =
    let put : List Stratum → StrataDraft = λ (x : List Stratum). whole k t s x [] [] [] [] in
    Codes-via (from 5 (put [])) (read (counted_runs k) (λ x. from 6 (put x))) bytes-strata (Known-strata k t s)
    (staged-on strata (drop 6 stages) (put []) (counted_runs k) put (staged-strata k t s))
    (Codes-part (counted_runs k) (λ x. from 6 (put x)) (λ l. l.strata) (section stratum_bytes) (AreAll k) bytes-sizes (λ x. Known-sizes k t s x)
    (Codes-counted_runs k fits.threads) (λ x g. Codes-from_sizes k t s x fits)
    (λ x l r. ap (λ (l : StrataDraft). l.strata) r.2.2.2.2))

Codes-from_s : (k t : ℕ) → IsCounted k → Codes (from 4 (whole k t 0 [] [] [] [] [])) bytes-s (Known-s k t)
Codes-from_s k t few =
    let put : ℕ → StrataDraft = λ (s : ℕ). whole k t s [] [] [] [] [] in
    let reader : Reader ℕ = field 4 (from_to least_chunk (most_standard 2)) in
    Codes-via (from 4 (put 0)) (read reader (λ s. from 5 (put s))) bytes-s (Known-s k t)
    (staged-on chunk_size (drop 5 stages) (put 0) reader put (staged-once reader put))
    (Codes-part reader (λ s. from 5 (put s)) (λ l. l.s) u32 (IsStandard 2) bytes-strata (λ s. Known-strata k t s)
    (Codes-chunk_size 2) (λ s g. Codes-from_strata k t s (record { threads = few.1; sizes = g.1 }))
    (λ s l r. ap (λ (l : StrataDraft). l.s) r.2.2.2.2.2))

Codes-from_threads : (k : ℕ) → IsCounted k → Codes (from 3 (whole k 0 0 [] [] [] [] [])) bytes-threads (Known-threads k)
Codes-from_threads k few =
    let put : ℕ → StrataDraft = λ (t : ℕ). whole k t 0 [] [] [] [] [] in
    let reader : Reader ℕ = field 2 (are_threads k) in
    Codes-via (from 3 (put 0)) (read reader (λ t. from 4 (put t))) bytes-threads (Known-threads k)
    (staged-on threads (drop 4 stages) (put 0) reader put (staged-once reader put))
    (Codes-part reader (λ t. from 4 (put t)) (λ l. l.threads) u16 (IsAmong k) bytes-s (λ t. Known-s k t)
    (Codes-threads k) (λ t g. Codes-from_s k t few)
    (λ t l r. ap (λ (l : StrataDraft). l.threads) r.2.2.2.2.2.2))

Codes-from_counted : Codes (from 2 blank) bytes-counted Known-counted
Codes-from_counted =
    let put : ℕ → StrataDraft = λ (k : ℕ). whole k 0 0 [] [] [] [] [] in
    let reader : Reader ℕ = field 1 (from_to 1 most_threads) in
    Codes-via (from 2 blank) (read reader (λ k. from 3 (put k))) bytes-counted Known-counted
    (staged-on counted (drop 3 stages) blank reader put (staged-once reader put))
    (Codes-part reader (λ k. from 3 (put k)) (λ l. l.counted) u8 IsCounted bytes-threads Known-threads
    Codes-counted Codes-from_threads
    (λ k l r. ap (λ (l : StrataDraft). l.counted) r.2.2.2.2.2.2.2))

Codes-from_version : Codes (from 1 blank) (λ l. u8 1 ++ bytes-counted l) Known-counted
Codes-from_version =
    Codes-constant_then version (drop 2 stages) blank blank 1 3 1 bytes-counted Known-counted (omega arith) (staged-once (number 1 3 (λ x. x == 1)) (λ x. blank)) Codes-from_counted

Codes-all : Codes (all_of stages blank) bytes-all Known-counted
Codes-all =
    Codes-constant_then magic (drop 1 stages) blank blank 4 2 0x53524C44 (λ l. u8 1 ++ bytes-counted l) Known-counted (omega arith)
    (staged-once (number 4 2 (λ x. x == 0x53524C44)) (λ x. blank)) Codes-from_version

-- ---- all of it

same-parts : (m v k t s c x z i n d : List ℕ) → m ++ (v ++ (k ++ (t ++ (s ++ ((c ++ x) ++ (z ++ (i ++ (n ++ (d ++ [])))))))))
    ≡ (m ++ v ++ k ++ t ++ s ++ c) ++ x ++ z ++ i ++ n ++ d
same-parts m v k t s c x z i n d = simp (append_assoc, append-nil)

all-written : (l : StrataDraft) → bytes-all l ≡ strata_bytes (strata_of l)
all-written l =
    same-parts magic_bytes (u8 1) (u8 l.counted) (u16 l.threads) (u32 l.s) (u32 (length l.strata)) (flat_map stratum_bytes l.strata)
    (section (short_size_bytes 2) l.sizes) (section interrupt_bytes l.interrupts) (section input_bytes l.inputs) (section dma_bytes l.dmas)

known-good : (l : StrataDraft) → Known-counted l → AreStrata (strata_of l)
known-good l (k, gk, (t, gt, (s, gs, (x, gx, (z, gz, (i, gi, (n, gn, (d, gd, e)))))))) =
    subst (λ (l : StrataDraft). AreStrata (strata_of l)) (sym e)
    (record { threads = (gt.0, gk.0, gt.1); s = gs; few = gx.few; each = gx.each; commits = gx.commits; sizes = gz; interrupts = gi; inputs = gn; dmas = gd })

-- the draft of strata
abbrev draft_of : StrataParts → StrataDraft
draft_of v = whole v.counted v.threads v.s v.strata v.sizes v.interrupts v.inputs v.dmas

-- reading a draft of strata undoes writing it
Codes-draft : Codes (all_of stages blank) (λ l. strata_bytes (strata_of l)) Known-counted
Codes-draft = Codes-as (all_of stages blank) bytes-all (λ l. strata_bytes (strata_of l)) Known-counted Known-counted Codes-all (λ l h. all-written l) (λ l h. h) (λ l h. h)

read-whole : (bytes : List ℕ) (r : Result (Read StrataDraft) Fault) (v : StrataParts)
    → ended bytes r ≡ Ok v → (x : Read StrataDraft) × (r ≡ Ok x) × (length bytes ≤ x.after) × (strata_of x.value ≡ v)
read-whole bytes (Ok x) v e =
    let t = untested (nat_lt x.after (length bytes)) (strata_of x.value) v (record { number = 7; offset = x.after }) e in
    (x, refl, ltb-false x.after (length bytes) t.0, t.1)
read-whole bytes (Err fault) v e = cc

-- what is read are strata
pub strata-good : (bytes : List ℕ) (v : StrataParts) → All IsByte bytes → read_of bytes ≡ Ok v → AreStrata v
strata-good bytes v are e =
    let s = read-whole bytes (all_of stages blank bytes 0) v e in
    subst AreStrata s.3 (known-good s.0.value (Codes-draft.finds [] bytes s.0.value s.0.after are s.1).is_good)

-- bytes that are read as strata are those of these strata
pub written_again : (bytes : List ℕ) (v : StrataParts) → All IsByte bytes → read_of bytes ≡ Ok v → strata_bytes v ≡ bytes
written_again bytes v are e =
    let s = read-whole bytes (all_of stages blank bytes 0) v e in
    let f = Codes-draft.finds [] bytes s.0.value s.0.after are s.1 in
    subst (λ (v : StrataParts). strata_bytes v ≡ bytes) s.3 (nothing-behind bytes (strata_bytes (strata_of s.0.value)) f.rest f.split (omega (arith, f.here, s.2)))

few-counted : (k t : ℕ) → AreThreads k t → k ≤ most_threads
few-counted k t h = by h.0 where
  by : (t ≡ plain_threads) ⊎ (t ≡ most_threads) → k ≤ most_threads
  by (inl few) = let l = h.2 in omega (arith, few, l)
  by (inr many) = let l = h.2 in omega (arith, many, l)

-- the bytes of strata are read as these strata
pub read_again : (v : StrataParts) → AreStrata v → read_of (strata_bytes v) ≡ Ok v
read_again v good =
    let d = draft_of v in
    let all : AreAll v.counted v.strata = record { few = good.few; each = good.each; commits = good.commits } in
    let t = good.threads in
    let known : Known-counted d =
    (v.counted, (t.1, few-counted v.counted v.threads t), (v.threads, (t.0, t.2), (v.s, good.s, (v.strata, all, (v.sizes, good.sizes, (v.interrupts, good.interrupts, (v.inputs, good.inputs, (v.dmas, good.dmas, refl)))))))) in
    draft_again d known where
      draft_again : (d : StrataDraft) → Known-counted d → read_of (strata_bytes (strata_of d)) ≡ Ok (strata_of d)
      draft_again d known =
          let bytes = strata_bytes (strata_of d) in
          let e = subst (λ (b : List ℕ). all_of stages blank b 0 ≡ Ok (record { value = d; after = length bytes })) (append-nil bytes) (Codes-draft.reads d known [] []) in
          let end : nat_lt (length bytes) (length bytes) ≡ false = le-ltb _ _ (omega arith) in
          rw (e, end) refl
