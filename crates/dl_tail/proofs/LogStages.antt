-- Reading the log of a tail undoes writing it: the stages of a log, in the draft of a tail.
use Rattle.std.proofs.Common.{◌≡◌, ℕ, zero, suc, ◌+◌, ◌<◌, ◌≤◌, ◌^◌, ◌==◌, ◌||◌, nat_le, Bool, true, false, inr, List, [], ◌∷◌, ◌++◌, map, drop, Result, Ok, Err, refl, ap, sym, subst, ◌∙◌, append-nil, arith}
use Rattle.std.proofs.lemmas.Bool.{leb-true, le-leb, eqb-true}
use Rattle.dl_entry.specs.Numbers.{least_chunk, most_threads, plain_threads}
use Rattle.spec_log.specs.Mode.{mode_code}
use Rattle.spec_log.specs.declared.draft.Draft.{Draft}
use Rattle.spec_log.specs.declared.fault.Fault.{Fault}
use Rattle.spec_log.specs.declared.mode_name.ModeName.{ModeName}
use Rattle.spec_log.specs.declared.mode_name.ModeName.TheVariants.{OrderSize}
use Rattle.spec_log.specs.declared.shape.Shape.{Shape}
use Rattle.spec_log.specs.declared.sizes.Sizes.TheVariants.{Each}
use Rattle.spec_log.specs.Bytes.{u8, u16, u32, magic as magic_bytes}
use Rattle.spec_log.specs.Fields.{Read, Reader, Stage, continues, read, gives, number, field, at_most, from_to, passes, once, repeated, staged, all_of}
use Rattle.spec_log.specs.Reading as log
use Rattle.spec_log.specs.Versions.{IsVersion, IsStandard, most_standard}
use Rattle.spec_tail.specs.declared.draft.TailDraft.{TailDraft}
use Rattle.spec_tail.specs.Reading.{of_log, tested, is_second, has_threads, has_few_commits, log_stages}
use Rattle.dl_logfmt.proofs.Codes.{Codes, Codes-via, Codes-then, Codes-gives, Codes-number, Codes-part, Codes-tested}
use Rattle.dl_logfmt.proofs.EntryLaws.{IsShape, Codes-field}
use Rattle.dl_logfmt.proofs.LogLaws.{mode_of-code, code-mode_of, mode_code-small, shaped, whole, from, Known-order, bytes-order, Codes-from_order, Codes-chunk_size, Codes-constant_then, Decides-threads, staged-on}

-- ---- stages

-- the draft of a tail with that of a log
abbrev pub put : TailDraft → Draft → TailDraft
put d l = record d { log = l }

-- the bytes of a log of version 2, from a part on
abbrev bytes-count : TailDraft → List ℕ
bytes-count e = u32 e.log.count ++ bytes-order 2 e.log

abbrev bytes-s : TailDraft → List ℕ
bytes-s e = u32 e.log.shape.s ++ bytes-count e

abbrev bytes-threads : TailDraft → List ℕ
bytes-threads e = u16 e.log.shape.threads ++ bytes-s e

abbrev bytes-mode : TailDraft → List ℕ
bytes-mode e = u8 (mode_code e.log.mode) ++ bytes-threads e

abbrev bytes-version : TailDraft → List ℕ
bytes-version e = u8 2 ++ bytes-mode e

-- all bytes of the log that a tail's draft holds, in version 2
abbrev pub bytes-all : TailDraft → List ℕ
bytes-all e = magic_bytes ++ bytes-version e

module _ (d : TailDraft) where
  -- what goes on from the draft of a tail as it does from that of a log
  put-through : (next : Draft → Reader Draft) (next_of : TailDraft → Reader TailDraft) (bytes : List ℕ)
      → ((l : Draft) (at : ℕ) → next_of (put d l) bytes at ≡ read (next l) (λ l. gives (put d l)) bytes at)
      → (r : Result (Read Draft) Fault)
      → continues (continues r (λ l after. gives (put d l) bytes after)) (λ e after. next_of e bytes after)
      ≡ continues (continues r (λ l after. next l bytes after)) (λ l after. gives (put d l) bytes after)
  put-through next next_of bytes same (Ok x) = same x.value x.after
  put-through next next_of bytes same (Err fault) = refl

  repeated-of : (s : Stage Draft) (n : ℕ) (l : Draft) (bytes : List ℕ) (at : ℕ)
      → repeated (of_log s).one n (put d l) bytes at ≡ read (repeated s.one n l) (λ l. gives (put d l)) bytes at
  repeated-of s zero l bytes at = refl
  repeated-of s (suc n) l bytes at =
      put-through (repeated s.one n) (repeated (of_log s).one n) bytes (λ l after. repeated-of s n l bytes after) (s.one l bytes at)

  pub staged-of : (s : Stage Draft) (l : Draft) (bytes : List ℕ) (at : ℕ)
      → staged (of_log s) (put d l) bytes at ≡ read (staged s l) (λ l. gives (put d l)) bytes at
  staged-of s l bytes at = more (s.times l bytes at) where
    more : (r : Result (Read ℕ) Fault)
        → continues r (λ n after. repeated (of_log s).one n (put d l) bytes after)
        ≡ continues (continues r (λ n after. repeated s.one n l bytes after)) (λ l after. gives (put d l) bytes after)
    more (Ok x) = repeated-of s x.value l bytes x.after
    more (Err fault) = refl

  all-of : (ss : List (Stage Draft)) (l : Draft) (bytes : List ℕ) (at : ℕ)
      → all_of (map of_log ss) (put d l) bytes at ≡ read (all_of ss l) (λ l. gives (put d l)) bytes at
  all-of [] l bytes at = refl
  all-of (s ∷ ss) l bytes at =
      ap (λ (r : Result (Read TailDraft) Fault). continues r (λ e after. all_of (map of_log ss) e bytes after)) (staged-of s l bytes at)
      ∙ put-through (all_of ss) (all_of (map of_log ss)) bytes (λ l after. all-of ss l bytes after) (staged s l bytes at)

  -- a stage that is read once, and one that is also tested
  once-of : {X : Type 0} (one : Draft → Reader Draft) (l : Draft) (reader : Reader X) (place : X → Draft)
      → ((bytes : List ℕ) (at : ℕ) → one l bytes at ≡ read reader (λ x. gives (place x)) bytes at)
      → (bytes : List ℕ) (at : ℕ) → staged (of_log (once one)) (put d l) bytes at ≡ read reader (λ x. gives (put d (place x))) bytes at
  once-of {X} one l reader place is bytes at = rw (is bytes at) (more (reader bytes at)) where
    more : (r : Result (Read X) Fault)
        → continues (continues (continues r (λ x after. gives (place x) bytes after)) (λ l after. gives (put d l) bytes after)) (λ e after. gives e bytes after)
        ≡ continues r (λ x after. gives (put d (place x)) bytes after)
    more (Ok x) = refl
    more (Err fault) = refl

  abbrev judged : {X : Type 0} → ℕ → (X → Bool) → Reader X → Reader X
  judged fault test reader bytes start = read reader (λ x. passes (test x) fault start x) bytes start

  once-tested : {X : Type 0} (fault : ℕ) (good : TailDraft → Bool) (one : Draft → Reader Draft) (l : Draft) (reader : Reader X) (place : X → Draft)
      → ((bytes : List ℕ) (at : ℕ) → one l bytes at ≡ read reader (λ x. gives (place x)) bytes at)
      → (bytes : List ℕ) (at : ℕ)
      → staged (tested fault good (once one)) (put d l) bytes at ≡ read (judged fault (λ x. good (put d (place x))) reader) (λ x. gives (put d (place x))) bytes at
  once-tested {X} fault good one l reader place is bytes at = rw (is bytes at) (more (reader bytes at)) where
    passed : (b : Bool) (x : X) (after : ℕ)
        → continues (passes b fault at (put d (place x)) bytes after) (λ e after. gives e bytes after)
        ≡ continues (passes b fault at x bytes after) (λ x after. gives (put d (place x)) bytes after)
    passed true x after = refl
    passed false x after = refl

    more : (r : Result (Read X) Fault)
        → continues (continues (continues r (λ x after. gives (place x) bytes after)) (λ l after. passes (good (put d l)) fault at (put d l) bytes after)) (λ e after. gives e bytes after)
        ≡ continues (continues r (λ x after. passes (good (put d (place x))) fault at x bytes after)) (λ x after. gives (put d (place x)) bytes after)
    more (Ok x) = passed (good (put d (place x.value))) x.value x.after
    more (Err fault) = refl

  Codes-put : (reader : Reader Draft) (bytes_of : Draft → List ℕ) (good : Draft → Type 0) → Codes reader bytes_of good
      → Codes (read reader (λ l. gives (put d l))) (λ e. bytes_of e.log) (λ e. good e.log × (e ≡ put d e.log))
  Codes-put reader bytes_of good codes =
      Codes-then reader (λ l. gives (put d l)) bytes_of good (λ l e. []) (λ l e. e ≡ put d l) _ _ codes
      (λ l g. Codes-gives (put d l) (λ e. e ≡ put d l) refl (λ e h. h))
      (λ e g. (e.log, g.0, g.1, sym (append-nil (bytes_of e.log))))
      (λ l e g h. rw h ((g, refl), sym (append-nil (bytes_of l))))

  -- ---- the log, from a stage on

  abbrev Known : (Draft → Type 0) → TailDraft → Type 0
  Known good e = good e.log × (e ≡ put d e.log)

  Codes-order_on : (h : Shape) (m : ModeName) (c : ℕ) → IsShape h → c ≤ 2 ^ 24
      → Codes (all_of (drop 6 log_stages) (put d (whole h m c [] (Each []) [] [] []))) (λ e. bytes-order h.version e.log) (Known (Known-order h m c))
  Codes-order_on h m c good few =
      let l = whole h m c [] (Each []) [] [] [] in
      Codes-via (all_of (drop 6 log_stages) (put d l)) (read (from 6 l) (λ l. gives (put d l))) _ _ (all-of (drop 6 log.stages) l)
      (Codes-put (from 6 l) (bytes-order h.version) (Known-order h m c) (Codes-from_order h m c good few))

  -- a count that isn't too great with the base
  abbrev IsCount : ℕ → Type 0
  IsCount c = ((c < 256 ^ 4) × (nat_le c (2 ^ 24) ≡ true)) × (nat_le (d.header.base + c) (2 ^ 24) ≡ true)

  abbrev Known-count : Shape → ModeName → TailDraft → Type 0
  Known-count h m e = (c : ℕ) × IsCount c × Known (Known-order h m c) e

  Codes-count_on : (t s : ℕ) (m : ModeName) → IsShape (shaped 2 t s) → Codes (all_of (drop 5 log_stages) (put d (whole (shaped 2 t s) m 0 [] (Each []) [] [] []))) bytes-count (Known-count (shaped 2 t s) m)
  Codes-count_on t s m good =
      let place : ℕ → Draft = λ (c : ℕ). whole (shaped 2 t s) m c [] (Each []) [] [] [] in
      let reader = judged 5 (λ c. nat_le (d.header.base + c) (2 ^ 24)) (field 4 (at_most (2 ^ 24))) in
      Codes-via (all_of (drop 5 log_stages) (put d (place 0))) (read reader (λ c. all_of (drop 6 log_stages) (put d (place c)))) bytes-count (Known-count (shaped 2 t s) m)
      (staged-on (tested 5 has_few_commits log.commits) (drop 6 log_stages) (put d (place 0)) reader (λ c. put d (place c))
      (once-tested 5 has_few_commits (λ l. log.commits.one l) (place 0) (field 4 (at_most (2 ^ 24))) place (λ bytes at. refl)))
      (Codes-part reader (λ c. all_of (drop 6 log_stages) (put d (place c))) (λ e. e.log.count) u32 IsCount (λ e. bytes-order 2 e.log) (λ c. Known (Known-order (shaped 2 t s) m c))
      (Codes-tested 5 (field 4 (at_most (2 ^ 24))) (λ c. nat_le (d.header.base + c) (2 ^ 24)) u32 (λ c. (c < 256 ^ 4) × (nat_le c (2 ^ 24) ≡ true)) (Codes-number 4 5 (at_most (2 ^ 24))))
      (λ c g. Codes-order_on (shaped 2 t s) m c good (leb-true c (2 ^ 24) g.0.1))
      (λ c e r. ap (λ (l : Draft). l.count) r.0.2.2.2.2.2))

  abbrev Known-s : (t : ℕ) → ModeName → TailDraft → Type 0
  Known-s t m e = (s : ℕ) × IsStandard 2 s × Known-count (shaped 2 t s) m e

  Codes-s_on : (t : ℕ) (m : ModeName) → IsVersion 2 t → Codes (all_of (drop 4 log_stages) (put d (whole (shaped 2 t 0) m 0 [] (Each []) [] [] []))) bytes-s (Known-s t m)
  Codes-s_on t m good =
      let place : ℕ → Draft = λ (s : ℕ). whole (shaped 2 t s) m 0 [] (Each []) [] [] [] in
      let reader : Reader ℕ = field 4 (from_to least_chunk (most_standard 2)) in
      Codes-via (all_of (drop 4 log_stages) (put d (place 0))) (read reader (λ s. all_of (drop 5 log_stages) (put d (place s)))) bytes-s (Known-s t m)
      (staged-on (of_log log.chunk_size) (drop 5 log_stages) (put d (place 0)) reader (λ s. put d (place s))
      (once-of (λ l. log.chunk_size.one l) (place 0) reader place (λ bytes at. refl)))
      (Codes-part reader (λ s. all_of (drop 5 log_stages) (put d (place s))) (λ e. e.log.shape.s) u32 (IsStandard 2) bytes-count (λ s. Known-count (shaped 2 t s) m)
      (Codes-chunk_size 2) (λ s g. Codes-count_on t s m (good, g))
      (λ s e r. ap (λ (l : Draft). l.shape.s) r.2.0.2.2.2.2.2))

  -- a number of threads that aren't fewer than those present
  abbrev AreThreads : ℕ → Type 0
  AreThreads t = ((t < 256 ^ 2) × (((t == plain_threads) || (t == most_threads)) ≡ true)) × (nat_le d.header.present t ≡ true)

  abbrev Known-threads : ModeName → TailDraft → Type 0
  Known-threads m e = (t : ℕ) × AreThreads t × Known-s t m e

  Codes-threads_on : (m : ModeName) → Codes (all_of (drop 3 log_stages) (put d (whole (shaped 2 0 0) m 0 [] (Each []) [] [] []))) bytes-threads (Known-threads m)
  Codes-threads_on m =
      let place : ℕ → Draft = λ (t : ℕ). whole (shaped 2 t 0) m 0 [] (Each []) [] [] [] in
      let test : ℕ → Bool = λ (t : ℕ). (t == plain_threads) || (t == most_threads) in
      let reader = judged 5 (λ t. nat_le d.header.present t) (field 2 test) in
      Codes-via (all_of (drop 3 log_stages) (put d (place 0))) (read reader (λ t. all_of (drop 4 log_stages) (put d (place t)))) bytes-threads (Known-threads m)
      (staged-on (tested 5 has_threads log.threads) (drop 4 log_stages) (put d (place 0)) reader (λ t. put d (place t))
      (once-tested 5 has_threads (λ l. log.threads.one l) (place 0) (field 2 test) place (λ bytes at. refl)))
      (Codes-part reader (λ t. all_of (drop 4 log_stages) (put d (place t))) (λ e. e.log.shape.threads) u16 AreThreads bytes-s (λ t. Known-s t m)
      (Codes-tested 5 (field 2 test) (λ t. nat_le d.header.present t) u16 (λ t. (t < 256 ^ 2) × (test t ≡ true)) (Codes-number 2 5 test))
      (λ t g. Codes-s_on t m (inr (refl, (Decides-threads t).0 g.0.1)))
      (λ t e r. ap (λ (l : Draft). l.shape.threads) r.2.2.0.2.2.2.2.2))

  abbrev pub Known-mode : TailDraft → Type 0
  Known-mode e = (m : ModeName) × Known-threads m e

  Codes-mode_on : Codes (all_of (drop 2 log_stages) (put d (whole (shaped 2 0 0) OrderSize 0 [] (Each []) [] [] []))) bytes-mode Known-mode
  Codes-mode_on =
      let place : ℕ → Draft = λ (code : ℕ). whole (shaped 2 0 0) (log.mode_of code) 0 [] (Each []) [] [] [] in
      let reader : Reader ℕ = number 1 4 (at_most 2) in
      Codes-via (all_of (drop 2 log_stages) (put d (place 0))) (read reader (λ code. all_of (drop 3 log_stages) (put d (place code)))) bytes-mode Known-mode
      (staged-on (of_log log.mode) (drop 3 log_stages) (put d (place 0)) reader (λ code. put d (place code))
      (once-of (λ l. log.mode.one l) (place 0) reader place (λ bytes at. refl)))
      (Codes-then reader (λ code. all_of (drop 3 log_stages) (put d (place code))) u8 (λ code. code ≤ 2) (λ code. bytes-threads) (λ code. Known-threads (log.mode_of code)) bytes-mode Known-mode
      (Codes-field 1 4 (at_most 2) (λ code. code ≤ 2) (λ code h l. leb-true code 2 h) (λ code h. (omega (arith, h), le-leb code 2 h)))
      (λ code g. Codes-threads_on (log.mode_of code))
      (λ e g. (mode_code g.0, mode_code-small g.0, subst (λ (m : ModeName). Known-threads m e) (mode_of-code g.0) g.1, rw (in_mode g.0 e g.1) refl))
      (λ code e g r. ((log.mode_of code, r), rw (in_mode (log.mode_of code) e r, code-mode_of code g) refl))) where
        in_mode : (m : ModeName) (e : TailDraft) → Known-threads m e → e.log.mode ≡ m
        in_mode m e r = ap (λ (l : Draft). l.mode) r.2.2.2.0.2.2.2.2.2

  abbrev IsSecond : ℕ → Type 0
  IsSecond v = ((v < 256 ^ 1) × (((v == 1) || (v == 2)) ≡ true)) × ((v == 2) ≡ true)

  Codes-version_on : Codes (all_of (drop 1 log_stages) (put d log.blank)) bytes-version Known-mode
  Codes-version_on =
      let place : ℕ → Draft = λ (v : ℕ). whole (shaped v 0 0) OrderSize 0 [] (Each []) [] [] [] in
      let test : ℕ → Bool = λ (v : ℕ). (v == 1) || (v == 2) in
      let reader = judged 3 (λ v. v == 2) (number 1 3 test) in
      Codes-via (all_of (drop 1 log_stages) (put d log.blank)) (read reader (λ v. all_of (drop 2 log_stages) (put d (place v)))) bytes-version Known-mode
      (staged-on (tested 3 is_second log.version) (drop 2 log_stages) (put d log.blank) reader (λ v. put d (place v))
      (once-tested 3 is_second (λ l. log.version.one l) log.blank (number 1 3 test) place (λ bytes at. refl)))
      (Codes-then reader (λ v. all_of (drop 2 log_stages) (put d (place v))) u8 IsSecond (λ v. bytes-mode) (λ v. Known-mode) bytes-version Known-mode
      (Codes-tested 3 (number 1 3 test) (λ v. v == 2) u8 (λ v. (v < 256 ^ 1) × (test v ≡ true)) (Codes-number 1 3 test))
      (λ v g. subst (λ (v : ℕ). Codes (all_of (drop 2 log_stages) (put d (place v))) bytes-mode Known-mode) (sym (eqb-true v 2 g.1)) Codes-mode_on)
      (λ e g. (2, ((omega arith, refl), refl), g, refl))
      (λ v e g r. (r, rw (eqb-true v 2 g.1) refl)))

  pub Codes-log : Codes (all_of log_stages (put d log.blank)) bytes-all Known-mode
  Codes-log =
      Codes-constant_then (of_log log.magic) (drop 1 log_stages) (put d log.blank) (put d log.blank) 4 2 0x4E524C44 bytes-version Known-mode (omega arith)
      (once-of (λ l. log.magic.one l) log.blank (number 4 2 (λ x. x == 0x4E524C44)) (λ x. log.blank) (λ bytes at. refl))
      Codes-version_on
