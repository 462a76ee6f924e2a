-- Reading the threads of a tail undoes writing them.
use Rattle.std.proofs.Common.{◌≡◌, ℕ, zero, suc, ◌%◌, ◌<◌, ◌≤◌, ◌^◌, ◌==◌, ◌||◌, ◌&&◌, Bool, true, false, List, [], ◌∷◌, ◌++◌, All, length, drop, None, Result, Ok, Err, refl, ap, sym, subst, ◌∙◌, append-nil, arith, eq-eqb}
use Rattle.std.specs.List.{flat_map}
use Rattle.std.specs.Prelude.{slice_index}
use Rattle.std.proofs.lemmas.Bool.{leb-true, le-leb, eqb-true, and_parts, and_from, ne_eqb}
use Rattle.std.proofs.lemmas.List.Elements.{All-cons, All-tail, All-from_recursion, recursion_from_All}
use Rattle.spec_isa.specs.declared.thread.Parts.{Parts}
use Rattle.spec_isa.specs.declared.thread.ThreadStatus.{ThreadStatus}
use Rattle.spec_log.specs.Bytes.{u8, u16, u32, little}
use Rattle.spec_log.specs.declared.fault.Fault.{Fault}
use Rattle.spec_log.specs.Fields.{Read, Reader, continues, read, gives, any, field, at_most, one_more, repeated}
use Rattle.spec_tail.specs.Bytes.{status_code, end_code, mask_code, thread_bytes}
use Rattle.spec_tail.specs.Reading.{zeros, is_aligned, is_code, status, is_saved, registers, thread}
use Rattle.spec_tail.specs.Tails.{IsStatus, IsSaved, IsThreadAt, words_of}
use Rattle.dl_logfmt.proofs.Codes.{Codes, Codes-as, Codes-via, Codes-then, Codes-gives, Codes-number, Codes-skip}
use Rattle.dl_logfmt.proofs.EntryLaws.{Codes-u32}
use Rattle.dl_logfmt.proofs.LogLaws.{Codes-constant}
use Rattle.dl_logfmt.proofs.SectionLaws.{entries, AreEntries, Rises-any, Codes-entries, staged-entries}

-- a number of so many bytes that passes a test, and what is read after it: a part of the whole
pub Codes-next : {Y : Type 0} (width : ℕ) (test : ℕ → Bool) (next : ℕ → Reader Y) (part : Y → ℕ) (rest_of : Y → List ℕ) (rest_good : ℕ → Y → Type 0)
    → ((x : ℕ) → test x ≡ true → Codes (next x) rest_of (rest_good x))
    → ((x : ℕ) (y : Y) → test x ≡ true → rest_good x y → part y ≡ x)
    → Codes (read (field width test) next) (λ y. little width (part y) ++ rest_of y) (λ y. (x : ℕ) × ((x < 256 ^ width) × (test x ≡ true)) × rest_good x y)
Codes-next width test next part rest_of rest_good rests is =
    Codes-then (field width test) next (little width) (λ x. (x < 256 ^ width) × (test x ≡ true)) (λ x. rest_of) rest_good _ _
    (Codes-number width 5 test) (λ x g. rests x g.1)
    (λ y g. (g.0, g.1, g.2, rw (is g.0 y g.1.1 g.2) refl))
    (λ x y g r. ((x, g, r), rw (is x y g.1 r) refl))

-- ---- registers

-- 31 numbers after a 0
pub record AreRegisters (x : List ℕ) : Type 0 where
  pub behind : List ℕ
  pub all : x ≡ 0 ∷ behind
  pub count : length behind ≡ 31
  pub words : All (λ word. word < 2 ^ 32) behind

-- giving on what was read, as it is, changes nothing
pub same-gives : {X : Type 0} (bytes : List ℕ) (r : Result (Read X) Fault) → r ≡ continues r (λ x. gives x bytes)
same-gives bytes (Ok x) = refl
same-gives bytes (Err fault) = refl

abbrev words_read : Reader (List ℕ)
words_read = repeated (one_more (λ x y. true) (any 4)) 31 []

Codes-words : Codes words_read (flat_map u32) (λ xs. (length xs ≡ 31) × All (λ word. word < 2 ^ 32) xs)
Codes-words =
    let one : List ℕ → Reader (List ℕ) = one_more (λ (x y : ℕ). true) (any 4) in
    Codes-as words_read (flat_map u32) (flat_map u32) (AreEntries (λ x y. true) (λ word. word < 2 ^ 32) None 31) _
    (Codes-via words_read (entries (λ x y. true) (any 4) None 31) (flat_map u32) (AreEntries (λ x y. true) (λ word. word < 2 ^ 32) None 31)
    (λ bytes at.
    staged-entries one (λ xs. xs) (λ x y. true) (any 4) (λ xs bytes at. same-gives bytes (one xs bytes at)) (gives 31) bytes at
    ∙ sym (same-gives bytes (entries (λ x y. true) (any 4) None 31 bytes at)))
    (Codes-entries 31 (λ x y. true) (any 4) u32 (λ word. word < 2 ^ 32) None Codes-u32))
    (λ xs g. refl)
    (λ xs g. (g.0, All-from_recursion (λ word. word < 2 ^ 32) xs g.1))
    (λ xs g. (g.0, recursion_from_All (λ word. word < 2 ^ 32) xs g.1, Rises-any xs None))

Codes-registers : Codes registers (λ x. flat_map u32 (drop 1 x)) AreRegisters
Codes-registers =
    Codes-then words_read (λ xs. gives (0 ∷ xs)) (flat_map u32) (λ xs. (length xs ≡ 31) × All (λ word. word < 2 ^ 32) xs)
    (λ xs x. []) (λ xs x. x ≡ 0 ∷ xs) (λ x. flat_map u32 (drop 1 x)) AreRegisters
    Codes-words (λ xs g. Codes-gives (0 ∷ xs) (λ x. x ≡ 0 ∷ xs) refl (λ x e. e))
    (λ x g. (g.behind, (g.count, g.words), g.all, rw g.all (sym (append-nil (flat_map u32 g.behind)))))
    (λ xs x g e. (record { behind = xs; all = e; count = g.0; words = g.1 }, rw e (sym (append-nil (flat_map u32 xs)))))

-- ---- a thread

abbrev made : (kind mask code pc handler saved_pc saved_a0 saved_a1 commits : ℕ) → List ℕ → Parts
made kind mask code pc handler saved_pc saved_a0 saved_a1 commits x =
    record {
      pc = pc;
      x = x;
      reservation = None;
      handler = handler;
      mask = mask == 1;
      saved_pc = saved_pc;
      saved_a0 = saved_a0;
      saved_a1 = saved_a1;
      status = status kind code;
      commits = commits;
    }

abbrev Is : (width : ℕ) → (ℕ → Bool) → ℕ → Type 0
Is width test x = (x < 256 ^ width) × (test x ≡ true)

abbrev is_saved_pc : (mask value : ℕ) → Bool
is_saved_pc mask value = is_aligned value && is_saved mask value

-- what is known of a thread of which the parts before are these, by their letters: kind, mask, code, pc, handler, saved pc
-- (`s`), saved a0 and a1, commits (`n`) and registers
module _ (base : ℕ) where
  abbrev Known-x : (k m c p h s a b n : ℕ) → Parts → Type 0
  Known-x k m c p h s a b n y = (x : List ℕ) × AreRegisters x × (y ≡ made k m c p h s a b n x)

  abbrev Known-commits : (k m c p h s a b : ℕ) → Parts → Type 0
  Known-commits k m c p h s a b y = (n : ℕ) × Is 4 (at_most base) n × Known-x k m c p h s a b n y

  abbrev Known-a1 : (k m c p h s a : ℕ) → Parts → Type 0
  Known-a1 k m c p h s a y = (b : ℕ) × Is 4 (is_saved m) b × Known-commits k m c p h s a b y

  abbrev Known-a0 : (k m c p h s : ℕ) → Parts → Type 0
  Known-a0 k m c p h s y = (a : ℕ) × Is 4 (is_saved m) a × Known-a1 k m c p h s a y

  abbrev Known-saved : (k m c p h : ℕ) → Parts → Type 0
  Known-saved k m c p h y = (s : ℕ) × Is 4 (is_saved_pc m) s × Known-a0 k m c p h s y

  abbrev Known-handler : (k m c p : ℕ) → Parts → Type 0
  Known-handler k m c p y = (h : ℕ) × Is 4 is_aligned h × Known-saved k m c p h y

  abbrev Known-pc : (k m c : ℕ) → Parts → Type 0
  Known-pc k m c y = (p : ℕ) × Is 4 is_aligned p × Known-handler k m c p y

  abbrev Known-code : (k m : ℕ) → Parts → Type 0
  Known-code k m y = (c : ℕ) × Is 4 (is_code k) c × Known-pc k m c y

  abbrev Known-mask : (k : ℕ) → Parts → Type 0
  Known-mask k y = (m : ℕ) × Is 1 (at_most 1) m × Known-code k m y

  abbrev Known-kind : Parts → Type 0
  Known-kind y = (k : ℕ) × Is 1 (at_most 2) k × Known-mask k y

  -- the readers and the bytes from a part on
  abbrev from-x : (k m c p h s a b n : ℕ) → Reader Parts
  from-x k m c p h s a b n = read registers (λ x. gives (made k m c p h s a b n x))

  abbrev bytes-x : Parts → List ℕ
  bytes-x y = flat_map u32 (drop 1 y.x) ++ []

  abbrev from-commits : (k m c p h s a b : ℕ) → Reader Parts
  from-commits k m c p h s a b = read (field 4 (at_most base)) (λ n. from-x k m c p h s a b n)

  abbrev bytes-commits : Parts → List ℕ
  bytes-commits y = u32 y.commits ++ bytes-x y

  abbrev from-a1 : (k m c p h s a : ℕ) → Reader Parts
  from-a1 k m c p h s a = read (field 4 (is_saved m)) (λ b. from-commits k m c p h s a b)

  abbrev bytes-a1 : Parts → List ℕ
  bytes-a1 y = u32 y.saved_a1 ++ bytes-commits y

  abbrev from-a0 : (k m c p h s : ℕ) → Reader Parts
  from-a0 k m c p h s = read (field 4 (is_saved m)) (λ a. from-a1 k m c p h s a)

  abbrev bytes-a0 : Parts → List ℕ
  bytes-a0 y = u32 y.saved_a0 ++ bytes-a1 y

  abbrev from-saved : (k m c p h : ℕ) → Reader Parts
  from-saved k m c p h = read (field 4 (is_saved_pc m)) (λ s. from-a0 k m c p h s)

  abbrev bytes-saved : Parts → List ℕ
  bytes-saved y = u32 y.saved_pc ++ bytes-a0 y

  abbrev from-handler : (k m c p : ℕ) → Reader Parts
  from-handler k m c p = read (field 4 is_aligned) (λ h. from-saved k m c p h)

  abbrev bytes-handler : Parts → List ℕ
  bytes-handler y = u32 y.handler ++ bytes-saved y

  abbrev from-pc : (k m c : ℕ) → Reader Parts
  from-pc k m c = read (field 4 is_aligned) (λ p. from-handler k m c p)

  abbrev bytes-pc : Parts → List ℕ
  bytes-pc y = u32 y.pc ++ bytes-handler y

  abbrev from-code : (k m : ℕ) → Reader Parts
  from-code k m = read (field 4 (is_code k)) (λ c. from-pc k m c)

  abbrev bytes-code : Parts → List ℕ
  bytes-code y = u32 (end_code y.status) ++ bytes-pc y

  abbrev from-mask : (k : ℕ) → Reader Parts
  from-mask k = read (field 1 (at_most 1)) (λ m. read (zeros 2) (λ spare. from-code k m))

  abbrev bytes-mask : Parts → List ℕ
  bytes-mask y = u8 (mask_code y.mask) ++ (u16 0 ++ bytes-code y)

  abbrev bytes-kind : Parts → List ℕ
  bytes-kind y = u8 (status_code y.status) ++ bytes-mask y

  Codes-from_x : (k m c p h s a b n : ℕ) → Codes (from-x k m c p h s a b n) bytes-x (Known-x k m c p h s a b n)
  Codes-from_x k m c p h s a b n =
      Codes-then registers (λ x. gives (made k m c p h s a b n x)) (λ x. flat_map u32 (drop 1 x)) AreRegisters
      (λ x y. []) (λ x y. y ≡ made k m c p h s a b n x) bytes-x (Known-x k m c p h s a b n)
      Codes-registers (λ x g. Codes-gives (made k m c p h s a b n x) (λ y. y ≡ made k m c p h s a b n x) refl (λ y e. e))
      (λ y g. (g.0, g.1, g.2, rw g.2 refl)) (λ x y g e. ((x, g, e), rw e refl))

  Codes-from_commits : (k m c p h s a b : ℕ) → Codes (from-commits k m c p h s a b) bytes-commits (Known-commits k m c p h s a b)
  Codes-from_commits k m c p h s a b =
      Codes-next 4 (at_most base) (λ n. from-x k m c p h s a b n) (λ y. y.commits) bytes-x (Known-x k m c p h s a b)
      (λ n t. Codes-from_x k m c p h s a b n) (λ n y t r. ap (λ (y : Parts). y.commits) r.2)

  Codes-from_a1 : (k m c p h s a : ℕ) → Codes (from-a1 k m c p h s a) bytes-a1 (Known-a1 k m c p h s a)
  Codes-from_a1 k m c p h s a =
      Codes-next 4 (is_saved m) (λ b. from-commits k m c p h s a b) (λ y. y.saved_a1) bytes-commits (Known-commits k m c p h s a)
      (λ b t. Codes-from_commits k m c p h s a b) (λ b y t r. ap (λ (y : Parts). y.saved_a1) r.2.2)

  Codes-from_a0 : (k m c p h s : ℕ) → Codes (from-a0 k m c p h s) bytes-a0 (Known-a0 k m c p h s)
  Codes-from_a0 k m c p h s =
      Codes-next 4 (is_saved m) (λ a. from-a1 k m c p h s a) (λ y. y.saved_a0) bytes-a1 (Known-a1 k m c p h s)
      (λ a t. Codes-from_a1 k m c p h s a) (λ a y t r. ap (λ (y : Parts). y.saved_a0) r.2.2.2)

  Codes-from_saved : (k m c p h : ℕ) → Codes (from-saved k m c p h) bytes-saved (Known-saved k m c p h)
  Codes-from_saved k m c p h =
      Codes-next 4 (is_saved_pc m) (λ s. from-a0 k m c p h s) (λ y. y.saved_pc) bytes-a0 (Known-a0 k m c p h)
      (λ s t. Codes-from_a0 k m c p h s) (λ s y t r. ap (λ (y : Parts). y.saved_pc) r.2.2.2.2)

  Codes-from_handler : (k m c p : ℕ) → Codes (from-handler k m c p) bytes-handler (Known-handler k m c p)
  Codes-from_handler k m c p =
      Codes-next 4 is_aligned (λ h. from-saved k m c p h) (λ y. y.handler) bytes-saved (Known-saved k m c p)
      (λ h t. Codes-from_saved k m c p h) (λ h y t r. ap (λ (y : Parts). y.handler) r.2.2.2.2.2)

  Codes-from_pc : (k m c : ℕ) → Codes (from-pc k m c) bytes-pc (Known-pc k m c)
  Codes-from_pc k m c =
      Codes-next 4 is_aligned (λ p. from-handler k m c p) (λ y. y.pc) bytes-handler (Known-handler k m c)
      (λ p t. Codes-from_handler k m c p) (λ p y t r. ap (λ (y : Parts). y.pc) r.2.2.2.2.2.2)

  end_code-of : (k c : ℕ) → is_code k c ≡ true → end_code (status k c) ≡ c
  end_code-of zero c h = sym (eqb-true c 0 h)
  end_code-of (suc zero) c h = refl
  end_code-of (suc (suc k)) c h =
      let live : (suc (suc k) == 0) ≡ false = ne_eqb (suc (suc k)) 0 (λ e. absurd (omega (arith, e))) in
      let ended : (suc (suc k) == 1) ≡ false = ne_eqb (suc (suc k)) 1 (λ e. absurd (omega (arith, e))) in
      rw (live, ended) refl

  Codes-from_code : (k m : ℕ) → Codes (from-code k m) bytes-code (Known-code k m)
  Codes-from_code k m =
      Codes-next 4 (is_code k) (λ c. from-pc k m c) (λ y. end_code y.status) bytes-pc (Known-pc k m)
      (λ c t. Codes-from_pc k m c)
      (λ c y t r. ap (λ (y : Parts). end_code y.status) r.2.2.2.2.2.2.2 ∙ end_code-of k c t)

  mask_code-of : (m : ℕ) → at_most 1 m ≡ true → mask_code (m == 1) ≡ m
  mask_code-of zero h = refl
  mask_code-of (suc zero) h = refl
  mask_code-of (suc (suc m)) h = let l = leb-true (suc (suc m)) 1 h in absurd (omega (arith, l))

  Codes-from_mask : (k : ℕ) → Codes (from-mask k) bytes-mask (Known-mask k)
  Codes-from_mask k =
      Codes-next 1 (at_most 1) (λ m. read (zeros 2) (λ spare. from-code k m)) (λ y. mask_code y.mask) (λ y. u16 0 ++ bytes-code y) (Known-code k)
      (λ m t. Codes-skip (zeros 2) (from-code k m) 0 u16 bytes-code (Known-code k m) (Codes-constant 2 5 0 (omega arith)) (Codes-from_code k m))
      (λ m y t r. ap (λ (y : Parts). mask_code y.mask) r.2.2.2.2.2.2.2.2 ∙ mask_code-of m t)

  status_code-of : (k c : ℕ) → at_most 2 k ≡ true → status_code (status k c) ≡ k
  status_code-of zero c h = refl
  status_code-of (suc zero) c h = refl
  status_code-of (suc (suc zero)) c h = refl
  status_code-of (suc (suc (suc k))) c h = let l = leb-true (suc (suc (suc k))) 2 h in absurd (omega (arith, l))

  Codes-kind : Codes (thread base) bytes-kind Known-kind
  Codes-kind =
      Codes-next 1 (at_most 2) (λ k. from-mask k) (λ y. status_code y.status) bytes-mask Known-mask
      (λ k t. Codes-from_mask k)
      (λ k y t r. ap (λ (y : Parts). status_code y.status) r.2.2.2.2.2.2.2.2.2 ∙ status_code-of k r.2.0 t)

-- ---- what makes a thread good

saved : (m v : ℕ) → is_saved m v ≡ true → IsSaved (m == 1) v
saved m v h = by (m == 1) h where
  by : (b : Bool) → (b || (v == 0)) ≡ true → IsSaved b v
  by true h = tt
  by false h = eqb-true v 0 h

saved-back : (mask : Bool) (v : ℕ) → IsSaved mask v → is_saved (mask_code mask) v ≡ true
saved-back true v g = refl
saved-back false v g = eq-eqb v 0 g

is-status : (k c : ℕ) → at_most 2 k ≡ true → Is 4 (is_code k) c → IsStatus (status k c)
is-status zero c h g = tt
is-status (suc zero) c h g = g.0
is-status (suc (suc zero)) c h g = leb-true c 7 g.1
is-status (suc (suc (suc k))) c h g = let l = leb-true (suc (suc (suc k))) 2 h in absurd (omega (arith, l))

is-kind : (s : ThreadStatus) → Is 1 (at_most 2) (status_code s)
is-kind ThreadStatus.Live = (omega arith, refl)
is-kind (ThreadStatus.Ended code) = (omega arith, refl)
is-kind (ThreadStatus.Fault cause) = (omega arith, refl)

is-end : (s : ThreadStatus) → IsStatus s → Is 4 (is_code (status_code s)) (end_code s)
is-end ThreadStatus.Live g = (omega arith, refl)
is-end (ThreadStatus.Ended code) g = (g, refl)
is-end (ThreadStatus.Fault cause) g = (omega (arith, g), le-leb cause 7 g)

status-back : (s : ThreadStatus) → status (status_code s) (end_code s) ≡ s
status-back ThreadStatus.Live = refl
status-back (ThreadStatus.Ended code) = refl
status-back (ThreadStatus.Fault cause) = refl

is-mask : (mask : Bool) → Is 1 (at_most 1) (mask_code mask)
is-mask true = (omega arith, refl)
is-mask false = (omega arith, refl)

mask-back : (mask : Bool) → (mask_code mask == 1) ≡ mask
mask-back true = refl
mask-back false = refl

abbrev IsWord : ℕ → Type 0
IsWord word = word < 2 ^ 32

are-registers : (x : List ℕ) → slice_index x 0 ≡ 0 → length x ≡ 32 → All IsWord x → AreRegisters x
are-registers [] none count words = absurd (omega (arith, count))
are-registers (v ∷ vs) none count words =
    record { behind = vs; all = ap (λ (v : ℕ). v ∷ vs) none; count = omega (arith, count); words = All-tail IsWord v vs words }

-- its words, from those of its registers
all-words : (p h s a b : ℕ) (x : List ℕ) → IsWord p → IsWord h → IsWord s → IsWord a → IsWord b → AreRegisters x → All IsWord (p ∷ h ∷ s ∷ a ∷ b ∷ x)
all-words p h s a b x gp gh gs ga gb gx =
    All-cons IsWord p (h ∷ s ∷ a ∷ b ∷ x) gp (All-cons IsWord h (s ∷ a ∷ b ∷ x) gh (All-cons IsWord s (a ∷ b ∷ x) gs (All-cons IsWord a (b ∷ x) ga (All-cons IsWord b x gb
    (subst (All IsWord) (sym gx.all) (All-cons IsWord 0 gx.behind (omega arith) gx.words))))))

module _ (base : ℕ) where
  is-thread : (y : Parts) → Known-kind base y → IsThreadAt base y
  is-thread y (k, gk, (m, gm, (c, gc, (p, gp, (h, gh, (s, gs, (a, ga, (b, gb, (n, gn, (x, gx, e)))))))))) =
      let pc = and_parts (is_aligned s) (is_saved m s) gs.1 in
      subst (IsThreadAt base) (sym e)
      (record {
        thread = record {
          pc = eqb-true (p % 4) 0 gp.1;
          saved_pc = eqb-true (s % 4) 0 pc.0;
          handler = eqb-true (h % 4) 0 gh.1;
          zero = rw gx.all refl;
          registers = rw gx.all (ap suc gx.count);
        };
        words = all-words p h s a b x gp.0 gh.0 gs.0 ga.0 gb.0 gx;
        status = is-status k c gk.1 gc;
        saved_pc = saved m s pc.1;
        saved_a0 = saved m a ga.1;
        saved_a1 = saved m b gb.1;
        reservation = refl;
        commits = leb-true n base gn.1;
      })

  same-thread : (y : Parts) → y.reservation ≡ None
      → y ≡ made (status_code y.status) (mask_code y.mask) (end_code y.status) y.pc y.handler y.saved_pc y.saved_a0 y.saved_a1 y.commits y.x
  same-thread y none = rw (mask-back y.mask, status-back y.status, ← none) refl

  known-thread : base ≤ 2 ^ 24 → (y : Parts) → IsThreadAt base y → Known-kind base y
  known-thread small y g =
      let w = recursion_from_All IsWord (words_of y) g.words in
      let few = g.commits in
      let x = are-registers y.x g.thread.zero g.thread.registers (All-from_recursion IsWord y.x w.1.1.1.1.1) in (
        status_code y.status,
        is-kind y.status,
        (
          mask_code y.mask,
          is-mask y.mask,
          (
            end_code y.status,
            is-end y.status g.status,
            (
              y.pc,
              (w.0, eq-eqb (y.pc % 4) 0 g.thread.pc),
              (
                y.handler,
                (w.1.0, eq-eqb (y.handler % 4) 0 g.thread.handler),
                (
                  y.saved_pc,
                  (w.1.1.0, and_from _ _ (eq-eqb (y.saved_pc % 4) 0 g.thread.saved_pc) (saved-back y.mask y.saved_pc g.saved_pc)),
                  (
                    y.saved_a0,
                    (w.1.1.1.0, saved-back y.mask y.saved_a0 g.saved_a0),
                    (
                      y.saved_a1,
                      (w.1.1.1.1.0, saved-back y.mask y.saved_a1 g.saved_a1),
                      (y.commits, (omega (arith, few, small), le-leb y.commits base g.commits), (y.x, x, same-thread y g.reservation)),
                    ),
                  ),
                ),
              ),
            ),
          ),
        ),
      )

  pub Codes-thread : base ≤ 2 ^ 24 → Codes (thread base) thread_bytes (IsThreadAt base)
  Codes-thread small =
      Codes-as (thread base) (bytes-kind base) thread_bytes (Known-kind base) (IsThreadAt base) (Codes-kind base)
      (λ y g. rw (append-nil (flat_map u32 (drop 1 y.x))) refl) is-thread (known-thread small)

  -- so many threads
  pub Codes-threads : base ≤ 2 ^ 24 → (n : ℕ) → Codes (entries (λ x y. true) (thread base) None n) (flat_map thread_bytes) (λ ps. (length ps ≡ n) × All (IsThreadAt base) ps)
  Codes-threads small n =
      Codes-as (entries (λ x y. true) (thread base) None n) (flat_map thread_bytes) (flat_map thread_bytes) (AreEntries (λ x y. true) (IsThreadAt base) None n) _
      (Codes-entries n (λ x y. true) (thread base) thread_bytes (IsThreadAt base) None (Codes-thread small))
      (λ ps g. refl) (λ ps g. (g.0, All-from_recursion (IsThreadAt base) ps g.1)) (λ ps g. (g.0, recursion_from_All (IsThreadAt base) ps g.1, Rises-any ps None))
