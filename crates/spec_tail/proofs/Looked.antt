-- What is looked up in a tail's log as it stands is what is looked up in its log that is counted from the base.
use Rattle.std.proofs.Common.{◌≡◌, ℕ, zero, suc, ◌+◌, ◌-◌, ◌<◌, ◌≤◌, inl, inr, Bool, true, false, ◌&&◌, ◌||◌, not, cond, List, [], ◌∷◌, length, map, Option, Some, None, refl, sym, ap, ◌∙◌, arith}
use Rattle.std.specs.Prelude.{nat_eq, nat_lt, nat_le, find, option_map, slice_get}
use Rattle.std.specs.List.{list_any, list_all}
use Rattle.std.proofs.lemmas.Bool.{cases_eq, cases_lt, eqb-true, eq-eqb, ne_eqb, le-leb, lt-leb, le-ltb, lt-ltb, ltb-true, ltb-false}
use Rattle.dl_entry.specs.declared.Actor.{Actor}
use Rattle.dl_entry.specs.declared.Request.{Request}
use Rattle.spec_isa.specs.declared.thread.Parts.{Parts}
use Rattle.spec_log.specs.declared.DmaRecord.{DmaRecord}
use Rattle.spec_log.specs.declared.Interrupt.{Interrupt}
use Rattle.spec_log.specs.declared.ModeName.{ModeName}
use Rattle.spec_log.specs.declared.ShortSize.{ShortSize}
use Rattle.spec_log.specs.declared.Sizes.{Sizes}
use Rattle.spec_log.specs.Head.{head_by_turn, head, is_dma_at}
use Rattle.spec_log.specs.Head as log
use Rattle.spec_log.specs.Size.{dma_size, thread_size}
use Rattle.spec_log.specs.Size as sizes
use Rattle.spec_play.specs.declared.used.Used.{Used}
use Rattle.spec_play.specs.Transfers.{DmaGoes, transferred}
use Rattle.spec_play.specs.Turns.{is_size_used, are_sizes_used, has_left_over}
use Rattle.spec_play.specs.Verdicts.{interrupt_at}
use Rattle.spec_kernel.specs.Copies.{dma_words}
use Rattle.spec_tail.specs.Direct as direct
use Rattle.spec_tail.specs.Playing.{begun, counted_from, dma_since, interrupt_since, log_since, no_thread, short_since, sizes_since, thread_since}
use Rattle.spec_tail.specs.Tails.{Tail}
use Rattle.spec_tail.proofs.Along.Recounted.{recounted, get-counted}

-- ---- lists

found_next : {X : Type 0} (v : X → ℕ) (a b : Bool) (y x : X) (o u : Option X) → a ≡ b → v y ≡ v x → option_map v o ≡ option_map v u → option_map v (cond a (Some y) o) ≡ option_map v (cond b (Some x) u)
found_next v true true y x o u same value rest = ap Some value
found_next v false false y x o u same value rest = rest
found_next v true false y x o u same value rest = absurd cc
found_next v false true y x o u same value rest = absurd cc

find_mapped : {X : Type 0} (p q : X → Bool) (f : X → X) (v : X → ℕ) → ((x : X) → p (f x) ≡ q x) → ((x : X) → v (f x) ≡ v x) → (xs : List X) → option_map v (find p (map f xs)) ≡ option_map v (find q xs)
find_mapped p q f v same value [] = refl
find_mapped p q f v same value (x ∷ xs) =
    found_next v (p (f x)) (q x) (f x) x (find p (map f xs)) (find q xs) (same x) (value x) (find_mapped p q f v same value xs)

all_mapped : {X : Type 0} (p q : X → Bool) (f : X → X) → ((x : X) → p (f x) ≡ q x) → (xs : List X) → list_all p (map f xs) ≡ list_all q xs
all_mapped p q f same [] = refl
all_mapped p q f same (x ∷ xs) = (λ i. same x i && all_mapped p q f same xs i)

any_mapped : {X : Type 0} (p q : X → Bool) (f : X → X) → ((x : X) → p (f x) ≡ q x) → (xs : List X) → list_any p (map f xs) ≡ list_any q xs
any_mapped p q f same [] = refl
any_mapped p q f same (x ∷ xs) = (λ i. same x i || any_mapped p q f same xs i)

get_mapped : {X : Type 0} (f : X → X) (xs : List X) (j : ℕ) → slice_get (map f xs) j ≡ option_map f (slice_get xs j)
get_mapped f [] j = refl
get_mapped f (x ∷ xs) zero = refl
get_mapped f (x ∷ xs) (suc j) = get_mapped f xs j

neither : (a b : Bool) → a ≡ false → (a && b) ≡ false
neither true b is = absurd cc
neither false b is = refl

not_both : (a b : Bool) → (a ≡ true → b ≡ false) → (a && b) ≡ false
not_both true b h = h refl
not_both false b h = refl

and_alike : (a b c : Bool) → (a ≡ true → b ≡ c) → (a && b) ≡ (a && c)
and_alike true b c h = h refl
and_alike false b c h = refl

-- ---- moments

shifted : (n b c i : ℕ) → b ≤ n → b ≡ c → nat_eq (n - b) i ≡ nat_eq n (c + i)
shifted n b c i l same =
    elim (cases_eq (n - b) i) [
      | inl e ↦ eq-eqb (n - b) i e ∙ sym (eq-eqb n (c + i) (omega (arith, l, same, e)))
      | inr ne ↦ ne_eqb (n - b) i ne ∙ sym (ne_eqb n (c + i) (λ e. ne (omega (arith, l, same, e))))
    ]

-- an entry is for thread k after i of its commits from the base on, or for the same moment from the start on
moment : (ps : List Parts) (k i thread index : ℕ) (b : Bool) → nat_eq no_thread k ≡ false → nat_lt index (begun ps thread) ≡ b
    → (nat_eq (thread_since (begun ps thread) thread index) k && nat_eq (index - begun ps thread) i) ≡ (nat_eq thread k && nat_eq index (begun ps k + i))
moment ps k i thread index true other is =
    let since : thread_since (begun ps thread) thread index ≡ no_thread = rw is refl in
    let early = ltb-true index (begun ps thread) is in
    let not_now : nat_eq thread k ≡ true → nat_eq index (begun ps k + i) ≡ false =
    λ own.
    let at = ap (begun ps) (eqb-true thread k own) in
    ne_eqb index (begun ps k + i) (λ e. (let n : ⊥ = omega (arith, early, at, e) in n))
    in
    neither (nat_eq (thread_since (begun ps thread) thread index) k) (nat_eq (index - begun ps thread) i) (ap (λ (n : ℕ). nat_eq n k) since ∙ other)
    ∙ sym (not_both (nat_eq thread k) (nat_eq index (begun ps k + i)) not_now)
moment ps k i thread index false other is =
    let since : thread_since (begun ps thread) thread index ≡ thread = rw is refl in
    let late = ltb-false index (begun ps thread) is in
    ap (λ (n : ℕ). nat_eq n k && nat_eq (index - begun ps thread) i) since
    ∙ and_alike (nat_eq thread k) (nat_eq (index - begun ps thread) i) (nat_eq index (begun ps k + i))
    (λ own. shifted index (begun ps thread) (begun ps k) i late (ap (begun ps) (eqb-true thread k own)))

-- ---- interrupts and sizes

-- a thread's interrupt is the same by its moment counted from the start or from the base
pub interrupt-looked : (ps : List Parts) (xs : List Interrupt) (k i : ℕ) → nat_eq no_thread k ≡ false → interrupt_at xs k (begun ps k + i) ≡ interrupt_at (map (interrupt_since ps) xs) k i
interrupt-looked ps xs k i other =
    sym (find_mapped (λ x. nat_eq x.thread k && nat_eq x.index i) (λ x. nat_eq x.thread k && nat_eq x.index (begun ps k + i)) (interrupt_since ps) (λ x. x.value)
    (λ x. moment ps k i x.thread x.index (nat_lt x.index (begun ps x.thread)) other refl) (λ x. refl) xs)

size_by : (t : Tail) (s : Sizes) (k i : ℕ) → nat_eq no_thread k ≡ false → direct.size_in s t k (begun t.threads k + i) ≡ thread_size t.log.order (sizes_since t.threads s) k i
size_by t (Sizes.Each xs) k i other =
    let n : (begun t.threads k + i) - begun t.threads k ≡ i = omega arith in
    ap (thread_size t.log.order (Sizes.Each xs) k) n
size_by t (Sizes.Short xs) k i other =
    sym (find_mapped (λ x. nat_eq x.thread k && nat_eq x.index i) (λ x. nat_eq x.thread k && nat_eq x.index (begun t.threads k + i)) (short_since t.threads) (λ x. x.size)
    (λ x. moment t.threads k i x.thread x.index (nat_lt x.index (begun t.threads x.thread)) other refl) (λ x. refl) xs)

-- a thread's size is the same by its moment counted from the start or from the base
pub size-looked : (t : Tail) (k i : ℕ) → nat_eq no_thread k ≡ false → direct.size_of t k (begun t.threads k + i) ≡ sizes.size_in (log_since t) (Actor.Thread k) i
size-looked t k i other = size_by t t.log.sizes k i other

dma_size_by : (ps : List Parts) (s : Sizes) (n m : ℕ) → n ≡ m → dma_size s n ≡ dma_size (sizes_since ps s) m
dma_size_by ps (Sizes.Each xs) n m same = ap (slice_get xs) same
dma_size_by ps (Sizes.Short xs) n m same = refl

-- a DMA's size is the same by its position counted from the start or from the base
pub dma_size-looked : (t : Tail) (i : ℕ) → direct.size_of_dma t (t.base + i) ≡ sizes.size_in (log_since t) Actor.Dma i
dma_size-looked t i = dma_size_by t.threads t.log.sizes ((t.base + i) - t.base) i (omega arith)

-- ---- DMAs

dma_here : (base n i : ℕ) (x : DmaRecord) (b : Bool) → i < n → nat_lt x.position base ≡ b → nat_eq (dma_since base n x).position i ≡ nat_eq x.position (base + i)
dma_here base n i x true l is =
    let at : (dma_since base n x).position ≡ n = rw is refl in
    let early = ltb-true x.position base is in
    ap (λ (p : ℕ). nat_eq p i) at
    ∙ ne_eqb n i (λ e. (let no : ⊥ = omega (arith, l, e) in no))
    ∙ sym (ne_eqb x.position (base + i) (λ e. (let no : ⊥ = omega (arith, early, e) in no)))
dma_here base n i x false l is =
    let at : (dma_since base n x).position ≡ x.position - base = rw is refl in
    let late = ltb-false x.position base is in
    ap (λ (p : ℕ). nat_eq p i) at ∙ shifted x.position base base i late refl

dma_at : (t : Tail) (i : ℕ) → i < t.log.count → is_dma_at t.log.dmas (t.base + i) ≡ is_dma_at (log_since t).dmas i
dma_at t i l =
    sym (any_mapped (λ d. nat_eq d.position i) (λ d. nat_eq d.position (t.base + i)) (dma_since t.base t.log.count)
    (λ d. dma_here t.base t.log.count i d (nat_lt d.position t.base) l refl) t.log.dmas)

transferred_by : (base n i : ℕ) (o : Option Request) (d : Option DmaRecord) → i < n → transferred (base + i) o d ≡ transferred i o (option_map (dma_since base n) d)
transferred_by base n i None None l = refl
transferred_by base n i None (Some d) l = refl
transferred_by base n i (Some request) None l = refl
transferred_by base n i (Some request) (Some d) l =
    ap (λ (b : Bool). cond (b && nat_le (length d.bytes) request.len) (DmaGoes (dma_words request d.bytes)) (transferred i None None))
    (sym (dma_here base n i d (nat_lt d.position base) l refl))

-- a DMA's transfer is the same at its position counted from the start or from the base
pub transfer-looked : (t : Tail) (i j : ℕ) (o : Option Request) → i < t.log.count → transferred (t.base + i) o (slice_get t.log.dmas j) ≡ transferred i o (slice_get (log_since t).dmas j)
transfer-looked t i j o l =
    transferred_by t.base t.log.count i o (slice_get t.log.dmas j) l
    ∙ ap (transferred i o) (sym (get_mapped (dma_since t.base t.log.count) t.log.dmas j))

-- ---- heads

head_by : (mode : ModeName) (t : Tail) (i : ℕ) (last : Option ℕ) (live : List Bool) → i < t.log.count → direct.head_in mode t (t.base + i) last live ≡ log.head_in mode (log_since t) i last live
head_by ModeName.OrderSize t i last live l = (let n : (t.base + i) - t.base ≡ i = omega arith in ap (slice_get t.log.order) n)
head_by ModeName.OrderOnly t i last live l = (let n : (t.base + i) - t.base ≡ i = omega arith in ap (slice_get t.log.order) n)
head_by ModeName.Picolog t i last live l = ap (λ (b : Bool). head_by_turn b last live) (dma_at t i l)

-- a commit's actor is the same at its position counted from the start or from the base
pub head-looked : (t : Tail) (i : ℕ) (last : Option ℕ) (live : List Bool) → i < t.log.count → direct.head_in t.log.mode t (t.base + i) last live ≡ head (log_since t) i last live
head-looked t i last live l = head_by t.log.mode t i last live l

-- ---- what is left over

used_since : (b i n : ℕ) → b ≤ i → nat_lt (i - b) n ≡ nat_lt i (b + n)
used_since b i n l =
    elim (cases_lt (i - b) n) [
      | inl less ↦ lt-ltb (i - b) n less ∙ sym (lt-ltb i (b + n) (omega (arith, l, less)))
      | inr most ↦ le-ltb (i - b) n most ∙ sym (le-ltb i (b + n) (omega (arith, l, most)))
    ]

used_there : (b : ℕ) (o : Option Parts) (x y : ShortSize) → b ≤ x.index → y.index ≡ x.index - b → is_size_used o y ≡ is_size_used (option_map (recounted b) o) x
used_there b None x y l same = refl
used_there b (Some p) x y l same = ap (λ (n : ℕ). nat_lt n p.commits) same ∙ used_since b x.index p.commits l

used_one : (t : Tail) (ts : List Parts) (x : ShortSize) (b : Bool) → slice_get ts no_thread ≡ None → nat_lt x.index (begun t.threads x.thread) ≡ b
    → is_size_used (slice_get ts (short_since t.threads x).thread) (short_since t.threads x) ≡ direct.is_used t (counted_from (begun t.threads) 0 ts) x
used_one t ts x true none is =
    let at : (short_since t.threads x).thread ≡ no_thread = rw is refl in
    let early = ltb-true x.index (begun t.threads x.thread) is in
    ap (λ (o : Option Parts). is_size_used o (short_since t.threads x)) (ap (slice_get ts) at ∙ none)
    ∙ sym (neither (nat_le (begun t.threads x.thread) x.index) (is_size_used (slice_get (counted_from (begun t.threads) 0 ts) x.thread) x) (lt-leb (begun t.threads x.thread) x.index early))
used_one t ts x false none is =
    let at : (short_since t.threads x).thread ≡ x.thread = rw is refl in
    let late = ltb-false x.index (begun t.threads x.thread) is in
    let here : 0 + x.thread ≡ x.thread = omega arith in
    let there : slice_get (counted_from (begun t.threads) 0 ts) x.thread ≡ option_map (recounted (begun t.threads x.thread)) (slice_get ts x.thread) =
    get-counted (begun t.threads) 0 ts x.thread ∙ ap (λ (j : ℕ). option_map (recounted (begun t.threads j)) (slice_get ts x.thread)) here
    in
    ap (λ (k : ℕ). is_size_used (slice_get ts k) (short_since t.threads x)) at
    ∙ used_there (begun t.threads x.thread) (slice_get ts x.thread) x (short_since t.threads x) late refl
    ∙ ap (λ (o : Option Parts). is_size_used o x) (sym there)
    ∙ sym (ap (λ (c : Bool). c && is_size_used (slice_get (counted_from (begun t.threads) 0 ts) x.thread) x) (le-leb (begun t.threads x.thread) x.index late))

all_used : (s : Sizes) (t : Tail) (ts : List Parts) → slice_get ts no_thread ≡ None → are_sizes_used ts (sizes_since t.threads s) ≡ direct.are_used s t (counted_from (begun t.threads) 0 ts)
all_used (Sizes.Each xs) t ts none = refl
all_used (Sizes.Short xs) t ts none =
    all_mapped (λ x. is_size_used (slice_get ts x.thread) x) (direct.is_used t (counted_from (begun t.threads) 0 ts)) (short_since t.threads)
    (λ x. used_one t ts x (nat_lt x.index (begun t.threads x.thread)) none refl) xs

left_bools : (s i n d : Bool) → (not s || i || n || d) ≡ cond s (cond i true (cond n true d)) true
left_bools false i n d = refl
left_bools true true n d = refl
left_bools true false true d = refl
left_bools true false false d = refl

length_mapped : {X : Type 0} (f : X → X) (xs : List X) → length (map f xs) ≡ length xs
length_mapped f [] = refl
length_mapped f (x ∷ xs) = ap suc (length_mapped f xs)

-- the play told directly has something left over exactly if the one counted from the base has
pub left-looked : (t : Tail) (u : Used) (ts : List Parts) → slice_get ts no_thread ≡ None → direct.has_left t u (counted_from (begun t.threads) 0 ts) ≡ has_left_over (log_since t) u ts
unfolding has_left_over direct.has_left
left-looked t u ts none =
    left_bools (direct.are_used t.log.sizes t (counted_from (begun t.threads) 0 ts)) (nat_lt u.interrupts (length t.log.interrupts)) (nat_lt u.inputs (length t.log.inputs)) (nat_lt u.dmas (length t.log.dmas))
    ∙ (λ i. cond (sym (all_used t.log.sizes t ts none) i)
    (cond (nat_lt u.interrupts (sym (length_mapped (interrupt_since t.threads) t.log.interrupts) i)) true
    (cond (nat_lt u.inputs (length t.log.inputs)) true (nat_lt u.dmas (sym (length_mapped (dma_since t.base t.log.count) t.log.dmas) i)))) true)
