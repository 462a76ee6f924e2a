-- What a play looks up in a tail's log it finds in the log for later, and the other way round.
use Rattle.std.proofs.Common.{◌≡◌, ℕ, ◌<◌, Bool, true, false, ◌&&◌, cond, List, [], ◌∷◌, map, Some, None, refl, ap, sym, ◌∙◌, arith}
use Rattle.std.specs.Prelude.{nat_eq, nat_lt, ◌==◌, ◌||◌, not, filter, find, option_map, slice_get}
use Rattle.std.specs.List.{list_any, list_all}
use Rattle.std.proofs.lemmas.Bool.{ltb-false}
use Rattle.spec_isa.specs.declared.thread.Parts.{Parts}
use Rattle.spec_log.specs.declared.DmaRecord.{DmaRecord}
use Rattle.spec_log.specs.declared.Interrupt.{Interrupt}
use Rattle.spec_log.specs.declared.ShortSize.{ShortSize}
use Rattle.spec_log.specs.Head.{is_dma_at}
use Rattle.spec_play.specs.Turns.{is_size_used}
use Rattle.spec_play.specs.Verdicts.{interrupt_at}
use Rattle.spec_tail.specs.Playing.{begun, no_thread, short_since, interrupt_since, dma_since}
use Rattle.spec_tail.specs.Later.{is_early_size, is_later_interrupt, interrupts_later, is_early_dma, dmas_later}

-- ---- lists that leave something out

kept : {X : Type 0} (p : X → Bool) (f : X → X) (x : X) (xs : List X) → p x ≡ true → map f (filter p (x ∷ xs)) ≡ f x ∷ map f (filter p xs)
kept p f x xs is = rw is refl

left : {X : Type 0} (p : X → Bool) (f : X → X) (x : X) (xs : List X) → p x ≡ false → map f (filter p (x ∷ xs)) ≡ map f (filter p xs)
left p f x xs is = rw is refl

find_same : {X : Type 0} (p : X → Bool) (x : X) (xs ys : List X) → find p xs ≡ find p ys → find p (x ∷ xs) ≡ find p (x ∷ ys)
find_same p x xs ys same = ap (cond (p x) (Some x)) same

find_passed : {X : Type 0} (p : X → Bool) (x : X) (xs : List X) → p x ≡ false → find p (x ∷ xs) ≡ find p xs
find_passed p x xs is = rw is refl

neither : (a b : Bool) → a ≡ false → (a && b) ≡ false
neither true b is = absurd cc
neither false b is = refl

nor : (a b : Bool) → b ≡ false → (a && b) ≡ false
nor true b is = is
nor false b is = refl

-- ---- sizes

abbrev is_size_of : (thread index : ℕ) → ShortSize → Bool
is_size_of k i x = (x.thread == k) && (x.index == i)

abbrev is_late_size : List Parts → ShortSize → Bool
is_late_size ps x = not (is_early_size ps x)

abbrev later_sizes : List Parts → List ShortSize → List ShortSize
later_sizes ps xs = map (short_since ps) (filter (is_late_size ps) xs)

early_thread : (ps : List Parts) (x : ShortSize) → is_early_size ps x ≡ true → (short_since ps x).thread ≡ no_thread
early_thread ps x is = rw is refl

find_next : (ps : List Parts) (k i : ℕ) → (no_thread == k) ≡ false → (x : ShortSize) (xs : List ShortSize) (b : Bool) → is_early_size ps x ≡ b
    → find (is_size_of k i) (map (short_since ps) xs) ≡ find (is_size_of k i) (later_sizes ps xs)
    → find (is_size_of k i) (map (short_since ps) (x ∷ xs)) ≡ find (is_size_of k i) (later_sizes ps (x ∷ xs))
find_next ps k i other x xs true is same =
    let passed : is_size_of k i (short_since ps x) ≡ false =
    neither ((short_since ps x).thread == k) ((short_since ps x).index == i) (ap (λ (n : ℕ). n == k) (early_thread ps x is) ∙ other)
    in
    find_passed (is_size_of k i) (short_since ps x) (map (short_since ps) xs) passed ∙ same
    ∙ sym (ap (find (is_size_of k i)) (left (is_late_size ps) (short_since ps) x xs (ap not is)))
find_next ps k i other x xs false is same =
    find_same (is_size_of k i) (short_since ps x) (map (short_since ps) xs) (later_sizes ps xs) same
    ∙ sym (ap (find (is_size_of k i)) (kept (is_late_size ps) (short_since ps) x xs (ap not is)))

-- a thread's short size is the same if the sizes from before the base are left out
pub find-size : (ps : List Parts) (k i : ℕ) → (no_thread == k) ≡ false → (xs : List ShortSize)
    → find (is_size_of k i) (map (short_since ps) xs) ≡ find (is_size_of k i) (later_sizes ps xs)
find-size ps k i other [] = refl
find-size ps k i other (x ∷ xs) = find_next ps k i other x xs (is_early_size ps x) refl (find-size ps k i other xs)

-- with an early one, not all sizes are used
swapped : (a b c : Bool) → (a && (b && c)) ≡ (b && (a && c))
swapped true b c = refl
swapped false true c = refl
swapped false false c = refl

abbrev is_used : List Parts → ShortSize → Bool
is_used ts x = is_size_used (slice_get ts x.thread) x

used_next : (ts ps : List Parts) → slice_get ts no_thread ≡ None → (x : ShortSize) (xs : List ShortSize) (b : Bool) → is_early_size ps x ≡ b
    → list_all (is_used ts) (map (short_since ps) xs) ≡ (not (list_any (is_early_size ps) xs) && list_all (is_used ts) (later_sizes ps xs))
    → list_all (is_used ts) (map (short_since ps) (x ∷ xs))
    ≡ (not (list_any (is_early_size ps) (x ∷ xs)) && list_all (is_used ts) (later_sizes ps (x ∷ xs)))
used_next ts ps none x xs true is same =
    let at : slice_get ts (short_since ps x).thread ≡ None = ap (slice_get ts) (early_thread ps x is) ∙ none in
    rw (at, is) refl
used_next ts ps none x xs false is same =
    let y = short_since ps x in
    let any : list_any (is_early_size ps) (x ∷ xs) ≡ list_any (is_early_size ps) xs = ap (λ (b : Bool). b || list_any (is_early_size ps) xs) is in
    ap (λ (b : Bool). is_used ts y && b) same
    ∙ swapped (is_used ts y) (not (list_any (is_early_size ps) xs)) (list_all (is_used ts) (later_sizes ps xs))
    ∙ sym (ap (λ (b : Bool). not b && list_all (is_used ts) (later_sizes ps (x ∷ xs))) any
    ∙ ap (λ (ys : List ShortSize). not (list_any (is_early_size ps) xs) && list_all (is_used ts) ys) (kept (is_late_size ps) (short_since ps) x xs (ap not is)))

-- all sizes are used exactly if none is from before the base and all later ones are used
pub all-sizes-used : (ts ps : List Parts) → slice_get ts no_thread ≡ None → (xs : List ShortSize)
    → list_all (is_used ts) (map (short_since ps) xs) ≡ (not (list_any (is_early_size ps) xs) && list_all (is_used ts) (later_sizes ps xs))
all-sizes-used ts ps none [] = refl
all-sizes-used ts ps none (x ∷ xs) = used_next ts ps none x xs (is_early_size ps x) refl (all-sizes-used ts ps none xs)

-- ---- interrupts

abbrev is_interrupt_of : (thread index : ℕ) → Interrupt → Bool
is_interrupt_of k i x = nat_eq x.thread k && nat_eq x.index i

early_interrupt : (ps : List Parts) (x : Interrupt) → nat_lt x.index (begun ps x.thread) ≡ true → (interrupt_since ps x).thread ≡ no_thread
early_interrupt ps x is = rw is refl

late_interrupt : (ps : List Parts) (x : Interrupt) → nat_lt x.index (begun ps x.thread) ≡ false → (interrupt_since ps x).thread ≡ x.thread
late_interrupt ps x is = rw is refl

-- one that is left out isn't that of a later commit
out_of_reach : (ps : List Parts) (k i : ℕ) → nat_eq no_thread k ≡ false → 0 < i → (x : Interrupt) → is_later_interrupt ps x ≡ false → (b : Bool)
    → nat_lt x.index (begun ps x.thread) ≡ b → is_interrupt_of k i (interrupt_since ps x) ≡ false
out_of_reach ps k i other later x is true early =
    neither (nat_eq (interrupt_since ps x).thread k) (nat_eq (interrupt_since ps x).index i) (ap (λ (n : ℕ). nat_eq n k) (early_interrupt ps x early) ∙ other)
out_of_reach ps k i other later x is false early =
    let most = ltb-false (begun ps x.thread) x.index is in
    let none : nat_eq (interrupt_since ps x).index i ≡ false = grind arith in
    nor (nat_eq (interrupt_since ps x).thread k) (nat_eq (interrupt_since ps x).index i) none

interrupt_next : (ps : List Parts) (k i : ℕ) → nat_eq no_thread k ≡ false → 0 < i → (x : Interrupt) (xs : List Interrupt) (b : Bool) → is_later_interrupt ps x ≡ b
    → find (is_interrupt_of k i) (map (interrupt_since ps) xs) ≡ find (is_interrupt_of k i) (interrupts_later ps xs)
    → find (is_interrupt_of k i) (map (interrupt_since ps) (x ∷ xs)) ≡ find (is_interrupt_of k i) (interrupts_later ps (x ∷ xs))
interrupt_next ps k i other later x xs true is same =
    find_same (is_interrupt_of k i) (interrupt_since ps x) (map (interrupt_since ps) xs) (interrupts_later ps xs) same
    ∙ sym (ap (find (is_interrupt_of k i)) (kept (is_later_interrupt ps) (interrupt_since ps) x xs is))
interrupt_next ps k i other later x xs false is same =
    find_passed (is_interrupt_of k i) (interrupt_since ps x) (map (interrupt_since ps) xs) (out_of_reach ps k i other later x is (nat_lt x.index (begun ps x.thread)) refl) ∙ same
    ∙ sym (ap (find (is_interrupt_of k i)) (left (is_later_interrupt ps) (interrupt_since ps) x xs is))

find_interrupt : (ps : List Parts) (k i : ℕ) → nat_eq no_thread k ≡ false → 0 < i → (xs : List Interrupt)
    → find (is_interrupt_of k i) (map (interrupt_since ps) xs) ≡ find (is_interrupt_of k i) (interrupts_later ps xs)
find_interrupt ps k i other later [] = refl
find_interrupt ps k i other later (x ∷ xs) = interrupt_next ps k i other later x xs (is_later_interrupt ps x) refl (find_interrupt ps k i other later xs)

-- an interrupt that comes after the base is the same among the later interrupts alone
pub later-interrupt : (ps : List Parts) (k i : ℕ) → nat_eq no_thread k ≡ false → 0 < i → (xs : List Interrupt)
    → interrupt_at (map (interrupt_since ps) xs) k i ≡ interrupt_at (interrupts_later ps xs) k i
later-interrupt ps k i other later xs = ap (option_map (λ (x : Interrupt). x.value)) (find_interrupt ps k i other later xs)

-- ---- DMAs

abbrev is_late_dma : (base : ℕ) → DmaRecord → Bool
is_late_dma base x = not (is_early_dma base x)

dma_next : (base n i : ℕ) → (n == i) ≡ false → (x : DmaRecord) (xs : List DmaRecord) (b : Bool) → is_early_dma base x ≡ b
    → is_dma_at (map (dma_since base n) xs) i ≡ is_dma_at (dmas_later base n xs) i
    → is_dma_at (map (dma_since base n) (x ∷ xs)) i ≡ is_dma_at (dmas_later base n (x ∷ xs)) i
dma_next base n i other x xs true is same =
    let at : (dma_since base n x).position ≡ n = rw is refl in
    let not_at : ((dma_since base n x).position == i) ≡ false = ap (λ (p : ℕ). p == i) at ∙ other in
    ap (λ (b : Bool). b || is_dma_at (map (dma_since base n) xs) i) not_at ∙ same
    ∙ sym (ap (λ (ys : List DmaRecord). is_dma_at ys i) (left (is_late_dma base) (dma_since base n) x xs (ap not is)))
dma_next base n i other x xs false is same =
    ap (λ (b : Bool). ((dma_since base n x).position == i) || b) same
    ∙ sym (ap (λ (ys : List DmaRecord). is_dma_at ys i) (kept (is_late_dma base) (dma_since base n) x xs (ap not is)))

-- whether a DMA commits at a position is the same without the DMAs before the base
pub later-dma : (base n i : ℕ) → (n == i) ≡ false → (xs : List DmaRecord) → is_dma_at (map (dma_since base n) xs) i ≡ is_dma_at (dmas_later base n xs) i
later-dma base n i other [] = refl
later-dma base n i other (x ∷ xs) = dma_next base n i other x xs (is_early_dma base x) refl (later-dma base n i other xs)

or_false : (a b : Bool) → (a || b) ≡ false → (a ≡ false) × (b ≡ false)
or_false true b e = absurd cc
or_false false b e = (refl, e)

-- without one before the base, all of them are later
pub none-early : (base n : ℕ) (xs : List DmaRecord) → list_any (is_early_dma base) xs ≡ false → map (dma_since base n) xs ≡ dmas_later base n xs
none-early base n [] is = refl
none-early base n (x ∷ xs) is =
    let parts = or_false (is_early_dma base x) (list_any (is_early_dma base) xs) is in
    ap (λ (ys : List DmaRecord). dma_since base n x ∷ ys) (none-early base n xs parts.1)
    ∙ sym (kept (is_late_dma base) (dma_since base n) x xs (ap not parts.0))
