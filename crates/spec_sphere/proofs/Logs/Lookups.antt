-- Entries of logs: how they are found again after others were added.
use Rattle.std.proofs.Common.{◌≡◌, ℕ, zero, suc, ◌+◌, ◌<◌, ◌≤◌, Bool, true, false, ◌&&◌, ◌||◌, eqb, cond, List, [], ◌∷◌, ◌++◌, length, Option, Some, None, refl, sym, ap, arith}
use Rattle.std.specs.Prelude.{slice_get, map, filter, find, option_map}
use Rattle.std.specs.List.{zip}
use Rattle.std.proofs.lemmas.Bool.{eq-eqb, ne_eqb, or_from, or_left}
use Rattle.std.proofs.lemmas.Option.{none-some}
use Rattle.dl_entry.specs.declared.Actor.{Actor}
use Rattle.spec_log.specs.declared.Interrupt.{Interrupt}
use Rattle.spec_log.specs.declared.DmaRecord.{DmaRecord}
use Rattle.spec_log.specs.declared.ShortSize.{ShortSize}
use Rattle.spec_log.specs.Size.{is_thread, sizes_of_thread}
use Rattle.spec_log.specs.Head.{is_dma_at}
use Rattle.spec_play.specs.Verdicts.{interrupt_at}
use Rattle.spec_log.specs.Noting.{insert_interrupt}
use Rattle.spec_sphere.specs.promises.Standing.{short_at, count_of, DmasBelow}
use Rattle.spec_sphere.proofs.Logs.Inserting.{with_short, find-inserted_other, find-inserted, length-inserted}

-- ---- by thread and commits

-- a short size that is put in place leaves what is found of every other commit
pub short-other : (sizes : List ShortSize) (k i n l j : ℕ) → (k ≡ l → i ≡ j → ⊥) → short_at (with_short k i n sizes) l j ≡ short_at sizes l j
short-other sizes k i n l j ne =
    ap (option_map (λ (s : ShortSize). s.size)) (find-inserted_other (λ (s : ShortSize). s.thread) (λ (s : ShortSize). s.index) (record { thread = k; index = i; size = n }) l j sizes ne)

unmapped : {X : Type 0} (f : X → ℕ) (o : Option X) → option_map f o ≡ None → o ≡ None
unmapped f None e = refl
unmapped f (Some x) e = absurd (none-some (f x) (sym e))

-- a short size that is put in place is found there
pub short-same : (sizes : List ShortSize) (k i n : ℕ) → short_at sizes k i ≡ None → short_at (with_short k i n sizes) k i ≡ Some n
short-same sizes k i n none =
    ap (option_map (λ (s : ShortSize). s.size))
    (find-inserted (λ (s : ShortSize). s.thread) (λ (s : ShortSize). s.index) (record { thread = k; index = i; size = n }) sizes (unmapped (λ (s : ShortSize). s.size) _ none))

-- the interrupts with one more, in its place
abbrev pub raised_to : (thread index value : ℕ) → List Interrupt → List Interrupt
raised_to k i v is = insert_interrupt (record { thread = k; index = i; value = v }) is

-- an interrupt that is put in place leaves what is found at every other commit
pub interrupt-other : (is : List Interrupt) (k i v l j : ℕ) → (k ≡ l → i ≡ j → ⊥) → interrupt_at (raised_to k i v is) l j ≡ interrupt_at is l j
interrupt-other is k i v l j ne =
    ap (option_map (λ (s : Interrupt). s.value)) (find-inserted_other (λ (s : Interrupt). s.thread) (λ (s : Interrupt). s.index) (record { thread = k; index = i; value = v }) l j is ne)

-- where none is logged at this moment, none stands
pub none-there : (is : List Interrupt) (k i : ℕ) → interrupt_at is k i ≡ None → find (λ (s : Interrupt). eqb s.thread k && eqb s.index i) is ≡ None
none-there is k i none = unmapped (λ (s : Interrupt). s.value) _ none

-- an interrupt that is put in place is found there
pub interrupt-same : (is : List Interrupt) (k i v : ℕ) → interrupt_at is k i ≡ None → interrupt_at (raised_to k i v is) k i ≡ Some v
interrupt-same is k i v none =
    ap (option_map (λ (s : Interrupt). s.value))
    (find-inserted (λ (s : Interrupt). s.thread) (λ (s : Interrupt). s.index) (record { thread = k; index = i; value = v }) is (none-there is k i none))

-- an interrupt at a free place makes one more
pub length-raised : (is : List Interrupt) (k i v : ℕ) → interrupt_at is k i ≡ None → length (raised_to k i v is) ≡ suc (length is)
length-raised is k i v none =
    length-inserted (λ (s : Interrupt). s.thread) (λ (s : Interrupt). s.index) (record { thread = k; index = i; value = v }) is (none-there is k i none)

-- ---- the size of each commit

count_cond : (k : ℕ) (b : Bool) (acts bs : List Actor) (n : ℕ) → count_of k (acts ++ bs) ≡ count_of k acts + count_of k bs → cond b (suc (count_of k (acts ++ bs))) (count_of k (acts ++ bs)) ≡ cond b (suc (count_of k acts)) (count_of k acts) + count_of k bs
count_cond k true acts bs n e = omega (arith, e)
count_cond k false acts bs n e = e

-- a thread is named in two lists as often as in both together
pub count-append : (k : ℕ) (acts bs : List Actor) → count_of k (acts ++ bs) ≡ count_of k acts + count_of k bs
count-append k [] bs = omega arith
count-append k (a ∷ acts) bs = count_cond k (is_thread k a) acts bs 0 (count-append k acts bs)

skip : (k : ℕ) (b : Bool) (a : Actor) (s : ℕ) (rest : List (Actor × ℕ)) (c n : ℕ) → slice_get (map (λ (p : Actor × ℕ). p.1) rest) c ≡ Some n
    → slice_get (map (λ (p : Actor × ℕ). p.1) (cond b ((a, s) ∷ rest) rest)) (cond b (suc c) c) ≡ Some n
skip k true a s rest c n e = e
skip k false a s rest c n e = e

-- the size of the thread's next commit stands after as many as it had
pub size-there : (k : ℕ) (os : List Actor) (ss : List ℕ) (n : ℕ) (rest : List Actor) (more : List ℕ) → length ss ≡ length os
    → slice_get (sizes_of_thread k (os ++ Actor.Thread k ∷ rest) (ss ++ n ∷ more)) (count_of k os) ≡ Some n
size-there k [] [] n rest more e =
    ap (λ (b : Bool). slice_get (map (λ (p : Actor × ℕ). p.1) (cond b ((Actor.Thread k, n) ∷ filter (λ (p : Actor × ℕ). is_thread k p.0) (zip rest more)) (filter (λ (p : Actor × ℕ). is_thread k p.0) (zip rest more)))) 0) (eq-eqb k k refl)
size-there k [] (s ∷ ss) n rest more e = absurd (omega arith)
size-there k (o ∷ os) [] n rest more e = absurd (omega arith)
size-there k (o ∷ os) (s ∷ ss) n rest more e =
    skip k (is_thread k o) o s _ (count_of k os) n (size-there k os ss n rest more (omega arith))

-- ---- after others

-- the element after n others is the one with number n
pub get-behind : {A : Type 0} (xs : List A) (x : A) (ys : List A) (n : ℕ) → length xs ≡ n → slice_get (xs ++ x ∷ ys) n ≡ Some x
get-behind [] x ys zero e = refl
get-behind [] x ys (suc n) e = absurd (omega arith)
get-behind (y ∷ xs) x ys zero e = absurd (omega arith)
get-behind (y ∷ xs) x ys (suc n) e = get-behind xs x ys n (omega arith)

-- ---- positions

-- every DMA is of the commit with number n or a later one
abbrev pub DmasFrom : (n : ℕ) → List DmaRecord → Type 0
DmasFrom n [] = Unit {0}
DmasFrom n (d ∷ ds) = (n ≤ d.position) × DmasFrom n ds

-- DMAs before n are before every larger number
pub DmasBelow_more : (n m : ℕ) (ds : List DmaRecord) → n ≤ m → DmasBelow n ds → DmasBelow m ds
DmasBelow_more n m [] l b = tt
DmasBelow_more n m (d ∷ ds) l b = (omega (arith, b.0), DmasBelow_more n m ds l b.1)

-- DMAs from n on are from every smaller number on
pub DmasFrom_less : (n m : ℕ) (ds : List DmaRecord) → m ≤ n → DmasFrom n ds → DmasFrom m ds
DmasFrom_less n m [] l b = tt
DmasFrom_less n m (d ∷ ds) l b = (omega (arith, b.0), DmasFrom_less n m ds l b.1)

-- one more DMA before n leaves all before n
pub DmasBelow-push : (n : ℕ) (ds : List DmaRecord) (d : DmaRecord) → DmasBelow n ds → d.position < n → DmasBelow n (ds ++ d ∷ [])
DmasBelow-push n [] d b l = (l, tt)
DmasBelow-push n (e ∷ ds) d b l = (b.0, DmasBelow-push n ds d b.1 l)

-- no position of these is n
pub no_dma : (n : ℕ) (ds es : List DmaRecord) → DmasBelow n ds → DmasFrom (suc n) es → is_dma_at (ds ++ es) n ≡ false
no_dma n [] [] b f = refl
no_dma n [] (e ∷ es) b f = or_from (eqb e.position n) (is_dma_at es n) (ne_eqb e.position n (λ h. let l = f.0 in omega (arith, l))) (no_dma n [] es tt f.1)
no_dma n (d ∷ ds) es b f = or_from (eqb d.position n) (is_dma_at (ds ++ es) n) (ne_eqb d.position n (λ h. let l = b.0 in omega (arith, l))) (no_dma n ds es b.1 f)

or_right_true : (x y : Bool) → y ≡ true → (x || y) ≡ true
or_right_true true y e = refl
or_right_true false y e = e

-- the commit of a DMA among others is known as one of a DMA
pub a_dma : (n : ℕ) (ds : List DmaRecord) (d : DmaRecord) (es : List DmaRecord) → d.position ≡ n → is_dma_at (ds ++ d ∷ es) n ≡ true
a_dma n [] d es e = or_left (eqb d.position n) (is_dma_at es n) (eq-eqb d.position n e)
a_dma n (c ∷ ds) d es e = or_right_true (eqb c.position n) (is_dma_at (ds ++ d ∷ es) n) (a_dma n ds d es e)
