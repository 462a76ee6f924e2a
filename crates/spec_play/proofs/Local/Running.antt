-- Instructions and runs look at memory only by the words that they fetch and load.
use Rattle.std.proofs.Common.{◌≡◌, ℕ, zero, suc, ◌/◌, Bool, true, false, List, length, Option, Some, None, refl, sym, ap, ◌∙◌, arith}
use Rattle.spec_isa.specs.declared.thread.Parts.{Parts}
use Rattle.spec_isa.specs.declared.thread.Load.{Load}
use Rattle.spec_isa.specs.declared.thread.Kind.{Kind}
use Rattle.spec_isa.specs.Words.{Stored, lays, read, is_inside}
use Rattle.spec_isa.specs.Instruction.{InstructionOutcome, Next, Serial, one, unless, value_at, outcome_with, serial_of, loads_of, next_of, load_of, store_of}
use Rattle.spec_isa.specs.Runs.{followed, more, run}
use Rattle.spec_kernel.specs.Needs.{fetched, next_kind}
use Rattle.spec_play.proofs.Local.Laying.{Agree-lays, Agree-read}
use Rattle.spec_play.specs.Touching.{Touches, RunTouches, Agree}

-- ---- one instruction

-- a thread whose pc is outside memory comes to a fault
pub outside_serial : (t : Parts) (f size : ℕ) → is_inside size t.pc ≡ false → serial_of t f size ≡ Some (Kind.Fault 1)
unfolding serial_of
outside_serial t f size e = rw e refl

-- an instruction is decided by the word that it fetches, the value that it loads and the size of memory
pub one-outcome : (t : Parts) (m : List ℕ) → one t m ≡ outcome_with t (fetched t m) (value_at m (loads_of t (fetched t m))) (length m)
unfolding one
one-outcome t m = refl

unless_ap : (o : Option Kind) (x y : InstructionOutcome) → (o ≡ None → x ≡ y) → unless o x ≡ unless o y
unless_ap None x y e = e refl
unless_ap (Some kind) x y e = refl

value_same : (m n : List ℕ) (o : Option ℕ) → ((a : ℕ) → o ≡ Some a → read n a ≡ read m a) → value_at n o ≡ value_at m o
value_same m n None e = refl
value_same m n (Some a) e = e a refl

abbrev next_with : Parts → (f w : ℕ) → InstructionOutcome
next_with t f w = Next (next_of t f w) (load_of t f w) (store_of t f w)

one_inside : (seen : ℕ → Bool) (t : Parts) (m n : List ℕ) → Agree seen m n → Touches seen t m → is_inside (length m) t.pc ≡ true → one t n ≡ one t m
one_inside seen t m n g touches e =
    let f : fetched t n ≡ fetched t m = Agree-read seen m n (t.pc / 4) g (touches.fetch e) in
    one-outcome t n
    ∙ (λ i. outcome_with t (f i) (value_at n (loads_of t (f i))) (g.size i))
    ∙ unless_ap (serial_of t (fetched t m) (length m)) (next_with t (fetched t m) (value_at n (loads_of t (fetched t m)))) (next_with t (fetched t m) (value_at m (loads_of t (fetched t m))))
    (λ none. ap (next_with t (fetched t m)) (value_same m n (loads_of t (fetched t m)) (λ a some. Agree-read seen m n a g (touches.load none a some))))
    ∙ sym (one-outcome t m)

-- a serial instruction leaves nothing but its kind
pub serial_outcome : (t : Parts) (f w size : ℕ) (kind : Kind) → serial_of t f size ≡ Some kind → outcome_with t f w size ≡ Serial kind
serial_outcome t f w size kind e = ap (λ (o : Option Kind). unless o (next_with t f w)) e

one_outside : (t : Parts) (m : List ℕ) → is_inside (length m) t.pc ≡ false → one t m ≡ Serial (Kind.Fault 1)
one_outside t m e =
    one-outcome t m ∙ serial_outcome t (fetched t m) (value_at m (loads_of t (fetched t m))) (length m) (Kind.Fault 1) (outside_serial t _ _ e)

by_inside : {A : Type 0} (b : Bool) → (b ≡ true → A) → (b ≡ false → A) → A
by_inside true p q = p refl
by_inside false p q = q refl

-- an instruction does the same on memories that agree on the words that it looks at
pub one_local : (seen : ℕ → Bool) (t : Parts) (m n : List ℕ) → Agree seen m n → Touches seen t m → one t n ≡ one t m
one_local seen t m n g touches =
    by_inside (is_inside (length m) t.pc)
    (one_inside seen t m n g touches)
    (λ e. one_outside t n (ap (λ (k : ℕ). is_inside k t.pc) g.size ∙ e) ∙ sym (one_outside t m e))

-- ---- whether it is serial

kind_is : (t : Parts) (m : List ℕ) → next_kind t m ≡ serial_of t (fetched t m) (length m)
unfolding next_kind
kind_is t m = refl

-- whether and why the fetched instruction is serial is the same on memories that agree on its words
pub serial_local : (seen : ℕ → Bool) (t : Parts) (m n : List ℕ) → Agree seen m n → Touches seen t m → serial_of t (fetched t n) (length n) ≡ serial_of t (fetched t m) (length m)
serial_local seen t m n g touches =
    by_inside (is_inside (length m) t.pc)
    (λ e. let f : fetched t n ≡ fetched t m = Agree-read seen m n (t.pc / 4) g (touches.fetch e) in (λ i. serial_of t (f i) (g.size i)))
    (λ e. outside_serial t (fetched t n) (length n) (ap (λ (k : ℕ). is_inside k t.pc) g.size ∙ e) ∙ sym (outside_serial t (fetched t m) (length m) e))

-- a thread's next instruction is of the same kind on memories that agree on what it looks at
pub kind_local : (seen : ℕ → Bool) (t : Parts) (m n : List ℕ) → Agree seen m n → Touches seen t m → next_kind t n ≡ next_kind t m
kind_local seen t m n g touches = kind_is t n ∙ serial_local seen t m n g touches ∙ sym (kind_is t m)

unless_serial : (o : Option Kind) (u : Parts) (load : Option Load) (store : Option Stored) (kind : Kind) → unless o (Next u load store) ≡ Serial kind → o ≡ Some kind
unless_serial None u load store kind e = cc
unless_serial (Some k) u load store kind e = let h : k ≡ kind = cc in ap Some h

-- an instruction that is not run is serial
pub one_serial : (t : Parts) (m : List ℕ) (kind : Kind) → one t m ≡ Serial kind → next_kind t m ≡ Some kind
one_serial t m kind e = kind_is t m ∙ unless_serial _ _ _ _ kind (sym (one-outcome t m) ∙ e)

-- an instruction that isn't serial is fetched as the same word from memories that agree on it
pub fetched_local : (seen : ℕ → Bool) (t : Parts) (m n : List ℕ) → Agree seen m n → Touches seen t m → serial_of t (fetched t n) (length n) ≡ None → fetched t n ≡ fetched t m
fetched_local seen t m n g touches none =
    by_inside (is_inside (length m) t.pc)
    (λ e. Agree-read seen m n (t.pc / 4) g (touches.fetch e))
    (λ e. let s = outside_serial t (fetched t n) (length n) (ap (λ (k : ℕ). is_inside k t.pc) g.size ∙ e) in cc)

-- ---- a run

-- a run is the same on memories that agree on all the words that it fetches and loads
pub run_local : (seen : ℕ → Bool) (m n : List ℕ) (t : Parts) (k : ℕ) → Agree seen m n → RunTouches seen m t k → run n t k ≡ run m t k
run_local seen m n t zero g touches = refl
run_local seen m n t (suc k) g touches =
    let r = run m t k in
    ap (more n) (run_local seen m n t k g (λ i l. touches i (omega arith)))
    ∙ ap (followed r) (one_local seen r.thread (lays m r.words) (lays n r.words) (Agree-lays seen m n r.words g) (touches k (omega arith)))

unless_next : (o : Option Kind) (x : InstructionOutcome) (u : Parts) (load : Option Load) (store : Option Stored) → unless o x ≡ Next u load store → o ≡ None
unless_next None x u load store e = refl
unless_next (Some k) x u load store e = cc

-- an instruction that is run is not serial
pub one_next : (t : Parts) (m : List ℕ) (u : Parts) (load : Option Load) (store : Option Stored) → one t m ≡ Next u load store → next_kind t m ≡ None
one_next t m u load store e = kind_is t m ∙ unless_next _ _ u load store (sym (one-outcome t m) ∙ e)
