-- A step of a chunk is one instruction of its run, or none.
use Rattle.std.proofs.Common.{◌≡◌, ℕ, ◌/◌, false, List, length, Option, refl, sym, ap, ◌∙◌}
use Rattle.spec_isa.specs.declared.thread.Kind.{Kind}
use Rattle.spec_isa.specs.Words.{lays, read, is_inside}
use Rattle.spec_isa.specs.Instruction.{InstructionOutcome, Next, Serial, one, unless, value_at, serial_of, loads_of, next_of, load_of, store_of}
use Rattle.spec_isa.specs.Runs.{more, followed}
use Rattle.spec_engine.specs.declared.answers.How.{How}
use Rattle.spec_engine.specs.Flights.{Flight}
use Rattle.spec_engine.specs.Signatures.{Signature}
use Rattle.spec_engine.specs.Chunks.{Chunk, Stepping, closes, at_limit, reading, storing, loading, running, step}
use Rattle.spec_engine.specs.Laws.{StepAgrees, StepsAreInstructions}
use Rattle.spec_engine.proofs.Choosing.{keep_option, keep_choose}

-- the outcome of a step of the chunk `from` agrees with its run on the memory, even if lines were noted in between
Agrees : List ℕ → Chunk → Stepping → Type 0
Agrees m ch s = StepAgrees m ch s s.reply

agrees_is : (m : List ℕ) (ch : Chunk) (s : Stepping) → Agrees m ch s → StepAgrees m ch s s.reply
unfolding Agrees
agrees_is m ch s agrees = agrees

-- the outcome of the instruction f that loads the word w
abbrev ran_to : Chunk → (f w : ℕ) → InstructionOutcome
ran_to ch f w = let t = ch.done.thread in Next (next_of t f w) (load_of t f w) (store_of t f w)

abbrev shown : List ℕ → Chunk → List ℕ
shown m ch = lays m ch.done.words

abbrev here : List ℕ → Chunk → InstructionOutcome
here m ch = one ch.done.thread (shown m ch)

storing_agrees : (m : List ℕ) (capacity f w : ℕ) (ch : Chunk) (g : Signature) → here m ch ≡ ran_to ch f w → Agrees m ch (storing capacity f w (record ch { reads = g }))
unfolding Agrees storing at_limit
storing_agrees m capacity f w ch g e =
    let done : followed ch.done (ran_to ch f w) ≡ more m ch.done = ap (followed ch.done) (sym e) in
    keep_choose (Agrees m ch) _ _ _ (λ _. keep_choose (Agrees m ch) _ _ _ (λ _. done) (λ _. done)) (λ _. refl)

reading_agrees : (m : List ℕ) (slots : List (Option Flight)) (c : ℕ) (ch : Chunk) (g : Signature) (a : ℕ) (then_ : Chunk → Stepping)
    → ((h : Signature) → Agrees m ch (then_ (record ch { reads = h }))) → Agrees m ch (reading slots c (record ch { reads = g }) a then_)
unfolding Agrees reading
reading_agrees m slots c ch g a then_ agrees = keep_option (Agrees m ch) _ _ _ (λ _. agrees _) (λ k _. refl)

loading_agrees : (m : List ℕ) (capacity : ℕ) (slots : List (Option Flight)) (c f : ℕ) (ch : Chunk) (g : Signature)
    → here m ch ≡ ran_to ch f (value_at (shown m ch) (loads_of ch.done.thread f)) → Agrees m ch (loading capacity (shown m ch) slots c f (record ch { reads = g }))
unfolding loading
loading_agrees m capacity slots c f ch g e =
    keep_option (Agrees m ch) _ _ _
    (λ none. storing_agrees m capacity f 0 ch g (e ∙ ap (λ (o : Option ℕ). ran_to ch f (value_at (shown m ch) o)) none))
    (λ a some. reading_agrees m slots c ch g a (storing capacity f (read (shown m ch) a))
    (λ h. storing_agrees m capacity f (read (shown m ch) a) ch h (e ∙ ap (λ (o : Option ℕ). ran_to ch f (value_at (shown m ch) o)) some)))

running_agrees : (m : List ℕ) (capacity : ℕ) (slots : List (Option Flight)) (c f : ℕ) (ch : Chunk) (g : Signature)
    → here m ch ≡ unless (serial_of ch.done.thread f (length (shown m ch))) (ran_to ch f (value_at (shown m ch) (loads_of ch.done.thread f)))
    → Agrees m ch (running capacity (shown m ch) slots c f (record ch { reads = g }))
unfolding Agrees running
running_agrees m capacity slots c f ch g e =
    let done = ran_to ch f (value_at (shown m ch) (loads_of ch.done.thread f)) in
    keep_option (Agrees m ch) _ _ _
    (λ none. loading_agrees m capacity slots c f ch g (e ∙ ap (λ (o : Option Kind). unless o done) none))
    (λ kind some. (refl, (kind, e ∙ ap (λ (o : Option Kind). unless o done) some)))

-- a fetch outside memory faults
outside : (m : List ℕ) (ch : Chunk) → is_inside (length (shown m ch)) ch.done.thread.pc ≡ false → here m ch ≡ Serial (Kind.Fault 1)
unfolding one serial_of
outside m ch e = rw e refl

serial_agrees : (m : List ℕ) (ch : Chunk) → here m ch ≡ Serial (Kind.Fault 1) → Agrees m ch (closes How.Serial ch)
unfolding Agrees
serial_agrees m ch e = (refl, (Kind.Fault 1, e))

inside : (m : List ℕ) (ch : Chunk) → let f = read (shown m ch) (ch.done.thread.pc / 4) in
    here m ch ≡ unless (serial_of ch.done.thread f (length (shown m ch))) (ran_to ch f (value_at (shown m ch) (loads_of ch.done.thread f)))
unfolding one
inside m ch = refl

-- a step does one instruction of the chunk's run on the memory that it sees, or none, as its reply says
pub steps_are : StepsAreInstructions
unfolding step
steps_are capacity m slots c ch =
    let f = read (shown m ch) (ch.done.thread.pc / 4) in
    agrees_is m ch _
    (keep_choose (Agrees m ch) _ _ _
    (λ _. reading_agrees m slots c ch ch.reads (ch.done.thread.pc / 4) (running capacity (shown m ch) slots c f) (λ h. running_agrees m capacity slots c f ch h (inside m ch)))
    (λ past. serial_agrees m ch (outside m ch past)))
