-- What a recorder holds together still holds together with one more commit or interrupt.
use Rattle.std.proofs.Common.{◌≡◌, ℕ, ◌+◌, ◌-◌, ◌^◌, ◌<◌, ◌≤◌, ◌==◌, ◌&&◌, Bool, true, false, List, [], ◌∷◌, All, length, map, get_or, slice_index, Option, Some, None, IfSome, option_map, Result, Ok, Err, OnOk, OnErr, ◌⊎◌, inl, inr, refl, sym, arith}
use Rattle.std.proofs.lemmas.Bool.{cases_lt, cases_eq, cases_Bool}
use Rattle.std.proofs.lemmas.List.{length_push, get_or-set_same, get_or-set_other, set_past}
use Rattle.std.proofs.lemmas.Option.{none-some}
use Rattle.std.proofs.lemmas.List.Elements.{All-nil, All-push, All-weaker, All-get_or}
use Rattle.dl_entry.specs.declared.input.Input.{Input}
use Rattle.dl_entry.specs.declared.commit.Commit.{Commit}
use Rattle.dl_entry.specs.declared.actor.Actor.{Actor}
use Rattle.dl_entry.specs.declared.actor.Actor.TheVariants.{Thread, Dma}
use Rattle.spec_log.specs.declared.mode_name.ModeName.{ModeName}
use Rattle.spec_log.specs.declared.mode_name.ModeName.TheVariants.{OrderSize, OrderOnly, Picolog}
use Rattle.spec_log.specs.declared.records.Interrupt.{Interrupt}
use Rattle.spec_log.specs.declared.records.DmaRecord.{DmaRecord}
use Rattle.spec_log.specs.declared.sizes.ShortSize.{ShortSize}
use Rattle.spec_log.specs.declared.sizes.Sizes.{Sizes}
use Rattle.spec_log.specs.declared.sizes.Sizes.TheVariants.{Each, Short}
use Rattle.spec_log.specs.Log.{IsSection, IsActor, IsOrder, IsSizes, IsShortSize, AreShortSizes, IsInterrupt, IsInput, AreInputs, IsDmaRecord, AreDmas, AreFewBytes}
use Rattle.spec_log.specs.Versions.{IsVersion, IsStandard, new_threads}
use Rattle.spec_log.specs.Noting.{Kept, Note, nothing_kept, no_sizes, noted, order_with, short_with, sizes_with, done_with, insert_interrupt}
use Rattle.spec_log.proofs.Sections.{IsSection-push}
use Rattle.dl_input.specs.Tracked.{Tracked, raised_at, interrupt_of}
use Rattle.dl_mode.specs.Logged.{note_of}
use Rattle.dl_mode.proofs.Nothing.{AreAmong-none}
use Rattle.dl_record.specs.Recording.{IsRecording, CanCommit, IsFresh, with_input, with_dma, short_sizes}
use Rattle.dl_record.proofs.Inserted.{IsSection-insert, length-insert}

done_with-few : (done : List ℕ) (actor : Actor) (n : ℕ) → ((t : ℕ) → slice_index done t ≤ n) → (t : ℕ) → slice_index (done_with done actor) t ≤ n + 1
done_with-few done Dma n h t = omega (arith, h t)
done_with-few done (Thread u) n h t =
    elim (cases_eq t u) [
      | inr other ↦ rw (get_or-set_other done u t (get_or done u 0 + 1) 0 other) (omega (arith, h t))
      | inl same ↦ elim (cases_lt u (length done)) [
        | inl within ↦ rw (same, get_or-set_same done u (get_or done u 0 + 1) 0 within) (omega (arith, h u))
        | inr past ↦ rw (set_past done u (get_or done u 0 + 1) past) (omega (arith, h t))
      ]
    ]

order-noted : (threads : ℕ) (mode : ModeName) (count : ℕ) (order : List Actor) (actor : Actor) → IsActor threads actor → IsOrder mode threads count order
    → IsOrder mode threads (count + 1) (order_with mode order actor)
order-noted threads OrderSize count order actor good o = (omega (arith, length_push order actor, o.0), All-push (IsActor threads) order actor o.1 good)
order-noted threads OrderOnly count order actor good o = (omega (arith, length_push order actor, o.0), All-push (IsActor threads) order actor o.1 good)
order-noted threads Picolog count order actor good o = o

short-noted : (threads s count : ℕ) (sizes : List ShortSize) (done : List ℕ) (actor : Actor) (size : ℕ) (short : Bool) → IsActor threads actor → size ≤ s
    → (short ≡ true → 1 ≤ size) → count < 2 ^ 24 → ((t : ℕ) → slice_index done t ≤ count) → length sizes ≤ count
    → AreShortSizes threads s sizes → AreShortSizes threads s (short_with sizes done actor size short)
short-noted threads s count sizes done Dma size short good fits over few counts room are = are
short-noted threads s count sizes done (Thread t) size false good fits over few counts room are = are
short-noted threads s count sizes done (Thread t) size true good fits over few counts room are =
    IsSection-insert (λ x. x.thread) (λ x. x.index) (IsShortSize threads s) (record { thread = t; index = slice_index done t; size = size }) sizes
    (omega (arith, few, room, length-insert (λ x. x.thread) (λ x. x.index) (record { thread = t; index = slice_index done t; size = size }) sizes))
    (good, omega (arith, counts t), over refl, fits) are

sizes-noted : (threads : ℕ) (mode : ModeName) (s count n : ℕ) (sizes : Sizes) (done : List ℕ) (note : Note) → IsActor threads note.actor → note.size ≤ s
    → (note.short ≡ true → 1 ≤ note.size) → n < 2 ^ 24 → ((t : ℕ) → slice_index done t ≤ n) → length (short_sizes sizes) ≤ n
    → IsSizes mode threads s count sizes → IsSizes mode threads s (count + 1) (sizes_with sizes done note)
sizes-noted threads OrderSize s count n (Each sizes) done note good fits over few counts room are =
    (omega (arith, length_push sizes note.size, are.0), All-push (λ size. size ≤ s) sizes note.size are.1 fits)
sizes-noted threads OrderSize s count n (Short sizes) done note good fits over few counts room are = absurd are
sizes-noted threads OrderOnly s count n (Each sizes) done note good fits over few counts room are = absurd are
sizes-noted threads OrderOnly s count n (Short sizes) done note good fits over few counts room are =
    short-noted threads s n sizes done note.actor note.size note.short good fits over few counts room are
sizes-noted threads Picolog s count n (Each sizes) done note good fits over few counts room are = absurd are
sizes-noted threads Picolog s count n (Short sizes) done note good fits over few counts room are =
    short-noted threads s n sizes done note.actor note.size note.short good fits over few counts room are

short-length : (sizes : List ShortSize) (done : List ℕ) (actor : Actor) (size : ℕ) (short : Bool) → length (short_with sizes done actor size short) ≤ length sizes + 1
short-length sizes done Dma size short = omega arith
short-length sizes done (Thread t) size false = omega arith
short-length sizes done (Thread t) size true =
    length-insert (λ x. x.thread) (λ x. x.index) (record { thread = t; index = slice_index done t; size = size }) sizes

sizes-length : (sizes : Sizes) (done : List ℕ) (note : Note) → length (short_sizes (sizes_with sizes done note)) ≤ length (short_sizes sizes) + 1
sizes-length (Each sizes) done note = omega arith
sizes-length (Short sizes) done note = short-length sizes done note.actor note.size note.short

abbrev pub IfThere : {X : Type 0} → (X → Type 0) → Option X → Type 0
IfThere P None = Unit {0}
IfThere P (Some x) = P x

inputs-with : (inputs : List Input) (input : Option Input) (past n : ℕ) → n < 2 ^ 24 → past + length inputs ≤ n → IfThere IsInput input → AreInputs inputs
    → AreInputs (with_input inputs input) × (past + length (with_input inputs input) ≤ n + 1)
inputs-with inputs None past n few h good are = (are, omega arith)
inputs-with inputs (Some input) past n few h good are =
    (IsSection-push IsInput (λ x y. Unit {0}) inputs input are (omega arith) good (λ d l. tt), omega (arith, length_push inputs input))

-- with that of a commit the inputs are no fewer
pub with_input-more : (inputs : List Input) (input : Option Input) → length inputs ≤ length (with_input inputs input)
with_input-more inputs None = omega arith
with_input-more inputs (Some input) = omega (arith, length_push inputs input)

dmas-with : (dmas : List DmaRecord) (n : ℕ) (bytes : Option (List ℕ)) → n < 2 ^ 24 → length dmas ≤ n → IfThere AreFewBytes bytes
    → All (λ dma. dma.position < n) dmas → AreDmas dmas
    → AreDmas (with_dma dmas n bytes) × (length (with_dma dmas n bytes) ≤ n + 1) × All (λ dma. dma.position < n + 1) (with_dma dmas n bytes)
dmas-with dmas n None few h good positions are =
    (are, omega arith, All-weaker (λ dma. dma.position < n) (λ dma. dma.position < n + 1) (λ dma l. omega arith) dmas positions)
dmas-with dmas n (Some bytes) few h good positions are =
    let dma : DmaRecord = record { position = n; bytes = bytes } in (
      IsSection-push IsDmaRecord (λ x y. x.position < y.position) dmas dma are (omega arith) (omega arith, good)
          (λ d l. All-get_or (λ dma. dma.position < n) dmas (length dmas - 1) d (omega arith) positions),
      omega (arith, length_push dmas dma),
      All-push (λ dma. dma.position < n + 1) dmas dma
          (All-weaker (λ dma. dma.position < n) (λ dma. dma.position < n + 1) (λ dma l. omega arith) dmas positions) (omega arith),
    )

IsSection-none : {X : Type 0} (good : X → Type 0) (before : X → X → Type 0) → IsSection good before []
IsSection-none good before = record { few = omega arith; each = All-nil good; rising = λ k d h. absurd (omega arith) }

order-none : (threads : ℕ) (mode : ModeName) → IsOrder mode threads 0 []
order-none threads OrderSize = (refl, All-nil (IsActor threads))
order-none threads OrderOnly = (refl, All-nil (IsActor threads))
order-none threads Picolog = refl

sizes-none : (threads s : ℕ) (mode : ModeName) → IsSizes mode threads s 0 (no_sizes mode) × (length (short_sizes (no_sizes mode)) ≡ 0)
sizes-none threads s OrderSize = ((refl, All-nil (λ size. size ≤ s)), refl)
sizes-none threads s OrderOnly = (IsSection-none (IsShortSize threads s) _, refl)
sizes-none threads s Picolog = (IsSection-none (IsShortSize threads s) _, refl)

-- a recording of nothing is one
pub IsRecording-none : (version : ℕ) (mode : ModeName) (s : ℕ) → IsVersion version (new_threads version) → IsStandard version s
    → IsRecording version mode 0 0 (nothing_kept mode s) [] [] []
IsRecording-none version mode s is_version standard =
    let sizes = sizes-none (new_threads version) s mode in
    record {
      log = record {
        version = is_version;
        s = standard;
        count = omega arith;
        order = order-none (new_threads version) mode;
        sizes = sizes.0;
        interrupts = IsSection-none (IsInterrupt (new_threads version)) _;
        inputs = IsSection-none IsInput _;
        dmas = IsSection-none IsDmaRecord _;
      };
      few = omega arith;
      done = AreAmong-none (nothing_kept mode s).done 0 refl;
      sizes = omega (arith, sizes.1);
      few_inputs = omega arith;
      few_dmas = omega arith;
      positions = All-nil (λ dma. dma.position < 0);
    }

-- a recording is still one with one more commit and its records
pub IsRecording-commit : (version : ℕ) (mode : ModeName) (past past_inputs : ℕ) (kept : Kept) (interrupts : List Interrupt) (inputs : List Input) (dmas : List DmaRecord)
    (commit : Commit) (short : Bool) (input : Option Input) (bytes : Option (List ℕ))
    → IsRecording version mode past past_inputs kept interrupts inputs dmas → CanCommit version kept commit short → past + kept.count < 2 ^ 24
    → IfThere IsInput input → IfThere AreFewBytes bytes
    → IsRecording version mode past past_inputs (noted mode kept (note_of commit short)) interrupts (with_input inputs input) (with_dma dmas (past + kept.count) bytes)
IsRecording-commit version mode past past_inputs kept interrupts inputs dmas commit short input bytes r can below good few =
    let n : ℕ = past + kept.count in
    let i = inputs-with inputs input past_inputs n below r.few_inputs good r.log.inputs in
    let d = dmas-with dmas n bytes below r.few_dmas few r.positions r.log.dmas in
    record {
      log = record {
        version = r.log.version;
        s = r.log.s;
        count = omega (arith, can.few);
        order = order-noted (new_threads version) mode kept.count kept.order commit.actor can.actor r.log.order;
        sizes = sizes-noted (new_threads version) mode kept.s kept.count n kept.sizes kept.done (note_of commit short) can.actor can.size can.over below r.done r.sizes r.log.sizes;
        interrupts = r.log.interrupts;
        inputs = i.0;
        dmas = d.0;
      };
      few = omega arith;
      done = λ t. omega (arith, done_with-few kept.done commit.actor n r.done t);
      sizes = omega (arith, sizes-length kept.sizes kept.done (note_of commit short), r.sizes);
      few_inputs = omega (arith, i.1);
      few_dmas = omega (arith, d.1);
      positions = All-weaker (λ dma. dma.position < n + 1) (λ dma. dma.position < past + (kept.count + 1)) (λ dma l. omega arith) (with_dma dmas n bytes) d.2;
    }

-- a recording is still one with one more interrupt
pub IsRecording-interrupt : (version : ℕ) (mode : ModeName) (past past_inputs : ℕ) (kept : Kept) (interrupts : List Interrupt) (inputs : List Input) (dmas : List DmaRecord) (interrupt : Interrupt)
    → IsRecording version mode past past_inputs kept interrupts inputs dmas → IsInterrupt (new_threads version) interrupt → length (insert_interrupt interrupt interrupts) < 2 ^ 32
    → IsRecording version mode past past_inputs kept (insert_interrupt interrupt interrupts) inputs dmas
IsRecording-interrupt version mode past past_inputs kept interrupts inputs dmas interrupt r good few =
    record {
      log = record {
        version = r.log.version;
        s = r.log.s;
        count = r.log.count;
        order = r.log.order;
        sizes = r.log.sizes;
        interrupts = IsSection-insert (λ i. i.thread) (λ i. i.index) (IsInterrupt (new_threads version)) interrupt interrupts few good r.log.interrupts;
        inputs = r.log.inputs;
        dmas = r.log.dmas;
      };
      few = r.few;
      done = r.done;
      sizes = r.sizes;
      few_inputs = r.few_inputs;
      few_dmas = r.few_dmas;
      positions = r.positions;
    }

-- a moment that is new among the interrupts of a log is new among those that are held
pub fresh : (entries : List Tracked) (t i : ℕ) → IsFresh (map interrupt_of entries) t i → raised_at entries t i ≡ None
fresh [] t i h = refl
fresh (x ∷ xs) t i h =
    elim (cases_Bool ((x.thread == t) && (x.index == i))) [
      | inl e ↦ absurd (none-some (interrupt_of x) (sym (rw e at h)))
      | inr e ↦ rw e (fresh xs t i (rw e at h))
    ]

-- a call has done what was asked, or left all as it was
pub either : {X E A B : Type 0} (r : Result X E) → OnOk r A → OnErr r B → A ⊎ B
either (Ok x) a b = inl a
either (Err e) a b = inr b

-- a fact of f's value at what may be there is one of what f may give
pub if_there : {X Y : Type 0} (f : X → Y) (P : Y → Type 0) (o : Option X) → IfSome o (λ x. P (f x)) → IfThere P (option_map f o)
if_there f P None h = tt
if_there f P (Some x) h = h
