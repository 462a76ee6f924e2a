-- What the play of a recorded log says of the next commit of a thread: that it goes as it was recorded.
use Rattle.std.proofs.Common.{◌≡◌, ℕ, zero, suc, ◌+◌, ◌-◌, ◌<◌, ◌≤◌, ◌⊎◌, inl, inr, Bool, true, false, cond, List, [], ◌∷◌, ◌++◌, length, Option, Some, None, refl, sym, ap, ◌∙◌, arith}
use Rattle.std.specs.Prelude.{slice_get, nat_lt, IsSome}
use Rattle.std.proofs.lemmas.Bool.{true≢false, le-ltb, ne_eqb}
use Rattle.std.proofs.lemmas.List.{length-append, append_assoc}
use Rattle.dl_entry.specs.declared.Actor.{Actor}
use Rattle.dl_entry.specs.declared.Input.{Input}
use Rattle.dl_entry.specs.declared.Why.{Why}
use Rattle.spec_isa.specs.declared.thread.Parts.{Parts}
use Rattle.spec_isa.specs.declared.thread.Kind.{Kind}
use Rattle.spec_isa.specs.Words.{lays, Stored}
use Rattle.spec_isa.specs.declared.thread.Load.{Load}
use Rattle.spec_isa.specs.Instruction.{InstructionOutcome, Next, Serial, one, unless, value_at, loads_of}
use Rattle.spec_isa.specs.Runs.{Run, run_start, followed, more, run}
use Rattle.spec_log.specs.declared.ModeName.{ModeName}
use Rattle.spec_log.specs.declared.Sizes.{Sizes}
use Rattle.spec_log.specs.declared.LogParts.{LogParts}
use Rattle.spec_log.specs.Size.{thread_size, size_in, sizes_of_thread}
use Rattle.spec_kernel.specs.Devices.{Devices}
use Rattle.spec_kernel.specs.Needs.{Need, fetched, next_kind, need}
use Rattle.spec_kernel.specs.Answers.{answer, Taken, taken}
use Rattle.spec_kernel.specs.Serving.{serve}
use Rattle.spec_play.specs.Effects.{chunk_effect, serial_effect}
use Rattle.spec_play.specs.Progress.{Progress}
use Rattle.spec_play.specs.declared.used.Used.{Used}
use Rattle.spec_play.specs.Verdicts.{ended, chunk_why, chunk_verdict, serial_why, given, served_verdict, serial_verdict, unless as unless_why}
use Rattle.spec_log.specs.Noting.{order_with}
use Rattle.spec_play.specs.Recording.{input_noted}
use Rattle.spec_play.specs.Plays.{Played, size_or_standard, thread_verdict}
use Rattle.spec_sphere.proofs.PlayingBack.Sizes.{serial-turn}
use Rattle.spec_sphere.proofs.Logs.Inserting.{with_size}
use Rattle.spec_play.proofs.Local.Running.{one-outcome, serial_outcome}
use Rattle.spec_sphere.proofs.Moves.Answering.{answer-fits}
use Rattle.spec_sphere.proofs.Moves.Threads.{run-keeps, LookAlike, serve-alike}
use Rattle.spec_sphere.proofs.Logs.Lookups.{short-same, size-there, get-behind}
use Rattle.spec_sphere.specs.promises.Standing.{count_of, OrderStands, SizesStand}
use Rattle.spec_sphere.proofs.Logs.Growing.{SizesAhead, Behind, Grows}

-- ---- runs

run_least : (m : List ℕ) (t : Parts) (n : ℕ) → (run m t n).n ≤ n
run_least m t zero = omega arith
run_least m t (suc n) =
    elim (one (run m t n).thread (lays m (run m t n).words)) as (λ (o : InstructionOutcome). (followed (run m t n) o).n ≤ suc n) [
      | Serial kind ↦ (let h = run_least m t n in omega arith)
      | Next u load store ↦ (let h = run_least m t n in omega arith)
    ]

run_part : (r : Run) (o : InstructionOutcome) (n : ℕ) → r.n ≤ n → (followed r o).n ≡ suc n → r.n ≡ n
run_part r (Serial kind) n l e = absurd (omega arith)
run_part r (Next u load store) n l e = omega arith

run_parts : (m : List ℕ) (t : Parts) (n : ℕ) → (run m t (suc n)).n ≡ suc n → (run m t 1).n ≡ 1
run_parts m t zero e = e
run_parts m t (suc n) e = run_parts m t n (run_part (run m t (suc n)) (one (run m t (suc n)).thread (lays m (run m t (suc n)).words)) (suc n) (run_least m t (suc n)) e)

first_part : (t : Parts) (f w : ℕ) (load : Option Load) (store : Option Stored) (o : Option Kind) (u : Parts) → (followed (run_start t) (unless o (Next u load store))).n ≡ 1 → o ≡ None
first_part t f w load store None u e = refl
first_part t f w load store (Some kind) u e = absurd (omega arith)

-- the first instruction of a run that ran is not serial
pub run-first : (m : List ℕ) (t : Parts) (n : ℕ) → 0 < n → (run m t n).n ≡ n → next_kind t m ≡ None
unfolding next_kind
run-first m t zero l e = absurd (omega arith)
run-first m t (suc n) l e =
    first_part t 0 0 _ _ _ _ (ap (λ (o : InstructionOutcome). (followed (run_start t) o).n) (sym (one-outcome t m)) ∙ run_parts m t n e)

-- a run stays where the next instruction is serial
stopped_by : (t : Parts) (m : List ℕ) (o : Option Kind) → next_kind t m ≡ o → IsSome o → (r : Run) → followed r (one t m) ≡ r
unfolding next_kind
stopped_by t m None e some r = absurd (true≢false (sym some))
stopped_by t m (Some kind) e some r =
    ap (followed r) (one-outcome t m ∙ serial_outcome t (fetched t m) (value_at m (loads_of t (fetched t m))) (length m) kind e)

run_stays : (m : List ℕ) (t : Parts) (n j : ℕ) → IsSome (next_kind (run m t n).thread (lays m (run m t n).words)) → run m t (j + n) ≡ run m t n
run_stays m t n zero some = let e : 0 + n ≡ n = omega arith in ap (run m t) e
run_stays m t n (suc j) some =
    let e : suc j + n ≡ suc (j + n) = omega arith in
    ap (run m t) e ∙ ap (more m) (run_stays m t n j some) ∙ stopped_by (run m t n).thread (lays m (run m t n).words) _ refl some (run m t n)

-- a run that comes to a serial instruction goes no further, however long it may
pub run-stops : (m : List ℕ) (t : Parts) (n s : ℕ) → n ≤ s → IsSome (next_kind (run m t n).thread (lays m (run m t n).words)) → run m t s ≡ run m t n
run-stops m t n s l some =
    let e : s ≡ (s - n) + n = omega arith in
    ap (run m t) e ∙ run_stays m t n (s - n) some

-- ---- what the log says of the size

-- a commit of thread k, which was t, ran n instructions; before it there were so many commits in that order, and the log
-- names these in the end
module _ (named order : List Actor) (k n pos : ℕ) (ts us : List Parts) (t : Parts) (g : Grows k ts us t) where
  -- the size that the log has of the commit is the recorded one, or it has none and the commit wasn't short
  pub size-says : (mode : ModeName) (y x : Sizes) (short : Bool) → OrderStands mode order pos ts → SizesStand mode x pos ts → Behind named (order_with mode order (Actor.Thread k)) → SizesAhead y (with_size x (Actor.Thread k) t.commits n short) us
      → (thread_size named y k t.commits ≡ Some n) ⊎ ((thread_size named y k t.commits ≡ None) × (short ≡ false))
  size-says ModeName.OrderSize (Sizes.Each ys) (Sizes.Each xs) short o s b a =
      inl (
      ap (λ (c : ℕ). slice_get (sizes_of_thread k named ys) c) (sym (o.1 k ∙ g.was))
      ∙ (λ i. slice_get (sizes_of_thread k ((b.1 ∙ append_assoc order (Actor.Thread k ∷ []) b.0) i) ((a.1 ∙ append_assoc xs (n ∷ []) a.0) i)) (count_of k order))
      ∙ size-there k order xs n b.0 a.0 (s ∙ sym o.0)
      )
  size-says ModeName.OrderSize (Sizes.Short ys) (Sizes.Each xs) short o s b a = absurd a
  size-says ModeName.OrderSize y (Sizes.Short xs) short o s b a = absurd s
  size-says ModeName.OrderOnly y (Sizes.Each xs) short o s b a = absurd s
  size-says ModeName.Picolog y (Sizes.Each xs) short o s b a = absurd s
  size-says ModeName.OrderOnly (Sizes.Each ys) (Sizes.Short xs) true o s b a = absurd a
  size-says ModeName.OrderOnly (Sizes.Each ys) (Sizes.Short xs) false o s b a = absurd a
  size-says ModeName.Picolog (Sizes.Each ys) (Sizes.Short xs) true o s b a = absurd a
  size-says ModeName.Picolog (Sizes.Each ys) (Sizes.Short xs) false o s b a = absurd a
  size-says ModeName.OrderOnly (Sizes.Short ys) (Sizes.Short xs) true o s b a =
      inl (a k t.commits (let h = g.same in omega arith) ∙ short-same xs k t.commits n (s k t.commits (let h = g.was in omega arith)))
  size-says ModeName.Picolog (Sizes.Short ys) (Sizes.Short xs) true o s b a =
      inl (a k t.commits (let h = g.same in omega arith) ∙ short-same xs k t.commits n (s k t.commits (let h = g.was in omega arith)))
  size-says ModeName.OrderOnly (Sizes.Short ys) (Sizes.Short xs) false o s b a =
      inr (a k t.commits (let h = g.same in omega arith) ∙ s k t.commits (let h = g.was in omega arith), refl)
  size-says ModeName.Picolog (Sizes.Short ys) (Sizes.Short xs) false o s b a =
      inr (a k t.commits (let h = g.same in omega arith) ∙ s k t.commits (let h = g.was in omega arith), refl)

-- ---- a chunk

why_not : (n : ℕ) → 0 < n → chunk_why (Some n) n ≡ None
why_not n l =
    ap (λ (b : Bool). cond b (Some Why.NotSerial) (cond (nat_lt n n) (Some (Why.Short n n)) None)) (ne_eqb n 0 (λ e. omega arith))
    ∙ ap (λ (b : Bool). cond b (Some (Why.Short n n)) None) (le-ltb n n (omega arith))

chunk_goes : (L : LogParts) (k n commits : ℕ) (p : Progress) (u : Used) (o : Option ℕ) (r : Run) → r.n ≡ n → r.thread.commits ≡ commits → size_in L (Actor.Thread k) commits ≡ o → chunk_why o n ≡ None
    → chunk_verdict L p u k r ≡ ended L k (chunk_effect k p.request r) u
unfolding chunk_verdict
chunk_goes L k n commits p u o r is_n is_c is_o none =
    ap (λ (w : Option Why). unless_why w (ended L k (chunk_effect k p.request r) u))
    (ap (λ (c : ℕ). chunk_why (size_in L (Actor.Thread k) c) r.n) is_c ∙ (λ i. chunk_why (is_o i) (is_n i)) ∙ none)

-- the play runs the same instructions
pub chunk-goes : (L : LogParts) (y : Played) (k n : ℕ) (m : List ℕ) (t : Parts) (p : Progress) (u : Used) → 0 < n → (run m t n).n ≡ n → y.memory ≡ m → y.progress ≡ p → y.used ≡ u
    → (size_in L (Actor.Thread k) t.commits ≡ Some n) ⊎ ((size_in L (Actor.Thread k) t.commits ≡ None) × (run m t L.s ≡ run m t n))
    → thread_verdict L y k t (next_kind t y.memory) ≡ ended L k (chunk_effect k p.request (run m t n)) u
chunk-goes L y k n m t p u some ran is_m is_p is_u size =
    let r : Run = run m t n in
    let same : run y.memory t (size_or_standard L k t.commits) ≡ r =
    ap (λ (x : List ℕ). run x t (size_or_standard L k t.commits)) is_m
    ∙ elim size [
      | inl e ↦ ap (λ (o : Option ℕ). run m t (elim o [ None ↦ L.s | Some z ↦ z ])) e
      | inr h ↦ ap (λ (o : Option ℕ). run m t (elim o [ None ↦ L.s | Some z ↦ z ])) h.0 ∙ h.1
    ]
    in
    ap (λ (x : List ℕ). thread_verdict L y k t (next_kind t x)) is_m ∙ ap (thread_verdict L y k t) (run-first m t n some ran)
    ∙ ap (chunk_verdict L y.progress y.used k) same
    ∙ (λ i. chunk_verdict L (is_p i) (is_u i) k r)
    ∙ elim size [
      | inl e ↦ chunk_goes L k n t.commits p u (Some n) r ran (run-keeps m t n) e (why_not n some)
      | inr h ↦ chunk_goes L k n t.commits p u None r ran (run-keeps m t n) h.0 refl
    ]

-- ---- a serial step

-- the play gives a serial step the record that was noted for it, if it needs one
pub given-taken : (o : Option Need) (d : Devices) (moment : ℕ) (all : List Input) (log : LogParts) (u : Used) → Behind all (input_noted (taken o d moment).input log).inputs → u.inputs ≡ length log.inputs
    → given o (slice_get all u.inputs) u ≡ Some (record { input = (taken o d moment).input; used = record u { inputs = length (input_noted (taken o d moment).input log).inputs } })
given-taken None d moment all log u b e = (λ i. Some (record { input = None; used = record u { inputs = e i } }))
given-taken (Some n) d moment all log u b e =
    let r : Input = (answer d n moment).input in
    let there : slice_get all u.inputs ≡ Some r = ap (λ (xs : List Input). slice_get xs u.inputs) (b.1 ∙ append_assoc log.inputs (r ∷ []) b.0) ∙ get-behind log.inputs r b.0 u.inputs (sym e) in
    let size : suc u.inputs ≡ length (log.inputs ++ r ∷ []) = (let h = length-append log.inputs (r ∷ []) in omega arith) in
    ap (λ (x : Option Input). given (Some n) x u) there
    ∙ ap (λ (c : Bool). cond c (Some (record { input = Some r; used = record u { inputs = suc u.inputs } })) None) (answer-fits d n moment)
    ∙ (λ i. Some (record { input = Some r; used = record u { inputs = size i } }))

-- the size of a serial step
abbrev ZeroOrNone : Option ℕ → Type 0
ZeroOrNone o = (o ≡ Some 0) ⊎ (o ≡ None)

serial_goes : (o : Option ℕ) → ZeroOrNone o → serial_why o ≡ None
serial_goes o h = elim h [
  | inl e ↦ ap serial_why e
  | inr e ↦ ap serial_why e
]

serial_verdict_is : (L : LogParts) (p : Progress) (u : Used) (k : ℕ) (ts : List Parts) (t : Parts) (m : List ℕ) → serial_verdict L p u k ts t m ≡ unless_why (serial_why (size_in L (Actor.Thread k) t.commits)) (served_verdict L p k ts t m (given (need t m) (slice_get L.inputs u.inputs) u))
unfolding serial_verdict
serial_verdict_is L p u k ts t m = refl

-- the play of a recorded serial step goes on, with the recorded input
pub serial-goes : (L : LogParts) (y : Played) (k : ℕ) (m : List ℕ) (t : Parts) (p : Progress) (ts : List Parts) (d : Devices) (moment : ℕ) (log : LogParts) → L.threads ≡ log.threads → y.memory ≡ m → y.progress ≡ p → LookAlike ts y.threads → y.used.inputs ≡ length log.inputs
    → IsSome (next_kind t m) → ZeroOrNone (size_in L (Actor.Thread k) t.commits) → Behind L.inputs (input_noted (taken (need t m) d moment).input log).inputs
    → thread_verdict L y k t (next_kind t y.memory)
    ≡ ended L k (serial_effect k (serve log.threads k ts p.request t m (taken (need t m) d moment).input)) (record y.used { inputs = length (input_noted (taken (need t m) d moment).input log).inputs })
serial-goes L y k m t p ts d moment log most is_m is_p alike inputs some size behind =
    let g : Taken = taken (need t m) d moment in
    let used1 : Used = record y.used { inputs = length (input_noted g.input log).inputs } in
    ap (λ (x : List ℕ). thread_verdict L y k t (next_kind t x)) is_m ∙ serial-turn L y k t (next_kind t m) some
    ∙ (λ i. serial_verdict L (is_p i) y.used k y.threads t (is_m i))
    ∙ serial_verdict_is L p y.used k y.threads t m
    ∙ ap (λ (w : Option Why). unless_why w (served_verdict L p k y.threads t m (given (need t m) (slice_get L.inputs y.used.inputs) y.used))) (serial_goes (size_in L (Actor.Thread k) t.commits) size)
    ∙ ap (served_verdict L p k y.threads t m) (given-taken (need t m) d moment L.inputs log y.used behind inputs)
    ∙ ap (λ (v : _). ended L k (serial_effect k v) used1) (serve-alike L.threads k ts y.threads p.request t m g.input alike)
    ∙ ap (λ (n : ℕ). ended L k (serial_effect k (serve n k ts p.request t m g.input)) used1) most
