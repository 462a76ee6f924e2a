-- What a serial step puts on the console is what its outputs put out there.
use Rattle.std.proofs.Common.{◌≡◌, ◌≢◌, ℕ, ◌<◌, ◌≤◌, inl, inr, Bool, true, false, eqb, cond, List, [], ◌∷◌, ◌++◌, length, Option, Some, None, refl, sym, ap, ◌∙◌, subst, arith}
use Rattle.std.specs.Prelude.{nat_eq, nat_le, nat_lt, take}
use Rattle.std.specs.List.{flat_map}
use Rattle.std.proofs.lemmas.Bool.{true≢false, cases_eq, cases_lt, eq-eqb, ne_eqb, lt-ltb, le-ltb, le-leb, and_from}
use Rattle.std.proofs.lemmas.List.{append-nil}
use Rattle.std.proofs.Math.Seq.{take-length}
use Rattle.dl_entry.specs.declared.Input.{Input}
use Rattle.dl_entry.specs.declared.Output.{Output}
use Rattle.dl_entry.specs.declared.Request.{Request}
use Rattle.spec_isa.specs.declared.thread.Parts.{Parts}
use Rattle.spec_isa.specs.declared.thread.Kind.{Kind}
use Rattle.spec_isa.specs.declared.operation.Operation.{Operation}
use Rattle.spec_kernel.specs.Devices.{Devices, console_put, pipe_fitting, pipe_put}
use Rattle.spec_kernel.specs.Needs.{Need, Write, Read, Random, Clock, MomentWord, InputWord, number_of, next_kind, next_operation, need_of_write, need_of_read, need_of_random, need_of_call, need_of_load, need_of, need}
use Rattle.spec_kernel.specs.Answers.{refused, Answered, went, write_answer, answer_write, answer_read, answer_random, answer_input, answer, taken}
use Rattle.spec_kernel.specs.Calls.{Called, called}
use Rattle.spec_kernel.specs.Serving.{output_of, outside_called, inside_called, is_outside, device_loaded, device_stored, serve_kind, serve, bytes_out, store_written, console_written}
use Rattle.spec_sphere.specs.promises.ConsoleBytes.{on_console}

-- the console after the devices' answer has what the outputs say
abbrev Tells : Devices → Devices → List Output → Type 0
Tells d e outputs = e.console ≡ d.console ++ flat_map on_console outputs

tells_nothing : (d e : Devices) (outputs : List Output) → e.console ≡ d.console → outputs ≡ [] → Tells d e outputs
tells_nothing d e outputs same none = same ∙ sym (append-nil d.console) ∙ ap (λ (os : List Output). d.console ++ flat_map on_console os) (sym none)

-- ---- a write

all_taken : (bytes : List ℕ) → cond (nat_le (length bytes) (length bytes)) (take (length bytes) bytes) [] ≡ bytes
all_taken bytes = ap (λ (b : Bool). cond b (take (length bytes) bytes) []) (le-leb (length bytes) (length bytes) (omega arith)) ∙ take-length bytes

-- channel 8 takes all, and what goes to another isn't the console's
off_console : (channel : ℕ) (bytes : List ℕ) (d e : Devices) → channel ≢ 8 → e.console ≡ d.console → Tells d e (record { channel = channel; bytes = bytes } ∷ [])
off_console channel bytes d e ne same =
    same ∙ sym (append-nil d.console) ∙ ap (λ (b : Bool). d.console ++ (cond b bytes [] ++ [])) (sym (ne_eqb channel 8 ne))

-- the answer to a write, by the channel
write_low : (d : Devices) (channel : ℕ) (bytes : List ℕ) → channel < 8 → answer_write d channel bytes ≡ write_answer (went (length (pipe_fitting d channel bytes)) (length bytes)) (pipe_put d channel bytes)
write_low d channel bytes l =
    ap (λ (b : Bool). cond b (write_answer (went (length (pipe_fitting d channel bytes)) (length bytes)) (pipe_put d channel bytes)) (cond (eqb channel 8) (write_answer (length bytes) (console_put bytes d)) (write_answer refused d))) (lt-ltb channel 8 l)

write_high : (d : Devices) (channel : ℕ) (bytes : List ℕ) (eight : Bool) → 8 ≤ channel → eqb channel 8 ≡ eight → answer_write d channel bytes ≡ cond eight (write_answer (length bytes) (console_put bytes d)) (write_answer refused d)
write_high d channel bytes eight l e =
    (λ h. cond (le-ltb channel 8 l h) (write_answer (went (length (pipe_fitting d channel bytes)) (length bytes)) (pipe_put d channel bytes)) (cond (e h) (write_answer (length bytes) (console_put bytes d)) (write_answer refused d)))

write_tells : (d : Devices) (channel : ℕ) (bytes : List ℕ) → let a = answer_write d channel bytes in Tells d a.devices (output_of (Some (Write channel bytes)) a.input)
write_tells d channel bytes =
    let told = λ (a : Answered). Tells d a.devices (output_of (Some (Write channel bytes)) a.input) in
    elim (cases_lt channel 8) [
      | inl l ↦ subst told (sym (write_low d channel bytes l)) (off_console channel _ d (pipe_put d channel bytes) (λ e. omega arith) refl)
      | inr l ↦ elim (cases_eq channel 8) [
        | inl e ↦ (
            let yes = eq-eqb channel 8 e in
            subst told (sym (write_high d channel bytes true l yes))
            (λ h. d.console ++ (sym (append-nil bytes) ∙ (λ j. cond (sym yes j) (sym (all_taken bytes) j) [] ++ [])) h)
            )
        | inr ne ↦ subst told (sym (write_high d channel bytes false l (ne_eqb channel 8 ne))) (off_console channel _ d d ne refl)
      ]
    ]

-- ---- what else is asked

read_by : (d : Devices) (low nine : Bool) (a b c : Answered) → a.devices.console ≡ d.console → b.devices.console ≡ d.console → c.devices.console ≡ d.console → (cond low a (cond nine b c)).devices.console ≡ d.console
read_by d true nine a b c ea eb ec = ea
read_by d false true a b c ea eb ec = eb
read_by d false false a b c ea eb ec = ec

read_console : (d : Devices) (channel len : ℕ) → (answer_read d channel len).devices.console ≡ d.console
read_console d channel len = read_by d (nat_lt channel 8) (nat_eq channel 9) _ _ _ refl refl refl

need_tells : (d : Devices) (n : Need) (moment : ℕ) → let a = answer d n moment in Tells d a.devices (output_of (Some n) a.input)
unfolding answer
need_tells d (Write channel bytes) moment = write_tells d channel bytes
need_tells d (Read channel buf len) moment = tells_nothing d (answer_read d channel len).devices [] (read_console d channel len) refl
need_tells d (Random buf len) moment = tells_nothing d (answer_random d len).devices [] refl refl
need_tells d Clock moment = tells_nothing d d [] refl refl
need_tells d MomentWord moment = tells_nothing d d [] refl refl
need_tells d InputWord moment = tells_nothing d (answer_input d).devices [] refl refl

outside_tells : (d : Devices) (request : Option Request) (t : Parts) (n : Option Need) (moment : ℕ) → let g = taken n d moment in Tells d g.devices (outside_called n request t g.input).outputs
outside_tells d request t None moment = tells_nothing d d [] refl refl
outside_tells d request t (Some n) moment = need_tells d n moment

-- a call that doesn't go outside asks for nothing
nothing_asked : (t : Parts) (m : List ℕ) → is_outside t ≡ false → need_of_call t m ≡ None
nothing_asked t m e =
    let n = number_of t in
    let not_so : 1 < n → n < 6 → ⊥ = (λ a b. true≢false (sym (and_from (nat_lt 1 n) (nat_lt n 6) (lt-ltb 1 n a) (lt-ltb n 6 b)) ∙ e)) in
    (λ h.
    cond (ne_eqb n 2 (λ q. not_so (omega arith) (omega arith)) h) (need_of_write t m)
    (cond (ne_eqb n 3 (λ q. not_so (omega arith) (omega arith)) h) (need_of_read t m)
    (cond (ne_eqb n 4 (λ q. not_so (omega arith) (omega arith)) h) (need_of_random t m)
    (cond (ne_eqb n 5 (λ q. not_so (omega arith) (omega arith)) h) (Some Clock) None))))

call_tells : (b : Bool) (d : Devices) (request : Option Request) (t : Parts) (m : List ℕ) (c : Called) (n : Option Need) (moment : ℕ) → is_outside t ≡ b → n ≡ need_of_call t m
    → let g = taken (need_of_call t m) d moment in Tells d g.devices (cond b (outside_called n request t g.input) (inside_called c)).outputs
call_tells true d request t m c n moment is e =
    subst (λ (x : Option Need). Tells d (taken (need_of_call t m) d moment).devices (outside_called x request t (taken (need_of_call t m) d moment).input).outputs) (sym e) (outside_tells d request t (need_of_call t m) moment)
call_tells false d request t m c n moment is e =
    tells_nothing d (taken (need_of_call t m) d moment).devices [] (ap (λ (x : Option Need). (taken x d moment).devices.console) (nothing_asked t m is)) refl

-- ---- device words

word_console : (d : Devices) (moment : ℕ) (b : Bool) → (taken (Some (cond b MomentWord InputWord)) d moment).devices.console ≡ d.console
unfolding answer
word_console d moment true = refl
word_console d moment false = refl

load_console : (d : Devices) (moment : ℕ) (operation : Operation) → (taken (need_of_load operation) d moment).devices.console ≡ d.console
load_console d moment (Operation.Load op rd a) = word_console d moment (nat_eq a 0xF0000000)
load_console d moment (Operation.Go rd value pc) = refl
load_console d moment (Operation.Stop kind) = refl
load_console d moment (Operation.Store op a v) = refl
load_console d moment (Operation.LoadReserved rd a) = refl
load_console d moment (Operation.StoreConditional rd a v) = refl
load_console d moment (Operation.Amo op rd a v) = refl

loaded_none : (request : Option Request) (t : Parts) (operation : Operation) (input : Option Input) → (device_loaded request t operation input).outputs ≡ []
loaded_none request t (Operation.Load op rd a) (Some r) = refl
loaded_none request t (Operation.Load op rd a) None = refl
loaded_none request t (Operation.Go rd value pc) input = refl
loaded_none request t (Operation.Stop kind) input = refl
loaded_none request t (Operation.Store op a v) input = refl
loaded_none request t (Operation.LoadReserved rd a) input = refl
loaded_none request t (Operation.StoreConditional rd a v) input = refl
loaded_none request t (Operation.Amo op rd a v) input = refl

store_tells : (d : Devices) (request : Option Request) (t : Parts) (operation : Operation) → let os = (device_stored request t operation).outputs in Tells d (console_put (bytes_out os) d) os
store_tells d request t (Operation.Load op rd a) = refl
store_tells d request t (Operation.Go rd value pc) = refl
store_tells d request t (Operation.Stop kind) = refl
store_tells d request t (Operation.Store op a v) = refl
store_tells d request t (Operation.LoadReserved rd a) = refl
store_tells d request t (Operation.StoreConditional rd a v) = refl
store_tells d request t (Operation.Amo op rd a v) = refl

-- ---- the step

kind_tells : (o : Option Kind) (most number : ℕ) (ts : List Parts) (request : Option Request) (t : Parts) (m : List ℕ) (d : Devices) (moment : ℕ) → next_kind t m ≡ o
    → let g = taken (need_of o t m) d moment in let v = serve_kind most o number ts request t m g.input in Tells d (store_written o v.outputs g.devices) v.outputs
unfolding need
kind_tells None most number ts request t m d moment is = tells_nothing d d [] refl refl
kind_tells (Some Kind.Call) most number ts request t m d moment is =
    call_tells (is_outside t) d request t m (called most (length m) number ts request t) (need t m) moment refl (ap (λ (o : Option Kind). need_of o t m) is)
kind_tells (Some Kind.Break) most number ts request t m d moment is = tells_nothing d d [] refl refl
kind_tells (Some Kind.DeviceLoad) most number ts request t m d moment is =
    let g = taken (need_of_load (next_operation t m)) d moment in
    tells_nothing d g.devices (device_loaded request t (next_operation t m) g.input).outputs (load_console d moment (next_operation t m)) (loaded_none request t (next_operation t m) g.input)
kind_tells (Some Kind.DeviceStore) most number ts request t m d moment is = store_tells d request t (next_operation t m)
kind_tells (Some (Kind.Fault cause)) most number ts request t m d moment is = tells_nothing d d [] refl refl

-- the console grows in a serial step by what its outputs put out there
pub serve-tells : (most number : ℕ) (ts : List Parts) (request : Option Request) (t : Parts) (m : List ℕ) (d : Devices) (moment : ℕ)
    → let g = taken (need t m) d moment in let v = serve most number ts request t m g.input in (console_written t m v.outputs g.devices).console ≡ d.console ++ flat_map on_console v.outputs
unfolding need serve console_written
serve-tells most number ts request t m d moment = kind_tells (next_kind t m) most number ts request t m d moment refl
