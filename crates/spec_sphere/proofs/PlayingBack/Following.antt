-- The play of a recorded log follows the recording, commit by commit: only that an interrupt, which came some time after a
-- commit, comes with it in the play.
use Rattle.std.proofs.Common.{◌≡◌, ◌≢◌, ℕ, zero, suc, ◌+◌, ◌<◌, ◌≤◌, Bool, true, false, not, ◌&&◌, eqb, cond, List, [], ◌∷◌, ◌++◌, length, map, Option, Some, None, refl, sym, ap, ◌∙◌, arith, set}
use Rattle.std.specs.Prelude.{slice_get, option_map}
use Rattle.std.proofs.lemmas.Bool.{and_left, and_right, lt-ltb}
use Rattle.std.proofs.lemmas.List.{append_assoc}
use Rattle.std.proofs.lemmas.Option.{none-some}
use Rattle.dl_entry.specs.declared.Actor.{Actor}
use Rattle.dl_entry.specs.declared.Why.{Why}
use Rattle.spec_isa.specs.declared.thread.Parts.{Parts}
use Rattle.spec_isa.specs.Words.{lays}
use Rattle.spec_log.specs.declared.ModeName.{ModeName}
use Rattle.spec_log.specs.declared.Interrupt.{Interrupt}
use Rattle.spec_log.specs.declared.LogParts.{LogParts}
use Rattle.spec_log.specs.Head.{turn, is_dma_at, head_by_turn, head_in}
use Rattle.spec_kernel.specs.Interrupts.{is_live, has_handler, takes_interrupt, interrupted}
use Rattle.spec_kernel.specs.Needs.{next_kind}
use Rattle.spec_kernel.specs.Calls.{has_ended}
use Rattle.spec_play.specs.Effects.{Effect}
use Rattle.spec_play.specs.Progress.{Progress, position, with_effect, with_interrupt}
use Rattle.spec_play.specs.declared.used.Used.{Used}
use Rattle.spec_play.specs.Turns.{Turn, turn_of, turn_of_thread, next_actor, at_end, has_left_over, now_at}
use Rattle.spec_play.specs.Verdicts.{Goes, Fails, interrupt_at, with_interrupted, ended}
use Rattle.spec_log.specs.Noting.{order_with}
use Rattle.spec_play.specs.Plays.{Played, thread_verdict}
use Rattle.spec_sphere.specs.sphere.Spheres.{Sphere}
use Rattle.spec_sphere.proofs.Moves.Threads.{IsNew, LookAlike}
use Rattle.spec_sphere.proofs.Logs.Lookups.{get-behind}
use Rattle.spec_sphere.specs.promises.Standing.{OrderStands}
use Rattle.spec_sphere.proofs.Logs.Growing.{Behind, ThreadCommit}

-- ---- an interrupt that comes with its commit

-- the thread as the play has it: interrupted already, where only the final log has the interrupt
abbrev pub early_by : Option ℕ → Option ℕ → Parts → Parts
early_by (Some v) o t = t
early_by None None t = t
early_by None (Some v) t = interrupted v t

-- the thread as the play has it: interrupted already, where the log will say so
abbrev pub early : (final now : List Interrupt) → (thread : ℕ) → Parts → Parts
early final now k t = early_by (interrupt_at now k t.commits) (interrupt_at final k t.commits) t

-- 1 where only the final log has the interrupt
abbrev pub pending_by : Option ℕ → Option ℕ → ℕ
pending_by (Some v) o = 0
pending_by None None = 0
pending_by None (Some v) = 1

-- 1 where the play of the final log has interrupted the thread, and the recording hasn't yet
abbrev pub pending : (final now : List Interrupt) → (thread : ℕ) → Parts → ℕ
pending final now k t = pending_by (interrupt_at now k t.commits) (interrupt_at final k t.commits)

-- a thread of which both logs say the same is the same in the play
pub early_same : (a b : Option ℕ) (t : Parts) → b ≡ a → early_by a b t ≡ t
early_same (Some v) b t e = refl
early_same None None t e = refl
early_same None (Some v) t e = absurd (none-some v (sym e))

-- no interrupt is pending where both logs say the same
pub pending_same : (a b : Option ℕ) → b ≡ a → pending_by a b ≡ 0
pending_same (Some v) b e = refl
pending_same None None e = refl
pending_same None (Some v) e = absurd (none-some v (sym e))

early_lives : (a b : Option ℕ) (t : Parts) → is_live (early_by a b t) ≡ is_live t
early_lives (Some v) b t = refl
early_lives None None t = refl
early_lives None (Some v) t = refl

-- ---- sums over threads

-- the sum over all threads, the first of which has number n
abbrev pub sum_from : (ℕ → Parts → ℕ) → (n : ℕ) → List Parts → ℕ
sum_from f n [] = 0
sum_from f n (t ∷ ts) = f n t + sum_from f (suc n) ts

sum_same : (f g : ℕ → Parts → ℕ) (n : ℕ) (ts : List Parts) → ((j : ℕ) (t : Parts) → n ≤ j → f j t ≡ g j t) → sum_from g n ts ≡ sum_from f n ts
sum_same f g n [] same = refl
sum_same f g n (t ∷ ts) same = let a = same n t (omega arith) in let b = sum_same f g (suc n) ts (λ j u l. same j u (omega arith)) in omega arith

-- a sum over the threads changes by the changed thread alone
pub sum-set : (f g : ℕ → Parts → ℕ) (n k : ℕ) (ts : List Parts) (t u : Parts) → slice_get ts k ≡ Some t → ((j : ℕ) (x : Parts) → n ≤ j → j ≢ n + k → f j x ≡ g j x) → sum_from g n (set ts k u) + f (n + k) t ≡ sum_from f n ts + g (n + k) u
sum-set f g n k [] t u is same = absurd (none-some t is)
sum-set f g n zero (x ∷ ts) t u is same =
    let xt : x ≡ t = cc in
    let nz : n + 0 ≡ n = omega arith in
    let a : sum_from g (suc n) ts ≡ sum_from f (suc n) ts = sum_same f g (suc n) ts (λ j y l. same j y (omega arith) (λ e. omega arith)) in
    let b : f (n + 0) t ≡ f n x = (λ i. f (nz i) (sym xt i)) in
    let c : g (n + 0) u ≡ g n u = ap (λ (m : ℕ). g m u) nz in
    omega arith
sum-set f g n (suc k) (x ∷ ts) t u is same =
    let nk : n + suc k ≡ suc n + k = omega arith in
    let a = sum-set f g (suc n) k ts t u is (λ j y l ne. same j y (omega arith) (λ e. ne (e ∙ nk))) in
    let b = same n x (omega arith) (λ e. omega arith) in
    let c : f (n + suc k) t ≡ f (suc n + k) t = ap (λ (m : ℕ). f m t) nk in
    let d : g (n + suc k) u ≡ g (suc n + k) u = ap (λ (m : ℕ). g m u) nk in
    omega arith

-- a sum of zeros is 0
pub sum-zero : (f : ℕ → Parts → ℕ) (n : ℕ) (ts : List Parts) → ((j : ℕ) (t : Parts) → slice_get ts j ≡ Some t → f (n + j) t ≡ 0) → sum_from f n ts ≡ 0
sum-zero f n [] each = refl
sum-zero f n (t ∷ ts) each =
    let nz : n + 0 ≡ n = omega arith in
    let a : f n t ≡ 0 = sym (ap (λ (m : ℕ). f m t) nz) ∙ each 0 t refl in
    let b = sum-zero f (suc n) ts (λ j u e. let k : suc n + j ≡ n + suc j = omega arith in ap (λ (m : ℕ). f m u) k ∙ each (suc j) u e) in
    omega arith

-- threads at the end that count nothing
pub sum-append : (f : ℕ → Parts → ℕ) (n : ℕ) (ts spawned : List Parts) → ((j : ℕ) (m : Parts) → slice_get (ts ++ spawned) j ≡ Some m → slice_get ts j ≡ None → f (n + j) m ≡ 0) → sum_from f n (ts ++ spawned) ≡ sum_from f n ts
sum-append f n [] spawned each = sum-zero f n spawned (λ j m e. each j m e refl)
sum-append f n (t ∷ ts) spawned each =
    ap (λ (x : ℕ). f n t + x) (sum-append f (suc n) ts spawned (λ j m e none. let k : suc n + j ≡ n + suc j = omega arith in ap (λ (x : ℕ). f x m) k ∙ each (suc j) m e none))

-- ---- the play beside the recording

-- with L the log in the end, the play y stands where the recorded sphere p stands
pub record Follows (L : LogParts) (p : Sphere) (log : LogParts) (y : Played) : Type 0 where
  pub memory : y.memory ≡ p.memory
  pub size : length y.threads ≡ length p.threads
  pub threads : (j : ℕ) (t : Parts) → slice_get p.threads j ≡ Some t → slice_get y.threads j ≡ Some (early L.interrupts log.interrupts j t)
  pub progress : y.progress ≡ p.progress
  pub inputs : y.used.inputs ≡ length log.inputs
  pub dmas : y.used.dmas ≡ length log.dmas
  pub interrupts : y.used.interrupts ≡ length log.interrupts + sum_from (pending L.interrupts log.interrupts) 0 p.threads
  pub now : y.now ≡ now_at L y.progress y.used y.threads

past_end : {A : Type 0} (xs ys : List A) (j : ℕ) → length xs ≡ length ys → slice_get ys j ≡ None → slice_get xs j ≡ None
past_end [] ys j size e = refl
past_end (x ∷ xs) [] j size e = absurd (omega arith)
past_end (x ∷ xs) (y ∷ ys) zero size e = absurd (none-some y (sym e))
past_end (x ∷ xs) (y ∷ ys) (suc j) size e = past_end xs ys j (omega arith) e

-- the same threads live
live_flags : (ys ps : List Parts) → length ys ≡ length ps → ((j : ℕ) (t : Parts) → slice_get ps j ≡ Some t → (u : Parts) × (slice_get ys j ≡ Some u) × (is_live u ≡ is_live t)) → map is_live ys ≡ map is_live ps
live_flags [] [] size each = refl
live_flags [] (p ∷ ps) size each = absurd (omega arith)
live_flags (y ∷ ys) [] size each = absurd (omega arith)
live_flags (y ∷ ys) (p ∷ ps) size each =
    let h = each 0 p refl in
    let e : y ≡ h.0 = (let o = h.1 in cc) in
    (λ i. (ap is_live e ∙ h.2) i ∷ live_flags ys ps (omega arith) (λ j t is. each (suc j) t is) i)

-- in the play the same threads live as in the recording
pub same-flags : (L : LogParts) (p : Sphere) (log : LogParts) (y : Played) → Follows L p log y → map is_live y.threads ≡ map is_live p.threads
same-flags L p log y f =
    live_flags y.threads p.threads f.size
    (λ j t e. (early L.interrupts log.interrupts j t, f.threads j t e, early_lives (interrupt_at log.interrupts j t.commits) (interrupt_at L.interrupts j t.commits) t))

ended_if : (o u : Option Parts) → ((t : Parts) → u ≡ Some t → (v : Parts) × (o ≡ Some v) × (is_live v ≡ is_live t)) → (u ≡ None → o ≡ None) → has_ended o ≡ has_ended u
ended_if o None some none = ap has_ended (none refl)
ended_if o (Some t) some none =
    let h = some t refl in ap has_ended h.1 ∙ ap (λ (b : Bool). cond b 0 1) h.2

-- the threads of the play look like those of the recording
pub look-alike : (L : LogParts) (p : Sphere) (log : LogParts) (y : Played) → Follows L p log y → LookAlike p.threads y.threads
look-alike L p log y f =
    record {
      size = f.size;
      ended = λ j. ended_if (slice_get y.threads j) (slice_get p.threads j)
          (λ t e. (early L.interrupts log.interrupts j t, f.threads j t e, early_lives (interrupt_at log.interrupts j t.commits) (interrupt_at L.interrupts j t.commits) t))
          (λ e. past_end y.threads p.threads j f.size e);
    }

-- ---- whose turn it is

-- it is the turn of the live thread that the log names next
pub turn-at : (L : LogParts) (p : Progress) (u : Used) (ts : List Parts) (k : ℕ) (t : Parts) → position p < L.count → next_actor L p ts ≡ Some (Actor.Thread k) → slice_get ts k ≡ Some t → is_live t ≡ true → now_at L p u ts ≡ Turn k
unfolding now_at
turn-at L p u ts k t below actor is live =
    ap (λ (b : Bool). cond b (turn_of (position p) ts (next_actor L p ts)) (at_end (position p) (has_left_over L u ts))) (lt-ltb (position p) L.count below)
    ∙ ap (turn_of (position p) ts) actor ∙ ap (turn_of_thread (position p) k) is ∙ ap (λ (b : Bool). cond b (Turn k) (turn_of_thread (position p) k None)) live

-- the log names the actor that committed: in its order, or by its turn
pub named : (mode : ModeName) (L : LogParts) (n : ℕ) (last : Option ℕ) (flags : List Bool) (k : ℕ) (order : List Actor) → (ts : List Parts) → OrderStands mode order n ts → Behind L.order (order_with mode order (Actor.Thread k)) → is_dma_at L.dmas n ≡ false → (mode ≡ ModeName.Picolog → turn last flags ≡ Some k)
    → head_in mode L n last flags ≡ Some (Actor.Thread k)
named ModeName.OrderSize L n last flags k order ts s b there turns =
    ap (λ (as_ : List Actor). slice_get as_ n) (b.1 ∙ append_assoc order (Actor.Thread k ∷ []) b.0) ∙ get-behind order (Actor.Thread k) b.0 n s.0
named ModeName.OrderOnly L n last flags k order ts s b there turns =
    ap (λ (as_ : List Actor). slice_get as_ n) (b.1 ∙ append_assoc order (Actor.Thread k ∷ []) b.0) ∙ get-behind order (Actor.Thread k) b.0 n s.0
named ModeName.Picolog L n last flags k order ts s b there turns =
    ap (λ (c : Bool). head_by_turn c last flags) there ∙ ap (option_map Actor.Thread) (turns refl)

-- ---- a commit of a thread

-- what its effect is, and that the play's verdict is that it goes
pub record Effects (L : LogParts) (c : ThreadCommit) (p q : Sphere) (qlog : LogParts) (y : Played) (e : Effect) : Type 0 where
  pub thread : e.thread ≡ c.after
  pub spawned : e.spawned ≡ c.spawned
  pub memory : q.memory ≡ lays p.memory e.words
  pub progress : q.progress ≡ with_effect c.thread e p.progress
  pub live : is_live c.before ≡ true
  pub turn_ : L.mode ≡ ModeName.Picolog → turn p.progress.last (map is_live p.threads) ≡ Some c.thread
  pub verdict : thread_verdict L y c.thread c.before (next_kind c.before y.memory) ≡ ended L c.thread e (record y.used { inputs = length qlog.inputs })

-- a spawned thread has the same number after as many others
pub get_past : (ts us spawned : List Parts) (j : ℕ) (x : Parts) → length us ≡ length ts → slice_get ts j ≡ None → slice_get (ts ++ spawned) j ≡ Some x → slice_get (us ++ spawned) j ≡ Some x
get_past [] [] spawned j x size none e = e
get_past [] (u ∷ us) spawned j x size none e = absurd (omega arith)
get_past (t ∷ ts) [] spawned j x size none e = absurd (omega arith)
get_past (t ∷ ts) (u ∷ us) spawned zero x size none e = absurd (none-some t (sym none))
get_past (t ∷ ts) (u ∷ us) spawned (suc j) x size none e = get_past ts us spawned j x (omega arith) none e

-- a new thread takes no interrupt
pub new_takes_none : (x : Parts) → IsNew x → takes_interrupt x ≡ false
new_takes_none x new =
    and_left (is_live x && has_handler x) (not x.mask) (and_right (is_live x) (has_handler x) (ap (λ (n : ℕ). not (eqb n 0)) new.handler))

-- the effect with the interrupt that comes with it, and what is used then
abbrev pub early_effect : Option ℕ → Effect → Effect
early_effect None e = e
early_effect (Some v) e = record e { thread = interrupted v e.thread }

-- what is used of the log, with the interrupt that comes early
abbrev pub early_used : Option ℕ → Used → Used
early_used None u = u
early_used (Some v) u = with_interrupt u

-- a commit goes on with the interrupt that comes early, if its thread takes interrupts
pub goes_so : (o : Option ℕ) (e : Effect) (u : Used) → ((v : ℕ) → o ≡ Some v → takes_interrupt e.thread ≡ true) → with_interrupted o e u ≡ Goes (early_effect o e) (early_used o u)
goes_so None e u takes = refl
goes_so (Some v) e u takes = ap (λ (b : Bool). cond b (Goes (record e { thread = interrupted v e.thread }) (with_interrupt u)) (Fails Why.Interrupt)) (takes v refl)
