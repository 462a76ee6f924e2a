-- A log that fits has no more threads than it may have, and each of its interrupts is of a thread that is there.
use Rattle.std.proofs.Common.{◌≡◌, ℕ, zero, suc, ◌+◌, ◌<◌, ◌≤◌, inl, inr, Bool, true, false, cond, List, [], ◌∷◌, ◌++◌, length, Option, Some, None, refl, sym, ap, ◌∙◌, subst, arith}
use Rattle.std.specs.Prelude.{slice_get, slice_set, nat_le, nat_eq, ◌&&◌, option_map, find, All}
use Rattle.std.proofs.lemmas.Bool.{cases_Bool, cases_eq, eqb-true, and_parts, le-leb, leb-true}
use Rattle.std.proofs.lemmas.List.{length-append}
use Rattle.std.proofs.lemmas.List.Elements.{All-nil, All-cons}
use Rattle.dl_entry.specs.declared.Actor.{Actor}
use Rattle.dl_entry.specs.declared.Commit.{Commit}
use Rattle.dl_entry.specs.declared.Input.{Input}
use Rattle.dl_entry.specs.declared.Why.{Why}
use Rattle.spec_isa.specs.declared.thread.Parts.{Parts}
use Rattle.spec_isa.specs.declared.thread.Kind.{Kind}
use Rattle.spec_isa.specs.Runs.{Run, run}
use Rattle.spec_log.specs.declared.Interrupt.{Interrupt}
use Rattle.spec_log.specs.declared.LogParts.{LogParts}
use Rattle.spec_log.specs.Size.{size_in}
use Rattle.spec_kernel.specs.Interrupts.{takes_interrupt, interrupted}
use Rattle.spec_kernel.specs.Needs.{Need, need, next_kind}
use Rattle.spec_kernel.specs.Records.{fits}
use Rattle.spec_kernel.specs.Serving.{serve}
use Rattle.spec_play.specs.Effects.{Effect, chunk_effect, serial_effect}
use Rattle.spec_play.specs.Progress.{Progress, with_interrupt, with_input}
use Rattle.spec_play.specs.declared.used.Used.{Used}
use Rattle.spec_play.specs.Turns.{TurnOrEnd, Turn, TurnOfDma, Ended}
use Rattle.spec_play.specs.Verdicts.{LogVerdict, Goes, Fails, unless, interrupt_at, with_interrupted, ended, chunk_why, chunk_verdict, serial_why, TakenRecord, given, served_verdict, serial_verdict}
use Rattle.spec_play.specs.Transfers.{DmaGoes}
use Rattle.spec_play.specs.Plays.{Played, settled, size_or_standard, thread_verdict, play_thread, dma_settled, play_turn, play_one, plays}
use Rattle.spec_strata.specs.InPlay.{number_of}
use Rattle.spec_strata.proofs.Shares.Steps.{get-set_same, get-set_other}
use Rattle.spec_strata.proofs.Plays.Canonical.{plays-shift}
use Rattle.spec_strata.proofs.Images.Following.{ThreadDoes, Does, Follows}
use Rattle.spec_strata.proofs.Making.Cutting.{get-below, length-set}
use Rattle.spec_strata.proofs.Making.Commits.{IsOneMore, verdict-more}

-- ---- the interrupts that a commit takes

abbrev TakesWhat : LogParts → (thread : ℕ) → Used → LogVerdict → Type 0
TakesWhat log k u (Goes e w) = w.interrupts ≡ u.interrupts + number_of (interrupt_at log.interrupts k e.thread.commits)
TakesWhat log k u (Fails why) = Unit {0}

unless-takes : (log : LogParts) (k : ℕ) (u : Used) (o : Option Why) (v : LogVerdict) → TakesWhat log k u v → TakesWhat log k u (unless o v)
unless-takes log k u None v h = h
unless-takes log k u (Some why) v h = tt

if-takes : (log : LogParts) (k : ℕ) (u w : Used) (value : ℕ) (e : Effect) (b : Bool) → w.interrupts ≡ u.interrupts → interrupt_at log.interrupts k e.thread.commits ≡ Some value
    → TakesWhat log k u (cond b (Goes (record e { thread = interrupted value e.thread }) (with_interrupt w)) (Fails Why.Interrupt))
if-takes log k u w value e true same is = let n = ap number_of is in omega (arith, same, n)
if-takes log k u w value e false same is = tt

interrupted-takes : (log : LogParts) (k : ℕ) (u w : Used) (e : Effect) (o : Option ℕ) → w.interrupts ≡ u.interrupts → interrupt_at log.interrupts k e.thread.commits ≡ o → TakesWhat log k u (with_interrupted o e w)
interrupted-takes log k u w e None same is = let n = ap number_of is in omega (arith, same, n)
interrupted-takes log k u w e (Some value) same is = if-takes log k u w value e (takes_interrupt e.thread) same is

ended-takes : (log : LogParts) (k : ℕ) (u w : Used) (e : Effect) → w.interrupts ≡ u.interrupts → TakesWhat log k u (ended log k e w)
ended-takes log k u w e same = interrupted-takes log k u w e (interrupt_at log.interrupts k e.thread.commits) same refl

chunk-takes : (log : LogParts) (p : Progress) (u : Used) (k : ℕ) (r : Run) → TakesWhat log k u (chunk_verdict log p u k r)
unfolding chunk_verdict
chunk-takes log p u k r =
    unless-takes log k u (chunk_why (size_in log (Actor.Thread k) r.thread.commits) r.n) (ended log k (chunk_effect k p.request r) u)
    (ended-takes log k u u (chunk_effect k p.request r) refl)

abbrev KeepsInterrupts : Used → Option TakenRecord → Type 0
KeepsInterrupts u None = Unit {0}
KeepsInterrupts u (Some g) = g.used.interrupts ≡ u.interrupts

if-keeps : (u : Used) (r : Input) (b : Bool) → KeepsInterrupts u (cond b (Some (record { input = Some r; used = with_input u })) None)
if-keeps u r true = refl
if-keeps u r false = tt

given-keeps : (o : Option Need) (next : Option Input) (u : Used) → KeepsInterrupts u (given o next u)
given-keeps None next u = refl
given-keeps (Some need) None u = tt
given-keeps (Some need) (Some r) u = if-keeps u r (fits need r)

served-takes : (log : LogParts) (p : Progress) (u : Used) (k : ℕ) (ts : List Parts) (t : Parts) (m : List ℕ) (o : Option TakenRecord) → KeepsInterrupts u o → TakesWhat log k u (served_verdict log p k ts t m o)
served-takes log p u k ts t m None same = tt
served-takes log p u k ts t m (Some g) same = ended-takes log k u g.used (serial_effect k (serve log.threads k ts p.request t m g.input)) same

serial-takes : (log : LogParts) (p : Progress) (u : Used) (k : ℕ) (ts : List Parts) (t : Parts) (m : List ℕ) → TakesWhat log k u (serial_verdict log p u k ts t m)
unfolding serial_verdict
serial-takes log p u k ts t m =
    let o : Option TakenRecord = given (need t m) (slice_get log.inputs u.inputs) u in
    unless-takes log k u (serial_why (size_in log (Actor.Thread k) t.commits)) (served_verdict log p k ts t m o)
    (served-takes log p u k ts t m o (given-keeps (need t m) (slice_get log.inputs u.inputs) u))

verdict-takes : (log : LogParts) (y : Played) (k : ℕ) (t : Parts) (o : Option Kind) → TakesWhat log k y.used (thread_verdict log y k t o)
verdict-takes log y k t None = chunk-takes log y.progress y.used k (run y.memory t (size_or_standard log k t.commits))
verdict-takes log y k t (Some kind) = serial-takes log y.progress y.used k y.threads t y.memory

-- ---- interrupts whose commit is done

-- whether a thread has done so many commits
abbrev has_done : (commits : ℕ) → Option Parts → Bool
has_done n None = false
has_done n (Some t) = nat_le n t.commits

abbrev is_past : List Parts → Interrupt → Bool
is_past ts i = has_done i.index (slice_get ts i.thread)

abbrev one_if : Bool → ℕ
one_if true = 1
one_if false = 0

-- how many of them there are
abbrev past_of : List Parts → List Interrupt → ℕ
past_of ts [] = 0
past_of ts (i ∷ is) = one_if (is_past ts i) + past_of ts is

-- each thread has done as many commits as before, or more
abbrev HaveMore : (ts us : List Parts) → Type 0
HaveMore ts us = (k n : ℕ) → has_done n (slice_get ts k) ≡ true → has_done n (slice_get us k) ≡ true

one-more : (a b : Bool) → (a ≡ true → b ≡ true) → one_if a ≤ one_if b
one-more true true h = omega arith
one-more true false h = let e = h refl in cc
one-more false b h = omega arith

past-more : (ts us : List Parts) (is : List Interrupt) → HaveMore ts us → past_of ts is ≤ past_of us is
past-more ts us [] more = omega arith
past-more ts us (i ∷ is) more =
    let a = one-more (is_past ts i) (is_past us i) (more i.thread i.index) in
    let b = past-more ts us is more in omega (arith, a, b)

abbrev is_at : (thread index : ℕ) → Interrupt → Bool
is_at k n i = nat_eq i.thread k && nat_eq i.index n

-- thread k comes to n commits
record Comes (ts us : List Parts) (k n : ℕ) : Type 0 where
  more : HaveMore ts us
  before : has_done n (slice_get ts k) ≡ false
  after : has_done n (slice_get us k) ≡ true

found-some : (interrupts : List Interrupt) (i : Interrupt) (k n : ℕ) (b : Bool) → is_at k n i ≡ b → find (is_at k n) (i ∷ interrupts) ≡ cond b (Some i) (find (is_at k n) interrupts)
found-some is i k n b e = ap (λ (x : Bool). cond x (Some i) (find (is_at k n) is)) e

-- an interrupt that is found there wasn't past and is now
past-comes : (ts us : List Parts) (is : List Interrupt) (k n : ℕ) → Comes ts us k n → past_of ts is + number_of (interrupt_at is k n) ≤ past_of us is
past-comes ts us [] k n c = omega arith
past-comes ts us (i ∷ is) k n c =
    elim (cases_Bool (is_at k n i)) [
      | inl e ↦ (
          let p = and_parts (nat_eq i.thread k) (nat_eq i.index n) e in
          let thread : i.thread ≡ k = eqb-true i.thread k p.0 in
          let index : i.index ≡ n = eqb-true i.index n p.1 in
          let was : is_past ts i ≡ false = (λ x. has_done (index x) (slice_get ts (thread x))) ∙ c.before in
          let now : is_past us i ≡ true = (λ x. has_done (index x) (slice_get us (thread x))) ∙ c.after in
          let a : one_if (is_past ts i) ≡ 0 = ap one_if was in
          let b : one_if (is_past us i) ≡ 1 = ap one_if now in
          let rest = past-more ts us is c.more in
          let found : number_of (interrupt_at (i ∷ is) k n) ≡ 1 =
          ap (λ (o : Option Interrupt). number_of (option_map (λ (x : Interrupt). x.value) o)) (found-some is i k n true e) in
          omega (arith, a, b, rest, found)
          )
      | inr e ↦ (
          let a = one-more (is_past ts i) (is_past us i) (c.more i.thread i.index) in
          let rest = past-comes ts us is k n c in
          let found : number_of (interrupt_at (i ∷ is) k n) ≡ number_of (interrupt_at is k n) =
          ap (λ (o : Option Interrupt). number_of (option_map (λ (x : Interrupt). x.value) o)) (found-some is i k n false e) in
          omega (arith, a, rest, found)
          )
    ]

-- ---- one step

get-front : (ts us : List Parts) (k n : ℕ) → has_done n (slice_get ts k) ≡ true → has_done n (slice_get (ts ++ us) k) ≡ true
get-front [] us k n e = cc
get-front (t ∷ ts) us zero n e = e
get-front (t ∷ ts) us (suc k) n e = get-front ts us k n e

done-more : (n m l : ℕ) → m ≤ l → nat_le n m ≡ true → nat_le n l ≡ true
done-more n m l h e = let a = leb-true n m e in le-leb n l (omega (arith, a, h))

at-set : (ts : List Parts) (j : ℕ) (t u : Parts) → slice_get ts j ≡ Some t → u.commits ≡ suc t.commits → HaveMore ts (slice_set ts j u)
at-set ts j t u there one k n e =
    elim (cases_eq k j) [
      | inl same ↦ (
          let a : nat_le n t.commits ≡ true = ap (has_done n) (sym there) ∙ ap (λ (x : ℕ). has_done n (slice_get ts x)) (sym same) ∙ e in
          ap (λ (x : ℕ). has_done n (slice_get (slice_set ts j u) x)) same ∙ ap (has_done n) (get-set_same ts j u t there)
          ∙ done-more n t.commits u.commits (omega (arith, one)) a
          )
      | inr ne ↦ ap (has_done n) (get-set_other ts j k u ne) ∙ e
    ]

comes-to : (ts us : List Parts) (j : ℕ) (t u : Parts) → slice_get ts j ≡ Some t → u.commits ≡ suc t.commits → Comes ts (slice_set ts j u ++ us) j u.commits
comes-to ts us j t u there one =
    record {
      more = λ k n e. get-front (slice_set ts j u) us k n (at-set ts j t u there one k n e);
      before = ap (has_done u.commits) there ∙ late u.commits t.commits (omega (arith, one));
      after = get-front (slice_set ts j u) us j u.commits (ap (has_done u.commits) (get-set_same ts j u t there) ∙ le-leb u.commits u.commits (omega arith));
    }
  where
    late : (n m : ℕ) → m < n → nat_le n m ≡ false
    late n m l = elim (cases_Bool (nat_le n m)) [
      | inl e ↦ (let h = leb-true n m e in absurd (omega (arith, l, h)))
      | inr e ↦ e
    ]

-- there are no more threads than there may be, and no more interrupts were taken than there are past ones
pub record Within (log : LogParts) (y : Played) : Type 0 where
  pub threads : length y.threads ≤ log.threads
  pub taken : y.used.interrupts ≤ past_of y.threads log.interrupts

one-by : (log : LogParts) (y : Played) (now : TurnOrEnd) → y.now ≡ now → play_one log y ≡ play_turn log y now
unfolding play_one
one-by log y now e = ap (play_turn log y) e

thread-within : (log : LogParts) (y : Played) (j : ℕ) (c : Commit) → y.now ≡ Turn j → ThreadDoes log y j c → Within log y → Within log (play_one log y)
thread-within log y j c turn d w =
    let e : Effect = d.effect in
    let one : play_one log y ≡ settled log y j (Goes e d.used) = one-by log y (Turn j) turn ∙ ap (play_thread log y j) d.there ∙ ap (settled log y j) d.goes in
    let more : IsOneMore log.threads y.threads d.thread (Goes e d.used) = subst (IsOneMore log.threads y.threads d.thread) d.goes (verdict-more log y j d.thread (next_kind d.thread y.memory)) in
    let taken : TakesWhat log j y.used (Goes e d.used) = subst (TakesWhat log j y.used) d.goes (verdict-takes log y j d.thread (next_kind d.thread y.memory)) in
    let past = past-comes y.threads (slice_set y.threads j e.thread ++ e.spawned) log.interrupts j e.thread.commits (comes-to y.threads e.spawned j d.thread e.thread d.there more.0) in
    let few = more.2 w.threads in
    let a = length-append (slice_set y.threads j e.thread) e.spawned in
    let b = length-set y.threads j e.thread in
    let so_far = w.taken in
    subst (Within log) (sym one) (record { threads = omega (arith, few, a, b); taken = omega (arith, so_far, taken, past) })

step-within : (log : LogParts) (y : Played) (now : TurnOrEnd) (c : Commit) → y.now ≡ now → Does log y now c → Within log y → Within log (play_one log y)
step-within log y (Ended how) c turn does w = absurd does
step-within log y (Turn j) c turn does w = thread-within log y j c turn does w
step-within log y TurnOfDma c turn does w =
    let one : play_one log y ≡ dma_settled log y (DmaGoes does.words) = one-by log y TurnOfDma turn ∙ ap (dma_settled log y) does.goes in
    subst (Within log) (sym one) (record { threads = w.threads; taken = w.taken })

-- a play that starts with few enough threads and taken interrupts ends with few enough of both
pub all-within : (log : LogParts) (y : Played) (cs : List Commit) → Follows log y cs → Within log y → Within log (plays log y (length cs))
all-within log y [] f w = w
all-within log y (c ∷ cs) f w =
    subst (Within log) (plays-shift log y (length cs))
    (all-within log (play_one log y) cs f.1 (step-within log y y.now c refl f.0.does w))

-- ---- all interrupts

most-past : (ts : List Parts) (is : List Interrupt) → past_of ts is ≤ length is
most-past ts [] = omega arith
most-past ts (i ∷ is) = let a = one-most (is_past ts i) in let b = most-past ts is in omega (arith, a, b)
  where
    one-most : (b : Bool) → one_if b ≤ 1
    one-most true = omega arith
    one-most false = omega arith

past-there : (n : ℕ) (ts : List Parts) (k : ℕ) (o : Option Parts) → slice_get ts k ≡ o → has_done n o ≡ true → k < length ts
past-there n ts k None is e = cc
past-there n ts k (Some t) is e = get-below ts k t is

-- if all of them are past, their threads are there
pub past-threads : (ts : List Parts) (is : List Interrupt) → length is ≤ past_of ts is → All (λ i. i.thread < length ts) is
past-threads ts [] all = All-nil (λ i. i.thread < length ts)
past-threads ts (i ∷ is) all =
    let most = most-past ts is in
    elim (cases_Bool (is_past ts i)) [
      | inl e ↦ (
          let n : one_if (is_past ts i) ≡ 1 = ap one_if e in
          All-cons (λ x. x.thread < length ts) i is (past-there i.index ts i.thread (slice_get ts i.thread) refl e) (past-threads ts is (omega (arith, n, all)))
          )
      | inr e ↦ (let n : one_if (is_past ts i) ≡ 0 = ap one_if e in absurd (omega (arith, n, all, most)))
    ]
