-- The canonical log of the strata that a log is cut into says what the log says; so they are parallel, and play alike.
use Rattle.std.proofs.Common.{◌≡◌, ◌≢◌, ℕ, zero, suc, ◌+◌, ◌<◌, ◌≤◌, ◌⊎◌, inl, inr, Bool, true, false, List, [], ◌∷◌, length, map, Option, Some, None, refl, sym, ap, ◌∙◌, subst, arith}
use Rattle.std.specs.Prelude.{slice_get, nat_lt, option_map, find, if◌then◌else◌}
use Rattle.std.proofs.lemmas.Bool.{cases_Bool, cases_lt, lt-ltb}
use Rattle.std.proofs.lemmas.Bool.Decides.{eqb_tells}
use Rattle.std.proofs.lemmas.Option.{none-some}
use Rattle.dl_entry.specs.declared.Actor.{Actor}
use Rattle.dl_entry.specs.declared.Commit.{Commit}
use Rattle.dl_entry.specs.declared.CommitKind.{CommitKind}
use Rattle.dl_entry.specs.declared.Why.{Why}
use Rattle.spec_isa.specs.declared.thread.Parts.{Parts}
use Rattle.spec_isa.specs.declared.thread.Kind.{Kind}
use Rattle.spec_isa.specs.Words.{lays}
use Rattle.spec_isa.specs.Instruction.{InstructionOutcome, Next, Serial, one}
use Rattle.spec_isa.specs.Runs.{Run, followed, run}
use Rattle.spec_isa.specs.Threads.{started}
use Rattle.spec_log.specs.declared.LogParts.{LogParts}
use Rattle.spec_log.specs.declared.ModeName.{ModeName}
use Rattle.spec_log.specs.declared.ShortSize.{ShortSize}
use Rattle.spec_log.specs.declared.Sizes.{Sizes}
use Rattle.spec_log.specs.Log.{IsLog, IsSizes, IsOrder}
use Rattle.spec_log.specs.Size.{is_thread, sizes_of_thread, thread_size, size_in}
use Rattle.spec_kernel.specs.Needs.{next_kind, need}
use Rattle.spec_play.specs.Effects.{Effect, chunk_commit}
use Rattle.spec_play.specs.Progress.{Progress}
use Rattle.spec_play.specs.declared.used.Used.{Used}
use Rattle.spec_play.specs.Turns.{are_sizes_used, TurnOrEnd, Turn, TurnOfDma, Ended}
use Rattle.spec_play.specs.Verdicts.{LogVerdict, Goes, unless, chunk_why, chunk_verdict, serial_why, given, served_verdict, serial_verdict}
use Rattle.spec_play.specs.Plays.{Played, opened, size_or_standard, thread_verdict, play_one, plays, play, FitsImage}
use Rattle.spec_strata.specs.declared.strata.StrataParts.{StrataParts}
use Rattle.spec_strata.specs.Canonical.{canonical}
use Rattle.spec_strata.specs.Relogged.{SaysAll}
use Rattle.spec_strata.specs.Making.{sizes_made, made, MadeAreParallel}
use Rattle.spec_strata.proofs.Shares.Steps.{same_some}
use Rattle.spec_strata.proofs.Plays.Canonical.{plays-shift}
use Rattle.spec_strata.proofs.Plays.Verdicts.{IsLogged, effect_of, logged-goes, goes-logged, run-commits}
use Rattle.spec_strata.proofs.Images.Following.{ThreadDoes, Does, Step, Over, Follows, follows}
use Rattle.spec_strata.proofs.Images.Going.{actor_in, get-past, length-of, actors-are}
use Rattle.spec_strata.proofs.Making.Commits.{commits_at, at-thread, own, own-is, own-isnt, step-counted, all-counted}
use Rattle.spec_strata.proofs.Making.Sizes.{is_for, given_by, all_sizes, found-in, found-past, used-all}
use Rattle.spec_strata.proofs.Making.Ending.{over-left, GoAlike, made-alike}

-- ---- what the log says of a commit that went

-- a thread's commit i: its size is as logged
pub record SizeIs (log : LogParts) (k i : ℕ) (c : Commit) : Type 0 where
  pub kind : (c.kind ≡ CommitKind.Chunk) ⊎ (c.kind ≡ CommitKind.Serial)
  pub chunk : c.kind ≡ CommitKind.Chunk → (chunk_why (size_in log (Actor.Thread k) i) c.size ≡ None) × (c.size ≤ size_or_standard log k i)
  pub serial : c.kind ≡ CommitKind.Serial → serial_why (size_in log (Actor.Thread k) i) ≡ None

followed-most : (r : Run) (o : InstructionOutcome) (n : ℕ) → r.n ≤ n → (followed r o).n ≤ suc n
followed-most r (Serial kind) n l = omega (arith, l)
followed-most r (Next t load store) n l = omega (arith, l)

run-most : (m : List ℕ) (t : Parts) (n : ℕ) → (run m t n).n ≤ n
run-most m t zero = omega arith
run-most m t (suc n) = followed-most (run m t n) (one (run m t n).thread (lays m (run m t n).words)) n (run-most m t n)

unless-none : (o : Option Why) (v : LogVerdict) (e : Effect) (u : Used) → unless o v ≡ Goes e u → o ≡ None
unless-none None v e u is = refl
unless-none (Some why) v e u is = cc

serial-why : (log : LogParts) (p : Progress) (u w : Used) (k : ℕ) (ts : List Parts) (t : Parts) (m : List ℕ) (e : Effect) → serial_verdict log p u k ts t m ≡ Goes e w → serial_why (size_in log (Actor.Thread k) t.commits) ≡ None
unfolding serial_verdict
serial-why log p u w k ts t m e is = unless-none _ (served_verdict log p k ts t m (given (need t m) (slice_get log.inputs u.inputs) u)) e w is

same-effect : (a b : Effect) (u w : Used) → Goes a u ≡ Goes b w → a ≡ b
same-effect a b u w e = cc

chunk-serial : {A : Type 0} → CommitKind.Chunk ≡ CommitKind.Serial → A
chunk-serial e = cc

by-kind : (log : LogParts) (y : Played) (k : ℕ) (c : Commit) (d : ThreadDoes log y k c) (o : Option Kind) → next_kind d.thread y.memory ≡ o → SizeIs log k d.thread.commits c
by-kind log y k c d None is =
    let t : Parts = d.thread in
    let n : ℕ = size_or_standard log k t.commits in
    let r : Run = run y.memory t n in
    let goes : chunk_verdict log y.progress y.used k r ≡ Goes d.effect d.used = ap (thread_verdict log y k t) (sym is) ∙ d.goes in
    let l : IsLogged log k r = goes-logged log y.progress y.used d.used k r d.effect goes in
    let same : d.effect ≡ effect_of log k y.progress.request r = same-effect _ _ _ _ (sym goes ∙ logged-goes log y.progress y.used k r l) in
    let commit : c ≡ chunk_commit k r = sym d.commit ∙ ap (λ (e : Effect). e.commit) same in
    let size : c.size ≡ r.n = ap (λ (x : Commit). x.size) commit in
    let commits : r.thread.commits ≡ t.commits = run-commits y.memory t n in
    let chunk : c.kind ≡ CommitKind.Chunk = ap (λ (x : Commit). x.kind) commit in
    let most = run-most y.memory t n in
    record {
      kind = inl chunk;
      chunk = λ e. ((λ i. chunk_why (size_in log (Actor.Thread k) (sym commits i)) (size i)) ∙ l.size, omega (arith, size, most));
      serial = λ e. chunk-serial (sym chunk ∙ e);
    }
by-kind log y k c d (Some kind) is =
    let serial : c.kind ≡ CommitKind.Serial = d.kind ∙ ap (λ (o : Option Kind). elim o [ None ↦ CommitKind.Chunk | Some x ↦ CommitKind.Serial ]) is in
    let goes : serial_verdict log y.progress y.used k y.threads d.thread y.memory ≡ Goes d.effect d.used = ap (thread_verdict log y k d.thread) (sym is) ∙ d.goes in
    record {
      kind = inr serial;
      chunk = λ e. chunk-serial (sym e ∙ serial);
      serial = λ e. serial-why log y.progress y.used d.used k y.threads d.thread y.memory d.effect goes;
    }

thread-same : (k j : ℕ) → is_thread k (Actor.Thread j) ≡ true → j ≡ k
thread-same k j e = elim (eqb_tells j k) [
  | inl h ↦ h.1
  | inr h ↦ (let g : true ≡ false = sym e ∙ h.0 in cc)
]

dma-none : {A : Type 0} (k : ℕ) → is_thread k Actor.Dma ≡ true → A
dma-none k e = cc

size-now : (log : LogParts) (y : Played) (now : TurnOrEnd) (k : ℕ) (c : Commit) → Does log y now c → is_thread k c.actor ≡ true → SizeIs log k (commits_at y.threads k) c
size-now log y (Ended how) k c does mine = absurd does
size-now log y TurnOfDma k c does mine = dma-none k (sym (ap (is_thread k) (ap actor_in does.commit)) ∙ mine)
size-now log y (Turn j) k c does mine =
    let same : j ≡ k = thread-same k j (sym (ap (is_thread k) does.actor) ∙ mine) in
    let d : ThreadDoes log y k c = subst (λ (n : ℕ). ThreadDoes log y n c) same does in
    subst (λ (i : ℕ). SizeIs log k i c) (sym (at-thread y.threads k d.thread d.there)) (by-kind log y k c d (next_kind d.thread y.memory) refl)

size-next : (log : LogParts) (y : Played) (k : ℕ) (d : Commit) (cs : List Commit) (c : Commit) → Step log y d
    → ((i : ℕ) → slice_get (own k cs) i ≡ Some c → SizeIs log k (commits_at (play_one log y).threads k + i) c)
    → (b : Bool) → is_thread k d.actor ≡ b → (i : ℕ) → slice_get (own k (d ∷ cs)) i ≡ Some c → SizeIs log k (commits_at y.threads k + i) c
size-next log y k d cs c step rest true mine zero is =
    let same : d ≡ c = same_some d c (ap (λ (xs : List Commit). slice_get xs 0) (sym (own-is k d cs mine)) ∙ is) in
    let e : commits_at y.threads k ≡ commits_at y.threads k + 0 = omega arith in
    subst (SizeIs log k (commits_at y.threads k + 0)) same (subst (λ (n : ℕ). SizeIs log k n d) e (size-now log y y.now k d step.does mine))
size-next log y k d cs c step rest true mine (suc i) is =
    let n = (step-counted log y k d step).mine mine in
    let e : commits_at (play_one log y).threads k + i ≡ commits_at y.threads k + suc i = omega (arith, n) in
    subst (λ (j : ℕ). SizeIs log k j c) e (rest i (ap (λ (xs : List Commit). slice_get xs (suc i)) (sym (own-is k d cs mine)) ∙ is))
size-next log y k d cs c step rest false mine i is =
    let n = (step-counted log y k d step).other mine in
    let e : commits_at (play_one log y).threads k + i ≡ commits_at y.threads k + i = omega (arith, n) in
    subst (λ (j : ℕ). SizeIs log k j c) e (rest i (ap (λ (xs : List Commit). slice_get xs i) (sym (own-isnt k d cs mine)) ∙ is))

-- each of a thread's commits
pub sizes-are : (log : LogParts) (y : Played) (k i : ℕ) (cs : List Commit) (c : Commit) → Follows log y cs → slice_get (own k cs) i ≡ Some c → SizeIs log k (commits_at y.threads k + i) c
sizes-are log y k i [] c f is = absurd (none-some c is)
sizes-are log y k i (d ∷ cs) c f is =
    size-next log y k d cs c f.0 (λ j there. sizes-are log (play_one log y) k j cs c f.1 there) (is_thread k d.actor) refl i is

-- ---- where each commit has a size

abbrev second : Actor × ℕ → ℕ
second p = p.1

-- if each commit has a size, a thread has as many sizes as commits
pub own-sizes : (k : ℕ) (cs : List Commit) (zs : List ℕ) → length zs ≡ length cs → length (sizes_of_thread k (map actor_in cs) zs) ≡ length (own k cs)
own-sizes k [] zs l = refl
own-sizes k (c ∷ cs) [] l = absurd (omega (arith, l))
own-sizes k (c ∷ cs) (z ∷ zs) l =
    let rest = own-sizes k cs zs (omega (arith, l)) in
    elim (cases_Bool (is_thread k c.actor)) [
      | inl is ↦ rw is (ap suc rest)
      | inr is ↦ rw is rest
    ]

-- a list has an element at each index below its length
pub get-there : {A : Type 0} (xs : List A) (i : ℕ) → i < length xs → (x : A) × (slice_get xs i ≡ Some x)
get-there [] i l = absurd (omega (arith, l))
get-there (x ∷ xs) zero l = (x, refl)
get-there (x ∷ xs) (suc i) l = get-there xs i (omega (arith, l))

-- the other log says the same of a commit, or nothing of a serial step
abbrev Said : (log other : LogParts) → (k i : ℕ) → Type 0
Said log other k i =
    (size_in other (Actor.Thread k) i ≡ size_in log (Actor.Thread k) i)
    ⊎ ((size_in log (Actor.Thread k) i ≡ Some 0) × (size_in other (Actor.Thread k) i ≡ None))

chunk-is : (z n : ℕ) → chunk_why (Some z) n ≡ None → n ≤ z → n ≡ z
chunk-is z n e l =
    elim (eqb_tells z 0) [
      | inl h ↦ (let g : Some Why.NotSerial ≡ None = (rw h.0 at e) in cc)
      | inr h ↦ (
          let g : (if nat_lt n z then Some (Why.Short z n) else None) ≡ None = (rw h.0 at e) in
          elim (cases_lt n z) [
            | inl m ↦ (let s : Some (Why.Short z n) ≡ None = sym (ap (λ (b : Bool). if b then Some (Why.Short z n) else None) (lt-ltb n z m)) ∙ g in cc)
            | inr m ↦ omega (arith, l, m)
          ]
          )
    ]

serial-is : (z : ℕ) → serial_why (Some z) ≡ None → z ≡ 0
serial-is z e =
    elim (eqb_tells z 0) [
      | inl h ↦ h.1
      | inr h ↦ (let g : Some (Why.SizeOfSerial z) ≡ None = (rw h.0 at e) in cc)
    ]

given-chunk : (k i : ℕ) (c : Commit) → c.kind ≡ CommitKind.Chunk → option_map (λ (x : ShortSize). x.size) (given_by k i (Some c)) ≡ Some c.size
given-chunk k i c is = rw is refl

given-serial : (k i : ℕ) (c : Commit) → c.kind ≡ CommitKind.Serial → option_map (λ (x : ShortSize). x.size) (given_by k i (Some c)) ≡ None
given-serial k i c is = rw is refl

-- what was found of a commit that is there
said-there : (log other : LogParts) (k i z : ℕ) (c : Commit) → SizeIs log k i c → size_in log (Actor.Thread k) i ≡ Some z → size_in other (Actor.Thread k) i ≡ option_map (λ (x : ShortSize). x.size) (given_by k i (Some c)) → Said log other k i
said-there log other k i z c s logged found =
    elim s.kind [
      | inl chunk ↦ (
          let a = s.chunk chunk in
          let why : chunk_why (Some z) c.size ≡ None = ap (λ (o : Option ℕ). chunk_why o c.size) (sym logged) ∙ a.0 in
          let top : size_or_standard log k i ≡ z = ap (λ (o : Option ℕ). elim o [ None ↦ log.s | Some x ↦ x ]) logged in
          let b = a.1 in
          let n : c.size ≡ z = chunk-is z c.size why (omega (arith, top, b)) in
          inl (found ∙ given-chunk k i c chunk ∙ ap (λ (x : ℕ). Some x) n ∙ sym logged)
          )
      | inr serial ↦ (
          let why : serial_why (Some z) ≡ None = ap serial_why (sym logged) ∙ s.serial serial in
          inr (logged ∙ ap (λ (x : ℕ). Some x) (serial-is z why), found ∙ given-serial k i c serial)
          )
    ]

pub record Counts (log : LogParts) (memory : List ℕ) (entry : ℕ) : Type 0 where
  pub follows : Follows log (opened log memory entry) (play log memory entry).progress.commits
  pub numbers : (k : ℕ) → commits_at (play log memory entry).threads k ≡ length (own k (play log memory entry).progress.commits)

-- at the start of a play no thread has any commits
pub none-started : (entry k : ℕ) → commits_at (started entry ∷ []) k ≡ 0
none-started entry zero = refl
none-started entry (suc k) = refl

-- if a log fits, its play does its commits, and each thread counts its own by the end
pub counts : (log : LogParts) (memory : List ℕ) (entry : ℕ) → FitsImage log memory entry → Counts log memory entry
counts log memory entry fits =
    let start : Played = opened log memory entry in
    let cs : List Commit = (play log memory entry).progress.commits in
    let f : Follows log start cs = follows log memory entry fits in
    let n : length cs ≡ log.count = (let h = length-of log start cs f in omega (arith, h)) in
    record {
      follows = f;
      numbers = λ k.
          let a = all-counted log start k cs f in
          let b = none-started entry k in
          let e = ap (λ (i : ℕ). commits_at (plays log start i).threads k) n in
          omega (arith, a, b, e);
    }

-- a thread that isn't there has no commit
past-at : (ts : List Parts) (k : ℕ) → length ts ≤ k → commits_at ts k ≡ 0
past-at ts k l = ap (λ (o : Option Parts). elim o [ None ↦ 0 | Some t ↦ t.commits ]) (get-past ts k l)

-- the sizes of chunks that a log of sizes gets
said : (log : LogParts) (memory : List ℕ) (entry : ℕ) (zs : List ℕ) → let v = made log memory entry in let cs = (play log memory entry).progress.commits in
    log.sizes ≡ Sizes.Each zs → length zs ≡ length cs → map actor_in cs ≡ log.order → Counts log memory entry → (k i : ℕ) → Said log (canonical v) k i
said log memory entry zs each all order n k i =
    let other : LogParts = canonical (made log memory entry) in
    let end : Played = play log memory entry in
    let cs : List Commit = end.progress.commits in
    let counted : ℕ = length end.threads in
    let logged : size_in log (Actor.Thread k) i ≡ slice_get (sizes_of_thread k (map actor_in cs) zs) i =
    ap (λ (s : Sizes). thread_size log.order s k i) each ∙ ap (λ (os : List Actor). slice_get (sizes_of_thread k os zs) i) (sym order) in
    let have = own-sizes k cs zs all in
    let found : size_in other (Actor.Thread k) i ≡ option_map (λ (x : ShortSize). x.size) (find (is_for k i) (all_sizes 0 counted cs)) =
    ap (λ (s : Sizes). option_map (λ (x : ShortSize). x.size) (find (is_for k i) (sizes_made counted cs s))) each in
    elim (cases_lt i (length (own k cs))) [
      | inr past ↦ (
          let none : size_in log (Actor.Thread k) i ≡ None = logged ∙ get-past (sizes_of_thread k (map actor_in cs) zs) i (omega (arith, past, have)) in
          let gone : slice_get (own k cs) i ≡ None = get-past (own k cs) i past in
          let nothing : find (is_for k i) (all_sizes 0 counted cs) ≡ None = elim (cases_lt k counted) [
            | inl l ↦ found-in k i 0 counted cs (omega arith) (omega (arith, l)) ∙ ap (given_by k i) gone
            | inr l ↦ found-past k i 0 counted cs (omega (arith, l))
          ] in
          inl (found ∙ ap (option_map (λ (x : ShortSize). x.size)) nothing ∙ sym none)
          )
      | inl l ↦ (
          let c = get-there (own k cs) i l in
          let z = get-there (sizes_of_thread k (map actor_in cs) zs) i (omega (arith, l, have)) in
          let number = n.numbers k in
          let below : k < counted = elim (cases_lt k counted) [
            | inl h ↦ h
            | inr h ↦ (let p = past-at end.threads k h in absurd (omega (arith, l, number, p)))
          ] in
          let start = none-started entry k in
          let at_ : commits_at (opened log memory entry).threads k + i ≡ i = omega (arith, start) in
          let s : SizeIs log k i c.0 = subst (λ (j : ℕ). SizeIs log k j c.0) at_ (sizes-are log (opened log memory entry) k i cs c.0 n.follows c.1) in
          said-there log other k i z.0 c.0 s (logged ∙ z.1)
          (found ∙ ap (option_map (λ (x : ShortSize). x.size)) (found-in k i 0 counted cs (omega arith) (omega (arith, below)) ∙ ap (given_by k i) c.1))
          )
    ]

-- ---- both kinds of sizes

record SaysSo (log other : LogParts) (ts : List Parts) : Type 0 where
  says : SaysAll log other
  used : are_sizes_used ts other.sizes ≡ true

says-all : (log : LogParts) (v : StrataParts) → v.s ≡ log.s → v.threads ≡ log.threads → v.interrupts ≡ log.interrupts → v.inputs ≡ log.inputs → v.dmas ≡ log.dmas → ((k i : ℕ) → Said log (canonical v) k i) → SaysAll log (canonical v)
says-all log v s threads interrupts inputs dmas each =
    record {
      alike = record {
        standard = s;
        interrupts = interrupts;
        size = λ k i. elim (each k i) [
          | inl e ↦ inr e
          | inr e ↦ inl e.0
        ];
      };
      threads = threads;
      inputs = inputs;
      dmas = dmas;
      sizes = λ a i none. by a i none;
    }
  where
    by : (a : Actor) (i : ℕ) → serial_why (size_in log a i) ≡ None → serial_why (size_in (canonical v) a i) ≡ None
    by (Actor.Thread k) i none = elim (each k i) [
      | inl e ↦ ap serial_why e ∙ none
      | inr e ↦ ap serial_why e.1
    ]
    by Actor.Dma i none = refl

-- a log with each commit's size isn't picolog, and has as many sizes and actors as commits
pub each-mode : (mode : ModeName) (threads s count : ℕ) (zs : List ℕ) (order : List Actor) → IsSizes mode threads s count (Sizes.Each zs) → IsOrder mode threads count order
    → (mode ≢ ModeName.Picolog) × (length zs ≡ count) × (length order ≡ count)
each-mode ModeName.OrderSize threads s count zs order sizes is = ((λ e. cc), sizes.0, is.0)
each-mode ModeName.OrderOnly threads s count zs order sizes is = absurd sizes
each-mode ModeName.Picolog threads s count zs order sizes is = absurd sizes

says-so : (log : LogParts) (memory : List ℕ) (entry : ℕ) (sizes : Sizes) → log.sizes ≡ sizes → IsLog log → FitsImage log memory entry → Over log (play log memory entry)
    → SaysSo log (canonical (made log memory entry)) (play log memory entry).threads
says-so log memory entry (Sizes.Short short) is good fits over =
    let end : Played = play log memory entry in
    let v : StrataParts = made log memory entry in
    let same : Sizes.Short v.sizes ≡ Sizes.Short short = ap (λ (s : Sizes). Sizes.Short (sizes_made (length end.threads) end.progress.commits s)) is in
    record {
      says = says-all log v refl refl refl refl refl
          (λ k i. inl (ap (λ (s : Sizes). thread_size log.order s k i) (same ∙ sym is)));
      used = ap (are_sizes_used end.threads) (same ∙ sym is) ∙ (over-left log end over).sizes;
    }
says-so log memory entry (Sizes.Each zs) is good fits over =
    let end : Played = play log memory entry in
    let start : Played = opened log memory entry in
    let v : StrataParts = made log memory entry in
    let cs : List Commit = end.progress.commits in
    let n : Counts log memory entry = counts log memory entry fits in
    let m = each-mode log.mode log.threads log.s log.count zs log.order (subst (IsSizes log.mode log.threads log.s log.count) is good.sizes) good.order in
    let all : length cs ≡ log.count = (let h = length-of log start cs n.follows in omega (arith, h)) in
    let zs_all = m.1 in
    record {
      says = says-all log v refl refl refl refl refl
          (said log memory entry zs is (omega (arith, all, zs_all)) (actors-are log start cs m.0 n.follows refl m.2) n);
      used = ap (λ (s : Sizes). are_sizes_used end.threads (Sizes.Short (sizes_made (length end.threads) cs s))) is
          ∙ used-all end.threads 0 (length end.threads) cs (λ k. let h = n.numbers k in omega (arith, h));
    }

-- a play that goes on with these commits is over once they are done
pub over-end : (log : LogParts) (y : Played) (cs : List Commit) → Follows log y cs → Over log (plays log y (length cs))
over-end log y [] f = f
over-end log y (c ∷ cs) f = subst (Over log) (plays-shift log y (length cs)) (over-end log (play_one log y) cs f.1)

-- the strata that a fitting log is cut into are parallel, and their log's play is alike
pub made_are_parallel : MadeAreParallel
made_are_parallel log memory entry good fits =
    let n : Counts log memory entry = counts log memory entry fits in
    let cs : List Commit = (play log memory entry).progress.commits in
    let all : length cs ≡ log.count = (let h = length-of log (opened log memory entry) cs n.follows in omega (arith, h)) in
    let over : Over log (play log memory entry) = subst (λ (i : ℕ). Over log (plays log (opened log memory entry) i)) all (over-end log (opened log memory entry) cs n.follows) in
    let so = says-so log memory entry log.sizes refl good fits over in
    let least = good.s.0 in
    let alike : GoAlike log (made log memory entry) memory entry = made-alike log memory entry (omega (arith, least)) fits so.says so.used in
    record { parallel = alike.parallel; like = alike.like }
