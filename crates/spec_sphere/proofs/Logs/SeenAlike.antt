-- Recordings and plays look at a log in the same way.
use Rattle.std.proofs.Common.{◌≡◌, ℕ, suc, ◌+◌, ◌<◌, inl, inr, not, Bool, true, false, ◌&&◌, cond, List, [], ◌∷◌, length, take, map, Option, Some, None, refl, sym, ap, ◌∙◌, arith}
use Rattle.std.specs.Prelude.{slice_get, slice_index, nat_lt, nat_le, max, filter}
use Rattle.std.specs.List.{list_all, range_with_len, zip}
use Rattle.std.specs.Option.{option_or}
use Rattle.std.proofs.lemmas.Bool.{true≢false, lt-ltb, le-ltb, le-leb, and_parts, cases_Bool}
use Rattle.std.proofs.lemmas.List.{take_all}
use Rattle.dl_entry.specs.Numbers.{most_threads}
use Rattle.dl_entry.specs.declared.Actor.{Actor}
use Rattle.dl_entry.specs.declared.Input.{Input}
use Rattle.dl_entry.specs.declared.Why.{Why}
use Rattle.spec_isa.specs.declared.thread.Parts.{Parts}
use Rattle.spec_log.specs.declared.ModeName.{ModeName}
use Rattle.spec_log.specs.declared.Interrupt.{Interrupt}
use Rattle.spec_log.specs.declared.DmaRecord.{DmaRecord}
use Rattle.spec_log.specs.declared.ShortSize.{ShortSize}
use Rattle.spec_log.specs.declared.Sizes.{Sizes}
use Rattle.spec_log.specs.Log.{IsOrder, IsSizes}
use Rattle.spec_log.specs.Head.{is_dma_at, head}
use Rattle.spec_log.specs.Size.{is_thread, sizes_of_thread, size_in}
use Rattle.spec_log.specs.Noting.{Kept, kept_size, limit_by, sizes_used, kept_head, log_of}
use Rattle.spec_kernel.specs.Interrupts.{takes_interrupt, interrupted}
use Rattle.spec_play.specs.Effects.{Effect, chunk_effect}
use Rattle.spec_play.specs.Progress.{with_interrupt}
use Rattle.spec_play.specs.declared.used.Used.{Used}
use Rattle.spec_play.specs.Turns.{is_size_used, are_sizes_used}
use Rattle.spec_play.specs.Verdicts.{LogVerdict, Goes, Fails, unless, interrupt_at, with_interrupted, ended, chunk_why, chunk_verdict}
use Rattle.spec_sphere.specs.promises.Judging.{why_of, interrupt_why, ChunksAreJudged, AreCommits, ShortSizesAreUsed, SizesAreUsed, DueAreCounted, LogsAreSeenAlike}
use Rattle.spec_sphere.specs.promises.Sound.{commits_if, is_due_in, due, commits_among, IsDoneInOrder}
use Rattle.spec_play.proofs.Threads.{branch}
use Rattle.spec_sphere.proofs.Replays.Uses.{due-most}

-- ---- verdicts

unless-why : (o : Option Why) (x : LogVerdict) (y : Option Why) → why_of x ≡ y → why_of (unless o x) ≡ option_or o y
unless-why None x y e = e
unless-why (Some why) x y e = refl

taken-why : (b : Bool) (e f : Effect) (u : Used) → why_of (cond b (Goes f u) (Fails Why.Interrupt)) ≡ cond b None (Some Why.Interrupt)
taken-why true e f u = refl
taken-why false e f u = refl

interrupted-why : (o : Option ℕ) (e : Effect) (u : Used) (t : Parts) → takes_interrupt e.thread ≡ takes_interrupt t → why_of (with_interrupted o e u) ≡ interrupt_why o t
interrupted-why None e u t same = refl
interrupted-why (Some value) e u t same =
    taken-why (takes_interrupt e.thread) e (record e { thread = interrupted value e.thread }) (with_interrupt u) ∙ ap (λ (b : Bool). cond b None (Some Why.Interrupt)) same

chunks_judged : ChunksAreJudged
unfolding chunk_verdict
chunks_judged log p u k r =
    unless-why (chunk_why (size_in log (Actor.Thread k) r.thread.commits) r.n) (ended log k (chunk_effect k p.request r) u) _
    (interrupted-why (interrupt_at log.interrupts k (r.thread.commits + 1)) (chunk_effect k p.request r) u r.thread refl)

-- ---- what is kept

size_kept : (version threads : ℕ) (mode : ModeName) (kept : Kept) (interrupts : List Interrupt) (inputs : List Input) (dmas : List DmaRecord) (actor : Actor) (i : ℕ) → size_in (log_of version threads mode kept interrupts inputs dmas) actor i ≡ kept_size kept actor i
size_kept version threads mode kept interrupts inputs dmas (Actor.Thread k) i = refl
size_kept version threads mode kept interrupts inputs dmas Actor.Dma i = refl

head_kept : (version threads : ℕ) (mode : ModeName) (kept : Kept) (interrupts : List Interrupt) (inputs : List Input) (dmas : List DmaRecord) (i : ℕ) (last : Option ℕ) (live : List Bool)
    → head (log_of version threads mode kept interrupts inputs dmas) i last live ≡ kept_head mode kept.order i (is_dma_at dmas i) last live
head_kept version threads ModeName.OrderSize kept interrupts inputs dmas i last live = refl
head_kept version threads ModeName.OrderOnly kept interrupts inputs dmas i last live = refl
head_kept version threads ModeName.Picolog kept interrupts inputs dmas i last live = refl

abbrev limit_with : (s : ℕ) → Option ℕ → ℕ
limit_with s o = elim o [ None ↦ s | Some z ↦ max 1 z ]

limit_same : (s : ℕ) (o : Option ℕ) → limit_with s o ≡ limit_by s o
limit_same s None = refl
limit_same s (Some z) = refl

-- ---- short sizes

used_by : (short : ShortSize) (o : Option Parts) → nat_lt short.index (commits_if o) ≡ is_size_used o short
used_by short None = le-ltb short.index 0 (omega arith)
used_by short (Some t) = refl

shorts_used : ShortSizesAreUsed
shorts_used order [] threads done same = refl
shorts_used order (x ∷ xs) threads done same =
    (λ i. (ap (nat_lt x.index) (same x.thread) ∙ used_by x (slice_get threads x.thread)) i && shorts_used order xs threads done same i)

-- ---- all sizes

one_length : (k z : ℕ) (a : Actor) (b : Bool) (rest : List (Actor × ℕ)) → length (map (λ (p : Actor × ℕ). p.1) (cond b ((a, z) ∷ rest) rest)) ≡ cond b 1 0 + length (map (λ (p : Actor × ℕ). p.1) rest)
one_length k z a true rest = omega arith
one_length k z a false rest = omega arith

-- a thread has as many sizes as commits in the order
sizes_length : (k : ℕ) (order : List Actor) (sizes : List ℕ) → length sizes ≡ length order → length (sizes_of_thread k order sizes) ≡ commits_among k order
sizes_length k [] sizes e = refl
sizes_length k (a ∷ order) [] e = absurd (omega arith)
sizes_length k (a ∷ order) (z ∷ sizes) e =
    let one_ = one_length k z a (is_thread k a) (filter (λ (p : Actor × ℕ). is_thread k p.0) (zip order sizes)) in
    let rest = sizes_length k order sizes (omega arith) in
    omega (arith, one_, rest)

all_true : (p : ℕ → Bool) (xs : List ℕ) → ((x : ℕ) → p x ≡ true) → list_all p xs ≡ true
all_true p [] each = refl
all_true p (x ∷ xs) each = (λ i. each x i && all_true p xs each i)

each_used : (order : List Actor) (sizes done : List ℕ) (threads : List Parts) (count : ℕ) → length order ≡ count → length sizes ≡ count → ((k : ℕ) → commits_if (slice_get threads k) ≡ commits_among k (take count order)) → AreCommits done threads
    → sizes_used order (Sizes.Each sizes) done ≡ true
each_used order sizes done threads count long each ordered same =
    all_true (λ k. nat_le (length (sizes_of_thread k order sizes)) (slice_index done k)) (range_with_len 0 most_threads)
    (λ k.
    let all : take count order ≡ order = take_all count order (omega (arith, long)) in
    let n = sizes_length k order sizes (each ∙ sym long) in
    let m = same k ∙ ordered k ∙ ap (commits_among k) all in
    le-leb (length (sizes_of_thread k order sizes)) (slice_index done k) (omega (arith, n, m)))

by_mode : (mode : ModeName) (t s count : ℕ) (order : List Actor) (sizes : Sizes) (done : List ℕ) (threads : List Parts) → IsOrder mode t count order → IsSizes mode t s count sizes → IsDoneInOrder mode order count threads → AreCommits done threads
    → sizes_used order sizes done ≡ are_sizes_used threads sizes
by_mode ModeName.OrderSize t s count order (Sizes.Each sizes) done threads is each ordered same = each_used order sizes done threads count is.0 each.0 ordered same
by_mode ModeName.OrderSize t s count order (Sizes.Short sizes) done threads is each ordered same = absurd each
by_mode ModeName.OrderOnly t s count order (Sizes.Each sizes) done threads is each ordered same = absurd each
by_mode ModeName.OrderOnly t s count order (Sizes.Short sizes) done threads is each ordered same = shorts_used order sizes threads done same
by_mode ModeName.Picolog t s count order (Sizes.Each sizes) done threads is each ordered same = absurd each
by_mode ModeName.Picolog t s count order (Sizes.Short sizes) done threads is each ordered same = shorts_used order sizes threads done same

sizes_alike : SizesAreUsed
sizes_alike log threads is ordered done same = by_mode log.mode log.threads log.s log.count log.order log.sizes done threads is.order is.sizes ordered same

-- ---- interrupts

abbrev one_if : Bool → ℕ
one_if b = cond b 1 0

all_due : (threads : List Parts) (is : List Interrupt) → list_all (is_due_in threads) is ≡ true → due threads is ≡ length is
all_due threads [] e = refl
all_due threads (i ∷ is) e =
    let p = and_parts (is_due_in threads i) (list_all (is_due_in threads) is) e in
    let a = ap one_if p.0 in
    let r = all_due threads is p.1 in
    omega (arith, a, r)

not_all_due : (threads : List Parts) (is : List Interrupt) → list_all (is_due_in threads) is ≡ false → due threads is < length is
not_all_due threads [] e = absurd (true≢false e)
not_all_due threads (i ∷ is) e =
    branch (λ (n : ℕ). n + due threads is < suc (length is)) (is_due_in threads i) 1 0
    (λ h. let r = not_all_due threads is (ap (λ (b : Bool). b && list_all (is_due_in threads) is) (sym h) ∙ e) in omega (arith, r))
    (λ _. let m = due-most is threads in omega (arith, m))

due_counted : DueAreCounted
due_counted threads is =
    elim (cases_Bool (list_all (is_due_in threads) is)) [
      | inl all ↦ le-ltb (due threads is) (length is) (let e = all_due threads is all in omega (arith, e)) ∙ sym (ap not all)
      | inr some ↦ lt-ltb (due threads is) (length is) (not_all_due threads is some) ∙ sym (ap not some)
    ]

-- recordings and plays look at a log alike
pub seen_alike : LogsAreSeenAlike
seen_alike =
    record {
      chunks = chunks_judged;
      kept = λ version threads mode kept interrupts inputs dmas. record {
        size = size_kept version threads mode kept interrupts inputs dmas;
        head = head_kept version threads mode kept interrupts inputs dmas;
      };
      limits = λ log k i. limit_same log.s (size_in log (Actor.Thread k) i);
      shorts = shorts_used;
      sizes = sizes_alike;
      interrupts = due_counted;
    }
