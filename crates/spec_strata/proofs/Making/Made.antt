-- The strata that a log is cut into are within their ranges and in order.
use Rattle.std.proofs.Common.{◌≡◌, ℕ, zero, suc, ◌+◌, ◌<◌, ◌≤◌, inl, inr, Bool, true, List, [], ◌∷◌, length, map, Option, Some, None, refl, sym, ap, ◌∙◌, subst, arith}
use Rattle.std.specs.Prelude.{◌^◌, slice_get, nat_lt, All, if◌then◌else◌}
use Rattle.std.specs.List.{flat_map, list_all}
use Rattle.std.proofs.lemmas.Bool.{cases_Bool, cases_lt, ltb-false, lt-ltb, and_parts}
use Rattle.std.proofs.lemmas.Bool.Decides.{eqb_tells}
use Rattle.std.proofs.lemmas.List.{length-append, length-map}
use Rattle.std.proofs.lemmas.List.Sums.{sum_by-cons}
use Rattle.std.proofs.lemmas.List.Elements.{All-nil, All-cons, All-head, All-tail}
use Rattle.std.proofs.lemmas.Option.{none-some}
use Rattle.dl_entry.specs.declared.Actor.{Actor}
use Rattle.dl_entry.specs.declared.Commit.{Commit}
use Rattle.dl_entry.specs.declared.CommitKind.{CommitKind}
use Rattle.dl_entry.specs.declared.Why.{Why}
use Rattle.spec_isa.specs.declared.thread.Parts.{Parts}
use Rattle.spec_log.specs.declared.LogParts.{LogParts}
use Rattle.spec_log.specs.declared.ModeName.{ModeName}
use Rattle.spec_log.specs.declared.ShortSize.{ShortSize}
use Rattle.spec_log.specs.declared.Sizes.{Sizes}
use Rattle.spec_log.specs.Log.{IsLog, IsSizes, AreShortSizes, AreInterrupts}
use Rattle.spec_log.specs.Size.{is_thread, sizes_of_thread, size_in, thread_size}
use Rattle.spec_log.specs.Versions.{IsVersion, IsStandard}
use Rattle.spec_log.proofs.Threads.{threads-few, standard-few}
use Rattle.spec_play.specs.Turns.{is_size_used, are_sizes_used}
use Rattle.spec_play.specs.Verdicts.{chunk_why}
use Rattle.spec_play.specs.Plays.{Played, opened, plays, play, size_or_standard, FitsImage}
use Rattle.spec_strata.specs.declared.stratum.Stratum.{Stratum}
use Rattle.spec_strata.specs.declared.strata.StrataParts.{StrataParts}
use Rattle.spec_strata.specs.Strata.{commits_in, commits_in_all, IsStratumOf, AreThreads}
use Rattle.spec_strata.specs.Canonical.{canonical}
use Rattle.spec_strata.specs.OnImages.{kinds_of}
use Rattle.spec_strata.specs.Making.{sizes_made, made, MadeAreStrata}
use Rattle.spec_strata.proofs.Images.Following.{Over}
use Rattle.spec_strata.proofs.Images.Going.{actor_in, length-of, actors-are}
use Rattle.spec_strata.proofs.Making.Cutting.{CutInto, cutting, get-below, plays-threads}
use Rattle.spec_strata.proofs.Making.Commits.{commits_at, own, own-is, own-isnt}
use Rattle.spec_strata.proofs.Making.Playing.{length-kinds}
use Rattle.spec_strata.proofs.Making.Ending.{over-left, NothingLeft}
use Rattle.spec_strata.proofs.Making.Saying.{SizeIs, Counts, counts, sizes-are, own-sizes, get-there, each-mode, over-end, none-started, made_are_parallel}
use Rattle.spec_strata.proofs.Making.Using.{Within, all-within, past-threads}
use Rattle.spec_strata.proofs.Making.Given.{HaveSizes, given-sizes}
use Rattle.spec_strata.proofs.Making.Filling.{strata-are, few-strata}

-- ---- what is known of a log that fits

record Known (log : LogParts) (memory : List ℕ) (entry : ℕ) : Type 0 where
  counts_are : Counts log memory entry
  over : Over log (play log memory entry)
  all : length (play log memory entry).progress.commits ≡ log.count
  within : Within log (play log memory entry)
  some : 1 ≤ length (play log memory entry).threads

known : (log : LogParts) (memory : List ℕ) (entry : ℕ) → IsLog log → FitsImage log memory entry → Known log memory entry
known log memory entry good fits =
    let start : Played = opened log memory entry in
    let n : Counts log memory entry = counts log memory entry fits in
    let cs : List Commit = (play log memory entry).progress.commits in
    let all : length cs ≡ log.count = (let h = length-of log start cs n.follows in omega (arith, h)) in
    let least = some-threads log.version log.threads good.version in
    let first : Within log start = record { threads = omega (arith, least); taken = omega arith } in
    let e : plays log start (length cs) ≡ play log memory entry = ap (plays log start) all in
    let a = plays-threads log start (length cs) in
    record {
      counts_are = n;
      over = subst (Over log) e (over-end log start cs n.follows);
      all = all;
      within = subst (Within log) e (all-within log start cs n.follows first);
      some = let h = ap (λ (y : Played). length y.threads) e in omega (arith, a, h);
    }
  where
    some-threads : (version threads : ℕ) → IsVersion version threads → 1 ≤ threads
    some-threads version threads v = elim v [
      | inl one ↦ (let h = one.1 in omega (arith, h))
      | inr two ↦ elim two.1 [ inl h ↦ omega (arith, h) | inr h ↦ omega (arith, h) ]
    ]

-- ---- interrupts

interrupts-are : (log : LogParts) (memory : List ℕ) (entry : ℕ) → IsLog log → Known log memory entry → AreInterrupts (length (play log memory entry).threads) log.interrupts
interrupts-are log memory entry good k =
    let end : Played = play log memory entry in
    let left : NothingLeft log end.used end.threads = over-left log end k.over in
    let taken = k.within.taken in
    let none = ltb-false end.used.interrupts (length log.interrupts) left.interrupts in
    let there = past-threads end.threads log.interrupts (omega (arith, taken, none)) in
    record {
      few = good.interrupts.few;
      each = λ n d l. let is = good.interrupts.each n d l in (there n d l, is.1, is.2);
      rising = good.interrupts.rising;
    }

-- ---- sizes

used-threads : (ts : List Parts) (sizes : List ShortSize) → list_all (λ short. is_size_used (slice_get ts short.thread) short) sizes ≡ true → All (λ short. short.thread < length ts) sizes
used-threads ts [] e = All-nil (λ short. short.thread < length ts)
used-threads ts (x ∷ xs) e =
    let p = and_parts (is_size_used (slice_get ts x.thread) x) (list_all (λ short. is_size_used (slice_get ts short.thread) short) xs) e in
    All-cons (λ short. short.thread < length ts) x xs (there ts x (slice_get ts x.thread) refl p.0) (used-threads ts xs p.1)
  where
    there : (ts : List Parts) (x : ShortSize) (o : Option Parts) → slice_get ts x.thread ≡ o → is_size_used o x ≡ true → x.thread < length ts
    there ts x None is e = cc
    there ts x (Some t) is e = get-below ts x.thread t is

same-number : (a b : ℕ) → Some a ≡ Some b → a ≡ b
same-number a b e = cc

-- one of some sizes with x in front
front-most : (s x z i : ℕ) (zs : List ℕ) → x ≤ s → ((j : ℕ) → slice_get zs j ≡ Some z → z ≤ s) → slice_get (x ∷ zs) i ≡ Some z → z ≤ s
front-most s x z zero zs small rest is = let e : x ≡ z = same-number x z is in omega (arith, e, small)
front-most s x z (suc i) zs small rest is = rest i is

-- a size of a thread's commit is one of all sizes
size-most : (k s : ℕ) (order : List Actor) (zs : List ℕ) (i z : ℕ) → All (λ size. size ≤ s) zs → slice_get (sizes_of_thread k order zs) i ≡ Some z → z ≤ s
size-most k s [] zs i z all is = absurd (none-some z is)
size-most k s (a ∷ more) [] i z all is = absurd (none-some z is)
size-most k s (a ∷ more) (x ∷ xs) i z all is =
    let rest : (j : ℕ) → slice_get (sizes_of_thread k more xs) j ≡ Some z → z ≤ s =
    (λ j there. size-most k s more xs j z (All-tail (λ size. size ≤ s) x xs all) there) in
    elim (cases_Bool (is_thread k a)) [
      | inl e ↦ front-most s x z i (sizes_of_thread k more xs) (All-head (λ size. size ≤ s) x xs all) rest (rw e at is)
      | inr e ↦ rest i (rw e at is)
    ]

some-size : (z n : ℕ) → chunk_why (Some z) n ≡ None → 1 ≤ n
some-size z n e =
    elim (eqb_tells z 0) [
      | inl h ↦ (let g : Some Why.NotSerial ≡ None = (rw h.0 at e) in cc)
      | inr h ↦ (
          let g : (if nat_lt n z then Some (Why.Short z n) else None) ≡ None = (rw h.0 at e) in
          elim (cases_lt n z) [
            | inl m ↦ (let s : Some (Why.Short z n) ≡ None = sym (ap (λ (b : Bool). if b then Some (Why.Short z n) else None) (lt-ltb n z m)) ∙ g in cc)
            | inr m ↦ (let ne = h.1 in omega (arith, ne, m))
          ]
          )
    ]

have-sizes : (log : LogParts) (memory : List ℕ) (entry k : ℕ) (zs : List ℕ) → let cs = (play log memory entry).progress.commits in
    log.sizes ≡ Sizes.Each zs → length zs ≡ length cs → All (λ size. size ≤ log.s) zs → map actor_in cs ≡ log.order → Counts log memory entry → HaveSizes log.s (own k cs)
have-sizes log memory entry k zs each all small order counts_are n c there chunk =
    let cs : List Commit = (play log memory entry).progress.commits in
    let start = none-started entry k in
    let at_ : commits_at (opened log memory entry).threads k + n ≡ n = omega (arith, start) in
    let s : SizeIs log k n c = subst (λ (j : ℕ). SizeIs log k j c) at_ (sizes-are log (opened log memory entry) k n cs c counts_are.follows there) in
    let a = s.chunk chunk in
    let below = slice-below (own k cs) n c there in
    let have = own-sizes k cs zs all in
    let z = get-there (sizes_of_thread k (map actor_in cs) zs) n (omega (arith, below, have)) in
    let logged : size_in log (Actor.Thread k) n ≡ Some z.0 =
    ap (λ (x : Sizes). thread_size log.order x k n) each ∙ ap (λ (os : List Actor). slice_get (sizes_of_thread k os zs) n) (sym order) ∙ z.1 in
    let why : chunk_why (Some z.0) c.size ≡ None = ap (λ (o : Option ℕ). chunk_why o c.size) (sym logged) ∙ a.0 in
    let top : size_or_standard log k n ≡ z.0 = ap (λ (o : Option ℕ). elim o [ None ↦ log.s | Some x ↦ x ]) logged in
    let most = size-most k log.s (map actor_in cs) zs n z.0 small z.1 in
    let b = a.1 in
    (some-size z.0 c.size why, omega (arith, b, top, most))
  where
    slice-below : (xs : List Commit) (i : ℕ) (c : Commit) → slice_get xs i ≡ Some c → i < length xs
    slice-below xs i c is = get-below xs i c is

short-mode : (mode : ModeName) (threads s count : ℕ) (xs : List ShortSize) → IsSizes mode threads s count (Sizes.Short xs) → AreShortSizes threads s xs
short-mode ModeName.OrderSize threads s count xs is = absurd is
short-mode ModeName.OrderOnly threads s count xs is = is
short-mode ModeName.Picolog threads s count xs is = is

small-sizes : (mode : ModeName) (threads s count : ℕ) (zs : List ℕ) → IsSizes mode threads s count (Sizes.Each zs) → All (λ size. size ≤ s) zs
small-sizes ModeName.OrderSize threads s count zs is = is.1
small-sizes ModeName.OrderOnly threads s count zs is = absurd is
small-sizes ModeName.Picolog threads s count zs is = absurd is

own-most : (k : ℕ) (cs : List Commit) → length (own k cs) ≤ length cs
own-most k [] = omega arith
own-most k (c ∷ cs) =
    elim (cases_Bool (is_thread k c.actor)) [
      | inl is ↦ (let n = ap (λ (xs : List Commit). length xs) (own-is k c cs is) in let rest = own-most k cs in omega (arith, n, rest))
      | inr is ↦ (let n = ap (λ (xs : List Commit). length xs) (own-isnt k c cs is) in let rest = own-most k cs in omega (arith, n, rest))
    ]

sizes-good : (log : LogParts) (memory : List ℕ) (entry : ℕ) (sizes : Sizes) → log.sizes ≡ sizes → IsLog log → Known log memory entry
    → let end = play log memory entry in AreShortSizes (length end.threads) log.s (sizes_made (length end.threads) end.progress.commits sizes)
sizes-good log memory entry (Sizes.Short short) is good k =
    let end : Played = play log memory entry in
    let s : AreShortSizes log.threads log.s short = short-mode log.mode log.threads log.s log.count short (subst (IsSizes log.mode log.threads log.s log.count) is good.sizes) in
    let used : are_sizes_used end.threads (Sizes.Short short) ≡ true = ap (are_sizes_used end.threads) (sym is) ∙ (over-left log end k.over).sizes in
    let there = used-threads end.threads short used in
    record {
      few = s.few;
      each = λ n d l. let x = s.each n d l in (there n d l, x.1, x.2, x.3);
      rising = s.rising;
    }
sizes-good log memory entry (Sizes.Each zs) is good k =
    let end : Played = play log memory entry in
    let cs : List Commit = end.progress.commits in
    let sizes : IsSizes log.mode log.threads log.s log.count (Sizes.Each zs) = subst (IsSizes log.mode log.threads log.s log.count) is good.sizes in
    let m = each-mode log.mode log.threads log.s log.count zs log.order sizes good.order in
    let count = good.count in
    let all = k.all in
    let zs_all = m.1 in
    let most = threads-few log.version log.threads good.version in
    let few = k.within.threads in
    let order : map actor_in cs ≡ log.order = actors-are log (opened log memory entry) cs m.0 k.counts_are.follows refl m.2 in
    given-sizes (length end.threads) log.s cs (omega (arith, most, few)) (omega (arith, all, count))
    (λ j. let h = own-most j cs in omega (arith, all, count, h))
    (λ j. have-sizes log memory entry j zs is (omega (arith, all, zs_all)) (small-sizes log.mode log.threads log.s log.count zs sizes) order k.counts_are)

-- ---- all of it

kinds-length : (xs : List Stratum) → length (flat_map kinds_of xs) ≡ commits_in_all xs
kinds-length [] = refl
kinds-length (x ∷ xs) =
    length-append (kinds_of x) (flat_map kinds_of xs)
    ∙ (let a = length-kinds x in let b = kinds-length xs in let c = sum_by-cons commits_in x xs in omega (arith, a, b, c))

version-two : (version threads s : ℕ) → IsVersion version threads → IsStandard version s → IsStandard 2 s
version-two version threads s v standard = let most = standard-few version threads s v standard in (standard.0, most)

are-threads : (version counted threads : ℕ) → IsVersion version threads → 1 ≤ counted → counted ≤ threads → AreThreads counted threads
are-threads version counted threads v some few = (elim v [ inl one ↦ inl one.1 | inr two ↦ two.1 ], some, few)

-- the strata that a fitting log is cut into are within their ranges and in order
pub made_are_strata : MadeAreStrata
made_are_strata log memory entry good fits =
    let v : StrataParts = made log memory entry in
    let start : Played = opened log memory entry in
    let end : Played = play log memory entry in
    let cs : List Commit = end.progress.commits in
    let counted : ℕ = length end.threads in
    let k : Known log memory entry = known log memory entry good fits in
    let whole : plays log start (length cs) ≡ end = ap (plays log start) k.all in
    let c : CutInto counted log start (plays log start (length cs)) [] v.strata =
    cutting counted log start cs k.counts_are.follows (let e = ap (λ (w : Played). length w.threads) whole in omega (arith, e)) start [] None refl in
    let each : All (IsStratumOf counted) v.strata = subst (All (IsStratumOf counted)) (sym c.are) (strata-are counted log start c.blocks c.go) in
    let m = made_are_parallel log memory entry good fits in
    let other : List Commit = (play (canonical v) memory entry).progress.commits in
    let a = length-map other (λ (x : Commit). x.kind) in
    let b = ap (λ (ks : List CommitKind). length ks) m.parallel.kinds in
    let d = kinds-length v.strata in
    let e = m.like.count in
    let all = k.all in
    let count = good.count in
    let most : commits_in_all v.strata ≤ 2 ^ 24 = omega (arith, a, b, d, e, all, count) in
    let few = few-strata counted v.strata each in
    record {
      threads = are-threads log.version counted log.threads good.version k.some k.within.threads;
      s = version-two log.version log.threads log.s good.version good.s;
      few = omega (arith, most, few);
      each = each;
      commits = most;
      sizes = sizes-good log memory entry log.sizes refl good k;
      interrupts = interrupts-are log memory entry good k;
      inputs = good.inputs;
      dmas = good.dmas;
    }
