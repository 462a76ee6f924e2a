-- The log that points tell, with one point more: what a recording notes.
use Rattle.std.proofs.Common.{◌≡◌, ◌≢◌, ℕ, suc, ◌+◌, ◌<◌, ◌≤◌, Bool, true, false, eqb, cond, List, [], ◌∷◌, ◌++◌, length, map, refl, sym, ap, ◌∙◌, arith}
use Rattle.std.specs.List.{flat_map}
use Rattle.std.proofs.lemmas.Bool.{eq-eqb, ne_eqb}
use Rattle.std.proofs.lemmas.List.{append_assoc, append-nil, map-append}
use Rattle.dl_entry.specs.declared.Actor.{Actor}
use Rattle.dl_entry.specs.declared.CommitKind.{CommitKind}
use Rattle.dl_entry.specs.declared.Point.{Point}
use Rattle.spec_log.specs.declared.Interrupt.{Interrupt}
use Rattle.spec_log.specs.declared.DmaRecord.{DmaRecord}
use Rattle.spec_log.specs.declared.ShortSize.{ShortSize}
use Rattle.spec_log.specs.Size.{is_thread}
use Rattle.spec_sphere.specs.sphere.Logged.{Supplied, actors_of, sizes_of, is_short_chunk, shorts_of, interrupts_of, data_at, dmas_of, threads}
use Rattle.spec_sphere.specs.promises.Standing.{count_of}
use Rattle.spec_sphere.proofs.Logs.Entries.{Are}

-- ---- the points so far, and one after them

-- the points, without what was supplied to them
abbrev pub points_so : List Supplied → List Point
points_so cs = map (λ (c : Supplied). c.point) cs

-- one point more comes after the others
pub points-more : (cs : List Supplied) (c : Supplied) → points_so (cs ++ c ∷ []) ≡ points_so cs ++ c.point ∷ []
points-more cs c = map-append (λ (d : Supplied). d.point) cs (c ∷ [])

-- the actors of two lists of points are those of the first and then of the second
pub actors-append : (ps qs : List Point) → actors_of (ps ++ qs) ≡ actors_of ps ++ actors_of qs
actors-append [] qs = refl
actors-append (Point.Commit moment i actor kind size short ∷ ps) qs = ap (λ (as_ : List Actor). actor ∷ as_) (actors-append ps qs)
actors-append (Point.Raise moment i k value ∷ ps) qs = actors-append ps qs

-- the sizes of two lists of points are those of the first and then of the second
pub sizes-append : (ps qs : List Point) → sizes_of (ps ++ qs) ≡ sizes_of ps ++ sizes_of qs
sizes-append [] qs = refl
sizes-append (Point.Commit moment i actor kind size short ∷ ps) qs = ap (λ (ns : List ℕ). size ∷ ns) (sizes-append ps qs)
sizes-append (Point.Raise moment i k value ∷ ps) qs = sizes-append ps qs

-- how many of them are commits of thread k
abbrev pub commits_of : (thread : ℕ) → List Point → ℕ
commits_of k ps = count_of k (actors_of ps)

-- ---- short sizes

shorts_cond : (k n c : ℕ) (b sc : Bool) (s : ShortSize) (ps qs : List Point) → shorts_of k (suc n) (ps ++ qs) ≡ shorts_of k (suc n) ps ++ shorts_of k (suc n + c) qs → shorts_of k n (ps ++ qs) ≡ shorts_of k n ps ++ shorts_of k (n + c) qs
    → cond b (cond sc (s ∷ shorts_of k (suc n) (ps ++ qs)) (shorts_of k (suc n) (ps ++ qs))) (shorts_of k n (ps ++ qs))
    ≡ cond b (cond sc (s ∷ shorts_of k (suc n) ps) (shorts_of k (suc n) ps)) (shorts_of k n ps) ++ shorts_of k (n + cond b (suc c) c) qs
shorts_cond k n c true true s ps qs more same =
    let e : suc n + c ≡ n + suc c = omega arith in
    ap (λ (ss : List ShortSize). s ∷ ss) (more ∙ ap (λ (m : ℕ). shorts_of k (suc n) ps ++ shorts_of k m qs) e)
shorts_cond k n c true false s ps qs more same =
    let e : suc n + c ≡ n + suc c = omega arith in
    more ∙ ap (λ (m : ℕ). shorts_of k (suc n) ps ++ shorts_of k m qs) e
shorts_cond k n c false sc s ps qs more same = same

-- a thread's short sizes of two lists are the first's and then the second's, counted from its commits in the first
pub shorts-append : (k n : ℕ) (ps qs : List Point) → shorts_of k n (ps ++ qs) ≡ shorts_of k n ps ++ shorts_of k (n + commits_of k ps) qs
shorts-append k n [] qs = let e : n ≡ n + 0 = omega arith in ap (λ (m : ℕ). shorts_of k m qs) e
shorts-append k n (Point.Commit moment i actor kind size short ∷ ps) qs =
    shorts_cond k n (commits_of k ps) (is_thread k actor) (is_short_chunk kind short) (record { thread = k; index = n; size = size }) ps qs (shorts-append k (suc n) ps qs) (shorts-append k n ps qs)
shorts-append k n (Point.Raise moment i j value ∷ ps) qs = shorts-append k n ps qs

abbrev pub AreShorts : (k n : ℕ) → List ShortSize → Type 0
AreShorts k n ss = Are (λ (s : ShortSize). s.thread) (λ (s : ShortSize). s.index) k n ss

are_shorts_cond : (k n m c : ℕ) (b sc : Bool) (size : ℕ) (more same : List ShortSize) → n + cond b (suc c) c ≤ m → (suc n + c ≤ m → AreShorts k m more) → (n + c ≤ m → AreShorts k m same)
    → AreShorts k m (cond b (cond sc (record { thread = k; index = n; size = size } ∷ more) more) same)
are_shorts_cond k n m c true true size more same l a b = (refl, omega (arith, l), a (omega (arith, l)))
are_shorts_cond k n m c true false size more same l a b = a (omega (arith, l))
are_shorts_cond k n m c false sc size more same l a b = b l

-- the short sizes of a thread are of its commits before the number m
pub are-shorts : (k n m : ℕ) (ps : List Point) → n + commits_of k ps ≤ m → AreShorts k m (shorts_of k n ps)
are-shorts k n m [] l = tt
are-shorts k n m (Point.Commit moment i actor kind size short ∷ ps) l =
    are_shorts_cond k n m (commits_of k ps) (is_thread k actor) (is_short_chunk kind short) size (shorts_of k (suc n) ps) (shorts_of k n ps) l (λ h. are-shorts k (suc n) m ps h) (λ h. are-shorts k n m ps h)
are-shorts k n m (Point.Raise moment i j value ∷ ps) l = are-shorts k n m ps l

-- ---- interrupts

ints_cond : (k n c : ℕ) (b : Bool) (ps qs : List Point) → interrupts_of k (suc n) (ps ++ qs) ≡ interrupts_of k (suc n) ps ++ interrupts_of k (suc n + c) qs → interrupts_of k n (ps ++ qs) ≡ interrupts_of k n ps ++ interrupts_of k (n + c) qs
    → cond b (interrupts_of k (suc n) (ps ++ qs)) (interrupts_of k n (ps ++ qs)) ≡ cond b (interrupts_of k (suc n) ps) (interrupts_of k n ps) ++ interrupts_of k (n + cond b (suc c) c) qs
ints_cond k n c true ps qs more same =
    let e : suc n + c ≡ n + suc c = omega arith in
    more ∙ ap (λ (m : ℕ). interrupts_of k (suc n) ps ++ interrupts_of k m qs) e
ints_cond k n c false ps qs more same = same

raise_cond : (b : Bool) (r : Interrupt) (all some rest : List Interrupt) → all ≡ some ++ rest → cond b (r ∷ all) all ≡ cond b (r ∷ some) some ++ rest
raise_cond true r all some rest e = ap (λ (rs : List Interrupt). r ∷ rs) e
raise_cond false r all some rest e = e

-- a thread's interrupts of two lists are the first's and then the second's, counted from its commits in the first
pub interrupts-append : (k n : ℕ) (ps qs : List Point) → interrupts_of k n (ps ++ qs) ≡ interrupts_of k n ps ++ interrupts_of k (n + commits_of k ps) qs
interrupts-append k n [] qs = let e : n ≡ n + 0 = omega arith in ap (λ (m : ℕ). interrupts_of k m qs) e
interrupts-append k n (Point.Commit moment i actor kind size short ∷ ps) qs =
    ints_cond k n (commits_of k ps) (is_thread k actor) ps qs (interrupts-append k (suc n) ps qs) (interrupts-append k n ps qs)
interrupts-append k n (Point.Raise moment i j value ∷ ps) qs =
    raise_cond (eqb j k) (record { thread = k; index = n; value = value }) (interrupts_of k n (ps ++ qs)) (interrupts_of k n ps) (interrupts_of k (n + commits_of k ps) qs) (interrupts-append k n ps qs)

abbrev pub AreInts : (k n : ℕ) → List Interrupt → Type 0
AreInts k n rs = Are (λ (r : Interrupt). r.thread) (λ (r : Interrupt). r.index) k n rs

are_ints_cond : (k n m c : ℕ) (b : Bool) (more same : List Interrupt) → n + cond b (suc c) c < m → (suc n + c < m → AreInts k m more) → (n + c < m → AreInts k m same) → AreInts k m (cond b more same)
are_ints_cond k n m c true more same l a b = a (omega (arith, l))
are_ints_cond k n m c false more same l a b = b l

are_raise_cond : (k n m : ℕ) (b : Bool) (value : ℕ) (rest : List Interrupt) → n < m → AreInts k m rest → AreInts k m (cond b (record { thread = k; index = n; value = value } ∷ rest) rest)
are_raise_cond k n m true value rest l a = (refl, l, a)
are_raise_cond k n m false value rest l a = a

-- the interrupts of a thread stand at numbers of its commits below m
pub are-ints : (k n m : ℕ) (ps : List Point) → n + commits_of k ps < m → AreInts k m (interrupts_of k n ps)
are-ints k n m [] l = tt
are-ints k n m (Point.Commit moment i actor kind size short ∷ ps) l =
    are_ints_cond k n m (commits_of k ps) (is_thread k actor) (interrupts_of k (suc n) ps) (interrupts_of k n ps) l (λ h. are-ints k (suc n) m ps h) (λ h. are-ints k n m ps h)
are-ints k n m (Point.Raise moment i j value ∷ ps) l = are_raise_cond k n m (eqb j k) value (interrupts_of k n ps) (omega (arith, l)) (are-ints k n m ps l)

-- ---- data of DMAs

count_more : (q : Point) (qs : List Point) → length (actors_of (q ∷ qs)) ≡ length (actors_of (q ∷ [])) + length (actors_of qs)
count_more (Point.Commit moment i actor kind size short) qs = omega arith
count_more (Point.Raise moment i k value) qs = omega arith

-- the DMAs of two lists are the first's and then the second's, counted from the commits of the first
pub dmas-append : (n : ℕ) (cs ds : List Supplied) → dmas_of n (cs ++ ds) ≡ dmas_of n cs ++ dmas_of (n + length (actors_of (points_so cs))) ds
dmas-append n [] ds = let e : n ≡ n + 0 = omega arith in ap (λ (m : ℕ). dmas_of m ds) e
dmas-append n (c ∷ cs) ds =
    let one = length (actors_of (c.point ∷ [])) in
    let all : n + one + length (actors_of (points_so cs)) ≡ n + length (actors_of (points_so (c ∷ cs))) = (let h = count_more c.point (points_so cs) in omega arith) in
    ap (λ (rs : List DmaRecord). data_at n c.point c.bytes ++ rs) (dmas-append (n + one) cs ds ∙ ap (λ (m : ℕ). dmas_of (n + one) cs ++ dmas_of m ds) all)
    ∙ sym (append_assoc (data_at n c.point c.bytes) (dmas_of (n + one) cs) (dmas_of (n + length (actors_of (points_so (c ∷ cs)))) ds))

-- ---- one point more

-- what is listed thread by thread is the same where it is for each thread
pub unchanged : {X : Type 0} (f g : ℕ → List X) → ((k : ℕ) → g k ≡ f k) → flat_map f threads ≡ flat_map g threads
unchanged f g same = (λ h. flat_map (λ (k : ℕ). sym (same k) h) threads)

-- a list with nothing after it is the list
pub nothing_behind : {X : Type 0} (xs ys zs : List X) → ys ≡ xs ++ zs → zs ≡ [] → ys ≡ xs
nothing_behind {X} xs ys zs e none = e ∙ ap (λ (ws : List X). xs ++ ws) none ∙ append-nil xs

-- a commit of thread k is no short size of another thread
pub shorts_of_other : (k j n moment i size : ℕ) (kind : CommitKind) (short : Bool) → j ≢ k → shorts_of j n (Point.Commit moment i (Actor.Thread k) kind size short ∷ []) ≡ []
shorts_of_other k j n moment i size kind short ne =
    ap (λ (b : Bool). cond b (cond (is_short_chunk kind short) (record { thread = j; index = n; size = size } ∷ []) []) []) (ne_eqb k j (λ e. ne (sym e)))

-- a short chunk's own thread has its size
pub shorts_of_own : (k n moment i size : ℕ) (kind : CommitKind) (short : Bool) → is_short_chunk kind short ≡ true → shorts_of k n (Point.Commit moment i (Actor.Thread k) kind size short ∷ []) ≡ record { thread = k; index = n; size = size } ∷ []
shorts_of_own k n moment i size kind short is =
    ap (λ (b : Bool). cond b (cond (is_short_chunk kind short) (record { thread = k; index = n; size = size } ∷ []) []) []) (eq-eqb k k refl)
    ∙ ap (λ (b : Bool). cond b (record { thread = k; index = n; size = size } ∷ []) []) is

whole_cond : (b : Bool) (ss : List ShortSize) → cond b (cond false ss []) [] ≡ []
whole_cond true ss = refl
whole_cond false ss = refl

-- a commit that isn't a short chunk has no short size
pub shorts_of_whole : (k j n moment i size : ℕ) (kind : CommitKind) (short : Bool) → is_short_chunk kind short ≡ false → shorts_of j n (Point.Commit moment i (Actor.Thread k) kind size short ∷ []) ≡ []
shorts_of_whole k j n moment i size kind short is =
    ap (λ (c : Bool). cond (eqb k j) (cond c (record { thread = j; index = n; size = size } ∷ []) []) []) is ∙ whole_cond (eqb k j) (record { thread = j; index = n; size = size } ∷ [])

same_cond : (b : Bool) (rs : List Interrupt) → cond b rs rs ≡ rs
same_cond true rs = refl
same_cond false rs = refl

-- a commit is no interrupt
pub ints_of_commit : (j n moment i size : ℕ) (actor : Actor) (kind : CommitKind) (short : Bool) → interrupts_of j n (Point.Commit moment i actor kind size short ∷ []) ≡ []
ints_of_commit j n moment i size actor kind short = same_cond (is_thread j actor) []

-- an interrupt of thread k is none of another thread
pub ints_of_other : (k j n moment i value : ℕ) → j ≢ k → interrupts_of j n (Point.Raise moment i k value ∷ []) ≡ []
ints_of_other k j n moment i value ne = ap (λ (b : Bool). cond b (record { thread = j; index = n; value = value } ∷ []) []) (ne_eqb k j (λ e. ne (sym e)))

-- an interrupt of thread k is its own, at its number of commits
pub ints_of_own : (k n moment i value : ℕ) → interrupts_of k n (Point.Raise moment i k value ∷ []) ≡ record { thread = k; index = n; value = value } ∷ []
ints_of_own k n moment i value = ap (λ (b : Bool). cond b (record { thread = k; index = n; value = value } ∷ []) []) (eq-eqb k k refl)
