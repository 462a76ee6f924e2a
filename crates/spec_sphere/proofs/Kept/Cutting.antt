-- The points up to a number of commits of a sphere, and those after it: how they are counted and cut.
use Rattle.std.proofs.Common.{◌≡◌, ℕ, zero, suc, ◌+◌, ◌≤◌, inl, inr, Bool, true, false, cond, List, [], ◌∷◌, ◌++◌, length, refl, sym, ap, ◌∙◌, arith}
use Rattle.std.proofs.lemmas.Bool.{cases_Bool}
use Rattle.dl_entry.specs.declared.Point.{Point}
use Rattle.spec_sphere.specs.sphere.Logged.{actors_of, is_of}
use Rattle.spec_sphere.specs.sphere.Kept.{is_commit_of, points_until, points_since}

-- ---- counted

-- how many of the points are commits of sphere i
abbrev pub commits_among : (i : ℕ) → List Point → ℕ
commits_among i [] = 0
commits_among i (p ∷ ps) = cond (is_commit_of i p) (suc (commits_among i ps)) (commits_among i ps)

count_cond : (b : Bool) (x y n : ℕ) → x ≡ y + n → cond b (suc x) x ≡ cond b (suc y) y + n
count_cond true x y n e = let h : suc (y + n) ≡ suc y + n = omega arith in ap suc e ∙ h
count_cond false x y n e = e

-- those of two lists are counted together
pub among-append : (i : ℕ) (ps qs : List Point) → commits_among i (ps ++ qs) ≡ commits_among i ps + commits_among i qs
among-append i [] qs = omega arith
among-append i (p ∷ ps) qs = count_cond (is_commit_of i p) (commits_among i (ps ++ qs)) (commits_among i ps) (commits_among i qs) (among-append i ps qs)

-- ---- up to a commit, and after it

split_cond : (b : Bool) (p : Point) (ps x y u v : List Point) → x ++ u ≡ ps → y ++ v ≡ ps → cond b (p ∷ x) (p ∷ y) ++ cond b u v ≡ p ∷ ps
split_cond true p ps x y u v a c = ap (λ (qs : List Point). p ∷ qs) a
split_cond false p ps x y u v a c = ap (λ (qs : List Point). p ∷ qs) c

-- they are all the points
pub until-since : (i n : ℕ) (ps : List Point) → points_until i n ps ++ points_since i n ps ≡ ps
until-since i zero ps = refl
until-since i (suc n) [] = refl
until-since i (suc n) (p ∷ ps) =
    split_cond (is_commit_of i p) p ps (points_until i n ps) (points_until i (suc n) ps) (points_since i n ps) (points_since i (suc n) ps) (until-since i n ps) (until-since i (suc n) ps)

until_count : (i n : ℕ) (b : Bool) (p : Point) (x y : List Point) (c : ℕ) → is_commit_of i p ≡ b → suc n ≤ cond b (suc c) c → (n ≤ c → commits_among i x ≡ n) → (suc n ≤ c → commits_among i y ≡ suc n) → commits_among i (cond b (p ∷ x) (p ∷ y)) ≡ suc n
until_count i n true p x y c e l a d = ap (λ (t : Bool). cond t (suc (commits_among i x)) (commits_among i x)) e ∙ ap suc (a (omega (arith, l)))
until_count i n false p x y c e l a d = ap (λ (t : Bool). cond t (suc (commits_among i y)) (commits_among i y)) e ∙ d l

-- up to the n-th commit there are n
pub among-until : (i n : ℕ) (ps : List Point) → n ≤ commits_among i ps → commits_among i (points_until i n ps) ≡ n
among-until i zero ps l = refl
among-until i (suc n) [] l = absurd (omega (arith, l))
among-until i (suc n) (p ∷ ps) l =
    until_count i n (is_commit_of i p) p (points_until i n ps) (points_until i (suc n) ps) (commits_among i ps) refl l (among-until i n ps) (among-until i (suc n) ps)

until_cond : (n c : ℕ) (b : Bool) (p : Point) (x y u v : List Point) → suc n ≤ cond b (suc c) c → (n ≤ c → x ≡ u) → (suc n ≤ c → y ≡ v) → cond b (p ∷ x) (p ∷ y) ≡ cond b (p ∷ u) (p ∷ v)
until_cond n c true p x y u v l a d = ap (λ (qs : List Point). p ∷ qs) (a (omega (arith, l)))
until_cond n c false p x y u v l a d = ap (λ (qs : List Point). p ∷ qs) (d l)

-- later points make no difference up to a commit that there is
pub until-more : (i n : ℕ) (ps qs : List Point) → n ≤ commits_among i ps → points_until i n (ps ++ qs) ≡ points_until i n ps
until-more i zero ps qs l = refl
until-more i (suc n) [] qs l = absurd (omega (arith, l))
until-more i (suc n) (p ∷ ps) qs l =
    until_cond n (commits_among i ps) (is_commit_of i p) p (points_until i n (ps ++ qs)) (points_until i (suc n) (ps ++ qs)) (points_until i n ps) (points_until i (suc n) ps) l (until-more i n ps qs) (until-more i (suc n) ps qs)

since_cond : (n c : ℕ) (b : Bool) (x y u v : List Point) → suc n ≤ cond b (suc c) c → (n ≤ c → x ≡ u) → (suc n ≤ c → y ≡ v) → cond b x y ≡ cond b u v
since_cond n c true x y u v l a d = a (omega (arith, l))
since_cond n c false x y u v l a d = d l

append_cond : (b : Bool) (x y qs : List Point) → cond b x y ++ qs ≡ cond b (x ++ qs) (y ++ qs)
append_cond true x y qs = refl
append_cond false x y qs = refl

-- they come after it
pub since-more : (i n : ℕ) (ps qs : List Point) → n ≤ commits_among i ps → points_since i n (ps ++ qs) ≡ points_since i n ps ++ qs
since-more i zero ps qs l = refl
since-more i (suc n) [] qs l = absurd (omega (arith, l))
since-more i (suc n) (p ∷ ps) qs l =
    since_cond n (commits_among i ps) (is_commit_of i p) (points_since i n (ps ++ qs)) (points_since i (suc n) (ps ++ qs)) (points_since i n ps ++ qs) (points_since i (suc n) ps ++ qs) l (since-more i n ps qs) (since-more i (suc n) ps qs)
    ∙ sym (append_cond (is_commit_of i p) (points_since i n ps) (points_since i (suc n) ps) qs)

-- ---- one commit after another

both_cond : (b : Bool) (p : Point) (x y u v w z : List Point) → x ≡ u ++ w → y ≡ v ++ z → cond b (p ∷ x) (p ∷ y) ≡ cond b (p ∷ u) (p ∷ v) ++ cond b w z
both_cond true p x y u v w z a c = ap (λ (qs : List Point). p ∷ qs) a
both_cond false p x y u v w z a c = ap (λ (qs : List Point). p ∷ qs) c

until_of_cond : (i m : ℕ) (b : Bool) (x y : List Point) → points_until i m (cond b x y) ≡ cond b (points_until i m x) (points_until i m y)
until_of_cond i m true x y = refl
until_of_cond i m false x y = refl

until_none : (i m : ℕ) → points_until i m [] ≡ []
until_none i zero = refl
until_none i (suc m) = refl

-- nothing comes after nothing
pub since_none : (i m : ℕ) → points_since i m [] ≡ []
since_none i zero = refl
since_none i (suc m) = refl

-- up to n + m commits: up to the n-th, and then m more
pub until-later : (i n m : ℕ) (ps : List Point) → points_until i (n + m) ps ≡ points_until i n ps ++ points_until i m (points_since i n ps)
until-later i zero m ps = let e : 0 + m ≡ m = omega arith in ap (λ (k : ℕ). points_until i k ps) e
until-later i (suc n) m [] = until_none i (suc n + m) ∙ sym (until_none i m)
until-later i (suc n) m (p ∷ ps) =
    let e : suc n + m ≡ suc (n + m) = omega arith in
    ap (λ (k : ℕ). points_until i k (p ∷ ps)) e
    ∙ both_cond (is_commit_of i p) p (points_until i (n + m) ps) (points_until i (suc (n + m)) ps) (points_until i n ps) (points_until i (suc n) ps) (points_until i m (points_since i n ps)) (points_until i m (points_since i (suc n) ps))
    (until-later i n m ps) (ap (λ (k : ℕ). points_until i k ps) (sym e) ∙ until-later i (suc n) m ps)
    ∙ ap (λ (qs : List Point). points_until i (suc n) (p ∷ ps) ++ qs) (sym (until_of_cond i m (is_commit_of i p) (points_since i n ps) (points_since i (suc n) ps)))

since_of_cond : (i m : ℕ) (b : Bool) (x y : List Point) → points_since i m (cond b x y) ≡ cond b (points_since i m x) (points_since i m y)
since_of_cond i m true x y = refl
since_of_cond i m false x y = refl

-- after n + m commits: m more after the n-th
pub since-later : (i n m : ℕ) (ps : List Point) → points_since i (n + m) ps ≡ points_since i m (points_since i n ps)
since-later i zero m ps = let e : 0 + m ≡ m = omega arith in ap (λ (k : ℕ). points_since i k ps) e
since-later i (suc n) m [] = since_none i (suc n + m) ∙ sym (since_none i m)
since-later i (suc n) m (p ∷ ps) =
    let e : suc n + m ≡ suc (n + m) = omega arith in
    ap (λ (k : ℕ). points_since i k (p ∷ ps)) e
    ∙ (λ j. cond (is_commit_of i p) (since-later i n m ps j) ((ap (λ (k : ℕ). points_since i k ps) (sym e) ∙ since-later i (suc n) m ps) j))
    ∙ sym (since_of_cond i m (is_commit_of i p) (points_since i n ps) (points_since i (suc n) ps))

-- ---- done one at a time

-- a sphere's own point tells one actor if it is a commit, and none if it isn't
pub own_commit : (i : ℕ) (p : Point) → is_of i p ≡ true → length (actors_of (p ∷ [])) ≡ cond (is_commit_of i p) 1 0
own_commit i (Point.Commit moment j actor kind size short) e = sym (ap (λ (b : Bool). cond b 1 0) e)
own_commit i (Point.Raise moment j k value) e = refl

-- a point of another sphere is no commit of this one
pub other_commit : (i : ℕ) (p : Point) → is_of i p ≡ false → is_commit_of i p ≡ false
other_commit i (Point.Commit moment j actor kind size short) e = e
other_commit i (Point.Raise moment j k value) e = refl

-- points tell as many actors as the first of them and the later ones together
pub actors_first : (p : Point) (ps : List Point) → length (actors_of (p ∷ ps)) ≡ length (actors_of (p ∷ [])) + length (actors_of ps)
actors_first (Point.Commit moment j actor kind size short) ps = omega arith
actors_first (Point.Raise moment j k value) ps = omega arith

-- to add 1 or 0 by a test is to count one more if the test holds
pub one_counted : (b : Bool) (n : ℕ) → cond b 1 0 + n ≡ cond b (suc n) n
one_counted true n = omega arith
one_counted false n = omega arith

then_none : (i : ℕ) (p : Point) (xs : List Point) → commits_among i xs ≡ 0 → is_commit_of i p ≡ true → points_since i (suc zero) (xs ++ p ∷ []) ≡ []
then_none i p [] none e = ap (λ (b : Bool). cond b [] (points_since i (suc zero) [])) e
then_none i p (x ∷ xs) none e =
    elim (cases_Bool (is_commit_of i x)) [
      | inl c ↦ absurd (let h = ap (λ (b : Bool). cond b (suc (commits_among i xs)) (commits_among i xs)) (sym c) ∙ none in omega (arith, h))
      | inr c ↦ ap (λ (b : Bool). cond b (points_since i zero (xs ++ p ∷ [])) (points_since i (suc zero) (xs ++ p ∷ []))) c
          ∙ then_none i p xs (ap (λ (b : Bool). cond b (suc (commits_among i xs)) (commits_among i xs)) (sym c) ∙ none) e
    ]

-- nothing comes after the last commit
pub since-all : (i : ℕ) (ps : List Point) (p : Point) → is_commit_of i p ≡ true → points_since i (suc (commits_among i ps)) (ps ++ p ∷ []) ≡ []
since-all i ps p e =
    let n = commits_among i ps in
    let one : suc n ≡ n + suc zero = omega arith in
    let none : commits_among i (points_since i n ps) ≡ 0 =
    (let a = among-append i (points_until i n ps) (points_since i n ps) in let b = ap (commits_among i) (until-since i n ps) in let c = among-until i n ps (omega arith) in omega arith) in
    ap (λ (k : ℕ). points_since i k (ps ++ p ∷ [])) one ∙ since-later i n (suc zero) (ps ++ p ∷ [])
    ∙ ap (points_since i (suc zero)) (since-more i n ps (p ∷ []) (omega arith)) ∙ then_none i p (points_since i n ps) none e
