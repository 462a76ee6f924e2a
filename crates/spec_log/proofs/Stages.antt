-- What is known of a draft through the stages of a format: what each stage keeps or finds holds of all that is read.
use Rattle.std.proofs.Common.{◌≡◌, ℕ, zero, suc, ◌≤◌, ◌&&◌, Bool, true, false, nat_le, nat_lt, List, ◌∷◌, length, if◌then◌else◌, Result, Ok, Err, refl, subst, ap, leb-true}
use Rattle.spec_log.specs.declared.fault.Fault.{Fault}
use Rattle.spec_log.specs.Fields.{Read, Reader, Stage, all_of, continues, fails, field, from_to, gives, number_of, once, passes, raw, repeated, staged}

-- ---- readers

-- where something is read after something, both were read
pub then-read : {X Y : Type 0} (r : Result (Read X) Fault) (next : X → ℕ → Result Y Fault) (y : Y) → continues r next ≡ Ok y → (x : Read X) × (r ≡ Ok x) × (next x.value x.after ≡ Ok y)
then-read (Ok x) next y e = (x, refl, e)
then-read (Err fault) next y e = absurd cc

same-read : {X : Type 0} (a b : Read X) → ◌≡◌ {A = Result (Read X) Fault} (Ok a) (Ok b) → a ≡ b
same-read a b e = cc

-- if this is known of a draft, then that is found of what is read of it
abbrev pub Turns : {D : Type 0} → (D → Type 0) → (D → Type 0) → (D → Reader D) → Type 0
Turns known found reader = (d : _) (bytes : List ℕ) (at : ℕ) (x : Read _) → known d → reader d bytes at ≡ Ok x → found x.value

given : {D : Type 0} (found : D → Type 0) (a x : Read D) → ◌≡◌ {A = Result (Read D) Fault} (Ok a) (Ok x) → found a.value → found x.value
given found a x e f = subst found (ap (λ (z : Read _). z.value) (same-read a x e)) f

-- what is put into a draft has what is found
pub put-turns : {D X : Type 0} (found : D → Type 0) (reading : Result (Read X) Fault) (put : X → D) (bytes : List ℕ) (x : Read D)
    → ((y : Read X) → reading ≡ Ok y → found (put y.value)) → continues reading (λ y after. gives (put y) bytes after) ≡ Ok x → found x.value
put-turns found reading put bytes x good e =
    let r = then-read reading (λ y after. gives (put y) bytes after) x e in
    given found (record { value = put r.0.value; after = r.0.after }) x r.2 (good r.0 r.1)

-- ---- stages

-- a stage that is read once finds what its reader finds
pub once-turns : {D : Type 0} (known found : D → Type 0) (one : D → Reader D) → Turns known found one → Turns known found (staged (once one))
once-turns known found one turns d bytes at x k e =
    let r = then-read (one d bytes at) (λ y after. gives y bytes after) x e in
    given found r.0 x r.2 (turns d bytes at r.0 k r.1)

repeated-keeps : {D : Type 0} (known : D → Type 0) (one : D → Reader D) → Turns known known one → (n : ℕ) → Turns known known (repeated one n)
repeated-keeps known one keeps zero d bytes at x k e = given known (record { value = d; after = at }) x e k
repeated-keeps known one keeps (suc n) d bytes at x k e =
    let r = then-read (one d bytes at) (λ y after. repeated one n y bytes after) x e in
    repeated-keeps known one keeps n r.0.value bytes r.0.after x (keeps d bytes at r.0 k r.1) r.2

-- what is known of a draft is kept by a stage if each reading of it keeps that
pub staged-keeps : {D : Type 0} (known : D → Type 0) (stage : Stage D) → Turns known known stage.one → Turns known known (staged stage)
staged-keeps known stage keeps d bytes at x k e =
    let r = then-read (stage.times d bytes at) (λ n after. repeated stage.one n d bytes after) x e in
    repeated-keeps known stage.one keeps r.0.value d bytes r.0.after x k r.2

-- a stage and those after it
pub then-turns : {D : Type 0} (known between found : D → Type 0) (stage : Stage D) (later : List (Stage D))
    → Turns known between (staged stage) → Turns between found (all_of later) → Turns known found (all_of (stage ∷ later))
then-turns known between found stage later turns rest d bytes at x k e =
    let r = then-read (staged stage d bytes at) (λ y after. all_of later y bytes after) x e in
    rest r.0.value bytes r.0.after x (turns d bytes at r.0 k r.1) r.2

-- no stage is left
pub all-turned : {D : Type 0} (known : D → Type 0) → Turns known known (λ d. gives d)
all-turned known d bytes at x k e = given known (record { value = d; after = at }) x e k

-- ---- a field in a range

-- if a value was read under a test, the test holds and the value is unchanged
pub passed : {X : Type 0} (good : Bool) (fault start : ℕ) (n : X) (bytes : List ℕ) (at : ℕ) (x : Read X) → passes good fault start n bytes at ≡ Ok x → (good ≡ true) × (n ≡ x.value)
passed true fault start n bytes at x e = (refl, ap (λ (z : Read _). z.value) (same-read (record { value = n; after = at }) x e))
passed false fault start n bytes at x e = absurd cc

-- if two tests hold together, the first one holds
pub and-first : (a b : Bool) → (a && b) ≡ true → a ≡ true
and-first true b e = refl
and-first false b e = e

-- a number read from a field of four bytes is at least the lowest of its range
pub field-low : (low most : ℕ) (bytes : List ℕ) (at : ℕ) (x : Read ℕ) → field 4 (from_to low most) bytes at ≡ Ok x → low ≤ x.value
field-low low most bytes at x e =
    let four = then-read (raw 4 bytes at) (λ four after. passes (from_to low most (number_of four)) 5 at (number_of four) bytes after) x e in
    let n : ℕ = number_of four.0.value in
    let p = passed (from_to low most n) 5 at n bytes four.0.after x four.2 in
    subst (λ (k : ℕ). low ≤ k) p.1 (leb-true low n (and-first (nat_le low n) (nat_le n most) p.0))

-- ---- a whole file

-- what is read of all stages is what the bytes say, unless bytes are left
pub read-whole : {D X : Type 0} (stages : List (Stage D)) (blank : D) (made : D → X) (bytes : List ℕ) (v : X)
    → continues (all_of stages blank bytes 0) (λ d after. if nat_lt after (length bytes) then fails 7 after else Ok (made d)) ≡ Ok v
    → (x : Read D) × (all_of stages blank bytes 0 ≡ Ok x) × (made x.value ≡ v)
read-whole stages blank made bytes v e =
    let p = then-read (all_of stages blank bytes 0) (λ d after. if nat_lt after (length bytes) then fails 7 after else Ok (made d)) v e in
    (p.0, p.1, none-left (nat_lt p.0.after (length bytes)) p.0.after (made p.0.value) v p.2) where
      none-left : {Y : Type 0} (b : Bool) (at : ℕ) (p v : Y) → ◌≡◌ {A = Result Y Fault} (if b then fails 7 at else Ok p) (Ok v) → p ≡ v
      none-left true at p v e = absurd cc
      none-left false at p v e = cc
