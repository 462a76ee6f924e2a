-- What is found in a list without its first entries, or without those of moments before a base, with the moments counted from
-- there.
use Rattle.std.proofs.Common.{◌≡◌, ℕ, zero, suc, ◌+◌, ◌-◌, ◌<◌, inl, inr, Bool, true, false, cond, List, [], ◌∷◌, length, Option, Some, refl, sym, ap, ◌∙◌, subst, arith}
use Rattle.std.specs.Prelude.{slice_get, nat_lt, nat_eq, ◌&&◌, ◌||◌, find, filter, drop, take, map, option_map}
use Rattle.std.specs.List.{zip}
use Rattle.std.proofs.lemmas.Bool.{cases_Bool, cases_lt, cases_eq, lt-ltb, le-ltb, eq-eqb, ne_eqb, and_left}
use Rattle.std.proofs.lemmas.List.{length-drop}
use Rattle.dl_entry.specs.declared.Actor.{Actor}
use Rattle.spec_log.specs.declared.DmaRecord.{DmaRecord}
use Rattle.spec_log.specs.Head.{is_dma_at}
use Rattle.spec_log.specs.Size.{is_thread, sizes_of_thread}
use Rattle.spec_tail.specs.Playing.{dma_since}
use Rattle.spec_isa.specs.Encoding.{bit}
use Rattle.spec_tail.proofs.Along.Tallies.{tally, Each}

-- ---- without the first entries

-- the entry at b + i is the one at i without the first b entries
pub get-drop : {X : Type 0} (xs : List X) (b i : ℕ) → slice_get xs (b + i) ≡ slice_get (drop b xs) i
get-drop xs zero i = let h : 0 + i ≡ i = omega arith in ap (slice_get xs) h
get-drop [] (suc b) i = refl
get-drop (x ∷ xs) (suc b) i = let h : suc b + i ≡ suc (b + i) = omega arith in ap (slice_get (x ∷ xs)) h ∙ get-drop xs b i

-- whether there are more than so many
pub more-drop : {X : Type 0} (xs : List X) (b i : ℕ) → nat_lt (b + i) (length xs) ≡ nat_lt i (length (drop b xs))
more-drop xs b i =
    let n = length-drop b xs in
    elim (cases_lt (b + i) (length xs)) [
      | inl less ↦ lt-ltb (b + i) (length xs) less ∙ sym (lt-ltb i (length (drop b xs)) (omega (arith, n, less)))
      | inr most ↦ le-ltb (b + i) (length xs) most ∙ sym (le-ltb i (length (drop b xs)) (omega (arith, n, most)))
    ]

-- if each commit has a size, a thread's sizes are those of its commits
sized-first : (k : ℕ) (a : Actor) (order : List Actor) (z : ℕ) (zs : List ℕ) (b : Bool) (n i : ℕ) → is_thread k a ≡ b
    → slice_get (sizes_of_thread k (a ∷ order) (z ∷ zs)) (bit b + n + i) ≡ slice_get (sizes_of_thread k order zs) (n + i)
sized-first k a order z zs true n i is =
    let h : bit true + n + i ≡ suc (n + i) = omega arith in
    ap (λ (c : Bool). slice_get (map (λ p. p.1) (cond c ((a, z) ∷ filter (λ p. is_thread k p.0) (zip order zs)) (filter (λ p. is_thread k p.0) (zip order zs)))) (bit true + n + i)) is
    ∙ ap (slice_get (z ∷ sizes_of_thread k order zs)) h
sized-first k a order z zs false n i is =
    let h : bit false + n + i ≡ n + i = omega arith in
    ap (λ (c : Bool). slice_get (map (λ p. p.1) (cond c ((a, z) ∷ filter (λ p. is_thread k p.0) (zip order zs)) (filter (λ p. is_thread k p.0) (zip order zs)))) (bit false + n + i)) is
    ∙ ap (slice_get (sizes_of_thread k order zs)) h

-- without the first b commits, a thread's sizes are those after its commits among them
pub sized-drop : (k : ℕ) (order : List Actor) (zs : List ℕ) (b i : ℕ) → length zs ≡ length order
    → slice_get (sizes_of_thread k order zs) (tally (is_thread k) (take b order) + i) ≡ slice_get (sizes_of_thread k (drop b order) (drop b zs)) i
sized-drop k order zs zero i same = let h : 0 + i ≡ i = omega arith in ap (slice_get (sizes_of_thread k order zs)) h
sized-drop k [] [] (suc b) i same = refl
sized-drop k [] (z ∷ zs) (suc b) i same = absurd (omega (arith, same))
sized-drop k (a ∷ order) [] (suc b) i same = absurd (omega (arith, same))
sized-drop k (a ∷ order) (z ∷ zs) (suc b) i same =
    sized-first k a order z zs (is_thread k a) (tally (is_thread k) (take b order)) i refl
    ∙ sized-drop k order zs b i (omega (arith, same))

-- ---- the DMAs

-- a DMA is at base + i exactly if its position counted from the base is i
pub position-since : (base count i : ℕ) (d : DmaRecord) → i < count → nat_eq d.position (base + i) ≡ nat_eq (dma_since base count d).position i
position-since base count i d less =
    elim (cases_lt d.position base) [
      | inl before ↦ (
          let l : nat_lt d.position base ≡ true = lt-ltb d.position base before in
          rw l (ne_eqb d.position (base + i) (λ e. omega (arith, e, before)) ∙ sym (ne_eqb count i (λ e. omega (arith, e, less))))
          )
      | inr from ↦ (
          let l : nat_lt d.position base ≡ false = le-ltb d.position base from in
          rw l (
          elim (cases_eq d.position (base + i)) [
            | inl e ↦ eq-eqb d.position (base + i) e ∙ sym (eq-eqb (d.position - base) i (omega (arith, e)))
            | inr ne ↦ ne_eqb d.position (base + i) ne ∙ sym (ne_eqb (d.position - base) i (λ e. ne (omega (arith, e, from))))
          ]
          )
          )
    ]

any-since : (base count i : ℕ) (ds : List DmaRecord) → i < count → is_dma_at ds (base + i) ≡ is_dma_at (map (dma_since base count) ds) i
any-since base count i [] less = refl
any-since base count i (d ∷ ds) less =
    ap (λ (b : Bool). b || is_dma_at ds (base + i)) (position-since base count i d less)
    ∙ ap (λ (b : Bool). nat_eq (dma_since base count d).position i || b) (any-since base count i ds less)

-- the first ones are of commits before it
any-drop : (n u : ℕ) (ds : List DmaRecord) → ((j : ℕ) (d : DmaRecord) → j < u → slice_get ds j ≡ Some d → d.position < n) → is_dma_at ds n ≡ is_dma_at (drop u ds) n
any-drop n zero ds before = refl
any-drop n (suc u) [] before = refl
any-drop n (suc u) (d ∷ ds) before =
    let l = before 0 d (omega arith) refl in
    ap (λ (b : Bool). b || is_dma_at ds n) (ne_eqb d.position n (λ e. omega (arith, e, l)))
    ∙ any-drop n u ds (λ j x m is. before (suc j) x (omega (arith, m)) is)

-- the DMAs after the first u, counted from the base, say whether one is at base + i
pub dma-since : (base count i u : ℕ) (ds : List DmaRecord) → i < count → ((j : ℕ) (d : DmaRecord) → j < u → slice_get ds j ≡ Some d → d.position < base)
    → is_dma_at ds (base + i) ≡ is_dma_at (map (dma_since base count) (drop u ds)) i
dma-since base count i u ds less before =
    any-drop (base + i) u ds (λ j d l is. let h = before j d l is in omega (arith, h)) ∙ any-since base count i (drop u ds) less

-- ---- the entries of threads' moments

-- each entry that a filter keeps passes its test
pub each-filter : {X : Type 0} (keep : X → Bool) (xs : List X) → Each (λ x. keep x ≡ true) (filter keep xs)
each-filter keep [] = tt
each-filter keep (x ∷ xs) =
    elim (cases_Bool (keep x)) [
      | inl is ↦ subst (λ (b : Bool). Each (λ y. keep y ≡ true) (cond b (x ∷ filter keep xs) (filter keep xs))) (sym is) (is, each-filter keep xs)
      | inr isnt ↦ subst (λ (b : Bool). Each (λ y. keep y ≡ true) (cond b (x ∷ filter keep xs) (filter keep xs))) (sym isnt) (each-filter keep xs)
    ]

module _ {X : Type 0} (thread index value : X → ℕ) where
  abbrev at : (k n : ℕ) → X → Bool
  at k n x = nat_eq (thread x) k && nat_eq (index x) n

  -- the value at a thread's moment
  abbrev pub value_at : (k n : ℕ) → List X → Option ℕ
  value_at k n xs = option_map value (find (at k n) xs)

  -- what isn't kept is of another moment
  pub value-kept : (keep : X → Bool) (k n : ℕ) (xs : List X) → ((x : X) → keep x ≡ false → at k n x ≡ false) → value_at k n xs ≡ value_at k n (filter keep xs)
  value-kept keep k n [] other = refl
  value-kept keep k n (x ∷ xs) other =
      let rest = value-kept keep k n xs other in
      elim (cases_Bool (keep x)) [
        | inl is ↦ (
            subst (λ (b : Bool). value_at k n (x ∷ xs) ≡ value_at k n (cond b (x ∷ filter keep xs) (filter keep xs))) (sym is)
            (first (at k n x) x (find (at k n) xs) (find (at k n) (filter keep xs)) rest)
            )
        | inr isnt ↦ (
            subst (λ (b : Bool). value_at k n (x ∷ xs) ≡ value_at k n (cond b (x ∷ filter keep xs) (filter keep xs))) (sym isnt)
            (ap (λ (b : Bool). option_map value (cond b (Some x) (find (at k n) xs))) (other x isnt) ∙ rest)
            )
      ]
    where
      first : (b : Bool) (x : X) (o p : Option X) → option_map value o ≡ option_map value p → option_map value (cond b (Some x) o) ≡ option_map value (cond b (Some x) p)
      first true x o p e = refl
      first false x o p e = e

  -- an entry counted from where its thread has begun
  pub record IsSince (begun : ℕ → ℕ) (x y : X) : Type 0 where
    pub same_thread : thread y ≡ thread x
    pub moment : index x ≡ begun (thread x) + index y
    pub same_value : value y ≡ value x

  at-since : (begun : ℕ → ℕ) (k i : ℕ) (x y : X) → IsSince begun x y → at k (begun k + i) x ≡ at k i y
  at-since begun k i x y since =
      elim (cases_eq (thread x) k) [
        | inl e ↦ (
            let a : nat_eq (thread x) k ≡ true = eq-eqb (thread x) k e in
            let b : nat_eq (thread y) k ≡ true = eq-eqb (thread y) k (since.same_thread ∙ e) in
            let n : index x ≡ begun k + index y = since.moment ∙ ap (λ (j : ℕ). begun j + index y) e in
            rw (a, b) (
            elim (cases_eq (index y) i) [
              | inl f ↦ eq-eqb (index x) (begun k + i) (n ∙ ap (λ (j : ℕ). begun k + j) f) ∙ sym (eq-eqb (index y) i f)
              | inr ne ↦ ne_eqb (index x) (begun k + i) (λ f. ne (omega (arith, f, n))) ∙ sym (ne_eqb (index y) i ne)
            ]
            )
            )
        | inr ne ↦ (
            let a : nat_eq (thread x) k ≡ false = ne_eqb (thread x) k ne in
            let b : nat_eq (thread y) k ≡ false = ne_eqb (thread y) k (λ e. ne (sym since.same_thread ∙ e)) in
            and_left (nat_eq (thread x) k) (nat_eq (index x) (begun k + i)) a ∙ sym (and_left (nat_eq (thread y) k) (nat_eq (index y) i) b)
            )
      ]

  pub value-since : (begun : ℕ → ℕ) (since : X → X) (k i : ℕ) (xs : List X) → Each (λ x. IsSince begun x (since x)) xs → value_at k (begun k + i) xs ≡ value_at k i (map since xs)
  value-since begun since k i [] each = refl
  value-since begun since k i (x ∷ xs) each =
      let one = each.0 in
      ap (λ (b : Bool). option_map value (cond b (Some x) (find (at k (begun k + i)) xs))) (at-since begun k i x (since x) one)
      ∙ first (at k i (since x)) x (since x) (find (at k (begun k + i)) xs) (find (at k i) (map since xs)) (sym one.same_value) (value-since begun since k i xs each.1)
    where
      first : (b : Bool) (x y : X) (o p : Option X) → value x ≡ value y → option_map value o ≡ option_map value p → option_map value (cond b (Some x) o) ≡ option_map value (cond b (Some y) p)
      first true x y o p v e = ap Some v
      first false x y o p v e = e
