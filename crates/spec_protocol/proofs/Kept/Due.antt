-- When an epoch is due: after each whole number of them, once.
use Rattle.std.proofs.Common.{◌≡◌, ◌≢◌, ℕ, zero, suc, ◌+◌, ◌-◌, ◌*◌, ◌/◌, ◌%◌, ◌<◌, ◌≤◌, inl, inr, Bool, true, false, not, ◌&&◌, ◌||◌, eqb, List, refl, sym, ap, ◌∙◌, arith}
use Rattle.std.proofs.lemmas.Bool.{true≢false, cases_eq, cases_lt, eq-eqb, ne_eqb, eqb-true, and_parts}
use Rattle.std.proofs.Math.Nat.{suc-mul, add-mul, mul-mod_left, div-add-mod, mul_comm, zero-mul}
use Rattle.std.proofs.lemmas.Nat.{div-mul-add}
use Rattle.dl_entry.specs.declared.Point.{Point}
use Rattle.spec_protocol.specs.machine.Machine.{Setup}
use Rattle.spec_play.specs.Epochs.{begins_at, is_due}
use Rattle.spec_sphere.specs.sphere.Epochs.{base_of}
use Rattle.spec_protocol.specs.machine.Kept.{epoch_of, epochs_of}
use Rattle.spec_sphere.proofs.Moves.Answering.{or_second}

-- ---- numbers

-- so many epochs of this size, and how many commits there are: up to the end of the last, and not before its beginning
pub record IsInLast (size epochs commits : ℕ) : Type 0 where
  pub next : commits ≤ epochs * size
  pub last : epochs * size ≤ commits + size

-- of a number of commits within the last epoch
pub last-whole : (size epochs commits : ℕ) → 0 < size → IsInLast size epochs commits → commits < epochs * size → commits / size + 1 ≡ epochs
last-whole size zero commits l is less = absurd (let z : 0 * size ≡ 0 = zero-mul size in omega (arith, less, z))
last-whole size (suc m) commits l is less =
    let a : suc m * size ≡ m * size + size = suc-mul m size in
    let r : ℕ = commits - m * size in
    let e : commits ≡ m * size + r = (let h = is.last in omega arith) in
    let small : r < size = omega (arith, less, a, e) in
    let d : commits / size ≡ m = ap (λ (n : ℕ). n / size) e ∙ div-mul-add m size r small in
    omega arith

-- the base: where the earliest of the kept epochs begins, if none is due and all have begun that are to be kept
pub base-is : (given kept size keep commits : ℕ) → 0 < size → kept ≤ keep → (0 < given → kept ≡ keep) → IsInLast size (given + kept) commits → commits < (given + kept) * size → given * size ≡ base_of commits size keep
base-is given kept size keep commits some few all is less =
    let w : commits / size + 1 ≡ given + kept = last-whole size (given + kept) commits some is less in
    let e : given ≡ commits / size + 1 - keep = elim (cases_lt 0 given) [
      | inl positive ↦ (let h = all positive in omega (arith, w, h))
      | inr none ↦ omega (arith, w, few, none)
    ] in
    ap (λ (n : ℕ). n * size) e

-- ---- where epochs begin

-- of points of which sphere i has so many commits, in each state has as many as it should
module _ (s : Setup) (ps : List Point) (i size commits : ℕ) (some : 0 < size) (at_ : (n : ℕ) → n ≤ commits → (epoch_of s ps i n).state.commits ≡ n) where
  none_yet : (n m : ℕ) → n + m * size ≤ commits → begins_at commits (epochs_of s ps i size n m) ≡ false
  none_yet n zero l = refl
  none_yet n (suc m) l =
      let a : suc m * size ≡ m * size + size = suc-mul m size in
      let c = at_ n (omega (arith, l, a)) in
      let ne : (epoch_of s ps i n).state.commits ≢ commits = (λ h. omega (arith, c, h, l, a, some)) in
      (λ j. ne_eqb (epoch_of s ps i n).state.commits commits ne j || none_yet (n + size) m (omega (arith, l, a)) j)

  last_begun : (n m : ℕ) → n + m * size ≡ commits → begins_at commits (epochs_of s ps i size n (suc m)) ≡ true
  last_begun n zero e =
      let z : zero * size ≡ 0 = zero-mul size in
      let c = at_ n (omega (arith, e, z)) in
      ap (λ (b : Bool). b || false) (eq-eqb (epoch_of s ps i n).state.commits commits (omega (arith, c, e, z)))
  last_begun n (suc m) e =
      let a : suc m * size ≡ m * size + size = suc-mul m size in
      or_second (eqb (epoch_of s ps i n).state.commits commits) (begins_at commits (epochs_of s ps i size (n + size) (suc m))) (last_begun (n + size) m (omega (arith, e, a)))

  none_left : (given kept c keep : ℕ) → 0 < keep → (0 < given → kept ≡ keep) → c + 1 ≡ given + kept → commits ≡ c * size → not (begins_at commits (epochs_of s ps i size (given * size) kept)) ≡ true → ⊥
  none_left given zero c keep more all w times due =
      elim (cases_lt 0 given) [
        | inl positive ↦ (let h = all positive in omega (arith, h, more))
        | inr none ↦ omega (arith, w, none)
      ]
  none_left given (suc m) c keep more all w times due =
      let e : c ≡ given + m = omega arith in
      let a : (given + m) * size ≡ given * size + m * size = add-mul given m size in
      let f : c * size ≡ (given + m) * size = ap (λ (n : ℕ). n * size) e in
      let begun = last_begun (given * size) m (omega (arith, a, f, times)) in
      true≢false (sym due ∙ ap not begun)

  module _ (given kept keep : ℕ) (is : IsInLast size (given + kept) commits) where
    -- none is due, so the next epoch begins later
    pub not-due : is_due commits (record { size = size; keep = keep; begun = epochs_of s ps i size (given * size) kept }) ≡ false → commits < (given + kept) * size
    not-due e =
        elim (cases_eq commits ((given + kept) * size)) [
          | inl same ↦ (
              let whole : commits % size ≡ 0 = ap (λ (n : ℕ). n % size) same ∙ mul-mod_left (given + kept) size in
              let none : begins_at commits (epochs_of s ps i size (given * size) kept) ≡ false = none_yet (given * size) kept (let a = add-mul given kept size in omega arith) in
              absurd (true≢false (sym (λ j. eq-eqb (commits % size) 0 whole j && not (none j)) ∙ e))
              )
          | inr ne ↦ (let h = is.next in omega arith)
        ]

    -- one is due, so there are as many commits as the epochs have
    pub is-due : 0 < keep → (0 < given → kept ≡ keep) → is_due commits (record { size = size; keep = keep; begun = epochs_of s ps i size (given * size) kept }) ≡ true → commits ≡ (given + kept) * size
    is-due more all e =
        let p = and_parts (eqb (commits % size) 0) (not (begins_at commits (epochs_of s ps i size (given * size) kept))) e in
        let whole : commits % size ≡ 0 = eqb-true (commits % size) 0 p.0 in
        let c : ℕ = commits / size in
        let times : commits ≡ c * size = (let a = div-add-mod commits size in let b = mul_comm size c in omega (arith, a, b, whole)) in
        elim (cases_eq commits ((given + kept) * size)) [
          | inl same ↦ same
          | inr ne ↦ (
              let less : commits < (given + kept) * size = (let h = is.next in omega arith) in
              let w : c + 1 ≡ given + kept = last-whole size (given + kept) commits some is less in
              absurd (none_left given kept c keep more all w times p.1)
              )
        ]
