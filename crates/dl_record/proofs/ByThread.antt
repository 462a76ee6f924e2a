-- A number of each thread, put into its place one after another.
use Rattle.std.proofs.Common.{◌≡◌, ℕ, ◌+◌, ◌<◌, ◌≤◌, List, length, replicate, slice_index, slice_get, Option, None, inl, inr, refl, sym, ◌∙◌, arith}
use Rattle.std.proofs.Math.ListN.{set}
use Rattle.std.proofs.lemmas.Bool.{cases_lt, cases_eq}
use Rattle.std.proofs.lemmas.List.{length-set, get_or-set_same, get_or-set_other}
use Rattle.std.proofs.lemmas.Option.{slice_get_past}
use Rattle.dl_entry.specs.Numbers.{most_threads}
use Rattle.spec_isa.specs.declared.thread.Parts.{Parts}
use Rattle.dl_mode.proofs.Nothing.{AreAmong-none}

-- the first n have theirs, and the others have 0
pub record ByThread (f : Option Parts → ℕ) (threads : List Parts) (n : ℕ) (xs : List ℕ) : Type 0 where
  pub long : length xs ≡ most_threads
  pub each : (t : ℕ) → t < n → slice_index xs t ≡ f (slice_get threads t)
  pub rest : (t : ℕ) → n ≤ t → slice_index xs t ≡ 0

pub ByThread-none : (f : Option Parts → ℕ) (threads : List Parts) (xs : List ℕ) → xs ≡ replicate most_threads 0 → ByThread f threads 0 xs
ByThread-none f threads xs e =
    record { long = rw e refl; each = λ t h. absurd (omega arith); rest = λ t h. omega (arith, AreAmong-none xs 0 e t) }

-- the next one has its number
pub ByThread-more : (f : Option Parts → ℕ) (threads : List Parts) (n : ℕ) (xs : List ℕ) (o : Option Parts) (v : ℕ) → ByThread f threads n xs → n < most_threads
    → o ≡ slice_get threads n → v ≡ f o → ByThread f threads (n + 1) (set xs n v)
ByThread-more f threads n xs o v b h is e =
    record {
      long = length-set xs n v ∙ b.long;
      each = λ t l. elim (cases_eq t n) [
        | inl same ↦ rw (same, get_or-set_same xs n v 0 (omega (arith, b.long)), ← is) e
        | inr other ↦ rw (get_or-set_other xs n t v 0 other) (b.each t (omega arith))
      ];
      rest = λ t l. rw (get_or-set_other xs n t v 0 (λ q. omega arith)) (b.rest t (omega arith));
    }

-- or there is none
pub ByThread-skip : (f : Option Parts → ℕ) (threads : List Parts) (n : ℕ) (xs : List ℕ) → f None ≡ 0 → ByThread f threads n xs
    → None ≡ slice_get threads n → ByThread f threads (n + 1) xs
ByThread-skip f threads n xs none b is =
    record {
      long = b.long;
      each = λ t l. elim (cases_eq t n) [
        | inl same ↦ rw (same, ← is) (b.rest n (omega arith) ∙ sym none)
        | inr other ↦ b.each t (omega arith)
      ];
      rest = λ t l. b.rest t (omega arith);
    }

-- all have theirs
pub ByThread-all : (f : Option Parts → ℕ) (threads : List Parts) (n : ℕ) (xs : List ℕ) → f None ≡ 0 → ByThread f threads n xs → length threads ≤ n
    → (t : ℕ) → slice_index xs t ≡ f (slice_get threads t)
ByThread-all f threads n xs none b h t =
    elim (cases_lt t n) [
      | inl within ↦ b.each t within
      | inr past ↦ rw (slice_get_past threads t (omega arith)) (b.rest t past ∙ sym none)
    ]
