-- What the assembler answers of a source is its file, or the first line that is refused.
use Rattle.std.proofs.Common.{◌≡◌, ℕ, zero, suc, ◌+◌, ◌<◌, ◌≤◌, List, length, Option, Some, None, Ok, Err, refl, sym, ap, ◌∙◌, inl, inr, arith}
use Rattle.std.proofs.Math.Nat.{eq-or-lt_of_le}
use Rattle.dl_asm.specs.declared.error.Rule.{Rule}
use Rattle.dl_asm.specs.File.{file_of}
use Rattle.dl_asm.specs.Promise.{Assembles, IsRefused}
use Rattle.dl_asm.specs.Sources.{broken_at, lines_of, words_in}
use Rattle.spec_program.specs.Sources.{assembled, bad_source, refused_from, refused_or, unless_refused}
use Rattle.spec_program.specs.Stages.{Refused}

none_refused : (lines : List (List ℕ)) (i n : ℕ) → ((k : ℕ) → k < i + n → broken_at lines k ≡ None) → refused_from lines i n ≡ None
none_refused lines i zero kept = refl
none_refused lines i (suc n) kept =
    ap (λ (o : Option Rule). refused_or i o (refused_from lines (suc i) n)) (kept i (omega arith))
    ∙ none_refused lines (suc i) n (λ k l. kept k (omega (arith, l)))

first_refused : (lines : List (List ℕ)) (i n j : ℕ) (rule : Rule) → i ≤ j → j < i + n → broken_at lines j ≡ Some rule → ((k : ℕ) → k < j → broken_at lines k ≡ None)
    → refused_from lines i n ≡ Some (bad_source (j + 1) rule)
first_refused lines i zero j rule low high broken kept = absurd (omega (arith, low, high))
first_refused lines i (suc n) j rule low high broken kept = elim (eq-or-lt_of_le low) as (λ _. refused_from lines i (suc n) ≡ Some (bad_source (j + 1) rule)) [
  | inl same ↦
      ap (λ (o : Option Rule). refused_or i o (refused_from lines (suc i) n)) (ap (broken_at lines) same ∙ broken)
      ∙ ap (λ (k : ℕ). Some (bad_source (k + 1) rule)) same
  | inr less ↦
      ap (λ (o : Option Rule). refused_or i o (refused_from lines (suc i) n)) (kept i less)
      ∙ first_refused lines (suc i) n j rule (omega (arith, less)) (omega (arith, high)) broken kept
]

-- of a source that assembles to a file, the outcome is that file
pub file_made : (source file : List ℕ) → Assembles source file → assembled source ≡ Ok file
file_made source file made =
    ap (λ (o : Option Refused). unless_refused o (file_of (words_in (lines_of source)))) (none_refused (lines_of source) 0 (length (lines_of source)) (λ k l. made.code.kept k (omega (arith, l))))
    ∙ ap Ok (sym made.image.form)

-- of a source that is refused at a line, the outcome is that line with its rule
pub line_refused : (source : List ℕ) (line : ℕ) (rule : Rule) → IsRefused (lines_of source) line rule → assembled source ≡ Err (bad_source line rule)
line_refused source line rule refused =
    ap (λ (o : Option Refused). unless_refused o (file_of (words_in (lines_of source))))
    (first_refused (lines_of source) 0 (length (lines_of source)) refused.index rule (omega arith) (omega (arith, refused.within, refused.counted)) refused.broken refused.first)
    ∙ ap (λ (n : ℕ). Err (bad_source n rule)) (sym refused.counted)
