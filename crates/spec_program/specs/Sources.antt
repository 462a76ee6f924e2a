-- The file of a source, or the first of its lines that breaks a rule.
use Rattle.std.specs.Prelude.{ℕ, zero, suc, ◌+◌, List, length, Option, Some, None, Result, Ok, Err}
use Rattle.dl_asm.specs.declared.Rule.{Rule}
use Rattle.dl_asm.specs.File.{file_of}
use Rattle.dl_asm.specs.Numbering.{rule_number}
use Rattle.dl_asm.specs.Sources.{broken_at, lines_of, words_in}
use Rattle.spec_program.specs.declared.status.Refusal.{Refusal}
use Rattle.spec_program.specs.Lines.{source_line}
use Rattle.spec_program.specs.Stages.{Refused}

-- a line by its number, counted from 1, and the first rule that it breaks
abbrev pub bad_source : (line : ℕ) → Rule → Refused
bad_source line rule = record { why = Refusal.Source; line = source_line line (rule_number rule) }

-- ---- the first refusal among `n` lines from number i on, if any

abbrev pub refused_or : (i : ℕ) → Option Rule → Option Refused → Option Refused
refused_or i (Some rule) later = Some (bad_source (i + 1) rule)
refused_or i None later = later

abbrev pub refused_from : List (List ℕ) → (i n : ℕ) → Option Refused
refused_from lines i zero = None
refused_from lines i (suc n) = refused_or i (broken_at lines i) (refused_from lines (suc i) n)

-- ----

abbrev pub unless_refused : Option Refused → (file : List ℕ) → Result (List ℕ) Refused
unless_refused (Some refused) file = Err refused
unless_refused None file = Ok file

-- the file of the words of its lines
abbrev pub assembled : (source : List ℕ) → Result (List ℕ) Refused
assembled source =
    unless_refused (refused_from (lines_of source) 0 (length (lines_of source))) (file_of (words_in (lines_of source)))
