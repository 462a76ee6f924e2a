-- What is promised of an assembled source, and of one that is refused.
use Rattle.std.specs.Prelude.{◌≡◌, ℕ, ◌+◌, ◌<◌, ◌≤◌, List, length, slice_index, Some, None, Ok, IfSome}
use Rattle.spec_isa.specs.Denoted.{denoted}
use Rattle.dl_elf.specs.Images.{IsSize}
use Rattle.dl_elf.specs.Loading.{image_of}
use Rattle.dl_asm.specs.declared.error.Rule.{Rule}
use Rattle.dl_asm.specs.declared.error.AsmError.{AsmError}
use Rattle.dl_asm.specs.declared.error.AsmError.TheVariants.{Refused, OutOfMemory}
use Rattle.dl_asm.specs.Sources.{lines_of, place_of, broken_at, instr_at, words_in}
use Rattle.dl_asm.specs.File.{file_of, code_of, image_by}

-- of the words of a source: no line breaks a rule; they are at most 16,777,216 bytes, and those of its lines; and at the place
-- of a line with an instruction is the word that denotes it
pub record IsCode (lines : List (List ℕ)) (words : List ℕ) : Type 0 where
  pub fits : length words ≤ 4194304
  pub kept : (i : ℕ) → i < length lines → broken_at lines i ≡ None
  pub made : words ≡ words_in lines
  pub spelled : (i : ℕ) → i < length lines → IfSome (instr_at lines i) (λ instr. denoted (slice_index words (place_of lines i)) ≡ Some instr)

-- of the file: it has the short form, and in every memory that has room for the code it is loaded to the words, from
-- address 0 on, with entry 0
pub record IsFile (words file : List ℕ) : Type 0 where
  pub form : file ≡ file_of words
  pub loaded : (size : ℕ) → IsSize size → length (code_of words) ≤ size → image_of file size ≡ Ok (image_by words size)

-- the file of a source
pub record Assembles (source file : List ℕ) : Type 0 where
  pub code : IsCode (lines_of source) (words_in (lines_of source))
  pub image : IsFile (words_in (lines_of source)) file

-- the line of that number, counted from 1, breaks the rule and none that comes before it, and no line before that line
-- breaks any
pub record IsRefused (lines : List (List ℕ)) (line : ℕ) (rule : Rule) : Type 0 where
  pub within : line ≤ length lines
  pub index : ℕ
  pub counted : line ≡ index + 1
  pub broken : broken_at lines index ≡ Some rule
  pub first : (i : ℕ) → i < index → broken_at lines i ≡ None

-- why there is no file; if memory ran out, nothing is said
abbrev pub Refuses : (source : List ℕ) → AsmError → Type 0
Refuses source (Refused line rule) = IsRefused (lines_of source) line rule
Refuses source OutOfMemory = Unit {0}
