-- Whether a log's record is what a step needs from outside.
use Rattle.std.specs.Prelude.{ℕ, Bool, false, ◌&&◌, ◌||◌, nat_eq, nat_le, length, Option, Some, None}
use Rattle.dl_entry.specs.declared.Input.{Input}
use Rattle.dl_entry.specs.Numbers.{kind_write, kind_read, kind_random, kind_clock, kind_moment, kind_input}
use Rattle.spec_kernel.specs.Needs.{Need, Write, Read, Random, Clock, MomentWord, InputWord}
use Rattle.spec_kernel.specs.Answers.{nothing_now, refused}

-- the kind of record that it leaves
abbrev pub kind_of : Need → ℕ
kind_of (Write channel bytes) = kind_write
kind_of (Read channel buf len) = kind_read
kind_of (Random buf len) = kind_random
kind_of Clock = kind_clock
kind_of MomentWord = kind_moment
kind_of InputWord = kind_input

abbrev pub has_no_bytes : Input → Bool
has_no_bytes r = nat_eq (length r.bytes) 0

abbrev pub went_nowhere : Input → Bool
went_nowhere r = nat_eq r.result nothing_now || nat_eq r.result refused

-- a write took some of the bytes, or none
abbrev pub fits_write : (len : ℕ) → Input → Bool
fits_write len r = (nat_le r.result len || went_nowhere r) && has_no_bytes r

-- a read brought as many bytes as it says, or none
abbrev pub fits_read : (len : ℕ) → Input → Bool
fits_read len r = nat_le r.result len && nat_eq (length r.bytes) r.result || went_nowhere r && has_no_bytes r

abbrev pub fits_random : (len : ℕ) → Input → Bool
fits_random len r = nat_eq r.result len && nat_eq (length r.bytes) len

abbrev pub fits_kind : Need → Input → Bool
fits_kind (Write channel bytes) r = fits_write (length bytes) r
fits_kind (Read channel buf len) r = fits_read len r
fits_kind (Random buf len) r = fits_random len r
fits_kind Clock r = has_no_bytes r
fits_kind MomentWord r = has_no_bytes r
fits_kind InputWord r = has_no_bytes r

-- whether the record is of this kind and could have been the answer
unfoldable pub fits : Need → Input → Bool
fits need r = nat_eq r.kind (kind_of need) && fits_kind need r

-- no record fits a step that needs none
abbrev pub fits_if : Option Need → Input → Bool
fits_if None r = false
fits_if (Some need) r = fits need r
