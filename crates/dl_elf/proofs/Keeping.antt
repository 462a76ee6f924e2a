-- A file that keeps the rules on its header breaks none before those on its segments.
use Rattle.std.proofs.Common.{◌≡◌, ℕ, ◌%◌, ◌<◌, ◌≤◌, ◌==◌, Bool, true, false, not, Option, Some, None, Err, List, length, refl, sym, ap, ◌∙◌, subst, eqb-true, ltb-true, arith}
use Rattle.std.specs.List.{list_all}
use Rattle.std.specs.Option.{option_or}
use Rattle.std.specs.Prelude.{if◌then◌else◌}
use Rattle.dl_elf.specs.declared.segment.Segment.{Segment}
use Rattle.dl_elf.specs.Fields.{entry_of}
use Rattle.dl_elf.specs.Segments.{loaded_of}
use Rattle.dl_elf.specs.Rules.{is_in_file, is_in_memory, overlap, is_entry, broken_by_header, broken_by_segments, broken}
use Rattle.dl_elf.specs.Loading.{image_by, image_of}
use Rattle.dl_elf.proofs.Sharing.{both}

-- the first rule on the segments that these tests break
abbrev first_of : (file memory shared entry none : Bool) → Option ℕ
first_of file memory shared entry none =
    if not file then Some 9
    else if not memory then Some 10
    else if shared then Some 11
    else if not entry then Some 12
    else if none then Some 13
    else None

record Passed (file memory shared entry : Bool) : Type 0 where
  in_file : file ≡ true
  in_memory : memory ≡ true
  apart : shared ≡ false
  started : entry ≡ true

passed : (file memory shared entry none : Bool) → None ≡ first_of file memory shared entry none → Passed file memory shared entry
passed false memory shared entry none e = cc
passed true false shared entry none e = cc
passed true true true entry none e = cc
passed true true false false none e = cc
passed true true false true none e = record { in_file = refl; in_memory = refl; apart = refl; started = refl }

late : (file memory shared entry none : Bool) (rule : ℕ) → first_of file memory shared entry none ≡ Some rule → 9 ≤ rule
late false memory shared entry none rule e = let same : 9 ≡ rule = cc in omega arith
late true false shared entry none rule e = let same : 10 ≡ rule = cc in omega arith
late true true true entry none rule e = let same : 11 ≡ rule = cc in omega arith
late true true false false none rule e = let same : 12 ≡ rule = cc in omega arith
late true true false true true rule e = let same : 13 ≡ rule = cc in omega arith
late true true false true false rule e = cc

refused_by : (file : List ℕ) (size rule : ℕ) (o : Option ℕ) → image_by file size o ≡ Err rule → o ≡ Some rule
refused_by file size rule None e = cc
refused_by file size rule (Some r) e = let same : r ≡ rule = cc in ap Some same

-- a file that keeps the rules on its header breaks none before the ninth
pub late_rule : (file : List ℕ) (size rule : ℕ) → broken_by_header file ≡ None → image_of file size ≡ Err rule → 9 ≤ rule
late_rule file size rule kept refused =
    late (list_all (is_in_file file) (loaded_of file)) (list_all (is_in_memory size) (loaded_of file)) (overlap size (loaded_of file)) (is_entry size (entry_of file)) (length (loaded_of file) == 0) rule
    (sym (ap (λ o. option_or o (broken_by_segments file size (entry_of file) (loaded_of file))) kept) ∙ refused_by file size rule (broken file size) refused)

-- what the rules on the segments say, if none is broken
pub record Keeps (file : List ℕ) (size entry : ℕ) (segments : List Segment) : Type 0 where
  pub in_file : list_all (is_in_file file) segments ≡ true
  pub in_memory : list_all (is_in_memory size) segments ≡ true
  pub apart : overlap size segments ≡ false
  pub aligned : entry % 4 ≡ 0
  pub inside : entry < size

keeps : (file : List ℕ) (size entry : ℕ) (segments : List Segment) → None ≡ broken_by_segments file size entry segments → Keeps file size entry segments
keeps file size entry segments none =
    let p : Passed (list_all (is_in_file file) segments) (list_all (is_in_memory size) segments) (overlap size segments) (is_entry size entry) = passed _ _ _ _ (length segments == 0) none in
    record {
      in_file = p.in_file;
      in_memory = p.in_memory;
      apart = p.apart;
      aligned = eqb-true _ _ (both _ _ p.started).0;
      inside = ltb-true _ _ (both _ _ p.started).1;
    }

-- the segments of a file that breaks no rule on them keep the rules, in whatever order they are
pub keeps_there : (file : List ℕ) (size entry : ℕ) (here there segments : List Segment) (o : Option ℕ) → o ≡ None → o ≡ broken_by_segments file size entry here → here ≡ segments → there ≡ segments → Keeps file size entry there
keeps_there file size entry here there segments o none is e f =
    let P : List Segment → Type 0 = Keeps file size entry in subst P (e ∙ sym f) (keeps file size entry here (sym none ∙ is))
