-- Files by hand, and what the rules say of them in a memory of 12 bytes.
use Rattle.std.proofs.Common.{◌≡◌, ℕ, List, [], ◌∷◌, ◌++◌, replicate, Some, None, Ok, refl}
use Rattle.dl_elf.specs.Rules.{broken, overlap}
use Rattle.dl_elf.specs.Segments.{first_loaded}
use Rattle.dl_elf.specs.Loading.{image_of}

-- a header with that many program headers
abbrev header : (entry count : ℕ) → List ℕ
header entry count =
    0x7F ∷ 0x45 ∷ 0x4C ∷ 0x46 ∷ 1 ∷ 1 ∷ 1 ∷ 0 ∷ 0 ∷ 0 ∷ 0 ∷ 0 ∷ 0 ∷ 0 ∷ 0 ∷ 0 ∷ 2 ∷ 0 ∷ 243 ∷ 0 ∷ 1 ∷ 0 ∷ 0 ∷ 0 ∷ entry ∷ 0 ∷ 0 ∷ 0
    ∷ 52 ∷ 0 ∷ 0 ∷ 0 ∷ 0 ∷ 0 ∷ 0 ∷ 0 ∷ 0 ∷ 0 ∷ 0 ∷ 0 ∷ 52 ∷ 0 ∷ 32 ∷ 0 ∷ count ∷ 0 ∷ 0 ∷ 0 ∷ 0 ∷ 0 ∷ 0 ∷ 0 ∷ []

-- a program header; physical address, flags and alignment are 9
abbrev program_header : (kind offset address file_size memory_size : ℕ) → List ℕ
program_header kind offset address file_size memory_size =
    kind ∷ 0 ∷ 0 ∷ 0 ∷ offset ∷ 0 ∷ 0 ∷ 0 ∷ address ∷ 0 ∷ 0 ∷ 0 ∷ 9 ∷ 0 ∷ 0 ∷ 0
    ∷ file_size ∷ 0 ∷ 0 ∷ 0 ∷ memory_size ∷ 0 ∷ 0 ∷ 0 ∷ 9 ∷ 0 ∷ 0 ∷ 0 ∷ 9 ∷ 0 ∷ 0 ∷ 0 ∷ []

-- three bytes at address 4 of a segment of five; a segment of another kind is passed over
loaded : image_of (header 8 2 ++ program_header 1 117 4 3 5 ++ program_header 4 255 255 255 0 ++ (1 ∷ 2 ∷ 3 ∷ 4 ∷ [])) 12
    ≡ Ok (record { size = 12; entry = 8; bytes = 0 ∷ 0 ∷ 0 ∷ 0 ∷ 2 ∷ 3 ∷ 4 ∷ 0 ∷ 0 ∷ 0 ∷ 0 ∷ 0 ∷ [] })
unfolding overlap first_loaded
loaded = refl

-- a segment without file bytes that ends at the memory's end, and one without addresses in its middle
empty_inside : broken (header 0 2 ++ program_header 1 0 4 0 8 ++ program_header 1 0 8 0 0) 12 ≡ None
unfolding overlap first_loaded
empty_inside = refl

-- a byte past the memory's end
too_long : broken (header 0 1 ++ program_header 1 0 4 0 9) 12 ≡ Some 10
unfolding overlap first_loaded
too_long = refl

-- they touch in address 7
shared : broken (header 0 2 ++ program_header 1 0 7 0 5 ++ program_header 1 0 0 0 8) 12 ≡ Some 11
unfolding overlap first_loaded
shared = refl

-- one segment ends where the other begins
side_by_side : broken (header 0 2 ++ program_header 1 0 8 0 4 ++ program_header 1 0 0 0 8) 12 ≡ None
unfolding overlap first_loaded
side_by_side = refl

-- the table of program headers ends a byte past the file's end
cut : broken (header 0 3 ++ program_header 1 0 0 0 8 ++ program_header 1 0 8 0 4 ++ replicate 31 0) 12 ≡ Some 8
cut = refl

-- the rules are looked at in their order: of the ninth and the tenth the ninth is told
in_order : broken (header 2 1 ++ program_header 1 0 0 200 100) 12 ≡ Some 9
unfolding overlap first_loaded
in_order = refl
