-- Places of lines, cores told, and the limits of squashed chunks, computed.
use Rattle.std.proofs.Common.{◌≡◌, ℕ, true, false, refl}
use Rattle.spec_isa.specs.Threads.{started}
use Rattle.spec_engine.specs.Signatures.{is_size, line, low_place, high_place}
use Rattle.spec_engine.specs.Flights.{told_at, all_told}
use Rattle.spec_engine.specs.Chunks.{Chunk, fresh, squash}

-- with 64 bits lines 8 and 296 have the same places in both banks
same_low : low_place 64 8 ≡ low_place 64 296
same_low = refl

places_of_8 : high_place 64 8 ≡ 30
places_of_8 = refl

places_of_296 : high_place 64 296 ≡ 30
places_of_296 = refl

-- lines 0 and 32 share only the first bank's place
low_of_32 : low_place 64 32 ≡ low_place 64 0
low_of_32 = refl

high_of_0 : high_place 64 0 ≡ 0
high_of_0 = refl

high_of_32 : high_place 64 32 ≡ 24
high_of_32 = refl

-- line 1023 has the last place of the first bank
last_place : low_place 2048 1023 ≡ 1023
last_place = refl

-- word 64 (address 100 hex) is in line 8, and address 2500 (hex) in line 296
line_of_100 : line 0 64 ≡ 8
line_of_100 = refl

line_of_2500 : line 0 2368 ≡ 296
line_of_2500 = refl

first_of_sphere_7 : line 7 0 ≡ 3670016
first_of_sphere_7 = refl

size_96 : is_size 96 ≡ false
size_96 = refl

size_2048 : is_size 2048 ≡ true
size_2048 = refl

-- cores 0 and 2 of three
told_of_5 : told_at 5 1 ≡ false
told_of_5 = refl

all_of_7 : all_told 3 7 ≡ true
all_of_7 = refl

not_all_of_5 : all_told 3 5 ≡ false
not_all_of_5 = refl

abbrev recorded : (limit : ℕ) → Chunk
recorded limit = fresh 64 0 (started 0) limit true

abbrev plain : (limit : ℕ) → Chunk
plain limit = fresh 64 0 (started 0) limit false

abbrev four : Chunk → Chunk
four ch = squash (squash (squash (squash ch)))

after_three : (squash (squash (squash (recorded 16)))).limit ≡ 16
after_three = refl

after_four : (four (recorded 16)).limit ≡ 8
after_four = refl

after_eight : (four (four (recorded 16))).limit ≡ 4
after_eight = refl

never_0 : (four (recorded 1)).limit ≡ 1
never_0 = refl

plain_keeps : (four (plain 16)).limit ≡ 16
plain_keeps = refl
