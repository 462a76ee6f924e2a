-- The numbers that stand for something: registers, causes of faults, and the addresses of the device words.
use Rattle.std.specs.Prelude.{ℕ}

-- ---- registers, by their names in the calling convention

-- the stack pointer
abbrev pub register_sp : ℕ
register_sp = 2

-- a call's arguments; its result goes to a0
abbrev pub register_a0 : ℕ
register_a0 = 10

abbrev pub register_a1 : ℕ
register_a1 = 11

abbrev pub register_a2 : ℕ
register_a2 = 12

-- a call's number
abbrev pub register_a7 : ℕ
register_a7 = 17

-- ---- causes of faults, as the ISA numbers them

abbrev pub jump_misaligned : ℕ
jump_misaligned = 0

abbrev pub fetch_outside : ℕ
fetch_outside = 1

-- a word that denotes no instruction
abbrev pub illegal : ℕ
illegal = 2

-- EBREAK
abbrev pub breakpoint : ℕ
breakpoint = 3

-- of a load or an LR
abbrev pub load_misaligned : ℕ
load_misaligned = 4

abbrev pub load_outside : ℕ
load_outside = 5

-- of a store, an SC or an AMO
abbrev pub store_misaligned : ℕ
store_misaligned = 6

abbrev pub store_outside : ℕ
store_outside = 7

-- ---- addresses of the device words

-- a load gives the moment
abbrev pub moment_address : ℕ
moment_address = 0xF0000000

-- a load gives the next byte of the input
abbrev pub input_address : ℕ
input_address = 0xF0000004

-- a store puts a byte on the console
abbrev pub console_address : ℕ
console_address = 0xF0000008

-- how many threads a sphere has room for
abbrev pub row_places : ℕ
row_places = 63
