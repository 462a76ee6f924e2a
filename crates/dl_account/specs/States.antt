-- The lines of a sphere's state: its threads, its outstanding request and its memory.
use Rattle.std.specs.Prelude.{ℕ, ◌*◌, ◌/◌, nat_eq, Bool, true, false, if◌then◌else◌, List, [], ◌∷◌, ◌++◌, length, map, drop, codes, decimal, Option, Some, None}
use Rattle.std.specs.List.{list_all}
use Rattle.std.specs.Simd.{first_chunks}
use Rattle.dl_entry.specs.declared.input.Request.{Request}
use Rattle.spec_isa.specs.declared.thread.Parts.{Parts}
use Rattle.spec_isa.specs.declared.thread.ThreadStatus.{ThreadStatus}
use Rattle.spec_isa.specs.declared.thread.ThreadStatus.TheVariants.{Live, Ended, Fault}
use Rattle.dl_account.specs.Lines.{hex_bytes, hex_word, line, numbered}

-- whether a thread is live, and if not, how it ended
abbrev pub status_word : ThreadStatus → List ℕ
status_word Live = codes "live"
status_word (Ended number) = codes "ended:" ++ decimal number
status_word (Fault cause) = codes "fault:" ++ decimal cause

abbrev pub mask_word : Bool → List ℕ
mask_word false = codes "0"
mask_word true = codes "1"

-- `t N PC STATUS HANDLER MASK x1 .. x31`
abbrev pub thread_line : ℕ → Parts → List ℕ
thread_line number t =
    line (codes "t")
    (decimal number ∷ hex_word t.pc ∷ status_word t.status ∷ hex_word t.handler ∷ mask_word t.mask
    ∷ map hex_word (drop 1 t.x))

-- `h N PC A0 A1` with the saved values, if interrupts are masked
abbrev pub saved_line : ℕ → Parts → List ℕ
saved_line number t =
    if t.mask
    then line (codes "h") (decimal number ∷ hex_word t.saved_pc ∷ hex_word t.saved_a0 ∷ hex_word t.saved_a1 ∷ [])
    else []

abbrev pub thread_lines : ℕ → Parts → List ℕ
thread_lines number t = thread_line number t ++ saved_line number t

-- `d BUF LEN`, if a request is outstanding
abbrev pub request_lines : Option Request → List ℕ
request_lines None = []
request_lines (Some request) = line (codes "d") (hex_word request.buf ∷ decimal request.len ∷ [])

-- a memory's rows of 32 bytes: its whole pages have a whole number of them
abbrev pub rows : List ℕ → List (List ℕ)
rows memory = first_chunks 32 (length memory / 32) memory

abbrev pub is_zero : List ℕ → Bool
is_zero row = list_all (λ byte. nat_eq byte 0) row

-- `m ADDR HEX`, unless the row is all zero
abbrev pub row_line : ℕ → List ℕ → List ℕ
row_line number row =
    if is_zero row then [] else line (codes "m") (hex_word (32 * number) ∷ hex_bytes row ∷ [])

-- the threads by number, the request, and the rows from address 0 on
abbrev pub state_lines : List Parts → Option Request → (memory : List ℕ) → List ℕ
state_lines threads request memory =
    numbered thread_lines 0 threads ++ request_lines request ++ numbered row_line 0 (rows memory)
