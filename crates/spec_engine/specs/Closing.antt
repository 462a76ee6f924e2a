-- What a chunk's end says of its commit: a piece, or short.
use Rattle.std.specs.Prelude.{ℕ, nat_lt, Bool, true, false}
use Rattle.spec_engine.specs.declared.answers.How.{How}

-- ---- chunks

-- a replayed chunk that was closed for lack of room or by Cut is a piece of a commit
abbrev pub is_piece : How → Bool
is_piece How.Limit = false
is_piece How.Serial = false
is_piece How.Overflow = true
is_piece How.Cut = true

-- ---- interrupts

-- closed for lack of room or by Cut, or by a limit below the standard size
abbrev pub is_short : (s : ℕ) → How → (limit : ℕ) → Bool
is_short s How.Limit limit = nat_lt limit s
is_short s How.Serial limit = false
is_short s How.Overflow limit = true
is_short s How.Cut limit = true
