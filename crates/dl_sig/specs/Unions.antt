-- The union of two signatures of the same size, bank by bank.
use Rattle.std.specs.FinSet as set
use Rattle.spec_engine.specs.Signatures.{Signature}

abbrev pub union : Signature → Signature → Signature
union g h = record g { low = set.union g.low h.low; high = set.union g.high h.high }
