-- A fault that a reader was fed stays, whatever follows.
use Rattle.std.proofs.Common.{◌≡◌, ℕ, List, ◌++◌, Option, Some, None, Result, Err, sym, ap, ◌∙◌}
use Rattle.spec_log.specs.declared.fault.Fault.{Fault}
use Rattle.spec_log.specs.Reading.{read_of}
use Rattle.dl_logfmt.specs.Feeding.{Feeding, FedTo, HasFed, fed}
use Rattle.dl_logfmt.proofs.Feeding.Pieces.{held-fed, refused-fed}

same_fault : (a b : Fault) → ◌≡◌ {A = Result (Unit {0}) Fault} (Err a) (Err b) → a ≡ b
same_fault a b e = cc

lasts : (o : Option Fault) (bytes rest : List ℕ) (r : Feeding) (fault : Fault) → FedTo bytes r o → fed (read_of bytes) ≡ Err fault → read_of (bytes ++ rest) ≡ Err fault
lasts (Some refusal) bytes rest r fault h e =
    h.later rest ∙ ap Err (same_fault refusal fault (sym (refused-fed bytes refusal h) ∙ e))
lasts None bytes rest r fault h e = let none = sym (held-fed bytes r h) ∙ e in absurd cc

-- a fault of the bytes that a reader was fed is the fault of any bytes that begin with them
pub faults_last : (bytes rest : List ℕ) (r : Feeding) (fault : Fault) → HasFed bytes r → fed (read_of bytes) ≡ Err fault → read_of (bytes ++ rest) ≡ Err fault
faults_last bytes rest r fault h e = lasts r.refusal bytes rest r fault h e
