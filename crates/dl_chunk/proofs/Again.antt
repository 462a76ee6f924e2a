-- To mark a line again changes nothing.
use Rattle.std.proofs.Common.{◌≡◌, ℕ, Bool, true, false, ◌||◌, sym, ◌∙◌}
use Rattle.std.specs.Cmp.{nat_cmp_total}
use Rattle.std.specs.FinSet as set
use Rattle.std.specs.FinSet.{contains-insert, same_set, nat_cmp-IsAntisymmetric}
use Rattle.std.specs.Ordering.{nat_cmp}
use Rattle.spec_engine.specs.Signatures.{Signature, insert, low_place, high_place}

once_more : (e before once twice : Bool) → once ≡ (e || before) → twice ≡ (e || once) → twice ≡ once
once_more true before once twice first again = again ∙ sym first
once_more false before once twice first again = again

inserted_again : (s : set.FinSet nat_cmp) (k : ℕ) → set.insert (set.insert s k) k ≡ set.insert s k
inserted_again s k =
    same_set nat_cmp_total nat_cmp-IsAntisymmetric _ _
    (λ p. once_more _ _ _ _ (contains-insert nat_cmp_total s k p) (contains-insert nat_cmp_total (set.insert s k) k p))

-- a line that was just marked is marked
pub marked_again : (l : ℕ) (g : Signature) → insert l (insert l g) ≡ insert l g
marked_again l g =
    λ i. record g { low = inserted_again g.low (low_place g.bits l) i; high = inserted_again g.high (high_place g.bits l) i }
