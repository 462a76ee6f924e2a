-- A schedule that is drawn from a seed has as many events as were asked for.
use Rattle.std.proofs.Common.{◌≡◌, ℕ, zero, suc, length, refl, ap}
use Rattle.rand_pcg.specs.Lcg.{Lcg}
use Rattle.rand_pcg.specs.Pcg.{pcg32}
use Rattle.dl_event.specs.Seeded.{schedule}

-- as many events are drawn as were asked for
pub schedule_length : (n : ℕ) (g : Lcg) → length (schedule n g) ≡ n
unfolding schedule
schedule_length zero g = refl
schedule_length (suc n) g = ap suc (schedule_length n (pcg32 g).1)
