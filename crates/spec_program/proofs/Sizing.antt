-- The numbers of a plan are over 0.
use Rattle.std.proofs.Common.{◌≡◌, ℕ, ◌<◌, ◌≤◌, ◌&&◌, pos, negsuc, ℤ, Bool, true, false, nat_le, List, Option, Some, None, if◌then◌else◌, Result, Ok, Err, ok_or, refl, ◌∙◌, subst, leb-true, arith, unwrap_or}
use Rattle.std.proofs.lemmas.Option.{none-some, same_Some}
use Rattle.std.specs.List.{list_all}
use Rattle.dl_plan.specs.Entries.{Entries}
use Rattle.dl_plan.specs.Roles.{has_good_epochs, has_good_interval}
use Rattle.dl_plan.specs.Limits.{limited, signature_of}
use Rattle.dl_plan.specs.Optional.{◌>>=◌, ◌>>◌, each_of}
use Rattle.dl_plan.specs.declared.Sizes.{Sizes}
use Rattle.dl_plan.specs.Plans.{plan_of, plan_in, document, entries_in, values_in, values_of, named_well, cut_well, bounded_well, parted_well, has_good_names, has_good_chunk, schedule_of, sphere_asked}
use Rattle.dl_plan.specs.Sizes.{sizes_in, sizes_of, events_in, has_good_spheres}
use Rattle.dl_plan.specs.Values.{PlanValues}

then_some : {A B : Type 0} (o : Option A) (f : A → Option B) (b : B) → (o >>= f) ≡ Some b → (a : A) × (o ≡ Some a) × (f a ≡ Some b)
then_some None f b e = absurd (none-some b e)
then_some (Some a) f b e = (a, refl, e)

then_ok : {A B : Type 0} (o : Result A ℕ) (f : A → Result B ℕ) (b : B) → (o >> f) ≡ Ok b → (a : A) × (o ≡ Ok a) × (f a ≡ Ok b)
then_ok (Err rule) f b e = absurd cc
then_ok (Ok a) f b e = (a, refl, e)

if_some : {A : Type 0} (b : Bool) (o : Option A) (x : A) → (if b then o else None) ≡ Some x → o ≡ Some x
if_some true o x e = e
if_some false o x e = absurd (none-some x e)

some_ok : {A : Type 0} (o : Option A) (rule : ℕ) (a : A) → ok_or o rule ≡ Ok a → o ≡ Some a
some_ok None rule a e = absurd cc
some_ok (Some b) rule a e = cc

-- ---- the numbers of a plan

-- there is a core and a slot, a chunk runs an instruction, and a buffer holds a word
pub record IsSized (p : PlanValues) : Type 0 where
  pub cores : 0 < p.sizes.cores
  pub chunk : 0 < p.sizes.chunk
  pub buffer : 0 < p.sizes.buffer
  pub window : 0 < p.sizes.window

and_first : (a b : Bool) → (a && b) ≡ true → a ≡ true
and_first true b e = refl
and_first false b e = e

taken : (b : Bool) (k n : ℕ) → (if b then Some k else None) ≡ Some n → (b ≡ true) × (k ≡ n)
taken true k n e = (refl, same_Some k n e)
taken false k n e = absurd (none-some n e)

limited_low : (low high : ℕ) (z : ℤ) (n : ℕ) → limited low high z ≡ Some n → low ≤ n
limited_low low high (pos k) n e =
    let t = taken (nat_le low k && nat_le k high) k n e in
    subst (λ (x : ℕ). low ≤ x) t.1 (leb-true low k (and_first (nat_le low k) (nat_le k high) t.0))
limited_low low high (negsuc k) n e = absurd (none-some n e)

record AreLeast (s : Sizes) : Type 0 where
  cores : 1 ≤ s.cores
  chunk : 16 ≤ s.chunk
  buffer : 1 ≤ s.buffer
  window : 1 ≤ s.window

sizes_least : (en : Entries) (s : Sizes) → sizes_in en ≡ Some s → AreLeast s
sizes_least en s e =
    let cores = then_some (limited 1 8 en.top.cores) _ s (if_some (has_good_spheres en.spheres) (sizes_of en.top) s e) in
    let chunk = then_some (limited 16 65536 en.top.chunk) _ s cores.2 in
    let buffer = then_some (limited 1 4096 en.top.buffer) _ s chunk.2 in
    let window = then_some (limited 1 8 en.top.window) _ s buffer.2 in
    let depth = then_some (limited 1 2 (unwrap_or en.top.depth (pos 1))) _ s window.2 in
    let signature = then_some (signature_of en.top.signature) _ s depth.2 in
    let seed = then_some (limited 0 9223372036854775807 (unwrap_or en.top.seed (pos 0))) _ s signature.2 in
    subst AreLeast (same_Some _ s seed.2) (record {
      cores = limited_low 1 8 en.top.cores cores.0 cores.1;
      chunk = limited_low 16 65536 en.top.chunk chunk.0 chunk.1;
      buffer = limited_low 1 4096 en.top.buffer buffer.0 buffer.1;
      window = limited_low 1 8 en.top.window window.0 window.1;
    })

same_ok : {A : Type 0} (a b : A) → ◌≡◌ {A = Result A ℕ} (Ok a) (Ok b) → a ≡ b
same_ok a b e = cc

passed : (b : Bool) (rule : ℕ) (q p : PlanValues) → ◌≡◌ {A = Result PlanValues ℕ} (if b then Ok q else Err rule) (Ok p) → q ≡ p
passed true rule q p e = cc
passed false rule q p e = absurd cc

values_sized : (en : Entries) (p : PlanValues) → values_in en ≡ Ok p → IsSized p
values_sized en p e =
    let sizes = then_ok (ok_or (sizes_in en) 4) _ p e in
    let events = then_ok (ok_or (events_in en.top) 4) _ p sizes.2 in
    let schedule = then_ok (ok_or (schedule_of events.0 en.top.script) 5) _ p events.2 in
    let spheres = then_ok (ok_or (each_of sphere_asked en.spheres) 6) _ p schedule.2 in
    let least = sizes_least en sizes.0 (some_ok (sizes_in en) 4 sizes.0 sizes.1) in
    subst IsSized (same_ok (values_of en.top sizes.0 schedule.0 spheres.0) p spheres.2) (record {
      cores = let l = least.cores in omega (arith, l);
      chunk = let l = least.chunk in omega (arith, l);
      buffer = let l = least.buffer in omega (arith, l);
      window = let l = least.window in omega (arith, l);
    })

-- a plan that is read has numbers over 0
pub plan_sized : (name bytes : List ℕ) (p : PlanValues) → plan_of name bytes ≡ Ok p → IsSized p
unfolding plan_of
plan_sized name bytes p e =
    let entries = then_ok (ok_or (document bytes) 1 >> entries_in) (plan_in name) p e in
    let bounded = then_ok (values_in entries.0 >> named_well name >> cut_well >> bounded_well entries.0.spheres) (parted_well entries.0.spheres) p entries.2 in
    let cut = then_ok (values_in entries.0 >> named_well name >> cut_well) (bounded_well entries.0.spheres) bounded.0 bounded.1 in
    let named = then_ok (values_in entries.0 >> named_well name) cut_well cut.0 cut.1 in
    let values = then_ok (values_in entries.0) (named_well name) named.0 named.1 in
    let same =
    passed (has_good_names name values.0) 7 values.0 named.0 values.2
    ∙ passed (has_good_chunk named.0) 8 named.0 cut.0 named.2
    ∙ passed (list_all has_good_interval entries.0.spheres) 9 cut.0 bounded.0 cut.2
    ∙ passed (list_all has_good_epochs entries.0.spheres) 10 bounded.0 p bounded.2
    in
    subst IsSized same (values_sized entries.0 values.0 values.1)
