-- Spheres that are read one after another are read as all are.
use Rattle.std.proofs.Common.{◌≡◌, ℕ, ◌+◌, ◌<◌, List, [], ◌∷◌, ◌++◌, length, map, drop, get_or, flat_map, Option, Some, Ok, sym, ◌∙◌, ap, subst}
use Rattle.std.proofs.lemmas.List.{drop_more, map-append}
use Rattle.dl_files.specs.Contents.{Contents}
use Rattle.dl_plan.specs.declared.Sphere.{Sphere}
use Rattle.dl_plan.specs.Values.{sphere_view}
use Rattle.spec_program.specs.Ends.{IsReadNext}
use Rattle.spec_program.specs.Files.{SphereRead, sphere_read, spheres_read}
use Rattle.spec_program.specs.Stages.{◌>>◌}
use Rattle.spec_program.proofs.Turns.{next_before, next_behind}
use Rattle.dl_gather.specs.declared.inputs.SphereInputs.{SphereInputs}
use Rattle.dl_gather.specs.Inputs.{sphere_view as sphere_inputs}
use Rattle.dl_gather.specs.Reads.{read_for_sphere}
use Rattle.dl_gather.proofs.Stages.{after, one_more, none_made}
use Rattle.dl_gather.proofs.Names.{named_at}
use Rattle.dl_gather.proofs.Stopping.{IsPart, sphere_there}

-- those that are read come first in what is read of all
abbrev Read : Contents → (spheres : List Sphere) → (i : ℕ) → (done : List SphereInputs) → Type 0
Read m ss i done = spheres_read m (map sphere_view ss) ≡ after (map sphere_inputs done) (spheres_read m (map sphere_view (drop i ss)))

-- the turns of the names to come are turns
abbrev Turns : Contents → (spheres : List Sphere) → (i : ℕ) → Type 0
Turns m ss i = (name : List ℕ) → IsReadNext (flat_map read_for_sphere (map sphere_view (drop i ss))) m name → IsReadNext (flat_map read_for_sphere (map sphere_view ss)) m name

at_next : (m : Contents) (ss : List Sphere) (i : ℕ) (d : Sphere) (done : List SphereInputs) → i < length ss → Read m ss i done
    → spheres_read m (map sphere_view ss) ≡ after (map sphere_inputs done) (spheres_read m (sphere_view (get_or ss i d) ∷ map sphere_view (drop (i + 1) ss)))
at_next m ss i d done h read = read ∙ ap (λ (xs : List Sphere). after (map sphere_inputs done) (spheres_read m (map sphere_view xs))) (drop_more ss i d h)

-- once sphere i is read as well, the first i + 1 come first in what is read of all
pub spheres_more : (m : Contents) (ss : List Sphere) (i : ℕ) (d : Sphere) (done : List SphereInputs) (x : SphereInputs) → i < length ss → Read m ss i done
    → sphere_read m (sphere_view (get_or ss i d)) ≡ Ok (sphere_inputs x) → Read m ss (i + 1) (done ++ x ∷ [])
spheres_more m ss i d done x h read made =
    one_more (spheres_read m (map sphere_view ss)) (map sphere_inputs done) (sphere_inputs x) (sphere_read m (sphere_view (get_or ss i d))) (spheres_read m (map sphere_view (drop (i + 1) ss)))
    (at_next m ss i d done h read) made
    ∙ ap (λ (xs : List SphereRead). after xs (spheres_read m (map sphere_view (drop (i + 1) ss)))) (sym (map-append sphere_inputs done (x ∷ [])))

next_turns : (m : Contents) (ss : List Sphere) (i : ℕ) (d : Sphere) → i < length ss → Turns m ss i
    → (name : List ℕ) → IsReadNext (read_for_sphere (sphere_view (get_or ss i d)) ++ flat_map read_for_sphere (map sphere_view (drop (i + 1) ss))) m name → IsReadNext (flat_map read_for_sphere (map sphere_view ss)) m name
next_turns m ss i d h turns name next = turns name (subst (λ (xs : List Sphere). IsReadNext (flat_map read_for_sphere (map sphere_view xs)) m name) (sym (drop_more ss i d h)) next)

-- once sphere i is read as well, the turns of the names after it are turns of all
pub turns_more : (m : Contents) (ss : List Sphere) (i : ℕ) (d : Sphere) (x : SphereInputs) → i < length ss → Turns m ss i → sphere_read m (sphere_view (get_or ss i d)) ≡ Ok (sphere_inputs x) → Turns m ss (i + 1)
turns_more m ss i d x h turns made name next =
    next_turns m ss i d h turns name (next_behind m (read_for_sphere (sphere_view (get_or ss i d))) (flat_map read_for_sphere (map sphere_view (drop (i + 1) ss))) name (sphere_there m (sphere_view (get_or ss i d)) (sphere_inputs x) made) next)

-- a sphere is a part of all, once those before it are read
pub sphere_part : (known : Option Contents) (ss : List Sphere) (i : ℕ) (d : Sphere) (done : List SphereInputs) → i < length ss
    → ((m : Contents) → known ≡ Some m → Read m ss i done) → ((m : Contents) → known ≡ Some m → Turns m ss i)
    → IsPart known (read_for_sphere (sphere_view (get_or ss i d))) (flat_map read_for_sphere (map sphere_view ss)) (λ m. sphere_read m (sphere_view (get_or ss i d))) (λ m. spheres_read m (map sphere_view ss))
sphere_part known ss i d done h read turns = record {
  absent =
      λ m e name missing.
      none_made (spheres_read m (map sphere_view ss)) (map sphere_inputs done) name (sphere_read m (sphere_view (get_or ss i d))) (λ s. spheres_read m (map sphere_view (drop (i + 1) ss)) >> λ rest. Ok (s ∷ rest))
      (at_next m ss i d done h (read m e)) missing;
  named = λ name is. named_at read_for_sphere sphere_view ss i d name h is;
  next = λ m e name next. next_turns m ss i d h (turns m e) name (next_before m (read_for_sphere (sphere_view (get_or ss i d))) (flat_map read_for_sphere (map sphere_view (drop (i + 1) ss))) name next);
}
