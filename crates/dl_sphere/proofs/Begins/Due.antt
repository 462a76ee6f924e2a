-- A recorder says that an epoch is due exactly if one is due in its sphere.
use Rattle.std.proofs.Common.{◌≡◌, ℕ, ◌+◌, false, length, Option, Some, None, refl, sym, ap, ◌∙◌, subst}
use Rattle.spec_play.specs.Epochs.{Epochs}
use Rattle.spec_play.specs.declared.used.Used.{Used}
use Rattle.spec_sphere.specs.promises.Kept.{is_due_if, has_due}
use Rattle.dl_kernel.specs.declared.past.Past.{Past}
use Rattle.dl_kernel.specs.InOrder.{listed}
use Rattle.spec_sphere.specs.sphere.Spheres.{Sphere}
use Rattle.dl_record.specs.Epochs.{IsBegun, due_in}
use Rattle.dl_sphere.specs.Inside.{sphere_in}
use Rattle.dl_sphere.specs.Pasts.{sphere_at}
use Rattle.dl_sphere.specs.Recorded as seen
use Rattle.dl_sphere.specs.Roles.{HasRecorded, IsKeepingOf, IsSphere, Keeping, Plain, Recording, Replaying, keeping_of, role_in, role_of}
use Rattle.dl_sphere.specs.SizedSpheres.{SizedSphere}
use Rattle.dl_sphere.specs.declared.part.Part.{Part}
use Rattle.dl_sphere.specs.declared.sphere.Sphere.TheInside.{Inside}
use Rattle.dl_sphere.proofs.Standing.Moves.{IsReadyAt, commits_are}

-- after so many commits
pub due_same_if : (n : ℕ) (o : Option Epochs) → is_due_if n o ≡ due_in o n
due_same_if n None = refl
due_same_if n (Some x) = refl

-- if none is due in the sphere, none is due of what is kept for it
pub ready : (past : Past) (u : Used) (x : Keeping) → has_due (sphere_at past (role_of u x)) ≡ false → IsReadyAt (past.first + length (listed past.commits)) x
ready past u Plain h = tt
ready past u (Recording r) h = sym (due_same_if (past.first + length (listed past.commits)) r.epochs) ∙ h
ready past u (Replaying r loads) h = tt

-- and its recorder doesn't say that one is
pub none_due : (a : Inside) (v : SizedSphere) (r : seen.Recording) → a.part ≡ Part.Recorded r → IsSphere a.s a.past (keeping_of a.part) → record { s = a.s; sphere = sphere_in a } ≡ v
    → has_due v.sphere ≡ false → due_in r.in_epochs.epochs (seen.commits_of r.in_epochs) ≡ false
none_due a v r is h same none =
    let u = a.past.state.used in
    let x : Keeping = Recording r.in_epochs in
    let p : Sphere = sphere_at a.past (role_of u x) in
    let stands : HasRecorded a.s p r.in_epochs = subst (λ (part : Part). IsKeepingOf a.s a.past (keeping_of part)) is h.kept in
    let here : has_due p ≡ false = sym (ap (λ (part : Part). has_due (sphere_at a.past (role_in u part))) is) ∙ ap (λ (w : SizedSphere). has_due w.sphere) same ∙ none in
    subst (IsBegun r.in_epochs.epochs) (sym (commits_are a.s p r.in_epochs stands)) (ready a.past u x here)
