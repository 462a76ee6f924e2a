use Rattle.std.proofs.Common.{◌≡◌, ℕ, List, [], ◌∷◌, Some, Ok, ◌∙◌, subst}
use Rattle.std.proofs.lemmas.List.Elements.{Contains-append_left, Contains-append_right}
use Rattle.dl_files.specs.Contents.{Contents}
use Rattle.dl_files.specs.Seen.{Seen}
use Rattle.dl_plan.specs.Values.{sphere_view}
use Rattle.spec_program.specs.Files.{read_at, role_read, sphere_read}
use Rattle.spec_program.proofs.Turns.{next_before, next_behind}
use Rattle.dl_gather.specs.Halts.{Unread}
use Rattle.dl_gather.specs.Reads.{read_for_role, read_for_sphere}
use Rattle.dl_gather.proofs.Stopping.{err_then, file_there, halt_carried, ok_then, unread_in}
use Rattle.dl_gather.proofs.gathering.read_sphere.Goals as goal

pub returns-in_err-image-clause-halt : goal.returns-in_err-image-clause-halt
returns-in_err-image-clause-halt g c =
    let s = sphere_view c.args.sphere.now in
    let old = g.F.Files.seen c.args.files.now in
    let new = g.F.Files.seen c.read_file.new.files in
    let halt = c.in_err-image.field-0.0 in
    halt_carried c.from_residual.result halt (Unread (read_for_sphere s) (λ m. sphere_read m s) old new) c.from_residual.ensures.1
    (unread_in old new (s.image ∷ []) (read_for_sphere s) (λ m. read_at m s.image) (λ m. sphere_read m s) halt
    (record { absent = λ m e name x. err_then _ _ name x; named = λ name is. Contains-append_left (s.image ∷ []) (read_for_role s.role) name is; next = λ m e name n. next_before m (s.image ∷ []) (read_for_role s.role) name n })
    (subst (λ (n : List ℕ). Unread (n ∷ []) (λ m. read_at m n) old new halt) c.as_str.ensures.value c.in_err-image.ensures.halt))

pub returns-in_err-role-clause-halt : goal.returns-in_err-role-clause-halt
returns-in_err-role-clause-halt g c =
    let s = sphere_view c.args.sphere.now in
    let old = g.F.Files.seen c.args.files.now in
    let new = g.F.Files.seen c.read_role.new.files in
    let halt = c.in_err-role.field-0.0 in
    let bytes = c.in_ok-image.image.items in
    let image : (m : Contents) → old.known ≡ Some m → read_at m s.image ≡ Ok bytes =
    λ m e. subst (λ (n : List ℕ). read_at m n ≡ Ok bytes) c.as_str.ensures.value (c.in_ok-image.ensures.bytes m e)
    in
    halt_carried c.from_residual-in_err-role.result halt (Unread (read_for_sphere s) (λ m. sphere_read m s) old new) c.from_residual-in_err-role.ensures.1
    (unread_in old new (read_for_role s.role) (read_for_sphere s) (λ m. role_read m s.role) (λ m. sphere_read m s) halt
    (record {
      absent = λ m e name x. ok_then (read_at m s.image) _ bytes (image m e) ∙ err_then (role_read m s.role) _ name x;
      named = λ name is. Contains-append_right (s.image ∷ []) (read_for_role s.role) name is;
      next = λ m e name n. next_behind m (s.image ∷ []) (read_for_role s.role) name (file_there m s.image bytes (image m e), tt) n;
    })
    (subst (λ (x : Seen). Unread (read_for_role s.role) (λ m. role_read m s.role) x new halt) c.in_ok-image.ensures.same c.in_err-role.ensures.halt))
