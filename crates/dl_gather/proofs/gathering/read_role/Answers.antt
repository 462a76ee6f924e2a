use Rattle.std.proofs.Common.{ℕ, List, [], ◌∷◌, sym, subst}
use Rattle.std.specs.Prelude.{string_bytes}
use Rattle.dl_plan.specs.declared.Role.{Role}
use Rattle.dl_plan.specs.Values.{role_view}
use Rattle.spec_program.specs.Files.{log_at, read_at, role_read, strata_at}
use Rattle.dl_gather.specs.Halts.{Unread}
use Rattle.dl_gather.specs.Reads.{read_for_role}
use Rattle.dl_gather.proofs.Stopping.{err_then, halt_carried, unread_in}
use Rattle.dl_gather.proofs.gathering.read_role.Goals as goal

pub returns-in_err-log-in-Replay-clause-halt : goal.returns-in_err-log-in-Replay-clause-halt
returns-in_err-log-in-Replay-clause-halt g c =
    let old = g.F.Files.seen c.args.files.now in
    let new = g.F.Files.seen c.read_log.new.files in
    let halt = c.in_err-log-in-Replay.field-0.0 in
    let log = string_bytes c.in-Replay.log in
    let role = role_view (Role.Replay c.in-Replay.log c.in-Replay.from c.in-Replay.to) in
    let whole : Role → Type 0 = λ r. Unread (read_for_role (role_view r)) (λ m. role_read m (role_view r)) old new halt in
    halt_carried c.from_residual.result halt (Unread (read_for_role (role_view c.args.role.now)) (λ m. role_read m (role_view c.args.role.now)) old new) c.from_residual.ensures.1
    (subst whole (sym c.in-Replay.is)
    (unread_in old new (log ∷ []) (read_for_role role) (λ m. log_at m log) (λ m. role_read m role) halt
    (record { absent = λ m e name x. err_then (log_at m log) _ name x; named = λ name is. is; next = λ m e name n. n })
    (subst (λ (n : List ℕ). Unread (n ∷ []) (λ m. log_at m n) old new halt) c.as_str.ensures.value c.in_err-log-in-Replay.ensures.halt)))

pub returns-in_err-strata-in-InStrata-clause-halt : goal.returns-in_err-strata-in-InStrata-clause-halt
returns-in_err-strata-in-InStrata-clause-halt g c =
    let old = g.F.Files.seen c.args.files.now in
    let new = g.F.Files.seen c.read_file.new.files in
    let halt = c.in_err-strata-in-InStrata.field-0.0 in
    let name = string_bytes c.in-InStrata.strata in
    let role = role_view (Role.InStrata c.in-InStrata.strata) in
    let whole : Role → Type 0 = λ r. Unread (read_for_role (role_view r)) (λ m. role_read m (role_view r)) old new halt in
    halt_carried c.from_residual-in_err-strata-in-InStrata.result halt (Unread (read_for_role (role_view c.args.role.now)) (λ m. role_read m (role_view c.args.role.now)) old new) c.from_residual-in_err-strata-in-InStrata.ensures.1
    (subst whole (sym c.in-InStrata.is)
    (unread_in old new (name ∷ []) (read_for_role role) (λ m. read_at m name) (λ m. role_read m role) halt
    (record { absent = λ m e x is. err_then (strata_at m name) _ x (err_then (read_at m name) _ x is); named = λ x is. is; next = λ m e x n. n })
    (subst (λ (n : List ℕ). Unread (n ∷ []) (λ m. read_at m n) old new halt) c.as_str-in-InStrata.ensures.value c.in_err-strata-in-InStrata.ensures.halt)))
