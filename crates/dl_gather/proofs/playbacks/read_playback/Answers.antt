use Rattle.std.proofs.Common.{◌≡◌, [], ◌∷◌, Contains, Some, Ok, ap, sym, ◌∙◌, subst}
use Rattle.std.proofs.lemmas.List.Elements.{Contains-append_left, Contains-append_right}
use Rattle.std.proofs.lemmas.Result.{IfErr-weaker}
use Rattle.dl_files.specs.Contents.{Contents}
use Rattle.dl_files.specs.Seen.{Seen}
use Rattle.dl_words.specs.Commands.{playback_view as named}
use Rattle.spec_program.specs.Files.{read_at}
use Rattle.spec_program.specs.Operands.{playback_at, playback_on, playback_reads}
use Rattle.spec_program.specs.Stages.{refusing, ◌>>◌}
use Rattle.spec_program.specs.Tasks.{absent}
use Rattle.spec_program.proofs.Turns.{next_before, next_behind}
use Rattle.dl_gather.specs.Halts.{Halts}
use Rattle.dl_gather.proofs.Names.{may_hold}
use Rattle.dl_gather.proofs.Stopping.{file_refused, file_there, halt_carried, halts_in, unread_halts}
use Rattle.dl_gather.proofs.playbacks.read_playback.Goals as goal

pub returns-in_err-program-clause-halt : goal.returns-in_err-program-clause-halt
returns-in_err-program-clause-halt g c =
    let p = named c.args.playback.now in
    let old = g.F.Files.seen c.args.files.now in
    let new = g.F.Files.seen c.read_file.new.files in
    let halt = c.in_err-program.field-0.0 in
    halt_carried c.from_residual.result halt (Halts (λ m. playback_at m p) (λ m. playback_reads p) old new) c.from_residual.ensures.1
    (unread_halts (p.image ∷ []) (λ m. playback_reads p) (λ m. read_at m p.image) (λ m. playback_at m p) old new halt
    (λ m x is. file_refused (read_at m p.image) _ x is) (λ m x is. Contains-append_left (p.image ∷ []) (p.log ∷ []) x is) (λ m x next. next_before m (p.image ∷ []) (p.log ∷ []) x next) c.in_err-program.ensures.halt)

pub returns-clause-halt : goal.returns-clause-halt
returns-clause-halt g c =
    let p = named c.args.playback.now in
    let old = g.F.Files.seen c.args.files.now in
    let new = g.F.Files.seen c.read_beside.new.files in
    let program = c.in_ok-program.program.items in
    let there : (m : Contents) → old.known ≡ Some m → read_at m p.image ≡ Ok program = c.in_ok-program.ensures.bytes in
    let on : (m : Contents) → old.known ≡ Some m → playback_at m p ≡ playback_on m p c.deref.result.now =
    λ m e. ap (λ o. refusing absent o >> playback_on m p) (there m e) ∙ ap (playback_on m p) (sym c.deref.ensures.value)
    in
    IfErr-weaker c.read_beside.result _ _
    (λ halt halts.
    halts_in (λ m. p.log ∷ []) (λ m. playback_reads p) (λ m. playback_on m p c.deref.result.now) (λ m. playback_at m p) old new halt
    (λ m e r is. on m e ∙ is)
    (λ x is. may_hold old.known (λ _. Contains (p.log ∷ []) x) (λ _. Contains (playback_reads p) x) (λ _. Contains-append_right (p.image ∷ []) (p.log ∷ []) x) is)
    (λ m e x next. next_behind m (p.image ∷ []) (p.log ∷ []) x (file_there m p.image program (there m e), tt) next)
    (subst (λ (s : Seen). Halts (λ m. playback_on m p c.deref.result.now) (λ m. p.log ∷ []) s new halt) c.in_ok-program.ensures.same halts))
    c.read_beside.ensures.halt
