use Rattle.std.proofs.Common.{◌≡◌, ◌∙◌, length, ap, rules}
use Rattle.std.proofs.lemmas.Result.{IfOk-weaker}
use Rattle.spec_log.specs.declared.LogParts.{LogParts}
use Rattle.spec_log.specs.Bytes.{log_bytes}
use Rattle.spec_log.specs.Migration.{migrated}
use Rattle.spec_program.specs.Lines.{migrated_line}
use Rattle.spec_program.specs.Outcomes.{logged}
use Rattle.dl_commands.proofs.migrating.migration.Goals as goal

pub returns : goal.returns
returns c =
    let name = c.args.name.now in
    let made = c.in_ok-migrated.migrated in
    let is : made ≡ migrated c.args.log.now = c.in_ok-migrated.ensures in
    let size : c.log_length.result ≡ length (log_bytes made) = search rules in
    let text : c.in_ok-text.text.items ≡ migrated_line (length (log_bytes made)) = c.in_ok-text.ensures ∙ ap migrated_line size in
    IfOk-weaker c.logged.result _ _
    (λ job so. so ∙ ap (logged name (log_bytes made)) text ∙ ap (λ (l : LogParts). logged name (log_bytes l) (migrated_line (length (log_bytes l)))) is)
    c.logged.ensures
