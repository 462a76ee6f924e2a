use Rattle.std.proofs.Common.{◌≡◌, ◌∙◌, [], rules, ap, sym, true, inl, inr}
use Rattle.clap.specs.Simple.{is_simple}
use Rattle.clap.specs.Words.{App, app_of, kind_of, fault_of, is_simple_and_free, subcommand_of}
use Rattle.clap.specs.Walk.{texts}
use Rattle.dl_words.specs.Apps.{command_line}
use Rattle.dl_words.proofs.Joining.{all_found, none_found}
use Rattle.dl_words.proofs.matching.find_matches.Goals as goal

pub returns-in-Ok : goal.returns-in-Ok
returns-in-Ok c =
    let words = texts c.args.words.now in
    let is : app_of c.in_ok-command.command ≡ command_line = c.in_ok-command.ensures in
    let no_fault : fault_of (app_of c.in_ok-command.command) words ≡ [] = c.in-Ok.ensures.kinds (ap is_simple_and_free is) in
    (c.in-Ok.ensures.matches (ap is_simple is)).1
    ∙ ap (λ (app : App). subcommand_of app words) is
    ∙ all_found (fault_of command_line words) (subcommand_of command_line words) (ap (λ (app : App). fault_of app words) (sym is) ∙ no_fault)

pub returns : goal.returns
returns c =
    let words = texts c.args.words.now in
    let simple : is_simple_and_free (app_of c.in_ok-command.command) ≡ true = ap is_simple_and_free c.in_ok-command.ensures in
    let faults = ap (λ app. fault_of app words) c.in_ok-command.ensures in
    elim (c.in-Err-2.ensures.kinds simple) [
      | inl memory ↦ search (rules, memory)
      | inr among ↦ sym (none_found (kind_of c.in-Err-2.field-0) (fault_of command_line words) (subcommand_of command_line words) (rw (← faults) among))
    ]
