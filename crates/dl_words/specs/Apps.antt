-- The command line as `clap` is told it: a program of thirteen subcommands with their operands, each of which has to be there. It
-- has no options, and neither help nor a version.
use Rattle.std.specs.Prelude.{true, List, [], ◌∷◌, codes, map}
use Rattle.std.specs.Borrow.{Bor}
use Rattle.clap.specs.Words.{Text, Rule, App, new_rule, new_app, with_rule, with_subcommand}

abbrev pub operand : (name : Text) → Rule
operand name = record (new_rule name) { required = true }

abbrev pub with_operands : App → (names : List Text) → App
with_operands app [] = app
with_operands app (name ∷ names) = with_operands (with_rule app (operand name)) names

abbrev pub subcommand : (name : Text) → (operands : List Text) → App
subcommand name operands = with_operands (new_app name) operands

abbrev pub run_app : App
run_app = subcommand (codes "run") (codes "PLAN" ∷ [])

abbrev pub inspect_app : App
inspect_app = subcommand (codes "inspect") (codes "LOG" ∷ [])

abbrev pub walk_app : App
walk_app = subcommand (codes "walk") (codes "IMAGE" ∷ codes "MEMORY" ∷ codes "LOG" ∷ [])

abbrev pub interval_app : App
interval_app =
    subcommand (codes "interval")
    (codes "IMAGE" ∷ codes "MEMORY" ∷ codes "LOG" ∷ codes "EVERY" ∷ codes "I" ∷ codes "J" ∷ [])

abbrev pub tail_app : App
tail_app = subcommand (codes "tail") (codes "NAME" ∷ [])

abbrev pub watch_app : App
watch_app = subcommand (codes "watch") (codes "IMAGE" ∷ codes "MEMORY" ∷ codes "LOG" ∷ codes "ADDR" ∷ [])

abbrev pub who_app : App
who_app =
    subcommand (codes "who") (codes "IMAGE" ∷ codes "MEMORY" ∷ codes "LOG" ∷ codes "ADDR" ∷ codes "I" ∷ [])

abbrev pub when_app : App
when_app =
    subcommand (codes "when") (codes "IMAGE" ∷ codes "MEMORY" ∷ codes "LOG" ∷ codes "ADDR" ∷ codes "VALUE" ∷ [])

abbrev pub make_app : App
make_app = subcommand (codes "make") (codes "NUMBER" ∷ codes "NAME" ∷ [])

abbrev pub drill_app : App
drill_app = subcommand (codes "drill") (codes "NUMBER" ∷ [])

abbrev pub asm_app : App
asm_app = subcommand (codes "asm") (codes "SOURCE" ∷ codes "NAME" ∷ [])

abbrev pub migrate_app : App
migrate_app = subcommand (codes "migrate") (codes "LOG" ∷ codes "NAME" ∷ [])

abbrev pub strata_app : App
strata_app =
    subcommand (codes "strata") (codes "IMAGE" ∷ codes "MEMORY" ∷ codes "LOG" ∷ codes "NAME" ∷ [])

-- words are those after the program's name, and one of them names a subcommand
abbrev pub bare : App → App
bare app = record app {
  top = record app.top {
    no_binary_name = true;
    subcommand_required = true;
    disable_help_flag = true;
    disable_help_subcommand = true;
    disable_version_flag = true;
  };
}

abbrev pub with_subcommands : App → List App → App
with_subcommands app [] = app
with_subcommands app (sub ∷ subs) = with_subcommands (with_subcommand app sub.top) subs

abbrev pub command_line : App
command_line =
    with_subcommands (bare (new_app (codes "delorean")))
    (run_app
    ∷ inspect_app
    ∷ walk_app
    ∷ interval_app
    ∷ tail_app
    ∷ watch_app
    ∷ who_app
    ∷ when_app
    ∷ make_app
    ∷ drill_app
    ∷ asm_app
    ∷ migrate_app
    ∷ strata_app
    ∷ [])

-- ---- subcommands of the code

-- the bytes of some texts
abbrev pub texts : List (Bor Text) → List Text
texts names = map (λ name. name.now) names

-- that of a name and of the names of its operands
abbrev pub app_by : Bor Text × Bor (List (Bor Text)) → App
app_by s = subcommand s.0.now (texts s.1.now)
