-- A command to which subcommands are added one after another is told to `clap` with all of them.
use Rattle.std.proofs.Common.{◌≡◌, ◌∙◌, ◌||◌, Bool, true, false, refl, ap, ap₂, List, [], ◌∷◌, Option, None}
use Rattle.clap.specs.Words.{AddsSubcommand, App, IsAmong, Kinds, Row, Text, app_of, with_subcommand}
use Rattle.clap.specs.declared.Command.{Command}
use Rattle.clap.specs.declared.Command.TheViews.{out-Command as fields_of}
use Rattle.clap.specs.declared.error.ErrorKind.{ErrorKind}
use Rattle.dl_words.specs.Commands.{matched}

-- what shows a command with subcommands shows it with one more, once that is added
pub joined : {old sub new : Command} {a b : App} → AddsSubcommand old sub new → (fields_of sub).has_globals ≡ false → app_of old ≡ a → app_of sub ≡ b → app_of new ≡ with_subcommand a b.top
joined adds local old_is sub_is = adds.shape local ∙ ap₂ with_subcommand old_is (ap (λ (a : App). a.top) sub_is)

-- a command that adds no global option leaves whether there are any
pub still : (globals more : Bool) → more ≡ false → (globals || more) ≡ globals
still true more none = refl
still false more none = none

-- where there may be a fault, nothing is found
pub none_found : (kind : ErrorKind) (kinds : Kinds) (found : Option (Text × List Row)) → IsAmong kind kinds → matched kinds found ≡ None
none_found kind [] found among = absurd among
none_found kind (k ∷ ks) found among = refl

-- where there is no fault, what is found is taken
pub all_found : (kinds : Kinds) (found : Option (Text × List Row)) → kinds ≡ [] → found ≡ matched kinds found
all_found [] found none = refl
all_found (k ∷ ks) found none = cc
