-- What a run comes to: the files that its plan has written, with what is made for each, and the summary.
use Rattle.std.specs.Prelude.{ℕ, Bool, false, List, Ok}
use Rattle.dl_plan.specs.declared.Product.{Product}
use Rattle.dl_plan.specs.Values.{PlanValues}
use Rattle.spec_protocol.specs.declared.event.Event.{Event}
use Rattle.spec_protocol.specs.machine.Machine.{Setup}
use Rattle.spec_protocol.specs.promises.Sound.{image_at}
use Rattle.spec_run.specs.Runs.{diverges}
use Rattle.spec_run.specs.Tails.{is_recorded_whole}
use Rattle.spec_run.specs.Texts.{log_text, account_text, console_text, report_text, summary_text}
use Rattle.spec_program.specs.Outcomes.{Outcome}
use Rattle.spec_program.specs.Writes.{Write, outputs_filled}

-- what a run makes for a file
abbrev pub product_for : Setup → (schedule : List Event) → Product → List ℕ
product_for s es (Product.Log sphere) = log_text s es sphere
product_for s es (Product.Account sphere) = account_text s es sphere
product_for s es Product.Console = console_text s es
product_for s es Product.Report = report_text s es

-- logs are written in pieces, except for tails
abbrev pub is_log : Setup → Product → Bool
is_log s (Product.Log sphere) = is_recorded_whole (image_at s sphere).role
is_log s (Product.Account sphere) = false
is_log s Product.Console = false
is_log s Product.Report = false

abbrev pub writes_for : PlanValues → Setup → (schedule : List Event) → List Write
writes_for p s es = outputs_filled (product_for s es) (is_log s) p

-- a run writes the plan's files, and says the summary
abbrev pub ran : PlanValues → Setup → (schedule : List Event) → Outcome
ran p s es = Ok (record { diverged = diverges s.spheres; writes = writes_for p s es; text = summary_text s es })
