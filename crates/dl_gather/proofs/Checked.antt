-- What the check of strata answers is the answer by which their role is made.
use Rattle.std.proofs.Common.{◌≡◌, ℕ, List}
use Rattle.spec_strata.specs.Checking.{StrataAnswer, IsAnswer, answer_of}
use Rattle.spec_strata.specs.declared.strata.StrataParts.{StrataParts}
use Rattle.spec_strata.proofs.Images.Answers.{one_answer}
use Rattle.spec_strata.proofs.Images.Found.{answers_are_found}

-- if an answer is right for strata on an image, the definitions give the same one
pub answered : (v : StrataParts) (memory : List ℕ) (entry : ℕ) (answer : StrataAnswer) → IsAnswer v memory entry answer → answer_of v memory entry ≡ answer
answered v memory entry answer is = one_answer v memory entry (answer_of v memory entry) answer (answers_are_found v memory entry) is
