use Rattle.std.proofs.Common.{◌∙◌, ◌++◌, Some, map, ap, ap₂}
use Rattle.spec_isa.specs.Denoted.{denoted}
use Rattle.dl_make.specs.Generated.{spawning, adding}
use Rattle.dl_make.proofs.image.words.Goals as goal

pub returns-clause-denoted : goal.returns-clause-denoted
returns-clause-denoted c =
    let first =
    c.in_ok-append_words.ensures.denoted ∙ ap₂ (λ words part. map denoted words ++ map Some part) c.new-words.ensures.items (c.spawning.ensures ∙ ap spawning c.spawned.ensures.value) in
    let second =
    c.in_ok-append_words-2.ensures.denoted ∙ ap₂ (λ front part. front ++ map Some part) first (c.adding.ensures ∙ ap₂ adding c.power.ensures.value c.rounds.ensures.value) in
    c.in_ok-append_words-3.ensures.denoted ∙ ap₂ (λ front part. front ++ map Some part) second c.leaving.ensures
