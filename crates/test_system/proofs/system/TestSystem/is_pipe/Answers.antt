use Rattle.std.proofs.Common.{◌∙◌, ℕ, List, Bool, sym, ap, map, bytes_eq, string_bytes, rules, tests}
use Rattle.std.specs.List.{list_any}
use Rattle.std.proofs.lemmas.Iterator.{YieldsList-from_slice}
use Rattle.std.proofs.lemmas.Iterator.Search.{any_from_yields_List}
use Rattle.dl_files.specs.Told.{Told}
use Rattle.test_system.proofs.Pipes.{list_any-map, is_named}
use Rattle.test_system.proofs.system.TestSystem.is_pipe.Goals as goal

pub returns : goal.returns
returns c =
    let is : List ℕ → Bool = λ n. bytes_eq n c.args.name.now in
    is_named c.args.self.now.pipes c.args.name.now c.any.result (
    any_from_yields_List (λ n. is (string_bytes n)) _ _ _ c.any.ensures.ran (YieldsList-from_slice c.deref.result.now cc) (λ x b q k. search (rules, tests))
    ∙ sym (list_any-map is string_bytes c.deref.result.now)
    ∙ ap (λ ps. list_any is (map string_bytes ps)) c.deref.ensures.value
    ∙ ap (λ (t : Told). list_any is t.pipes) c.self.view_is
    )
