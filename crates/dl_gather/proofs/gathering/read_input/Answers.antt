use Rattle.std.proofs.Common.{ℕ, List, [], ◌∷◌, option_to_list, sym, subst}
use Rattle.std.specs.Prelude.{IfErr, option_map, string_bytes}
use Rattle.spec_program.specs.Files.{input_read, read_at}
use Rattle.dl_gather.specs.Halts.{Unread}
use Rattle.dl_gather.proofs.gathering.read_input.Goals as goal

pub returns-in-Some-clause-halt : goal.returns-in-Some-clause-halt
returns-in-Some-clause-halt g c =
    let old = g.F.Files.seen c.args.files.now in
    let new = g.F.Files.seen c.read_file.new.files in
    subst (λ o. IfErr c.read_file.result (Unread (option_to_list (option_map string_bytes o)) (λ m. input_read m (option_map string_bytes o)) old new)) (sym c.in-Some.is)
    (subst (λ (n : List ℕ). IfErr c.read_file.result (Unread (n ∷ []) (λ m. read_at m n) old new)) c.as_str.ensures.value c.read_file.ensures.halt)
