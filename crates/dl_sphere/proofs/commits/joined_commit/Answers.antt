use Rattle.std.proofs.Common.{◌≡◌, ◌++◌, List, map, sym, ap, ◌∙◌}
use Rattle.std.proofs.lemmas.List.{map-append}
use Rattle.dl_entry.specs.declared.Load.{Load}
use Rattle.spec_play.specs.Effects.{entry_of}
use Rattle.spec_sphere.specs.sphere.Commits.{joined}
use Rattle.dl_sphere.proofs.commits.joined_commit.Goals as goal

pub returns : goal.returns
returns g c b earlier size =
    let last = c.args.last.now.chunk.done in
    let first = c.in_ok-add_entries.ensures ∙ ap (λ (xs : List Load). xs ++ map entry_of c.args.earlier.now) c.new-loads.ensures.items in
    let loads : c.from_vec-loads.result ≡ map entry_of (b.loads ++ last.loads) =
    c.from_vec-loads.ensures
    ∙ c.in_ok-add_entries-2.ensures
    ∙ ap (λ (xs : List Load). xs ++ map entry_of c.loads.result.now) first
    ∙ (λ i. map entry_of (sym earlier i) ++ map entry_of (c.loads.ensures i))
    ∙ sym (map-append entry_of b.loads last.loads)
    in
    c.chunk_commit.ensures (joined b last) size loads
