use Rattle.std.proofs.Common.{◌≡◌, Some, get_or, sym, ap, subst, ◌∙◌}
use Rattle.std.specs.String.{string_bytes}
use Rattle.std.specs.FinMap.{insert}
use Rattle.dl_files.specs.Entries.{Entry, contents_of, place_of}
use Rattle.dl_files.proofs.Places.{IsWrite, contents_of-IsWrite, NamesStay-IsWrite}
use Rattle.dl_files.proofs.store.Store.put.Goals as goal

is_write : (c : goal.After-drop-file-inside) → IsWrite c.args.name.now c.args.self.now c.self-2.inside.files.items c.in_ok-place.place (string_bytes c.file.inside.name, c.file.inside.bytes.items)
is_write c = record {
  place = subst (λ es. place_of c.args.name.now es ≡ Some c.in_ok-place.place) (sym c.self-2.view_is) c.in_ok-place.ensures.ok;
  added = c.self-2.view_is ∙ c.in_ok-place.ensures.added;
  read = subst (λ (e : Entry). e ≡ get_or c.self-2.inside.files.items c.in_ok-place.place e) (sym c.file.view_is) c.index_mut-file.ensures.value;
}

pub returns-clause-ok : goal.returns-clause-ok
returns-clause-ok c =
    contents_of-IsWrite c.args.name.now _ c.args.self.now _ _ _ (is_write c) ∙ ap (insert (contents_of c.args.self.now) c.args.name.now) c.in_ok-bytes.ensures.items

pub returns-clause-names : goal.returns-clause-names
returns-clause-names c = NamesStay-IsWrite c.args.name.now _ c.args.self.now _ _ _ (is_write c)
