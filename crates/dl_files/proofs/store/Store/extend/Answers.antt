use Rattle.std.proofs.Common.{◌≡◌, Some, get_or, sym, subst, ◌∙◌}
use Rattle.std.specs.String.{string_bytes}
use Rattle.dl_files.specs.Entries.{Entry, place_of}
use Rattle.dl_files.proofs.Places.{IsWrite, with_name-there, contents_of-extended, NamesStay-IsWrite}
use Rattle.dl_files.proofs.store.Store.extend.Goals as goal

is_write : (c : goal.After-self-1) → IsWrite c.args.name.now c.args.self.now c.self.inside.files.items c.args.place (string_bytes c.file.inside.name, c.file.inside.bytes.items)
is_write c = record {
  place = subst (λ es. place_of c.args.name.now es ≡ Some c.args.place) (sym c.self.view_is) c.requires.placed;
  added = c.self.view_is ∙ with_name-there c.args.name.now c.args.self.now c.args.place c.requires.placed;
  read = subst (λ (e : Entry). e ≡ get_or c.self.inside.files.items c.args.place e) (sym c.file.view_is) c.index_mut-file.ensures.value;
}

pub returns-clause-ok : goal.returns-clause-ok
returns-clause-ok c =
    contents_of-extended c.args.name.now c.args.bytes.now _ c.args.self.now _ _ _ c.extend_from_slice.result (is_write c) c.self.view_is c.extend_from_slice.ensures.items

pub returns-clause-names : goal.returns-clause-names
returns-clause-names c = NamesStay-IsWrite c.args.name.now _ c.args.self.now _ _ _ (is_write c)
