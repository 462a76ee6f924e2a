use Rattle.std.proofs.Common.{◌≡◌, ap, ◌∙◌}
use Rattle.dl_files.specs.Entries.{place_of}
use Rattle.dl_files.proofs.Places.{named-place, found-place, absent-place}
use Rattle.dl_files.proofs.store.Store.place.Goals as goal

looked_up : (c : goal.After-place_in) → c.place_in.result ≡ place_of c.args.name.now c.args.self.now
looked_up c = c.place_in.ensures ∙ ap (place_of c.args.name.now) (c.deref.ensures.value ∙ c.self.view_is)

pub returns-clause-named : goal.returns-clause-named
returns-clause-named c = named-place c.args.name.now c.args.self.now _ (looked_up c)

pub returns-clause-found : goal.returns-clause-found
returns-clause-found c = found-place c.args.name.now c.args.self.now _ (looked_up c)

pub returns-clause-absent : goal.returns-clause-absent
returns-clause-absent c = absent-place c.args.name.now c.args.self.now _ (looked_up c)
