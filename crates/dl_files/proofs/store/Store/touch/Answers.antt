use Rattle.std.proofs.Common.{◌≡◌, ℕ, List, [], ◌∷◌, ◌++◌, length, Result, Ok, Err, IfOk, OnOk, Some, None, refl, sym, ap, ◌∙◌}
use Rattle.dl_files.specs.Contents.{SameBut}
use Rattle.dl_files.specs.Entries.{Entry, place_of, contents_of}
use Rattle.dl_files.proofs.Places.{place_of-push, SameBut-push}
use Rattle.dl_files.proofs.store.Store.touch.Goals as goal

-- a name that was added is at the place that was answered
place_added : {E : Type 0} (name : List ℕ) (old new : List Entry) (r : Result ℕ E) → place_of name old ≡ None
    → IfOk r (λ place. place ≡ length old) → OnOk r (new ≡ old ++ (name, []) ∷ []) → IfOk r (λ place. place_of name new ≡ Some place)
place_added name old new (Ok place) none at added = ap (place_of name) added ∙ place_of-push name (name, []) old refl none ∙ ap Some (sym at)
place_added name old new (Err e) none at added = tt

-- and the other names stay
others_added : {E : Type 0} (name : List ℕ) (old new : List Entry) (r : Result ℕ E) → OnOk r (new ≡ old ++ (name, []) ∷ [])
    → OnOk r (SameBut name (Some (contents_of old)) (Some (contents_of new)))
others_added name old new (Ok place) added = SameBut-push name [] old new added
others_added name old new (Err e) added = tt

pub returns-in-None-clause-ok : goal.returns-in-None-clause-ok
returns-in-None-clause-ok c =
    place_added c.args.name.now c.args.self.now c.add.new.self c.add.result (sym c.in-None.ensures.place) c.add.ensures.ok c.add.ensures.added

pub returns-in-None-clause-others : goal.returns-in-None-clause-others
returns-in-None-clause-others c = others_added c.args.name.now c.args.self.now c.add.new.self c.add.result c.add.ensures.added
