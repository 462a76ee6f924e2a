use Rattle.std.proofs.Common.{◌∙◌, sym, ap}
use Rattle.std.proofs.lemmas.Map.Text.{btree_map_updates_str}
use Rattle.dl_asm.specs.Labels.{entry_in, entry_after}
use Rattle.dl_asm.specs.Sources.{is_label}
use Rattle.dl_asm.proofs.Words.Labels.{kept, added}
use Rattle.dl_asm.proofs.labels.Labels.note.Goals as goal

pub returns-then-contains_key : goal.returns-then-contains_key
unfolding entry_in
returns-then-contains_key c = λ name.
    let stays = kept (entry_in c.args.self.now) c.in-Some.name.now name c.args.place (sym c.contains_key.ensures ∙ c.if-contains_key.true) in
    stays ∙ ap (λ label. entry_after (entry_in c.args.self.now name) (is_label name label) c.args.place) c.in-Some.ensures

pub returns : goal.returns
unfolding entry_in
returns c = λ name.
    let new = btree_map_updates_str c.in-Some.name.now c.args.self.now.places c.insert.new.self _ c.in_ok-insert.ensures.updates name in
    let gets = added (entry_in c.args.self.now) c.in-Some.name.now name c.args.place (sym c.contains_key.ensures ∙ c.if-contains_key.false) in
    new ∙ gets ∙ ap (λ label. entry_after (entry_in c.args.self.now name) (is_label name label) c.args.place) c.in-Some.ensures
