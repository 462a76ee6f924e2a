-- The same segments in another order overlap alike, and lie in the memory alike.
use Rattle.std.proofs.Common.{◌≡◌, true, List, ap, ◌∙◌, sym, subst}
use Rattle.std.specs.List.{list_all}
use Rattle.std.proofs.lemmas.List.Sums.{AllPass-from_list_all, list_all-from_AllPass}
use Rattle.std.proofs.lemmas.List.Sorted.{All-permutation}
use Rattle.dl_elf.specs.declared.segment.Segment.{Segment}
use Rattle.dl_elf.specs.Rules.{is_in_memory, overlap}
use Rattle.dl_elf.proofs.Sharing.{overlap-permuted}
use Rattle.dl_elf.proofs.overlapping.overlap.Goals as goal

pub neighbours_overlap-requires-clause-inside : goal.neighbours_overlap-requires-clause-inside
neighbours_overlap-requires-clause-inside c =
    let P : List Segment → Type 0 = λ xs. list_all (is_in_memory c.args.size) xs ≡ true in
    subst P (sym c.deref.ensures.value)
    (list_all-from_AllPass (is_in_memory c.args.size) _
    (All-permutation (λ x. is_in_memory c.args.size x ≡ true) _ _ c.in_ok-by_address.ensures.moved (AllPass-from_list_all (is_in_memory c.args.size) _ c.requires)))

pub returns : goal.returns
returns c =
    c.neighbours_overlap.ensures ∙ ap (overlap c.args.size) c.deref.ensures.value
    ∙ overlap-permuted c.args.size _ _ c.in_ok-by_address.ensures.moved
