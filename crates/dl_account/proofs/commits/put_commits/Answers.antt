use Rattle.std.proofs.Common.{◌≡◌, ℕ, ◌+◌, ◌<◌, List, ◌++◌, length, take, get_or, flat_map, Vec, Global, sym, ap, ◌∙◌, arith, length-append}
use Rattle.std.proofs.lemmas.List.{append_assoc, flat_map_more, take_more}
use Rattle.dl_entry.specs.declared.commit.Commit.{Commit}
use Rattle.dl_account.specs.Commits.{commit_lines}
use Rattle.dl_account.specs.Lines.{numbered}
use Rattle.dl_account.proofs.Numbered.{numbered-append}
use Rattle.dl_account.proofs.commits.put_commits.Goals as goal

-- a list more after others
more : (xs : List Commit) (lists : List (Vec Commit Global)) (i : ℕ) (v : Vec Commit Global) → i < length lists → v ≡ get_or lists i v
    → xs ++ flat_map (λ list. list.items) (take (i + 1) lists) ≡ (xs ++ flat_map (λ list. list.items) (take i lists)) ++ v.items
more xs lists i v l is =
    ap (λ (some : List (Vec Commit Global)). xs ++ flat_map (λ list. list.items) some) (take_more lists i v l)
    ∙ (sym (flat_map_more (λ (list : Vec Commit Global). list.items) xs (take i lists) (get_or lists i v))
    ∙ ap (λ (w : Vec Commit Global). (xs ++ flat_map (λ list. list.items) (take i lists)) ++ w.items) (sym is))

pub loop-list-preserved : goal.loop-list-preserved
loop-list-preserved c =
    let whole = c.args.commits.whole.now in
    let lists = c.args.commits.by_thread.now in
    let i = c.loop-list.list-index in
    let v = c.list-item.result in
    let old = c.args.text.now in
    let first = c.args.first in
    let is = c.list-item.is in
    let done = whole ++ flat_map (λ (list : Vec Commit Global). list.items) (take i lists) in
    let on = more whole lists i v c.loop-list-test.true is in
    let list = c.deref.ensures.value in
    let text = rw (c.loop-list.invariant.0, c.loop-list.invariant.1, list) at c.in_ok-number-2.ensures.lines in
    let next = rw (c.loop-list.invariant.1, list) at c.in_ok-number-2.ensures.next in (
      text
          ∙ (append_assoc old (numbered commit_lines first done) (numbered commit_lines (first + length done) v.items)
          ∙ ap (λ (rest : List ℕ). old ++ rest) (sym (numbered-append commit_lines first done v.items) ∙ ap (λ (xs : List Commit). numbered commit_lines first xs) (sym on))),
      omega (arith, next, ap length on, length-append done v.items),
    )
