use Rattle.std.proofs.Common.{◌≡◌, ℕ, zero, suc, ◌+◌, List, ◌++◌, append_assoc, append-nil, sym, ap, ◌∙◌, arith}
use Rattle.std.specs.List.{flat_map, range_with_len}
use Rattle.spec_log.specs.declared.ShortSize.{ShortSize}
use Rattle.dl_entry.specs.declared.Commit.{Commit}
use Rattle.spec_strata.specs.Making.{chunk_sizes}
use Rattle.dl_strata.proofs.sizes.sizes_by_thread.Goals as goal

abbrev all_sizes : List Commit → (from n : ℕ) → List ShortSize
all_sizes cs from n = flat_map (λ k. chunk_sizes k 0 cs) (range_with_len from n)

-- with the sizes of one thread more
one-more : (cs : List Commit) (from n : ℕ) → all_sizes cs from n ++ chunk_sizes (from + n) 0 cs ≡ all_sizes cs from (n + 1)
one-more cs from zero =
    let e : from + 0 ≡ from = omega arith in
    ap (λ (k : ℕ). chunk_sizes k 0 cs) e ∙ sym (append-nil (chunk_sizes from 0 cs))
one-more cs from (suc n) =
    let e : from + suc n ≡ (from + 1) + n = omega arith in
    let f : suc (n + 1) ≡ suc n + 1 = omega arith in
    append_assoc (chunk_sizes from 0 cs) (all_sizes cs (from + 1) n) (chunk_sizes (from + suc n) 0 cs)
    ∙ ap (λ (k : ℕ). chunk_sizes from 0 cs ++ (all_sizes cs (from + 1) n ++ chunk_sizes k 0 cs)) e
    ∙ ap (λ (xs : List ShortSize). chunk_sizes from 0 cs ++ xs) (one-more cs (from + 1) n)
    ∙ ap (all_sizes cs from) f

pub loop-thread-preserved : goal.loop-thread-preserved
loop-thread-preserved c =
    let cs = c.args.commits.now in
    let k = c.loop-thread.thread in
    let e : k ≡ 0 + k = omega arith in
    c.in_ok-put_sizes.ensures ∙ ap (λ (xs : List ShortSize). xs ++ chunk_sizes k 0 cs) c.loop-thread.invariant
    ∙ ap (λ (j : ℕ). all_sizes cs 0 k ++ chunk_sizes j 0 cs) e ∙ one-more cs 0 k
