-- Strata that were read have a standard size over 0, and none of their chunk strata is without commits.
use Rattle.std.proofs.Common.{◌≡◌, ℕ, ◌+◌, ◌<◌, ◌≤◌, nat_lt, List, [], ◌∷◌, ◌++◌, drop, Result, Ok, subst, ltb-true, arith}
use Rattle.spec_log.specs.Fields.{Read, all_of, field, from_to, passes}
use Rattle.spec_log.specs.Versions.{most_standard}
use Rattle.spec_log.proofs.Stages.{Turns, all-turned, and-first, field-low, once-turns, passed, put-turns, read-whole, staged-keeps, then-read, then-turns}
use Rattle.spec_strata.specs.declared.draft.StrataDraft.{StrataDraft}
use Rattle.spec_strata.specs.declared.stratum.Stratum.{Stratum}
use Rattle.spec_strata.specs.declared.stratum.Stratum.TheVariants.{Chunks, Serial, Dma}
use Rattle.spec_strata.specs.declared.strata.StrataParts.{StrataParts}
use Rattle.spec_strata.specs.Reading.{are_commits, blank, chunk_size, counted, dmas, inputs, interrupts, magic, next_stratum, read_of, sizes, stages, strata, strata_of, stratum, threads, version}
use Rattle.spec_strata.specs.Strata.{commits_in, HaveSome}

-- ---- strata

some-more : (xs : List Stratum) (x : Stratum) → HaveSome xs → 0 < commits_in x → HaveSome (xs ++ x ∷ [])
some-more [] (Chunks counts) some l = (l, tt)
some-more [] (Serial k) some l = tt
some-more [] Dma some l = tt
some-more (Chunks counts ∷ xs) x some l = (some.0, some-more xs x some.1 l)
some-more (Serial k ∷ xs) x some l = some-more xs x some l
some-more (Dma ∷ xs) x some l = some-more xs x some l

stratum-some : (d : StrataDraft) (bytes : List ℕ) (at : ℕ) (x : Read Stratum) → next_stratum d bytes at ≡ Ok x → 0 < commits_in x.value
stratum-some d bytes at x e =
    let r = then-read (stratum d.counted bytes at) (λ y after. passes (are_commits d.commits (commits_in y)) 5 at y bytes after) x e in
    let p = passed (are_commits d.commits (commits_in r.0.value)) 5 at r.0.value bytes r.0.after x r.2 in
    subst (λ (y : Stratum). 0 < commits_in y) p.1 (ltb-true 0 (commits_in r.0.value) (and-first (nat_lt 0 (commits_in r.0.value)) _ p.0))

-- ---- all stages

abbrev Begun : StrataDraft → Type 0
Begun d = HaveSome d.strata

abbrev Good : StrataDraft → Type 0
Good d = (16 ≤ d.s) × HaveSome d.strata

sections : Turns Good Good (all_of (drop 6 stages))
sections =
    then-turns Good Good Good sizes (drop 7 stages) (staged-keeps Good sizes (λ d bytes at x k e. put-turns Good _ (λ sizes. record d { sizes = sizes }) bytes x (λ y h. k) e))
    (then-turns Good Good Good interrupts (drop 8 stages) (staged-keeps Good interrupts (λ d bytes at x k e. put-turns Good _ (λ interrupts. record d { interrupts = interrupts }) bytes x (λ y h. k) e))
    (then-turns Good Good Good inputs (drop 9 stages) (staged-keeps Good inputs (λ d bytes at x k e. put-turns Good _ (λ inputs. record d { inputs = inputs }) bytes x (λ y h. k) e))
    (then-turns Good Good Good dmas [] (staged-keeps Good dmas (λ d bytes at x k e. put-turns Good _ (λ dmas. record d { dmas = dmas }) bytes x (λ y h. k) e))
    (all-turned Good))))

runs : Turns Good Good (all_of (drop 5 stages))
runs =
    then-turns Good Good Good strata (drop 6 stages)
    (staged-keeps Good strata (λ d bytes at x k e.
    put-turns Good (next_stratum d bytes at) (λ y. record d { strata = d.strata ++ y ∷ []; commits = d.commits + commits_in y }) bytes x (λ y h. (k.0, some-more d.strata y.value k.1 (stratum-some d bytes at y h))) e))
    sections

all-good : Turns Begun Good (all_of stages)
all-good =
    then-turns Begun Begun Good magic (drop 1 stages) (once-turns Begun Begun magic.one (λ d bytes at x k e. put-turns Begun _ (λ y. d) bytes x (λ y h. k) e))
    (then-turns Begun Begun Good version (drop 2 stages) (once-turns Begun Begun version.one (λ d bytes at x k e. put-turns Begun _ (λ y. d) bytes x (λ y h. k) e))
    (then-turns Begun Begun Good counted (drop 3 stages) (once-turns Begun Begun counted.one (λ d bytes at x k e. put-turns Begun _ (λ counted. record d { counted = counted }) bytes x (λ y h. k) e))
    (then-turns Begun Begun Good threads (drop 4 stages) (once-turns Begun Begun threads.one (λ d bytes at x k e. put-turns Begun _ (λ threads. record d { threads = threads }) bytes x (λ y h. k) e))
    (then-turns Begun Good Good chunk_size (drop 5 stages)
    (once-turns Begun Good chunk_size.one (λ d bytes at x k e.
    put-turns Good (field 4 (from_to 16 (most_standard 2)) bytes at) (λ s. record d { s = s }) bytes x (λ y h. (field-low 16 (most_standard 2) bytes at y h, k)) e))
    runs))))

read-good : (bytes : List ℕ) (v : StrataParts) → read_of bytes ≡ Ok v → (16 ≤ v.s) × HaveSome v.strata
read-good bytes v e =
    let p = read-whole stages blank strata_of bytes v e in
    subst (λ (w : StrataParts). (16 ≤ w.s) × HaveSome w.strata) p.2 (all-good blank bytes 0 p.0 tt p.1)

-- the standard size of strata that bytes say is over 0
pub strata-sized : (bytes : List ℕ) (v : StrataParts) → read_of bytes ≡ Ok v → 0 < v.s
strata-sized bytes v e = let h = (read-good bytes v e).0 in omega (arith, h)

-- and their chunk strata have commits
pub strata-some : (bytes : List ℕ) (v : StrataParts) → read_of bytes ≡ Ok v → HaveSome v.strata
strata-some bytes v e = (read-good bytes v e).1
