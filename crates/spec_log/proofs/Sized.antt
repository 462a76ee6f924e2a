-- The standard size of a log that was read is over 0.
use Rattle.std.proofs.Common.{◌≡◌, ℕ, ◌<◌, ◌≤◌, List, [], drop, Ok, subst, arith}
use Rattle.spec_log.specs.declared.mode_name.ModeName.{ModeName}
use Rattle.spec_log.specs.declared.mode_name.ModeName.TheVariants.{OrderSize, OrderOnly, Picolog}
use Rattle.spec_log.specs.declared.draft.Draft.{Draft}
use Rattle.spec_log.specs.declared.log.LogParts.{LogParts}
use Rattle.spec_log.specs.Fields.{Read, all_of, field, from_to}
use Rattle.spec_log.specs.Versions.{most_standard}
use Rattle.spec_log.specs.Reading.{blank, magic, version, mode, threads, chunk_size, log_of, one_size, order, sizes, interrupts, inputs, dmas, commits, read_of, stages}
use Rattle.spec_log.proofs.Stages.{Turns, all-turned, field-low, once-turns, put-turns, read-whole, staged-keeps, then-turns}

abbrev Any : Draft → Type 0
Any d = Unit {0}

abbrev IsSized : Draft → Type 0
IsSized d = 16 ≤ d.shape.s

one-size-keeps : (m : ModeName) (d : Draft) (bytes : List ℕ) (at : ℕ) (x : Read Draft) → IsSized d → one_size m d bytes at ≡ Ok x → IsSized x.value
one-size-keeps OrderSize d bytes at x k e = put-turns IsSized _ (λ each. record d { each = each }) bytes x (λ y h. k) e
one-size-keeps OrderOnly d bytes at x k e = put-turns IsSized _ (λ short. record d { short = short }) bytes x (λ y h. k) e
one-size-keeps Picolog d bytes at x k e = put-turns IsSized _ (λ short. record d { short = short }) bytes x (λ y h. k) e

sections : Turns IsSized IsSized (all_of (drop 6 stages))
sections =
    then-turns IsSized IsSized IsSized order (drop 7 stages) (staged-keeps IsSized order (λ d bytes at x k e. put-turns IsSized _ (λ order. record d { order = order }) bytes x (λ y h. k) e))
    (then-turns IsSized IsSized IsSized sizes (drop 8 stages) (staged-keeps IsSized sizes (λ d bytes at x k e. one-size-keeps d.mode d bytes at x k e))
    (then-turns IsSized IsSized IsSized interrupts (drop 9 stages) (staged-keeps IsSized interrupts (λ d bytes at x k e. put-turns IsSized _ (λ interrupts. record d { interrupts = interrupts }) bytes x (λ y h. k) e))
    (then-turns IsSized IsSized IsSized inputs (drop 10 stages) (staged-keeps IsSized inputs (λ d bytes at x k e. put-turns IsSized _ (λ inputs. record d { inputs = inputs }) bytes x (λ y h. k) e))
    (then-turns IsSized IsSized IsSized dmas [] (staged-keeps IsSized dmas (λ d bytes at x k e. put-turns IsSized _ (λ dmas. record d { dmas = dmas }) bytes x (λ y h. k) e))
    (all-turned IsSized)))))

all-sized : Turns Any IsSized (all_of stages)
all-sized =
    then-turns Any Any IsSized magic (drop 1 stages) (once-turns Any Any magic.one (λ d bytes at x k e. tt))
    (then-turns Any Any IsSized version (drop 2 stages) (once-turns Any Any version.one (λ d bytes at x k e. tt))
    (then-turns Any Any IsSized mode (drop 3 stages) (once-turns Any Any mode.one (λ d bytes at x k e. tt))
    (then-turns Any Any IsSized threads (drop 4 stages) (once-turns Any Any threads.one (λ d bytes at x k e. tt))
    (then-turns Any IsSized IsSized chunk_size (drop 5 stages)
    (once-turns Any IsSized chunk_size.one (λ d bytes at x k e.
    let most : ℕ = most_standard d.shape.version in
    put-turns IsSized (field 4 (from_to 16 most) bytes at) (λ s. record d { shape = record d.shape { s = s } }) bytes x (λ y h. field-low 16 most bytes at y h) e))
    (then-turns IsSized IsSized IsSized commits (drop 6 stages)
    (once-turns IsSized IsSized commits.one (λ d bytes at x k e. put-turns IsSized _ (λ count. record d { count = count }) bytes x (λ y h. k) e))
    sections)))))

-- the standard size of a log that bytes say is over 0
pub log_sized : (bytes : List ℕ) (log : LogParts) → read_of bytes ≡ Ok log → 0 < log.s
log_sized bytes log e =
    let p = read-whole stages blank log_of bytes log e in
    let high : 16 ≤ log.s = subst (λ (l : LogParts). 16 ≤ l.s) p.2 (all-sized blank bytes 0 p.0 tt p.1) in
    omega (arith, high)
