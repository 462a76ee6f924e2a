-- The files that a plan writes take the products of its own spheres, or of all.
use Rattle.std.proofs.Common.{◌≡◌, ℕ, zero, suc, ◌+◌, ◌<◌, ◌≤◌, List, [], ◌∷◌, ◌++◌, length, map, take, drop, get_or, Option, Some, None, sym, ap, subst, ◌∙◌, append_assoc, arith}
use Rattle.std.specs.List.{AllByRecursion}
use Rattle.std.proofs.lemmas.List.{drop_more, map-append}
use Rattle.dl_plan.specs.declared.Output.{Output}
use Rattle.dl_plan.specs.declared.Product.{Product}
use Rattle.dl_plan.specs.Files.{OutputValues, into, log_written, written_by, written_from, outputs_of}
use Rattle.dl_plan.specs.Values.{RoleValues, Plain, Record, Replay, InStrata, SphereValues, PlanValues}
use Rattle.dl_plan.specs.Views.{output_view}
use Rattle.dl_gather.proofs.Memories.{all_at}
use Rattle.spec_program.specs.Writes.{Write}
use Rattle.dl_commands.specs.declared.writing.NamedContent.{NamedContent}
use Rattle.dl_commands.specs.Jobs.{write_of, writes_of}
use Rattle.dl_commands.specs.Products.{IsProduct, AreProducts}

-- ---- lists

all_append : {X : Type 0} (P : X → Type 0) (xs ys : List X) → AllByRecursion P xs → AllByRecursion P ys → AllByRecursion P (xs ++ ys)
all_append P [] ys a b = b
all_append P (x ∷ xs) ys a b = (a.0, all_append P xs ys a.1 b)

-- the first so many and the next are so
pub all_next : {X Y : Type 0} (P : Y → Type 0) (f : X → Y) (xs : List X) (i : ℕ) (d : X) → i < length xs → AllByRecursion P (map f (take i xs)) → P (f (get_or xs i d)) → AllByRecursion P (map f (take (i + 1) xs))
all_next P f [] i d inside before next = absurd (omega (arith, inside))
all_next P f (x ∷ xs) zero d inside before next = (next, tt)
all_next P f (x ∷ xs) (suc i) d inside before next =
    let count : suc (i + 1) ≡ suc i + 1 = omega arith in
    subst (λ (n : ℕ). AllByRecursion P (map f (take n (x ∷ xs)))) count (before.0, all_next P f xs i d (omega (arith, inside)) before.1 next)

-- ---- products

-- where the products of all outputs are those of n spheres, so is the product of output i
pub product_at : (n : ℕ) (outputs : List Output) (i : ℕ) (d : Output) → AreProducts n (map output_view outputs) → i < length outputs → IsProduct n (get_or outputs i d).product
product_at n outputs i d are h = all_at (λ (o : OutputValues). IsProduct n o.product) output_view outputs i d are h

into_products : (n : ℕ) (product : Product) (name : Option (List ℕ)) → IsProduct n product → AreProducts n (into product name)
into_products n product None is = tt
into_products n product (Some name) is = (is, tt)

log_products : (n i : ℕ) (role : RoleValues) → i < n → AreProducts n (log_written i role)
log_products n i Plain h = tt
log_products n i (Record values) h = (h, tt)
log_products n i (Replay values) h = tt
log_products n i (InStrata strata) h = tt

from_products : (n i : ℕ) (ss : List SphereValues) → i + length ss ≤ n → AreProducts n (written_from i ss)
from_products n i [] h = tt
from_products n i (s ∷ ss) h =
    let here : i < n = omega (arith, h) in
    let P : OutputValues → Type 0 = λ (o : OutputValues). IsProduct n o.product in
    all_append P (written_by i s) (written_from (suc i) ss)
    (all_append P (log_written i s.role) (into (Product.Account i) s.account) (log_products n i s.role here) (into_products n (Product.Account i) s.account here))
    (from_products n (suc i) ss (omega (arith, h)))

-- the products of a plan are those of its spheres, or of all
pub plan_products : (p : PlanValues) → AreProducts (length p.spheres) (outputs_of p)
plan_products p =
    let n = length p.spheres in
    let P : OutputValues → Type 0 = λ (o : OutputValues). IsProduct n o.product in
    all_append P (written_from 0 p.spheres) (into Product.Console p.console ++ into Product.Report p.report)
    (from_products n 0 p.spheres (omega arith))
    (all_append P (into Product.Console p.console) (into Product.Report p.report) (into_products n Product.Console p.console tt) (into_products n Product.Report p.report tt))

-- ---- what they are filled with

-- with the next file filled, the files that are filled and those to come are still all of them
pub one_written : (xs : List NamedContent) (w : NamedContent) (new : List NamedContent) (fill : OutputValues → Write) (outputs : List Output) (i : ℕ) (d : Output) (all : List Write) → i < length outputs
    → new ≡ xs ++ w ∷ [] → write_of w ≡ fill (output_view (get_or outputs i d)) → writes_of xs ++ map fill (map output_view (drop i outputs)) ≡ all
    → writes_of new ++ map fill (map output_view (drop (i + 1) outputs)) ≡ all
one_written xs w new fill outputs i d all inside pushed is before =
    let rest = map fill (map output_view (drop (i + 1) outputs)) in
    ap (λ (ys : List NamedContent). writes_of ys ++ rest) pushed
    ∙ ap (λ (ys : List Write). ys ++ rest) (map-append write_of xs (w ∷ []))
    ∙ append_assoc (writes_of xs) (write_of w ∷ []) rest
    ∙ ap (λ (y : Write). writes_of xs ++ (y ∷ rest)) is
    ∙ ap (λ (os : List Output). writes_of xs ++ map fill (map output_view os)) (sym (drop_more outputs i d inside))
    ∙ before
