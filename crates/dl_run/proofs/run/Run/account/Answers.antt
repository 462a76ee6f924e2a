use Rattle.std.proofs.Common.{◌∙◌, ◌≡◌, ap}
use Rattle.std.proofs.lemmas.Result.{IfOk-weaker}
use Rattle.dl_account.specs.Account.{account_of}
use Rattle.dl_account.specs.CommitLists.{commits_in}
use Rattle.spec_sphere.specs.sphere.Spheres.{Sphere}
use Rattle.spec_protocol.specs.declared.event.Event.{Event}
use Rattle.std.proofs.Common.{List}
use Rattle.spec_run.specs.Texts.{account_text}
use Rattle.dl_run.specs.Ran.{IsOver}
use Rattle.dl_run.proofs.Over.{account-is}
use Rattle.dl_run.proofs.run.Run.account.Goals as goal

pub returns : goal.returns
returns c =
    let r = c.args.self.now in
    let i = c.args.sphere in
    let p = c.sphere-sphere.ensures.value in
    let first = c.first.ensures ∙ ap (λ (q : Sphere). q.progress.first) p in
    let commits = c.lists_of.ensures ∙ c.commits.ensures ∙ ap (λ (q : Sphere). q.progress.commits) p in
    let threads = c.threads.ensures ∙ ap (λ (q : Sphere). q.threads) p in
    let request = c.request.ensures ∙ ap (λ (q : Sphere). q.progress.request) p in
    let memory = c.memory.ensures ∙ ap (λ (q : Sphere). q.memory) p in
    let end = c.end-end.ensures in
    IfOk-weaker c.account_text.result
    (λ text. text.items ≡ account_of c.first.result (commits_in c.lists_of.result) c.threads.result.now c.request.result c.memory.result.now c.end-end.result)
    (λ text. (es : List Event) → IsOver es r → text.items ≡ account_text r.setup es i)
    (λ text e es over.
    e
    ∙ (λ j. account_of (first j) (commits j) (threads j) (request j) (memory j) (end j))
    ∙ account-is es r i over c.requires)
    c.account_text.ensures
