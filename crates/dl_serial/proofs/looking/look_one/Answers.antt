use Rattle.std.proofs.Common.{◌≡◌, ℕ, Option, sym, subst}
use Rattle.spec_isa.specs.Words.{Stored}
use Rattle.spec_isa.specs.Instruction.{loads_of}
use Rattle.dl_thread.specs.Answer.{fetched_word, fetch_read, load_read, store_made, store_laid}
use Rattle.dl_serial.specs.Overlays.{sight_of}
use Rattle.dl_serial.specs.declared.looked.Looked.{Looked}
use Rattle.dl_serial.specs.declared.looking.Looking.{Looking}
use Rattle.dl_serial.proofs.Looks.{NotedIf, looked-is, may-note, may-keep}
use Rattle.dl_serial.proofs.looking.look_one.Goals as goal

pub returns-clause-looked : goal.returns-clause-looked
returns-clause-looked c a =
    let m = c.args.memory.now in
    let ws = c.args.words.now in
    let t = c.args.thread.now in
    let d = c.one-did.result in
    let s = sight_of m ws in
    let seen = c.one-did.ensures.view in
    let looked : Looking → Looked = λ v. v.looked in
    let fetch : Option ℕ = fetch_read s t in
    let load : Option ℕ = load_read d (loads_of t (fetched_word s t)) in
    let fetches = may-note looked _ (λ v w b r. r.2) fetch _ seen.fetched seen.fetches in
    let loads = may-note looked _ (λ v w b r. r.2) load seen.fetched seen.loaded seen.loads in
    let kept = may-keep looked _ (λ v w b r. r.2) (store_laid d (store_made s t)) seen.loaded _ seen.stores in
    looked-is m ws t d seen.fetched.looked c.one-did.new.v.looked a c.one-did.ensures.did
    (subst (λ (l : Looked). NotedIf fetch l seen.fetched.looked) c.nothing.ensures fetches)
    (subst (λ (l : Looked). NotedIf load seen.fetched.looked l) (sym kept) loads)
