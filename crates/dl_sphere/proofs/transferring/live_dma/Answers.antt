use Rattle.std.proofs.Common.{◌≡◌, ℕ, List, length, None, Some, ◌∙◌, false, min, sym, ap, subst, take}
use Rattle.std.proofs.lemmas.List.{take_min}
use Rattle.dl_entry.specs.declared.Request.{Request}
use Rattle.spec_log.specs.Log.{AreFewBytes}
use Rattle.spec_kernel.specs.Answers.{dma_bytes}
use Rattle.spec_kernel.specs.Copies.{dma_words}
use Rattle.spec_kernel.specs.Devices.{Devices}
use Rattle.spec_sphere.proofs.Sound.Devices.{dma-bytes}
use Rattle.dl_sphere.specs.Roles.{with_noted, keeping_of}
use Rattle.dl_sphere.proofs.transferring.live_dma.Goals as goal

-- as many bytes of the input as are asked for or are left are those of the request
taken : (d : Devices) (request : Request) (input : List ℕ) (left count : ℕ) → input ≡ d.input → left ≡ length d.input → count ≡ min request.len left → take count input ≡ dma_bytes d request
taken d request input left count i l m = ap (take count) i ∙ ap (λ n. take n d.input) (m ∙ ap (min request.len) l) ∙ take_min request.len d.input

pub note-requires-clause-dma : goal.note-requires-clause-dma
note-requires-clause-dma c =
    let d = c.args.devices.now in
    let request = c.args.request.now in
    let bytes = taken d request c.input.result.now c.input_left.result c.min-count.result c.input.ensures.value c.input_left.ensures.value c.min-count.ensures in
    subst AreFewBytes (sym bytes) (dma-bytes d request c.requires.request.few c.input_left.ensures.bytes)

pub returns-clause-words : goal.returns-clause-words
returns-clause-words c =
    let d = c.args.devices.now in
    let request = c.args.request.now in
    let bytes = taken d request c.input.result.now c.input_left.result c.min-count.result c.input.ensures.value c.input_left.ensures.value c.min-count.ensures in
    c.in_ok-words.ensures ∙ ap (dma_words request) bytes

pub returns-clause-noted : goal.returns-clause-noted
returns-clause-noted c =
    let d = c.args.devices.now in
    let request = c.args.request.now in
    let bytes = taken d request c.input.result.now c.input_left.result c.min-count.result c.input.ensures.value c.input_left.ensures.value c.min-count.ensures in
    c.in_ok-note.ensures.noted ∙ (λ i. with_noted (c.dma_commit.ensures i) false None (Some (bytes i)) (keeping_of c.args.part.now))
