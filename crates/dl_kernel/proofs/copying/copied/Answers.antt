use Rattle.std.proofs.Common.{◌+◌, ◌∙◌, sym, ap, slice_index}
use Rattle.std.specs.Prelude.{drop}
use Rattle.spec_kernel.specs.Copies.{bytes_put}
use Rattle.dl_kernel.proofs.Spans.{copying_more, put_next}
use Rattle.dl_kernel.proofs.copying.copied.Goals as goal

pub loop-i-preserved : goal.loop-i-preserved
loop-i-preserved c =
    let words = c.loop-i.words.words in
    let addr = c.args.addr in
    let i = c.loop-i.i in
    let bytes = c.args.bytes.now in
    let h = c.loop-i.invariant in
    record {
      put = ap (λ ws. bytes_put ws (addr + (i + 1)) (drop (i + 1) bytes)) c.put_byte.ensures.words ∙ sym (put_next words addr i bytes c.loop-i-test.true) ∙ h.put;
      copying = rw c.put_byte.ensures.words (copying_more addr i (slice_index bytes i) words h.copying);
      capacity = rw c.put_byte.ensures.capacity h.capacity;
    }
