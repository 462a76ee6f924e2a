-- The bytes of the first page and of those after it are those of all pages.
use Rattle.std.proofs.Common.{◌≡◌, ◌+◌, ◌-◌, ◌≤◌, ◌<◌, ◌/◌, ◌%◌, length, min, arith}
use Rattle.dl_mem.proofs.Paged.{copy_paged, first_inside}
use Rattle.dl_mem.proofs.pages.+copy_pages.Goals as goal

pub bounds-pages-at : goal.bounds-pages-at
bounds-pages-at t c =
    let some : 0 < length c.args.into.now = grind arith in
    first_inside c.args.pages.now c.args.at (length c.args.into.now) c.requires.paged c.requires.inside some

pub returns : goal.returns
returns t c =
    let ps = c.args.pages.now in
    let n = length c.args.into.now in
    let some : 0 < length c.args.into.now = grind arith in
    let inside : c.args.at / 4096 < length c.args.pages.now = first_inside ps c.args.at n c.requires.paged c.requires.inside some in
    let here : c.min-here.result ≡ min n (4096 - c.args.at % 4096) = c.min-here.ensures in
    let ends : c.args.at % 4096 + c.min-here.result ≤ 4096 = rw here (omega arith) in
    let page = c.index-pages-at.result in
    rw (c.copy_to.ensures, c.copy_pages.ensures, c.split_at_mut-front.ensures.front_len)
    (copy_paged ps c.args.at n c.min-here.result (length c.split_at_mut-front.result.1.now) page c.requires.paged inside ends c.index-pages-at.is c.split_at_mut-front.ensures.back_len)
