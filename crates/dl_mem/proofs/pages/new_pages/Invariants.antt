use Rattle.std.proofs.Common.{◌≡◌, take}
use Rattle.dl_mem.proofs.pages.new_pages.Given as goal

abbrev pub invariant-loop-page : goal.invariant-loop-page
invariant-loop-page l = l.made.items ≡ take l.page-index l.pages
