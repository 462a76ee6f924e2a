use Rattle.std.proofs.Common.{◌+◌, ◌++◌, take, drop, ap, ◌∙◌}
use Rattle.dl_dev.proofs.Copying.{copied}
use Rattle.dl_dev.proofs.pipe.Pipe.first.Goals as goal

pub returns-clause-bytes : goal.returns-clause-bytes
returns-clause-bytes c =
    copied _ _ c.args.into.now _ _ _ _ c.copy_from_slice.ensures.after c.copy_from_slice-2.ensures.after c.min-from_front.ensures c.min-from_back.ensures
    ∙ ap (λ items. take (c.min-from_front.result + c.min-from_back.result) items ++ drop (c.min-from_front.result + c.min-from_back.result) c.args.into.now) (c.as_slices.ensures ∙ c.self.view_is)
