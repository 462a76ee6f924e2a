use Rattle.std.proofs.Common.{◌^◌, length}
use Rattle.dl_sphere.proofs.Replays.Limits.{sound-within}
use Rattle.dl_sphere.proofs.sphere.Sphere.dma_words.Goals as goal

pub live_words-requires : goal.live_words-requires
live_words-requires c =
    let a = c.self.inside in
    sound-within (length a.past.state.memory) (2 ^ 24) a.past.state.request c.size.ensures.memory.size.most c.self.invariant.request
