use Rattle.std.proofs.Common.{◌≡◌, ℕ, ◌+◌, ◌<◌, List, [], ◌∷◌, ◌++◌, length, map, drop, get_or, Ok, arith, sym, ap, ◌∙◌, subst}
use Rattle.dl_elf.specs.Images.{Image}
use Rattle.dl_plan.specs.Values.{IsMemory}
use Rattle.spec_program.specs.Built.{image_read, images_of}
use Rattle.dl_gather.specs.declared.inputs.SphereInputs.{SphereInputs}
use Rattle.dl_gather.specs.Inputs.{sphere_view}
use Rattle.dl_gather.proofs.Stages.{after}
use Rattle.dl_gather.proofs.Memories.{memory_at, length_pushed}
use Rattle.dl_gather.proofs.Loading.{images_more}
use Rattle.dl_gather.proofs.images.load_images.Goals as goal

pub load_one-requires : goal.load_one-requires
load_one-requires c =
    let within : c.loop-i.i < length c.args.inputs.now = omega arith in
    subst (λ (s : SphereInputs). IsMemory s.memory) (sym c.index-inputs-i.is) (memory_at c.args.inputs.now c.loop-i.i c.index-inputs-i.result c.requires within)

pub loop-i-preserved : goal.loop-i-preserved
loop-i-preserved c =
    let inputs = c.args.inputs.now in
    let i = c.loop-i.i in
    let within : i < length inputs = omega arith in
    let d = c.index-inputs-i.result in
    let done = c.loop-i.images.items in
    let x = c.in_ok-image.image in
    let pushed : c.push.new.self.items ≡ done ++ x ∷ [] = c.in-Ok.ensures.items in
    let made : image_read i (sphere_view (get_or inputs i d)) ≡ Ok x = ap (λ (s : SphereInputs). image_read i (sphere_view s)) (sym c.index-inputs-i.is) ∙ c.in_ok-image.ensures.image in (
      images_more inputs i d done x within c.loop-i.invariant.0 made
          ∙ ap (λ (xs : List Image). after xs (images_of (i + 1) (map sphere_view (drop (i + 1) inputs)))) (sym pushed),
      ap length pushed ∙ length_pushed done x ∙ ap (λ (n : ℕ). n + 1) c.loop-i.invariant.1,
    )
