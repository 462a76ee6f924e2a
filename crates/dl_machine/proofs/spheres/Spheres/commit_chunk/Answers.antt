use Rattle.std.proofs.Common.{◌≡◌, false, ◌^◌, ◌<◌, length, IfOk, Some, subst, arith, rules}
use Rattle.std.proofs.lemmas.Grind.{common_steps}
use Rattle.spec_kernel.specs.Devices.{Devices}
use Rattle.spec_engine.specs.declared.answers.How.{How}
use Rattle.spec_engine.specs.Closing.{is_short, is_piece}
use Rattle.spec_sphere.specs.sphere.Commits.{chunk_moved}
use Rattle.spec_sphere.specs.sphere.Spheres.{Sphere, replays}
use Rattle.dl_sphere.specs.declared.moved.Moved.{Moved}
use Rattle.dl_sphere.specs.SizedSpheres.{SizedSphere}
use Rattle.dl_sphere.specs.Moving.{CanCommit, came}
use Rattle.dl_machine.specs.Rows.{nth_sphere}
use Rattle.dl_machine.proofs.Commits.AsClosed.{how_of, how_is, can_commit_so, if_ok}
use Rattle.dl_machine.proofs.Rows.Spheres.{row_says, said_of_row, others_left, spheres_set}
use Rattle.dl_machine.proofs.spheres.Spheres.commit_chunk.Goals as goal
use Rattle.spec_play.specs.Progress.{position}
use Rattle.spec_sphere.specs.promises.Kept.{has_due}

pub commit_chunk-requires : goal.commit_chunk-requires
commit_chunk-requires g c =
    let within : c.args.i < length c.self.inside.row.items = grind (arith, common_steps) in
    let ch = c.args.chunk.now.chunk in
    let said : (P : SizedSphere → Type 0) → P (record { s = c.args.self.now.s; sphere = nth_sphere c.args.i c.args.self.now }) → P c.index_mut-sphere.result.now =
    λ P. row_says P _ _ _ _ _ _ c.self.invariant c.self.view_is within c.index_mut-sphere.ensures.value
    in
    λ κs below. (
      search (rules, below),
      (
        said (λ p. c.args.thread < length p.sphere.threads) c.requires.thread,
        (
          said (λ p. CanCommit p.s p.sphere c.args.thread (how_of ch.closed) ch) (can_commit_so _ _ _ ch c.requires.chunk),
          (
            said (λ p. replays p.sphere.role ≡ false → position p.sphere.progress < 2 ^ 24) c.requires.few,
            said (λ p. has_due p.sphere ≡ false) c.requires.ready,
          ),
        ),
      ),
    )

pub returns-clause-ok : goal.returns-clause-ok
returns-clause-ok g c =
    let within : c.args.i < length c.self.inside.row.items = grind (arith, common_steps) in
    let ch = c.args.chunk.now.chunk in
    let so : SizedSphere → Sphere → How → Moved → Devices → Type 0 = λ o q how m d. came m q d ≡ chunk_moved c.args.thread (is_piece how) (is_short o.s how ch.limit) ch.done d o.sphere in
    let P : SizedSphere → Sphere → Type 0 = λ o q. IfOk c.commit_chunk.result (λ m. (d : Devices) → (how : How) → ch.closed ≡ Some how → so o q how m d) in
    let o = c.index_mut-sphere.result.now in
    let q = c.commit_chunk.new.self.sphere in
    said_of_row P _ _ _ _ _ _ _ c.self.invariant c.self.view_is within c.index_mut-sphere.ensures.value
    (if_ok c.commit_chunk.result (λ m. (d : Devices) → so o q (how_of ch.closed) m d) (λ m. (d : Devices) → (how : How) → ch.closed ≡ Some how → so o q how m d)
    (λ m known d how is. subst (λ (h : How). so o q h m d) (how_is ch.closed how is) (known d)) c.commit_chunk.ensures.ok)

pub returns-clause-others : goal.returns-clause-others
returns-clause-others g c =
    let within : c.args.i < length c.self.inside.row.items = grind (arith, common_steps) in
    others_left _ _ _ _ _ _ c.self.view_is within

pub invariant_of-self : goal.invariant_of-self
invariant_of-self g c =
    let within : c.args.i < length c.self.inside.row.items = grind (arith, common_steps) in
    spheres_set _ _ _ _ _ _ c.self.invariant within c.index_mut-sphere.ensures.value c.commit_chunk.ensures.standard c.commit_chunk.ensures.size
