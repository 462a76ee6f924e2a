-- A chunk that was looked at can be committed.
use Rattle.std.proofs.Common.{rules, ◌≡◌, ℕ, ◌-◌, ◌≤◌, ◌<◌, max, false, inl, inr, Some, sym, ap, ◌∙◌, subst, arith}
use Rattle.std.specs.Prelude.{slice_get}
use Rattle.std.proofs.lemmas.Bool.{true≢false}
use Rattle.std.proofs.lemmas.Option.{slice_get_within}
use Rattle.spec_isa.specs.declared.thread.Parts.{Parts}
use Rattle.spec_engine.specs.declared.answers.How.{How}
use Rattle.spec_engine.specs.Chunks.{Chunk}
use Rattle.spec_engine.specs.Closing.{is_piece}
use Rattle.spec_sphere.specs.sphere.Spheres.{replays}
use Rattle.spec_play.specs.Turns.{TurnOrEnd, Turn}
use Rattle.spec_sphere.specs.sphere.Spheres.{Cursor, Sphere, Role, Plain, Record, Replay, limit_in, limit_of, pieces_of, whole_limit}
use Rattle.dl_sphere.specs.Moving.{CanCommit, IsPartIn, IsTurnOf, MayCommit}
use Rattle.spec_sphere.proofs.Moves.Joining.{joins-whole, pieces_none}
use Rattle.test_spheres.proofs.tests.spheres.moves.commit_chunk.Invariants.{how_of}
use Rattle.test_spheres.proofs.tests.spheres.moves.commit_chunk.Goals as goal

-- what was seen of a chunk of thread 0, which is t, and of its limit
record Seen (s : ℕ) (role : Role) (t : Parts) (how : How) (ch : Chunk) : Type 0 where
  pub turn : IsTurnOf 0 role
  pub commits : ch.done.thread.commits ≡ t.commits
  pub limit : ch.limit ≡ limit_of s role 0 t
  pub some_limit : 2 ≤ ch.limit
  pub some : 1 ≤ ch.done.n
  pub most : ch.done.n ≤ ch.limit
  pub whole : is_piece how ≡ false

within : (role : Role) (s n : ℕ) (t : Parts) → n ≤ limit_of s role 0 t → replays role ≡ false → n ≤ s
unfolding limit_of
within Plain s n t most live = most
within (Record recording) s n t most live = most
within (Replay b) s n t most live = absurd (true≢false live)

room : (b : Cursor) (m n : ℕ) → MayCommit b 0 → n ≡ limit_in (Replay b) 0 0 m → 2 ≤ n → b.total < whole_limit b.log 0 m
room b m n may is some = elim may [
  | inl turn ↦ (
      let l : n ≡ max 1 (whole_limit b.log 0 m - b.total) = is ∙ ap (λ (now : TurnOrEnd). max 1 (whole_limit b.log 0 m - pieces_of now 0 b.total)) turn in
      omega (arith, l, some)
      )
  | inr joins ↦ (
      let none : b.total ≡ 0 = joins-whole b.strata 0 b.total joins.joins in
      let l : n ≡ max 1 (whole_limit b.log 0 m - 0) = is ∙ ap (λ (q : ℕ). max 1 (whole_limit b.log 0 m - q)) (ap (pieces_of b.now 0) none ∙ pieces_none b.now 0) in
      omega (arith, none, l, some)
      )
]

part_in : (role : Role) (s : ℕ) (t : Parts) (how : How) (ch : Chunk) → Seen s role t how ch → IsPartIn role 0 how ch
unfolding limit_of
part_in Plain s t how ch h = tt
part_in (Record recording) s t how ch h = tt
part_in (Replay b) s t how ch h =
    let limit : ch.limit ≡ limit_in (Replay b) 0 0 ch.done.thread.commits = h.limit ∙ ap (λ (m : ℕ). limit_in (Replay b) 0 0 m) (sym h.commits) in
    record {
      may = h.turn;
      room = room b ch.done.thread.commits ch.limit h.turn limit h.some_limit;
      limit = limit;
      most = h.most;
      early = λ piece. absurd (true≢false (sym piece ∙ h.whole));
      some = omega (arith, h.some);
    }

can_commit : (s : ℕ) (p : Sphere) (t : Parts) (how : How) (ch : Chunk) → ch.closed ≡ Some how → slice_get p.threads 0 ≡ Some t → Seen s p.role t how ch → CanCommit s p 0 how ch
can_commit s p t how ch closed there h =
    record {
      closed = closed;
      commits = λ u is. (let same : Some t ≡ Some u = sym there ∙ is in h.commits ∙ (let e : t ≡ u = cc in ap (λ (x : Parts). x.commits) e));
      size = within p.role s ch.done.n t (subst (λ n. ch.done.n ≤ n) h.limit h.most);
      some = λ short. h.some;
      part = part_in p.role s t how ch h;
    }

pub commit_chunk-requires : goal.commit_chunk-requires
commit_chunk-requires g c =
    let p = c.args.sphere.now in
    let t = c.first-thread.result in
    let ch = c.args.chunk.now.chunk in
    let closed : ch.closed ≡ Some c.args.how = search rules in
    let seen : Seen p.s p.sphere.role t c.args.how ch =
    record {
      turn = c.is_turn.ensures;
      commits = search rules;
      limit = search rules;
      some_limit = search rules;
      some = search rules;
      most = search rules;
      whole = search rules;
    }
    in
    λ κs below. (
      search (rules, below),
      (
        slice_get_within _ _ _ c.first-thread.ensures,
        (
          subst (λ (how : How). CanCommit p.s p.sphere 0 how ch) (sym (ap how_of closed)) (can_commit p.s p.sphere t c.args.how ch closed c.first-thread.ensures seen),
          search rules,
        ),
      ),
    )
