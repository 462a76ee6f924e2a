use Rattle.std.proofs.Common.{◌≡◌, ℕ, ◌+◌, ◌/◌, ◌<◌, ◌≤◌, List, [], ◌∷◌, length, drop, IfOk, refl, sym, ap, ◌∙◌, subst, arith}
use Rattle.std.proofs.Math.ListN.{drop_of_length-le}
use Rattle.std.proofs.lemmas.List.{length-replicate}
use Rattle.dl_entry.specs.declared.Commit.{Commit}
use Rattle.spec_log.specs.declared.LogParts.{LogParts}
use Rattle.spec_play.specs.Plays.{Played, opened, play_one, plays}
use Rattle.spec_strata.specs.declared.stratum.Stratum.{Stratum}
use Rattle.spec_strata.specs.declared.touch.Touch.TheVariants.{Untouched}
use Rattle.spec_strata.specs.Making.{Cuts, cut_on, no_cuts, actor_cut, cut_off}
use Rattle.spec_strata.proofs.Images.Following.{Follows, follows}
use Rattle.spec_strata.proofs.Plays.Canonical.{plays-shift}
use Rattle.dl_serial.specs.Playing.{Playing}
use Rattle.dl_strata.specs.Cutting.{Cutting, HasCut, IsNextCommit}
use Rattle.dl_strata.proofs.Adding.{one-size, can-add, next-commit, closed-cut, all-commits, next-of}
use Rattle.dl_strata.proofs.stratifying.cut_in.Goals as goal

pub loop-commit-init : goal.loop-commit-init
loop-commit-init g c =
    let log = c.args.log.now in
    let i = c.args.image.now in
    let cs = c.args.commits.now in
    let start : Played = opened log i.bytes i.entry in
    let is : c.in_ok-player.player.played ≡ start = ap (λ (p : Playing). p.played) c.in_ok-player.ensures in
    let made = c.in_ok-cutter.ensures in
    let all : length cs ≡ log.count = ap (λ (xs : List Commit). length xs) c.requires.commits ∙ all-commits log i.bytes i.entry c.requires.fits in
    let end : length (plays log c.in_ok-player.player.played (length cs)).threads ≡ length (plays log start log.count).threads = (λ j. length (plays log (is j) (all j)).threads) in
    let words : length c.in_ok-cutter.cutter.table.touches ≡ length c.bytes.result.now / 4 =
    ap (λ (x : Cutting). length x.table.touches) made ∙ length-replicate (length c.bytes.result.now / 4) Untouched in
    let same = ap (λ (xs : List ℕ). length xs) c.bytes.ensures.value in
    let whole = c.bytes.ensures.image.whole in
    let pages = c.bytes.ensures.image.size.pages in
    let size = ap (λ (y : Played). length y.memory) is in
    let counted = c.requires.counted in
    let strata = ap (λ (x : Cutting). x.table.stratum) made in
    record {
      log = ap (λ (p : Playing). p.log) c.in_ok-player.ensures;
      follows = subst (λ (y : Played). Follows log y cs) (sym is) (subst (Follows log start) (sym c.requires.commits) (follows log i.bytes i.entry c.requires.fits));
      most = omega (arith, end, counted);
      counted = ap (λ (x : Cutting). x.counted) made;
      words = omega (arith, words, same, whole, pages, size);
      strata = omega (arith, strata);
      cut = (
        no_cuts,
        (
          subst (λ (x : Cutting). HasCut x c.in_ok-player.player.played no_cuts) (sym made) (record { strata = refl; present = tt }),
          ap (λ (y : Played). cut_on c.args.counted log y cs no_cuts) is,
        ),
      );
    }

pub add-requires : goal.add-requires
add-requires g c =
    let log = c.args.log.now in
    let i = c.args.image.now in
    let cs = c.args.commits.now in
    let now = c.loop-commit in
    let p = now.player in
    let n : ℕ = now.commit-index in
    let commit = c.commit-item.result in
    let split = next-of cs n commit c.loop-commit-test.true c.commit-item.is in
    let least = c.requires.good.s.0 in
    let some : 0 < log.s = omega (arith, least) in
    let go : Follows log p.played (commit ∷ drop (n + 1) cs) = subst (Follows log p.played) split now.invariant.follows in
    let most = now.invariant.most in
    let threads = ap (λ (xs : List Commit). length (plays log p.played (length xs)).threads) split in
    let counted = now.invariant.counted in
    let all : length cs ≡ log.count = ap (λ (xs : List Commit). length xs) c.requires.commits ∙ all-commits log i.bytes i.entry c.requires.fits in
    let count = c.requires.good.count in
    let below = c.loop-commit-test.true in
    let strata = now.invariant.strata in
    let into = sym now.invariant.log in
    can-add p now.cutter commit (drop (n + 1) cs) c.look_on.new.footprint (subst (λ (l : LogParts). 0 < l.s) into some) (subst (λ (l : LogParts). Follows l p.played (commit ∷ drop (n + 1) cs)) into go)
    c.in_ok-look_on.ensures.footprint now.invariant.words
    (subst (λ (l : LogParts). length (plays l p.played (length (commit ∷ drop (n + 1) cs))).threads ≤ now.cutter.counted) into (omega (arith, most, threads, counted)))
    (omega (arith, strata, below, all, count))

pub loop-commit-preserved : goal.loop-commit-preserved
loop-commit-preserved g c =
    let log = c.args.log.now in
    let cs = c.args.commits.now in
    let now = c.loop-commit in
    let p = now.player in
    let y = p.played in
    let z = c.look_on.new.self.played in
    let n : ℕ = now.commit-index in
    let commit = c.commit-item.result in
    let rest : List Commit = drop (n + 1) cs in
    let split = next-of cs n commit c.loop-commit-test.true c.commit-item.is in
    let least = c.requires.good.s.0 in
    let some : 0 < log.s = omega (arith, least) in
    let go : Follows log y (commit ∷ rest) = subst (Follows log y) split now.invariant.follows in
    let into = sym now.invariant.log in
    let is : z ≡ play_one log y = ap (λ (q : Playing). q.played) c.in_ok-look_on.ensures.played ∙ ap (λ (l : LogParts). play_one l y) now.invariant.log in
    let most = now.invariant.most in
    let threads = ap (λ (xs : List Commit). length (plays log y (length xs)).threads) split in
    let shift = ap (λ (w : Played). length w.threads) (ap (λ (w : Played). plays log w (length rest)) is ∙ plays-shift log y (length rest)) in
    let words = now.invariant.words in
    let kept = c.in_ok-add.ensures.words in
    let size = ap (λ (w : Played). length w.memory) is in
    let same = one-size log y in
    let strata = now.invariant.strata in
    let grown = c.in_ok-add.ensures.stratum in
    let x : Cuts = now.invariant.cut.0 in
    let next : IsNextCommit log y commit c.look_on.new.footprint =
    subst (λ (l : LogParts). IsNextCommit l y commit c.look_on.new.footprint) now.invariant.log
    (next-commit p commit rest c.look_on.new.footprint (subst (λ (l : LogParts). 0 < l.s) into some) (subst (λ (l : LogParts). Follows l y (commit ∷ rest)) into go) c.in_ok-look_on.ensures.footprint) in
    let new : Cuts = actor_cut now.cutter.counted log y commit.actor commit.kind x in
    record {
      log = ap (λ (q : Playing). q.log) c.in_ok-look_on.ensures.played ∙ now.invariant.log;
      follows = subst (λ (w : Played). Follows log w rest) (sym is) go.1;
      most = omega (arith, most, threads, shift);
      counted = c.in_ok-add.ensures.counted ∙ now.invariant.counted;
      words = omega (arith, words, kept, size, same);
      strata = omega (arith, strata, grown);
      cut = (
        new,
        (
          subst (λ (w : Played). HasCut c.add.new.cutter w new) (sym is) (c.in_ok-add.ensures.cut log y x next now.invariant.cut.1.0),
          (λ j. cut_on c.args.counted log (is j) rest (actor_cut (now.invariant.counted j) log y commit.actor commit.kind x))
              ∙ ap (λ (xs : List Commit). cut_on c.args.counted log y xs x) (sym split)
              ∙ now.invariant.cut.1.1,
        ),
      );
    }

pub returns : goal.returns
returns g c =
    let log = c.args.log.now in
    let cs = c.args.commits.now in
    let now = c.loop-commit in
    let y = now.player.played in
    let x : Cuts = now.invariant.cut.0 in
    let none : drop now.commit-index cs ≡ [] = drop_of_length-le cs c.loop-commit-test.false in
    let all = closed-cut now.cutter y x now.invariant.cut.1.0 ∙ ap (λ (k : ℕ). cut_off k x) now.invariant.counted
    ∙ ap (cut_off c.args.counted) (ap (λ (xs : List Commit). cut_on c.args.counted log y xs x) (sym none) ∙ now.invariant.cut.1.1) in
    subst (λ (v : List Stratum). IfOk c.finish.result (λ strata. strata ≡ v)) all c.finish.ensures
