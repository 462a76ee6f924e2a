-- The strata that a log is cut into are parallel, if their log says what the log says.
use Rattle.std.proofs.Common.{◌≡◌, ◌≢◌, ℕ, ◌+◌, ◌<◌, Bool, true, false, List, [], length, map, None, refl, sym, ap, ◌∙◌, subst, arith}
use Rattle.std.specs.Prelude.{slice_get, nat_lt, if◌then◌else◌}
use Rattle.std.specs.List.{flat_map}
use Rattle.dl_entry.specs.declared.Commit.{Commit}
use Rattle.dl_entry.specs.declared.End.{End}
use Rattle.spec_isa.specs.declared.thread.Parts.{Parts}
use Rattle.spec_log.specs.declared.LogParts.{LogParts}
use Rattle.spec_log.specs.declared.ModeName.{ModeName}
use Rattle.spec_play.specs.Progress.{position}
use Rattle.spec_play.specs.declared.used.Used.{Used}
use Rattle.spec_play.specs.Turns.{Ended, are_sizes_used, has_left_over, at_end}
use Rattle.spec_play.specs.Plays.{Played, opened, plays, play, FitsImage}
use Rattle.spec_strata.specs.declared.stratum.Stratum.{Stratum}
use Rattle.spec_strata.specs.declared.strata.StrataParts.{StrataParts}
use Rattle.spec_strata.specs.Strata.{commits_in_all}
use Rattle.spec_strata.specs.Canonical.{order_of, canonical}
use Rattle.spec_strata.specs.InPlay.{IsLike}
use Rattle.spec_strata.specs.Blocks.{Block, in_canonical_order}
use Rattle.spec_strata.specs.Relogged.{SaysAll}
use Rattle.spec_strata.specs.OnImages.{kinds_of, conflicts_at, IsParallelOn}
use Rattle.spec_strata.specs.Making.{made}
use Rattle.spec_strata.proofs.Images.Following.{Over, Follows, over-is, follows}
use Rattle.spec_strata.proofs.Images.Going.{kind_in, length-of}
use Rattle.spec_strata.proofs.Making.Cutting.{CutInto, stratum_for, cutting}
use Rattle.spec_strata.proofs.Making.Playing.{Through, through}

-- ---- what is left over

-- nothing is left over
pub record NothingLeft (log : LogParts) (u : Used) (ts : List Parts) : Type 0 where
  pub sizes : are_sizes_used ts log.sizes ≡ true
  pub interrupts : nat_lt u.interrupts (length log.interrupts) ≡ false
  pub inputs : nat_lt u.inputs (length log.inputs) ≡ false
  pub dmas : nat_lt u.dmas (length log.dmas) ≡ false

record Four (a b c d : Bool) : Type 0 where
  one : a ≡ true
  two : b ≡ false
  three : c ≡ false
  four : d ≡ false

split : (a b c d : Bool) → (if a then if b then true else if c then true else d else true) ≡ false → Four a b c d
split true false false d e = record { one = refl; two = refl; three = refl; four = e }
split true false true d e = cc
split true true c d e = cc
split false b c d e = cc

-- if nothing is left over, all sizes, interrupts, inputs and DMA records of the log are used
pub nothing-left : (log : LogParts) (u : Used) (ts : List Parts) → has_left_over log u ts ≡ false → NothingLeft log u ts
unfolding has_left_over
nothing-left log u ts e =
    let s = split (are_sizes_used ts log.sizes) (nat_lt u.interrupts (length log.interrupts)) (nat_lt u.inputs (length log.inputs)) (nat_lt u.dmas (length log.dmas)) e in
    record { sizes = s.one; interrupts = s.two; inputs = s.three; dmas = s.four }

left-none : (log : LogParts) (u : Used) (ts : List Parts) → NothingLeft log u ts → has_left_over log u ts ≡ false
unfolding has_left_over
left-none log u ts n =
    (λ i. if n.sizes i then if n.interrupts i then true else if n.inputs i then true else n.dmas i else true)

end-false : (i n : ℕ) (b : Bool) → at_end i b ≡ Ended (End.Complete n) → b ≡ false
end-false i n true e = cc
end-false i n false e = refl

-- a play that is complete has left nothing over
pub over-left : (log : LogParts) (y : Played) → Over log y → NothingLeft log y.used y.threads
over-left log y o =
    let d = o.done in
    nothing-left log y.used y.threads
    (end-false (position y.progress) log.count (has_left_over log y.used y.threads)
    (sym (over-is log y.progress y.used y.threads (omega (arith, d))) ∙ sym o.looked ∙ o.complete))

-- ---- both plays

-- the strata are parallel, and their log plays as the log does
pub record GoAlike (log : LogParts) (v : StrataParts) (memory : List ℕ) (entry : ℕ) : Type 0 where
  pub parallel : IsParallelOn v memory entry
  pub like : IsLike (play log memory entry) (play (canonical v) memory entry)

ordered : ModeName.OrderOnly ≢ ModeName.Picolog
ordered e = cc

alike-through : (log : LogParts) (v : StrataParts) (memory : List ℕ) (entry counted : ℕ) (bs : List Block) → in_canonical_order log (opened log memory entry) bs ≡ play log memory entry
    → v.strata ≡ map (stratum_for counted) bs → SaysAll log (canonical v) → are_sizes_used (play log memory entry).threads (canonical v).sizes ≡ true
    → Through log (canonical v) (opened log memory entry) (opened (canonical v) memory entry) bs (map (stratum_for counted) bs) → GoAlike log v memory entry
alike-through log v memory entry counted bs last are says sizes t =
    let other : LogParts = canonical v in
    let z : Played = opened other memory entry in
    let xs : List Stratum = map (stratum_for counted) bs in
    let end : Played = play log memory entry in
    let n : ℕ = commits_in_all xs in
    let count : other.count ≡ n = ap (λ (ys : List Stratum). commits_in_all ys) are in
    let same : play other memory entry ≡ plays other z n = ap (plays other z) count in
    let like : IsLike end (plays other z n) = subst (λ (w : Played). IsLike w (plays other z n)) last t.like in
    let over : Over log end = subst (Over log) last t.over in
    let left : NothingLeft log end.used end.threads = over-left log end over in
    let none : has_left_over other (plays other z n).used (plays other z n).threads ≡ false =
    (λ i. has_left_over other (like.used i) (like.threads i))
    ∙ left-none other end.used end.threads
    (record {
      sizes = sizes;
      interrupts = ap (λ is. nat_lt end.used.interrupts (length is)) says.alike.interrupts ∙ left.interrupts;
      inputs = ap (λ is. nat_lt end.used.inputs (length is)) says.inputs ∙ left.inputs;
      dmas = ap (λ ds. nat_lt end.used.dmas (length ds)) says.dmas ∙ left.dmas;
    }) in
    let at_ : position (plays other z n).progress ≡ other.count = (let p = t.position in omega (arith, p, count)) in
    let now : (plays other z n).now ≡ Ended (End.Complete other.count) =
    t.left.looked ∙ over-is other (plays other z n).progress (plays other z n).used (plays other z n).threads (omega (arith, at_))
    ∙ ap (at_end (position (plays other z n).progress)) none
    ∙ ap (λ (i : ℕ). Ended (End.Complete i)) at_ in
    record {
      parallel = record {
        fits = ap (λ (w : Played). w.now) same ∙ now;
        kinds = ap (λ (w : Played). map kind_in w.progress.commits) same ∙ t.left.kinds_are ∙ ap (λ (ys : List Stratum). flat_map kinds_of ys) (sym are);
        apart = subst (λ (ys : List Stratum). (i : ℕ) → conflicts_at other z ys i ≡ false) (sym are) t.apart;
      };
      like = subst (IsLike end) (sym same) like;
    }

-- the strata that a log is cut into
pub made-alike : (log : LogParts) (memory : List ℕ) (entry : ℕ) → 0 < log.s → FitsImage log memory entry → let v = made log memory entry in SaysAll log (canonical v)
    → are_sizes_used (play log memory entry).threads (canonical v).sizes ≡ true → GoAlike log v memory entry
made-alike log memory entry some fits says sizes =
    let v : StrataParts = made log memory entry in
    let other : LogParts = canonical v in
    let start : Played = opened log memory entry in
    let z : Played = opened other memory entry in
    let end : Played = play log memory entry in
    let cs : List Commit = end.progress.commits in
    let counted : ℕ = length end.threads in
    let f : Follows log start cs = follows log memory entry fits in
    let n : length cs ≡ log.count = (let h = length-of log start cs f in omega (arith, h)) in
    let whole : plays log start (length cs) ≡ end = ap (plays log start) n in
    let c : CutInto counted log start (plays log start (length cs)) [] v.strata =
    cutting counted log start cs f (let e = ap (λ (w : Played). length w.threads) whole in omega (arith, e)) start [] None refl in
    let xs : List Stratum = map (stratum_for counted) c.blocks in
    let are : v.strata ≡ xs = c.are in
    alike-through log v memory entry counted c.blocks (c.last ∙ whole) are says sizes
    (through counted log other (record { says = says; some = some; ordered = ordered }) c.blocks start z c.go
    (record { memory = refl; threads = refl; request = refl; used = refl; first = refl; count = refl; each = λ by. refl })
    refl
    (λ j. let e : 0 + j ≡ j = omega arith in ap (slice_get other.order) e ∙ ap (λ (ys : List Stratum). slice_get (flat_map order_of ys) j) are)
    (let e = ap (λ (ys : List Stratum). commits_in_all ys) are in omega (arith, e)))
