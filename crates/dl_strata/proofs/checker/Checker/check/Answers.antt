use Rattle.std.proofs.Common.{ℕ, inl, inr, List, ◌∷◌, refl, sym, ap, subst}
use Rattle.spec_strata.specs.declared.stratum.Stratum.{Stratum}
use Rattle.spec_strata.specs.Canonical.{rising}
use Rattle.dl_strata.specs.Tables.{Table}
use Rattle.dl_strata.specs.Conflicts.{IsBetween, CanCheck, CanCheckChunks, Checks, ChecksChunks}
use Rattle.dl_strata.specs.declared.checker.Checker.{Checker}
use Rattle.dl_strata.proofs.Checks.{can-begin, chunks-checked, serial-checked, dma-checked}
use Rattle.dl_strata.proofs.checker.Checker.check.Goals as goal

pub check_chunks-requires-clause-next : goal.check_chunks-requires-clause-next
check_chunks-requires-clause-next c =
    let old = c.args.self.now in
    let now : Checker = record { player = old.player; touches = c.begin.new.self; footprint = old.footprint } in
    let touches = ap (λ (t : Table). t.touches) c.begin.ensures in
    subst (λ (counts : List ℕ). CanCheckChunks now (rising 0 counts)) (sym c.as_slice.ensures)
    (can-begin old now c.in-Chunks.counts refl touches (subst (CanCheck old) c.in-Chunks.is c.requires.next))

pub returns-in-Chunks-clause-checked : goal.returns-in-Chunks-clause-checked
returns-in-Chunks-clause-checked c =
    let old = c.args.self.now in
    let now : Checker = record { player = old.player; touches = c.begin.new.self; footprint = old.footprint } in
    let touches = ap (λ (t : Table). t.touches) c.begin.ensures in
    subst (λ (x : Stratum). Checks x old c.check_chunks.result c.check_chunks.new.self) (sym c.in-Chunks.is)
    (chunks-checked old now c.check_chunks.new.self c.in-Chunks.counts c.check_chunks.result refl touches
    (subst (λ (counts : List ℕ). ChecksChunks (rising 0 counts) now c.check_chunks.result c.check_chunks.new.self) c.as_slice.ensures c.check_chunks.ensures.checked))

pub returns-in_ok-look_on-in-Serial-clause-checked : goal.returns-in_ok-look_on-in-Serial-clause-checked
returns-in_ok-look_on-in-Serial-clause-checked c all xs between =
    let old = c.args.self.now in
    let new : Checker = record { player = c.look_on.new.self; touches = old.touches; footprint = c.look_on.new.footprint } in
    let player = c.in_ok-look_on-in-Serial.ensures.played in
    elim c.in-Serial.is [
      | inl s ↦ serial-checked old new s.0 player refl all xs (subst (λ (x : Stratum). IsBetween all old.player old.touches.touches (x ∷ xs)) s.1 between)
      | inr d ↦ dma-checked old new player refl all xs (subst (λ (x : Stratum). IsBetween all old.player old.touches.touches (x ∷ xs)) d between)
    ]
