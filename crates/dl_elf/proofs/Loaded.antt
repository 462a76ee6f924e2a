-- With one more program header there is one more loaded segment, or as many.
use Rattle.std.proofs.Common.{◌≡◌, ℕ, ◌+◌, ◌*◌, Bool, true, false, cond, List, [], ◌∷◌, ◌++◌, inl, inr, refl, sym, ap, ◌∙◌, eq-eqb, append-nil, arith}
use Rattle.std.proofs.lemmas.List.FromFn.{filter_of_map_range_with_len_more}
use Rattle.std.proofs.lemmas.Bool.Decides.{eqb_tells}
use Rattle.dl_elf.specs.declared.segment.Segment.{Segment}
use Rattle.dl_elf.specs.Fields.{table_of}
use Rattle.dl_elf.specs.Segments.{segment_at, is_loaded, first_loaded}

-- of the first 0 program headers none is loaded
pub first_loaded-none : (file : List ℕ) → first_loaded file 0 ≡ []
unfolding first_loaded
first_loaded-none file = refl

-- the segment, if it is loaded
abbrev kept : Bool → Segment → List Segment
kept loaded s = cond loaded (s ∷ []) []

more : (file : List ℕ) (i : ℕ) (s : Segment) (loaded : Bool) → s ≡ segment_at file (table_of file + 32 * i) → is_loaded s ≡ loaded → first_loaded file (i + 1) ≡ first_loaded file i ++ kept loaded s
unfolding first_loaded
more file i s loaded is test =
    filter_of_map_range_with_len_more is_loaded (λ k. segment_at file (table_of file + 32 * k)) 0 i i (omega arith)
    ∙ ap (λ (x : Segment). first_loaded file i ++ kept (is_loaded x) x) (sym is)
    ∙ ap (λ b. first_loaded file i ++ kept b s) test

-- a program header of kind 1 adds its segment to the loaded ones
pub first_loaded-yes : (file : List ℕ) (i : ℕ) (s : Segment) (now before : List Segment) → s ≡ segment_at file (table_of file + 32 * i) → s.kind ≡ 1 → before ≡ first_loaded file i → now ≡ before ++ s ∷ [] → now ≡ first_loaded file (i + 1)
first_loaded-yes file i s now before is loaded old new =
    new ∙ ap (λ xs. xs ++ s ∷ []) old ∙ sym (more file i s true is (eq-eqb s.kind 1 loaded))

-- a program header of another kind adds no segment to the loaded ones
pub first_loaded-no : (file : List ℕ) (i : ℕ) (s : Segment) (now : List Segment) → s ≡ segment_at file (table_of file + 32 * i) → (s.kind ≡ 1 → ⊥) → now ≡ first_loaded file i → now ≡ first_loaded file (i + 1)
first_loaded-no file i s now is other old =
    let test : is_loaded s ≡ false = elim (eqb_tells s.kind 1) [ inl h ↦ absurd (other h.1) | inr h ↦ h.0 ] in
    old ∙ sym (append-nil _) ∙ sym (more file i s false is test)
