-- What a recording notes of a commit, a DMA and an interrupt is what the point adds to the log.
use Rattle.std.proofs.Common.{◌≡◌, ℕ, suc, ◌+◌, ◌<◌, Bool, true, false, ◌&&◌, eqb, List, [], ◌∷◌, ◌++◌, length, Option, Some, None, refl, sym, ap, ◌∙◌, arith}
use Rattle.std.proofs.lemmas.List.{append-nil, length-append}
use Rattle.std.proofs.lemmas.Grind.{flat_map-append}
use Rattle.dl_entry.specs.declared.Actor.{Actor}
use Rattle.dl_entry.specs.declared.CommitKind.{CommitKind}
use Rattle.dl_entry.specs.declared.Input.{Input}
use Rattle.dl_entry.specs.declared.Point.{Point}
use Rattle.dl_entry.specs.Numbers.{most_threads}
use Rattle.spec_log.specs.declared.ModeName.{ModeName}
use Rattle.spec_log.specs.declared.Interrupt.{Interrupt}
use Rattle.spec_log.specs.declared.DmaRecord.{DmaRecord}
use Rattle.spec_log.specs.declared.ShortSize.{ShortSize}
use Rattle.spec_log.specs.declared.Sizes.{Sizes}
use Rattle.spec_log.specs.declared.LogParts.{LogParts}
use Rattle.spec_log.specs.Versions.{new_threads}
use Rattle.spec_play.specs.Effects.{dma_commit}
use Rattle.spec_log.specs.Noting.{order_with}
use Rattle.spec_play.specs.Verdicts.{interrupt_at}
use Rattle.spec_play.specs.Recording.{noted, input_noted, dma_noted, interrupt_noted}
use Rattle.spec_sphere.specs.sphere.Logged.{Supplied, actors_of, is_short_chunk, shorts_of, interrupts_of, listed, inputs_of, data_at, dmas_of, order_in, sizes_in, all_shorts, all_interrupts, logged_after}
use Rattle.spec_sphere.proofs.Logs.Inserting.{with_size}
use Rattle.spec_sphere.proofs.Logs.Lookups.{none-there}
use Rattle.spec_sphere.proofs.Logs.Growing.{ThreadCommit}
use Rattle.spec_sphere.proofs.Logs.Entries.{are-below, placed-behind, part-none}
use Rattle.spec_sphere.proofs.Points.OneMore.{points_so, points-more, commits_of, actors-append, sizes-append, shorts-append, are-shorts, interrupts-append, are-ints, dmas-append, unchanged, nothing_behind, shorts_of_other, shorts_of_own, shorts_of_whole, ints_of_commit, ints_of_other, ints_of_own}

-- ---- order and count

order_more : (mode : ModeName) (actor : Actor) (ps : List Point) (q : Point) → actors_of (q ∷ []) ≡ actor ∷ [] → order_with mode (order_in mode ps) actor ≡ order_in mode (ps ++ q ∷ [])
order_more ModeName.OrderSize actor ps q is = sym (actors-append ps (q ∷ []) ∙ ap (λ (as_ : List Actor). actors_of ps ++ as_) is)
order_more ModeName.OrderOnly actor ps q is = sym (actors-append ps (q ∷ []) ∙ ap (λ (as_ : List Actor). actors_of ps ++ as_) is)
order_more ModeName.Picolog actor ps q is = refl

order_same : (mode : ModeName) (ps : List Point) (q : Point) → actors_of (q ∷ []) ≡ [] → order_in mode ps ≡ order_in mode (ps ++ q ∷ [])
order_same ModeName.OrderSize ps q is = sym (nothing_behind (actors_of ps) _ (actors_of (q ∷ [])) (actors-append ps (q ∷ [])) is)
order_same ModeName.OrderOnly ps q is = sym (nothing_behind (actors_of ps) _ (actors_of (q ∷ [])) (actors-append ps (q ∷ [])) is)
order_same ModeName.Picolog ps q is = refl

count_of_more : (ps : List Point) (q : Point) (n : ℕ) → length (actors_of (q ∷ [])) ≡ n → length (actors_of ps) + n ≡ length (actors_of (ps ++ q ∷ []))
count_of_more ps q n is = let a = ap (λ (as_ : List Actor). length as_) (actors-append ps (q ∷ [])) in let b = length-append (actors_of ps) (actors_of (q ∷ [])) in omega arith

abbrev by_thread : (moment i thread : ℕ) → CommitKind → (size : ℕ) → (short : Bool) → Point
by_thread moment i k kind size short = Point.Commit moment i (Actor.Thread k) kind size short

-- the point of a commit of a thread, with what came for it
abbrev pub point_of : (moment i size : ℕ) → CommitKind → (short : Bool) → ThreadCommit → Supplied
point_of moment i size kind short c = record { point = by_thread moment i c.thread kind size short; input = c.input; bytes = [] }

-- after so many commits, and of thread k after `done k`
module _ (done : ℕ → ℕ) (base : ℕ) where
  -- ---- sizes

  shorts_more : (b : Bool) (ps : List Point) (moment i k n size : ℕ) (kind : CommitKind) (short : Bool) → k < most_threads → n ≡ done k + commits_of k ps → is_short_chunk kind short ≡ b
      → with_size (Sizes.Short (all_shorts done ps)) (Actor.Thread k) n size b ≡ Sizes.Short (all_shorts done (ps ++ by_thread moment i k kind size short ∷ []))
  shorts_more true ps moment i k n size kind short l is e =
      let q = by_thread moment i k kind size short in
      ap (λ (ss : List ShortSize). Sizes.Short ss)
      (placed-behind (λ (s : ShortSize). s.thread) (λ (s : ShortSize). s.index) (λ (j : ℕ). shorts_of j (done j) ps) (λ (j : ℕ). shorts_of j (done j) (ps ++ q ∷ [])) (λ (j : ℕ). done j + commits_of j ps)
      (record { thread = k; index = n; size = size }) l (are-shorts k (done k) n ps (omega arith)) (λ j. are-shorts j (done j) (done j + commits_of j ps) ps (omega arith))
      (λ j ne. nothing_behind (shorts_of j (done j) ps) _ _ (shorts-append j (done j) ps (q ∷ [])) (shorts_of_other k j (done j + commits_of j ps) moment i size kind short ne))
      (shorts-append k (done k) ps (q ∷ [])
      ∙ ap (λ (ss : List ShortSize). shorts_of k (done k) ps ++ ss)
      (shorts_of_own k (done k + commits_of k ps) moment i size kind short e ∙ (let h : done k + commits_of k ps ≡ n = omega arith in ap (λ (m : ℕ). record { thread = k; index = m; size = size } ∷ []) h))))
  shorts_more false ps moment i k n size kind short l is e =
      let q = by_thread moment i k kind size short in
      ap (λ (ss : List ShortSize). Sizes.Short ss)
      (unchanged (λ (j : ℕ). shorts_of j (done j) ps) (λ (j : ℕ). shorts_of j (done j) (ps ++ q ∷ []))
      (λ j. nothing_behind (shorts_of j (done j) ps) _ _ (shorts-append j (done j) ps (q ∷ [])) (shorts_of_whole k j (done j + commits_of j ps) moment i size kind short e)))

  sizes_more : (mode : ModeName) (ps : List Point) (moment i k n size : ℕ) (kind : CommitKind) (short : Bool) → k < most_threads → n ≡ done k + commits_of k ps
      → with_size (sizes_in mode done ps) (Actor.Thread k) n size (is_short_chunk kind short) ≡ sizes_in mode done (ps ++ by_thread moment i k kind size short ∷ [])
  sizes_more ModeName.OrderSize ps moment i k n size kind short l is = ap (λ (ns : List ℕ). Sizes.Each ns) (sym (sizes-append ps (by_thread moment i k kind size short ∷ [])))
  sizes_more ModeName.OrderOnly ps moment i k n size kind short l is = shorts_more (is_short_chunk kind short) ps moment i k n size kind short l is refl
  sizes_more ModeName.Picolog ps moment i k n size kind short l is = shorts_more (is_short_chunk kind short) ps moment i k n size kind short l is refl

  no_shorts : (ps : List Point) (q : Point) → ((j n : ℕ) → shorts_of j n (q ∷ []) ≡ []) → all_shorts done ps ≡ all_shorts done (ps ++ q ∷ [])
  no_shorts ps q none =
      unchanged (λ (j : ℕ). shorts_of j (done j) ps) (λ (j : ℕ). shorts_of j (done j) (ps ++ q ∷ []))
      (λ j. nothing_behind (shorts_of j (done j) ps) _ _ (shorts-append j (done j) ps (q ∷ [])) (none j (done j + commits_of j ps)))

  sizes_of_dma : (mode : ModeName) (ps : List Point) (moment i n : ℕ) (kind : CommitKind) (short : Bool)
      → with_size (sizes_in mode done ps) Actor.Dma n 0 false ≡ sizes_in mode done (ps ++ Point.Commit moment i Actor.Dma kind 0 short ∷ [])
  sizes_of_dma ModeName.OrderSize ps moment i n kind short = ap (λ (ns : List ℕ). Sizes.Each ns) (sym (sizes-append ps (Point.Commit moment i Actor.Dma kind 0 short ∷ [])))
  sizes_of_dma ModeName.OrderOnly ps moment i n kind short = ap (λ (ss : List ShortSize). Sizes.Short ss) (no_shorts ps _ (λ j m. refl))
  sizes_of_dma ModeName.Picolog ps moment i n kind short = ap (λ (ss : List ShortSize). Sizes.Short ss) (no_shorts ps _ (λ j m. refl))

  sizes_same : (mode : ModeName) (ps : List Point) (moment i k value : ℕ) → sizes_in mode done ps ≡ sizes_in mode done (ps ++ Point.Raise moment i k value ∷ [])
  sizes_same ModeName.OrderSize ps moment i k value = ap (λ (ns : List ℕ). Sizes.Each ns) (sym (nothing_behind _ _ _ (sizes-append ps (Point.Raise moment i k value ∷ [])) refl))
  sizes_same ModeName.OrderOnly ps moment i k value = ap (λ (ss : List ShortSize). Sizes.Short ss) (no_shorts ps _ (λ j m. refl))
  sizes_same ModeName.Picolog ps moment i k value = ap (λ (ss : List ShortSize). Sizes.Short ss) (no_shorts ps _ (λ j m. refl))

  -- ---- interrupts

  no_interrupts : (ps : List Point) (moment i size : ℕ) (actor : Actor) (kind : CommitKind) (short : Bool) → all_interrupts done ps ≡ all_interrupts done (ps ++ Point.Commit moment i actor kind size short ∷ [])
  no_interrupts ps moment i size actor kind short =
      let q = Point.Commit moment i actor kind size short in
      unchanged (λ (j : ℕ). interrupts_of j (done j) ps) (λ (j : ℕ). interrupts_of j (done j) (ps ++ q ∷ []))
      (λ j. nothing_behind (interrupts_of j (done j) ps) _ _ (interrupts-append j (done j) ps (q ∷ [])) (ints_of_commit j (done j + commits_of j ps) moment i size actor kind short))

  interrupts_more : (mode : ModeName) (s : ℕ) (log : LogParts) (ps : List Point) (moment i k n value : ℕ) → k < most_threads → n ≡ done k + commits_of k ps → log.interrupts ≡ all_interrupts done ps → interrupt_at (all_interrupts done ps) k n ≡ None
      → (interrupt_noted k n value log).interrupts ≡ all_interrupts done (ps ++ Point.Raise moment i k value ∷ [])
  interrupts_more mode s log ps moment i k n value l is e none =
      let q = Point.Raise moment i k value in
      let own = part-none (λ (r : Interrupt). eqb r.thread k && eqb r.index n) (λ (j : ℕ). interrupts_of j (done j) ps) k l (none-there (all_interrupts done ps) k n none) in
      (λ h. (interrupt_noted k n value (record log { interrupts = e h })).interrupts)
      ∙ placed-behind (λ (r : Interrupt). r.thread) (λ (r : Interrupt). r.index) (λ (j : ℕ). interrupts_of j (done j) ps) (λ (j : ℕ). interrupts_of j (done j) (ps ++ q ∷ [])) (λ (j : ℕ). suc (done j + commits_of j ps))
      (record { thread = k; index = n; value = value }) l (are-below (λ (r : Interrupt). r.thread) (λ (r : Interrupt). r.index) k n (interrupts_of k (done k) ps) (are-ints k (done k) (suc n) ps (omega arith)) own) (λ j. are-ints j (done j) (suc (done j + commits_of j ps)) ps (omega arith))
      (λ j ne. nothing_behind (interrupts_of j (done j) ps) _ _ (interrupts-append j (done j) ps (q ∷ [])) (ints_of_other k j (done j + commits_of j ps) moment i value ne))
      (interrupts-append k (done k) ps (q ∷ [])
      ∙ ap (λ (rs : List Interrupt). interrupts_of k (done k) ps ++ rs)
      (ints_of_own k (done k + commits_of k ps) moment i value ∙ (let h : done k + commits_of k ps ≡ n = omega arith in ap (λ (m : ℕ). record { thread = k; index = m; value = value } ∷ []) h)))

  -- ---- inputs and the data of DMAs

  input_listed : (o : Option Input) (log : LogParts) → input_noted o log ≡ record log { inputs = log.inputs ++ listed o }
  input_listed None log = (λ h. record log { inputs = sym (append-nil log.inputs) h })
  input_listed (Some r) log = refl

  inputs_more : (cs : List Supplied) (c : Supplied) → inputs_of cs ++ listed c.input ≡ inputs_of (cs ++ c ∷ [])
  inputs_more cs c =
      sym (flat_map-append (λ (d : Supplied). listed d.input) cs (c ∷ []) ∙ ap (λ (rs : List Input). inputs_of cs ++ rs) (append-nil (listed c.input)))

  inputs_same : (cs : List Supplied) (c : Supplied) → c.input ≡ None → inputs_of cs ≡ inputs_of (cs ++ c ∷ [])
  inputs_same cs c none = sym (append-nil (inputs_of cs)) ∙ sym (ap (λ (o : Option Input). inputs_of cs ++ listed o) none) ∙ inputs_more cs c

  dmas_more : (cs : List Supplied) (c : Supplied) (ds : List DmaRecord) → data_at (base + length (actors_of (points_so cs))) c.point c.bytes ≡ ds → dmas_of base cs ++ ds ≡ dmas_of base (cs ++ c ∷ [])
  dmas_more cs c ds is =
      sym (dmas-append base cs (c ∷ []) ∙ ap (λ (rs : List DmaRecord). dmas_of base cs ++ rs) (append-nil (data_at (base + length (actors_of (points_so cs))) c.point c.bytes) ∙ is))

  dmas_same : (cs : List Supplied) (c : Supplied) → data_at (base + length (actors_of (points_so cs))) c.point c.bytes ≡ [] → dmas_of base cs ≡ dmas_of base (cs ++ c ∷ [])
  dmas_same cs c none = sym (append-nil (dmas_of base cs)) ∙ dmas_more cs c [] none

  -- ---- what is noted

  -- what a recording notes of a commit of a thread is what its point adds to the log of the points before it
  pub commit-logged : (version : ℕ) (mode : ModeName) (s : ℕ) (cs : List Supplied) (c : ThreadCommit) (moment i size : ℕ) (kind : CommitKind) (short : Bool) → c.thread < most_threads → c.before.commits ≡ done c.thread + commits_of c.thread (points_so cs) → c.commit.actor ≡ Actor.Thread c.thread → c.commit.size ≡ size → c.short ≡ is_short_chunk kind short
      → input_noted c.input (noted c.commit c.before.commits c.short (logged_after version mode s done base cs)) ≡ logged_after version mode s done base (cs ++ point_of moment i size kind short c ∷ [])
  commit-logged version mode s cs c moment i size kind short l is actor sized early =
      let k = c.thread in
      let n = c.before.commits in
      let ps = points_so cs in
      let q = by_thread moment i k kind size short in
      let x : Supplied = point_of moment i size kind short c in
      let all = sym (points-more cs x) in
      ap (λ (b : Bool). input_noted c.input (noted c.commit n b (logged_after version mode s done base cs))) early
      ∙ input_listed c.input (noted c.commit n (is_short_chunk kind short) (logged_after version mode s done base cs))
      ∙ (λ h. record {
        version = version;
        threads = new_threads version;
        mode = mode;
        s = s;
        count = (count_of_more ps q 1 refl ∙ ap (λ (qs : List Point). length (actors_of qs)) all) h;
        order = (ap (λ (a : Actor). order_with mode (order_in mode ps) a) actor ∙ order_more mode (Actor.Thread k) ps q refl ∙ ap (order_in mode) all) h;
        sizes = ((λ j. with_size (sizes_in mode done ps) (actor j) n (sized j) (is_short_chunk kind short)) ∙ sizes_more mode ps moment i k n size kind short l is ∙ ap (sizes_in mode done) all) h;
        interrupts = (no_interrupts ps moment i size (Actor.Thread k) kind short ∙ ap (all_interrupts done) all) h;
        inputs = inputs_more cs x h;
        dmas = dmas_same cs x refl h;
      })

  -- of a DMA, which is the sphere's n-th commit
  pub dma-logged : (version : ℕ) (mode : ModeName) (s : ℕ) (cs : List Supplied) (moment i n : ℕ) (kind : CommitKind) (short : Bool) (bytes : List ℕ) → n ≡ base + length (actors_of (points_so cs))
      → dma_noted n bytes (noted dma_commit n false (logged_after version mode s done base cs)) ≡ logged_after version mode s done base (cs ++ record { point = Point.Commit moment i Actor.Dma kind 0 short; input = None; bytes = bytes } ∷ [])
  dma-logged version mode s cs moment i n kind short bytes is =
      let ps = points_so cs in
      let q = Point.Commit moment i Actor.Dma kind 0 short in
      let c : Supplied = record { point = q; input = None; bytes = bytes } in
      let all = sym (points-more cs c) in
      let here : base + length (actors_of ps) ≡ n = omega arith in
      (λ h. record {
        version = version;
        threads = new_threads version;
        mode = mode;
        s = s;
        count = (count_of_more ps q 1 refl ∙ ap (λ (qs : List Point). length (actors_of qs)) all) h;
        order = (order_more mode Actor.Dma ps q refl ∙ ap (order_in mode) all) h;
        sizes = (sizes_of_dma mode ps moment i n kind short ∙ ap (sizes_in mode done) all) h;
        interrupts = (no_interrupts ps moment i 0 Actor.Dma kind short ∙ ap (all_interrupts done) all) h;
        inputs = inputs_same cs c refl h;
        dmas = dmas_more cs c (record { position = n; bytes = bytes } ∷ []) (ap (λ (m : ℕ). record { position = m; bytes = bytes } ∷ []) here) h;
      })

  -- what a recording notes of an interrupt of thread k, after so many of its commits, is what its point adds to the log
  pub raise-logged : (version : ℕ) (mode : ModeName) (s : ℕ) (cs : List Supplied) (moment i k n value : ℕ) → k < most_threads → n ≡ done k + commits_of k (points_so cs) → interrupt_at (all_interrupts done (points_so cs)) k n ≡ None
      → interrupt_noted k n value (logged_after version mode s done base cs) ≡ logged_after version mode s done base (cs ++ record { point = Point.Raise moment i k value; input = None; bytes = [] } ∷ [])
  raise-logged version mode s cs moment i k n value l is none =
      let ps = points_so cs in
      let q = Point.Raise moment i k value in
      let c : Supplied = record { point = q; input = None; bytes = [] } in
      let all = sym (points-more cs c) in
      (λ h. record {
        version = version;
        threads = new_threads version;
        mode = mode;
        s = s;
        count = (sym (ap (λ (as_ : List Actor). length as_) (nothing_behind (actors_of ps) _ (actors_of (q ∷ [])) (actors-append ps (q ∷ [])) refl)) ∙ ap (λ (qs : List Point). length (actors_of qs)) all) h;
        order = (order_same mode ps q refl ∙ ap (order_in mode) all) h;
        sizes = (sizes_same mode ps moment i k value ∙ ap (sizes_in mode done) all) h;
        interrupts = (interrupts_more mode s (logged_after version mode s done base cs) ps moment i k n value l is refl none ∙ ap (all_interrupts done) all) h;
        inputs = inputs_same cs c refl h;
        dmas = dmas_same cs c refl h;
      })
