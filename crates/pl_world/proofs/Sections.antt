-- The rows of a session for all assets, and the cross-section over them.
use Rattle.std.proofs.Common.{◌≡◌, ℕ, suc, ◌+◌, ◌<◌, Bool, true, false, ◌&&◌, ℤ, pos, List, [], ◌∷◌, ◌++◌, map, filter, length, length-append, inl, inr, get_or, Option, Some, None, option_map, slice_get, All, IfSome, refl, sym, ◌∙◌, ap, subst, arith}
use Rattle.std.specs.List.{AllPairs}
use Rattle.std.proofs.lemmas.Bool.{cases_lt}
use Rattle.std.proofs.Math.Bool.{and-true}
use Rattle.std.proofs.Math.ListN.{get_or-append}
use Rattle.std.proofs.Math.Seq.{get_or-append_seam}
use Rattle.std.proofs.lemmas.List.{get_or-map, length-map, ext_get_or}
use Rattle.pl_spec.specs.declared.AssetRow.{AssetRow}
use Rattle.pl_spec.specs.Rounding.{IsCell}
use Rattle.pl_spec.specs.Cells.{is_true}
use Rattle.pl_spec.specs.Parts.{sid_at}
use Rattle.pl_spec.specs.World.{World as SpecWorld, exists, day_of, lives_on}
use Rattle.pl_pipeline.specs.Kind as kinds
use Rattle.pl_pipeline.specs.Kind.{CrossKind}
use Rattle.pl_spec.proofs.Lists.{filter-none}
use Rattle.pl_spec.proofs.Columns.{no_asset, sid-there}
use Rattle.pl_terms.specs.declared.node.TermId.{TermId}
use Rattle.pl_terms.specs.declared.node.Node.{Node}
use Rattle.pl_terms.specs.Kinds.{kind_of}
use Rattle.pl_terms.specs.Nodes.{node_of, graph_of, input_of, number_of}
use Rattle.pl_terms.specs.Checked.{Parts, pipeline_of, IsChecked}
use Rattle.pl_terms.proofs.Graphs.{graph-at}
use Rattle.pl_cross.specs.Section.{HasParameters, is_section}
use Rattle.pl_cross.specs.Arrays.{sid_in, section_at, HasTexts}
use Rattle.pl_cross.specs.Listing.{Fits}
use Rattle.pl_cross.proofs.Allowed.{allowed-right}
use Rattle.pl_lifetimes.specs.Assets.{AreAssets}
use Rattle.pl_lifetimes.proofs.Among.{among-at, is_among}
use Rattle.pl_values.specs.Arrays.{cell_of, is_kept, HasAll, Fills}
use Rattle.pl_values.specs.Inputs.{IsInputRow, IsGroupRow, AreSectionRows}
use Rattle.pl_values.proofs.Given.{section-cell}
use Rattle.pl_world.specs.declared.world.World.{World}
use Rattle.pl_world.specs.Worlds.{world_of}
use Rattle.pl_world.specs.Evaluations.{cell_in, row_in, optional_row_in, lets_pass_at, IsKeepRow, AreRowsOf}
use Rattle.pl_world.proofs.Asked.{inputs-at}

-- ---- the sids of all assets have those that exist

pub kept_ones : (p : AssetRow → Bool) (q : ℕ → Bool) (xs : List AssetRow) → ((i : ℕ) (a : AssetRow) → slice_get xs i ≡ Some a → q a.sid ≡ p a) → map (λ a. a.sid) (filter p xs) ≡ filter q (map (λ a. a.sid) xs)
kept_ones p q [] h = refl
kept_ones p q (x ∷ xs) h = here (p x) refl (kept_ones p q xs (λ i a e. h (suc i) a e))
  where
    here : (b : Bool) → p x ≡ b → map (λ a. a.sid) (filter p xs) ≡ filter q (map (λ a. a.sid) xs) → map (λ a. a.sid) (filter p (x ∷ xs)) ≡ filter q (map (λ a. a.sid) (x ∷ xs))
    here true e ih = let f : q x.sid ≡ true = h 0 x refl ∙ e in rw (e, f, ih) refl
    here false e ih = let f : q x.sid ≡ false = h 0 x refl ∙ e in rw (e, f, ih) refl

pub all_there : (w : SpecWorld) (s : ℕ) → AllPairs (λ x y. x.sid < y.sid) w.assets → HasAll w (map (λ a. a.sid) w.assets) s
all_there w s up = here (day_of w (pos s)) refl
  where
    here : (o : Option ℤ) → day_of w (pos s) ≡ o → HasAll w (map (λ a. a.sid) w.assets) s
    here None e = rw e (filter-none (λ b. false) (map (λ a. a.sid) w.assets) (λ b. refl))
    here (Some day) e = rw e (kept_ones (lives_on day) (is_among (lives_on day) w.assets) w.assets (λ i a f. among-at (lives_on day) w.assets i a up f))

abbrev pub sids_of : List AssetRow → List ℕ
sids_of assets = map (λ a. a.sid) assets

sids-long : (assets : List AssetRow) → length (sids_of assets) ≡ length assets
sids-long assets = length-map assets (λ (a : AssetRow). a.sid)

sids-up : (assets : List AssetRow) → AllPairs (λ x y. x.sid < y.sid) assets → AllPairs (λ x y. x < y) (sids_of assets)
sids-up assets up i j d before within =
    let long = sids-long assets in
    let first : get_or (sids_of assets) i d ≡ (get_or assets i no_asset).sid = get_or-map (λ (a : AssetRow). a.sid) assets i no_asset d (omega arith) in
    let second : get_or (sids_of assets) j d ≡ (get_or assets j no_asset).sid = get_or-map (λ (a : AssetRow). a.sid) assets j no_asset d (omega arith) in
    rw (first, second) (up i j no_asset before (omega arith))

-- the sid of a column
sid-is : (assets : List AssetRow) (i : ℕ) → i < length assets → sid_in (sids_of assets) i ≡ (get_or assets i no_asset).sid
sid-is assets i h = get_or-map (λ (a : AssetRow). a.sid) assets i no_asset 0 h

module _ (w : World) (c : Parts) (ok : IsChecked (pipeline_of c)) (assets : AreAssets w.assets.now) (s : ℕ) where
  abbrev sids : List ℕ
  sids = sids_of w.assets.now

  -- what the row of a term has for a column
  row-cell : (u i : ℕ) → i < length w.assets.now → get_or (row_in w c u s) i (pos 0) ≡ cell_of (world_of w) (pipeline_of c) (sids_of w.assets.now) u i s
  unfolding cell_of
  row-cell u i h = get_or-map (λ (b : AssetRow). cell_in w c u b.sid s) w.assets.now i no_asset (pos 0) h ∙ ap (λ a. cell_in w c u a s) (sym (sid-is w.assets.now i h))

  row-long : (u : ℕ) → length (row_in w c u s) ≡ length w.assets.now
  row-long u = length-map w.assets.now (λ (b : AssetRow). cell_in w c u b.sid s)

  row-fills : (u : ℕ) (row : List ℤ) → row ≡ row_in w c u s → All IsCell row → Fills (λ i. cell_of (world_of w) (pipeline_of c) (sids_of w.assets.now) u i s) (length (sids_of w.assets.now)) row
  row-fills u row e cells = record {
    long = ap (λ (l : List ℤ). length l) e ∙ row-long u ∙ sym (sids-long w.assets.now);
    each = λ i h. let l : i < length w.assets.now = omega (arith, h, sids-long w.assets.now) in ap (λ r. get_or r i (pos 0)) e ∙ row-cell u i l;
    cell = λ i h.
        let l : i < length w.assets.now = omega (arith, h, sids-long w.assets.now) in
        let long : length row ≡ length w.assets.now = ap (λ (l : List ℤ). length l) e ∙ row-long u in
        subst IsCell (ap (λ r. get_or r i (pos 0)) e ∙ row-cell u i l) (cells i (pos 0) (omega (arith, l, long)));
  }

  kept-same : (o : Option TermId) (i : ℕ) → i < length w.assets.now → (exists (world_of w) (sid_at w.assets.now i) (pos s) && lets_pass_at (optional_row_in w c o s) i)
      ≡ is_kept (world_of w) (pipeline_of c) (sids_of w.assets.now) (option_map number_of o) i s
  kept-same None i h = and-true (exists (world_of w) (sid_at w.assets.now i) (pos s)) ∙ ap (λ a. exists (world_of w) a (pos s)) (sid-there w.assets.now i h ∙ sym (sid-is w.assets.now i h))
  kept-same (Some u) i h =
      ap (λ x. exists (world_of w) (sid_at w.assets.now i) (pos s) && is_true x) (row-cell u.0 i h)
      ∙ ap (λ a. exists (world_of w) a (pos s) && is_true (cell_of (world_of w) (pipeline_of c) (sids_of w.assets.now) u.0 i s)) (sid-there w.assets.now i h ∙ sym (sid-is w.assets.now i h))

  group-row : (o : Option TermId) (gs : Option (List ℤ)) → gs ≡ optional_row_in w c o s → IfSome gs (All IsCell) → IsGroupRow (world_of w) (pipeline_of c) (sids_of w.assets.now) (option_map number_of o) s gs
  group-row None gs e h = e
  group-row (Some u) None e h = absurd (let bad : None ≡ Some (row_in w c u.0 s) = e in cc)
  group-row (Some u) (Some g) e h = let same : g ≡ row_in w c u.0 s = cc in row-fills u.0 g same h

  module _ (t : ℕ) (n : Node) (is : slice_get c.graph t ≡ Some n) (section : is_section (kind_of n.kind) ≡ true) (texts : HasTexts (world_of w)) where
    there : slice_get (graph_of c.graph) t ≡ Some (node_of n)
    there = graph-at c.graph t n is

    -- the parameters are right
    pub right : HasParameters (kind_of n.kind)
    unfolding node_of
    right = allowed-right (kind_of n.kind) n.window _ (ok.nodes t (node_of n) there).parameters

    module _ (xs : List ℤ) (ms gs : Option (List ℤ)) (rows : AreRowsOf w c t s xs ms gs) where
      all-rows : (ks : List ℤ) → IsKeepRow (world_of w) w.assets.now s ms ks → AreSectionRows (world_of w) (pipeline_of c) (sids_of w.assets.now) (node_of n) s xs ks gs
      unfolding node_of
      all-rows ks keep =
          let x = rows.own n is in
          record {
            ascend = sids-up w.assets.now assets.ascend;
            all = all_there (world_of w) s assets.ascend;
            values = subst (λ o. IsInputRow (world_of w) (pipeline_of c) (sids_of w.assets.now) (length (sids_of w.assets.now)) o s xs) (sym (inputs-at n 0 ∙ ap (option_map input_of) x.1)) (row-fills x.0.0 xs x.2 rows.cells);
            keep = record {
              long = keep.long ∙ sym (sids-long w.assets.now);
              each = λ i h. let l : i < length w.assets.now = omega (arith, h, sids-long w.assets.now) in
                  keep.each i l ∙ ap (λ o. exists (world_of w) (sid_at w.assets.now i) (pos s) && lets_pass_at o i) (rows.mask n is) ∙ kept-same n.mask i l;
            };
            groups = group-row n.group gs (rows.groups n is) rows.group_cells;
          }

      -- the cross-section at a column is the value there
      pub section-given : (ks : List ℤ) → IsKeepRow (world_of w) w.assets.now s ms ks → (f : CrossKind) → kind_of n.kind ≡ kinds.Cross f → (i : ℕ) → i < length w.assets.now → section_at f xs ks gs i ≡ cell_in w c t (sid_at w.assets.now i) s
      unfolding node_of cell_of
      section-given ks keep f e i h =
          let l = section-cell (world_of w) (pipeline_of c) (sids_of w.assets.now) t (node_of n) i s (record { checked = ok; node = there }) f xs ks gs texts e (all-rows ks keep) in
          sym (l.1 (omega (arith, h, sids-long w.assets.now))) ∙ ap (λ a. cell_in w c t a s) (sid-is w.assets.now i h ∙ sym (sid-there w.assets.now i h))

      pub values-long : length xs ≡ length w.assets.now
      values-long = let x = rows.own n is in ap (λ (l : List ℤ). length l) x.2 ∙ row-long x.0.0

      pub groups-fit : Fits (length xs) gs
      groups-fit = here n.group (rows.groups n is)
        where
          here : (o : Option TermId) → gs ≡ optional_row_in w c o s → Fits (length xs) gs
          here None e = subst (Fits (length xs)) (sym e) tt
          here (Some u) e = subst (Fits (length xs)) (sym e) (row-long u.0 ∙ sym values-long)

      pub mask-fits : IfSome ms (λ m. length m ≡ length w.assets.now)
      mask-fits = here n.mask (rows.mask n is)
        where
          here : (o : Option TermId) → ms ≡ optional_row_in w c o s → IfSome ms (λ m. length m ≡ length w.assets.now)
          here None e = subst (λ o. IfSome o (λ m. length m ≡ length w.assets.now)) (sym e) tt
          here (Some u) e = subst (λ o. IfSome o (λ m. length m ≡ length w.assets.now)) (sym e) (row-long u.0)

-- ---- rows of flags

pub keep-more : (kept : ℕ → Bool) (i : ℕ) (old new : List ℤ) (x : ℤ) → new ≡ old ++ x ∷ [] → length old ≡ i → ((j : ℕ) → j < i → is_true (get_or old j (pos 0)) ≡ kept j) → is_true x ≡ kept i
    → (length new ≡ i + 1) × ((j : ℕ) → j < i + 1 → is_true (get_or new j (pos 0)) ≡ kept j)
keep-more kept i old new x e long each is =
    let size : length new ≡ i + 1 = (let a = ap (λ (l : List ℤ). length l) e in let b = length-append old (x ∷ []) in omega (arith, a, b, long)) in (
      size,
      λ j h. elim (cases_lt j i) [
        | inl before ↦ ap (λ l. is_true (get_or l j (pos 0))) e ∙ ap is_true (get_or-append old (x ∷ []) (pos 0) j (omega (arith, before, long))) ∙ each j before
        | inr past ↦
            let at : j ≡ length old = omega (arith, past, h, long) in
            let own : j ≡ i = omega (arith, past, h) in
            ap (λ l. is_true (get_or l j (pos 0))) e ∙ ap (λ k. is_true (get_or (old ++ x ∷ []) k (pos 0))) at ∙ ap is_true (get_or-append_seam old x [] (pos 0)) ∙ is ∙ ap kept (sym own)
      ],
    )

-- what an option holds, read through a function
pub some-mapped : {A B : Type 0} (f : A → B) (P : B → Type 0) (o : Option A) → IfSome (option_map f o) P → IfSome o (λ a. P (f a))
some-mapped f P None h = tt
some-mapped f P (Some a) h = h

-- what is read of a cross-section
pub section-end : (f : CrossKind) (xs ks kd : List ℤ) (ls ld : Option (List ℤ)) (i : ℕ) (x v : ℤ) → x ≡ section_at f xs kd ld i → kd ≡ ks → ld ≡ ls
    → section_at f xs ks ls i ≡ v → x ≡ v
section-end f xs ks kd ls ld i x v e g h l = e ∙ ap (λ r. section_at f xs r ld i) g ∙ ap (λ r. section_at f xs ks r i) h ∙ l

-- what the cross-section gives at each column is the row of the term
pub row-whole : (w : World) (c : Parts) (t s : ℕ) (row : List ℤ) (none : ℤ) → length row ≡ length w.assets.now
    → ((i : ℕ) → i < length w.assets.now → get_or row i none ≡ cell_in w c t (sid_at w.assets.now i) s) → row ≡ row_in w c t s
row-whole w c t s row none long each =
    let size : length (row_in w c t s) ≡ length w.assets.now = length-map w.assets.now (λ (b : AssetRow). cell_in w c t b.sid s) in
    ext_get_or none row (row_in w c t s) (long ∙ sym size)
    (λ i h. let l : i < length w.assets.now = omega (arith, h, long) in
    each i l ∙ ap (λ a. cell_in w c t a s) (sid-there w.assets.now i l) ∙ sym (get_or-map (λ (b : AssetRow). cell_in w c t b.sid s) w.assets.now i no_asset none l))
