-- The assets of a chunk: each that exists on a session on which a used term is computed, and no other.
use Rattle.std.proofs.Common.{◌≡◌, ℕ, ◌<◌, ◌≤◌, Bool, true, false, ◌==◌, ℤ, pos, List, length, map, get_or, refl, sym, ap, ◌∙◌, arith}
use Rattle.std.specs.Prelude.{filter}
use Rattle.std.specs.List.{range_with_len, All, AllPairs}
use Rattle.std.proofs.Math.Path.{fun_ext}
use Rattle.std.proofs.lemmas.Bool.{true≢false, eqb-true, eq-eqb}
use Rattle.std.proofs.lemmas.List.Sums.{length-filter, count_by-le-length}
use Rattle.std.proofs.lemmas.List.Elements.{All-filter}
use Rattle.std.proofs.lemmas.List.Kept.{AllPairs-filter}
use Rattle.std.proofs.lemmas.List.Folds.{list_any_at, list_any_none, Any-from_list_any}
use Rattle.std.proofs.lemmas.List.FromFn.{length-range_with_len, get_or-range_with_len}
use Rattle.pl_spec.specs.Parts.{sid_at}
use Rattle.pl_pipeline.specs.Graph.{used_terms}
use Rattle.pl_pipeline.specs.Table.{Pipeline}
use Rattle.pl_spec.specs.World.{World, exists}
use Rattle.pl_spec.proofs.Ranges.{range-rises}
use Rattle.pl_spec.proofs.Lists.{filter-map, filter-filter}
use Rattle.pl_spec.proofs.Columns.{sids-all}
use Rattle.pl_terms.specs.Uses.{outputs}
use Rattle.pl_planner.specs.Plans.{Planned, IsPlanOf, is_used, low_at}
use Rattle.pl_values.specs.Arrays.{HasAll}
use Rattle.pl_exec.specs.declared.chunk.Chunk.{Chunk}
use Rattle.pl_runner.specs.Chunks.{IsLeast, lives_within, is_met, columns_of}
use Rattle.pl_runner.proofs.Living.{lives-some, lives-found}
use Rattle.pl_world.proofs.Sections.{all_there}

-- ---- the assets of a chunk

-- the columns of assets that exist on a session of a range
abbrev pub living_columns : World → ℕ → ℕ → List ℕ
living_columns w low to = filter (lives_within w low to) (range_with_len 0 (length w.assets))

pub columns_of-few : (w : World) (p : Pipeline) (plan : Planned) (chunk : Chunk) → length (columns_of w p plan chunk) ≤ length w.assets
unfolding columns_of
columns_of-few w p plan chunk =
    omega (arith, length-filter (is_met w p plan chunk) (range_with_len 0 (length w.assets)), count_by-le-length (is_met w p plan chunk) (range_with_len 0 (length w.assets)), length-range_with_len 0 (length w.assets))

-- a later beginning meets no more assets
later : (w : World) (low from to col : ℕ) → low ≤ from → lives_within w low to col ≡ false → lives_within w from to col ≡ false
later w low from to col h e = here (lives_within w from to col) refl
  where
    here : (b : Bool) → lives_within w from to col ≡ b → lives_within w from to col ≡ false
    here false f = f
    here true f = (let s = lives-found w from to col f in absurd (true≢false (sym (lives-some w low to col s.0 (omega (arith, s.1)) s.2 s.3) ∙ e)))

module _ (days : List ℤ) (w : World) (p : Pipeline) (plan : Planned) (chunk : Chunk) (is : IsPlanOf days p plan) (low : ℕ) (least : IsLeast p plan chunk.from low) where
  met-is : (col : ℕ) → is_met w p plan chunk col ≡ lives_within w low chunk.to col
  met-is col = here (lives_within w low chunk.to col) refl
    where
      test : ℕ → Bool
      test k = lives_within w (low_at plan k chunk.from) chunk.to col

      here : (b : Bool) → lives_within w low chunk.to col ≡ b → is_met w p plan chunk col ≡ b
      here true e =
          let any = Any-from_list_any (λ (x : ℕ). x == least.term) (used_terms p.graph (outputs p)) (sym (is.used least.term) ∙ least.used) in
          let own : any.1 ≡ least.term = eqb-true any.1 least.term any.4 in
          list_any_at test (used_terms p.graph (outputs p)) any.0 any.1 any.2
          (ap test (any.3 ∙ own) ∙ ap (λ (n : ℕ). lives_within w n chunk.to col) (sym least.is) ∙ e)
      here false e =
          list_any_none test (used_terms p.graph (outputs p))
          (λ i d h.
          let k = get_or (used_terms p.graph (outputs p)) i d in
          let used : is_used plan k ≡ true = is.used k ∙ list_any_at (λ (x : ℕ). x == k) (used_terms p.graph (outputs p)) i d h (eq-eqb k k refl) in
          later w low (low_at plan k chunk.from) chunk.to col (least.least k used) e)

  pub columns-are : columns_of w p plan chunk ≡ living_columns w low chunk.to
  unfolding columns_of
  columns-are = ap (λ (f : ℕ → Bool). filter f (range_with_len 0 (length w.assets))) (fun_ext met-is)

-- ---- what the columns of a chunk keep

module _ (days : List ℤ) (w : World) (p : Pipeline) (plan : Planned) (chunk : Chunk) (is : IsPlanOf days p plan) where
  met-some : (col k s : ℕ) → is_used plan k ≡ true → low_at plan k chunk.from ≤ s → s ≤ chunk.to → exists w (sid_at w.assets col) (pos s) ≡ true → is_met w p plan chunk col ≡ true
  met-some col k s used a b e =
      let any = Any-from_list_any (λ (x : ℕ). x == k) (used_terms p.graph (outputs p)) (sym (is.used k) ∙ used) in
      let own : any.1 ≡ k = eqb-true any.1 k any.4 in
      let test = λ (t : ℕ). lives_within w (low_at plan t chunk.from) chunk.to col in
      list_any_at test (used_terms p.graph (outputs p)) any.0 any.1 any.2 (ap test (any.3 ∙ own) ∙ lives-some w (low_at plan k chunk.from) chunk.to col s a b e)

  -- they have each asset that exists on a session on which a used term is computed
  pub columns-have : AllPairs (λ x y. x.sid < y.sid) w.assets → (k s : ℕ) → is_used plan k ≡ true → low_at plan k chunk.from ≤ s → s ≤ chunk.to
      → HasAll w (map (sid_at w.assets) (columns_of w p plan chunk)) s
  unfolding columns_of
  columns-have up k s used a b =
      let ex = λ (sid : ℕ). exists w sid (pos s) in
      let here = λ (col : ℕ). exists w (sid_at w.assets col) (pos s) in
      all_there w s up
      ∙ ap (filter ex) (sids-all w.assets)
      ∙ filter-map ex (sid_at w.assets) (range_with_len 0 (length w.assets))
      ∙ ap (map (sid_at w.assets)) (sym (filter-filter here (is_met w p plan chunk) (λ col e. met-some col k s used a b e) (range_with_len 0 (length w.assets))))
      ∙ sym (filter-map ex (sid_at w.assets) (filter (is_met w p plan chunk) (range_with_len 0 (length w.assets))))

pub columns_of-ascend : (w : World) (p : Pipeline) (plan : Planned) (chunk : Chunk) → AllPairs (λ a b. a < b) (columns_of w p plan chunk)
unfolding columns_of
columns_of-ascend w p plan chunk = AllPairs-filter (λ a b. a < b) (is_met w p plan chunk) (range_with_len 0 (length w.assets)) (range-rises 0 (length w.assets))

pub columns_of-within : (w : World) (p : Pipeline) (plan : Planned) (chunk : Chunk) → All (λ c. c < length w.assets) (columns_of w p plan chunk)
unfolding columns_of
columns_of-within w p plan chunk =
    All-filter (is_met w p plan chunk) (λ c. c < length w.assets) (range_with_len 0 (length w.assets))
    (λ i d h. (let few : i < length w.assets = omega (arith, length-range_with_len 0 (length w.assets)) in omega (arith, get_or-range_with_len 0 (length w.assets) i d few)))
