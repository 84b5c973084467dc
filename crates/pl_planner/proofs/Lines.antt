-- The lines of the terms below a number.
use Rattle.std.proofs.Common.{◌≡◌, ℕ, ◌+◌, Bool, true, false, List, [], ◌∷◌, ◌++◌, append-nil, length, filter, flat_map, Some, refl, sym, ◌∙◌, ap, slice_get}
use Rattle.std.specs.List.{range_with_len}
use Rattle.std.proofs.lemmas.List.Elements.{filter-append}
use Rattle.std.proofs.lemmas.Grind.{flat_map-append}
use Rattle.pl_pipeline.specs.Cones.{cone_depths}
use Rattle.pl_pipeline.specs.Term.{Node}
use Rattle.pl_pipeline.specs.Table.{Pipeline}
use Rattle.pl_spec.proofs.Ranges.{range-next}
use Rattle.pl_terms.specs.Uses.{outputs, is_used, uses}
use Rattle.pl_planner.proofs.Live.{filtered}
use Rattle.pl_planner.specs.Text.{line_at, used_line, term_line, lines_text}

module _ (p : Pipeline) (extra : ℕ → ℕ) where
  abbrev pub lines_below : ℕ → List ℕ
  lines_below n = flat_map (line_at p extra) (filter (is_used p) (range_with_len 0 n))

  next : (k : ℕ) → filter (is_used p) (range_with_len 0 (k + 1)) ≡ filter (is_used p) (range_with_len 0 k) ++ filter (is_used p) (k ∷ [])
  next k = ap (filter (is_used p)) (range-next k) ∙ filter-append (is_used p) (range_with_len 0 k) (k ∷ [])

  more : (k : ℕ) → lines_below (k + 1) ≡ lines_below k ++ flat_map (line_at p extra) (filter (is_used p) (k ∷ []))
  more k = ap (flat_map (line_at p extra)) (next k) ∙ flat_map-append (line_at p extra) (filter (is_used p) (range_with_len 0 k)) (filter (is_used p) (k ∷ []))

  pub one-more : (k : ℕ) → lines_below k ++ used_line p extra k ≡ lines_below (k + 1)
  one-more k = here (is_used p k) refl
    where
      here : (b : Bool) → is_used p k ≡ b → lines_below k ++ used_line p extra k ≡ lines_below (k + 1)
      here true u = let one : flat_map (line_at p extra) (filter (is_used p) (k ∷ [])) ≡ line_at p extra k ++ [] = rw u refl in rw u (sym (more k ∙ ap (λ l. lines_below k ++ l) (one ∙ append-nil (line_at p extra k))))
      here false u = let one : flat_map (line_at p extra) (filter (is_used p) (k ∷ [])) ≡ [] = rw u refl in rw u (sym (more k ∙ ap (λ l. lines_below k ++ l) one))

  pub line-is : (k : ℕ) (n : Node) → is_used p k ≡ true → slice_get p.graph k ≡ Some n → used_line p extra k ≡ term_line k n (extra k) (uses p k) (cone_depths p.graph k)
  line-is k n u e = rw (u, e) refl

  pub all-lines : lines_below (length p.graph) ≡ lines_text p extra
  unfolding lines_text
  all-lines = ap (flat_map (line_at p extra)) (sym (filtered p.graph (is_used p) (length p.graph) (outputs p) (λ t l. refl)))
