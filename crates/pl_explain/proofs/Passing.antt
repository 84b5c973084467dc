-- One line more after right ones.
use Rattle.std.proofs.Common.{◌≡◌, ℕ, suc, ◌+◌, ◌≤◌, true, false, List, [], ◌∷◌, ◌++◌, length, take, drop, append_assoc, Some, None, option_map, slice_get, refl, sym, ◌∙◌, ap, arith}
use Rattle.std.proofs.lemmas.List.{take_all, take-append-drop, length-take-le}
use Rattle.std.proofs.lemmas.Option.{slice_get_within}
use Rattle.pl_spec.specs.World.{World}
use Rattle.pl_pipeline.specs.Table.{Pipeline}
use Rattle.pl_derivation.specs.Lines.{Line}
use Rattle.pl_derivation.specs.Right.{is_right, first_wrong}
use Rattle.pl_derivation.proofs.Printing.{lines_more}
use Rattle.pl_derivation.proofs.Truths.{no_map, behind_right}

module _ (w : World) (p : Pipeline) where
  parted : (lines : List Line) (i : ℕ) (l : Line) → slice_get lines i ≡ Some l → (rest : List Line) × (lines ≡ take i lines ++ l ∷ rest)
  parted lines i l e =
      (drop (i + 1) lines, sym (take-append-drop (i + 1) lines) ∙ ap (λ xs. xs ++ drop (i + 1) lines) (lines_more lines i l e) ∙ append_assoc (take i lines) (l ∷ []) (drop (i + 1) lines))

  pub pass : (lines : List Line) (i : ℕ) (l : Line) → slice_get lines i ≡ Some l → first_wrong w p (take i lines) ≡ None → is_right w p (take i lines) l ≡ true
      → first_wrong w p (take (i + 1) lines) ≡ None
  pass lines i l at none right = ap (first_wrong w p) (lines_more lines i l at) ∙ ap (option_map suc) (behind_right w p [] (take i lines) (l ∷ []) None (no_map _ none) (rw right refl))

  pub stop : (lines : List Line) (i : ℕ) (l : Line) → slice_get lines i ≡ Some l → first_wrong w p (take i lines) ≡ None → is_right w p (take i lines) l ≡ false
      → first_wrong w p lines ≡ Some (i + 1)
  stop lines i l at none wrong =
      let cut = parted lines i l at in
      let here = behind_right w p [] (take i lines) (l ∷ cut.0) (Some 0) (no_map _ none) (rw wrong refl) in
      let long : length (take i lines) + 0 ≡ i = omega (arith, length-take-le i lines (omega (arith, slice_get_within lines i l at))) in
      ap (first_wrong w p) cut.1 ∙ ap (option_map suc) here ∙ ap (λ k. Some (suc k)) long ∙ ap Some (let e : suc i ≡ i + 1 = omega arith in e)

  pub whole : (lines : List Line) (i : ℕ) → length lines ≤ i → first_wrong w p (take i lines) ≡ None → first_wrong w p lines ≡ None
  whole lines i h e = ap (first_wrong w p) (sym (take_all i lines h)) ∙ e
