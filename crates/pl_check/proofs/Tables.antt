-- Looking for a name in a table, row by row.
use Rattle.std.proofs.Common.{◌≡◌, ℕ, ◌+◌, ◌<◌, List, ◌∷◌, length, get_or, drop, ap, ◌∙◌, sym, add-one, Bool, true, false, None, Some}
use Rattle.std.specs.Prelude.{◌≤◌}
use Rattle.std.proofs.Math.Seq.{drop-cons}
use Rattle.std.proofs.lemmas.List.{drop_all}
use Rattle.pl_check.specs.Operations.{is_word, operation_in}
use Rattle.pl_check.specs.Tables.{TableRow, rows_of}

module _ (v : ℕ) (n : List ℕ) where
  abbrev is : TableRow → Bool
  is r = is_word r.1 r.0.now v n

  taken : (r : TableRow) (rs : List TableRow) → is r ≡ true → operation_in (rows_of (r ∷ rs)) v n ≡ Some r.2
  unfolding operation_in
  taken r rs e = rw e

  passed : (r : TableRow) (rs : List TableRow) → is r ≡ false → operation_in (rows_of (r ∷ rs)) v n ≡ operation_in (rows_of rs) v n
  unfolding operation_in
  passed r rs e = rw e

  -- the row at a place, whose name it is
  pub taken-at : (rows : List TableRow) (i : ℕ) (d : TableRow) → i < length rows → is (get_or rows i d) ≡ true → operation_in (rows_of (drop i rows)) v n ≡ Some (get_or rows i d).2
  taken-at rows i d within e = ap (λ rs. operation_in (rows_of rs) v n) (drop-cons rows i d within) ∙ taken (get_or rows i d) _ e

  -- the row at a place, which has another name
  pub passed-at : (rows : List TableRow) (i : ℕ) (d : TableRow) → i < length rows → is (get_or rows i d) ≡ false → operation_in (rows_of (drop i rows)) v n ≡ operation_in (rows_of (drop (i + 1) rows)) v n
  passed-at rows i d within e =
      ap (λ rs. operation_in (rows_of rs) v n) (drop-cons rows i d within) ∙ (passed (get_or rows i d) _ e ∙ ap (λ k. operation_in (rows_of (drop k rows)) v n) (sym (add-one i)))

  -- no row is left
  pub none-left : (rows : List TableRow) (i : ℕ) → length rows ≤ i → operation_in (rows_of (drop i rows)) v n ≡ None
  unfolding operation_in
  none-left rows i past = ap (λ rs. operation_in (rows_of rs) v n) (drop_all i rows past)
