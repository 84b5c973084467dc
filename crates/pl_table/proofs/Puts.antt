-- The field of a column and its summand.
use Rattle.std.proofs.Common.{◌≡◌, ℕ, if◌then◌else◌, ℤ, pos, List, ◌++◌, Some, sym, ap, ◌∙◌}
use Rattle.pl_spec.specs.declared.Format.{Format}
use Rattle.pl_spec.specs.Rounding.{is_missing}
use Rattle.pl_spec.specs.World.{World}
use Rattle.pl_pipeline.specs.Table.{Pipeline, NamedColumn, value_of, summand}
use Rattle.pl_pipeline.specs.Text.{value_field, kind_at}
use Rattle.pl_terms.specs.Checked.{IsChecked}
use Rattle.pl_terms.specs.Sorts.{sort_at}
use Rattle.pl_cross.specs.Arrays.{HasTexts, sid_in}
use Rattle.pl_values.specs.Arrays.{cell_of}
use Rattle.pl_table.specs.declared.writing.Writing.{Writing}
use Rattle.pl_table.specs.Fields.{field_part, cell_field, sort_written}
use Rattle.pl_table.specs.Rows.{IsPut}
use Rattle.pl_table.proofs.Outputs.{cell-is}
use Rattle.pl_table.proofs.Sorted.{field-is}

-- the field was put, and x is the summand of the cell
pub put-is : (w : World) (p : Pipeline) → IsChecked p → HasTexts w → (format : Format) (sids : List ℕ) (t i s : ℕ) (r : Writing) (cell x : ℤ) (old new : List ℕ)
    → sort_at p.graph t ≡ Some (sort_written r) → cell ≡ cell_of w p sids t i s → new ≡ old ++ field_part format (cell_field format w.texts r cell)
    → x ≡ (if is_missing cell then pos 0 else cell)
    → (c : NamedColumn) → c.term ≡ t → IsPut w p format (sid_in sids i) (pos s) c old new x
put-is w p ok texts format sids t i s r cell x old new sort is text sum c own =
    let value = is ∙ cell-is w p sids t i s in
    record {
      text = text ∙ ap (λ (y : ℤ). old ++ field_part format (cell_field format w.texts r y)) value
          ∙ ap (λ (f : List ℕ). old ++ field_part format f) (sym (field-is w p ok texts t (sid_in sids i) (pos s) format r sort))
          ∙ ap (λ (u : ℕ). old ++ field_part format (value_field format (kind_at p.graph u) (value_of w p u (sid_in sids i) (pos s)))) (sym own);
      sum = sum ∙ ap (λ (y : ℤ). if is_missing y then pos 0 else y) value
          ∙ ap (λ (u : ℕ). summand w.texts (value_of w p u (sid_in sids i) (pos s))) (sym own);
    }
