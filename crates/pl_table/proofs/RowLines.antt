-- The line of a row.
use Rattle.std.proofs.Common.{◌≡◌, ℕ, ◌+◌, ◌<◌, ℤ, pos, List, [], ◌∷◌, ◌++◌, length, take, get_or, Some, Option, unwrap_or, refl, sym, ap, ◌∙◌}
use Rattle.std.specs.Prelude.{flat_map, slice_get}
use Rattle.std.proofs.lemmas.List.{take_more}
use Rattle.std.proofs.lemmas.Grind.{flat_map-append}
use Rattle.std.proofs.lemmas.List.{append-nil}
use Rattle.std.proofs.lemmas.Option.{get_or_from_slice_get}
use Rattle.pl_spec.specs.declared.Format.{Format}
use Rattle.pl_spec.specs.World.{World, day_of}
use Rattle.pl_pipeline.specs.Table.{Pipeline, NamedColumn, table_row}
use Rattle.pl_spec.specs.Lines.{day_field, line_text, sid_field}
use Rattle.pl_pipeline.specs.Text.{row_fields, row_line}
use Rattle.pl_table.specs.Fields.{date_part, end_part, sid_part, field_part}
use Rattle.pl_table.specs.Rows.{row_values, value_part, value_fields}
use Rattle.pl_table.proofs.Lines.{line-is}

-- the fields of the values
fields-are : (w : World) (p : Pipeline) (format : Format) (a : ℕ) (d : ℤ) (cs : List NamedColumn)
    → flat_map (field_part format) (row_fields p format cs (row_values w p a d cs)) ≡ value_fields w p format a d cs
fields-are w p format a d [] = refl
fields-are w p format a d (c ∷ cs) = ap (λ (t : List ℕ). value_part w p format a d c ++ t) (fields-are w p format a d cs)

pub row_line-is : (w : World) (p : Pipeline) (format : Format) (a s : ℕ) (day : ℤ) → day_of w (pos s) ≡ Some day
    → row_line w p format (table_row w p (pos s) a) ≡ (date_part format (day_field format day) ++ sid_part format (sid_field format a)) ++ value_fields w p format a (pos s) p.columns ++ end_part format
row_line-is w p format a s day is =
    ap (λ (o : Option ℤ). line_text format (day_field format (unwrap_or o (pos 0))) (sid_field format a) (row_fields p format p.columns (row_values w p a (pos s) p.columns))) is
    ∙ line-is format (day_field format day) (sid_field format a) (row_fields p format p.columns (row_values w p a (pos s) p.columns))
    ∙ ap (λ (t : List ℕ). (date_part format (day_field format day) ++ sid_part format (sid_field format a)) ++ t ++ end_part format) (fields-are w p format a (pos s) p.columns)

-- a line that is put together from its parts
pub put-together : (w : World) (p : Pipeline) (format : Format) (a s : ℕ) (day : ℤ) (l0 l1 l2 l3 l4 : List ℕ) → day_of w (pos s) ≡ Some day → l0 ≡ []
    → l1 ≡ l0 ++ date_part format (day_field format day) → l2 ≡ l1 ++ sid_part format (sid_field format a) → l3 ≡ l2 ++ value_fields w p format a (pos s) p.columns → l4 ≡ l3 ++ end_part format
    → l4 ≡ row_line w p format (table_row w p (pos s) a)
put-together w p format a s day l0 l1 l2 l3 l4 is none date sid values end =
    let front : l2 ≡ date_part format (day_field format day) ++ sid_part format (sid_field format a) =
    sid ∙ ap (λ (t : List ℕ). t ++ sid_part format (sid_field format a)) (date ∙ ap (λ (t : List ℕ). t ++ date_part format (day_field format day)) none) in
    end ∙ ap (λ (t : List ℕ). t ++ end_part format) (values ∙ ap (λ (t : List ℕ). t ++ value_fields w p format a (pos s) p.columns) front)
    ∙ sym (row_line-is w p format a s day is)

-- the fields of one column more
pub fields-more : (w : World) (p : Pipeline) (format : Format) (a : ℕ) (d : ℤ) (cs : List NamedColumn) (i : ℕ) (c : NamedColumn) → i < length cs → slice_get cs i ≡ Some c
    → value_fields w p format a d (take (i + 1) cs) ≡ value_fields w p format a d (take i cs) ++ value_part w p format a d c
fields-more w p format a d cs i c h e =
    ap (value_fields w p format a d) (take_more cs i c h)
    ∙ flat_map-append (value_part w p format a d) (take i cs) (get_or cs i c ∷ [])
    ∙ ap (λ (t : List ℕ). value_fields w p format a d (take i cs) ++ t) (append-nil (value_part w p format a d (get_or cs i c)))
    ∙ ap (λ (x : NamedColumn). value_fields w p format a d (take i cs) ++ value_part w p format a d x) (get_or_from_slice_get cs i c c e)
