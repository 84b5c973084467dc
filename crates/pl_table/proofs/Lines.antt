-- A line is its parts, one after the other.
use Rattle.std.proofs.Common.{◌≡◌, ℕ, List, [], ◌∷◌, ◌++◌, map, codes, sym, ap, ◌∙◌, append_assoc}
use Rattle.std.specs.Prelude.{flat_map}
use Rattle.std.proofs.lemmas.List.Folds.{flat_map-map}
use Rattle.std.proofs.lemmas.List.{append-nil}
use Rattle.pl_spec.specs.declared.Format.{Format}
use Rattle.pl_spec.specs.declared.Format.TheVariants.{Csv, Fixed, Cells}
use Rattle.pl_pipeline.specs.Table.{Pipeline, NamedColumn}
use Rattle.pl_spec.specs.Lines.{line_text, left_in, right_in}
use Rattle.pl_pipeline.specs.Text.{described, header}
use Rattle.pl_table.specs.Fields.{column_part, date_part, end_part, sid_part, field_part}

-- a text, a field after it, further fields and the end
behind : (a b c e : List ℕ) → (a ++ (b ++ c)) ++ e ≡ (a ++ b) ++ c ++ e
behind a b c e = ap (λ (t : List ℕ). t ++ e) (sym (append_assoc a b c))

pub line-is : (format : Format) (date sid : List ℕ) (fields : List (List ℕ))
    → line_text format date sid fields ≡ (date_part format date ++ sid_part format sid) ++ flat_map (field_part format) fields ++ end_part format
line-is Csv date sid fields = behind date (44 ∷ sid) (flat_map (λ f. 44 ∷ f) fields) (10 ∷ [])
line-is Cells date sid fields = sym (append-nil ((date ++ sid) ++ flat_map (field_part Cells) fields))
line-is Fixed date sid fields =
    behind (left_in 10 date) (32 ∷ right_in 10 sid) (flat_map (λ f. 32 ∷ f) (map (right_in 20) fields)) (10 ∷ [])
    ∙ ap (λ (t : List ℕ). (left_in 10 date ++ 32 ∷ right_in 10 sid) ++ t ++ 10 ∷ []) (flat_map-map (λ (f : List ℕ). 32 ∷ f) (right_in 20) fields)

-- the front of a header
abbrev pub front_of : Format → List ℕ
front_of Csv = codes "session,sid"
front_of Fixed = codes "session           sid"
front_of Cells = codes "session:day,sid:sid"

pub header-is : (p : Pipeline) (format : Format) → header p format ≡ front_of format ++ flat_map (column_part format p.graph) p.columns ++ 10 ∷ []
header-is p Csv =
    line-is Csv (codes "session") (codes "sid") (map (λ (c : NamedColumn). c.name) p.columns)
    ∙ ap (λ (t : List ℕ). front_of Csv ++ t ++ 10 ∷ []) (flat_map-map (field_part Csv) (λ (c : NamedColumn). c.name) p.columns)
header-is p Fixed =
    line-is Fixed (codes "session") (codes "sid") (map (λ (c : NamedColumn). c.name) p.columns)
    ∙ ap (λ (t : List ℕ). front_of Fixed ++ t ++ 10 ∷ []) (flat_map-map (field_part Fixed) (λ (c : NamedColumn). c.name) p.columns)
header-is p Cells =
    line-is Csv (codes "session:day") (codes "sid:sid") (map (described p.graph) p.columns)
    ∙ ap (λ (t : List ℕ). front_of Cells ++ t ++ 10 ∷ []) (flat_map-map (field_part Csv) (described p.graph) p.columns)
