-- The small worlds of the worked examples, and words for their terms and pipelines.
-- Sessions 0 to 5 are 2024-01-02, 01-03, 01-04, 01-05 (a Friday), 01-08 and 01-09. Day 19724 is 2024-01-02.
use Rattle.std.specs.Prelude.{ℕ, ◌*◌, ℤ, pos, List, [], ◌∷◌, ◌++◌, map, flat_map, None, codes}
use Rattle.std.specs.Fmt.{digits as decimal_digits}
use Rattle.pl_spec.specs.declared.AssetRow.{AssetRow}
use Rattle.pl_spec.specs.declared.Column.{Column}
use Rattle.pl_spec.specs.declared.Column.TheVariants.{Close}
use Rattle.pl_spec.specs.declared.Format.TheVariants as format
use Rattle.pl_spec.specs.declared.RawAdjust.{RawAdjust}
use Rattle.pl_spec.specs.Rounding.{MILLION, div_round, to_cell, quot, add, sub, mul, div, neg, scaled, root_by, isqrt}
use Rattle.pl_spec.specs.Dates.{digits, date_text}
use Rattle.pl_spec.specs.Decimals.{cell_text}
use Rattle.pl_spec.specs.World.{World, Bar, LabelRow}
use Rattle.pl_spec.specs.Order.{adjustments_of}
use Rattle.pl_spec.specs.Window.{seen_cell}
use Rattle.pl_pipeline.specs.Kind.{Kind, PointKind, CrossKind}
use Rattle.pl_pipeline.specs.declared.WindowKind.{WindowKind}
use Rattle.pl_pipeline.specs.declared.WindowKind.TheVariants.{Latest}
use Rattle.pl_pipeline.specs.Formula.{formula}
use Rattle.pl_pipeline.specs.Elementary.{size_by, log_bits, log, series, exp, sqrt, sign, maximum, minimum}
use Rattle.pl_pipeline.specs.Pointwise.{pointwise, has_substring, label_test}
use Rattle.pl_pipeline.specs.Cross.{cross}
use Rattle.pl_pipeline.specs.Term.{Term, Input, Node, Graph}
use Rattle.pl_pipeline.specs.Term.Term.{absent, column, node}
use Rattle.pl_pipeline.specs.Value.{Value, seen, value, kind_value}
use Rattle.pl_pipeline.specs.Table.{NamedColumn, Pipeline, table}
use Rattle.pl_pipeline.specs.Graph.{reach}
use Rattle.pl_spec.specs.Periods.{month_number, period_start}
use Rattle.pl_pipeline.specs.Text.{text}

-- a proof that unfolds this opens all that the examples compute with
unfoldable pub opened : Unit {0}
unfolding div_round to_cell quot add sub mul div neg scaled root_by isqrt seen_cell formula size_by log_bits log series exp sqrt sign maximum minimum pointwise has_substring label_test cross kind_value seen value reach month_number period_start decimal_digits digits date_text cell_text text
opened = tt

-- ---- worlds

abbrev pub units : ℕ → ℤ
units n = pos (n * MILLION)

-- a bar whose four prices are one, in millionths
abbrev pub bar : ℕ → ℕ → ℤ → ℤ → Bar
bar a s price volume = record { sid = a; session = s; open_price = price; high = price; low = price; close = price; volume = volume }

-- one with the volume 10
abbrev pub closed : ℕ → ℕ → ℤ → Bar
closed a s price = bar a s price (units 10)

-- an asset from the first session to the last
abbrev pub asset : ℕ → AssetRow
asset a = record { sid = a; start = pos 19724; end = pos 19731 }

-- the label of an asset from the first session on
abbrev pub label_row : List ℕ → ℕ → List ℕ → LabelRow
label_row name a text = record { name = name; sid = a; start = pos 19724; text = text }

-- the tables of adjustments
pub record Tables : Type 0 where
  pub splits : List RawAdjust
  pub mergers : List RawAdjust
  pub dividends : List RawAdjust

abbrev pub no_tables : Tables
no_tables = record { splits = []; mergers = []; dividends = [] }

-- the row of asset 1 at a time in seconds, and the one at midnight of a day
abbrev pub row_at : ℕ → ℕ → ℕ → RawAdjust
row_at time num den = record { id = pos 1; effective = pos time; num = pos num; den = pos den; sid = pos 1 }

abbrev pub row_on : ℕ → ℕ → ℕ → RawAdjust
row_on day num den = row_at (day * 86400) num den

abbrev pub splits_of : List RawAdjust → Tables
splits_of rows = record no_tables { splits = rows }

abbrev pub world : List AssetRow → List LabelRow → List (List ℕ) → List Bar → Tables → World
world assets labels texts bars t =
    record {
      days = pos 19724 ∷ pos 19725 ∷ pos 19726 ∷ pos 19727 ∷ pos 19730 ∷ pos 19731 ∷ [];
      assets = assets;
      labels = labels;
      texts = texts;
      bars = bars;
      adjustments = adjustments_of assets t.splits t.mergers t.dividends;
      numbers = [];
    }

abbrev pub closes : List Bar
closes = closed 1 0 (units 100) ∷ closed 1 1 (units 102) ∷ closed 1 2 (units 51) ∷ closed 1 3 (units 52) ∷ closed 1 4 (units 53) ∷ closed 1 5 (units 54) ∷ []

-- asset 1 with these bars and tables
abbrev pub alone : List Bar → Tables → World
alone bars t = world (asset 1 ∷ []) [] [] bars t

abbrev pub plain : World
plain = alone closes no_tables

-- a split 1/2 on 2024-01-04
abbrev pub half_split : Tables
half_split = splits_of (row_on 19726 1 2 ∷ [])

abbrev pub split : World
split = alone closes half_split

-- no bar on 2024-01-03
abbrev pub gap : World
gap = alone (closed 1 0 (units 100) ∷ closed 1 2 (units 51) ∷ []) no_tables

-- the doubled volume of the first session is past the limit
abbrev pub outgrown : World
outgrown = alone (bar 1 0 (units 1) (units 100000000000) ∷ bar 1 1 (units 1) (units 8) ∷ []) (splits_of (row_on 19725 1 2 ∷ row_on 19726 2 1 ∷ []))

-- asset 2 has closes of 10 and exists until 2024-01-05
abbrev pub leaving : World
leaving =
    world (asset 1 ∷ record (asset 2) { end = pos 19727 } ∷ []) [] []
    (closes ++ closed 2 0 (units 10) ∷ closed 2 1 (units 10) ∷ closed 2 2 (units 10) ∷ closed 2 3 (units 10) ∷ []) no_tables

abbrev pub four_assets : List AssetRow
four_assets = asset 1 ∷ asset 2 ∷ asset 3 ∷ asset 4 ∷ []

-- closes of 1, 2, 3 and 4
abbrev pub four_bars : World
four_bars = world four_assets [] [] (closed 1 0 (units 1) ∷ closed 2 0 (units 2) ∷ closed 3 0 (units 3) ∷ closed 4 0 (units 4) ∷ []) no_tables

-- closes of 3, 1 and 3, and no bar of asset 4
abbrev pub three_bars : World
three_bars = world four_assets [] [] (closed 1 0 (units 3) ∷ closed 2 0 (units 1) ∷ closed 3 0 (units 3) ∷ []) no_tables

-- closes of 10, 13, 7 and 5 with labels
abbrev pub grouped : List LabelRow → World
grouped labels =
    world four_assets labels (codes "tech" ∷ codes "Oil, Gas" ∷ [])
    (closed 1 0 (units 10) ∷ closed 2 0 (units 13) ∷ closed 3 0 (units 7) ∷ closed 4 0 (units 5) ∷ []) no_tables

abbrev pub sector : List ℕ
sector = codes "sector"

-- two assets of one sector, one of another, and one of none
abbrev pub sectors : List LabelRow
sectors = label_row sector 1 (codes "tech") ∷ label_row sector 2 (codes "tech") ∷ label_row sector 3 (codes "Oil, Gas") ∷ []

-- ---- terms

abbrev pub window : WindowKind → ℕ → List Term → Term
window k size (x ∷ y ∷ z ∷ ts) = node (Kind.Window k) size x y z absent absent
window k size (x ∷ y ∷ []) = node (Kind.Window k) size x y absent absent absent
window k size (x ∷ []) = node (Kind.Window k) size x absent absent absent absent
window k size [] = absent

abbrev pub point : PointKind → List Term → Term
point k (x ∷ y ∷ z ∷ ts) = node (Kind.Point k) 1 x y z absent absent
point k (x ∷ y ∷ []) = node (Kind.Point k) 1 x y absent absent absent
point k (x ∷ []) = node (Kind.Point k) 1 x absent absent absent absent
point k [] = absent

-- a cross-section of a term, by the labels of a group or absent
abbrev pub across : CrossKind → Term → Term → Term
across k x group = node (Kind.Cross k) 1 x absent absent absent group

abbrev pub number : ℤ → Term
number z = node (Kind.Constant z) 1 absent absent absent absent absent

abbrev pub at_close : WindowKind → ℕ → Term
at_close k size = window k size (column Close ∷ [])

abbrev pub latest : Column → Term
latest c = window Latest 1 (column c ∷ [])

-- a term of asset 1 on some sessions, and some terms of asset 1 on a session
abbrev pub by_session : World → Term → List ℕ → List Value
by_session w t ds = map (λ d. value w [] t 1 (pos d)) ds

abbrev pub on : World → ℕ → List Term → List Value
on w d ts = map (λ t. value w [] t 1 (pos d)) ts

-- a term of the assets 1 to 4 on 2024-01-03
abbrev pub by_asset : World → List (List ℕ) → Term → List Value
by_asset w names t = map (λ a. value w names t a (pos 1)) (1 ∷ 2 ∷ 3 ∷ 4 ∷ [])

-- ---- pipelines

-- a node over bar columns, and one over terms of lower numbers
abbrev pub of_bars : WindowKind → List Column → ℕ → Node
of_bars k columns size = record { kind = Kind.Window k; inputs = map Input.BarColumn columns; mask = None; group = None; window = size }

abbrev pub of_terms : Kind → List ℕ → Node
of_terms k terms = record { kind = k; inputs = map Input.TermInput terms; mask = None; group = None; window = 1 }

abbrev pub named : List ℕ → ℕ → NamedColumn
named name term = record { name = name; term = term }

abbrev pub pipeline : Graph → List NamedColumn → Pipeline
pipeline graph columns = record { graph = graph; columns = columns; screen = None; names = [] }

-- the latest close in the column c
abbrev pub latest_close : Pipeline
latest_close = pipeline (of_bars Latest (Close ∷ []) 1 ∷ []) (named (99 ∷ []) 0 ∷ [])

abbrev pub csv : World → Pipeline → ℕ → ℕ → List ℕ
csv w p from to = text w p format.Csv (table w p from to)

abbrev pub lines : List (List ℕ) → List ℕ
lines ls = flat_map (λ l. l ++ 10 ∷ []) ls
