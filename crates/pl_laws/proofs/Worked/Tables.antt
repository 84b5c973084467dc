-- Whole tables as texts, and the sum of their cells.
use Rattle.std.specs.Prelude.{◌≡◌, ℕ, ◌++◌, pos, negsuc, refl, codes, [], ◌∷◌, map, length, Some}
use Rattle.pl_spec.specs.declared.Column.TheVariants.{Close, Volume}
use Rattle.pl_spec.specs.declared.Compare.TheVariants as compare
use Rattle.pl_spec.specs.declared.Format.TheVariants as format
use Rattle.pl_pipeline.specs.declared.RankMethod.{RankMethod}
use Rattle.pl_pipeline.specs.declared.RankMethod.TheVariants as method
use Rattle.pl_pipeline.specs.declared.RankOrder.TheVariants.{Ascending}
use Rattle.pl_pipeline.specs.Kind.{Kind, PointKind, CrossKind}
use Rattle.pl_pipeline.specs.declared.WindowKind.TheVariants as WindowKind
use Rattle.pl_pipeline.specs.Term.{Node}
use Rattle.pl_pipeline.specs.Table.{Pipeline, table, sum_of_cells}
use Rattle.pl_pipeline.specs.Text.{text}
use Rattle.pl_laws.proofs.Worked.Worlds.{opened, units, closed, row_on, splits_of, no_tables, world, alone, plain, split, gap, outgrown, leaving, three_bars, grouped, sector, sectors, of_bars, of_terms, named, pipeline, latest_close, csv, lines}

-- ---- the latest close

closes_of_five_sessions : csv plain latest_close 1 5
    ≡ lines (codes "session,sid,c" ∷ codes "2024-01-03,1,100.000000" ∷ codes "2024-01-04,1,102.000000" ∷ codes "2024-01-05,1,51.000000" ∷ codes "2024-01-08,1,52.000000" ∷ codes "2024-01-09,1,53.000000" ∷ [])
unfolding opened
closes_of_five_sessions = refl

closes_around_a_split : csv split latest_close 1 2 ≡ lines (codes "session,sid,c" ∷ codes "2024-01-03,1,100.000000" ∷ codes "2024-01-04,1,51.000000" ∷ [])
unfolding opened
closes_around_a_split = refl

sum_of_two_cells : sum_of_cells [] (table split latest_close 1 2) ≡ pos 151000000
unfolding opened
sum_of_two_cells = refl

fixed_fields_have_widths : text split latest_close format.Fixed (table split latest_close 1 2)
    ≡ lines (codes "session           sid                    c" ∷ codes "2024-01-03          1           100.000000" ∷ codes "2024-01-04          1            51.000000" ∷ [])
unfolding opened
fixed_fields_have_widths = refl

a_fixed_line_has_42_bytes : length (codes "2024-01-04          1            51.000000") ≡ 42
a_fixed_line_has_42_bytes = refl

chunks_are_joined : table split latest_close 1 2 ≡ table split latest_close 1 1 ++ table split latest_close 2 2
unfolding opened
chunks_are_joined = refl

-- later bars and a later split change no earlier row
what_comes_later_changes_nothing :
    table (alone (closed 1 0 (units 100) ∷ closed 1 1 (units 102) ∷ closed 1 2 (units 7) ∷ closed 1 3 (units 8) ∷ []) (splits_of (row_on 19726 1 2 ∷ row_on 19727 1 3 ∷ []))) latest_close 1 2
    ≡ table split latest_close 1 2
unfolding opened
what_comes_later_changes_nothing = refl

-- ---- who has a row

one : Pipeline
one = pipeline (of_terms (Kind.Constant (units 1)) [] ∷ []) (named (codes "one") 0 ∷ [])

-- asset 3 exists from 2024-01-04, the day after its start, to 01-05
an_asset_has_rows_while_it_exists : csv (world (record { sid = 3; start = pos 19725; end = pos 19727 } ∷ []) [] [] [] no_tables) one 1 4
    ≡ lines (codes "session,sid,one" ∷ codes "2024-01-04,3,1.000000" ∷ codes "2024-01-05,3,1.000000" ∷ [])
unfolding one opened
an_asset_has_rows_while_it_exists = refl

over : ℕ → ℕ → Node
over x y = of_terms (Kind.Point (PointKind.Comparison compare.Greater)) (x ∷ y ∷ [])

-- the screen close > 1000
no_row_passes : csv plain (record { graph = of_bars WindowKind.Latest (Close ∷ []) 1 ∷ of_terms (Kind.Constant (units 1000)) [] ∷ over 0 1 ∷ []; columns = named (codes "c") 0 ∷ []; screen = Some 2; names = [] }) 1 5
    ≡ lines (codes "session,sid,c" ∷ [])
unfolding over opened
no_row_passes = refl

-- (close - 50).clip(0, 10), where the mean of two closes is above 60
screened : Pipeline
screened =
    record {
      graph = of_bars WindowKind.Latest (Close ∷ []) 1 ∷ of_terms (Kind.Constant (units 50)) [] ∷ of_terms (Kind.Point PointKind.Sub) (0 ∷ 1 ∷ []) ∷ of_terms (Kind.Point (PointKind.Clip (pos 0) (units 10))) (2 ∷ [])
          ∷ of_bars WindowKind.SimpleMovingAverage (Close ∷ []) 2 ∷ of_terms (Kind.Constant (units 60)) [] ∷ over 4 5 ∷ [];
      columns = named (codes "a") 3 ∷ [];
      screen = Some 6;
      names = [];
    }

one_row_of_two_passes : csv plain screened 3 4 ≡ lines (codes "session,sid,a" ∷ codes "2024-01-05,1,1.000000" ∷ [])
unfolding screened over opened
one_row_of_two_passes = refl

-- ---- empty fields, truth values and labels

missing_is_an_empty_field : csv gap (pipeline (of_bars WindowKind.SimpleMovingAverage (Close ∷ []) 1 ∷ []) (named (codes "m") 0 ∷ [])) 2 2 ≡ lines (codes "session,sid,m" ∷ codes "2024-01-04,1," ∷ [])
unfolding opened
missing_is_an_empty_field = refl

masked : Pipeline
masked =
    pipeline (of_bars WindowKind.Latest (Close ∷ []) 1 ∷ of_terms (Kind.Constant (units 51)) [] ∷ over 0 1 ∷ record (of_bars WindowKind.SimpleMovingAverage (Close ∷ []) 2) { mask = Some 2 } ∷ [])
    (named (codes "m") 3 ∷ [])

masked_values_are_empty_fields : csv plain masked 3 4 ≡ lines (codes "session,sid,m" ∷ codes "2024-01-05,1," ∷ codes "2024-01-08,1,51.500000" ∷ [])
unfolding masked over opened
masked_values_are_empty_fields = refl

-- close != close, and 1 / 0
unequal : Pipeline
unequal =
    pipeline (of_bars WindowKind.Latest (Close ∷ []) 1 ∷ of_terms (Kind.Point (PointKind.Comparison compare.NotEqual)) (0 ∷ 0 ∷ []) ∷ of_terms (Kind.Constant (units 1)) [] ∷ of_terms (Kind.Constant (pos 0)) [] ∷ of_terms (Kind.Point PointKind.Div) (2 ∷ 3 ∷ []) ∷ [])
    (named (codes "n") 1 ∷ named (codes "z") 4 ∷ [])

truth_values_are_words : csv plain unequal 3 3 ≡ lines (codes "session,sid,n,z" ∷ codes "2024-01-05,1,false," ∷ [])
unfolding unequal opened
truth_values_are_words = refl

outgrown_volume_is_not_present : csv outgrown (pipeline (of_bars WindowKind.WindowMax (Volume ∷ []) 2 ∷ of_bars WindowKind.AllPresent (Volume ∷ []) 2 ∷ []) (named (codes "v") 0 ∷ named (codes "ok") 1 ∷ [])) 2 2
    ≡ lines (codes "session,sid,v,ok" ∷ codes "2024-01-04,1,4.000000,false" ∷ [])
unfolding opened
outgrown_volume_is_not_present = refl

-- the close and its double
a_sum_out_of_range_is_an_empty_field : csv (alone (closed 1 0 (units 100000000000) ∷ []) no_tables)
    (pipeline (of_bars WindowKind.Latest (Close ∷ []) 1 ∷ of_terms (Kind.Point PointKind.Add) (0 ∷ 0 ∷ []) ∷ []) (named (codes "c") 0 ∷ named (codes "d") 1 ∷ [])) 1 1
    ≡ lines (codes "session,sid,c,d" ∷ codes "2024-01-03,1,100000000000.000000," ∷ [])
unfolding opened
a_sum_out_of_range_is_an_empty_field = refl

-- ---- four assets

ranked : RankMethod → Node
ranked m = of_terms (Kind.Cross (CrossKind.Rank m Ascending)) (0 ∷ [])

by_five_methods : Pipeline
by_five_methods =
    pipeline (of_bars WindowKind.Latest (Close ∷ []) 1 ∷ map ranked (method.Ordinal ∷ method.Min ∷ method.Max ∷ method.Dense ∷ method.Average ∷ []))
    (named (codes "o") 1 ∷ named (codes "n") 2 ∷ named (codes "x") 3 ∷ named (codes "d") 4 ∷ named (codes "a") 5 ∷ [])

ranks_by_five_methods : csv three_bars by_five_methods 1 1
    ≡ lines (codes "session,sid,o,n,x,d,a"
    ∷ codes "2024-01-03,1,2.000000,2.000000,3.000000,2.000000,2.500000"
    ∷ codes "2024-01-03,2,1.000000,1.000000,1.000000,1.000000,1.000000"
    ∷ codes "2024-01-03,3,3.000000,2.000000,3.000000,2.000000,2.500000"
    ∷ codes "2024-01-03,4,,,,," ∷ [])
unfolding by_five_methods ranked opened
ranks_by_five_methods = refl

by_sector : Pipeline
by_sector =
    record (pipeline (of_bars WindowKind.Latest (Close ∷ []) 1 ∷ of_terms (Kind.Label 0) [] ∷ record (of_terms (Kind.Cross CrossKind.Demean) (0 ∷ [])) { group = Some 1 } ∷ []) (named (codes "d") 2 ∷ named (codes "s") 1 ∷ [])) { names = sector ∷ [] }

labels_with_commas_are_quoted : csv (grouped sectors) by_sector 1 1
    ≡ lines (codes "session,sid,d,s" ∷ codes "2024-01-03,1,-1.500000,tech" ∷ codes "2024-01-03,2,1.500000,tech" ∷ (codes "2024-01-03,3,0.000000," ++ 34 ∷ codes "Oil, Gas" ++ 34 ∷ []) ∷ codes "2024-01-03,4,," ∷ [])
unfolding by_sector opened
labels_with_commas_are_quoted = refl

without_labels_all_fields_are_empty : csv (grouped []) by_sector 1 1
    ≡ lines (codes "session,sid,d,s" ∷ codes "2024-01-03,1,," ∷ codes "2024-01-03,2,," ∷ codes "2024-01-03,3,," ∷ codes "2024-01-03,4,," ∷ [])
unfolding by_sector opened
without_labels_all_fields_are_empty = refl

-- a label counts by its place among the texts, 0 or 1, and what is missing counts 0: -1500000, 0, 1500000, 0,
-- 0 and 1
labels_count_by_their_place : sum_of_cells (codes "tech" ∷ codes "Oil, Gas" ∷ []) (table (grouped sectors) by_sector 1 1) ≡ pos 1
unfolding by_sector opened
labels_count_by_their_place = refl

-- the sum is taken modulo 2 ^ 64
sums_wrap : sum_of_cells [] (table (alone (closed 1 0 (units 1) ∷ []) no_tables) (pipeline (of_terms (Kind.Constant (negsuc 0)) [] ∷ []) (named (codes "c") 0 ∷ [])) 1 1) ≡ pos 18446744073709551615
unfolding opened
sums_wrap = refl

-- sums of two ranks
an_asset_that_left_has_no_row :
    csv leaving (pipeline (of_bars WindowKind.Latest (Close ∷ []) 1 ∷ ranked method.Ordinal ∷ record (of_terms (Kind.Window WindowKind.WindowSum) (1 ∷ [])) { window = 2 } ∷ []) (named (codes "s") 2 ∷ [])) 4 5
    ≡ lines (codes "session,sid,s" ∷ codes "2024-01-08,1,3.000000" ∷ codes "2024-01-09,1,2.000000" ∷ [])
unfolding ranked opened
an_asset_that_left_has_no_row = refl
