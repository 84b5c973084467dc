-- Downsampled terms: the value of the first session of a week, a month, a quarter or a year.
use Rattle.std.specs.Prelude.{◌≡◌, ℤ, pos, negsuc, refl, List, [], ◌∷◌, map, codes}
use Rattle.pl_spec.specs.declared.Column.TheVariants.{Close}
use Rattle.pl_spec.specs.declared.Compare.TheVariants.{LessEqual}
use Rattle.pl_spec.specs.declared.Frequency.{Frequency}
use Rattle.pl_pipeline.specs.Table.{Pipeline}
use Rattle.pl_spec.specs.declared.Frequency.TheVariants.{YearStart, QuarterStart, MonthStart, WeekStart}
use Rattle.pl_spec.specs.Rounding.{MISSING}
use Rattle.pl_spec.specs.Periods.{period, period_start}
use Rattle.pl_spec.specs.World.{World}
use Rattle.pl_pipeline.specs.Kind.{Kind, PointKind}
use Rattle.pl_pipeline.specs.declared.WindowKind.TheVariants as kind
use Rattle.pl_pipeline.specs.Term.{Term}
use Rattle.pl_pipeline.specs.Term.Term.{absent, node}
use Rattle.pl_pipeline.specs.Value.Value.{Number}
use Rattle.pl_pipeline.specs.Graph.{reach}
use Rattle.pl_laws.proofs.Worked.Worlds.{opened, units, asset, world, no_tables, plain, latest, number, by_session, of_bars, of_terms, pipeline, named, csv, lines}

abbrev downsampled : Frequency → Term → Term
downsampled f x = node (Kind.Downsample f) 1 x absent absent absent absent

-- 2024-01-02 and 01-05 are of one week, 01-08 and 01-09 of the next
sessions_start_weeks : map (period_start WeekStart plain.days) (negsuc 0 ∷ pos 0 ∷ pos 3 ∷ pos 4 ∷ pos 5 ∷ pos 6 ∷ []) ≡ negsuc 0 ∷ pos 0 ∷ pos 0 ∷ pos 4 ∷ pos 4 ∷ pos 6 ∷ []
unfolding opened
sessions_start_weeks = refl

-- 2023-12-29 and 12-31, 2024-01-02, 03-31 and 04-01
abbrev some_days : List ℤ
some_days = pos 19720 ∷ pos 19722 ∷ pos 19724 ∷ pos 19813 ∷ pos 19814 ∷ []

sessions_start_years : map (period_start YearStart some_days) (pos 1 ∷ pos 2 ∷ pos 3 ∷ pos 4 ∷ []) ≡ pos 0 ∷ pos 2 ∷ pos 2 ∷ pos 2 ∷ []
unfolding opened
sessions_start_years = refl

sessions_start_quarters : map (period_start QuarterStart some_days) (pos 1 ∷ pos 2 ∷ pos 3 ∷ pos 4 ∷ []) ≡ pos 0 ∷ pos 2 ∷ pos 2 ∷ pos 4 ∷ []
unfolding opened
sessions_start_quarters = refl

sessions_start_months : map (period_start MonthStart some_days) (pos 1 ∷ pos 2 ∷ pos 3 ∷ pos 4 ∷ []) ≡ pos 0 ∷ pos 2 ∷ pos 3 ∷ pos 4 ∷ []
unfolding opened
sessions_start_months = refl

-- weeks begin on Monday: 1969-12-28, 12-29 and 1970-01-05
weeks_begin_on_monday : map (period WeekStart) (negsuc 3 ∷ negsuc 2 ∷ pos 3 ∷ pos 4 ∷ []) ≡ negsuc 0 ∷ pos 0 ∷ pos 0 ∷ pos 1 ∷ []
weeks_begin_on_monday = refl

a_week_keeps_its_first_value : by_session plain (downsampled WeekStart (latest Close)) (4 ∷ 5 ∷ []) ≡ Number (units 52) ∷ Number (units 52) ∷ []
unfolding opened
a_week_keeps_its_first_value = refl

-- 2024-01-05 asks for the session before the first one, 01-09 for session 3
a_week_reaches_behind_its_first_session : map (reach plain.days (downsampled WeekStart (latest Close))) (pos 3 ∷ pos 5 ∷ []) ≡ negsuc 0 ∷ pos 3 ∷ []
unfolding opened
a_week_reaches_behind_its_first_session = refl

-- a mean of two sessions over weekly values reaches from Monday into the week before
a_window_over_weeks_reaches_further : reach plain.days (node (Kind.Window kind.SimpleMovingAverage) 2 (downsampled WeekStart (latest Close)) absent absent absent absent) (pos 4) ≡ negsuc 0
unfolding opened
a_window_over_weeks_reaches_further = refl

-- the asset does not exist yet on 2024-01-08
abbrev late : World
late = world (record (asset 1) { start = pos 19730 } ∷ []) [] [] [] no_tables

an_asset_has_no_value_of_a_session_before_it : by_session late (downsampled WeekStart (number (units 1))) (4 ∷ 5 ∷ []) ≡ Number MISSING ∷ Number MISSING ∷ []
unfolding opened
an_asset_has_no_value_of_a_session_before_it = refl

-- ---- as text

-- on 2024-01-08 the latest close of 52 is at most 52, so the filter stays true
abbrev weekly_filter : Pipeline
weekly_filter =
    pipeline (of_bars kind.Latest (Close ∷ []) 1 ∷ of_terms (Kind.Constant (units 52)) [] ∷ of_terms (Kind.Point (PointKind.Comparison LessEqual)) (0 ∷ 1 ∷ [])
    ∷ of_terms (Kind.Downsample WeekStart) (2 ∷ []) ∷ []) (named (codes "f") 3 ∷ [])

a_weekly_filter_is_written_as_a_filter : csv plain weekly_filter 4 5 ≡ lines (codes "session,sid,f" ∷ codes "2024-01-08,1,true" ∷ codes "2024-01-09,1,true" ∷ [])
unfolding opened
a_weekly_filter_is_written_as_a_filter = refl
