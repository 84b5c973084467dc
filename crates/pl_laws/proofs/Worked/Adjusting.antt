-- What is seen of bars after splits, mergers and dividends.
use Rattle.std.specs.Prelude.{◌≡◌, ℕ, ℤ, pos, negsuc, refl, List, [], ◌∷◌, map, length}
use Rattle.pl_spec.specs.Rounding.{MISSING, scaled}
use Rattle.pl_spec.specs.declared.Column.TheVariants.{Close, Volume}
use Rattle.pl_spec.specs.declared.AdjustmentKind.TheVariants.{Revision}
use Rattle.pl_spec.specs.World.{World, Change, Adjustment, events_of}
use Rattle.pl_spec.specs.World.Change.{Scale, Overwrite}
use Rattle.pl_spec.specs.Order.{day_of_time, adjustments_of, with_revisions}
use Rattle.pl_spec.specs.Window.{effects_in, bar_window, applied_steps}
use Rattle.pl_pipeline.specs.declared.WindowKind.TheVariants as kind
use Rattle.pl_pipeline.specs.Term.Term.{column}
use Rattle.pl_pipeline.specs.Value.Value.{Number}
use Rattle.pl_laws.proofs.Worked.Worlds.{opened, units, closed, closes, asset, alone, plain, split, gap, outgrown, no_tables, splits_of, row_at, row_on, window, at_close, latest, by_session, on}

-- on 2024-01-03 and, from the split on, 2024-01-04
close_is_seen_halved_after_split : by_session split (latest Close) (1 ∷ 2 ∷ []) ≡ Number (units 100) ∷ Number (units 51) ∷ []
unfolding opened
close_is_seen_halved_after_split = refl

-- of 50 and 51, and of 51 and 51
mean_is_of_halved_closes : by_session split (at_close kind.SimpleMovingAverage 2) (2 ∷ 3 ∷ []) ≡ Number (pos 50500000) ∷ Number (units 51) ∷ []
unfolding opened
mean_is_of_halved_closes = refl

volume_is_doubled_by_a_half_split : on split 2 (latest Volume ∷ []) ≡ Number (units 20) ∷ []
unfolding opened
volume_is_doubled_by_a_half_split = refl

mergers_and_dividends_leave_the_volume :
    on (alone closes (record no_tables { mergers = row_on 19726 1 2 ∷ [] })) 2 (latest Volume ∷ latest Close ∷ [])
    ≡ Number (units 10) ∷ Number (units 51) ∷ []
unfolding opened
mergers_and_dividends_leave_the_volume = refl

-- 5 millionths become 3 and then 2
each_adjustment_rounds_once :
    on (alone (closed 1 0 (pos 5) ∷ closed 1 1 (units 1) ∷ []) (splits_of (row_on 19725 1 2 ∷ row_on 19726 1 2 ∷ []))) 2 (at_close kind.WindowMin 2 ∷ [])
    ≡ Number (pos 2) ∷ []
unfolding opened
each_adjustment_rounds_once = refl

a_quarter_at_once_would_be_less : scaled (record { num = 1; den = 4 }) (pos 5) ≡ pos 1
unfolding opened
a_quarter_at_once_would_be_less = refl

-- a millionth is split 1/3 and merged 3/1 on one day
split_acts_before_merger :
    on (alone (closed 1 1 (pos 1) ∷ []) (record no_tables { splits = row_on 19726 1 3 ∷ []; mergers = row_on 19726 3 1 ∷ [] })) 2 (latest Close ∷ [])
    ≡ Number (pos 0) ∷ []
unfolding opened
split_acts_before_merger = refl

the_other_order_would_give_one : scaled (record { num = 1; den = 3 }) (scaled (record { num = 3; den = 1 }) (pos 1)) ≡ pos 1
unfolding opened
the_other_order_would_give_one = refl

-- from Friday 2024-01-05 to Tuesday 01-09
saturday_split_acts_on_monday : by_session (alone closes (splits_of (row_on 19728 1 2 ∷ []))) (latest Close) (3 ∷ 4 ∷ 5 ∷ []) ≡ Number (units 51) ∷ Number (units 26) ∷ Number (units 53) ∷ []
unfolding opened
saturday_split_acts_on_monday = refl

-- at the first second of 2024-01-04 and at its last
splits_of_one_day_act_together : on (alone closes (splits_of (row_at 1704326400 1 2 ∷ row_at 1704412799 1 2 ∷ []))) 2 (latest Close ∷ []) ≡ Number (pos 25500000) ∷ []
unfolding opened
splits_of_one_day_act_together = refl

times_before_1970_round_down : map day_of_time (pos 86399 ∷ pos 0 ∷ negsuc 0 ∷ negsuc 86399 ∷ negsuc 86400 ∷ []) ≡ pos 0 ∷ pos 0 ∷ negsuc 0 ∷ negsuc 0 ∷ negsuc 1 ∷ []
times_before_1970_round_down = refl

-- the volume 100000000000 is past the limit once it is doubled, and halved again
outgrown_volume_stays_missing : on outgrown 2 (window kind.WindowMax 2 (column Volume ∷ []) ∷ window kind.AllPresent 2 (column Volume ∷ []) ∷ [])
    ≡ Number (units 4) ∷ Number (pos 0) ∷ []
unfolding opened
outgrown_volume_stays_missing = refl

there_are_no_bars_before_the_first_session : map (bar_window plain Close 2 1) (pos 0 ∷ pos 1 ∷ []) ≡ (MISSING ∷ MISSING ∷ []) ∷ (MISSING ∷ units 100 ∷ []) ∷ []
unfolding opened
there_are_no_bars_before_the_first_session = refl

-- on 2024-01-04, 01-05 and 01-08
windows_slide_over_the_split : map (λ d. bar_window split Close 2 1 (pos d)) (2 ∷ 3 ∷ 4 ∷ []) ≡ (units 50 ∷ units 51 ∷ []) ∷ (units 51 ∷ units 51 ∷ []) ∷ (units 51 ∷ units 52 ∷ []) ∷ []
unfolding opened
windows_slide_over_the_split = refl

events_act_once : map (λ high. length (effects_in Close (pos 19725) (pos 19725) (pos high) (events_of split 1))) (19725 ∷ 19726 ∷ 19731 ∷ []) ≡ 0 ∷ 1 ∷ 1 ∷ []
events_act_once = refl

events_do_not_act_again : effects_in Close (pos 19725) (pos 19726) (pos 19731) (events_of split 1) ≡ []
events_do_not_act_again = refl

-- ---- how often a cell is adjusted

both_buffered_bars_are_adjusted : applied_steps split Close 0 2 (1 ∷ []) ≡ 2
both_buffered_bars_are_adjusted = refl

-- 2024-01-03 and 01-04 as chunks of their own
in_chunks_one_bar_is_adjusted : applied_steps split Close 0 1 (1 ∷ []) ∷ applied_steps split Close 1 1 (1 ∷ []) ∷ [] ≡ 0 ∷ 1 ∷ []
in_chunks_one_bar_is_adjusted = refl

later_bars_are_not_adjusted : applied_steps split Close 0 4 (1 ∷ []) ≡ 2
later_bars_are_not_adjusted = refl

-- ---- the order of the tables

-- on 2024-01-05 the split before the dividend, though the dividend's time is earlier
tables_are_laid_by_day : map {B = ℤ × Change} (λ x. (x.event.day, x.event.change)) (adjustments_of (asset 1 ∷ []) (row_at 1704412801 1 2 ∷ []) [] (row_at 1704412800 9 10 ∷ row_at 1704326400 8 10 ∷ []))
    ≡ (pos 19726, Scale (record { num = 8; den = 10 })) ∷ (pos 19727, Scale (record { num = 1; den = 2 })) ∷ (pos 19727, Scale (record { num = 9; den = 10 })) ∷ []
tables_are_laid_by_day = refl

unknown_sids_are_left_out : adjustments_of (asset 1 ∷ []) (record (row_on 19726 1 2) { sid = pos 9 } ∷ []) [] [] ≡ []
unknown_sids_are_left_out = refl

-- ---- revisions

-- of the close of asset 1 on 2024-01-03, known on a day
abbrev revised : ℤ → ℕ → Adjustment
revised value known = record { sid = 1; event = record { kind = Revision; day = pos known; change = Overwrite (pos 19725) Close value } }

-- as 104, known on 2024-01-05
abbrev late_104 : List Adjustment
late_104 = revised (units 104) 19727 ∷ []

abbrev with : World → List Adjustment → World
with w revisions = record w { adjustments = with_revisions w.adjustments revisions }

-- on 2024-01-04 and 01-05
a_revision_counts_from_its_day_on : by_session (with plain late_104) (at_close kind.SimpleMovingAverage 2) (2 ∷ 3 ∷ []) ≡ Number (units 101) ∷ Number (pos 77500000) ∷ []
unfolding opened
a_revision_counts_from_its_day_on = refl

-- 104 and 25.5: what is known on the day of a split is in the units after it
a_split_of_its_day_leaves_a_revision :
    on (with (alone closes (splits_of (row_on 19727 1 2 ∷ []))) late_104) 3 (at_close kind.SimpleMovingAverage 2 ∷ []) ≡ Number (pos 64750000) ∷ []
unfolding opened
a_split_of_its_day_leaves_a_revision = refl

-- 52, 25.5 and 26
a_later_split_changes_a_revision :
    on (with (alone closes (splits_of (row_on 19730 1 2 ∷ []))) late_104) 4 (at_close kind.SimpleMovingAverage 3 ∷ []) ≡ Number (pos 34500000) ∷ []
unfolding opened
a_later_split_changes_a_revision = refl

a_revision_may_take_a_cell_away : by_session (with plain (revised MISSING 19727 ∷ [])) (at_close kind.SimpleMovingAverage 2) (2 ∷ 3 ∷ []) ≡ Number (units 101) ∷ Number (units 51) ∷ []
unfolding opened
a_revision_may_take_a_cell_away = refl

a_revision_may_name_a_bar_that_is_not_there :
    on (with gap (revised (units 102) 19726 ∷ [])) 2 (latest Close ∷ latest Volume ∷ []) ≡ Number (units 102) ∷ Number MISSING ∷ []
unfolding opened
a_revision_may_name_a_bar_that_is_not_there = refl

-- a revision is no step
ratios_alone_are_steps : applied_steps (with split (revised (units 104) 19726 ∷ [])) Close 0 4 (1 ∷ []) ≡ 2
ratios_alone_are_steps = refl
