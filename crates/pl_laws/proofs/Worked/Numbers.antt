-- Rounding, cells, decimals, sids and dates.
use Rattle.std.specs.Prelude.{◌≡◌, ℕ, ◌+◌, ◌^◌, pos, negsuc, neg_ℤ, refl, codes, List, [], ◌∷◌, map, Some, None, true, false}
use Rattle.std.proofs.Common.{lit<}
use Rattle.jiff_core.specs.Calendar.{days_from_civil, day_count, days_of_years, days_of_months}
use Rattle.pl_spec.specs.Rounding.{MISSING, LIMIT, div_round, to_cell, quot, isqrt, add, mul, div}
use Rattle.pl_spec.specs.Dates.{date_text, day_if, date_in}
use Rattle.pl_spec.specs.Decimals.{Decimal, IsTooLong, millionths, cell_text, sid_in}
use Rattle.pl_laws.proofs.Worked.Worlds.{opened}

halves_round_away_from_zero : map (λ a. div_round a 2) (pos 3 ∷ negsuc 2 ∷ pos 1 ∷ negsuc 0 ∷ pos 0 ∷ []) ≡ pos 2 ∷ negsuc 1 ∷ pos 1 ∷ negsuc 0 ∷ pos 0 ∷ []
unfolding opened
halves_round_away_from_zero = refl

thirds_round_to_the_nearest : map (λ a. div_round a 3) (pos 1 ∷ pos 2 ∷ negsuc 0 ∷ negsuc 1 ∷ []) ≡ pos 0 ∷ pos 1 ∷ pos 0 ∷ negsuc 0 ∷ []
unfolding opened
thirds_round_to_the_nearest = refl

past_the_limit_is_missing : map to_cell (pos LIMIT ∷ pos (LIMIT + 1) ∷ neg_ℤ (pos LIMIT) ∷ neg_ℤ (pos (LIMIT + 1)) ∷ []) ≡ pos LIMIT ∷ MISSING ∷ neg_ℤ (pos LIMIT) ∷ MISSING ∷ []
unfolding opened
past_the_limit_is_missing = refl

nothing_divides_by_zero : quot (pos 1) (pos 0) ∷ div (pos 1000000) (pos 0) ∷ [] ≡ MISSING ∷ MISSING ∷ []
unfolding opened
nothing_divides_by_zero = refl

-- 0.5 * 0.5 is 0.25, 0.000001 * 0.5 is half a millionth, 1 / 3 and -2 / 3
products_and_quotients_round_once : mul (pos 500000) (pos 500000) ∷ mul (pos 1) (pos 500000) ∷ div (pos 1000000) (pos 3000000) ∷ div (negsuc 1999999) (pos 3000000) ∷ []
    ≡ pos 250000 ∷ pos 1 ∷ pos 333333 ∷ negsuc 666666 ∷ []
unfolding opened
products_and_quotients_round_once = refl

missing_stays_missing : add MISSING (pos 1) ∷ mul (pos 1) MISSING ∷ [] ≡ MISSING ∷ MISSING ∷ []
unfolding opened
missing_stays_missing = refl

roots_are_rounded_down : map isqrt (0 ∷ 1 ∷ 3 ∷ 4 ∷ (10 ^ 36 + 1) ∷ []) ≡ 0 ∷ 1 ∷ 1 ∷ 2 ∷ (10 ^ 18) ∷ []
unfolding opened
roots_are_rounded_down = refl

decimal : List ℕ → List ℕ → Decimal
decimal whole fraction = record { negative = false; whole = whole; fraction = fraction }

-- 102, 1.0000005 and -0.0000004
decimals_are_read_in_millionths : millionths (decimal (codes "102") []) ∷ millionths (decimal (codes "1") (codes "0000005")) ∷ millionths (record (decimal (codes "0") (codes "0000004")) { negative = true }) ∷ []
    ≡ pos 102000000 ∷ pos 1000001 ∷ pos 0 ∷ []
unfolding decimal opened
decimals_are_read_in_millionths = refl

nineteen_digits_are_too_long : IsTooLong (decimal (codes "1") (codes "0000000000000000001"))
unfolding decimal
nineteen_digits_are_too_long = lit< tt

cells_have_six_decimals : map cell_text (pos 51000000 ∷ negsuc 1499999 ∷ pos 5 ∷ MISSING ∷ []) ≡ codes "51.000000" ∷ codes "-1.500000" ∷ codes "0.000005" ∷ [] ∷ []
unfolding opened
cells_have_six_decimals = refl

sids_have_no_zeros_in_front : map sid_in (codes "7" ∷ codes "4294967295" ∷ codes "4294967296" ∷ codes "07" ∷ codes "0" ∷ [] ∷ []) ≡ Some 7 ∷ Some 4294967295 ∷ None ∷ None ∷ Some 0 ∷ None ∷ []
unfolding sid_in opened
sids_have_no_zeros_in_front = refl

days_as_dates : map date_text (negsuc 25566 ∷ pos 0 ∷ pos 19782 ∷ pos 84005 ∷ []) ≡ codes "1900-01-01" ∷ codes "1970-01-01" ∷ codes "2024-02-29" ∷ codes "2199-12-31" ∷ []
unfolding opened
days_as_dates = refl

dates_as_days : map date_in (codes "1900-01-01" ∷ codes "2024-01-02" ∷ codes "2024-02-29" ∷ codes "2199-12-31" ∷ []) ≡ Some (negsuc 25566) ∷ Some (pos 19724) ∷ Some (pos 19782) ∷ Some (pos 84005) ∷ []
unfolding date_in day_if days_from_civil day_count days_of_years days_of_months opened
dates_as_days = refl

what_is_no_date : map date_in (codes "2023-02-29" ∷ codes "1899-12-31" ∷ codes "2200-01-01" ∷ codes "2024-13-01" ∷ codes "2024-1-02" ∷ codes "2024/01/02" ∷ codes "2024-01-02 " ∷ []) ≡ None ∷ None ∷ None ∷ None ∷ None ∷ None ∷ None ∷ []
unfolding date_in day_if opened
what_is_no_date = refl
