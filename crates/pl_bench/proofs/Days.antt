-- The days of the sessions.
use Rattle.std.proofs.Common.{◌≡◌, ◌++◌, [], ◌∷◌, ℕ, ◌+◌, ◌<◌, ◌≤◌, ℤ, pos, List, length, map, refl, sym, ap, ◌∙◌, arith}
use Rattle.std.specs.Prelude.{filter, ◌<ℤ◌}
use Rattle.std.specs.List.{range_with_len, AllPairs}
use Rattle.std.proofs.lemmas.List.{map-append, take_all, length-map, get_or-map}
use Rattle.std.proofs.lemmas.Int.{ints}
use Rattle.std.proofs.lemmas.List.Elements.{All-map, All-filter, filter-append}
use Rattle.std.proofs.lemmas.List.Kept.{AllPairs-filter}
use Rattle.pl_spec.specs.Dates.{IsDay}
use Rattle.pl_spec.proofs.Ranges.{range-more, range-rises}
use Rattle.pl_calendar.specs.Days.{AreDays}
use Rattle.pl_bench.specs.StatedWorld.{stated_days, is_weekday}
use Rattle.pl_bench.proofs.Grids.{within}

abbrev weekdays : List ℕ
weekdays = filter is_weekday (range_with_len 18262 840)

weekdays-count : length weekdays ≡ 600
weekdays-count = refl

pub are_weekdays : map pos weekdays ≡ stated_days
unfolding stated_days
are_weekdays = sym (ap (map pos) (take_all 600 weekdays (omega (arith, weekdays-count))))

is_date : (k : ℕ) → 18262 ≤ k → k < 18262 + 840 → IsDay (pos k)
is_date k a b = record { first = omega (arith, ints); last = omega (arith, ints) }

ascending : (xs : List ℕ) → AllPairs (λ x y. x < y) xs → AllPairs (λ x y. x <ℤ y) (map pos xs)
ascending xs up i j d h l =
    let few : j < length xs = omega (arith, length-map xs pos) in
    let first : i < length xs = omega arith in
    let low = up i j 0 h few in
    rw (get_or-map pos xs i 0 d first, get_or-map pos xs j 0 d few) (omega (arith, ints, low))

pub length-stated_days : length stated_days ≡ 600
length-stated_days = rw (← are_weekdays) (length-map weekdays pos ∙ weekdays-count)

pub are_days : AreDays stated_days
are_days =
    rw (← are_weekdays) record {
      some = omega (arith, length-map weekdays pos, weekdays-count);
      dates = All-map IsDay pos weekdays (All-filter is_weekday (λ k. IsDay (pos k)) (range_with_len 18262 840) (within (λ k. IsDay (pos k)) 18262 840 is_date));
      ascend = ascending weekdays (AllPairs-filter (λ x y. x < y) is_weekday (range_with_len 18262 840) (range-rises 18262 840));
      few = omega (arith, length-map weekdays pos, weekdays-count);
    }

-- the weekdays among n days from the first one on
abbrev pub weekdays_in : ℕ → List ℤ
weekdays_in n = map pos (filter is_weekday (range_with_len 18262 n))

pub weekdays_in-more : (n : ℕ) → weekdays_in (n + 1) ≡ weekdays_in n ++ map pos (filter is_weekday ((18262 + n) ∷ []))
weekdays_in-more n =
    ap (λ (ks : List ℕ). map pos (filter is_weekday ks)) (range-more 18262 n)
    ∙ ap (map pos) (filter-append is_weekday (range_with_len 18262 n) ((18262 + n) ∷ []))
    ∙ map-append pos (filter is_weekday (range_with_len 18262 n)) (filter is_weekday ((18262 + n) ∷ []))
