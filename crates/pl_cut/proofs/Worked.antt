-- The cut of a small world, row by row, each line computed from the definitions.
-- Session 3 is 2024-01-05, day 19727, and session 5 is 2024-01-09, day 19731.
use Rattle.std.specs.Prelude.{◌≡◌, ℕ, ℤ, pos, refl, codes, List, [], ◌∷◌, map}
use Rattle.pl_spec.specs.declared.AdjustmentKind.TheVariants as kind
use Rattle.pl_spec.specs.declared.Column.TheVariants.{Close}
use Rattle.pl_spec.specs.Numbers.{NumberRow}
use Rattle.pl_spec.specs.World.{World, LabelRow, Adjustment}
use Rattle.pl_spec.specs.World.Change.{Scale, Overwrite}
use Rattle.pl_pipeline.specs.declared.WindowKind.TheVariants as WindowKind
use Rattle.pl_pipeline.specs.declared.RankMethod.TheVariants as method
use Rattle.pl_pipeline.specs.declared.RankOrder.TheVariants.{Ascending}
use Rattle.pl_pipeline.specs.Kind.CrossKind.{Rank}
use Rattle.pl_pipeline.specs.Term.Term.{absent}
use Rattle.pl_pipeline.specs.Value.{Value, value}
use Rattle.pl_pipeline.specs.Value.Value.{Number}
use Rattle.pl_laws.proofs.Worked.Worlds.{opened, units, closed, asset, world, no_tables, across, latest, leaving, sector, of_bars, named, pipeline, csv, lines}
use Rattle.pl_cut.specs.Cuts.{Span, cut, without}

-- the last session with the one before it, and with the two before it
abbrev late : Span
late = record { first = 4; last = 5; first_day = pos 19730; last_day = pos 19731 }

abbrev three : Span
three = record { first = 3; last = 5; first_day = pos 19727; last_day = pos 19731 }

-- ---- assets and bars: asset 2 exists until session 3

an_asset_that_left_is_left_out : (cut leaving late).assets ≡ asset 1 ∷ []
an_asset_that_left_is_left_out = refl

its_bars_are_too : (cut leaving late).bars ≡ closed 1 4 (units 53) ∷ []
its_bars_are_too = refl

-- on the first session it still existed
one_that_existed_is_kept : map (λ a. a.sid) (cut leaving three).assets ≡ 1 ∷ 2 ∷ []
one_that_existed_is_kept = refl

bars_of_the_last_session_are_left_out : (cut leaving three).bars ≡ closed 1 3 (units 52) ∷ closed 1 4 (units 53) ∷ closed 2 3 (units 10) ∷ []
bars_of_the_last_session_are_left_out = refl

-- ---- labels and numbers

label : ℕ → ℤ → List ℕ → LabelRow
label a start text = record { name = sector; sid = a; start = start; text = text }

number : ℕ → ℤ → ℤ → NumberRow
number a known value = record { name = codes "shares"; sid = a; known = known; value = value }

change : ℤ → Adjustment
change day = record { sid = 1; event = record { kind = kind.Split; day = day; change = Scale (record { num = 1; den = 2 }) } }

revision : ℤ → ℤ → Adjustment
revision bar_day known = record { sid = 1; event = record { kind = kind.Revision; day = known; change = Overwrite bar_day Close (units 7) } }

-- with rows of both assets that begin before the first day, on it, within and later
full : World
unfolding label number change revision
full =
    record leaving {
      labels = label 1 (pos 19724) (codes "a") ∷ label 1 (pos 19726) (codes "b") ∷ label 1 (pos 19730) (codes "c") ∷ label 1 (pos 19732) (codes "d") ∷ label 2 (pos 19724) (codes "e") ∷ [];
      numbers = number 1 (pos 19726) (units 1) ∷ number 1 (pos 19727) (units 2) ∷ number 1 (pos 19731) (units 3) ∷ number 1 (pos 19732) (units 4) ∷ number 3 (pos 19727) (units 5) ∷ [];
      adjustments = change (pos 19727) ∷ revision (pos 19726) (pos 19728) ∷ revision (pos 19727) (pos 19728) ∷ change (pos 19730) ∷ revision (pos 19730) (pos 19732) ∷ change (pos 19732) ∷ [];
    }

the_newest_label_stays : (cut full three).labels ≡ label 1 (pos 19726) (codes "b") ∷ label 1 (pos 19730) (codes "c") ∷ label 2 (pos 19724) (codes "e") ∷ []
unfolding full
the_newest_label_stays = refl

-- one that was known on the first day is the newest by then; asset 3 does not exist
the_newest_number_stays : (cut full three).numbers ≡ number 1 (pos 19727) (units 2) ∷ number 1 (pos 19731) (units 3) ∷ []
unfolding full
the_newest_number_stays = refl

-- what is effective by the first day, or later than the last, acts on no bar that is read; nor does a revision
-- of an earlier bar
what_acts_within_stays : (cut full three).adjustments ≡ revision (pos 19727) (pos 19728) ∷ change (pos 19730) ∷ []
unfolding full
what_acts_within_stays = refl

-- ---- a table

-- the means of two closes
means : World → List ℕ
means w = csv w (pipeline (of_bars WindowKind.SimpleMovingAverage (Close ∷ []) 2 ∷ []) (named (codes "m") 0 ∷ [])) 5 5

-- the revised close of 7 is halved, and the next one stays
over_the_whole : means full ≡ lines (codes "session,sid,m" ∷ codes "2024-01-09,1,28.250000" ∷ [])
unfolding means full opened
over_the_whole = refl

over_the_cut : means (cut full three) ≡ lines (codes "session,sid,m" ∷ codes "2024-01-09,1,28.250000" ∷ [])
unfolding means full opened
over_the_cut = refl

-- ---- an asset that never exists

-- asset 2 has bars and starts as it ends
abbrev with_absent : World
with_absent = world (asset 1 ∷ record (asset 2) { end = pos 19724 } ∷ asset 3 ∷ []) [] [] (closed 1 0 (units 3) ∷ closed 2 0 (units 1) ∷ closed 3 0 (units 2) ∷ []) no_tables

-- the ranks of the closes 3 and 2
ranks : World → List Value
ranks w = map (λ a. value w [] (across (Rank method.Ordinal Ascending) (latest Close) absent) a (pos 1)) (1 ∷ 3 ∷ [])

ranks_beside_an_absent_one : ranks with_absent ≡ Number (units 2) ∷ Number (units 1) ∷ []
unfolding ranks opened
ranks_beside_an_absent_one = refl

ranks_without_it : ranks (without with_absent 2) ≡ Number (units 2) ∷ Number (units 1) ∷ []
unfolding ranks opened
ranks_without_it = refl
