-- Rows that were worked out by hand: they hold by computation.
use Rattle.std.specs.Prelude.{◌≡◌, ℕ, ℤ, refl, pos, List, [], ◌∷◌, codes, Some, None}
use Rattle.pl_spec.specs.declared.Column.TheVariants.{Close}
use Rattle.pl_spec.specs.Rounding.{MISSING}
use Rattle.pl_spec.specs.Numbers.{NumberRow}
use Rattle.pl_spec.specs.World.{World}
use Rattle.pl_spec.specs.declared.Figure.TheVariants as figure
use Rattle.pl_pipeline.specs.Kind.{Kind}
use Rattle.pl_pipeline.specs.Table.{Pipeline}
use Rattle.pl_pipeline.specs.Term.{Node}
use Rattle.pl_pipeline.specs.declared.WindowKind.TheVariants.{Latest, Returns, SimpleMovingAverage, WindowSum}
use Rattle.pl_laws.proofs.Worked.Worlds.{opened, plain, split, latest_close, of_bars, of_terms, pipeline, named, units}
use Rattle.pl_derivation.specs.Lines.{Line}
use Rattle.pl_derivation.specs.Right.{first_wrong}
use Rattle.pl_derivation.specs.Lines.Line.{SeenLine, ValueLine, SeenValueLine}
use Rattle.pl_derivation.specs.Walks.{derivation}

seen_and_value : List Line
seen_and_value = SeenLine Close 1 (pos 19725) (pos 19726) (units 102 ∷ units 51 ∷ []) ∷ ValueLine 0 1 (pos 19726) (units 51) None ∷ []

a_close_before_a_split : derivation split latest_close 0 1 (pos 2) ≡ seen_and_value
unfolding opened seen_and_value
a_close_before_a_split = refl

all_is_right : first_wrong split latest_close seen_and_value ≡ None
unfolding opened seen_and_value
all_is_right = refl

without_its_premise : first_wrong split latest_close (ValueLine 0 1 (pos 19726) (units 51) None ∷ []) ≡ Some 1
unfolding opened
without_its_premise = refl

with_another_cell : first_wrong split latest_close (SeenLine Close 1 (pos 19725) (pos 19726) (units 102 ∷ pos 51000001 ∷ []) ∷ ValueLine 0 1 (pos 19726) (units 51) None ∷ []) ≡ Some 1
unfolding opened
with_another_cell = refl

-- ---- a number beside bars

score : List ℕ
score = codes "score"

scored_from : ℕ → ℤ → NumberRow
scored_from day x = record { name = score; sid = 1; known = pos day; value = x }

-- 3 from 2024-01-03 on, 4 from 01-05 on, and none from 01-09 on
scored : World
scored = record plain { numbers = scored_from 19725 (units 3) ∷ scored_from 19731 MISSING ∷ scored_from 19727 (units 4) ∷ [] }

its_number : Pipeline
its_number = record latest_close { graph = of_terms (Kind.Number figure.Value 0) [] ∷ []; names = score ∷ [] }

of_the_record_that_was_known_last : derivation scored its_number 0 1 (pos 4) ≡ ValueLine 0 1 (pos 19730) (units 4) (Some (pos 19727)) ∷ []
unfolding opened scored scored_from its_number score
of_the_record_that_was_known_last = refl

of_an_empty_field : derivation scored its_number 0 1 (pos 5) ≡ ValueLine 0 1 (pos 19731) MISSING (Some (pos 19731)) ∷ []
unfolding opened scored scored_from its_number score
of_an_empty_field = refl

with_the_day_of_an_older_record : first_wrong scored its_number (ValueLine 0 1 (pos 19730) (units 4) (Some (pos 19725)) ∷ []) ≡ Some 1
unfolding opened scored scored_from its_number score
with_the_day_of_an_older_record = refl

without_the_records_day : first_wrong scored its_number (ValueLine 0 1 (pos 19730) (units 4) None ∷ []) ≡ Some 1
unfolding opened scored scored_from its_number score
without_the_records_day = refl

-- ---- windows over values that move with the bars

-- a formula over a window of two sessions of term 0
abbrev over_two : Kind → Node
over_two k = record (of_terms k (0 ∷ [])) { window = 2 }

abbrev over_first : Node → Kind → Pipeline
over_first n k = pipeline (n ∷ over_two k ∷ []) (named (99 ∷ []) 1 ∷ [])

mean_of_latest : Pipeline
mean_of_latest = over_first (of_bars Latest (Close ∷ []) 1) (Kind.Window SimpleMovingAverage)

-- On 2024-01-04 the latest closes of the sessions before are seen from the split on: 50 and 51.
its_lines : List Line
its_lines =
    SeenLine Close 1 (pos 19724) (pos 19726) (units 100 ∷ units 50 ∷ [])
    ∷ SeenValueLine 0 1 (pos 19725) (pos 19726) (units 50)
    ∷ SeenLine Close 1 (pos 19725) (pos 19726) (units 102 ∷ units 51 ∷ [])
    ∷ ValueLine 0 1 (pos 19726) (units 51) None
    ∷ ValueLine 1 1 (pos 19726) (pos 50500000) None ∷ []

a_mean_of_latest_closes : derivation split mean_of_latest 1 1 (pos 2) ≡ its_lines
unfolding opened mean_of_latest its_lines
a_mean_of_latest_closes = refl

its_lines_are_right : first_wrong split mean_of_latest its_lines ≡ None
unfolding opened mean_of_latest its_lines
its_lines_are_right = refl

-- the value that the latest close had on its own session is no premise, though it is a right line
over_own_values : first_wrong split mean_of_latest
    (SeenLine Close 1 (pos 19724) (pos 19725) (units 100 ∷ [])
    ∷ ValueLine 0 1 (pos 19725) (units 100) None
    ∷ SeenLine Close 1 (pos 19725) (pos 19726) (units 102 ∷ units 51 ∷ [])
    ∷ ValueLine 0 1 (pos 19726) (units 51) None
    ∷ ValueLine 1 1 (pos 19726) (pos 75500000) None ∷ []) ≡ Some 5
unfolding opened mean_of_latest
over_own_values = refl

-- nor is a value seen from its own session
seen_from_itself : first_wrong split mean_of_latest
    (SeenLine Close 1 (pos 19725) (pos 19726) (units 102 ∷ units 51 ∷ []) ∷ SeenValueLine 0 1 (pos 19726) (pos 19726) (units 51) ∷ []) ≡ Some 2
unfolding opened mean_of_latest
seen_from_itself = refl

-- a change keeps its values, so none is told as it is seen from a later session
sum_of_changes : Pipeline
sum_of_changes = over_first (of_bars Returns (Close ∷ []) 2) (Kind.Window WindowSum)

a_sum_of_changes : derivation split sum_of_changes 1 1 (pos 3) ≡
    SeenLine Close 1 (pos 19724) (pos 19726) (units 100 ∷ units 50 ∷ [])
    ∷ SeenLine Close 1 (pos 19725) (pos 19726) (units 102 ∷ units 51 ∷ [])
    ∷ ValueLine 0 1 (pos 19726) (pos 20000) None
    ∷ SeenLine Close 1 (pos 19725) (pos 19727) (units 102 ∷ units 51 ∷ [])
    ∷ SeenLine Close 1 (pos 19726) (pos 19727) (units 51 ∷ [])
    ∷ ValueLine 0 1 (pos 19727) (pos 0) None
    ∷ ValueLine 1 1 (pos 19727) (pos 20000) None ∷ []
unfolding opened sum_of_changes
a_sum_of_changes = refl

a_change_as_it_is_seen : first_wrong split sum_of_changes
    (SeenLine Close 1 (pos 19724) (pos 19727) (units 100 ∷ units 50 ∷ [])
    ∷ SeenLine Close 1 (pos 19725) (pos 19727) (units 102 ∷ units 51 ∷ [])
    ∷ SeenValueLine 0 1 (pos 19726) (pos 19727) (pos 20000) ∷ []) ≡ Some 3
unfolding opened sum_of_changes
a_change_as_it_is_seen = refl
