-- Worked rows of the laws of whole pipelines, each computed from the definitions.
use Rattle.std.proofs.Common.{◌≡◌, ℕ, false, ℤ, pos, ◌*ℤ◌, List, [], ◌∷◌, map, Some, refl, sym, arith, inr}
use Rattle.std.specs.Prelude.{codes}
use Rattle.std.proofs.lemmas.Bool.{true≢false}
use Rattle.pl_spec.specs.declared.Column.TheVariants.{Close}
use Rattle.pl_spec.specs.declared.Compare.TheVariants.{Greater}
use Rattle.pl_spec.specs.Rounding.{Fraction, is_missing, scaled}
use Rattle.pl_spec.specs.World.{World}
use Rattle.pl_pipeline.specs.declared.RankMethod.TheVariants as method
use Rattle.pl_pipeline.specs.declared.RankOrder.TheVariants.{Ascending}
use Rattle.pl_pipeline.specs.declared.WindowKind.{WindowKind}
use Rattle.pl_pipeline.specs.declared.WindowKind.TheVariants.{Latest, SimpleMovingAverage, Returns, Covariance}
use Rattle.pl_pipeline.specs.Kind.{Kind, PointKind, CrossKind}
use Rattle.pl_pipeline.specs.Elementary.{sqrt}
use Rattle.pl_pipeline.specs.Formula.{covariance}
use Rattle.pl_pipeline.specs.Term.{Graph, Term}
use Rattle.pl_pipeline.specs.Term.Term.{absent, column, node}
use Rattle.pl_pipeline.specs.Value.{Value, Own, value}
use Rattle.pl_pipeline.specs.Value.Value.{Number}
use Rattle.pl_pipeline.specs.Table.{Pipeline, Row, table}
use Rattle.pl_laws.proofs.Worked.Worlds.{opened, units, closed, asset, world, no_tables, window, point, number, latest, of_bars, of_terms, named, pipeline}
use Rattle.pl_invariance.specs.Exact.{Divides}
use Rattle.pl_invariance.specs.Pipelines.{Measure, Price, FormulaRule, OperationRule, CrossRule, Rule, HasMeasure, NothingIsRounded, HasMeasures, IsSessionUnrounded, priced_row}
use Rattle.pl_invariance.specs.Pipelines.Measure.{Power, NoUnit}
use Rattle.pl_invariance.specs.Priced.{priced_world}
use Rattle.pl_invariance.proofs.Tables.{tables-have-units}

abbrev cents : Fraction
cents = record { num = 100; den = 1 }

-- closes of 2 and 4, and of 5 and 3
abbrev two_assets : World
two_assets =
    world (asset 1 ∷ asset 2 ∷ []) [] []
    (closed 1 0 (units 2) ∷ closed 1 1 (units 4) ∷ closed 2 0 (units 5) ∷ closed 2 1 (units 3) ∷ []) no_tables

abbrev graph : Graph
graph =
    of_bars Latest (Close ∷ []) 1
    ∷ of_bars SimpleMovingAverage (Close ∷ []) 2
    ∷ of_terms (Kind.Point (PointKind.Comparison Greater)) (0 ∷ 1 ∷ [])
    ∷ of_terms (Kind.Cross (CrossKind.Rank method.Ordinal Ascending)) (0 ∷ [])
    ∷ of_bars Returns (Close ∷ []) 2 ∷ []

-- the mean, the rank of the latest close and the return, of assets whose latest close is above their mean
abbrev rising : Pipeline
rising = record (pipeline graph (named (codes "mean") 1 ∷ named (codes "rank") 3 ∷ named (codes "return") 4 ∷ [])) { screen = Some 2 }

abbrev measures : List Measure
measures = Price ∷ NoUnit ∷ NoUnit ∷ []

-- ---- by the rules

abbrev of_closes : {k : WindowKind} {u : Measure} (size : ℕ) → FormulaRule k Price NoUnit NoUnit u → HasMeasure (window k size (column Close ∷ [])) u
of_closes size rule = HasMeasure.term (Rule.formula rule) (HasMeasure.price refl) HasMeasure.nothing HasMeasure.nothing HasMeasure.nothing HasMeasure.nothing

abbrev latest_is : HasMeasure (window Latest 1 (column Close ∷ [])) Price
latest_is = of_closes 1 FormulaRule.latest

abbrev mean_is : HasMeasure (window SimpleMovingAverage 2 (column Close ∷ [])) Price
mean_is = of_closes 2 FormulaRule.mean

abbrev return_is : HasMeasure (window Returns 2 (column Close ∷ [])) NoUnit
return_is = of_closes 2 FormulaRule.returns

abbrev screen_is : HasMeasure (point (PointKind.Comparison Greater) (latest Close ∷ window SimpleMovingAverage 2 (column Close ∷ []) ∷ [])) NoUnit
screen_is = HasMeasure.term (Rule.operation OperationRule.compared) latest_is mean_is HasMeasure.nothing HasMeasure.nothing HasMeasure.nothing

abbrev rank_is : HasMeasure (node (Kind.Cross (CrossKind.Rank method.Ordinal Ascending)) 1 (latest Close) absent absent absent absent) NoUnit
rank_is = HasMeasure.term (Rule.across CrossRule.rank) latest_is HasMeasure.nothing HasMeasure.nothing HasMeasure.nothing HasMeasure.nothing

abbrev has_measures : HasMeasures rising measures
has_measures = record { columns = (mean_is, (rank_is, (return_is, tt))); screen = screen_is }

-- ---- nothing is rounded

divides : (x : ℤ) → is_missing (scaled cents x) ≡ false → (scaled cents x *ℤ pos 1) ≡ (x *ℤ pos 100) → Divides cents x
divides x e f = (omega arith, inr (e, f))

latest_exact : NothingIsRounded cents two_assets [] latest_is Own 1 (pos 2) × NothingIsRounded cents two_assets [] latest_is Own 2 (pos 2)
unfolding opened
latest_exact = (
  (tt, divides (units 4) refl refl, λ kept. (((divides (units 4) refl refl, tt, tt), tt), tt)),
  (tt, divides (units 3) refl refl, λ kept. (((divides (units 3) refl refl, tt, tt), tt), tt)),
)

mean_exact : NothingIsRounded cents two_assets [] mean_is Own 1 (pos 2) × NothingIsRounded cents two_assets [] mean_is Own 2 (pos 2)
unfolding opened
mean_exact = (
  (tt, divides (units 3) refl refl, λ kept. (((divides (units 2) refl refl, tt, tt), ((divides (units 4) refl refl, tt, tt), tt)), inr ((refl, divides (units 3) refl refl), refl))),
  (tt, divides (units 4) refl refl, λ kept. (((divides (units 5) refl refl, tt, tt), ((divides (units 3) refl refl, tt, tt), tt)), inr ((refl, divides (units 4) refl refl), refl))),
)

return_exact : NothingIsRounded cents two_assets [] return_is Own 1 (pos 2)
unfolding opened
return_exact = (tt, tt, λ kept. (((divides (units 2) refl refl, tt, tt), ((divides (units 4) refl refl, tt, tt), tt)), tt))

rank_exact : NothingIsRounded cents two_assets [] rank_is Own 1 (pos 2)
unfolding opened
rank_exact = (tt, tt, λ kept. (((latest_exact.0, tt, tt), ((latest_exact.1, tt, tt), tt)), tt))

session_exact : IsSessionUnrounded cents two_assets rising measures has_measures (pos 2)
unfolding opened
session_exact = (
  ((tt, tt, λ kept. ((latest_exact.0, mean_exact.0, tt), tt)), λ kept. (mean_exact.0, (rank_exact, (return_exact, tt)))),
  (((tt, tt, λ kept. ((latest_exact.1, mean_exact.1, tt), tt)), λ kept. absurd (true≢false (sym kept))), tt),
)

-- the law holds of this table
in_both : table (priced_world cents two_assets) rising 2 2 ≡ map (priced_row cents measures) (table two_assets rising 2 2)
in_both = tables-have-units.rows cents two_assets rising measures (omega arith, omega arith) has_measures 2 2 (session_exact, tt)

-- and these are its rows: the mean is 100 times as much, the asset, its rank and its return are the same
abbrev row : Value → Row
row mean = record { session = pos 2; sid = 1; values = mean ∷ Number (units 2) ∷ Number (units 1) ∷ [] }

in_dollars : table two_assets rising 2 2 ≡ row (Number (units 3)) ∷ []
unfolding opened
in_dollars = refl

in_cents : table (priced_world cents two_assets) rising 2 2 ≡ row (Number (units 300)) ∷ []
unfolding opened
in_cents = refl

-- ---- a variance is in squared units, and its root is a price

abbrev variance : Term
variance = window Covariance 2 (column Close ∷ column Close ∷ [])

abbrev variance_is : HasMeasure (window Covariance 2 (column Close ∷ column Close ∷ [])) (Power 1)
variance_is = HasMeasure.term (Rule.formula (FormulaRule.joint_variance {m = 0} {n = 0})) (HasMeasure.price refl) (HasMeasure.price refl) HasMeasure.nothing HasMeasure.nothing HasMeasure.nothing

abbrev risk_is : HasMeasure (point PointKind.Sqrt (window Covariance 2 (column Close ∷ column Close ∷ []) ∷ [])) Price
risk_is = HasMeasure.term (Rule.operation (OperationRule.root {n = 0})) variance_is HasMeasure.nothing HasMeasure.nothing HasMeasure.nothing HasMeasure.nothing

-- of the closes 2 and 4, in dollars and in cents
abbrev at_both : Term → List Value
at_both t = map (λ w. value w [] t 1 (pos 2)) (two_assets ∷ priced_world cents two_assets ∷ [])

variances_in_both : at_both variance ≡ Number (units 1) ∷ Number (units 10000) ∷ []
unfolding opened covariance
variances_in_both = refl

risks_in_both : at_both (point PointKind.Sqrt (variance ∷ [])) ≡ Number (units 1) ∷ Number (units 100) ∷ []
unfolding opened covariance sqrt
risks_in_both = refl

-- ---- a price compared with a number has no measure

bars_have_one : HasMeasure (column Close) NoUnit → ⊥
bars_have_one h = elim h [ ]

latest_by : {mx my mz : Measure} → Rule (Kind.Window Latest) mx my mz NoUnit → HasMeasure (column Close) mx → ⊥
latest_by Rule.pure h = bars_have_one h
latest_by (Rule.formula rule) h = elim rule [ ]

latest_has_one : HasMeasure (latest Close) NoUnit → ⊥
latest_has_one (HasMeasure.term rule hx hy hz hm hg) = latest_by rule hx

number_by : {cell : ℤ} {n : ℕ} {mx my mz : Measure} → Rule (Kind.Constant cell) mx my mz (Power n) → ⊥
number_by rule = elim rule [ ]

number_has_none : {cell : ℤ} {n : ℕ} → HasMeasure (number cell) (Power n) → ⊥
number_has_none (HasMeasure.term rule hx hy hz hm hg) = number_by rule

compared_by : {u mx my mz : Measure} {cell : ℤ} → Rule (Kind.Point (PointKind.Comparison Greater)) mx my mz u → HasMeasure (latest Close) mx → HasMeasure (number cell) my → ⊥
compared_by Rule.pure hx hy = latest_has_one hx
compared_by (Rule.operation OperationRule.compared) hx hy = number_has_none hy

pub above_a_number : {u : Measure} {cell : ℤ} → HasMeasure (point (PointKind.Comparison Greater) (latest Close ∷ number cell ∷ [])) u → ⊥
above_a_number (HasMeasure.term rule hx hy hz hm hg) = compared_by rule hx hy
