-- Numbers beside bars.
use Rattle.std.specs.Prelude.{◌≡◌, ℕ, ℤ, pos, refl, codes, List, [], ◌∷◌, map}
use Rattle.pl_spec.specs.Rounding.{MISSING}
use Rattle.pl_spec.specs.declared.Column.TheVariants.{Close}
use Rattle.pl_spec.specs.Numbers.{NumberRow}
use Rattle.pl_spec.specs.World.{World}
use Rattle.pl_spec.specs.Ages.{weekdays_between}
use Rattle.pl_spec.specs.declared.Figure.{Figure}
use Rattle.pl_spec.specs.declared.Figure.TheVariants as figure
use Rattle.pl_pipeline.specs.Kind as kind
use Rattle.pl_pipeline.specs.Kind.{PointKind}
use Rattle.pl_pipeline.specs.declared.WindowKind.TheVariants as WindowKind
use Rattle.pl_pipeline.specs.Term.{Term}
use Rattle.pl_pipeline.specs.Term.Term.{absent, node}
use Rattle.pl_pipeline.specs.Value.{Value, value}
use Rattle.pl_pipeline.specs.Value.Value.{Number}
use Rattle.pl_laws.proofs.Worked.Worlds.{opened, units, plain, window, point, latest}

earnings : List ℕ
earnings = codes "earnings"

-- a number of asset 1 from the day on which it was known
known_from : ℕ → ℤ → NumberRow
known_from day x = record { name = earnings; sid = 1; known = pos day; value = x }

-- 3 from 2024-01-03 on, 4 from 01-05 on, and none from 01-09 on
reported : World
reported = record plain { numbers = known_from 19725 (units 3) ∷ known_from 19731 MISSING ∷ known_from 19727 (units 4) ∷ [] }

number : ℕ → Term
number n = node (kind.Number figure.Value n) 1 absent absent absent absent absent

-- how old the first number is
age : Figure → Term
age f = node (kind.Number f 0) 1 absent absent absent absent absent

-- a term of asset 1 on some sessions, with two names
of_earnings : Term → List ℕ → List Value
of_earnings t ds = map (λ d. value reported (earnings ∷ codes "sales" ∷ []) t 1 (pos d)) ds

-- the last one that was known, and none before the first
number_holds_from_when_it_was_known : of_earnings (number 0) (0 ∷ 1 ∷ 2 ∷ 3 ∷ 4 ∷ 5 ∷ [])
    ≡ Number MISSING ∷ Number (units 3) ∷ Number (units 3) ∷ Number (units 4) ∷ Number (units 4) ∷ Number MISSING ∷ []
unfolding of_earnings reported number known_from earnings opened
number_holds_from_when_it_was_known = refl

-- from the day on which it was known: Friday to Monday are three days, of which one is from Monday to Friday
days_since_it_was_known : of_earnings (age figure.Days) (0 ∷ 1 ∷ 2 ∷ 3 ∷ 4 ∷ 5 ∷ [])
    ≡ Number MISSING ∷ Number (pos 0) ∷ Number (units 1) ∷ Number (pos 0) ∷ Number (units 3) ∷ Number MISSING ∷ []
unfolding of_earnings reported age known_from earnings opened
days_since_it_was_known = refl

business_days_since : of_earnings (age figure.BusinessDays) (0 ∷ 1 ∷ 2 ∷ 3 ∷ 4 ∷ 5 ∷ [])
    ≡ Number MISSING ∷ Number (pos 0) ∷ Number (units 1) ∷ Number (pos 0) ∷ Number (units 1) ∷ Number MISSING ∷ []
unfolding of_earnings reported age known_from earnings opened weekdays_between
business_days_since = refl

number_of_another_name : of_earnings (number 1) (1 ∷ 3 ∷ []) ≡ Number MISSING ∷ Number MISSING ∷ []
unfolding of_earnings reported number known_from earnings opened
number_of_another_name = refl

-- by the close of the session before, which is 100, and then 102
number_by_a_price : of_earnings (point PointKind.Div (number 0 ∷ latest Close ∷ [])) (1 ∷ 2 ∷ []) ≡ Number (pos 30000) ∷ Number (pos 29412) ∷ []
unfolding of_earnings reported number known_from earnings opened
number_by_a_price = refl

-- over the session itself and those before it, as of any term
mean_of_numbers : of_earnings (window WindowKind.SimpleMovingAverage 2 (number 0 ∷ [])) (2 ∷ 3 ∷ 4 ∷ []) ≡ Number (units 3) ∷ Number (pos 3500000) ∷ Number (units 4) ∷ []
unfolding of_earnings reported number known_from earnings opened
mean_of_numbers = refl
