-- The cones of a graph, worked out by hand.
use Rattle.std.proofs.Common.{◌≡◌, ℕ, List, [], ◌∷◌, map, None, refl}
use Rattle.pl_spec.specs.declared.Column.TheVariants.{Close}
use Rattle.pl_pipeline.specs.Kind as kind
use Rattle.pl_pipeline.specs.declared.WindowKind.{WindowKind}
use Rattle.pl_pipeline.specs.declared.WindowKind.TheVariants as window
use Rattle.pl_pipeline.specs.Term.{Graph, Node, Input}
use Rattle.pl_pipeline.specs.Term.Input.{BarColumn, TermInput}
use Rattle.pl_pipeline.specs.Cones.{cone_depths, border_terms}

formula : WindowKind → ℕ → List Input → Node
formula k size inputs = record { kind = kind.Window k; inputs = inputs; mask = None; group = None; window = size }

-- 0 closes, 1 their mean of 3, 2 a mean of 5 over that, 3 returns, 4 a mean of 5 over these, 5 closes less the
-- mean of 3, 6 the greatest of 4 of that, 7 a mean of 3 closes weighted by returns, 8 a mean of 2 over that
moving : Graph
moving =
    formula window.Latest 1 (BarColumn Close ∷ [])
    ∷ formula window.SimpleMovingAverage 3 (TermInput 0 ∷ [])
    ∷ formula window.SimpleMovingAverage 5 (TermInput 1 ∷ [])
    ∷ formula window.Returns 2 (BarColumn Close ∷ [])
    ∷ formula window.SimpleMovingAverage 5 (TermInput 3 ∷ [])
    ∷ record { kind = kind.Point kind.Sub; inputs = TermInput 0 ∷ TermInput 1 ∷ []; mask = None; group = None; window = 1 }
    ∷ formula window.WindowMax 4 (TermInput 5 ∷ [])
    ∷ formula window.WeightedAverageValue 3 (TermInput 0 ∷ TermInput 3 ∷ [])
    ∷ formula window.SimpleMovingAverage 2 (TermInput 7 ∷ [])
    ∷ []

-- A mean of 5 over a mean of 3 reads means on 4 sessions before its own, and closes on 2 more. A window over
-- returns has no cone, and no operation has one. The greatest of 4 reads closes on 3 sessions before through
-- the difference, and on 2 more through the mean in it. The last reads weighted means on 1 session before, and
-- closes on 2 more.
cones_of_each_term : map (cone_depths moving) (0 ∷ 1 ∷ 2 ∷ 3 ∷ 4 ∷ 5 ∷ 6 ∷ 7 ∷ 8 ∷ [])
    ≡ [] ∷ ((0, 2) ∷ []) ∷ ((0, 6) ∷ (1, 4) ∷ []) ∷ [] ∷ [] ∷ [] ∷ ((0, 5) ∷ (1, 3) ∷ (5, 3) ∷ []) ∷ ((0, 2) ∷ []) ∷ ((0, 3) ∷ (7, 1) ∷ []) ∷ []
unfolding moving formula
cones_of_each_term = refl

-- the returns by which the closes are weighted keep their values
borders_of_the_last : map (border_terms moving) (6 ∷ 8 ∷ []) ≡ [] ∷ (3 ∷ []) ∷ []
unfolding moving formula
borders_of_the_last = refl
