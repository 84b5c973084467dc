-- A number beside bars, and its age, rests on its own rows, the sessions and the assets alone.
use Rattle.std.specs.Prelude.{◌≡◌, ℕ, ℤ, List}
use Rattle.pl_spec.specs.World.{World, LabelRow, Bar, Adjustment}
use Rattle.pl_spec.specs.declared.Figure.{Figure}
use Rattle.pl_pipeline.specs.Kind as kind
use Rattle.pl_pipeline.specs.Term.{Term}
use Rattle.pl_pipeline.specs.Term.Term.{absent, node}
use Rattle.pl_pipeline.specs.Value.{value}

-- the term of a number, or of its age: it has no inputs, no mask, and a window of one session
abbrev pub number_term : Figure → ℕ → Term
number_term f n = node (kind.Number f n) 1 absent absent absent absent absent

abbrev pub NumbersStandAlone : Type 0
NumbersStandAlone =
    (w : World) (labels : List LabelRow) (texts : List (List ℕ)) (bars : List Bar)
    (adjustments : List Adjustment)
    → (names : List (List ℕ)) (f : Figure) (n a : ℕ) (d : ℤ)
    → value w names (number_term f n) a d
    ≡ value (record w { labels = labels; texts = texts; bars = bars; adjustments = adjustments })
    names (number_term f n) a d
