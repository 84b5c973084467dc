-- One asset's value for all.
use Rattle.std.specs.Prelude.{◌≡◌, true, if◌then◌else◌, ℕ, ℤ, List, [], ◌∷◌}
use Rattle.pl_spec.specs.Rounding.{MISSING}
use Rattle.pl_spec.specs.World.{World, exists}
use Rattle.pl_pipeline.specs.Kind.Kind.{StaticSids, Point, Cross}
use Rattle.pl_pipeline.specs.Kind.PointKind.{Where}
use Rattle.pl_pipeline.specs.Kind.CrossKind.{Summarize}
use Rattle.pl_pipeline.specs.declared.Summary.TheVariants.{Greatest}
use Rattle.pl_pipeline.specs.Term.{Term}
use Rattle.pl_pipeline.specs.Term.Term.{absent, node}
use Rattle.pl_pipeline.specs.Value.{View, number_of, seen, value}
use Rattle.pl_pipeline.specs.Value.Value.{Number}

-- What `y.of(sid)` stands for, `y.where(StaticSids(sid)).max()`. None of the three has a window: size is any
-- number.
abbrev pub of_asset : (size sid : ℕ) → Term → Term
of_asset size sid y =
    let that_one : Term = node (StaticSids (sid ∷ [])) size absent absent absent absent absent in
    let kept : Term = node (Point Where) size y that_one absent absent absent in
    node (Cross (Summarize Greatest)) size kept absent absent absent absent

-- Each asset that exists has the value that y has for the asset sid, and none where that one does not exist.
-- It is the same from wherever it is seen.
abbrev pub OneAssetForAll : Type 0
OneAssetForAll = (w : World) (names : List (List ℕ)) (y : Term) (size sid a : ℕ) (view : View) (d : ℤ)
    → exists w a d ≡ true
    → seen w names (of_asset size sid y) view a d
    ≡ Number (if exists w sid d then number_of (value w names y sid d) else MISSING)
