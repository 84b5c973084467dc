-- The text of a plan.
use Rattle.std.specs.Prelude.{◌≡◌, ℕ, true, if◌then◌else◌, ℤ, pos, ◌-ℤ◌, List, [], ◌∷◌, ◌++◌, codes, decimal, flat_map, Option, Some, None, slice_get}
use Rattle.pl_pipeline.specs.Term.{Input, Node}
use Rattle.pl_pipeline.specs.Term.Input.{BarColumn, TermInput}
use Rattle.std.specs.Fmt.{signed_decimal}
use Rattle.pl_pipeline.specs.Graph.{used_terms}
use Rattle.pl_pipeline.specs.Cones.{cone_depths}
use Rattle.pl_pipeline.specs.Lows.{IsLow, least_reach}
use Rattle.pl_pipeline.specs.Table.{Pipeline}
use Rattle.pl_spec.specs.Names.{column_name}
use Rattle.pl_terms.specs.Uses.{outputs, is_used, uses}
use Rattle.pl_planner.specs.Columns.{most_held}
use Rattle.pl_planner.specs.Names.{kind_name}

-- a bar column by its name, a term by its number
abbrev pub input_text : Input → List ℕ
input_text (BarColumn c) = column_name c
input_text (TermInput t) = decimal t

abbrev pub behind_semicolon : Input → List ℕ
behind_semicolon i = codes ";" ++ input_text i

unfoldable pub inputs_text : List Input → List ℕ
inputs_text [] = codes "-"
inputs_text (i ∷ is) = input_text i ++ flat_map behind_semicolon is

abbrev pub number_text : Option ℕ → List ℕ
number_text None = codes "-"
number_text (Some t) = decimal t

-- the number and the kind of a term, and what it is of
abbrev pub front_text : ℕ → Node → List ℕ
front_text t n = decimal t ++ codes " " ++ kind_name n.kind ++ codes " inputs=" ++ inputs_text n.inputs

abbrev pub places_text : Node → List ℕ
places_text n =
    codes " window=" ++ decimal n.window ++ codes " mask=" ++ number_text n.mask ++ codes " group=" ++ number_text n.group

abbrev pub numbers_text : ℕ → ℕ → List ℕ
numbers_text extra count = codes " extra=" ++ decimal extra ++ codes " uses=" ++ decimal count

-- a term of a cone, and on how many sessions before it is computed anew
abbrev pub depth_text : ℕ × ℕ → List ℕ
depth_text c = decimal c.0 ++ codes ":" ++ decimal c.1

abbrev pub depth_behind : ℕ × ℕ → List ℕ
depth_behind c = codes ";" ++ depth_text c

-- what is computed anew for a term; nothing where it has no cone
unfoldable pub anew_text : List (ℕ × ℕ) → List ℕ
anew_text [] = []
anew_text (c ∷ cs) = codes " anew=" ++ depth_text c ++ flat_map depth_behind cs

-- the line of a term that has so many extra rows and uses, and the cone
unfoldable pub term_line : ℕ → Node → ℕ → ℕ → List (ℕ × ℕ) → List ℕ
term_line t n extra count cone =
    front_text t n ++ places_text n ++ numbers_text extra count ++ anew_text cone ++ 10 ∷ []

abbrev pub line_of : ℕ → Option Node → ℕ → ℕ → List (ℕ × ℕ) → List ℕ
line_of t None extra count cone = []
line_of t (Some n) extra count cone = term_line t n extra count cone

abbrev pub line_at : Pipeline → (ℕ → ℕ) → ℕ → List ℕ
line_at p extra t = line_of t (slice_get p.graph t) (extra t) (uses p t) (cone_depths p.graph t)

abbrev pub used_line : Pipeline → (ℕ → ℕ) → ℕ → List ℕ
used_line p extra t = if is_used p t then line_at p extra t else []

unfoldable pub last_line : ℤ → ℕ → List ℕ
last_line reach bound = codes "reach=" ++ signed_decimal reach ++ codes " bound=" ++ decimal bound ++ 10 ∷ []

-- a line for each used term in ascending number
unfoldable pub lines_text : Pipeline → (ℕ → ℕ) → List ℕ
lines_text p extra = flat_map (line_at p extra) (used_terms p.graph (outputs p))

-- These, and a line for the whole: with the extra rows of the terms, the least session that is reached and
-- the greatest number of arrays at once.
unfoldable pub plan_text : Pipeline → (ℕ → ℕ) → ℤ → ℕ → List ℕ
plan_text p extra reach bound = lines_text p extra ++ last_line reach bound

-- the text of the plan of a pipeline, over the sessions of these days, for a range that begins with session
-- from
pub record IsPlanText (days : List ℤ) (p : Pipeline) (from : ℕ) (text : List ℕ) : Type 0 where
  pub extra : ℕ → ℕ
  pub low : (t : ℕ) → is_used p t ≡ true → IsLow days p.graph (outputs p) (pos from) t (pos from -ℤ pos (extra t))
  pub is : text ≡ plan_text p extra (least_reach days p.graph (outputs p) (pos from)) (most_held p.graph (outputs p))
