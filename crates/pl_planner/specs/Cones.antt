-- The cone of a term as it is gathered, from the term down: the greatest depth of each number so far.
use Rattle.std.specs.Prelude.{◌≡◌, ℕ, ◌<◌, ◌≤◌, ◌+◌, ◌*◌, ◌^◌, not, Bool, false, List, map, filter, filter_map, get_or, Option, Some, None}
use Rattle.pl_spec.specs.Limits.{most_terms}
use Rattle.pl_pipeline.specs.Term.{Input}
use Rattle.pl_pipeline.specs.Graph.{input_number}
use Rattle.pl_pipeline.specs.Cones.{larger, mark}
use Rattle.pl_planner.specs.declared.cones.Cone.{Cone}
use Rattle.pl_planner.specs.declared.cones.ConeTerm.{ConeTerm}

abbrev pub pair_of : ConeTerm → ℕ × ℕ
pair_of c = (c.term.0, c.depth)

-- terms with their depths
unfoldable pub pairs_of : List ConeTerm → List (ℕ × ℕ)
pairs_of cs = map pair_of cs

abbrev pub terms_of : List (ℕ × ℕ) → List ℕ
terms_of ps = map (λ p. p.0) ps

unfoldable pub cones_of : List Cone → List (List (ℕ × ℕ))
cones_of cs = map (λ c. pairs_of c.terms.items) cs

-- the greater of two marks
abbrev pub joined : Option ℕ → Option ℕ → Option ℕ
joined None b = b
joined (Some m) b = Some (larger m b)

-- the depths are the greatest of a list
abbrev pub AreMarks : List (Option ℕ) → List (ℕ × ℕ) → Type 0
AreMarks depths marks = (u : ℕ) → u < most_terms → get_or depths u None ≡ mark u marks

-- those of a list are added
abbrev pub AddsMarks : List (Option ℕ) → List (Option ℕ) → List (ℕ × ℕ) → Type 0
AddsMarks old new marks = (u : ℕ) → u < most_terms → get_or new u None ≡ joined (get_or old u None) (mark u marks)

-- the terms among inputs that are not known to be steady, all with one depth
abbrev pub moving_marks : List Bool → ℕ → List Input → List (ℕ × ℕ)
moving_marks steady depth inputs =
    map (λ u. (u, depth)) (filter (λ u. not (get_or steady u false)) (filter_map input_number inputs))

-- No depth is so great that those of the terms below n, each by a window of 32 bits more, need more than 64.
abbrev pub HaveRoom : ℕ → List (Option ℕ) → Type 0
HaveRoom n depths = (u m : ℕ) → u < most_terms → get_or depths u None ≡ Some m → m + n * 2 ^ 32 ≤ most_terms * 2 ^ 32
