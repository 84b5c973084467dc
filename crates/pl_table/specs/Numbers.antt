-- The line that tells the numbers of a run.
use Rattle.std.specs.Prelude.{ℕ, List, [], ◌∷◌, ◌++◌, Option, Some, None, codes, decimal}

-- how many rows there are, the sum of their cells, how many arrays are held at once, and how many may be
abbrev pub numbers_text : ℕ → ℕ → ℕ → ℕ → List ℕ
numbers_text rows sum peak most =
    codes "rows=" ++ decimal rows ++ codes " cells=" ++ decimal sum ++ codes " peak=" ++ decimal peak
    ++ codes " bound=" ++ decimal most

abbrev pub numbers_line : ℕ → ℕ → ℕ → ℕ → List ℕ
numbers_line rows sum peak most = numbers_text rows sum peak most ++ 10 ∷ []

-- how many numbers beside bars are present, where that is told
abbrev pub present_text : Option ℕ → List ℕ
present_text None = []
present_text (Some present) = codes " numbers=" ++ decimal present

-- and how often an adjustment was applied to a bar
abbrev pub stats_line : ℕ → ℕ → ℕ → ℕ → ℕ → Option ℕ → List ℕ
stats_line rows sum peak most applied present =
    numbers_text rows sum peak most ++ codes " applied=" ++ decimal applied ++ present_text present ++ 10 ∷ []
