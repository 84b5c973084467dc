-- The extra sessions of all terms for each session of a range.
use Rattle.std.specs.Prelude.{◌≡◌, ℕ, ◌+◌, ◌*◌, ◌<◌, if◌then◌else◌, max, ℤ, List, length, fold, get_or}
use Rattle.pl_pipeline.specs.Term.{Graph}
use Rattle.pl_planner.specs.declared.uses.Use.{Use}
use Rattle.pl_planner.specs.Uses.{use_at, AreUses, HaveExtras}

abbrev pub extra_in : Use → ℕ
extra_in u = if u.used then u.extra else 0

-- the extra session of term t for the i-th session of the range
abbrev pub extra_at : List ℕ → ℕ → ℕ → ℕ → ℕ
extra_at extras terms i t = get_or extras (i * terms + t) 0

-- these numbers are those of the terms for session s
pub record IsRow (days : List ℤ) (g : Graph) (outputs : List ℕ) (s : ℕ) (at : ℕ → ℕ) : Type 0 where
  pub uses : List Use
  pub are : AreUses g outputs uses
  pub have : HaveExtras days s g outputs uses
  pub is : (t : ℕ) → t < length g → at t ≡ extra_in (use_at uses t)

-- for so many sessions from a first one on
pub record AreRows (days : List ℤ) (g : Graph) (outputs : List ℕ) (from count : ℕ) (extras : List ℕ) : Type 0 where
  pub size : length extras ≡ count * length g
  pub rows : (i : ℕ) → i < count → IsRow days g outputs (from + i) (extra_at extras (length g) i)

abbrev pub most_extra : List ℕ → ℕ
most_extra extras = fold max 0 extras
