-- The first session for which a term reaches no session below 0.
use Rattle.std.specs.Prelude.{◌≡◌, ℕ, ◌<◌, true, ℤ, pos, ◌≤ℤ◌, ◌<ℤ◌, List, [], ◌∷◌, ◌++◌, length, get_or, slice_get, AllPairs, Option, Some, None}
use Rattle.pl_spec.specs.declared.Frequency.{Frequency}
use Rattle.pl_pipeline.specs.Kind.Kind.{Downsample}
use Rattle.pl_spec.specs.Periods.{period_start}
use Rattle.pl_pipeline.specs.Term.{Term, Node, term_at}
use Rattle.pl_pipeline.specs.Graph.{reach}
use Rattle.pl_pipeline.specs.Table.{Pipeline}
use Rattle.pl_terms.specs.Uses.{is_used}

-- of the sessions of these days; none so far
abbrev pub IsFirst : List ℤ → Term → Option ℕ → Type 0
IsFirst days t None = (d : ℕ) → d < length days → reach days t (pos d) <ℤ pos 0
IsFirst days t (Some s) = (s < length days) × (pos 0 ≤ℤ reach days t (pos s)) × ((d : ℕ) → d < s → reach days t (pos d) <ℤ pos 0)

-- by number, those of the used terms
abbrev pub AreFirst : List ℤ → Pipeline → List (Option ℕ) → Type 0
AreFirst days p since = (k : ℕ) → is_used p k ≡ true → IsFirst days (term_at p.graph k) (get_or since k None)

-- by number, for the used terms that are downsampled, the first session of the period of session s
abbrev pub AreStarts : List ℤ → Pipeline → ℕ → List ℕ → Type 0
AreStarts days p s starts = (k : ℕ) (n : Node) (f : Frequency) → is_used p k ≡ true → slice_get p.graph k ≡ Some n → n.kind ≡ Downsample f
    → pos (get_or starts k 0) ≡ period_start f days (pos s)

-- whatever the days before are: where the numbers were those before the day, they are those with it
abbrev pub FollowFirst : Pipeline → List ℕ → ℕ → List (Option ℕ) → List (Option ℕ) → Type 0
FollowFirst p starts fed old new = (days : List ℤ) (day : ℤ) → AllPairs (λ a b. a <ℤ b) (days ++ day ∷ []) → length days ≡ fed
    → AreStarts (days ++ day ∷ []) p fed starts → AreFirst days p old → AreFirst (days ++ day ∷ []) p new
