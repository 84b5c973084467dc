-- The cross-sections of the code as kinds of the definitions.
use Rattle.std.specs.Prelude.{◌≡◌, ℕ, ◌<◌, ◌≤◌, Bool, true, false, not, ℤ, neg_ℤ}
use Rattle.pl_pipeline.specs.declared.RankOrder.{RankOrder}
use Rattle.pl_pipeline.specs.declared.RankOrder.TheVariants.{Ascending, Descending}
use Rattle.pl_pipeline.specs.declared.Summary.TheVariants.{Percentile}
use Rattle.pl_spec.specs.Rounding.{MILLION}
use Rattle.pl_pipeline.specs.Kind.{Kind, CrossKind}
use Rattle.pl_pipeline.specs.Kind.Kind.{Cross}
use Rattle.pl_pipeline.specs.Kind.CrossKind.{Rank, Demean, ZScore, Quantiles, Top, Bottom, PercentileBetween, PeerCount, Winsorize, Scale, Summarize}
use Rattle.pl_pipeline.specs.Value.{is_cross_filter}
use Rattle.pl_terms.specs.Sorts.{has_parameters}
use Rattle.pl_cross.specs.declared.section.Section.{Section}
use Rattle.pl_cross.specs.declared.section.Section.TheVariants as code

abbrev pub cross_of : Section → CrossKind
cross_of (code.Rank method order) = Rank method order
cross_of code.Demean = Demean
cross_of code.ZScore = ZScore
cross_of (code.Quantiles bins) = Quantiles bins
cross_of (code.Top n) = Top n
cross_of (code.Bottom n) = Bottom n
cross_of (code.PercentileBetween low high) = PercentileBetween low high
cross_of code.PeerCount = PeerCount
cross_of (code.Winsorize low high) = Winsorize low high
cross_of code.Scale = Scale
cross_of (code.Summarize s) = Summarize s

abbrev pub is_section : Kind → Bool
is_section (Cross k) = true
is_section k = false

-- what gives numbers: ranks, demeaned values, summaries and others
abbrev pub is_measure : Kind → Bool
is_measure (Cross k) = not (is_cross_filter k)
is_measure k = false

-- a filter of ranks
abbrev pub is_choice : Kind → Bool
is_choice (Cross k) = is_cross_filter k
is_choice k = false

-- the parameters that the language allows
abbrev pub IsRight : CrossKind → Type 0
IsRight (Quantiles bins) = (2 ≤ bins) × (bins ≤ 100)
IsRight (PercentileBetween low high) = (low ≤ high) × (high ≤ 10000)
IsRight (Winsorize low high) = (low < high) × (high ≤ MILLION)
IsRight (Summarize (Percentile percent)) = percent ≤ 10000
IsRight k = Unit {0}

abbrev pub HasParameters : Kind → Type 0
HasParameters (Cross k) = IsRight k
HasParameters k = Unit {0}

-- the nodes of a checked pipeline have them, whatever their window and how many names it has
abbrev pub AllowedParametersAreRight : Type 0
AllowedParametersAreRight = (k : Kind) (w names : ℕ) → has_parameters k w names ≡ true → HasParameters k

-- the order in which the kind ranks
abbrev pub order_of : CrossKind → RankOrder
order_of (Rank method order) = order
order_of (Top n) = Descending
order_of k = Ascending

-- the kind that gives the same over the values turned round, where it ranks them in descending order
abbrev pub upright : CrossKind → CrossKind
upright (Rank method order) = Rank method Ascending
upright (Top n) = Bottom n
upright k = k

-- a value, with the other sign where the greatest comes first
abbrev pub turned : RankOrder → ℤ → ℤ
turned Ascending v = v
turned Descending v = neg_ℤ v

-- what the kind gives is told by how an asset stands among the sorted values
abbrev pub is_ranked : CrossKind → Bool
is_ranked (Rank method order) = true
is_ranked (Quantiles bins) = true
is_ranked k = false
