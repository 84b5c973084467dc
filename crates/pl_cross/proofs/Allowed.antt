-- What the language allows is what the calls ask for.
use Rattle.std.proofs.Common.{◌≡◌, ℕ, true, leb-true, ltb-true}
use Rattle.std.proofs.lemmas.Bool.{and_parts}
use Rattle.pl_pipeline.specs.Kind.{Kind}
use Rattle.pl_pipeline.specs.Kind.Kind.{Cross}
use Rattle.pl_pipeline.specs.Kind.CrossKind.{Quantiles, PercentileBetween, Winsorize, Summarize}
use Rattle.pl_pipeline.specs.declared.Summary.TheVariants.{Mean, Percentile}
use Rattle.pl_terms.specs.Sorts.{has_parameters}
use Rattle.pl_cross.specs.Section.{HasParameters}

pub allowed-right : (k : Kind) (w names : ℕ) → has_parameters k w names ≡ true → HasParameters k
unfolding has_parameters
allowed-right (Cross (Quantiles bins)) w names e = let p = and_parts _ _ e in (leb-true 2 bins p.0, leb-true bins 100 p.1)
allowed-right (Cross (PercentileBetween low high)) w names e = let p = and_parts _ _ e in (leb-true low high p.0, leb-true high 10000 p.1)
allowed-right (Cross (Winsorize low high)) w names e = let p = and_parts _ _ e in (ltb-true low high p.0, leb-true high 1000000 p.1)
allowed-right (Cross (Summarize Mean)) w names e = tt
allowed-right (Cross (Summarize (Percentile percent))) w names e = leb-true percent 10000 e
allowed-right k w names e = tt
