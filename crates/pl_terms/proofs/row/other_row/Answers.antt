use Rattle.std.proofs.Common.{◌≡◌, Bool, true, false, Option, Some, None, refl, ap}
use Rattle.pl_pipeline.specs.declared.WindowKind.{WindowKind}
use Rattle.pl_terms.specs.Kinds.{kind_of}
use Rattle.pl_terms.specs.Windows.{window_in}
use Rattle.pl_terms.specs.declared.kind.TermKind.{TermKind}
use Rattle.pl_terms.specs.declared.kind.TermKind.TheVariants as kind
use Rattle.pl_terms.proofs.row.other_row.Goals as goal

abbrev is_some : Option WindowKind → Bool
is_some (Some k) = true
is_some None = false

-- a kind that is none of those before is over a window
windowed : (c : goal.After-number-in_default) (k : TermKind) → c.args.kind.now ≡ k → window_in (kind_of k) ≡ None → ⊥
unfolding kind_of
windowed c (kind.Const x) e w = c.in_default.not-Const x e
windowed c (kind.Label x) e w = c.in_default.not-Label x e
windowed c (kind.Number x y) e w = c.in_default.not-Number x y e
windowed c (kind.StaticSids x) e w = c.in_default.not-StaticSids x e
windowed c kind.Add e w = c.in_default.not-Add e
windowed c kind.Sub e w = c.in_default.not-Sub e
windowed c kind.Mul e w = c.in_default.not-Mul e
windowed c kind.Div e w = c.in_default.not-Div e
windowed c kind.Neg e w = c.in_default.not-Neg e
windowed c kind.Less e w = c.in_default.not-Less e
windowed c kind.LessEqual e w = c.in_default.not-LessEqual e
windowed c kind.Greater e w = c.in_default.not-Greater e
windowed c kind.GreaterEqual e w = c.in_default.not-GreaterEqual e
windowed c kind.Equal e w = c.in_default.not-Equal e
windowed c kind.NotEqual e w = c.in_default.not-NotEqual e
windowed c kind.And e w = c.in_default.not-And e
windowed c kind.Or e w = c.in_default.not-Or e
windowed c kind.Not e w = c.in_default.not-Not e
windowed c kind.Abs e w = c.in_default.not-Abs e
windowed c (kind.Clip x y) e w = c.in_default.not-Clip x y e
windowed c kind.FillNa e w = c.in_default.not-FillNa e
windowed c kind.IsNull e w = c.in_default.not-IsNull e
windowed c kind.NotNull e w = c.in_default.not-NotNull e
windowed c kind.IfElse e w = c.in_default.not-IfElse e
windowed c kind.Log e w = c.in_default.not-Log e
windowed c kind.Exp e w = c.in_default.not-Exp e
windowed c kind.Sqrt e w = c.in_default.not-Sqrt e
windowed c kind.Sign e w = c.in_default.not-Sign e
windowed c kind.Maximum e w = c.in_default.not-Maximum e
windowed c kind.Minimum e w = c.in_default.not-Minimum e
windowed c (kind.Rank x y) e w = c.in_default.not-Rank x y e
windowed c kind.Demean e w = c.in_default.not-Demean e
windowed c kind.ZScore e w = c.in_default.not-ZScore e
windowed c (kind.Quantiles x) e w = c.in_default.not-Quantiles x e
windowed c (kind.Top x) e w = c.in_default.not-Top x e
windowed c (kind.Bottom x) e w = c.in_default.not-Bottom x e
windowed c (kind.PercentileBetween x y) e w = c.in_default.not-PercentileBetween x y e
windowed c kind.PeerCount e w = c.in_default.not-PeerCount e
windowed c (kind.StartsWith x) e w = c.in_default.not-StartsWith x e
windowed c (kind.EndsWith x) e w = c.in_default.not-EndsWith x e
windowed c (kind.HasSubstring x) e w = c.in_default.not-HasSubstring x e
windowed c (kind.ElementOf x) e w = c.in_default.not-ElementOf x e
windowed c (kind.Downsample x) e w = c.in_default.not-Downsample x e
windowed c kind.Where e w = c.in_default.not-Where e
windowed c (kind.Winsorize x y) e w = c.in_default.not-Winsorize x y e
windowed c kind.Scale e w = c.in_default.not-Scale e
windowed c (kind.Summarize x) e w = c.in_default.not-Summarize x e
windowed c (kind.LabelIs l) e w = c.in_default.not-LabelIs l e
windowed c (kind.LabelIsNot l) e w = c.in_default.not-LabelIsNot l e
windowed c k e w = let bad : true ≡ false = ap is_some w in cc

pub returns-in_default-clause-name : goal.returns-in_default-clause-name
returns-in_default-clause-name c = absurd (windowed c c.args.kind.now refl c.requires)

pub returns-in_default-clause-family : goal.returns-in_default-clause-family
returns-in_default-clause-family c = absurd (windowed c c.args.kind.now refl c.requires)

pub returns-in_default-clause-sort : goal.returns-in_default-clause-sort
returns-in_default-clause-sort c = absurd (windowed c c.args.kind.now refl c.requires)

pub returns-in_default-clause-is_safe : goal.returns-in_default-clause-is_safe
returns-in_default-clause-is_safe c = absurd (windowed c c.args.kind.now refl c.requires)

pub returns-in_default-clause-is_safe_over : goal.returns-in_default-clause-is_safe_over
returns-in_default-clause-is_safe_over c = absurd (windowed c c.args.kind.now refl c.requires)

pub returns-in_default-clause-keeps_values : goal.returns-in_default-clause-keeps_values
returns-in_default-clause-keeps_values c = absurd (windowed c c.args.kind.now refl c.requires)
