-- The pipeline file, the script that it spells, and the pipeline that it means.
use Rattle.std.specs.Prelude.{◌≡◌, ℕ, pos, List, [], ◌∷◌, ◌++◌, codes, Some, None, Ok}
use Rattle.pl_spec.specs.declared.Column.TheVariants.{Close, Volume}
use Rattle.pl_pipeline.specs.declared.RankMethod.TheVariants.{Ordinal}
use Rattle.pl_pipeline.specs.declared.RankOrder.TheVariants.{Ascending}
use Rattle.pl_pipeline.specs.Kind.{Window, Cross, Label, Top, Rank}
use Rattle.pl_pipeline.specs.declared.WindowKind.TheVariants.{AverageDollarVolume, Returns}
use Rattle.pl_pipeline.specs.Term.{Node, BarColumn, TermInput}
use Rattle.pl_pipeline.specs.Table.{Pipeline}
use Rattle.pl_grammar.specs.declared.Place.{Place}
use Rattle.pl_grammar.specs.Tree.{number, text, name, call, method, no_args, arg}
use Rattle.pl_grammar.specs.Script.{Statement, LetHead, ColumnHead, ScreenHead}
use Rattle.pl_syntax.specs.Spells.{Parsed, Spells}
use Rattle.pl_check.specs.Typed.{typed}

-- ---- the text

abbrev line : List ℕ → List ℕ
line words = words ++ 10 ∷ []

unfoldable pub bench_text : List ℕ
bench_text =
    line (codes "pipeline 1;")
    ++ line (codes "let liquid = AverageDollarVolume(20).top(100);")
    ++ line (codes "let momentum = Returns(close, 252);")
    ++ line (codes "column momentum = momentum;")
    ++ line (codes "column score = momentum.rank(mask=liquid, groupby=label(\"sector\"));")
    ++ line (codes "screen liquid;")

-- ---- the script

abbrev at : ℕ → ℕ → Place
at line col = record { line = line; col = col }

abbrev liquid : Statement
liquid = record {
  head = LetHead (at 2 5) (codes "liquid");
  tree = method (at 2 38) (call (at 2 14) (codes "AverageDollarVolume") (arg None (number (at 2 34) (pos 20000000)) no_args)) (codes "top") (arg None (number (at 2 42) (pos 100000000)) no_args);
}

abbrev momentum : Statement
momentum = record {
  head = LetHead (at 3 5) (codes "momentum");
  tree = call (at 3 16) (codes "Returns") (arg None (name (at 3 24) (codes "close")) (arg None (number (at 3 31) (pos 252000000)) no_args));
}

abbrev first_column : Statement
first_column = record { head = ColumnHead (at 4 8) (codes "momentum"); tree = name (at 4 19) (codes "momentum") }

abbrev second_column : Statement
second_column = record {
  head = ColumnHead (at 5 8) (codes "score");
  tree = method (at 5 25) (name (at 5 16) (codes "momentum")) (codes "rank") (arg (Some (codes "mask")) (name (at 5 35) (codes "liquid")) (arg (Some (codes "groupby")) (call (at 5 51) (codes "label") (arg None (text (at 5 57) (codes "sector")) no_args)) no_args));
}

abbrev screen : Statement
screen = record { head = ScreenHead (at 6 1); tree = name (at 6 8) (codes "liquid") }

unfoldable pub bench_script : Parsed
bench_script = record {
  version = 1;
  statements = liquid ∷ momentum ∷ first_column ∷ second_column ∷ screen ∷ [];
  end = at 7 1;
}

-- ---- the pipeline

-- the mean dollar volume of 20 sessions, the 100 greatest of them, the return of 252 sessions, the sector,
-- and the rank of the return in the sector among those 100
abbrev pub average_dollar_volume : Node
average_dollar_volume = record { kind = Window AverageDollarVolume; inputs = BarColumn Close ∷ BarColumn Volume ∷ []; mask = None; group = None; window = 20 }

abbrev pub top : Node
top = record { kind = Cross (Top 100); inputs = TermInput 0 ∷ []; mask = None; group = None; window = 1 }

abbrev pub returns : Node
returns = record { kind = Window Returns; inputs = BarColumn Close ∷ []; mask = None; group = None; window = 252 }

abbrev pub sector : Node
sector = record { kind = Label 0; inputs = []; mask = None; group = None; window = 1 }

abbrev pub rank : Node
rank = record { kind = Cross (Rank Ordinal Ascending); inputs = TermInput 2 ∷ []; mask = Some 1; group = Some 3; window = 1 }

unfoldable pub bench_pipeline : Pipeline
bench_pipeline = record {
  graph = average_dollar_volume ∷ top ∷ returns ∷ sector ∷ rank ∷ [];
  columns = record { name = codes "momentum"; term = 2 } ∷ record { name = codes "score"; term = 4 } ∷ [];
  screen = Some 1;
  names = codes "sector" ∷ [];
}

-- ---- what is proved of them

-- the text spells the script, which means the pipeline
pub record TextMeansThePipeline : Type 0 where
  pub spells : Spells bench_text bench_script
  pub means : typed bench_script ≡ Ok bench_pipeline
