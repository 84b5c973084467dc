-- What a script of the code holds.
use Rattle.std.specs.Prelude.{ℕ, List}
use Rattle.pl_grammar.specs.declared.Place.{Place}
use Rattle.pl_syntax.specs.declared.script.Statement.{Statement}
use Rattle.pl_syntax.specs.declared.script.Script.{Script}
use Rattle.pl_syntax.specs.Canonical.{script_text}
use Rattle.pl_syntax.specs.Statements.{statements_of}
use Rattle.pl_syntax.specs.Spells.{Parsed}

abbrev pub version_in : Script → ℕ
version_in s = s.version

abbrev pub statements_in : Script → List Statement
statements_in s = s.statements.items

abbrev pub end_in : Script → Place
end_in s = s.end

-- the script without where it lies in memory
abbrev pub parsed : Script → Parsed
parsed s = record { version = version_in s; statements = statements_of (statements_in s); end = end_in s }

-- the script's canonical text
abbrev pub printed_text : Script → List ℕ
printed_text s = script_text (version_in s) (statements_of (statements_in s))
