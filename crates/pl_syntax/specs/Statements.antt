-- The statements of a script, as the grammar has them.
use Rattle.std.specs.Prelude.{List, map}
use Rattle.pl_grammar.specs.Script as g
use Rattle.pl_syntax.specs.Plain.{plain}
use Rattle.pl_syntax.specs.declared.script.Statement.{Statement}
use Rattle.pl_syntax.specs.declared.script.Statement.TheVariants.{Let, Column, Screen}
use Rattle.pl_syntax.specs.declared.script.Head as h
use Rattle.pl_syntax.specs.declared.script.Head.TheVariants as v

abbrev pub head_of : h.Head → g.Head
head_of (v.Let p w) = g.LetHead p w
head_of (v.Column p w) = g.ColumnHead p w
head_of (v.Screen p) = g.ScreenHead p

abbrev pub statement_of : Statement → g.Statement
statement_of (Let p w e) = record { head = g.LetHead p w; tree = plain e }
statement_of (Column p w e) = record { head = g.ColumnHead p w; tree = plain e }
statement_of (Screen p e) = record { head = g.ScreenHead p; tree = plain e }

abbrev pub statements_of : List Statement → List g.Statement
statements_of ss = map statement_of ss
