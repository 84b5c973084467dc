-- What the bytes of a pipeline file spell, and which fault is the first of a text.
use Rattle.std.specs.Prelude.{ℕ, ◌≡◌, List}
use Rattle.pl_grammar.specs.declared.Place.{Place}
use Rattle.pl_grammar.specs.Tree.{Lexeme}
use Rattle.pl_grammar.specs.Script.{Statement, Script, first_version}
use Rattle.pl_grammar.specs.Whole.{bare_script}
use Rattle.pl_grammar.specs.Faults.{Tail, AtEnd, Kind, IsShort, IsFirst, most_depth}
use Rattle.pl_syntax.specs.Text.{start, Read}

-- the version of the language that a file names, its statements, and where the file ends
pub record Parsed : Type 0 where
  pub version : ℕ
  pub statements : List Statement
  pub end : Place

-- The bytes are tokens, and the tokens derive the script by the grammar's rules, which are those of all
-- versions, within the limits: 32 constructs inside one another, 1,024 tokens of a statement, and no number
-- past the limits of numbers. The tokens tell the version.
pub record Spells (bytes : List ℕ) (s : Parsed) : Type 0 where
  pub tokens : List Lexeme
  pub reads : Read start bytes tokens (AtEnd s.end)
  pub short : IsShort 0 tokens
  pub derives : Script most_depth tokens s.statements
  pub version : s.version ≡ first_version tokens

-- the first fault of the text is of this kind and at this place
pub record FirstFault (bytes : List ℕ) (kind : Kind) (place : Place) : Type 0 where
  pub tokens : List Lexeme
  pub tail : Tail
  pub reads : Read start bytes tokens tail
  pub first : IsFirst tokens tail kind place

-- the same script, places aside
pub record SameScript (a b : Parsed) : Type 0 where
  pub version : a.version ≡ b.version
  pub statements : bare_script a.statements ≡ bare_script b.statements

-- The bytes spell the script again: they spell a script that is the same but for its places, and no other.
pub record SpellsAgain (bytes : List ℕ) (s : Parsed) : Type 0 where
  pub script : Parsed
  pub spells : Spells bytes script
  pub same : SameScript script s
  pub only : (x : Parsed) → Spells bytes x → SameScript x s

-- no bytes spell two scripts
abbrev pub OneScriptSpelled : Type 0
OneScriptSpelled = (bytes : List ℕ) (a b : Parsed) → Spells bytes a → Spells bytes b → a ≡ b
