-- What the parser answers: of a token, of the end, and of the bytes.
use Rattle.std.specs.Prelude.{ℕ, ◌≡◌, ◌<◌, if◌then◌else◌, nat_le, List, length, Option, Some, None, Result, Ok, Err}
use Rattle.pl_grammar.specs.declared.Place.{Place}
use Rattle.pl_grammar.specs.Machine.{Stop, Stuck, Deep}
use Rattle.pl_grammar.specs.Script as g
use Rattle.pl_grammar.specs.Script.{Statement, script_step, first_version}
use Rattle.pl_grammar.specs.Tree.{Lexeme}
use Rattle.pl_grammar.specs.Faults as f
use Rattle.pl_grammar.specs.Faults.{Kind, Tail, AtEnd, Verdict, Good, Fault, too_large, most_tokens, most_depth, verdict}
use Rattle.pl_syntax.specs.Text.{start, Read}
use Rattle.pl_syntax.specs.Spells.{Parsed, FirstFault, SameScript}
use Rattle.pl_syntax.specs.Statements.{statements_of}
use Rattle.pl_syntax.specs.Scripts.{version_in, statements_in, end_in, parsed}
use Rattle.pl_syntax.specs.Stages.{stage_of}
use Rattle.pl_spec.specs.Limits.{most_pipeline_bytes}
use Rattle.pl_syntax.specs.declared.script.Script.{Script}
use Rattle.pl_syntax.specs.declared.progress.Progress.{Progress}
use Rattle.pl_syntax.specs.declared.error.SyntaxError.{SyntaxError}
use Rattle.pl_syntax.specs.declared.error.SyntaxError.TheVariants.{BadByte, Unexpected, TooDeep, NumberTooLarge, TooLong, LongStatement, Memory}

abbrev pub error_of : Kind → Place → SyntaxError
error_of f.BadByte p = BadByte p
error_of f.Unexpected p = Unexpected p
error_of f.TooDeep p = TooDeep p
error_of f.NumberTooLarge p = NumberTooLarge p
error_of f.LongStatement p = LongStatement p

-- the error comes rightly: its fault is the first of the text
abbrev pub IsCause : List ℕ → SyntaxError → Type 0
IsCause bytes (BadByte p) = FirstFault bytes f.BadByte p
IsCause bytes (Unexpected p) = FirstFault bytes f.Unexpected p
IsCause bytes (TooDeep p) = FirstFault bytes f.TooDeep p
IsCause bytes (NumberTooLarge p) = FirstFault bytes f.NumberTooLarge p
IsCause bytes (LongStatement p) = FirstFault bytes f.LongStatement p
IsCause bytes TooLong = most_pipeline_bytes < length bytes
IsCause bytes Memory = Unit {0}

-- the answer is this script, unless memory ran out
abbrev pub AnswersScript : Result Script SyntaxError → Parsed → Type 0
AnswersScript (Ok s) x = parsed s ≡ x
AnswersScript (Err Memory) x = Unit {0}
AnswersScript (Err e) x = ⊥

-- the answer is the same script as this one, places aside, unless memory ran out
abbrev pub AnswersSame : Result Script SyntaxError → Parsed → Type 0
AnswersSame (Ok s) x = SameScript (parsed s) x
AnswersSame (Err Memory) x = Unit {0}
AnswersSame (Err e) x = ⊥

-- the answer is this fault, unless memory ran out
abbrev pub AnswersFault : Result Script SyntaxError → Kind → Place → Type 0
AnswersFault (Ok s) k p = ⊥
AnswersFault (Err Memory) k p = Unit {0}
AnswersFault (Err e) k p = e ≡ error_of k p

-- the answer's script is of this version
abbrev pub HasVersion : Result Script SyntaxError → ℕ → Type 0
HasVersion (Ok s) n = version_in s ≡ n
HasVersion (Err e) n = Unit {0}

-- a step of the reader over a token that is the next after n tokens of its statement
abbrev pub stepped : Result g.Stage Stop → Result g.Stage Kind
stepped (Ok s) = Ok s
stepped (Err Stuck) = Err f.Unexpected
stepped (Err Deep) = Err f.TooDeep

abbrev pub token_step : ℕ → Lexeme → g.Stage → Result g.Stage Kind
token_step n t s =
    if nat_le most_tokens n then Err f.LongStatement
    else if too_large t then Err f.NumberTooLarge
    else stepped (script_step most_depth t s)

abbrev pub Steps : Result Progress SyntaxError → Result g.Stage Kind → ℕ → ℕ → Place → Type 0
Steps (Ok x) r n v p = (r ≡ Ok (stage_of x.stage)) × (x.count ≡ n) × (x.version ≡ v)
Steps (Err (Unexpected q)) r n v p = (r ≡ Err f.Unexpected) × (q ≡ p)
Steps (Err (TooDeep q)) r n v p = (r ≡ Err f.TooDeep) × (q ≡ p)
Steps (Err (NumberTooLarge q)) r n v p = (r ≡ Err f.NumberTooLarge) × (q ≡ p)
Steps (Err (LongStatement q)) r n v p = (r ≡ Err f.LongStatement) × (q ≡ p)
Steps (Err (BadByte q)) r n v p = ⊥
Steps (Err TooLong) r n v p = ⊥
Steps (Err Memory) r n v p = Unit {0}

-- what the end of the file answers, where it is at p
abbrev pub Ends : Result Script SyntaxError → Option (List Statement) → Place → Type 0
Ends (Ok s) o p = (o ≡ Some (statements_of (statements_in s))) × (end_in s ≡ p)
Ends (Err (Unexpected q)) o p = (o ≡ None) × (q ≡ p)
Ends (Err e) o p = ⊥

-- the answer is the verdict, unless memory ran out
abbrev pub Gives : Result Script SyntaxError → Tail → Verdict → Type 0
Gives (Ok s) tail v = (v ≡ Good (statements_of (statements_in s))) × (tail ≡ AtEnd (end_in s))
Gives (Err (BadByte p)) tail v = v ≡ Fault f.BadByte p
Gives (Err (Unexpected p)) tail v = v ≡ Fault f.Unexpected p
Gives (Err (TooDeep p)) tail v = v ≡ Fault f.TooDeep p
Gives (Err (NumberTooLarge p)) tail v = v ≡ Fault f.NumberTooLarge p
Gives (Err (LongStatement p)) tail v = v ≡ Fault f.LongStatement p
Gives (Err TooLong) tail v = ⊥
Gives (Err Memory) tail v = Unit {0}

pub record Outcome (bytes : List ℕ) (result : Result Script SyntaxError) : Type 0 where
  pub tokens : List Lexeme
  pub tail : Tail
  pub reads : Read start bytes tokens tail
  pub gives : Gives result tail (verdict 0 g.Opening tokens tail)
  pub version : HasVersion result (first_version tokens)
