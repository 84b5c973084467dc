-- What the faults of a text, of a script, of records and of rows are to a command. Too many of them pass a
-- limit.
use Rattle.std.specs.Prelude.{ℕ, Option, Some, None}
use Rattle.pl_records.specs.Reading as reading
use Rattle.pl_records.specs.declared.fault.DataFault.{DataFault}
use Rattle.pl_records.specs.declared.fault.DataFault.TheVariants.{TooMany, BadLine}
use Rattle.pl_adjust.specs.Walk as rows
use Rattle.pl_derivation.specs.Texts.{Broken}
use Rattle.pl_derivation.specs.Texts.Broken.{BadLine as UnreadLine, TooMany as ManyLines}
use Rattle.pl_derivation.specs.declared.read.LinesError.{LinesError}
use Rattle.pl_derivation.specs.declared.read.LinesError.TheVariants as lines_errors
use Rattle.pl_derivation.specs.declared.error.ExplainError.{ExplainError}
use Rattle.pl_derivation.specs.declared.error.ExplainError.TheVariants as explain_errors
use Rattle.pl_grammar.specs.Faults as syntax
use Rattle.pl_grammar.specs.declared.Place.{Place}
use Rattle.pl_syntax.specs.declared.error.SyntaxError.{SyntaxError}
use Rattle.pl_syntax.specs.declared.error.SyntaxError.TheVariants as errors
use Rattle.pl_check.specs.declared.fault.CheckFault.{CheckFault}
use Rattle.pl_check.specs.declared.fault.CheckFault.TheVariants as checks
use Rattle.pl_planner.specs.declared.plans.PlanError.{PlanError}
use Rattle.pl_planner.specs.declared.plans.PlanError.TheVariants as plan_errors
use Rattle.pl_check.specs.declared.fault.CheckError.{CheckError}
use Rattle.pl_check.specs.declared.fault.CheckError.TheVariants as check_errors
use Rattle.pl_words.specs.declared.request.InputFile.{InputFile}
use Rattle.pl_words.specs.declared.request.InputFile.TheVariants as files
use Rattle.pl_load.specs.declared.fault.SyntaxFault.TheVariants as misspelled
use Rattle.pl_load.specs.declared.fault.RuleFault.TheVariants as broken
use Rattle.pl_load.specs.declared.fault.RowFault.TheVariants.{BadEffective, BadRatio}
use Rattle.pl_load.specs.declared.fault.Limit.{Limit}
use Rattle.pl_load.specs.declared.fault.Limit.TheVariants as limits
use Rattle.pl_load.specs.declared.fault.Fault.{Fault}
use Rattle.pl_load.specs.declared.fault.Fault.TheVariants.{Syntax, Rule, Data, Row, TooEarly, Passed, Memory}

abbrev pub syntax_fault : syntax.Kind → Place → Fault
syntax_fault syntax.BadByte place = Syntax place misspelled.BadByte
syntax_fault syntax.Unexpected place = Syntax place misspelled.Unexpected
syntax_fault syntax.TooDeep place = Syntax place misspelled.TooDeep
syntax_fault syntax.NumberTooLarge place = Syntax place misspelled.NumberTooLarge
syntax_fault syntax.LongStatement place = Syntax place misspelled.LongStatement

abbrev pub rule_fault : CheckFault → Place → Fault
rule_fault checks.UnknownName place = Rule place broken.UnknownName
rule_fault checks.Redefined place = Rule place broken.Redefined
rule_fault checks.WrongKind place = Rule place broken.WrongKind
rule_fault checks.BadArgument place = Rule place broken.BadArgument
rule_fault checks.BadWindow place = Rule place broken.BadWindow
rule_fault checks.NotWindowSafe place = Rule place broken.NotWindowSafe
rule_fault checks.NoColumn place = Rule place broken.NoColumn
rule_fault checks.TooManyColumns place = Passed limits.Columns
rule_fault checks.TooManyTerms place = Passed limits.Terms

-- the limit that too many records of a data file pass
abbrev pub rows_limit : InputFile → Limit
rows_limit files.Sessions = limits.Sessions
rows_limit files.Assets = limits.Assets
rows_limit files.Labels = limits.Labels
rows_limit files.Numbers = limits.Numbers
rows_limit files.Results = limits.Numbers
rows_limit files.Bars = limits.Bars
rows_limit files.Revisions = limits.Revisions
rows_limit files.Payouts = limits.Payouts
rows_limit files.Derivation = limits.Derivation
rows_limit files.Pipeline = limits.Pipeline

-- a fault of a record of a data file
abbrev pub data_fault : InputFile → ℕ → DataFault → Fault
data_fault file line TooMany = Passed (rows_limit file)
data_fault file line fault = Data file line fault

abbrev pub lines_fault : Broken → Fault
lines_fault (UnreadLine line) = Data files.Derivation line BadLine
lines_fault (ManyLines line) = Passed limits.Derivation

abbrev pub rows_fault : rows.Fault → Fault
rows_fault rows.TooMany = Passed limits.Adjustments
rows_fault (rows.BadEffective table id) = Row table id BadEffective
rows_fault (rows.BadRatio table id) = Row table id BadRatio

-- ---- what the errors of code tell: a fault of the input, or want of memory

abbrev pub fault_or_memory : {F : Type 0} → (F → Fault) → Option F → Fault
fault_or_memory says None = Memory
fault_or_memory says (Some f) = says f

abbrev pub line_fault : InputFile → Option (reading.Fault DataFault) → Fault
line_fault file f = fault_or_memory (λ f. data_fault file f.line f.rule) f

abbrev pub syntax_error : SyntaxError → Fault
syntax_error (errors.BadByte place) = Syntax place misspelled.BadByte
syntax_error (errors.Unexpected place) = Syntax place misspelled.Unexpected
syntax_error (errors.TooDeep place) = Syntax place misspelled.TooDeep
syntax_error (errors.NumberTooLarge place) = Syntax place misspelled.NumberTooLarge
syntax_error (errors.LongStatement place) = Syntax place misspelled.LongStatement
syntax_error errors.TooLong = Passed limits.Pipeline
syntax_error errors.Memory = Memory

abbrev pub check_error : CheckError → Fault
check_error (check_errors.Fault fault place) = rule_fault fault place
check_error check_errors.Memory = Memory

abbrev pub plan_error : PlanError → Fault
plan_error (plan_errors.TooEarly reach) = TooEarly reach
plan_error (plan_errors.TooDeep rows) = Passed limits.Extra
plan_error plan_errors.Memory = Memory

abbrev pub lines_error : LinesError → Fault
lines_error (lines_errors.BadLine line) = Data files.Derivation line BadLine
lines_error (lines_errors.TooMany line) = Passed limits.Derivation
lines_error lines_errors.Memory = Memory

abbrev pub explain_error : ExplainError → Fault
explain_error explain_errors.TooLong = Passed limits.Derivation
explain_error explain_errors.Memory = Memory
