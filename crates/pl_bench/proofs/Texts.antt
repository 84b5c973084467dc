-- The text spells the script, by computing.
use Rattle.std.proofs.Common.{◌≡◌, ◌≤◌, length, Result, Ok, Err, refl, arith}
use Rattle.pl_spec.specs.Rounding.{div_round}
use Rattle.pl_grammar.specs.Faults.{verdict}
use Rattle.pl_grammar.specs.Script.{script_move, first_version}
use Rattle.pl_syntax.specs.Front.{front}
use Rattle.pl_syntax.specs.Reading.{reading}
use Rattle.pl_syntax.specs.declared.script.Script.{Script}
use Rattle.pl_syntax.specs.declared.error.SyntaxError.{SyntaxError}
use Rattle.pl_syntax.specs.declared.error.SyntaxError.TheVariants.{Memory}
use Rattle.pl_syntax.specs.Scripts.{parsed}
use Rattle.pl_syntax.specs.Parsing.{AnswersScript}
use Rattle.pl_syntax.specs.Spells.{Parsed, Spells}
use Rattle.pl_syntax.specs.Said.{Spelled, said}
use Rattle.pl_syntax.proofs.TextsSaid.{said-spells}
use Rattle.pl_bench.specs.Pipeline.{bench_text, bench_script}

text-said : said bench_text ≡ Spelled bench_script
unfolding said bench_text bench_script reading front verdict script_move first_version div_round
text-said = refl

pub text-spells : Spells bench_text bench_script
text-spells = said-spells bench_text bench_script text-said

-- so the parser answers that script, unless memory is wanted
short : length bench_text ≤ 262_144
unfolding bench_text
short = omega arith

abbrev AnswersText : Result Script SyntaxError → Type 0
AnswersText result = (x : Parsed) → length bench_text ≤ 262_144 → Spells bench_text x → AnswersScript result x

pub script-is : (script : Script) → AnswersText (Ok script) → parsed script ≡ bench_script
script-is script answers = answers bench_script short text-spells

pub memory-of : (error : SyntaxError) → AnswersScript (Err error) bench_script → error ≡ Memory
memory-of Memory h = refl
memory-of error h = absurd h

pub error-is : (error : SyntaxError) → AnswersText (Err error) → error ≡ Memory
error-is error answers = memory-of error (answers bench_script short text-spells)
