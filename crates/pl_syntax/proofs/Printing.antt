-- The canonical text of a script spells it again.
use Rattle.std.proofs.Common.{◌≡◌, ℕ, true, List, Result, Ok, Err, refl, ap, subst, sym, ◌∙◌}
use Rattle.pl_grammar.specs.declared.Place.{Place}
use Rattle.pl_grammar.specs.Script.{Statement, is_known, first_version}
use Rattle.pl_grammar.specs.Whole.{are_sound, bare_script}
use Rattle.pl_grammar.proofs.Scripts.{script_derives, script_told, script_short, same_told, same_short, replaced_script}
use Rattle.pl_syntax.specs.Sound.{is_written}
use Rattle.pl_syntax.specs.Text.{start}
use Rattle.pl_syntax.specs.Canonical.{script_text}
use Rattle.pl_syntax.specs.Spells.{Parsed, Spells, SameScript, SpellsAgain}
use Rattle.pl_syntax.specs.Statements.{statements_of}
use Rattle.pl_syntax.specs.Scripts.{version_in, statements_in, end_in, parsed, printed_text}
use Rattle.pl_syntax.specs.Parsing.{AnswersScript, AnswersSame, Outcome}
use Rattle.pl_syntax.specs.declared.script.Script.{Script}
use Rattle.pl_syntax.specs.declared.error.SyntaxError.{SyntaxError}
use Rattle.pl_syntax.specs.declared.error.SyntaxError.TheVariants.{Memory}
use Rattle.pl_syntax.proofs.Shown.{script_shows}
use Rattle.pl_syntax.proofs.Verdicts.{one_parsed, spelled_answers}

pub spells_again : (n : ℕ) (ss : List Statement) (end : Place) → is_known n ≡ true → are_sound is_written ss ≡ true
    → SpellsAgain (script_text n ss) (record { version = n; statements = ss; end = end })
spells_again n ss end k h =
    let r = (script_shows n ss k h).from start in
    let d = replaced_script (script_derives is_written n ss k h) r.tokens r.same in
    let s : Parsed = record { version = n; statements = d.statements; end = r.end } in
    let told : first_version r.tokens ≡ n = same_told r.same ∙ script_told n ss k in
    let x : Spells (script_text n ss) s = record { tokens = r.tokens; reads = r.reads; short = same_short r.same 0 (script_short is_written n ss h); derives = d.derives; version = sym told } in
    record {
      script = s;
      spells = x;
      same = record { version = refl; statements = d.same };
      only = λ y z.
          let e : y ≡ s = one_parsed (script_text n ss) y s z x in
          record { version = ap (λ (w : Parsed). w.version) e; statements = ap (λ (w : Parsed). bare_script w.statements) e ∙ d.same };
    }

same_answer : (r : Result Script SyntaxError) (x y : Parsed) → AnswersScript r x → SameScript x y → AnswersSame r y
same_answer (Ok s) x y a h = record { version = ap (λ (w : Parsed). w.version) a ∙ h.version; statements = ap (λ (w : Parsed). bare_script w.statements) a ∙ h.statements }
same_answer (Err Memory) x y a h = tt
same_answer (Err e) x y a h = a

pub printed_again : (s : Script) → SpellsAgain (printed_text s) (parsed s)
printed_again s = spells_again (version_in s) (statements_of (statements_in s)) (end_in s) s.known s.sound

-- what is printed of a script is read as it
pub printed_answers : (bytes : List ℕ) (r : Result Script SyntaxError) → Outcome bytes r → (s : Script) → bytes ≡ printed_text s → AnswersSame r (parsed s)
printed_answers bytes r o s e =
    let x = printed_again s in
    same_answer r x.script (parsed s) (spelled_answers bytes r o x.script (subst (λ z. Spells z x.script) (sym e) x.spells)) x.same
