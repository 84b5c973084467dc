-- The pipeline file that was read, and its rules.
use Rattle.std.proofs.Common.{◌≡◌, ◌⊎◌, inl, inr, ◌≤◌, ℕ, List, [], ◌∷◌, ◌++◌, Bool, true, length, Option, Some, Result, Ok, Err, refl, sym, ap, arith}
use Rattle.pl_grammar.specs.Faults as syntax
use Rattle.pl_syntax.specs.declared.error.SyntaxError.{SyntaxError}
use Rattle.pl_syntax.specs.declared.error.SyntaxError.TheVariants as errors
use Rattle.pl_syntax.specs.Parsing.{IsCause}
use Rattle.pl_syntax.specs.Spells.{Parsed}
use Rattle.pl_syntax.specs.Said.{said}
use Rattle.pl_syntax.proofs.TextsSaid.{fault-said}
use Rattle.pl_pipeline.specs.Table.{Pipeline}
use Rattle.pl_check.specs.declared.fault.CheckError.{CheckError}
use Rattle.pl_check.specs.declared.fault.CheckError.TheVariants as check_errors
use Rattle.pl_check.specs.Answers.{Fails}
use Rattle.pl_check.specs.Typed.{typed}
use Rattle.pl_load.specs.declared.fault.Fault.{Fault}
use Rattle.pl_load.specs.declared.fault.Fault.TheVariants.{Memory}
use Rattle.pl_load.specs.Rules.{syntax_error, check_error}
use Rattle.pl_load.specs.Held.{script_in, pipeline_in}
use Rattle.pl_load.specs.Work.{syntax_rule, script_rule, syntax_step, pipeline_steps, evaluated_steps, numbers_step}
use Rattle.pl_load.specs.Steps.{WorkStep, rule}
use Rattle.pl_load.specs.Stages.{StageEnds, IsRisen}
use Rattle.pl_load.proofs.Steps.{always, stage-done, stage-goes_on, stage-over, stage-stops, stage-weaker, risen-inside}
use Rattle.pl_load.specs.Reads.{IsRead}
use Rattle.pl_load.proofs.Given.{file-whole, file-fails}
use Rattle.pl_load.specs.Views.{ShelfView, Change}

-- an error of the parser tells what the text says
pub error-tells : (bytes : List ℕ) (e : SyntaxError) (fault : Fault) → fault ≡ syntax_error e → IsCause bytes e → length bytes ≤ 262_144
    → (syntax_rule bytes ≡ Some fault) ⊎ (fault ≡ Memory)
unfolding syntax_rule
error-tells bytes (errors.BadByte p) fault is h few = inl (rw (fault-said bytes syntax.BadByte p h, is) refl)
error-tells bytes (errors.Unexpected p) fault is h few = inl (rw (fault-said bytes syntax.Unexpected p h, is) refl)
error-tells bytes (errors.TooDeep p) fault is h few = inl (rw (fault-said bytes syntax.TooDeep p h, is) refl)
error-tells bytes (errors.NumberTooLarge p) fault is h few = inl (rw (fault-said bytes syntax.NumberTooLarge p h, is) refl)
error-tells bytes (errors.LongStatement p) fault is h few = inl (rw (fault-said bytes syntax.LongStatement p h, is) refl)
error-tells bytes errors.TooLong fault is h few = absurd (omega arith)
error-tells bytes errors.Memory fault is h few = inr is

-- ---- the rules of a script

rules-pass : {T : Type 0} {s k : Bool} (held script : Parsed) (p : Pipeline) (x : T) → held ≡ script → typed script ≡ Ok p
    → StageEnds s k (rule (script_rule held) ∷ []) (Ok x)
unfolding script_rule
rules-pass held script p x e h = record { passed = rw (e, h) refl; stopped = tt }

-- an error of the checker tells what the script breaks
check-stops : {T : Type 0} {s k : Bool} (held script : Parsed) (e : CheckError) → held ≡ script → Fails e (typed script)
    → StageEnds {T = T} s k (rule (script_rule held) ∷ []) (Err (check_error e))
unfolding script_rule
check-stops held script (check_errors.Fault f p) e h = record { passed = tt; stopped = inl (rw (e, h) refl) }
check-stops held script check_errors.Memory e h = record { passed = tt; stopped = inr tt }

-- what the script of a file means
pipeline-in : (file : Option (List ℕ)) (script : Parsed) (p : Pipeline) → script_in file ≡ script → typed script ≡ Ok p → pipeline_in file ≡ p
unfolding pipeline_in
pipeline-in file script p e h = rw (e, h) refl

pub pipeline-read : {S T : Type 0} {c : Change ShelfView} {name : Option (List ℕ)} {script : S} (said : S → Parsed) (means : T → Pipeline) (x : T)
    → IsRead c name (λ held. syntax_step held ∷ []) (λ held y. script_in held ≡ said y) (Ok script) → typed (said script) ≡ Ok (means x)
    → IsRead c name pipeline_steps (λ held y. pipeline_in held ≡ means y) (Ok x)
pipeline-read {script = script} said means x h e =
    record {
      file = h.file;
      is_told = h.is_told;
      ends = stage-goes_on h.ends (rules-pass (script_in h.file) (said script) (means x) x h.means e);
      means = pipeline-in h.file (said script) (means x) h.means e;
      begun = h.begun;
      given = file-whole (Ok x) h.given;
      risen = tt;
      left = h.left;
    }

pub no-pipeline : {S T : Type 0} {c : Change ShelfView} {name : Option (List ℕ)} {script : S} (said : S → Parsed) (Means : Option (List ℕ) → T → Type 0) (e : CheckError) (fault : Fault)
    → IsRead c name (λ held. syntax_step held ∷ []) (λ held y. script_in held ≡ said y) (Ok script) → Fails e (typed (said script)) → fault ≡ check_error e → IsRisen ⊥ ⊥ fault
    → IsRead c name pipeline_steps Means (Err fault)
no-pipeline {script = script} said Means e fault h fails is inside =
    let risen = rw is at inside in
    rw is
    (record {
      file = h.file;
      is_told = h.is_told;
      ends = stage-goes_on h.ends (check-stops (script_in h.file) (said script) e h.means fails);
      means = tt;
      begun = h.begun;
      given = file-whole (Err (check_error e)) h.given;
      risen = risen-inside _ _ (check_error e) risen;
      left = h.left;
    })

-- what stops some steps stops them with more
pub stopped-before : {S T : Type 0} {c : Change ShelfView} {name : Option (List ℕ)} {fault : Fault} {first steps : Option (List ℕ) → List WorkStep} {First : Option (List ℕ) → S → Type 0}
    {Means : Option (List ℕ) → T → Type 0} → IsRead c name first First (Err fault) → (more : Option (List ℕ) → List WorkStep) → ((x : Option (List ℕ)) → steps x ≡ first x ++ more x)
    → IsRead c name steps Means (Err fault)
stopped-before h more same =
    record {
      file = h.file;
      is_told = h.is_told;
      ends = stage-over (sym (same h.file)) (stage-stops (more h.file) h.ends);
      means = tt;
      begun = h.begun;
      given = file-fails h.given;
      risen = h.risen;
      left = h.left;
    }

-- ---- the numbers of a script

numbers-over : {T : Type 0} {s k : Bool} {r : Result T Fault} (held script : Parsed) (asked : Option (List ℕ)) → held ≡ script
    → StageEnds s k (numbers_step script asked ∷ []) r → StageEnds s k (numbers_step held asked ∷ []) r
numbers-over held script asked e h = stage-over (ap (λ (x : Parsed). numbers_step x asked ∷ []) (sym e)) h

pub evaluated-read : {S T U : Type 0} {c : Change ShelfView} {name : Option (List ℕ)} {script : S} {u : U} (said : S → Parsed) (means : T → Pipeline) (asked : Option (List ℕ)) (x : T)
    → IsRead c name (λ held. syntax_step held ∷ []) (λ held y. script_in held ≡ said y) (Ok script) → typed (said script) ≡ Ok (means x)
    → StageEnds true true (numbers_step (said script) asked ∷ []) (Ok u)
    → IsRead c name (λ held. evaluated_steps held asked) (λ held y. pipeline_in held ≡ means y) (Ok x)
evaluated-read {c = c} {script = script} said means asked x h e judged =
    record {
      file = h.file;
      is_told = h.is_told;
      ends = stage-goes_on (stage-goes_on h.ends (rules-pass {s = c.before.sound} {k = true} (script_in h.file) (said script) (means x) x h.means e))
          (stage-done {y = x} (numbers-over (script_in h.file) (said script) asked h.means judged));
      means = pipeline-in h.file (said script) (means x) h.means e;
      begun = h.begun;
      given = file-whole (Ok x) h.given;
      risen = tt;
      left = h.left;
    }

pub no-numbers : {S T U V : Type 0} {c : Change ShelfView} {name : Option (List ℕ)} {script : S} (said : S → Parsed) (means : V → Pipeline) (Means : Option (List ℕ) → T → Type 0)
    (asked : Option (List ℕ)) (x : V) (fault : Fault)
    → IsRead c name (λ held. syntax_step held ∷ []) (λ held y. script_in held ≡ said y) (Ok script) → typed (said script) ≡ Ok (means x)
    → StageEnds {T = U} true true (numbers_step (said script) asked ∷ []) (Err fault) → IsRisen ⊥ ⊥ fault
    → IsRead c name (λ held. evaluated_steps held asked) Means (Err fault)
no-numbers {c = c} {script = script} said means Means asked x fault h e judged inside =
    record {
      file = h.file;
      is_told = h.is_told;
      ends = stage-goes_on (stage-goes_on h.ends (rules-pass {s = c.before.sound} {k = true} (script_in h.file) (said script) (means x) x h.means e))
          (stage-weaker always (λ t. t) (numbers-over (script_in h.file) (said script) asked h.means judged));
      means = tt;
      begun = h.begun;
      given = file-whole (Err fault) h.given;
      risen = risen-inside _ _ fault inside;
      left = h.left;
    }
