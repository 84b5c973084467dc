-- The verdict over a text, token by token, and what it says of the bytes.
use Rattle.std.proofs.Common.{◌≡◌, ℕ, zero, suc, ◌==◌, Bool, true, false, cond, leb, List, [], ◌∷◌, Some, Result, Ok, Err, refl, sym, ap, subst, ◌∙◌, IfOk, IfErr, arith}
use Rattle.std.proofs.lemmas.Bool.Decides.{nat_tests}
use Rattle.pl_grammar.specs.declared.Place.{Place}
use Rattle.pl_grammar.specs.Machine.{Stop, Stuck, Deep}
use Rattle.pl_grammar.specs.Tree.{Token, Lexeme, mark}
use Rattle.pl_grammar.specs.Script as g
use Rattle.pl_grammar.specs.Script.{script_step}
use Rattle.pl_grammar.specs.Faults as f
use Rattle.pl_grammar.specs.Faults.{Kind, Tail, AtEnd, AtBad, Verdict, Good, Fault, place_of, too_large, counted, most_tokens, most_depth, Spelled, step_verdict, finish_verdict, verdict}
use Rattle.pl_grammar.proofs.ScriptRead.{one_script, script_known}
use Rattle.pl_grammar.specs.Whole.{are_sound}
use Rattle.pl_grammar.proofs.Scripts.{script_sound}
use Rattle.pl_grammar.proofs.First.{Right, right_of, spelled_only, first_only}
use Rattle.pl_syntax.specs.Text.{start, Read}
use Rattle.pl_syntax.specs.Code.{Begins}
use Rattle.pl_syntax.specs.Sound.{is_written}
use Rattle.pl_syntax.proofs.Written.{read_written}
use Rattle.pl_syntax.proofs.Reading.{one_way, is_read}
use Rattle.pl_syntax.specs.Spells.{Parsed, Spells, FirstFault}
use Rattle.pl_syntax.specs.Statements.{statements_of}
use Rattle.pl_syntax.specs.Scripts.{statements_in, parsed}
use Rattle.pl_syntax.specs.Parsing.{stepped, token_step, error_of, IsCause, AnswersScript, AnswersFault, Steps, Ends, Gives, HasVersion, Outcome}
use Rattle.pl_syntax.specs.declared.script.Script.{Script}
use Rattle.pl_syntax.specs.declared.error.SyntaxError.{SyntaxError}
use Rattle.pl_syntax.specs.declared.error.SyntaxError.TheVariants.{BadByte, Unexpected, TooDeep, NumberTooLarge, TooLong, LongStatement, Memory}

-- after the tokens that were read, the rest decides as the whole does
pub record Continues (bytes : List ℕ) (ts : List Lexeme) (tail : Tail) (n v : ℕ) (s : g.Stage) : Type 0 where
  pub tokens : List Lexeme
  pub reads : Read start bytes tokens tail
  pub same : verdict 0 g.Opening tokens tail ≡ verdict n s ts tail
  pub told : g.first_version tokens ≡ g.version_or v (g.first_version ts)

abbrev pub after_step : Place → Result g.Stage Kind → (g.Stage → Verdict) → Verdict
after_step p (Ok s) k = k s
after_step p (Err e) k = Fault e p

pub verdict_step : (n : ℕ) (s : g.Stage) (t : Lexeme) (ts : List Lexeme) (tail : Tail) → verdict n s (t ∷ ts) tail ≡ after_step (place_of t) (token_step n t s) (λ s. verdict (counted n t) s ts tail)
unfolding verdict
verdict_step n s t ts tail = by_tests (leb most_tokens n) (too_large t) (script_step most_depth t s) (λ s. verdict (counted n t) s ts tail)
  where
    by_step : (r : Result g.Stage Stop) (k : g.Stage → Verdict) → step_verdict (place_of t) r k ≡ after_step (place_of t) (stepped r) k
    by_step (Err Deep) k = refl
    by_step r k = refl

    by_tests : (a b : Bool) (r : Result g.Stage Stop) (k : g.Stage → Verdict) → cond a (Fault f.LongStatement (place_of t)) (cond b (Fault f.NumberTooLarge (place_of t)) (step_verdict (place_of t) r k)) ≡ after_step (place_of t) (cond a (Err f.LongStatement) (cond b (Err f.NumberTooLarge) (stepped r))) k
    by_tests true b r k = refl
    by_tests false true r k = refl
    by_tests false false r k = by_step r k

-- what the answer says of the bytes

pub gives_at : (bytes : List ℕ) (r : Result Script SyntaxError) → Outcome bytes r → (ts : List Lexeme) (tail : Tail) → Read start bytes ts tail → Gives r tail (verdict 0 g.Opening ts tail)
gives_at bytes r o ts tail x =
    let same = one_way start bytes o.tokens ts o.tail tail o.reads x in
    subst (λ z. Gives r z (verdict 0 g.Opening ts z)) same.1 (subst (λ z. Gives r o.tail (verdict 0 g.Opening z o.tail)) same.0 o.gives)

pub spelled : (bytes : List ℕ) (r : Result Script SyntaxError) → Outcome bytes r → IfOk r (λ s. Spells bytes (parsed s))
spelled bytes (Ok s) o =
    let x : Spelled o.tokens o.tail (statements_of (statements_in s)) = subst (λ v. Right v o.tokens o.tail) o.gives.0 (right_of o.tokens o.tail) in
    record { tokens = o.tokens; reads = subst (λ z. Read start bytes o.tokens z) o.gives.1 o.reads; short = x.short; derives = x.derives; version = o.version }
spelled bytes (Err e) o = tt

same_good : {a b : List g.Statement} → Good a ≡ Good b → a ≡ b
same_good h = cc

same_end : {p q : Place} → AtEnd p ≡ AtEnd q → p ≡ q
same_end h = cc

abbrev made : ℕ → List g.Statement → Place → Parsed
made n ss p = record { version = n; statements = ss; end = p }

same_made : {n m : ℕ} {ss us : List g.Statement} {p q : Place} → n ≡ m → ss ≡ us → p ≡ q → made n ss p ≡ made m us q
same_made {n = n} {m = m} {ss = ss} {us = us} {p = p} {q = q} h k l = ap (λ x. made x ss p) h ∙ (ap (λ x. made m x p) k ∙ ap (made m us) l)

answers_script : (r : Result Script SyntaxError) (x : Parsed) → HasVersion r x.version → Gives r (AtEnd x.end) (Good x.statements) → AnswersScript r x
answers_script (Ok s) x v h = same_made v (sym (same_good h.0)) (sym (same_end h.1))
answers_script (Err TooLong) x v h = absurd h
answers_script (Err Memory) x v h = tt
answers_script (Err e) x v h = absurd cc

pub spelled_answers : (bytes : List ℕ) (r : Result Script SyntaxError) → Outcome bytes r → (x : Parsed) → Spells bytes x → AnswersScript r x
spelled_answers bytes r o x s =
    let v : verdict 0 g.Opening s.tokens (AtEnd x.end) ≡ Good x.statements = spelled_only s.tokens (AtEnd x.end) x.statements (record { end = x.end; ended = refl; short = s.short; derives = s.derives }) in
    let told = one_way start bytes o.tokens s.tokens o.tail (AtEnd x.end) o.reads s.reads in
    let n : HasVersion r x.version = subst (HasVersion r) (ap g.first_version told.0 ∙ sym s.version) o.version in
    answers_script r x n (subst (λ z. Gives r (AtEnd x.end) z) v (gives_at bytes r o s.tokens (AtEnd x.end) s.reads))

error_at : (e : Kind) (q : Place) (k : Kind) (p : Place) → Fault k p ≡ Fault e q → error_of e q ≡ error_of k p
error_at e q k p h = cc

answers_fault : (r : Result Script SyntaxError) (k : Kind) (p : Place) (tail : Tail) → Gives r tail (Fault k p) → AnswersFault r k p
answers_fault (Ok s) k p tail h = let e = h.0 in cc
answers_fault (Err TooLong) k p tail h = absurd h
answers_fault (Err Memory) k p tail h = tt
answers_fault (Err e) k p tail h = error_at _ _ k p h

pub fault_answers : (bytes : List ℕ) (r : Result Script SyntaxError) → Outcome bytes r → (k : Kind) (p : Place) → FirstFault bytes k p → AnswersFault r k p
fault_answers bytes r o k p x = answers_fault r k p x.tail (subst (λ z. Gives r x.tail z) (first_only x.first) (gives_at bytes r o x.tokens x.tail x.reads))

first_of : (bytes : List ℕ) (ts : List Lexeme) (tail : Tail) (k : Kind) (p : Place) → Read start bytes ts tail → verdict 0 g.Opening ts tail ≡ Fault k p → FirstFault bytes k p
first_of bytes ts tail k p x h = record { tokens = ts; tail = tail; reads = x; first = subst (λ v. Right v ts tail) h (right_of ts tail) }

pub cause : (bytes : List ℕ) (r : Result Script SyntaxError) → Outcome bytes r → IfErr r (IsCause bytes)
cause bytes (Ok s) o = tt
cause bytes (Err TooLong) o = absurd o.gives
cause bytes (Err Memory) o = tt
cause bytes (Err e) o = first_of bytes o.tokens o.tail _ _ o.reads o.gives

-- the bytes decide the script
pub one_parsed : (bytes : List ℕ) (a b : Parsed) → Spells bytes a → Spells bytes b → a ≡ b
one_parsed bytes a b x y =
    let same = one_way start bytes x.tokens y.tokens (AtEnd a.end) (AtEnd b.end) x.reads y.reads in
    same_made (x.version ∙ (ap g.first_version same.0 ∙ sym y.version)) (one_script most_depth y.tokens a.statements b.statements (subst (λ z. g.Script most_depth z a.statements) same.0 x.derives) y.derives) (same_end same.1)

-- the reader's turns

abbrev pub Goes : List ℕ → Place → List ℕ → ℕ → ℕ → g.Stage → Type 0
Goes bytes p bs n v s = (ts : List Lexeme) (tail : Tail) → Read p bs ts tail → Continues bytes ts tail n v s

or_or : (a b c : ℕ) → g.version_or a (g.version_or b c) ≡ g.version_or (g.version_or a b) c
or_or zero b c = refl
or_or (suc a) b c = let some : (suc a == 0) ≡ false = grind (arith, nat_tests) in rw some (rw some refl)

told_next : (r : Place) (t : Token) (ts : List Lexeme) → g.first_version (mark r t ∷ ts) ≡ g.version_or (g.token_version t) (g.first_version ts)
unfolding g.first_version
told_next r t ts = refl

pub on_token : {bytes bs rest : List ℕ} {p q r : Place} {t : Token} {n k v u : ℕ} {s x : g.Stage} → Goes bytes p bs n v s → Begins p bs r t q rest → token_step n (mark r t) s ≡ Ok x → k ≡ counted n (mark r t) → u ≡ g.version_or v (g.token_version t) → Goes bytes q rest k u x
on_token {r = r} {t = t} {n = n} {v = v} {s = s} {x = x} goes b e size version ts tail y =
    let c = goes (mark r t ∷ ts) tail (b.reads ts tail y) in
    record {
      tokens = c.tokens;
      reads = c.reads;
      same = c.same ∙ (verdict_step n s (mark r t) ts tail ∙ (ap (λ z. after_step r z (λ s. verdict (counted n (mark r t)) s ts tail)) e ∙ ap (λ m. verdict m x ts tail) (sym size)));
      told = c.told ∙ (ap (g.version_or v) (told_next r t ts) ∙ (or_or v (g.token_version t) (g.first_version ts) ∙ ap (λ m. g.version_or m (g.first_version ts)) (sym version)));
    }

pub at_step_fault : {bytes bs rest : List ℕ} {p q r : Place} {t : Token} {n v : ℕ} {s : g.Stage} {e : SyntaxError} → (k u : ℕ) → Goes bytes p bs n v s → Begins p bs r t q rest → Steps (Err e) (token_step n (mark r t) s) k u r → Outcome bytes (Err e)
at_step_fault {rest = rest} {q = q} {r = r} {t = t} {n = n} {s = s} {e = e} k u goes b h =
    let y = is_read q rest in
    let c = goes (mark r t ∷ y.tokens) y.tail (b.reads y.tokens y.tail y.reads) in
    record { tokens = c.tokens; tail = y.tail; reads = c.reads; gives = of_error e c.tokens y.tokens y.tail (c.same ∙ verdict_step n s (mark r t) y.tokens y.tail) h; version = tt }
  where
    of_kind : (kind : Kind) (place : Place) (us ts : List Lexeme) (tail : Tail) → verdict 0 g.Opening us tail ≡ after_step r (token_step n (mark r t) s) (λ s. verdict (counted n (mark r t)) s ts tail) → token_step n (mark r t) s ≡ Err kind → place ≡ r → verdict 0 g.Opening us tail ≡ Fault kind place
    of_kind kind place us ts tail v h same = v ∙ (ap (λ z. after_step r z (λ s. verdict (counted n (mark r t)) s ts tail)) h ∙ ap (Fault kind) (sym same))

    of_error : (e : SyntaxError) (us ts : List Lexeme) (tail : Tail) → verdict 0 g.Opening us tail ≡ after_step r (token_step n (mark r t) s) (λ s. verdict (counted n (mark r t)) s ts tail) → Steps (Err e) (token_step n (mark r t) s) k u r → Gives (Err e) tail (verdict 0 g.Opening us tail)
    of_error (BadByte p) us ts tail v h = absurd h
    of_error TooLong us ts tail v h = absurd h
    of_error Memory us ts tail v h = tt
    of_error e us ts tail v h = of_kind _ _ us ts tail v h.0 h.1

pub at_bad : {bytes bs : List ℕ} {p r : Place} {n v : ℕ} {s : g.Stage} → Goes bytes p bs n v s → Read p bs [] (AtBad r) → Outcome bytes (Err (BadByte r))
unfolding verdict
at_bad {r = r} goes x = let c = goes [] (AtBad r) x in record { tokens = c.tokens; tail = AtBad r; reads = c.reads; gives = c.same; version = tt }

pub or_nothing : (v : ℕ) → g.version_or v (g.first_version []) ≡ v
unfolding g.first_version
or_nothing zero = refl
or_nothing (suc v) = let some : (suc v == 0) ≡ false = grind (arith, nat_tests) in rw some refl

pub at_end : {bytes bs : List ℕ} {p q : Place} {n v : ℕ} {s : g.Stage} {r : Result Script SyntaxError} → Goes bytes p bs n v s → Read p bs [] (AtEnd q) → Ends r (g.script_finish s) q → HasVersion r v → Outcome bytes r
unfolding verdict
at_end {q = q} {v = v} {s = s} {r = r} goes x h version =
    let c = goes [] (AtEnd q) x in
    record { tokens = c.tokens; tail = AtEnd q; reads = c.reads; gives = of_result r c.tokens c.same h; version = subst (HasVersion r) (sym (c.told ∙ or_nothing v)) version }
  where
    of_result : (r : Result Script SyntaxError) (us : List Lexeme) → verdict 0 g.Opening us (AtEnd q) ≡ finish_verdict (g.script_finish s) q → Ends r (g.script_finish s) q → Gives r (AtEnd q) (verdict 0 g.Opening us (AtEnd q))
    of_result (Ok x) us v h = (v ∙ ap (λ o. finish_verdict o q) h.0, ap AtEnd (sym h.1))
    of_result (Err (Unexpected p)) us v h = v ∙ (ap (λ o. finish_verdict o q) h.0 ∙ ap (Fault f.Unexpected) (sym h.1))
    of_result (Err e) us v h = absurd h

pub out_of_memory : (bytes : List ℕ) → Outcome bytes (Err Memory)
out_of_memory bytes = let y = is_read start bytes in record { tokens = y.tokens; tail = y.tail; reads = y.reads; gives = tt; version = tt }

-- what ends is a script
ends_spelled : {bytes : List ℕ} {q : Place} {n v : ℕ} {s : g.Stage} → (c : Continues bytes [] (AtEnd q) n v s) → {ss : List g.Statement} → g.script_finish s ≡ Some ss → Spelled c.tokens (AtEnd q) ss
unfolding verdict
ends_spelled {q = q} c {ss = ss} e =
    let good : verdict 0 g.Opening c.tokens (AtEnd q) ≡ Good ss = c.same ∙ ap (λ o. finish_verdict o q) e in
    subst (λ v. Right v c.tokens (AtEnd q)) good (right_of c.tokens (AtEnd q))

-- it is sound
pub end_sound : {bytes bs : List ℕ} {p q : Place} {n v : ℕ} {s : g.Stage} → Goes bytes p bs n v s → Read p bs [] (AtEnd q) → (ss : List g.Statement) → g.script_finish s ≡ Some ss → are_sound is_written ss ≡ true
end_sound {q = q} goes x ss e =
    let c = goes [] (AtEnd q) x in
    let y = ends_spelled c e in
    script_sound is_written y.derives y.short (read_written c.reads)

-- and of a version of the language
pub end_known : {bytes bs : List ℕ} {p q : Place} {n v : ℕ} {s : g.Stage} → Goes bytes p bs n v s → Read p bs [] (AtEnd q) → (ss : List g.Statement) → g.script_finish s ≡ Some ss → g.is_known v ≡ true
end_known {q = q} {v = v} goes x ss e =
    let c = goes [] (AtEnd q) x in
    let y = ends_spelled c e in
    ap g.is_known (sym (c.told ∙ or_nothing v)) ∙ script_known y.derives
