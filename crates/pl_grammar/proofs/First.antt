-- The verdict is the script that the tokens spell, or their first fault.
use Rattle.std.proofs.Common.{◌≡◌, ℕ, ◌≤◌, ◌<◌, Bool, true, false, cond, leb, List, [], ◌∷◌, ◌++◌, Option, Some, None, Result, Ok, Err, refl, sym, ap, subst, ◌∙◌, arith, append_assoc, append-nil, leb-false}
use Rattle.std.proofs.lemmas.Bool.{le-leb, leb-true, cond-false, cond-true, lt-leb}
use Rattle.pl_grammar.specs.declared.Place.{Place}
use Rattle.pl_grammar.specs.Tree.{Lexeme, mark, Semicolon}
use Rattle.pl_grammar.specs.Machine.{Stop, Stuck, Deep, allowed, then_run, run_by}
use Rattle.pl_grammar.specs.Script.{Statement, Script, Viable, Stage, Opening, Between, script_move, stage_depth, script_step, script_run, script_finish}
use Rattle.pl_grammar.specs.Faults.{Tail, AtEnd, AtBad, Kind, NumberTooLarge, LongStatement, place_of, most_depth, most_tokens, too_large, counted, since, IsShort, IsFine, Never, IsFault, is_long, is_large, is_unexpected, is_deep, IsFirst, at_bad, at_end, at_token, Spelled, Verdict, Good, Fault, finish_verdict, end_verdict, step_verdict, verdict}
use Rattle.pl_grammar.proofs.Runs.{stopping, same_ok, no_ok, run_on, bound_ok}
use Rattle.pl_grammar.proofs.ScriptRead.{script_viable, viable_script, script_reads, script_derives}
use Rattle.pl_grammar.proofs.Judged.{stuck_never, deep_viable, unfinished}

same_stop : {a b : Stop} → stopping {S = Stage} a ≡ stopping b → a ≡ b
same_stop h = cc

-- the counts never pass the limit
since_most : (n : ℕ) (ts : List Lexeme) → n ≤ most_tokens → IsShort n ts → since n ts ≤ most_tokens
unfolding since IsShort
since_most n [] h k = h
since_most n (t ∷ ts) h k = since_most (counted n t) ts (counted_most n t k.0) k.2
  where
    counted_most : (n : ℕ) (t : Lexeme) → n < most_tokens → counted n t ≤ most_tokens
    counted_most n (mark p Semicolon) lt = omega arith
    counted_most n (mark p t) lt = omega arith

-- one more token in front

since-append : (n : ℕ) (xs ys : List Lexeme) → since n (xs ++ ys) ≡ since (since n xs) ys
unfolding since
since-append n [] ys = refl
since-append n (x ∷ xs) ys = since-append (counted n x) xs ys

since-last : (xs : List Lexeme) (t : Lexeme) → since 0 (xs ++ (t ∷ [])) ≡ counted (since 0 xs) t
unfolding since
since-last xs t = since-append 0 xs (t ∷ [])

short-append : (n : ℕ) (xs : List Lexeme) (t : Lexeme) → IsShort n xs → since n xs < most_tokens → too_large t ≡ false → IsShort n (xs ++ (t ∷ []))
unfolding since IsShort
short-append n [] t h lt l = (lt, l, tt)
short-append n (x ∷ xs) t h lt l = (h.0, h.1, short-append (counted n x) xs t h.2 lt l)

run_more : (ts : List Lexeme) (t : Lexeme) (s x : Stage) → script_run most_depth ts Opening ≡ Ok s → script_step most_depth t s ≡ Ok x → script_run most_depth (ts ++ (t ∷ [])) Opening ≡ Ok x
unfolding run_by
run_more ts t s x h k = run_on (script_step most_depth) ts (t ∷ []) Opening s (Ok x) h (ap (then_run (script_run most_depth [])) k)

-- what a step's refusal says

abbrev Refused : List Lexeme → Lexeme → Stop → Type 0
Refused front t Stuck = Never (front ++ (t ∷ []))
Refused front t Deep = ((d : ℕ) × Viable d (front ++ (t ∷ []))) × (Viable most_depth (front ++ (t ∷ [])) → ⊥)

refused : (front : List Lexeme) (t : Lexeme) (s : Stage) (e : Stop) → script_run most_depth front Opening ≡ Ok s → script_step most_depth t s ≡ Err e → Refused front t e
refused front t s e h k = of_move (script_move t s) refl k
  where
    by_test : (x : Stage) → script_move t s ≡ Some x → (b : Bool) → leb (stage_depth x) most_depth ≡ b → cond b (Ok x) (Err Deep) ≡ Err e → Refused front t e
    by_test x m true q k = absurd (no_ok (sym k))
    by_test x m false q k = subst (λ z. Refused front t z) (same_stop k) (deep_viable most_depth front t s x h m (leb-false (stage_depth x) most_depth q))

    of_move : (o : Option Stage) → script_move t s ≡ o → allowed stage_depth most_depth o ≡ Err e → Refused front t e
    of_move (Some x) m k = by_test x m (leb (stage_depth x) most_depth) refl k
    of_move None m k = subst (λ z. Refused front t z) (same_stop k) (stuck_never most_depth front t s h m)

fine : (ts : List Lexeme) (s : Stage) → script_run most_depth ts Opening ≡ Ok s → IsShort 0 ts → IsFine ts
fine ts s h k = record { viable = script_viable most_depth ts s h; short = k }

-- the verdict's own fault is the first

abbrev pub Right : Verdict → List Lexeme → Tail → Type 0
Right (Good ss) ts tail = Spelled ts tail ss
Right (Fault k p) ts tail = IsFirst ts tail k p

right_end : (ts : List Lexeme) (s : Stage) (tail : Tail) → script_run most_depth ts Opening ≡ Ok s → IsShort 0 ts → Right (end_verdict s tail) ts tail
right_end ts s (AtBad p) h k = at_bad (fine ts s h k)
right_end ts s (AtEnd p) h k = of_finish (script_finish s) refl
  where
    of_finish : (o : Option (List Statement)) → script_finish s ≡ o → Right (finish_verdict o p) ts (AtEnd p)
    of_finish (Some ss) e = record { end = p; ended = refl; short = k; derives = script_derives most_depth ts s ss h e }
    of_finish None e = at_end (fine ts s h k) (unfinished most_depth ts s h e)

pub right : (ts : List Lexeme) (tail : Tail) (front : List Lexeme) (s : Stage) → script_run most_depth front Opening ≡ Ok s → IsShort 0 front → Right (verdict (since 0 front) s ts tail) (front ++ ts) tail
unfolding verdict
right [] tail front s h k = subst (λ z. Right (end_verdict s tail) z tail) (sym (append-nil front)) (right_end front s tail h k)
right (t ∷ ts) tail front s h k =
    by_length (leb most_tokens (since 0 front)) refl (λ lt. by_number (too_large t) refl lt (λ lt l. by_step (script_step most_depth t s) refl lt l (λ x e. onwards x (right ts tail (front ++ (t ∷ [])) x (run_more front t s x h e) (short-append 0 front t k lt l)))))
  where
    onwards : (x : Stage) → Right (verdict (since 0 (front ++ (t ∷ []))) x ts tail) ((front ++ (t ∷ [])) ++ ts) tail → Right (verdict (counted (since 0 front) t) x ts tail) (front ++ (t ∷ ts)) tail
    onwards x r = subst (λ n. Right (verdict n x ts tail) (front ++ (t ∷ ts)) tail) (since-last front t) (subst (λ z. Right (verdict (since 0 (front ++ (t ∷ []))) x ts tail) z tail) (append_assoc front (t ∷ []) ts) r)

    by_step : (r : Result Stage Stop) → script_step most_depth t s ≡ r → since 0 front < most_tokens → too_large t ≡ false → ((x : Stage) → script_step most_depth t s ≡ Ok x → Right (verdict (counted (since 0 front) t) x ts tail) (front ++ (t ∷ ts)) tail) → Right (step_verdict (place_of t) r (λ s. verdict (counted (since 0 front) t) s ts tail)) (front ++ (t ∷ ts)) tail
    by_step (Ok x) e lt l f = f x e
    by_step (Err Stuck) e lt l f = at_token front t ts (fine front s h k) (is_unexpected lt l (refused front t s Stuck h e))
    by_step (Err Deep) e lt l f = let r = refused front t s Deep h e in at_token front t ts (fine front s h k) (is_deep lt l r.0.0 r.0.1 r.1)

    by_number : (b : Bool) → too_large t ≡ b → since 0 front < most_tokens → (since 0 front < most_tokens → too_large t ≡ false → Right (step_verdict (place_of t) (script_step most_depth t s) (λ s. verdict (counted (since 0 front) t) s ts tail)) (front ++ (t ∷ ts)) tail) → Right (cond b (Fault NumberTooLarge (place_of t)) (step_verdict (place_of t) (script_step most_depth t s) (λ s. verdict (counted (since 0 front) t) s ts tail))) (front ++ (t ∷ ts)) tail
    by_number true e lt f = at_token front t ts (fine front s h k) (is_large lt e)
    by_number false e lt f = f lt e

    by_length : (b : Bool) → leb most_tokens (since 0 front) ≡ b → (since 0 front < most_tokens → Right (cond (too_large t) (Fault NumberTooLarge (place_of t)) (step_verdict (place_of t) (script_step most_depth t s) (λ s. verdict (counted (since 0 front) t) s ts tail))) (front ++ (t ∷ ts)) tail) → Right (cond b (Fault LongStatement (place_of t)) (cond (too_large t) (Fault NumberTooLarge (place_of t)) (step_verdict (place_of t) (script_step most_depth t s) (λ s. verdict (counted (since 0 front) t) s ts tail)))) (front ++ (t ∷ ts)) tail
    by_length true e f = at_token front t ts (fine front s h k) (is_long (omega (arith, since_most 0 front (omega arith) k, leb-true most_tokens (since 0 front) e)))
    by_length false e f = f (leb-false most_tokens (since 0 front) e)

-- what is spelled, and what is the first fault, is the verdict

-- over fine tokens the verdict goes on
goes_over : (front rest : List Lexeme) (tail : Tail) (n : ℕ) (a s : Stage) → script_run most_depth front a ≡ Ok s → IsShort n front → verdict n a (front ++ rest) tail ≡ verdict (since n front) s rest tail
unfolding run_by IsShort since verdict
goes_over [] rest tail n a s h k = ap (λ z. verdict n z rest tail) (same_ok h)
goes_over (t ∷ front) rest tail n a s h k =
    let b = bound_ok (script_run most_depth front) (script_step most_depth t a) s h in
    cond-false (leb most_tokens n) _ _ (lt-leb most_tokens n k.0)
    ∙ (cond-false (too_large t) _ _ k.1
    ∙ (ap (λ r. step_verdict (place_of t) r (λ s. verdict (counted n t) s (front ++ rest) tail)) b.1
    ∙ goes_over front rest tail (counted n t) b.0 s b.2 k.2))

pub spelled_only : (ts : List Lexeme) (tail : Tail) (ss : List Statement) → Spelled ts tail ss → verdict 0 Opening ts tail ≡ Good ss
unfolding verdict
spelled_only ts tail ss x =
    ap (λ z. verdict 0 Opening z tail) (sym (append-nil ts))
    ∙ (goes_over ts [] tail 0 Opening (Between ss) (script_reads x.derives) x.short
    ∙ ap (end_verdict (Between ss)) x.ended)

unended : (ts : List Lexeme) (s : Stage) → script_run most_depth ts Opening ≡ Ok s → ((d : ℕ) (ss : List Statement) → Script d ts ss → ⊥) → script_finish s ≡ None
unended ts s h none = of_finish (script_finish s) refl
  where
    of_finish : (o : Option (List Statement)) → script_finish s ≡ o → o ≡ None
    of_finish (Some ss) e = absurd (none most_depth ss (script_derives most_depth ts s ss h e))
    of_finish None e = refl

stuck_there : (front : List Lexeme) (t : Lexeme) (s : Stage) → script_run most_depth front Opening ≡ Ok s → Never (front ++ (t ∷ [])) → script_step most_depth t s ≡ Err Stuck
stuck_there front t s h never = of_step (script_step most_depth t s) refl
  where
    of_step : (r : Result Stage Stop) → script_step most_depth t s ≡ r → r ≡ Err Stuck
    of_step (Ok x) e = absurd (never most_depth (script_viable most_depth (front ++ (t ∷ [])) x (run_more front t s x h e)))
    of_step (Err Stuck) e = refl
    of_step (Err Deep) e = let r = refused front t s Deep h e in absurd (never r.0.0 r.0.1)

deep_there : (front : List Lexeme) (t : Lexeme) (s : Stage) → script_run most_depth front Opening ≡ Ok s → (d : ℕ) → Viable d (front ++ (t ∷ [])) → (Viable most_depth (front ++ (t ∷ [])) → ⊥) → script_step most_depth t s ≡ Err Deep
deep_there front t s h d v none = of_step (script_step most_depth t s) refl
  where
    of_step : (r : Result Stage Stop) → script_step most_depth t s ≡ r → r ≡ Err Deep
    of_step (Ok x) e = absurd (none (script_viable most_depth (front ++ (t ∷ [])) x (run_more front t s x h e)))
    of_step (Err Stuck) e = absurd (refused front t s Stuck h e d v)
    of_step (Err Deep) e = refl

at_fault : (front : List Lexeme) (t : Lexeme) (rest : List Lexeme) (tail : Tail) (k : Kind) (s : Stage) → script_run most_depth front Opening ≡ Ok s → IsFault front t k → verdict (since 0 front) s (t ∷ rest) tail ≡ Fault k (place_of t)
unfolding verdict
at_fault front t rest tail _ s h (is_long e) = cond-true (leb most_tokens (since 0 front)) _ _ (le-leb most_tokens (since 0 front) (omega (arith, e)))
at_fault front t rest tail _ s h (is_large lt e) = cond-false (leb most_tokens (since 0 front)) _ _ (lt-leb most_tokens (since 0 front) lt) ∙ cond-true (too_large t) _ _ e
at_fault front t rest tail _ s h (is_unexpected lt e never) =
    cond-false (leb most_tokens (since 0 front)) _ _ (lt-leb most_tokens (since 0 front) lt) ∙ (cond-false (too_large t) _ _ e
    ∙ ap (λ r. step_verdict (place_of t) r (λ s. verdict (counted (since 0 front) t) s rest tail)) (stuck_there front t s h never))
at_fault front t rest tail _ s h (is_deep lt e d v none) =
    cond-false (leb most_tokens (since 0 front)) _ _ (lt-leb most_tokens (since 0 front) lt) ∙ (cond-false (too_large t) _ _ e
    ∙ ap (λ r. step_verdict (place_of t) r (λ s. verdict (counted (since 0 front) t) s rest tail)) (deep_there front t s h d v none))

pub first_only : {ts : List Lexeme} {tail : Tail} {k : Kind} {p : Place} → IsFirst ts tail k p → verdict 0 Opening ts tail ≡ Fault k p
unfolding verdict
first_only (at_bad {ts = ts} {p = p} good) =
    let r = viable_script most_depth ts good.viable in
    ap (λ z. verdict 0 Opening z (AtBad p)) (sym (append-nil ts)) ∙ goes_over ts [] (AtBad p) 0 Opening r.0 r.1 good.short
first_only (at_end {ts = ts} {p = p} good none) =
    let r = viable_script most_depth ts good.viable in
    ap (λ z. verdict 0 Opening z (AtEnd p)) (sym (append-nil ts)) ∙ (goes_over ts [] (AtEnd p) 0 Opening r.0 r.1 good.short
    ∙ ap (λ o. finish_verdict o p) (unended ts r.0 r.1 none))
first_only (at_token front t rest {tail = tail} {k = k} good fault) =
    let r = viable_script most_depth front good.viable in
    goes_over front (t ∷ rest) tail 0 Opening r.0 r.1 good.short ∙ at_fault front t rest tail k r.0 r.1 fault

pub right_of : (ts : List Lexeme) (tail : Tail) → Right (verdict 0 Opening ts tail) ts tail
unfolding since run_by IsShort
right_of ts tail = right ts tail [] Opening refl tt
