-- Runs of a machine, joined and taken apart.
use Rattle.std.proofs.Common.{◌≡◌, ℕ, ◌≤◌, leb, List, [], ◌∷◌, ◌++◌, Option, Some, Result, Ok, Err, refl, ap, ◌∙◌}
use Rattle.std.proofs.lemmas.Bool.{le-leb, cond-true}
use Rattle.pl_grammar.specs.Tree.{Lexeme}
use Rattle.pl_grammar.specs.Machine.{Stop, allowed, then_run, run_by}

abbrev pub going : {S : Type 0} → S → Result S Stop
going s = Ok s

abbrev pub stopping : {S : Type 0} → Stop → Result S Stop
stopping e = Err e

pub same_ok : {S : Type 0} {s t : S} → going s ≡ going t → s ≡ t
same_ok h = cc

pub no_ok : {S : Type 0} {e : Stop} {s : S} → stopping e ≡ going s → ⊥
no_ok h = cc

pub run-append : {S : Type 0} (step : Lexeme → S → Result S Stop) (xs ys : List Lexeme) (s : S) → run_by step (xs ++ ys) s ≡ then_run (run_by step ys) (run_by step xs s)
unfolding run_by
run-append step [] ys s = refl
run-append {S} step (x ∷ xs) ys s = by_step (step x s) (run-append step xs ys)
  where
    by_step : (r : Result S Stop) → ((s : S) → run_by step (xs ++ ys) s ≡ then_run (run_by step ys) (run_by step xs s)) → then_run (run_by step (xs ++ ys)) r ≡ then_run (run_by step ys) (then_run (run_by step xs) r)
    by_step (Ok s) h = h s
    by_step (Err e) h = refl

pub run_on : {S : Type 0} (step : Lexeme → S → Result S Stop) (xs ys : List Lexeme) (s t : S) (r : Result S Stop) → run_by step xs s ≡ Ok t → run_by step ys t ≡ r → run_by step (xs ++ ys) s ≡ r
run_on step xs ys s t r h k = run-append step xs ys s ∙ (ap (then_run (run_by step ys)) h ∙ k)

pub run_step : {S : Type 0} (step : Lexeme → S → Result S Stop) (x : Lexeme) (ys : List Lexeme) (s t : S) (r : Result S Stop) → step x s ≡ Ok t → run_by step ys t ≡ r → run_by step (x ∷ ys) s ≡ r
unfolding run_by
run_step step x ys s t r h k = ap (then_run (run_by step ys)) h ∙ k

pub run_nil : {S : Type 0} (step : Lexeme → S → Result S Stop) (s : S) → run_by step [] s ≡ Ok s
unfolding run_by
run_nil step s = refl

pub allowed_some : {S : Type 0} (count : S → ℕ) (most : ℕ) (o : Option S) (t : S) → o ≡ Some t → count t ≤ most → allowed count most o ≡ Ok t
allowed_some count most o t h k = ap (allowed count most) h ∙ cond-true (leb (count t) most) _ _ (le-leb (count t) most k)

-- a run that goes on from an answer had that answer
pub bound_ok : {S : Type 0} (f : S → Result S Stop) (r : Result S Stop) (s : S) → then_run f r ≡ Ok s → (x : S) × (r ≡ Ok x) × (f x ≡ Ok s)
bound_ok f (Ok x) s h = (x, refl, h)
bound_ok f (Err e) s h = absurd (no_ok h)
