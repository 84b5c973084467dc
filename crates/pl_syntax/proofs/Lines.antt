-- The text of statements, one after another.
use Rattle.std.proofs.Common.{◌≡◌, ℕ, suc, ◌+◌, ◌<◌, ◌≤◌, true, List, [], ◌∷◌, ◌++◌, length, drop, get_or, refl, sym, ap, ◌∙◌, inl, inr, arith, append_assoc, append-nil, drop-cons}
use Rattle.std.specs.Prelude.{codes}
use Rattle.std.proofs.lemmas.Fmt.{decimal_digit}
use Rattle.std.proofs.lemmas.List.{drop_all}
use Rattle.std.specs.Fmt.{decimal}
use Rattle.pl_grammar.specs.Script.{is_known}
use Rattle.pl_grammar.proofs.Scripts.{version_cases}
use Rattle.pl_syntax.specs.Statements.{statement_of, statements_of}
use Rattle.pl_syntax.specs.Canonical.{statement_text, statements_text, version_text, script_text}
use Rattle.pl_syntax.specs.declared.script.Statement.{Statement}

abbrev pub lines_text : List Statement → List ℕ
lines_text xs = statements_text (statements_of xs)

one_line : (x : Statement) (xs : List Statement) → lines_text (x ∷ xs) ≡ statement_text (statement_of x) ++ lines_text xs
unfolding statements_text
one_line x xs = refl

no_line : lines_text [] ≡ []
unfolding statements_text
no_line = refl

-- the first line of each version
pub first_line : (n : ℕ) → is_known n ≡ true → (ds : List ℕ) → (n ≡ 1 → ds ≡ codes "pipeline 1;\n") → (n ≡ 2 → ds ≡ codes "pipeline 2;\n") → (n ≡ 3 → ds ≡ codes "pipeline 3;\n")
    → (n ≡ 4 → ds ≡ codes "pipeline 4;\n")
    → ds ≡ version_text n
unfolding version_text
first_line n h ds one two three four = elim (version_cases n h) [
  | inl e ↦ at 1 (omega arith) e (one e)
  | inr f ↦ elim f [ inl e ↦ at 2 (omega arith) e (two e) | inr g ↦ elim g [ inl e ↦ at 3 (omega arith) e (three e) | inr e ↦ at 4 (omega arith) e (four e) ] ]
]
  where
    at : (m : ℕ) → m < 10 → n ≡ m → ds ≡ codes "pipeline " ++ (((48 + m) ∷ []) ++ codes ";\n") → ds ≡ codes "pipeline " ++ (decimal n ++ codes ";\n")
    at m low e k = k ∙ ap (λ xs. codes "pipeline " ++ (xs ++ codes ";\n")) (sym (decimal_digit m low) ∙ ap decimal (sym e))

pub begun_lines : (n : ℕ) (xs ys : List Statement) (made out line : List ℕ) → xs ≡ ys → made ≡ [] → out ≡ made ++ line → line ≡ version_text n → out ++ lines_text xs ≡ script_text n (statements_of ys)
unfolding script_text
begun_lines n xs ys made out line e m k l = ap (λ z. z ++ lines_text xs) (k ∙ ap (λ z. z ++ line) m ∙ l) ∙ ap (λ z. version_text n ++ lines_text z) e

pub more_lines : (xs : List Statement) (i : ℕ) (x : Statement) (before after all : List ℕ) → i < length xs → x ≡ get_or xs i x → after ≡ before ++ statement_text (statement_of x) → before ++ lines_text (drop i xs) ≡ all → after ++ lines_text (drop (i + 1) xs) ≡ all
more_lines xs i x before after all h e t k =
    let n : suc i ≡ i + 1 = omega arith in
    let line : lines_text (drop i xs) ≡ statement_text (statement_of x) ++ lines_text (drop (i + 1) xs) = ap lines_text (drop-cons xs i x h) ∙ (ap (λ z. lines_text (z ∷ drop (suc i) xs)) (sym e) ∙ (ap (λ m. lines_text (x ∷ drop m xs)) n ∙ one_line x (drop (i + 1) xs))) in
    ap (λ z. z ++ lines_text (drop (i + 1) xs)) t ∙ (append_assoc before (statement_text (statement_of x)) (lines_text (drop (i + 1) xs)) ∙ (ap (λ z. before ++ z) (sym line) ∙ k))

pub ended_lines : (xs : List Statement) (i : ℕ) (out all : List ℕ) → length xs ≤ i → out ++ lines_text (drop i xs) ≡ all → out ≡ all
ended_lines xs i out all h k = sym (append-nil out) ∙ (ap (λ z. out ++ z) (sym (ap lines_text (drop_all i xs h) ∙ no_line)) ∙ k)
