-- Lists that are the same, places aside, compared one after another.
use Rattle.std.proofs.Common.{◌≡◌, ◌↔◌, ℕ, suc, ◌+◌, ◌-◌, ◌<◌, ◌≤◌, Bool, true, false, List, [], ◌∷◌, length, drop, take, get_or, refl, sym, ap, ◌∙◌, subst, arith, drop-cons}
use Rattle.std.specs.Prelude.{◌==◌}
use Rattle.std.proofs.lemmas.Bool.Decides.{nat_tests}
use Rattle.std.proofs.lemmas.List.{drop_all}
use Rattle.pl_grammar.specs.Machine as m
use Rattle.pl_grammar.specs.Places.{bare, bare_args}
use Rattle.pl_grammar.specs.Whole.{bare_statement, bare_script}
use Rattle.pl_syntax.specs.Frames.{args_list}
use Rattle.pl_syntax.specs.Plain.{plain, args_tree}
use Rattle.pl_syntax.specs.Rows.{args_of}
use Rattle.pl_syntax.specs.Statements.{statement_of, statements_of}
use Rattle.pl_syntax.specs.declared.tree.Arg.{Arg}
use Rattle.pl_syntax.specs.declared.tree.ArgList.{ArgList}
use Rattle.pl_syntax.specs.declared.script.Statement.{Statement}
use Rattle.pl_syntax.proofs.Pushed.{list_tree}

-- R holds of lists that are as long as each other and whose items S holds of, one by one
pub record IsPairwise {A : Type 0} (S : A → A → Type 0) (R : List A → List A → Type 0) : Type 0 where
  pub none : R [] []
  pub longer : (y : A) (ys : List A) → R [] (y ∷ ys) → ⊥
  pub shorter : (x : A) (xs : List A) → R (x ∷ xs) [] → ⊥
  pub both : (x y : A) (xs ys : List A) → R (x ∷ xs) (y ∷ ys) ↔ (S x y × R xs ys)

whole : {A : Type 0} (y : A) (ys : List A) → take (length (y ∷ ys) - 1) (drop 1 (y ∷ ys)) ≡ ys
whole {A} y ys = let n : length (y ∷ ys) - 1 ≡ length ys = omega arith in ap (λ k. take k ys) n ∙ all ys
  where
    all : (ys : List A) → take (length ys) ys ≡ ys
    all [] = refl
    all (y ∷ ys) = ap (λ z. y ∷ z) (all ys)

unequal : false ≡ true → ⊥
unequal e = cc

some_length : {A : Type 0} (y : A) (ys : List A) → (length (y ∷ ys) == 0) ≡ false
some_length y ys = grind (arith, nat_tests)

pub never : {P : Type 0} → (P → ⊥) → (false ≡ true) ↔ P
never f = (λ e. absurd (unequal e), λ p. absurd (f p))

module _ {A : Type 0} {S : A → A → Type 0} {R : List A → List A → Type 0} (r : IsPairwise S R) where
  -- at item i of the first list, where the second is still to be compared
  split : (xs ys : List A) (i : ℕ) (x y : A) → i < length xs → x ≡ get_or xs i x → 1 ≤ length ys → y ≡ get_or ys 0 y → R (drop i xs) ys ↔ (S x y × R (drop (i + 1) xs) (take (length ys - 1) (drop 1 ys)))
  split xs [] i x y h e k f = absurd (omega arith)
  split xs (z ∷ ys) i x y h e k f =
      let n : suc i ≡ i + 1 = omega arith in
      let d : drop i xs ≡ x ∷ drop (i + 1) xs = drop-cons xs i x h ∙ (ap (λ z. z ∷ drop (suc i) xs) (sym e) ∙ ap (λ m. x ∷ drop m xs) n) in
      let w = whole z ys in
      let b = r.both x z (drop (i + 1) xs) ys in (
        λ g. (let p = b.0 (subst (λ l. R l (z ∷ ys)) d g) in (subst (S x) (sym f) p.0, subst (R (drop (i + 1) xs)) (sym w) p.1)),
        λ g. subst (λ l. R l (z ∷ ys)) (sym d) (b.1 (subst (S x) f g.0, subst (R (drop (i + 1) xs)) w g.1)),
      )

  pub next : {P : Type 0} (xs : List A) {ys : List A} {i : ℕ} {x y : A} → i < length xs → x ≡ get_or xs i x → 1 ≤ length ys → y ≡ get_or ys 0 y → P ↔ R (drop i xs) ys → S x y → P ↔ R (drop (i + 1) xs) (take (length ys - 1) (drop 1 ys))
  next xs {ys = ys} {i = i} {x = x} {y = y} h e k f p s = let b = split xs ys i x y h e k f in (λ g. (b.0 (p.0 g)).1, λ g. p.1 (b.1 (s, g)))

  pub apart : {P : Type 0} (xs : List A) {ys : List A} {i : ℕ} {x y : A} {b : Bool} → i < length xs → x ≡ get_or xs i x → 1 ≤ length ys → y ≡ get_or ys 0 y → P ↔ R (drop i xs) ys → (b ≡ true) ↔ S x y → b ≡ false → (false ≡ true) ↔ P
  apart xs {ys = ys} {i = i} {x = x} {y = y} h e k f p s n = never (λ g. unequal (sym n ∙ s.1 ((split xs ys i x y h e k f).0 (p.0 g)).0))

  pub short : {P : Type 0} (xs : List A) {ys : List A} {i : ℕ} {x : A} → i < length xs → x ≡ get_or xs i x → length ys < 1 → P ↔ R (drop i xs) ys → (false ≡ true) ↔ P
  short xs {ys = []} {i = i} {x = x} h e k p = never (λ g. r.shorter (get_or xs i x) (drop (suc i) xs) (subst (λ l. R l []) (drop-cons xs i x h) (p.0 g)))
  short xs {ys = y ∷ ys} h e k p = absurd (omega arith)

  pub ended : {P : Type 0} (xs : List A) {ys : List A} {i : ℕ} {b : Bool} → length xs ≤ i → b ≡ (length ys == 0) → P ↔ R (drop i xs) ys → (b ≡ true) ↔ P
  ended xs {ys = []} {i = i} h e p = (λ g. p.1 (subst (λ l. R l []) (sym (drop_all i xs h)) r.none), λ g. e)
  ended {P = P} xs {ys = y ∷ ys} {i = i} h e p = subst (λ z. (z ≡ true) ↔ P) (sym (e ∙ some_length y ys)) (never (λ g. r.longer y ys (subst (λ l. R l (y ∷ ys)) (drop_all i xs h) (p.0 g))))

-- arguments

abbrev pub SameArg : Arg → Arg → Type 0
SameArg x y = (x.name ≡ y.name) × (bare (plain x.expr) ≡ bare (plain y.expr))

abbrev pub SameArgs : List Arg → List Arg → Type 0
SameArgs xs ys = bare_args (m.args_of (args_list xs)) ≡ bare_args (m.args_of (args_list ys))

pub args_pairwise : IsPairwise SameArg SameArgs
unfolding bare
args_pairwise = record {
  none = refl;
  longer = λ y ys h. cc;
  shorter = λ x xs h. cc;
  both = λ x y xs ys. (λ h. ((cc, cc), cc), λ h. cc);
}

pub begun_args : (a b : ArgList) {xs ys : List Arg} → xs ≡ args_of a → ys ≡ args_of b → (bare_args (args_tree a) ≡ bare_args (args_tree b)) ↔ SameArgs xs ys
begun_args a b {xs = xs} {ys = ys} e f =
    let x : bare_args (args_tree a) ≡ bare_args (m.args_of (args_list xs)) = ap bare_args (list_tree a ∙ ap (λ z. m.args_of (args_list z)) (sym e)) in
    let y : bare_args (args_tree b) ≡ bare_args (m.args_of (args_list ys)) = ap bare_args (list_tree b ∙ ap (λ z. m.args_of (args_list z)) (sym f)) in
    (λ h. sym x ∙ (h ∙ y), λ h. x ∙ (h ∙ sym y))

-- statements

abbrev pub SameStatement : Statement → Statement → Type 0
SameStatement x y = bare_statement (statement_of x) ≡ bare_statement (statement_of y)

abbrev pub SameStatements : List Statement → List Statement → Type 0
SameStatements xs ys = bare_script (statements_of xs) ≡ bare_script (statements_of ys)

pub statements_pairwise : IsPairwise SameStatement SameStatements
unfolding bare_script
statements_pairwise = record {
  none = refl;
  longer = λ y ys h. cc;
  shorter = λ x xs h. cc;
  both = λ x y xs ys. (λ h. (cc, cc), λ h. cc);
}
