-- A typed script has a term that is a number beside bars exactly where it calls `number`.
use Rattle.std.proofs.Common.{◌≡◌, ℕ, zero, suc, ◌<◌, Bool, true, false, ◌||◌, List, [], ◌∷◌, ◌++◌, length, get_or, Ok, refl, sym, ap, ◌∙◌, arith, inl, inr}
use Rattle.std.specs.Prelude.{◌↔◌, IsSome}
use Rattle.std.specs.List.{list_any}
use Rattle.std.proofs.lemmas.List.Folds.{list_any-append}
use Rattle.std.proofs.lemmas.Result.{IfOk-at_ok}
use Rattle.pl_pipeline.specs.Kind as kind
use Rattle.pl_pipeline.specs.Kind.{Kind}
use Rattle.pl_pipeline.specs.Term.{Term, node, Graph, tree_over, trees_after}
use Rattle.pl_check.specs.Numbered.{Call, statement_calls, is_number, first_place, first_number, HasNumber, NumbersAreCalled}
use Rattle.pl_check.specs.Numbering.{AreFirsts}
use Rattle.pl_check.proofs.Extended.{is_beside, speaks, or-none, or-both, or-turned, any-at, asks, script-speaks}
use Rattle.pl_check.proofs.Agreed.{agrees-where}

-- ---- the trees that are numbers beside bars

abbrev beside : Term → Bool
beside (node k window x y z mask group) = is_beside k
beside t = false

any-more : (ts : List Term) (t : Term) (b : Bool) → (list_any beside (ts ++ t ∷ []) || b) ≡ (list_any beside ts || (beside t || b))
any-more ts t b = ap (λ c. c || b) (list_any-append beside ts (t ∷ []) ∙ ap (λ c. list_any beside ts || c) (sym (or-none (beside t)))) ∙ or-both (list_any beside ts) (beside t) b

-- a graph has as many as its trees
trees-speak : (ts : List Term) (g : Graph) → list_any beside (trees_after ts g) ≡ (list_any beside ts || speaks g)
trees-speak ts [] = or-none (list_any beside ts)
trees-speak ts (n ∷ ns) = trees-speak (ts ++ tree_over ts n ∷ []) ns ∙ any-more ts (tree_over ts n) (speaks ns)

any-there : (ts : List Term) (k : ℕ) (t : Term) → k < length ts → beside (get_or ts k t) ≡ true → list_any beside ts ≡ true
any-there [] k t l e = absurd (omega arith)
any-there (u ∷ us) zero t l e = ap (λ b. b || list_any beside us) e
any-there (u ∷ us) (suc k) t l e = ap (λ b. beside u || b) (any-there us k t (omega arith) e) ∙ or-turned (beside u) true

-- of equal trees only the first: there is one where there was one
firsts-speak : (seen ts once : List Term) → AreFirsts seen ts once → list_any beside once ≡ (list_any beside seen || list_any beside ts)
firsts-speak seen [] once h = ap (list_any beside) h ∙ or-none (list_any beside seen)
firsts-speak seen (t ∷ ts) once (inl h) =
    firsts-speak seen ts once h.1 ∙ ap (λ b. b || list_any beside ts) (here (beside t) refl) ∙ or-both (list_any beside seen) (beside t) (list_any beside ts)
  where
    here : (b : Bool) → beside t ≡ b → list_any beside seen ≡ (list_any beside seen || beside t)
    here true e = any-there seen h.0.0 t h.0.1 (ap beside h.0.2 ∙ e) ∙ sym (ap (λ b. list_any beside seen || b) e ∙ or-turned (list_any beside seen) true)
    here false e = or-none (list_any beside seen) ∙ sym (ap (λ b. list_any beside seen || b) e)
firsts-speak seen (t ∷ ts) once (inr h) = firsts-speak (seen ++ t ∷ []) ts once h.1 ∙ any-more seen t (list_any beside ts)

-- ---- the law

asked-first : (cs : List Call) → IsSome (first_place cs) ↔ (asks cs ≡ true)
asked-first [] = (λ h. h, λ e. e)
asked-first (c ∷ cs) = here (is_number c) refl (asked-first cs)
  where
    here : (b : Bool) → is_number c ≡ b → IsSome (first_place cs) ↔ (asks cs ≡ true) → IsSome (first_place (c ∷ cs)) ↔ (asks (c ∷ cs) ≡ true)
    here true e w = rw e (λ h. refl, λ h. refl)
    here false e w = rw e w

has-number : (g : Graph) → speaks g ≡ true → HasNumber g
has-number [] e = absurd (let no : false ≡ true = e in cc)
has-number (n ∷ ns) e = here n.kind refl (λ q. has-number ns q)
  where
    later : HasNumber ns → HasNumber (n ∷ ns)
    later w = (suc w.0, w.1, w.2, w.3, w.4, w.5)

    here : (k : Kind) → n.kind ≡ k → (speaks ns ≡ true → HasNumber ns) → HasNumber (n ∷ ns)
    here (kind.Number f m) q more = (0, m, f, n, refl, q)
    here k q more = later (more (sym (ap (λ x. is_beside x || speaks ns) q) ∙ e))

number-has : (g : Graph) → HasNumber g → speaks g ≡ true
number-has g w = any-at g w.0 w.3 w.4 (ap is_beside w.5)

pub numbers-called : NumbersAreCalled
unfolding first_number
numbers-called s p h =
    let a = agrees-where s (Ok p) h in
    let e : speaks p.graph ≡ asks (statement_calls s.statements) =
    sym (trees-speak [] p.graph) ∙ firsts-speak [] (trees_after [] a.0.graph) (trees_after [] p.graph) a.2.terms ∙ trees-speak [] a.0.graph ∙ IfOk-at_ok _ a.1 (script-speaks s)
    ∙ sym (or-none (asks (statement_calls s.statements))) in
    let f = asked-first (statement_calls s.statements) in
    (λ x. has-number p.graph (e ∙ f.0 x), λ x. f.1 (sym e ∙ number-has p.graph x))
