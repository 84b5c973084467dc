-- What is given where facts are stated.
use Rattle.std.proofs.Common.{◌≡◌, Bool, true, false, ◌&&◌, if◌then◌else◌, ℤ, List, [], ◌∷◌, ◌++◌, Option, Some, None, option_map, IfSome, IfNone, refl, sym, ◌∙◌, ap, subst}
use Rattle.std.proofs.lemmas.Bool.{and_from, and_left, and_right}
use Rattle.std.proofs.lemmas.List.Folds.{list_all-append}
use Rattle.std.proofs.lemmas.Option.{same_Some}
use Rattle.pl_spec.specs.Rounding.{IsCell}
use Rattle.pl_spec.specs.World.{World}
use Rattle.pl_pipeline.specs.Table.{Pipeline}
use Rattle.pl_derivation.specs.Facts.{Fact, number_in}
use Rattle.pl_explain.specs.declared.fact_numbers.FactNumbers.{FactNumbers}
use Rattle.pl_explain.specs.Looking.{look}
use Rattle.pl_explain.specs.Given.{has, has_all, given, IsGiven, StatesTruth}

pub none-of : {X : Type 0} (o : Option X) → ((x : X) → o ≡ Some x → ⊥) → o ≡ None
none-of None h = refl
none-of (Some x) h = absurd (h x refl)

-- what holds of what an option holds
pub none-holds : {X P : Type 0} (o : Option X) → ((x : X) → o ≡ Some x → ⊥) → IfNone o P → P
none-holds None f h = h
none-holds (Some x) f h = absurd (f x refl)

pub some-holds : {X : Type 0} (P : X → Type 0) (o : Option X) (x : X) → o ≡ Some x → IfSome o P → P x
some-holds P o x e h = subst (λ p. IfSome p P) e h

pub as-read : {X : Type 0} {Such : X → Type 0} {stated : FactNumbers} {fs : List Fact} {v : X} {o q : Option X} → IsGiven Such stated fs v o → o ≡ q → IsGiven Such stated fs v q
as-read {X} {Such} {stated} {fs} {v} h is = subst (λ p. IsGiven Such stated fs v p) is h

module _ (stated : FactNumbers) where
  pub given-yes : {X : Type 0} (fs : List Fact) (x : X) → has_all stated fs ≡ true → given stated fs x ≡ Some x
  given-yes fs x h = rw h refl

  pub given-no : {X : Type 0} (fs : List Fact) (x : X) → has_all stated fs ≡ false → given stated fs x ≡ None
  given-no fs x h = rw h refl

  some-given : {X : Type 0} (b : Bool) (v x : X) → Some x ≡ (if b then Some v else None) → (b ≡ true) × (x ≡ v)
  some-given true v x e = (refl, same_Some x v e)
  some-given false v x e = absurd (let bad : Some x ≡ None = e in cc)

  none-given : {X : Type 0} (b : Bool) (v : X) → None ≡ (if b then Some v else None) → b ≡ false
  none-given true v e = absurd (let bad : None ≡ Some v = e in cc)
  none-given false v e = refl

  pub given-some : {X : Type 0} (fs : List Fact) (v x : X) (o : Option X) → o ≡ given stated fs v → o ≡ Some x → (has_all stated fs ≡ true) × (x ≡ v)
  given-some fs v x o e is = some-given (has_all stated fs) v x (sym is ∙ e)

  pub given-none : {X : Type 0} (fs : List Fact) (v : X) (o : Option X) → o ≡ given stated fs v → o ≡ None → has_all stated fs ≡ false
  given-none fs v o e is = none-given (has_all stated fs) v (sym is ∙ e)

  -- where one of some facts is not stated, nothing is given
  pub refused : {X : Type 0} {Such : X → Type 0} (fs gs : List Fact) (v : X) (o : Option X) → gs ≡ fs → has_all stated fs ≡ false → o ≡ None → IsGiven Such stated gs v o
  refused {X} {Such} fs gs v o e h is = record { value = is ∙ sym (given-no gs v (ap (has_all stated) e ∙ h)); such = subst (λ p. IfSome p Such) (sym is) tt }

  -- and where all are, all is
  pub accepted : {X : Type 0} {Such : X → Type 0} (fs gs : List Fact) (v x : X) → gs ≡ fs → has_all stated fs ≡ true → x ≡ v → Such x → IsGiven Such stated gs v (Some x)
  accepted fs gs v x e h is such = record { value = ap Some is ∙ sym (given-yes gs v (ap (has_all stated) e ∙ h)); such = such }

  module _ {X : Type 0} {Such : X → Type 0} {fs : List Fact} {v : X} where
    pub got : (o : Option X) (x : X) → IsGiven Such stated fs v o → o ≡ Some x → (has_all stated fs ≡ true) × (x ≡ v) × Such x
    got o x h is = let both = given-some fs v x o h.value is in (both.0, both.1, some-holds Such o x is h.such)

    pub lacked : (o : Option X) → IsGiven Such stated fs v o → o ≡ None → has_all stated fs ≡ false
    lacked o h is = given-none fs v o h.value is

    -- the same of what is read through a function
    module _ {Y : Type 0} (f : Y → X) (o : Option Y) (h : IsGiven Such stated fs v (option_map f o)) where
      pub lacked-by : o ≡ None → has_all stated fs ≡ false
      lacked-by is = lacked (option_map f o) h (ap (option_map f) is)

      pub read-as : (q : Option Y) → o ≡ q → IsGiven Such stated fs v (option_map f q)
      read-as q is = subst (λ p. IsGiven Such stated fs v (option_map f p)) is h

      -- what was read is lent
      pub lent : (y : Y) (x : X) → o ≡ Some y → x ≡ f y → IsGiven Such stated fs v (Some x)
      lent y x is e = subst (λ q. IsGiven Such stated fs v q) (ap (option_map f) is ∙ ap Some (sym e)) h

  -- ---- lists of facts in a row

  pub both-stated : (xs ys : List Fact) → has_all stated xs ≡ true → has_all stated ys ≡ true → has_all stated (xs ++ ys) ≡ true
  both-stated xs ys h i = list_all-append (has stated) xs ys ∙ and_from (has_all stated xs) (has_all stated ys) h i

  pub front-lacks : (xs ys : List Fact) → has_all stated xs ≡ false → has_all stated (xs ++ ys) ≡ false
  front-lacks xs ys h = list_all-append (has stated) xs ys ∙ and_left (has_all stated xs) (has_all stated ys) h

  pub back-lacks : (xs ys : List Fact) → has_all stated ys ≡ false → has_all stated (xs ++ ys) ≡ false
  back-lacks xs ys h = list_all-append (has stated) xs ys ∙ and_right (has_all stated xs) (has_all stated ys) h

  -- after facts that are stated, what is given rests on the others
  pub given-behind : {X : Type 0} (xs ys : List Fact) (v : X) → has_all stated xs ≡ true → given stated ys v ≡ given stated (xs ++ ys) v
  given-behind xs ys v h = ap (λ b. if b then Some v else None) (sym (list_all-append (has stated) xs ys ∙ ap (λ b. b && has_all stated ys) h))

  pub three-stated : (xs ys zs : List Fact) → has_all stated xs ≡ true → has_all stated ys ≡ true → has_all stated zs ≡ true → has_all stated (xs ++ ys ++ zs) ≡ true
  three-stated xs ys zs h i j = both-stated (xs ++ ys) zs (both-stated xs ys h i) j

  pub first-lacks : (xs ys zs : List Fact) → has_all stated xs ≡ false → has_all stated (xs ++ ys ++ zs) ≡ false
  first-lacks xs ys zs h = front-lacks (xs ++ ys) zs (front-lacks xs ys h)

  pub second-lacks : (xs ys zs : List Fact) → has_all stated ys ≡ false → has_all stated (xs ++ ys ++ zs) ≡ false
  second-lacks xs ys zs h = front-lacks (xs ++ ys) zs (back-lacks xs ys h)

  pub third-lacks : (xs ys zs : List Fact) → has_all stated zs ≡ false → has_all stated (xs ++ ys ++ zs) ≡ false
  third-lacks xs ys zs h = back-lacks (xs ++ ys) zs h

  -- ---- one fact

  pub has-some : (f : Fact) (x : ℤ) → look stated f ≡ Some x → has stated f ≡ true
  has-some f x e = rw e refl

  pub has-none : (f : Fact) → look stated f ≡ None → has stated f ≡ false
  has-none f e = rw e refl

  module _ (w : World) (p : Pipeline) (truth : StatesTruth w p stated) where
    pub stated-one : (f : Fact) (o : Option ℤ) → o ≡ look stated f → IsGiven IsCell stated (f ∷ []) (number_in w p f) o
    stated-one f o e = subst (λ q. IsGiven IsCell stated (f ∷ []) (number_in w p f) q) (sym e) (here (look stated f) refl)
      where
        here : (o : Option ℤ) → look stated f ≡ o → IsGiven IsCell stated (f ∷ []) (number_in w p f) o
        here None e = refused (f ∷ []) (f ∷ []) (number_in w p f) None refl (rw e refl) refl
        here (Some x) e = let true_cell = truth f x e in accepted (f ∷ []) (f ∷ []) (number_in w p f) x refl (rw e refl) true_cell.0 true_cell.1
