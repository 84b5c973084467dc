-- A line is judged right by what is stated where it is right after the lines that stated it.
use Rattle.std.proofs.Common.{◌≡◌, Bool, true, false, ◌&&◌, ◌||◌, if◌then◌else◌, ℤ, List, [], ◌∷◌, ◌++◌, Option, Some, None, is_some, refl, sym, ◌∙◌, ap, subst, inl, inr}
use Rattle.std.specs.List.{list_any, list_all}
use Rattle.std.specs.Option.{option_to_list}
use Rattle.std.proofs.Math.Path.{fun_ext}
use Rattle.std.proofs.Math.Bool.{or-true, or-false}
use Rattle.std.proofs.lemmas.Bool.{true≢false, and_parts, or_cases, or_left}
use Rattle.std.proofs.lemmas.List.Folds.{list_any-append}
use Rattle.pl_spec.specs.Rounding.{IsCell}
use Rattle.pl_spec.specs.World.{World as SpecWorld}
use Rattle.pl_pipeline.specs.Term.{IsGraph}
use Rattle.pl_pipeline.specs.Table.{Pipeline}
use Rattle.pl_cross.specs.Arrays.{HasTexts}
use Rattle.pl_derivation.specs.Lines.{Line}
use Rattle.pl_derivation.specs.Facts.{Fact, same_fact, number_in, premises}
use Rattle.pl_derivation.specs.Facts.Fact.{Seen, TermValue, SeenValue}
use Rattle.pl_derivation.specs.Right.{fact_of, is_stated, is_about, is_fitting, is_right, first_wrong}
use Rattle.pl_derivation.specs.Laws.{states_world}
use Rattle.pl_derivation.proofs.Truths.{same_is, same_turned}
use Rattle.pl_derivation.proofs.Standing.{right_is, repeat_is}
use Rattle.pl_terms.specs.Checked.{Parts, pipeline_of}
use Rattle.pl_world.specs.declared.world.World.{World}
use Rattle.pl_world.specs.Worlds.{world_of}
use Rattle.pl_explain.specs.declared.fact_numbers.FactNumbers.{FactNumbers}
use Rattle.pl_explain.specs.declared.rows.Rows.{Rows}
use Rattle.pl_explain.specs.Looking.{look, IsInsertionOf}
use Rattle.pl_explain.specs.Given.{has, has_all, KeepsRows}
use Rattle.pl_explain.specs.Judging.{judged_about, judged, IsJudgement, IsTable, StatesLine}

-- ---- judging

module _ (w : SpecWorld) (p : Pipeline) (known : HasTexts w) (ok : IsGraph p.graph) (stated : FactNumbers) (lines : List Line) (none : first_wrong w p lines ≡ None)
    (same : (f : Fact) → has stated f ≡ is_stated w lines f) where
  all-same : (fs : List Fact) → has_all stated fs ≡ list_all (is_stated w lines) fs
  all-same fs = ap (λ h. list_all h fs) (fun_ext same)

  anew : (l : Line) (f : Fact) → fact_of w l ≡ Some f → is_right w p lines l ≡ (is_fitting w p f && has_all stated (premises w p (number_in w p) f) && states_world w p l f)
  anew l f e = right_is w p known ok lines none l f e ∙ ap (λ b. is_fitting w p f && b && states_world w p l f) (sym (all-same (premises w p (number_in w p) f)))

  about : (l : Line) (f : Fact) → fact_of w l ≡ Some f → judged_about w p stated l (Some f) ≡ is_right w p lines l
  about l (Seen c a s d) e = sym (anew l (Seen c a s d) e)
  about l (SeenValue t a s d) e = sym (anew l (SeenValue t a s d) e)
  about l (TermValue t a d) e = here (has stated (TermValue t a d)) refl
    where
      here : (b : Bool) → has stated (TermValue t a d) ≡ b
          → (if b then states_world w p l (TermValue t a d)
          else is_fitting w p (TermValue t a d) && has_all stated (premises w p (number_in w p) (TermValue t a d)) && states_world w p l (TermValue t a d)) ≡ is_right w p lines l
      here true i = sym (repeat_is w p known ok lines none l (TermValue t a d) e (sym (same (TermValue t a d)) ∙ i))
      here false i = sym (anew l (TermValue t a d) e)

  pub judged-right : (l : Line) → judged w p stated l ≡ is_right w p lines l
  judged-right l = here (fact_of w l) refl
    where
      here : (o : Option Fact) → fact_of w l ≡ o → judged w p stated l ≡ is_right w p lines l
      here None e = rw e refl
      here (Some f) e = ap (judged_about w p stated l) e ∙ about l f e

-- what is stated after one line more
pub stated-behind : (w : SpecWorld) (old new : FactNumbers) (lines : List Line) (l : Line) → ((f : Fact) → has old f ≡ is_stated w lines f) → StatesLine w old new l → (f : Fact) → has new f ≡ is_stated w (lines ++ l ∷ []) f
stated-behind w old new lines l same more f =
    more f ∙ ap (λ b. b || is_about w f l) (same f) ∙ ap (λ b. is_stated w lines f || b) (sym (or-false (is_about w f l))) ∙ sym (list_any-append (is_about w f) lines (l ∷ []))

-- ---- telling

module _ (f : Fact) (x : ℤ) (old new : FactNumbers) (states : IsInsertionOf f x old new) where
  pub has-more : (g : Fact) → has new g ≡ (has old g || same_fact g f)
  has-more g = ap is_some (states g) ∙ ap (λ b. is_some (if b then Some x else look old g)) (same_turned f g) ∙ here (same_fact g f)
    where
      here : (b : Bool) → is_some (if b then Some x else look old g) ≡ (is_some (look old g) || b)
      here true = sym (or-true (is_some (look old g)))
      here false = sym (or-false (is_some (look old g)))

  pub kept-stated : (g : Fact) → has old g ≡ true → has new g ≡ true
  kept-stated g e = has-more g ∙ or_left (has old g) (same_fact g f) e

  kept-all : (gs : List Fact) → has_all old gs ≡ true → has_all new gs ≡ true
  kept-all [] e = refl
  kept-all (g ∷ gs) e = let both = and_parts (has old g) (has_all old gs) e in rw (kept-stated g both.0) (kept-all gs both.1)

  -- the line of the fact is stated
  pub states-line : (w : SpecWorld) (l : Line) → fact_of w l ≡ Some f → StatesLine w old new l
  states-line w l e g = has-more g ∙ ap (λ b. has old g || b) (sym (ap (λ o. list_any (same_fact g) (option_to_list o)) e ∙ or-false (same_fact g f)))

  pub table-more : (w : World) (c : Parts) (rows : Rows) → IsTable w c old rows → x ≡ number_in (world_of w) (pipeline_of c) f → IsCell x → is_fitting (world_of w) (pipeline_of c) f ≡ true → IsTable w c new rows
  table-more w c rows t is cell fits = record {
    ready = t.ready;
    truth = λ g y e. truth g y (same_fact f g) refl (sym (states g) ∙ e);
    fits = λ g e. elim (or_cases (has old g) (same_fact g f) (sym (has-more g) ∙ e)) [
      | inl h ↦ t.fits g h
      | inr h ↦ (let same : g ≡ f = same_is g f h in ap (is_fitting (world_of w) (pipeline_of c)) same ∙ fits)
    ];
    kept = λ u s row e. let k = t.kept u s row e in record { is = k.is; cells = k.cells; stand = λ n is. kept-all _ (k.stand n is) };
  }
    where
      truth : (g : Fact) (y : ℤ) (b : Bool) → same_fact f g ≡ b → (if b then Some x else look old g) ≡ Some y → (y ≡ number_in (world_of w) (pipeline_of c) g) × IsCell y
      truth g y true i e =
          let same : f ≡ g = same_is f g i in
          let value : x ≡ y = cc in
          (sym value ∙ is ∙ ap (number_in (world_of w) (pipeline_of c)) same, subst IsCell value cell)
      truth g y false i e = t.truth g y e

-- a line that is not right states nothing
pub not-right : (w : World) (c : Parts) (l : Line) (stated : FactNumbers) (rows : Rows) → IsTable w c stated rows → false ≡ judged (world_of w) (pipeline_of c) stated l → IsJudgement w c l stated stated rows false
not-right w c l stated rows table exact = record { exact = exact; table = table; stated = λ e. absurd (true≢false (sym e)) }

-- a line on a fact that is stated already states nothing
pub states-again : (w : SpecWorld) (stated : FactNumbers) (l : Line) (f : Fact) → fact_of w l ≡ Some f → has stated f ≡ true → StatesLine w stated stated l
states-again w stated l f e h g = here (same_fact g f) refl
  where
    about : (b : Bool) → same_fact g f ≡ b → list_any (same_fact g) (option_to_list (fact_of w l)) ≡ b
    about true i = rw (e, i) refl
    about false i = rw (e, i) refl

    here : (b : Bool) → same_fact g f ≡ b → has stated g ≡ (has stated g || list_any (same_fact g) (option_to_list (fact_of w l)))
    here true i = let stands = ap (has stated) (same_is g f i) ∙ h in stands ∙ sym (or_left (has stated g) _ stands)
    here false i = sym (ap (λ b. has stated g || b) (about false i) ∙ or-false (has stated g))

-- other rows that are kept
pub other-rows : (w : World) (c : Parts) (stated : FactNumbers) (old new : Rows) → IsTable w c stated old → KeepsRows w c stated new → IsTable w c stated new
other-rows w c stated old new t k = record { ready = t.ready; truth = t.truth; fits = t.fits; kept = k }
