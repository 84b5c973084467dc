-- After right lines, what the lines tell of the premises is what the world has.
use Rattle.std.proofs.Common.{◌≡◌, Bool, true, false, ◌&&◌, List, [], ◌∷◌, ◌++◌, Some, None, refl, sym, ◌∙◌, ap, inl, inr, append_assoc, append-nil}
use Rattle.std.specs.List.{list_all}
use Rattle.std.specs.Option.{option_eq}
use Rattle.std.specs.Ordering.{int_eq}
use Rattle.std.proofs.lemmas.Bool.{true≢false, or_cases, or_left}
use Rattle.std.proofs.lemmas.List.Folds.{list_any-append}
use Rattle.std.specs.Cmp.{both_ways}
use Rattle.pl_spec.specs.World.{World}
use Rattle.pl_pipeline.specs.Term.{IsGraph}
use Rattle.pl_pipeline.specs.Table.{Pipeline}
use Rattle.pl_derivation.specs.Facts.{Fact, Reading, number_in, known_day, premises, single_step}
use Rattle.pl_derivation.specs.Facts.Fact.{Seen}
use Rattle.pl_derivation.specs.Lines.{Line}
use Rattle.pl_derivation.specs.Right.{fact_of, is_about, is_stated, reading_of, is_fitting, states_step, is_right_about, is_right, wrong_behind, first_wrong}
use Rattle.pl_derivation.specs.Lines.Line.{SeenLine, ValueLine, SeenValueLine}
use Rattle.pl_cross.specs.Arrays.{HasTexts}
use Rattle.pl_derivation.specs.Laws.{states_world}
use Rattle.pl_spec.proofs.Each.{Each, each_both, each_more, each_list_all, list_all_each}
use Rattle.pl_derivation.proofs.Steps.{fact_same}
use Rattle.pl_derivation.proofs.Codes.{step_true}
use Rattle.pl_derivation.proofs.Truths.{and3, fact_is, States, stated_true, right_states, no_map, none_wrong}

and3_from : (x y z : Bool) → x ≡ true → y ≡ true → z ≡ true → (x && y && z) ≡ true
and3_from x y z h i j = rw (h, i, j) refl

module _ (w : World) (p : Pipeline) (known : HasTexts w) (ok : IsGraph p.graph) where
  step_alike : (r : Reading) (l : Line) (f : Fact) → single_step w p r f ≡ number_in w p f → states_step w p r l f ≡ states_world w p l f
  step_alike r (SeenLine c' a' bar day cells) (Seen c a s d) e = refl
  step_alike r (SeenLine c' a' bar day cells) f e = refl
  step_alike r (ValueLine t a day v known) f e = ap (λ x. int_eq v x && option_eq int_eq known (known_day w p f)) e
  step_alike r (SeenValueLine t a own day v) f e = ap (int_eq v) e

  abbrev stands : List Line → Fact → Bool
  stands lines f = list_all (is_stated w lines) (premises w p (number_in w p) f)

  about : (lines : List Line) → Each (States w p) lines → (l : Line) (f : Fact)
      → is_right_about w p lines l (Some f) ≡ (is_fitting w p f && stands lines f && states_world w p l f)
  about lines h l f = both_ways _ _ there back
    where
      there : is_right_about w p lines l (Some f) ≡ true → (is_fitting w p f && stands lines f && states_world w p l f) ≡ true
      there e =
          let parts = and3 (is_fitting w p f) (list_all (is_stated w lines) (premises w p (reading_of w lines) f)) (states_step w p (reading_of w lines) l f) e in
          let agree : Each (λ g. reading_of w lines g ≡ number_in w p g) (premises w p (reading_of w lines) f)
          = each_more _ _ (premises w p (reading_of w lines) f) (λ g i. stated_true w p lines g h i) (each_list_all (is_stated w lines) (premises w p (reading_of w lines) f) parts.1) in
          let both = fact_same w p (reading_of w lines) (number_in w p) f agree in
          let stand : stands lines f ≡ true = rw both.0 at parts.1 in
          let states : states_world w p l f ≡ true = sym (step_alike (reading_of w lines) l f (both.1 ∙ step_true w p known ok f)) ∙ parts.2 in
          and3_from _ _ _ parts.0 stand states

      back : (is_fitting w p f && stands lines f && states_world w p l f) ≡ true → is_right_about w p lines l (Some f) ≡ true
      back e =
          let parts = and3 (is_fitting w p f) (stands lines f) (states_world w p l f) e in
          let agree : Each (λ g. number_in w p g ≡ reading_of w lines g) (premises w p (number_in w p) f)
          = each_more _ _ (premises w p (number_in w p) f) (λ g i. sym (stated_true w p lines g h i)) (each_list_all (is_stated w lines) (premises w p (number_in w p) f) parts.1) in
          let both = fact_same w p (number_in w p) (reading_of w lines) f agree in
          let stand : list_all (is_stated w lines) (premises w p (reading_of w lines) f) ≡ true = rw both.0 at parts.1 in
          let states : states_step w p (reading_of w lines) l f ≡ true = step_alike (reading_of w lines) l f (sym both.1 ∙ step_true w p known ok f) ∙ parts.2 in
          and3_from _ _ _ parts.0 stand states

  -- ---- what right lines tell of has its premises among them

  stated_more : (lines : List Line) (l : Line) (f : Fact) → is_stated w lines f ≡ true → is_stated w (lines ++ l ∷ []) f ≡ true
  stated_more lines l f h = list_any-append (is_about w f) lines (l ∷ []) ∙ or_left (is_stated w lines f) (is_stated w (l ∷ []) f) h

  abbrev Closed : List Line → Type 0
  Closed lines = (f : Fact) → is_stated w lines f ≡ true → (is_fitting w p f ≡ true) × (stands lines f ≡ true)

  closed_more : (lines : List Line) → Each (States w p) lines → Closed lines → (l : Line) → is_right w p lines l ≡ true → Closed (lines ++ l ∷ [])
  closed_more lines h closed l e f stated =
      elim (or_cases (is_stated w lines f) (is_stated w (l ∷ []) f) (sym (list_any-append (is_about w f) lines (l ∷ [])) ∙ stated)) [
        | inl before ↦ (let both = closed f before in (both.0, more f both.1))
        | inr now ↦ elim (or_cases (is_about w f l) false now) [
          | inl here ↦ (let about_f : is_right_about w p lines l (Some f) ≡ true = rw (fact_is w f l here) at e in
              let all : (is_fitting w p f && stands lines f && states_world w p l f) ≡ true = sym (about lines h l f) ∙ about_f in
              let parts = and3 (is_fitting w p f) (stands lines f) (states_world w p l f) all in
              (parts.0, more f parts.1))
          | inr other ↦ absurd (true≢false (sym other))
        ]
      ]
    where
      more : (f : Fact) → stands lines f ≡ true → stands (lines ++ l ∷ []) f ≡ true
      more f s =
          list_all_each (is_stated w (lines ++ l ∷ [])) (premises w p (number_in w p) f)
          (each_more _ _ (premises w p (number_in w p) f) (λ g i. stated_more lines l g i) (each_list_all (is_stated w lines) (premises w p (number_in w p) f) s))

  go : (lines ls : List Line) → Each (States w p) lines → Closed lines → wrong_behind w p lines ls ≡ None → Each (States w p) (lines ++ ls) × Closed (lines ++ ls)
  go lines [] h closed e = rw (append-nil lines) (h, closed)
  go lines (l ∷ ls) h closed e =
      step (is_right w p lines l) refl e
      (λ i. go (lines ++ l ∷ []) ls (each_both (States w p) lines (l ∷ []) h (right_states w p known ok lines h l i, tt)) (closed_more lines h closed l i))
    where
      step : (b : Bool) → is_right w p lines l ≡ b → wrong_behind w p lines (l ∷ ls) ≡ None
          → (is_right w p lines l ≡ true → wrong_behind w p (lines ++ l ∷ []) ls ≡ None → Each (States w p) ((lines ++ l ∷ []) ++ ls) × Closed ((lines ++ l ∷ []) ++ ls))
          → Each (States w p) (lines ++ l ∷ ls) × Closed (lines ++ l ∷ ls)
      step true i e more = let r = more i (no_map _ (rw i at e)) in rw (append_assoc lines (l ∷ []) ls) at r
      step false i e more = let bad : Some 0 ≡ None = rw i at e in absurd (none_wrong bad)

  all : (lines : List Line) → first_wrong w p lines ≡ None → Each (States w p) lines × Closed lines
  all lines e = go [] lines tt (λ f h. absurd (true≢false (sym h))) (no_map _ e)

  pub right_is : (lines : List Line) → first_wrong w p lines ≡ None → (l : Line) (f : Fact) → fact_of w l ≡ Some f
      → is_right w p lines l ≡ (is_fitting w p f && stands lines f && states_world w p l f)
  right_is lines e l f at = rw at (about lines (all lines e).0 l f)

  pub repeat_is : (lines : List Line) → first_wrong w p lines ≡ None → (l : Line) (f : Fact) → fact_of w l ≡ Some f → is_stated w lines f ≡ true
      → is_right w p lines l ≡ states_world w p l f
  repeat_is lines e l f at stated =
      let both = (all lines e).1 f stated in
      right_is lines e l f at ∙ rw (both.0, both.1) refl
