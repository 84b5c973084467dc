-- Where no line is wrong, each states the number that the world has.
use Rattle.std.proofs.Common.{◌≡◌, ℕ, suc, ◌+◌, Bool, true, false, ◌&&◌, ℤ, pos, List, [], ◌∷◌, ◌++◌, length, append_assoc, append-nil, arith, fold, get_or, Option, Some, None, option_map, refl, sym, ◌∙◌, ap, slice_get, ◌==◌, inl, inr}
use Rattle.std.specs.List.{list_any, list_all}
use Rattle.std.specs.Option.{option_eq, option_to_list}
use Rattle.std.specs.Ordering.{int_eq}
use Rattle.std.specs.Cmp.{both_ways}
use Rattle.std.specs.Cmp.Lexicographic.{pointwise}
use Rattle.std.proofs.lemmas.Bool.{true≢false, or_cases, and_parts, eqb-true, eq-eqb}
use Rattle.std.proofs.lemmas.Bool.Decides.{Decides-int_eq}
use Rattle.std.proofs.lemmas.Slice.Eq.{slice_eq-Decides}
use Rattle.std.proofs.lemmas.Option.{slice_get-get_or}
use Rattle.pl_spec.specs.declared.Column.{Column}
use Rattle.pl_spec.specs.Rounding.{MISSING}
use Rattle.pl_spec.specs.World.{World, day_of, bar_cell, column_number}
use Rattle.pl_spec.specs.Window.{Effect, changed, after_all, effects, seen_cell}
use Rattle.pl_pipeline.specs.Term.{IsGraph}
use Rattle.pl_pipeline.specs.Table.{Pipeline}
use Rattle.pl_derivation.specs.Facts.{Fact, Reading, same_fact, number_in, known_day, premises, single_step}
use Rattle.pl_derivation.specs.Facts.Fact.{Seen, TermValue, SeenValue}
use Rattle.pl_derivation.specs.Lines.{Line}
use Rattle.pl_derivation.specs.Right.{session_of, fact_of, last_cell, number_stated, is_about, is_stated, reading_of, is_fitting, after_each, seen_cells, states_step, is_right_about, is_right, wrong_behind, first_wrong}
use Rattle.pl_derivation.specs.Lines.Line.{SeenLine, ValueLine, SeenValueLine}
use Rattle.pl_cross.specs.Arrays.{HasTexts}
use Rattle.pl_derivation.specs.Laws.{IsTrueLine}
use Rattle.pl_spec.proofs.Each.{Each, each_both, each_more, each_list_all, each_at}
use Rattle.pl_spec.proofs.Signed.{int_eq-true, int_eq-itself}
use Rattle.pl_spec.proofs.Columns.{column_number-one}
use Rattle.pl_derivation.proofs.Finding.{place_found}
use Rattle.pl_derivation.proofs.TextsSaid.{then_some, map_some}
use Rattle.pl_derivation.proofs.Steps.{fact_same}
use Rattle.pl_derivation.proofs.Codes.{step_true}

-- ---- one fact

pub column_same : (c c' : Column) → (column_number c == column_number c') ≡ true → c ≡ c'
column_same c c' h = column_number-one c c' (eqb-true (column_number c) (column_number c') h)

nat_same : (x : ℕ) → (x == x) ≡ true
nat_same x = eq-eqb x x refl

pub and3 : (x y z : Bool) → (x && y && z) ≡ true → (x ≡ true) × (y ≡ true) × (z ≡ true)
and3 true y z h = let p = and_parts y z h in (refl, p.0, p.1)
and3 false y z h = absurd (true≢false (sym h))

pub and4 : (x y z u : Bool) → (x && y && z && u) ≡ true → (x ≡ true) × (y ≡ true) × (z ≡ true) × (u ≡ true)
and4 true y z u h = let p = and3 y z u h in (refl, p.0, p.1, p.2)
and4 false y z u h = absurd (true≢false (sym h))

pub same_is : (f g : Fact) → same_fact f g ≡ true → f ≡ g
same_is (Seen c a s d) (Seen c' a' s' d') h =
    let p = and4 (column_number c == column_number c') (a == a') (int_eq s s') (int_eq d d') h in
    rw (column_same c c' p.0, eqb-true a a' p.1, int_eq-true s s' p.2, int_eq-true d d' p.3) refl
same_is (TermValue t a d) (TermValue t' a' d') h =
    let p = and3 (t == t') (a == a') (int_eq d d') h in
    rw (eqb-true t t' p.0, eqb-true a a' p.1, int_eq-true d d' p.2) refl
same_is (SeenValue t a s d) (SeenValue t' a' s' d') h =
    let p = and4 (t == t') (a == a') (int_eq s s') (int_eq d d') h in
    rw (eqb-true t t' p.0, eqb-true a a' p.1, int_eq-true s s' p.2, int_eq-true d d' p.3) refl
same_is f g h = absurd (true≢false (sym h))

pub is_same : (f : Fact) → same_fact f f ≡ true
is_same (Seen c a s d) = rw (nat_same (column_number c), nat_same a, int_eq-itself s, int_eq-itself d) refl
is_same (TermValue t a d) = rw (nat_same t, nat_same a, int_eq-itself d) refl
is_same (SeenValue t a s d) = rw (nat_same t, nat_same a, int_eq-itself s, int_eq-itself d) refl

pub same_turned : (f g : Fact) → same_fact f g ≡ same_fact g f
same_turned f g = both_ways _ _ (λ e. ap (same_fact g) (same_is f g e) ∙ is_same g) (λ e. ap (same_fact f) (same_is g f e) ∙ is_same f)

-- ---- days of records

pub day_same : (x y : Option ℤ) → option_eq int_eq x y ≡ true → x ≡ y
day_same None None h = refl
day_same (Some x) (Some y) h = ap Some (int_eq-true x y h)
day_same None (Some y) h = absurd (true≢false (sym h))
day_same (Some x) None h = absurd (true≢false (sym h))

pub same_day : (x : Option ℤ) → option_eq int_eq x x ≡ true
same_day None = refl
same_day (Some x) = int_eq-itself x

-- ---- the fact of a line

about_is : (f : Fact) (o : Option Fact) → list_any (same_fact f) (option_to_list o) ≡ true → o ≡ Some f
about_is f None h = absurd (true≢false (sym h))
about_is f (Some g) h = elim (or_cases (same_fact f g) false h) [
  | inl e ↦ ap Some (sym (same_is f g e))
  | inr e ↦ absurd (true≢false (sym e))
]

pub fact_is : (w : World) (f : Fact) (l : Line) → is_about w f l ≡ true → fact_of w l ≡ Some f
fact_is w f l h = about_is f (fact_of w l) h

pub is_fact : (w : World) (f : Fact) (l : Line) → fact_of w l ≡ Some f → is_about w f l ≡ true
is_fact w f l e = rw (e, is_same f) refl

-- the session of a day has that day
session_is : (w : World) (day : ℤ) (s : ℕ) → session_of w day ≡ Some s → day_of w (pos s) ≡ Some day
session_is w day s e =
    let place = place_found (λ x. int_eq x day) w.days s (pos 0) e in
    let same : get_or w.days s (pos 0) ≡ day = int_eq-true (get_or w.days s (pos 0)) day place.1 in
    slice_get-get_or w.days s (pos 0) place.0 ∙ ap Some same

-- ---- the cells of a bar

each_last : (x y : ℤ) (fs : List Effect) → fold (λ x y. y) y (after_each x fs) ≡ after_all x fs
each_last x y [] = refl
each_last x y (f ∷ fs) = each_last (changed x f) x fs

each_ends : (x : ℤ) (fs : List Effect) → (front : List ℤ) × (after_each x fs ≡ front ++ after_all x fs ∷ [])
each_ends x [] = ([], refl)
each_ends x (f ∷ fs) =
    let rest : (front : List ℤ) × (after_each (changed x f) fs ≡ front ++ after_all (changed x f) fs ∷ []) = each_ends (changed x f) fs in
    (x ∷ rest.0, ap (λ l. x ∷ l) rest.1)

pub last_seen : (w : World) (a : ℕ) (c : Column) (s d : ℤ) → last_cell (seen_cells w a c s d) ≡ seen_cell w a c s d
unfolding seen_cell
last_seen w a c s d = each_last (bar_cell w a c s) MISSING (effects w a c s d)

seen_ends : (w : World) (a : ℕ) (c : Column) (s d : ℤ) → (front : List ℤ) × (seen_cells w a c s d ≡ front ++ seen_cell w a c s d ∷ [])
unfolding seen_cell
seen_ends w a c s d = each_ends (bar_cell w a c s) (effects w a c s d)

pub none_wrong : ◌≡◌ {A = Option ℕ} (Some 0) None → ⊥
none_wrong h = cc

pub no_map : (o : Option ℕ) → option_map suc o ≡ None → o ≡ None
no_map None h = refl
no_map (Some n) h = absurd (let bad : Some (suc n) ≡ None = h in cc)

-- the place of the first that is not right, behind lines of which none is wrong
pub behind_right : (w : World) (p : Pipeline) (before ls more : List Line) (o : Option ℕ) → wrong_behind w p before ls ≡ None → wrong_behind w p (before ++ ls) more ≡ o
    → wrong_behind w p before (ls ++ more) ≡ option_map (λ n. length ls + n) o
behind_right w p before [] more o h e = ap (λ ms. wrong_behind w p ms more) (sym (append-nil before)) ∙ e ∙ same o
  where
    same : (o : Option ℕ) → o ≡ option_map (λ n. 0 + n) o
    same None = refl
    same (Some n) = ap Some (let no_more : n ≡ 0 + n = omega arith in no_more)
behind_right w p before (m ∷ ls) more o h e =
    step (is_right w p before m) refl h (λ i. behind_right w p (before ++ m ∷ []) ls more o i (ap (λ ms. wrong_behind w p ms more) (append_assoc before (m ∷ []) ls) ∙ e))
  where
    later : (o : Option ℕ) → option_map suc (option_map (λ n. length ls + n) o) ≡ option_map (λ n. suc (length ls) + n) o
    later None = refl
    later (Some n) = ap Some (let one : suc (length ls + n) ≡ suc (length ls) + n = omega arith in one)

    step : (b : Bool) → is_right w p before m ≡ b → wrong_behind w p before (m ∷ ls) ≡ None
        → (wrong_behind w p (before ++ m ∷ []) ls ≡ None → wrong_behind w p (before ++ m ∷ []) (ls ++ more) ≡ option_map (λ n. length ls + n) o)
        → wrong_behind w p before (m ∷ (ls ++ more)) ≡ option_map (λ n. suc (length ls) + n) o
    step true i h rest =
        let found : wrong_behind w p (before ++ m ∷ []) (ls ++ more) ≡ option_map (λ n. length ls + n) o = rest (no_map _ (rw i at h)) in
        rw (i, found) (later o)
    step false i h rest = let bad : Some 0 ≡ None = rw i at h in absurd (none_wrong bad)

module _ (w : World) (p : Pipeline) where
  -- a line whose fact's number is the world's
  abbrev pub States : Line → Type 0
  States l = (f : Fact) → fact_of w l ≡ Some f → number_stated l ≡ number_in w p f

  -- the first line about a fact states its number
  pub stated_true : (lines : List Line) (f : Fact) → Each States lines → is_stated w lines f ≡ true → reading_of w lines f ≡ number_in w p f
  stated_true [] f h i = absurd (true≢false (sym i))
  stated_true (l ∷ lines) f h i = step (is_about w f l) refl i (stated_true lines f h.1)
    where
      step : (b : Bool) → is_about w f l ≡ b → is_stated w (l ∷ lines) f ≡ true → (is_stated w lines f ≡ true → reading_of w lines f ≡ number_in w p f)
          → reading_of w (l ∷ lines) f ≡ number_in w p f
      step true e i more = rw e (h.0 f (fact_is w f l e))
      step false e i more = rw e (more (rw e at i))

  states_number : (r : Reading) (l : Line) (f : Fact) → states_step w p r l f ≡ true → number_stated l ≡ single_step w p r f
  states_number r (SeenLine c' a' bar day cells) (Seen c a s d) h =
      let same : cells ≡ seen_cells w a c s d = (slice_eq-Decides Decides-int_eq cells (seen_cells w a c s d) _ refl).0 h in
      ap last_cell same ∙ last_seen w a c s d
  states_number r (SeenLine c' a' bar day cells) f h = absurd (true≢false (sym h))
  states_number r (ValueLine t a day v known) f h =
      int_eq-true v (single_step w p r f) (and_parts (int_eq v (single_step w p r f)) (option_eq int_eq known (known_day w p f)) h).0
  states_number r (SeenValueLine t a own day v) f h = int_eq-true v (single_step w p r f) h

  -- the day that a line of a value states
  states_known : (r : Reading) (t a : ℕ) (day v : ℤ) (known : Option ℤ) (f : Fact) → states_step w p r (ValueLine t a day v known) f ≡ true → known ≡ known_day w p f
  states_known r t a day v known f h =
      day_same known (known_day w p f) (and_parts (int_eq v (single_step w p r f)) (option_eq int_eq known (known_day w p f)) h).1

  module _ (known : HasTexts w) (ok : IsGraph p.graph) where
    -- after true lines a right line is true
    right_about : (lines : List Line) → Each States lines → (l : Line) (f : Fact) → is_right_about w p lines l (Some f) ≡ true → number_stated l ≡ number_in w p f
    right_about lines h l f e =
        let parts = and3 (is_fitting w p f) (list_all (is_stated w lines) (premises w p (reading_of w lines) f)) (states_step w p (reading_of w lines) l f) e in
        let stand = each_list_all (is_stated w lines) (premises w p (reading_of w lines) f) parts.1 in
        let agree : Each (λ g. reading_of w lines g ≡ number_in w p g) (premises w p (reading_of w lines) f)
        = each_more _ _ (premises w p (reading_of w lines) f) (λ g i. stated_true lines g h i) stand in
        states_number (reading_of w lines) l f parts.2 ∙ (fact_same w p (reading_of w lines) (number_in w p) f agree).1 ∙ step_true w p known ok f

    pub right_states : (lines : List Line) → Each States lines → (l : Line) → is_right w p lines l ≡ true → States l
    right_states lines h l e f i = right_about lines h l f (rw i at e)

    -- what a right line has besides: its days are sessions, and its cells are those of the bar
    right_line : (lines : List Line) → Each States lines → (l : Line) → is_right w p lines l ≡ true → IsTrueLine w p l
    right_line lines h l e = found (fact_of w l) refl
      where
        true_line : (l : Line) (f : Fact) → fact_of w l ≡ Some f → is_right_about w p lines l (Some f) ≡ true → number_stated l ≡ number_in w p f → IsTrueLine w p l
        true_line (SeenLine c a bar day cells) f i e n =
            let first = then_some _ (session_of w bar) f i in
            let last = map_some _ (session_of w day) f first.2 in
            let fact : f ≡ Seen c a (pos first.0) (pos last.0) = last.2 in
            let parts = and3 (is_fitting w p f) (list_all (is_stated w lines) (premises w p (reading_of w lines) f)) (states_step w p (reading_of w lines) (SeenLine c a bar day cells) f) e in
            let stated : pointwise int_eq cells (seen_cells w a c (pos first.0) (pos last.0)) ≡ true = rw fact at parts.2 in
            let same : cells ≡ seen_cells w a c (pos first.0) (pos last.0) = (slice_eq-Decides Decides-int_eq cells (seen_cells w a c (pos first.0) (pos last.0)) _ refl).0 stated in
            let ends : (front : List ℤ) × (seen_cells w a c (pos first.0) (pos last.0) ≡ front ++ seen_cell w a c (pos first.0) (pos last.0) ∷ []) = seen_ends w a c (pos first.0) (pos last.0) in
            (first.0, last.0, session_is w bar first.0 first.1, session_is w day last.0 last.1, ends.0, same ∙ ends.1)
        true_line (ValueLine t a day v known) f i e n =
            let at = map_some _ (session_of w day) f i in
            let fact : f ≡ TermValue t a (pos at.0) = at.2 in
            let r : Reading = reading_of w lines in
            let parts = and3 (is_fitting w p f) (list_all (is_stated w lines) (premises w p r f)) (states_step w p r (ValueLine t a day v known) f) e in
            let stated : known ≡ known_day w p f = states_known r t a day v known f parts.2 in
            (at.0, session_is w day at.0 at.1, rw fact at n, rw fact at stated)
        true_line (SeenValueLine t a own day v) f i e n =
            let first = then_some _ (session_of w own) f i in
            let last = map_some _ (session_of w day) f first.2 in
            let fact : f ≡ SeenValue t a (pos first.0) (pos last.0) = last.2 in
            (first.0, last.0, session_is w own first.0 first.1, session_is w day last.0 last.1, rw fact at n)

        found : (o : Option Fact) → fact_of w l ≡ o → IsTrueLine w p l
        found None i = let no : false ≡ true = rw i at e in absurd (true≢false (sym no))
        found (Some f) i = true_line l f i (rw i at e) (right_states lines h l e f i)

    pub all_true : (lines ls : List Line) → Each States lines → wrong_behind w p lines ls ≡ None → Each (IsTrueLine w p) ls
    all_true lines [] h e = tt
    all_true lines (l ∷ ls) h e =
        step (is_right w p lines l) refl e (λ i. all_true (lines ++ l ∷ []) ls (each_both States lines (l ∷ []) h (right_states lines h l i, tt)))
      where
        step : (b : Bool) → is_right w p lines l ≡ b → wrong_behind w p lines (l ∷ ls) ≡ None
            → (is_right w p lines l ≡ true → wrong_behind w p (lines ++ l ∷ []) ls ≡ None → Each (IsTrueLine w p) ls) → Each (IsTrueLine w p) (l ∷ ls)
        step true i e more = (right_line lines h l i, more i (no_map _ (rw i at e)))
        step false i e more = let bad : Some 0 ≡ None = rw i at e in absurd (none_wrong bad)

    -- The law: where no line is wrong, each is true.
    pub sound : (lines : List Line) → first_wrong w p lines ≡ None → (i : ℕ) (l : Line) → slice_get lines i ≡ Some l → IsTrueLine w p l
    sound lines e i l at = each_at (IsTrueLine w p) lines i l (all_true [] lines tt (no_map _ e)) at
