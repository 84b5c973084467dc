-- The calendar has the days of all sessions on which terms are read.
use Rattle.std.proofs.Common.{◌≡◌, ℕ, zero, suc, ◌+◌, ◌-◌, ◌<◌, ◌≤◌, Bool, true, false, ◌||◌, not, nat_lt, cond, ℤ, pos, List, [], length, get_or, slice_get, Option, Some, None, refl, sym, ◌∙◌, ap, arith, inl, inr}
use Rattle.std.proofs.lemmas.Bool.{cases_lt, or_right, true≢false}
use Rattle.std.proofs.lemmas.Bool.Decides.{nat_tests}
use Rattle.std.proofs.lemmas.Option.{get_or_from_slice_get, slice_get_within}
use Rattle.circular_buffer.proofs.Places.{slice_get-some}
use Rattle.pl_spec.specs.declared.Column.{Column}
use Rattle.pl_pipeline.specs.Cones.{moves_at}
use Rattle.pl_pipeline.specs.Kind.{Kind}
use Rattle.pl_pipeline.specs.Kind.Kind.{Window, Point}
use Rattle.pl_pipeline.specs.Lows.{Reads}
use Rattle.pl_pipeline.specs.Table.{Pipeline}
use Rattle.pl_pipeline.specs.Term.{Term, Node, Graph, Input, input_tree, trees, term_at}
use Rattle.pl_pipeline.specs.Term.Input.{BarColumn, TermInput}
use Rattle.pl_pipeline.specs.Value.{is_bars, is_steady, keeps_point, keeps_window}
use Rattle.pl_pipeline.proofs.Trees.{term_at-node}
use Rattle.pl_terms.specs.Checked.{IsChecked}
use Rattle.pl_terms.specs.Uses.{is_used}
use Rattle.pl_terms.specs.Sorts.{is_windowed}
use Rattle.pl_planner.proofs.Pipelines.{is-pipeline}
use Rattle.pl_daily.specs.Capacities.{deepest}
use Rattle.pl_daily.specs.Days.{FedDay, day_back, day_window}
use Rattle.pl_daily.specs.Earlier.{nth_back}
use Rattle.pl_daily.specs.Rings.{known_days}
use Rattle.pl_daily.proofs.Cells.{known_late}
use Rattle.pl_daily.proofs.Depths.{deep-moves, input-deep}
use Rattle.pl_daily.proofs.Endings.{nth-downward}
use Rattle.pl_daily.proofs.Firsts.{read_used}

-- a formula or an operation of steady terms alone is steady
of-steady : (k : Kind) (size : ℕ) (x y z m q : Term) → is_steady x ≡ true → is_steady y ≡ true → is_steady z ≡ true → is_bars x ≡ false → is_bars y ≡ false → is_bars z ≡ false
    → is_steady (Term.node k size x y z m q) ≡ true
of-steady (Window f) size x y z m q a b c d e h = or_right (keeps_window f) _ (rw (a, b, c, d, e, h) refl)
of-steady (Point f) size x y z m q a b c d e h = or_right (keeps_point f) _ (rw (a, b, c) refl)
of-steady k size x y z m q a b c d e h = refl

module _ (p : Pipeline) (ok : IsChecked p) (room : Column → ℕ) (most : ℕ) (fits : (c : Column) → room c ≤ most)
    (bars : (k : ℕ) (n : Node) (place : ℕ) (c : Column) → is_used p k ≡ true → slice_get p.graph k ≡ Some n → slice_get n.inputs place ≡ Some (BarColumn c) → n.window + deepest p k ≤ room c) where
  abbrev g : Graph
  g = p.graph

  -- an input that is neither bars nor moves
  plain-input : (k : ℕ) (n : Node) (j : ℕ) (o : Option Input) → slice_get g k ≡ Some n → slice_get n.inputs j ≡ o → ((c : Column) → o ≡ Some (BarColumn c) → ⊥) → ((u : ℕ) → o ≡ Some (TermInput u) → moves_at g u ≡ true → ⊥)
      → (is_steady (input_tree (trees g) o) ≡ true) × (is_bars (input_tree (trees g) o) ≡ false)
  plain-input k n j None at e b f = (refl, refl)
  plain-input k n j (Some (BarColumn c)) at e b f = absurd (b c refl)
  plain-input k n j (Some (TermInput u)) at e b f = (here (is_steady (term_at g u)) refl, ap is_bars (term_at-node g u there.0 ok.graph there.1))
    where
      within : u < length g
      within = let l : u < k = (ok.graph.lower k n at).inputs j u e in let q : k < length g = slice_get_within g k n at in omega (arith, l, q)

      there : (m : Node) × (slice_get g u ≡ Some m)
      there = slice_get-some g u within

      here : (q : Bool) → is_steady (term_at g u) ≡ q → q ≡ true
      here true h = refl
      here false h = absurd (f u refl (ap not h))

  -- none of them: then the term does not move
  no-cause : (k : ℕ) (n : Node) → slice_get g k ≡ Some n → ((j : ℕ) (c : Column) → slice_get n.inputs j ≡ Some (BarColumn c) → ⊥) → ((j u : ℕ) → slice_get n.inputs j ≡ Some (TermInput u) → moves_at g u ≡ true → ⊥)
      → is_steady (term_at g k) ≡ true
  no-cause k n at b f =
      let x = plain-input k n 0 (slice_get n.inputs 0) at refl (b 0) (f 0) in
      let y = plain-input k n 1 (slice_get n.inputs 1) at refl (b 1) (f 1) in
      let z = plain-input k n 2 (slice_get n.inputs 2) at refl (b 2) (f 2) in
      ap is_steady (term_at-node g k n ok.graph at) ∙ of-steady n.kind n.window _ _ _ _ _ x.0 y.0 z.0 x.1 y.1 z.1

  -- what is read so far back is, over all that is below it, of bars that are held so far back
  up-to : (b k : ℕ) → k < b → (n : Node) → is_used p k ≡ true → slice_get g k ≡ Some n → 0 < deepest p k → deepest p k < most
  up-to zero k h n used at deep = absurd (omega (arith, h))
  up-to (suc b) k h n used at deep = elim (cases_lt (deepest p k) most) [
    | inl l ↦ l
    | inr l ↦ absurd (true≢false (sym (deep-moves p ok k deep) ∙ ap not (no-cause k n at
        (λ j c e.
        let some = ((is-pipeline p ok).windows k n at).0 in
        let held = bars k n j c used at e in
        let whole = fits c in
        omega (arith, some, held, whole, l))
        (λ j u e moves.
        let reads : (is_windowed n.kind || nat_lt 0 (deepest p k)) ≡ true = or_right (is_windowed n.kind) (nat_lt 0 (deepest p k)) (grind (arith, nat_tests, deep)) in
        let x = read_used [] (pos 0) p ok k n used at u _ (Reads.input j e) in
        let m = slice_get-some g u x.1 in
        let further = input-deep p ok k j u n used at e moves reads in
        let some = ((is-pipeline p ok).windows k n at).0 in
        let more : 0 < deepest p u = omega (arith, further, some, deep) in
        let below : u < k = x.0 in
        let rest = up-to b u (omega (arith, below, h)) m.0 x.2 m.1 more in
        omega (arith, further, some, rest, l)))))
  ]

  pub deep-day : (k : ℕ) (n : Node) → is_used p k ≡ true → slice_get g k ≡ Some n → 0 < deepest p k → deepest p k < most
  deep-day k n used at deep = up-to (suc k) k (omega arith) n used at deep

-- ---- days of the calendar

-- a full calendar that stands for the days knows each of them
pub calendar-day : (xs : List FedDay) (items : List ℤ) (after : ℕ) (day : ℤ) → known_days (length xs) items ≡ day_window xs (length items) → after < length xs → nth_back after items ≡ Some day → day_back xs after ≡ Some day
calendar-day xs items after day known few is = here (nat_lt after (length items)) refl
  where
    here : (b : Bool) → nat_lt after (length items) ≡ b → day_back xs after ≡ Some day
    here false e = absurd (let no : None ≡ Some day = sym (ap (λ (b : Bool). cond b (slice_get items (length items - after - 1)) None) e) ∙ is in cc)
    here true e =
        let inside : after < length items = grind (arith, nat_tests, e) in
        let k = length items - after - 1 in
        let at : slice_get items k ≡ Some day = sym (ap (λ (b : Bool). cond b (slice_get items k) None) e) ∙ is in
        sym (nth-downward (day_back xs) (length items) after None inside)
        ∙ ap (λ l. get_or l k None) (sym known)
        ∙ known_late (length xs) items k day (omega (arith, inside)) (omega (arith, inside, few))
        ∙ ap Some (get_or_from_slice_get items k day day at)
