-- How many sessions the used terms of a pipeline read.
use Rattle.std.proofs.Common.{◌≡◌, ℕ, zero, suc, ◌+◌, ◌<◌, ◌≤◌, Bool, true, false, ◌||◌, nat_lt, cond, max, Option, None, List, [], ◌∷◌, length, fold, map, filter_map, Some, refl, sym, ◌∙◌, ap, arith, slice_get, ◌==◌}
use Rattle.std.specs.List.{range_with_len}
use Rattle.std.proofs.lemmas.Bool.{and_parts, or_left, or_right, eq-eqb, eqb-true}
use Rattle.std.proofs.lemmas.Bool.Decides.{nat_tests}
use Rattle.std.proofs.lemmas.Option.{slice_get_within}
use Rattle.pl_spec.specs.declared.Column.{Column}
use Rattle.pl_spec.specs.World.{column_number}
use Rattle.pl_pipeline.specs.Term.{Input, Node}
use Rattle.pl_pipeline.specs.Term.Input.{BarColumn, TermInput}
use Rattle.pl_pipeline.specs.Cones.{moves_at}
use Rattle.pl_pipeline.specs.Graph.{contains, input_column, input_number}
use Rattle.pl_pipeline.specs.Table.{Pipeline}
use Rattle.pl_pipeline.proofs.Contained.{input-in}
use Rattle.pl_terms.specs.Checked.{IsChecked}
use Rattle.pl_terms.specs.Sorts.{is_windowed}
use Rattle.pl_terms.specs.Uses.{is_used}
use Rattle.pl_daily.specs.Capacities.{deepest, is_mask, is_masked_by, reads_column, reads_term, sessions_read, sessions_read_at, most_read, column_window, term_window}
use Rattle.pl_daily.specs.Inside.{used_sessions}
use Rattle.pl_planner.proofs.Mentions.{in-number}
use Rattle.pl_planner.proofs.Pipelines.{is-pipeline}
use Rattle.pl_daily.proofs.Depths.{input-deep, most-few, most-used, used-at-most}
use Rattle.pl_daily.proofs.Moving.{mask-still}

chosen : (b : Bool) (x y : ℕ) → b ≡ true → cond b x y ≡ x
chosen true x y e = refl
chosen false x y e = absurd (let no : false ≡ true = e in cc)

other : (b : Bool) (x y : ℕ) → b ≡ false → cond b x y ≡ y
other false x y e = refl
other true x y e = absurd (let no : true ≡ false = e in cc)

-- a maximum over all terms, at which the others count nothing, is that of the used ones
pub most-is : (x : Input) (p : Pipeline) → fold max 0 (map (used_sessions x p) (range_with_len 0 (length p.graph))) ≡ most_read x p
most-is x p = most-used (sessions_read_at x p) p

-- a used term reads no more
reads-in : (x : Input) (p : Pipeline) (k : ℕ) (n : Node) → is_used p k ≡ true → slice_get p.graph k ≡ Some n → sessions_read x (deepest p k) n ≤ most_read x p
reads-in x p k n used at =
    let own : sessions_read_at x p k ≡ sessions_read x (deepest p k) n = rw at refl in
    let most : sessions_read_at x p k ≤ most_read x p = used-at-most (sessions_read_at x p) p k used (slice_get_within p.graph k n at) in
    omega arith

-- the same of a node as the code finds it
pub own-sessions : (x : Input) (p : Pipeline) (k d : ℕ) (n : Node) → slice_get p.graph k ≡ Some n → is_used p k ≡ true → d ≡ deepest p k → sessions_read x d n ≡ used_sessions x p k
own-sessions x p k d n at used deep =
    let own : sessions_read_at x p k ≡ sessions_read x (deepest p k) n = rw at refl in
    ap (λ m. sessions_read x m n) deep ∙ sym own ∙ sym (chosen (is_used p k) (sessions_read_at x p k) 0 used)

-- ---- bar columns and terms

column-listed : (is : List Input) (i : ℕ) (c : Column) → slice_get is i ≡ Some (BarColumn c) → contains (filter_map input_column is) (column_number c) ≡ true
column-listed [] i c e = cc
column-listed (BarColumn d ∷ is) zero c e =
    let same : d ≡ c = cc in
    or_left (column_number d == column_number c) (contains (filter_map input_column is) (column_number c)) (eq-eqb (column_number d) (column_number c) (ap column_number same))
column-listed (TermInput u ∷ is) zero c e = cc
column-listed (BarColumn d ∷ is) (suc i) c e = or_right (column_number d == column_number c) (contains (filter_map input_column is) (column_number c)) (column-listed is i c e)
column-listed (TermInput u ∷ is) (suc i) c e = column-listed is i c e

module _ (p : Pipeline) (k i : ℕ) (n : Node) (used : is_used p k ≡ true) (at : slice_get p.graph k ≡ Some n) where
  -- what a used term reads of a bar column is kept, as far back as it is itself read
  pub column-window-in : (c : Column) → slice_get n.inputs i ≡ Some (BarColumn c) → n.window + deepest p k ≤ column_window p c
  unfolding column_window
  column-window-in c input =
      let own : sessions_read (BarColumn c) (deepest p k) n ≡ n.window + deepest p k = chosen (reads_column c n) _ 0 (column-listed n.inputs i c input) in
      let most = reads-in (BarColumn c) p k n used at in
      omega (arith, own, most)

  input-read : (t : ℕ) → reads_term t (deepest p k) n ≡ true → n.window + deepest p k ≤ term_window p t
  unfolding term_window
  input-read t reads =
      let own : sessions_read (TermInput t) (deepest p k) n ≡ n.window + deepest p k = chosen (reads_term t (deepest p k) n) _ _ reads in
      let most = reads-in (TermInput t) p k n used at in
      omega (arith, own, most)

  -- and of a term that it reads
  pub term-window-in : (t : ℕ) → (is_windowed n.kind || nat_lt 0 (deepest p k)) ≡ true → slice_get n.inputs i ≡ Some (TermInput t) → n.window + deepest p k ≤ term_window p t
  term-window-in t reads input = input-read t (rw (reads, input-in n.inputs i t input) refl)

module _ (p : Pipeline) (ok : IsChecked p) (k : ℕ) (n : Node) (used : is_used p k ≡ true) (at : slice_get p.graph k ≡ Some n) where
  -- and of its mask
  pub mask-window-in : (t : ℕ) → 0 < deepest p k → n.mask ≡ Some t → deepest p k < term_window p t
  unfolding term_window
  mask-window-in t deep mask =
      let most = reads-in (TermInput t) p k n used at in
      let own = here (reads_term t (deepest p k) n) refl in
      omega (arith, own, most)
    where
      some : nat_lt 0 (deepest p k) ≡ true
      some = grind (arith, nat_tests, deep)

      masked : is_masked_by t (deepest p k) n ≡ true
      masked = rw (some, mask) (eq-eqb t t refl)

      here : (b : Bool) → reads_term t (deepest p k) n ≡ b → deepest p k < sessions_read (TermInput t) (deepest p k) n
      here true e =
          let least = ((is-pipeline p ok).windows k n at).0 in
          let own : sessions_read (TermInput t) (deepest p k) n ≡ n.window + deepest p k = chosen (reads_term t (deepest p k) n) _ _ e in
          omega (arith, own, least)
      here false e =
          let own : sessions_read (TermInput t) (deepest p k) n ≡ deepest p k + 1 = other (reads_term t (deepest p k) n) _ _ e ∙ chosen (is_masked_by t (deepest p k) n) _ _ masked in
          omega (arith, own)

-- of a term that moves no more is kept than what is read before the last session, and that
pub window-deep : (p : Pipeline) → IsChecked p → (u : ℕ) → moves_at p.graph u ≡ true → term_window p u ≤ deepest p u + 1
unfolding term_window
window-deep p ok u moves =
    let most = most-few (used_sessions (TermInput u) p) (deepest p u + 1) (range_with_len 0 (length p.graph)) 0 (λ k. by_use k (is_used p k) refl) (omega arith) in
    let is = most-is (TermInput u) p in
    omega (arith, most, is)
  where
    read : (k : ℕ) (n : Node) → is_used p k ≡ true → slice_get p.graph k ≡ Some n → (b q : Bool) → reads_term u (deepest p k) n ≡ b → is_masked_by u (deepest p k) n ≡ q
        → sessions_read (TermInput u) (deepest p k) n ≤ deepest p u + 1
    read k n used at true q e f =
        let parts = and_parts (is_windowed n.kind || nat_lt 0 (deepest p k)) (contains (filter_map input_number n.inputs) u) e in
        let place = in-number n.inputs u parts.1 in
        let deep = input-deep p ok k place.0 u n used at place.1 moves parts.0 in
        let own : sessions_read (TermInput u) (deepest p k) n ≡ n.window + deepest p k = chosen (reads_term u (deepest p k) n) _ _ e in
        omega (arith, own, deep)
    read k n used at false true e f = absurd (mask-still p ok k n u at (masked n.mask (and_parts (nat_lt 0 (deepest p k)) (is_mask u n.mask) f).1) moves)
      where
        masked : (o : Option ℕ) → is_mask u o ≡ true → o ≡ Some u
        masked None h = absurd (let no : false ≡ true = h in cc)
        masked (Some m) h = ap Some (eqb-true m u h)
    read k n used at false false e f =
        let own : sessions_read (TermInput u) (deepest p k) n ≡ 0 = other (reads_term u (deepest p k) n) _ _ e ∙ other (is_masked_by u (deepest p k) n) _ _ f in
        omega (arith, own)

    at_all : (k : ℕ) (o : Option Node) → slice_get p.graph k ≡ o → is_used p k ≡ true → sessions_read_at (TermInput u) p k ≤ deepest p u + 1
    at_all k None e used = rw e (omega arith)
    at_all k (Some n) e used = rw e (read k n used e (reads_term u (deepest p k) n) (is_masked_by u (deepest p k) n) refl refl)

    by_use : (k : ℕ) (b : Bool) → is_used p k ≡ b → used_sessions (TermInput u) p k ≤ deepest p u + 1
    by_use k true e = rw e (at_all k (slice_get p.graph k) refl e)
    by_use k false e = rw e (omega arith)
