use Rattle.std.proofs.Common.{◌≡◌, ℕ, ◌+◌, ◌-◌, ◌≤◌, ℤ, List, [], ◌∷◌, Option, None, Some, slice_get, get_or, length, subst, refl, ap, sym, ◌∙◌, arith, take}
use Rattle.std.proofs.lemmas.Bool.Decides.{nat_tests}
use Rattle.std.proofs.lemmas.List.{drop_all}
use Rattle.pl_pipeline.specs.Term.{Input, Node}
use Rattle.pl_pipeline.specs.Term.Input.{BarColumn, TermInput}
use Rattle.pl_terms.specs.Nodes.{input_of}
use Rattle.pl_daily.specs.Changes.{Ring}
use Rattle.pl_daily.specs.declared.columns.BarRings.{BarRings}
use Rattle.pl_daily.specs.declared.term_day.TermCells.{TermCells}
use Rattle.pl_daily.specs.Rows.{ending, ring_window}
use Rattle.pl_daily.specs.TermDays.{node_at}
use Rattle.pl_daily.specs.Windows.{size_for}
use Rattle.pl_daily.proofs.Earlier.{ring_full, ring_inside, ring_there}
use Rattle.pl_daily.proofs.windows.read_window.Goals as goal

fits_in : (a b n k m : ℕ) → a ≡ n → b ≡ k → n + m ≤ k → a + m ≤ b
fits_in a b n k m e f h = omega (arith, e, f, h)

no_cells : (size after : ℕ) (xs : List ℤ) → size ≡ 0 → ending size after xs ≡ []
no_cells size after xs e = drop_all (length (take (length xs - after) xs) - size) (take (length xs - after) xs) (omega (arith, e))

-- a window of no cells
nothing_read : (bars : BarRings) (terms : List TermCells) (n : Node) (o : Option Input) (i after : ℕ) (window : List ℤ) → length window ≡ 0 → length window ≡ size_for n o → window ≡ ring_window bars terms n.window after o i
nothing_read bars terms n None i after [] none long = refl
nothing_read bars terms n (Some (BarColumn c)) i after [] none long = sym (no_cells n.window after _ (sym long))
nothing_read bars terms n (Some (TermInput u)) i after [] none long = sym (no_cells n.window after _ (sym long))
nothing_read bars terms n o i after (x ∷ window) none long = absurd (omega (arith, none))

pub returns-then-is_empty : goal.returns-then-is_empty
returns-then-is_empty c =
    nothing_read c.args.term_day.now.bars.now c.args.term_day.now.terms.now (node_at c.args.term_day.now) (slice_get (node_at c.args.term_day.now).inputs c.args.place) c.args.i c.args.after c.args.window.now
    (grind (arith, nat_tests, c.is_empty.ensures, c.if-is_empty.true)) c.requires.size

pub bounds-term_day-term : goal.bounds-term_day-term
bounds-term_day-term c =
    let e : slice_get (node_at c.args.term_day.now).inputs c.args.place ≡ Some (TermInput c.in-Some-Term.term.0) = sym c.in-Some-Term.ensures ∙ ap (λ x. Some (input_of x)) c.in-Some-Term.field-0-is in
    (c.requires.held.1.rows c.args.place c.in-Some-Term.term.0 e).known

pub index-requires : goal.index-requires
index-requires c =
    let t = c.args.term_day.now in
    let u = c.in-Some-Term.term.0 in
    let e : slice_get (node_at t).inputs c.args.place ≡ Some (TermInput u) = sym c.in-Some-Term.ensures ∙ ap (λ x. Some (input_of x)) c.in-Some-Term.field-0-is in
    let v = (get_or t.terms.now u c.index-term_day-term.result).rings.rings in
    let known = (c.requires.held.1.rows c.args.place u e).known in
    let inside = ring_inside t c.requires.held.0 u known (c.requires.held.2.values c.args.place u e).0 c.args.i c.requires.asset c.index-term_day-term.result in
    omega (arith, inside, v.ok.0)

pub copy_window-requires : goal.copy_window-requires
copy_window-requires c =
    let t = c.args.term_day.now in
    let u = c.in-Some-Term.term.0 in
    let e : slice_get (node_at t).inputs c.args.place ≡ Some (TermInput u) = sym c.in-Some-Term.ensures ∙ ap (λ x. Some (input_of x)) c.in-Some-Term.field-0-is in
    let known = (c.requires.held.1.rows c.args.place u e).known in
    let held = c.requires.held.2.values c.args.place u e in
    let full = ring_full t c.requires.held.0 u known held.0 c.args.i c.requires.asset c.index-term_day-term.result in
    let long : length c.args.window.now ≡ (node_at t).window = c.requires.size ∙ ap (size_for (node_at t)) e in
    subst (λ (b : Ring). length c.args.window.now + c.args.after ≤ length b.items) (sym c.index.ensures)
    (fits_in _ _ _ _ _ long (full _) held.1)

pub returns-in-Some-Term : goal.returns-in-Some-Term
returns-in-Some-Term c =
    let t = c.args.term_day.now in
    let u = c.in-Some-Term.term.0 in
    let e : slice_get (node_at t).inputs c.args.place ≡ Some (TermInput u) = sym c.in-Some-Term.ensures ∙ ap (λ x. Some (input_of x)) c.in-Some-Term.field-0-is in
    let known = (c.requires.held.1.rows c.args.place u e).known in
    let held = c.requires.held.2.values c.args.place u e in
    let long : length c.args.window.now ≡ (node_at t).window = c.requires.size ∙ ap (size_for (node_at t)) e in
    c.copy_window.ensures
    ∙ ap (λ n. ending n c.args.after c.index.result.now.items) long
    ∙ ap (λ (b : Ring). ending (node_at t).window c.args.after b.items)
    (c.index.ensures ∙ ring_there t c.requires.held.0 u known held.0 c.args.i c.requires.asset c.index-term_day-term.result _)
    ∙ sym (ap (λ o. ring_window t.bars.now t.terms.now (node_at t).window c.args.after o c.args.i) e)
