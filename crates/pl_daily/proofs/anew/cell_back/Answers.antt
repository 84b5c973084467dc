use Rattle.std.proofs.Common.{◌≡◌, ◌∙◌, sym, ap, subst, rules, arith, ℤ, get_or, Option, None, Some, FitsSigned, w64}
use Rattle.std.proofs.lemmas.Int.{to_z-of_z}
use Rattle.std.proofs.lemmas.Option.{same_Some}
use Rattle.pl_spec.specs.Rounding.{IsCell}
use Rattle.pl_daily.specs.Changes.{Ring}
use Rattle.pl_daily.specs.Earlier.{nth_back}
use Rattle.pl_daily.specs.TermDays.{earlier_cell}
use Rattle.pl_daily.proofs.Earlier.{at_room, ring_inside}
use Rattle.pl_daily.proofs.Renewed.{cell_kept, cell_there}
use Rattle.pl_daily.proofs.anew.cell_back.Goals as goal

pub bounds-term_day-term : goal.bounds-term_day-term
bounds-term_day-term c = at_room c.args.term_day.now.terms.now c.args.term.0 c.args.after c.requires.long

pub index-requires : goal.index-requires
index-requires c =
    let t = c.args.term_day.now in
    let u = c.args.term.0 in
    let known = at_room t.terms.now u c.args.after c.requires.long in
    let v = (get_or t.terms.now u c.index-term_day-term.result).rings.rings in
    let inside = ring_inside t c.requires.held.0 u known c.requires.held.1 c.args.i c.requires.asset c.index-term_day-term.result in
    omega (arith, inside, v.ok.0)

pub returns-in-Some-clause-value : goal.returns-in-Some-clause-value
returns-in-Some-clause-value c =
    let t = c.args.term_day.now in
    let u = c.args.term.0 in
    let fits : FitsSigned w64 c.in-Some.cell.now = search rules in
    let found : Some c.in-Some.cell.now ≡ nth_back c.args.after c.index.result.now.items = search rules in
    λ v held.
    let known = at_room t.terms.now u c.args.after c.requires.long in
    to_z-of_z w64 _ fits
    ∙ same_Some _ _ (found ∙ ap (λ (b : Ring). nth_back c.args.after b.items) c.index.ensures ∙ cell_there t v u known held c.args.i c.requires.asset c.index-term_day-term.result c.args.after c.requires.long _)

pub returns-in-Some-clause-cell : goal.returns-in-Some-clause-cell
returns-in-Some-clause-cell c =
    let t = c.args.term_day.now in
    let u = c.args.term.0 in
    let v = c.requires.held.0 in
    let fits : FitsSigned w64 c.in-Some.cell.now = search rules in
    let found : Some c.in-Some.cell.now ≡ nth_back c.args.after c.index.result.now.items = search rules in
    let known = at_room t.terms.now u c.args.after c.requires.long in
    let is : c.in-Some.cell.now ≡ earlier_cell t v u c.args.i c.args.after =
    same_Some _ _ (found ∙ ap (λ (b : Ring). nth_back c.args.after b.items) c.index.ensures ∙ cell_there t v u known c.requires.held.1 c.args.i c.requires.asset c.index-term_day-term.result c.args.after c.requires.long _) in
    subst IsCell (sym (to_z-of_z w64 _ fits ∙ is)) (cell_kept t v u known c.requires.held.1 c.args.i c.requires.asset c.index-term_day-term.result c.args.after c.requires.long)

never_both : (o : Option ℤ) (x : ℤ) → o ≡ None → o ≡ Some x → ⊥
never_both o x e f = let bad : None ≡ Some x = sym e ∙ f in cc

pub returns-in-None-clause-value : goal.returns-in-None-clause-value
returns-in-None-clause-value c =
    let t = c.args.term_day.now in
    let u = c.args.term.0 in
    let none : nth_back c.args.after c.index.result.now.items ≡ None = search rules in
    λ v held.
    let known = at_room t.terms.now u c.args.after c.requires.long in
    let found : nth_back c.args.after c.index.result.now.items ≡ Some (earlier_cell t v u c.args.i c.args.after) =
    ap (λ (b : Ring). nth_back c.args.after b.items) c.index.ensures ∙ cell_there t v u known held c.args.i c.requires.asset c.index-term_day-term.result c.args.after c.requires.long _ in
    absurd (never_both (nth_back c.args.after c.index.result.now.items) (earlier_cell t v u c.args.i c.args.after) none found)
