use Rattle.std.proofs.Common.{◌≡◌, ◌∙◌, true, false, ap, sym, subst, rules, FitsSigned, w64}
use Rattle.std.proofs.lemmas.Int.{to_z-of_z}
use Rattle.pl_spec.specs.Rounding.{IsCell}
use Rattle.pl_spec.specs.Cells.{is_true}
use Rattle.pl_values.specs.Arrays.{chosen}
use Rattle.pl_daily.specs.Windows.{windowed_by}
use Rattle.pl_daily.proofs.windows.window_cell.Goals as goal

pub window_back-requires : goal.window_back-requires
window_back-requires c = record {
  held = (c.requires.term_day.0, c.requires.term_day.1, c.requires.term_day.1.windows c.requires.kind);
  kind = c.requires.kind;
  asset = c.requires.asset;
  first = c.requires.first;
  second = c.requires.second;
  third = c.requires.third;
}

pub returns-then-not-is_one-clause-value : goal.returns-then-not-is_one-clause-value
returns-then-not-is_one-clause-value c =
    let k : FitsSigned w64 c.args.keep = c.ranges.keep in
    let e : FitsSigned w64 c.args.empty = c.ranges.empty in
    let is : is_true c.args.keep ≡ false = ap is_true (sym (to_z-of_z w64 _ k)) ∙ sym c.is_one.ensures ∙ c.if-not-is_one.true in
    to_z-of_z w64 _ e ∙ sym (ap (λ b. chosen b (windowed_by c.args.term_day.now 0 c.args.i) c.args.empty) is)

pub returns-clause-value : goal.returns-clause-value
returns-clause-value c =
    let t = c.args.term_day.now in
    let i = c.args.i in
    let k : FitsSigned w64 c.args.keep = c.ranges.keep in
    let is : is_true c.args.keep ≡ true = ap is_true (sym (to_z-of_z w64 _ k)) ∙ sym c.is_one.ensures ∙ c.if-not-is_one.false in
    let r : FitsSigned w64 c.window_back.result = search rules in
    to_z-of_z w64 _ r
    ∙ c.window_back.ensures.value
    ∙ sym (ap (λ b. chosen b (windowed_by t 0 i) c.args.empty) is)

pub returns-then-not-is_one-clause-cell : goal.returns-then-not-is_one-clause-cell
returns-then-not-is_one-clause-cell c =
    let e : FitsSigned w64 c.args.empty = c.ranges.empty in
    subst IsCell (sym (to_z-of_z w64 _ e)) c.requires.none

pub returns-clause-cell : goal.returns-clause-cell
returns-clause-cell c =
    let r : FitsSigned w64 c.window_back.result = search rules in
    subst IsCell (sym (to_z-of_z w64 _ r)) c.window_back.ensures.cell
