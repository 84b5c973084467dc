use Rattle.std.proofs.Common.{◌≡◌, ◌<◌, ◌∙◌, true, false, ap, sym, subst, refl, rules, arith, length, FitsSigned, w64}
use Rattle.std.proofs.lemmas.Int.{to_z-of_z}
use Rattle.pl_spec.specs.Rounding.{IsCell}
use Rattle.pl_pipeline.specs.Kind.{Kind}
use Rattle.pl_pipeline.specs.Term.{term_at}
use Rattle.pl_pipeline.specs.Value.{number_of, empty, sort_kind}
use Rattle.pl_terms.specs.Kinds.{kind_of}
use Rattle.pl_terms.specs.Nodes.{graph_of}
use Rattle.pl_terms.specs.Sorts.{is_windowed}
use Rattle.pl_values.specs.Families.{IsOf}
use Rattle.pl_daily.specs.TermDays.{node_at}
use Rattle.pl_daily.specs.Windows.{windowed_by}
use Rattle.pl_daily.proofs.Given.{term_known}
use Rattle.pl_daily.proofs.Renewed.{formula_given, is_operation, kept_there, kept_within, no_formula, none_there}
use Rattle.pl_daily.proofs.anew.seen_back.Goals as goal

pub empty_value-requires : goal.empty_value-requires
empty_value-requires c = subst (λ g. c.args.term_day.now.term.0 < length g) (sym c.graph.ensures.value) (term_known c.args.term_day.now c.requires.held.0 c.requires.held.1)

pub returns-then-not-is_kept_back-clause-value : goal.returns-then-not-is_kept_back-clause-value
returns-then-not-is_kept_back-clause-value c =
    let t = c.args.term_day.now in
    let fits : FitsSigned w64 c.empty_value.result = search rules in
    let none : c.is_kept_back.result ≡ false = c.if-not-is_kept_back.true in
    λ v is held.
    to_z-of_z w64 _ fits ∙ c.empty_value.ensures
    ∙ ap (λ g. number_of (empty (sort_kind (term_at (graph_of g) t.term.0)))) c.graph.ensures.value
    ∙ sym (none_there t v c.args.fed c.args.i c.args.after c.is_kept_back.result is held none (λ within. c.is_kept_back.ensures.kept v is within held))

pub point_back-requires : goal.point_back-requires
point_back-requires c =
    let t = c.args.term_day.now in
    let within = kept_within c.args.fed c.args.after c.is_kept_back.result c.is_kept_back.ensures.early c.if-not-is_kept_back.false in
    let family = subst (λ (k : Kind). IsOf k c.family_of.result) c.kind_of.ensures c.family_of.ensures in
    record {
      held = (c.requires.held.0, c.requires.held.1, c.requires.held.2.windows within);
      kind = is_operation (node_at t).kind (no_formula (node_at t).kind c.family_of.result family c.in_default.not-Window) c.requires.moves;
      asset = c.requires.asset;
    }

pub returns-in-Window-clause-value : goal.returns-in-Window-clause-value
returns-in-Window-clause-value c =
    let t = c.args.term_day.now in
    let i = c.args.i in
    let after = c.args.after in
    let fits : FitsSigned w64 c.formula_back.result = search rules in
    let yes : c.is_kept_back.result ≡ true = c.if-not-is_kept_back.false in
    let within = kept_within c.args.fed after c.is_kept_back.result c.is_kept_back.ensures.early yes in
    let own : is_windowed (kind_of c.kind_of.result.now) ≡ true = subst (IsOf (kind_of c.kind_of.result.now)) c.in-Window.is c.family_of.ensures in
    let kind : is_windowed (node_at t).kind ≡ true = subst (λ (k : Kind). is_windowed k ≡ true) c.kind_of.ensures own in
    λ v is held.
    to_z-of_z w64 _ fits ∙ c.formula_back.ensures.value
    ∙ kept_there t v i after (windowed_by t after i) (let s = held.session in omega (arith, within, s)) (sym (c.is_kept_back.ensures.kept v is within held) ∙ yes)
    (formula_given t v i after is (held.windows within) kind c.requires.moves c.requires.asset)

pub returns-in_default : goal.returns-in_default
returns-in_default c =
    let t = c.args.term_day.now in
    let fits : FitsSigned w64 c.point_back.result = search rules in
    let yes : c.is_kept_back.result ≡ true = c.if-not-is_kept_back.false in
    let within = kept_within c.args.fed c.args.after c.is_kept_back.result c.is_kept_back.ensures.early yes in
    record {
      value = λ v is held.
          to_z-of_z w64 _ fits
          ∙ kept_there t v c.args.i c.args.after c.point_back.result (let s = held.session in omega (arith, within, s)) (sym (c.is_kept_back.ensures.kept v is within held) ∙ yes)
          (c.point_back.ensures.value v is (held.windows within));
      cell = subst IsCell (sym (to_z-of_z w64 _ fits)) c.point_back.ensures.cell;
      first = refl;
      second = refl;
      third = refl;
    }
