use Rattle.std.proofs.Common.{◌≡◌, true, ◌∙◌, ap, arith, sym, subst, get_or, length, pos, List, ℤ, FitsSigned, w64, w32, rules}
use Rattle.std.proofs.lemmas.Int.{to_z-of_z}
use Rattle.std.proofs.lemmas.List.{get_or-replicate}
use Rattle.pl_pipeline.specs.Kind.{Kind}
use Rattle.pl_terms.specs.Kinds.{kind_of}
use Rattle.pl_pointwise.specs.Operands.{AreOperands, IsOperation, operation}
use Rattle.pl_cross.specs.Arrays.{sid_in}
use Rattle.pl_values.specs.Families.{IsOf, is_label_test, sid_flag, code_flag}
use Rattle.pl_values.proofs.Rows.{constant-given, sid-given, label-known, number-known, codes-long, code-read, test-given, point-asks, point-given}
use Rattle.pl_daily.specs.TermDays.{assets_at, node_at, pipeline_at, sids_at}
use Rattle.pl_daily.proofs.Given.{node_is, input_read, rows_read, label_given, number_given, start_long, start_given}
use Rattle.pl_daily.proofs.families.given_row.Goals as goal

pub label_name-requires : goal.label_name-requires
label_name-requires c =
    let v = c.requires.term_day.0 in
    let is = c.requires.term_day.1 in
    let kind = subst (IsOf (node_at c.args.term_day.now).kind) c.in-Label.is c.requires.family in
    label-known _ _ _ (node_is c.args.term_day.now v is) c.in-Label.name kind

pub label_name-requires-in-Number : goal.label_name-requires-in-Number
label_name-requires-in-Number c =
    let v = c.requires.term_day.0 in
    let is = c.requires.term_day.1 in
    let kind = subst (IsOf (node_at c.args.term_day.now).kind) c.in-Number.is c.requires.family in
    number-known _ _ _ (node_is c.args.term_day.now v is) c.in-Number.figure c.in-Number.name kind

pub label_test_values-requires : goal.label_test_values-requires
label_test_values-requires c =
    let t = c.args.term_day.now in
    let v = c.requires.term_day.0 in
    let is = c.requires.term_day.1 in
    let kind = subst (IsOf (node_at t).kind) c.in-LabelTest.is c.requires.family in
    let long = codes-long v.world (pipeline_at t) (sids_at t) t.term.0 (node_at t) (node_is t v is) (λ j. j) (λ j. v.session) (assets_at t) c.row_at-codes.result.now
    (input_read t v is 0 _ c.row_at-codes.ensures) kind is.here.coded _ is.here.texts in
    record {
      kind = subst (λ (k : Kind). is_label_test k ≡ true) (sym c.kind_of-kind.ensures) kind;
      codes = λ j h. code-read v.world (pipeline_at t) (sids_at t) t.term.0 (node_at t) (node_is t v is) (λ j. j) (λ j. v.session) (assets_at t) c.row_at-codes.result.now
          (input_read t v is 0 _ c.row_at-codes.ensures) kind is.here.coded _ is.here.texts j (omega (arith, h, long));
      many = long ∙ sym c.requires.long;
    }

pub pointwise-requires : goal.pointwise-requires
pointwise-requires c =
    let t = c.args.term_day.now in
    let v = c.requires.term_day.0 in
    let is = c.requires.term_day.1 in
    let kind = subst (IsOf (node_at t).kind) c.in-Point.is c.requires.family in
    let asks = point-asks v.world (pipeline_at t) (sids_at t) t.term.0 (node_at t) (node_is t v is) (λ j. j) (λ j. v.session)
    (assets_at t) c.row_at-first.result.now c.row_at-second.result.now c.row_at-third.result.now
    (rows_read t v is _ _ _ c.row_at-first.ensures c.row_at-second.ensures c.row_at-third.ensures) kind in
    record {
      kind = subst IsOperation (sym c.kind_of-kind.ensures) asks.0;
      operands = subst (λ m. AreOperands (kind_of c.kind_of-kind.result.now) c.row_at-first.result.now c.row_at-second.result.now c.row_at-third.result.now m) (sym c.requires.long)
          (subst (λ (k : Kind). AreOperands k c.row_at-first.result.now c.row_at-second.result.now c.row_at-third.result.now (assets_at t)) (sym c.kind_of-kind.ensures) asks.1);
    }

pub copy_from_slice-requires : goal.copy_from_slice-requires
copy_from_slice-requires c =
    let kind = subst (IsOf (node_at c.args.term_day.now).kind) c.in-Downsample.is c.requires.family in
    c.requires.long ∙ sym (start_long c.args.term_day.now c.requires.term_day.0 c.requires.term_day.1 _ kind)

pub returns-in-Constant-clause-given : goal.returns-in-Constant-clause-given
returns-in-Constant-clause-given c v is i h =
    let kind = subst (IsOf (node_at c.args.term_day.now).kind) c.in-Constant.is c.requires.family in
    let value : FitsSigned w64 c.in-Constant.value = search rules in
    let filled = simp to_z-of_z at (c.fill.ensures.after (λ y same. same)) in
    constant-given _ _ _ _ _ (node_is c.args.term_day.now v is) i v.session _ c.in-Constant.value kind
    (ap (λ (l : List ℤ). get_or l i (pos 0)) filled ∙ get_or-replicate (length c.args.out.now) i c.in-Constant.value (pos 0) (omega (arith, h, c.requires.long)))

pub returns-in-Sids-clause-given : goal.returns-in-Sids-clause-given
returns-in-Sids-clause-given c v is i h =
    let kind = subst (IsOf (node_at c.args.term_day.now).kind) c.in-Sids.is c.requires.family in
    sid-given _ _ _ _ _ (node_is c.args.term_day.now v is) i v.session _ kind (c.sids_row.ensures.each i (omega (arith, h, c.requires.long))
    ∙ ap (λ (k : Kind). sid_flag k (sid_in (sids_at c.args.term_day.now) i)) c.kind_of-kind.ensures)

pub returns-in-Label-clause-given : goal.returns-in-Label-clause-given
returns-in-Label-clause-given c v is i h =
    let kind = subst (IsOf (node_at c.args.term_day.now).kind) c.in-Label.is c.requires.family in
    let day : FitsSigned w32 c.args.term_day.now.day = search rules in
    let made = simp to_z-of_z at c.label_row.ensures.each in
    label_given c.args.term_day.now v is c.in-Label.name i c.label_name.result.now _ kind c.label_name.ensures h (made i (omega (arith, h, c.requires.long)))
    (c.label_row.ensures.cells i (omega (arith, h, c.requires.long)))

pub returns-in-Number-clause-given : goal.returns-in-Number-clause-given
returns-in-Number-clause-given c v is i h =
    let kind = subst (IsOf (node_at c.args.term_day.now).kind) c.in-Number.is c.requires.family in
    let day : FitsSigned w32 c.args.term_day.now.day = search rules in
    let made = simp to_z-of_z at c.known_row.ensures.each in
    number_given c.args.term_day.now v is c.in-Number.figure c.in-Number.name i c.label_name-in-Number.result.now _ kind c.label_name-in-Number.ensures h (made i (omega (arith, h, c.requires.long)))
    (c.known_row.ensures.cells i (omega (arith, h, c.requires.long)))

pub returns-in-LabelTest-clause-given : goal.returns-in-LabelTest-clause-given
returns-in-LabelTest-clause-given c v is i h =
    let kind = subst (IsOf (node_at c.args.term_day.now).kind) c.in-LabelTest.is c.requires.family in
    test-given v.world (pipeline_at c.args.term_day.now) (sids_at c.args.term_day.now) c.args.term_day.now.term.0 (node_at c.args.term_day.now) (node_is c.args.term_day.now v is) (λ j. j) (λ j. v.session)
    (assets_at c.args.term_day.now) c.row_at-codes.result.now
    (input_read c.args.term_day.now v is 0 _ c.row_at-codes.ensures) kind is.here.coded _ is.here.texts i _ h
    (c.label_test_values.ensures.each i (omega (arith, h, c.requires.long)) ∙ ap (λ (k : Kind). code_flag c.args.term_day.now.labels.now.texts k (get_or c.row_at-codes.result.now i (pos 0)))
    c.kind_of-kind.ensures)

pub returns-in-Point-clause-given : goal.returns-in-Point-clause-given
returns-in-Point-clause-given c v is i h =
    let kind = subst (IsOf (node_at c.args.term_day.now).kind) c.in-Point.is c.requires.family in
    point-given v.world (pipeline_at c.args.term_day.now) (sids_at c.args.term_day.now) c.args.term_day.now.term.0 (node_at c.args.term_day.now) (node_is c.args.term_day.now v is) (λ j. j) (λ j. v.session)
    (assets_at c.args.term_day.now) c.row_at-first.result.now c.row_at-second.result.now c.row_at-third.result.now
    (rows_read c.args.term_day.now v is _ _ _ c.row_at-first.ensures c.row_at-second.ensures c.row_at-third.ensures) kind i _ h
    (c.pointwise.ensures.values i (omega (arith, h, c.requires.long)) ∙ ap (λ (k : Kind). operation k (get_or c.row_at-first.result.now i (pos 0)) (get_or c.row_at-second.result.now i (pos 0))
    (get_or c.row_at-third.result.now i (pos 0))) c.kind_of-kind.ensures)
    (c.pointwise.ensures.cells i (pos 0) (omega (arith, h, c.requires.long, c.pointwise.ensures.length)))

pub returns-in-Downsample-clause-given : goal.returns-in-Downsample-clause-given
returns-in-Downsample-clause-given c v is i h =
    let kind = subst (IsOf (node_at c.args.term_day.now).kind) c.in-Downsample.is c.requires.family in
    start_given c.args.term_day.now v is _ kind i _ h (ap (λ (l : List ℤ). get_or l i (pos 0)) c.copy_from_slice.ensures.after)
