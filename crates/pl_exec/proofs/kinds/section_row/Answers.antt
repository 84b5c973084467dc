use Rattle.std.proofs.Common.{rules, ◌≡◌, true, arith, ◌∙◌, sym, subst, refl, Some, None}
use Rattle.pl_cross.specs.Section.{HasParameters, is_section}
use Rattle.pl_values.proofs.Rows.{section-cells, section-out, section-right}
use Rattle.pl_exec.specs.ChunkInputs.{node_at}
use Rattle.pl_exec.proofs.Givens.{fills_sids, section_is}
use Rattle.pl_exec.proofs.kinds.section_row.Goals as goal

pub section_values-requires-clause-room : goal.section_values-requires-clause-room
section_values-requires-clause-room c = omega (arith, c.requires.cross, c.input_row.ensures.long, c.requires.values)

pub section_values-requires-clause-out : goal.section_values-requires-clause-out
section_values-requires-clause-out c = omega (arith, c.requires.long, c.input_row.ensures.long, c.requires.values)

pub section_values-requires-clause-kind : goal.section_values-requires-clause-kind
section_values-requires-clause-kind c = subst (λ k. is_section k ≡ true) (sym c.kind_of.ensures) c.requires.kind

pub section_values-requires-in-None-clause-room : goal.section_values-requires-in-None-clause-room
section_values-requires-in-None-clause-room c = omega (arith, c.requires.cross, c.input_row.ensures.long, c.requires.values)

pub section_values-requires-in-None-clause-out : goal.section_values-requires-in-None-clause-out
section_values-requires-in-None-clause-out c = omega (arith, c.requires.long, c.input_row.ensures.long, c.requires.values)

pub section_values-requires-in-None-clause-kind : goal.section_values-requires-in-None-clause-kind
section_values-requires-in-None-clause-kind c = subst (λ k. is_section k ≡ true) (sym c.kind_of-in-None.ensures) c.requires.kind

pub term_row-requires-clause-read : goal.term_row-requires-clause-read
term_row-requires-clause-read c =
    let e : (node_at c.args.term_session.now).group ≡ Some c.in-Some.group.0 = search rules in
    c.requires.term_session.ready.group c.in-Some.group.0 e

pub section_values-requires-clause-parameters : goal.section_values-requires-clause-parameters
section_values-requires-clause-parameters c =
    let e : (node_at c.args.term_session.now).group ≡ Some c.in-Some.group.0 = search rules in
    let own = section_is c.args.term_session.now c.requires.term_session c.input_row.new.row c.args.keep.now (Some c.term_row.new.row) c.input_row.ensures.row c.requires.keep
    (rw e (fills_sids c.args.term_session.now c.requires.term_session _ _ c.term_row.ensures)) c.requires.kind in
    subst HasParameters (sym c.kind_of.ensures) (section-right _ _ _ _ _ _ _ _ _ _ own)

pub section_values-requires-clause-cells : goal.section_values-requires-clause-cells
section_values-requires-clause-cells c =
    let e : (node_at c.args.term_session.now).group ≡ Some c.in-Some.group.0 = search rules in
    let own = section_is c.args.term_session.now c.requires.term_session c.input_row.new.row c.args.keep.now (Some c.term_row.new.row) c.input_row.ensures.row c.requires.keep
    (rw e (fills_sids c.args.term_session.now c.requires.term_session _ _ c.term_row.ensures)) c.requires.kind in
    section-cells _ _ _ _ _ _ _ _ _ _ own

pub section_values-requires-in-None-clause-parameters : goal.section_values-requires-in-None-clause-parameters
section_values-requires-in-None-clause-parameters c =
    let e : (node_at c.args.term_session.now).group ≡ None = search rules in
    let own = section_is c.args.term_session.now c.requires.term_session c.input_row.new.row c.args.keep.now None c.input_row.ensures.row c.requires.keep (rw e refl) c.requires.kind in
    subst HasParameters (sym c.kind_of-in-None.ensures) (section-right _ _ _ _ _ _ _ _ _ _ own)

pub section_values-requires-in-None-clause-cells : goal.section_values-requires-in-None-clause-cells
section_values-requires-in-None-clause-cells c =
    let e : (node_at c.args.term_session.now).group ≡ None = search rules in
    let own = section_is c.args.term_session.now c.requires.term_session c.input_row.new.row c.args.keep.now None c.input_row.ensures.row c.requires.keep (rw e refl) c.requires.kind in
    section-cells _ _ _ _ _ _ _ _ _ _ own

pub returns-in-Some-clause-out : goal.returns-in-Some-clause-out
returns-in-Some-clause-out c =
    let e : (node_at c.args.term_session.now).group ≡ Some c.in-Some.group.0 = search rules in
    let own = section_is c.args.term_session.now c.requires.term_session c.input_row.new.row c.args.keep.now (Some c.term_row.new.row) c.input_row.ensures.row c.requires.keep
    (rw e (fills_sids c.args.term_session.now c.requires.term_session _ _ c.term_row.ensures)) c.requires.kind in
    section-out _ _ _ _ _ _ _ _ _ _ own c.section_values.new.out (c.section_values.ensures.length ∙ c.requires.long)
    (λ f q i h. c.section_values.ensures.each f (c.kind_of.ensures ∙ q) i (omega (arith, h, c.input_row.ensures.long, c.requires.values))) c.section_values.ensures.cells

pub returns-in-None-clause-out : goal.returns-in-None-clause-out
returns-in-None-clause-out c =
    let e : (node_at c.args.term_session.now).group ≡ None = search rules in
    let own = section_is c.args.term_session.now c.requires.term_session c.input_row.new.row c.args.keep.now None c.input_row.ensures.row c.requires.keep (rw e refl) c.requires.kind in
    section-out _ _ _ _ _ _ _ _ _ _ own c.section_values-in-None.new.out (c.section_values-in-None.ensures.length ∙ c.requires.long)
    (λ f q i h. c.section_values-in-None.ensures.each f (c.kind_of-in-None.ensures ∙ q) i (omega (arith, h, c.input_row.ensures.long, c.requires.values))) c.section_values-in-None.ensures.cells
