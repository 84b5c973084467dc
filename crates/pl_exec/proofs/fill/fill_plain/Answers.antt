use Rattle.std.proofs.Common.{◌∙◌, ap, sym, length, arith}
use Rattle.std.specs.List.{length_refill}
use Rattle.pl_exec.proofs.fill.fill_plain.Goals as goal

pub fill_over-requires-clause-first : goal.fill_over-requires-clause-first
fill_over-requires-clause-first c =
    let same = ap length c.as_mut_slice-first.ensures.value in
    let first = c.rows.invariant.first in
    omega (arith, c.requires.rows, c.rows.view_is, first, same)

pub fill_over-requires-clause-second : goal.fill_over-requires-clause-second
fill_over-requires-clause-second c =
    let same = ap length c.as_mut_slice-second.ensures.value in
    let second = c.rows.invariant.second in
    omega (arith, c.requires.rows, c.rows.view_is, second, same)

pub fill_over-requires-clause-keep : goal.fill_over-requires-clause-keep
fill_over-requires-clause-keep c =
    let same = ap length c.as_mut_slice-keep.ensures.value in
    omega (arith, c.requires.rows, c.rows.view_is, same)

pub fill_over-requires-clause-out : goal.fill_over-requires-clause-out
fill_over-requires-clause-out c =
    let same = ap length c.as_mut_slice-out.ensures.value in
    let out = c.rows.invariant.results in
    omega (arith, c.requires.rows, c.rows.view_is, out, same)

pub invariant_of-rows : goal.invariant_of-rows
invariant_of-rows c =
    let first = sym c.as_mut_slice-first.ensures.len ∙ ap length c.as_mut_slice-first.ensures.value in
    let second = sym c.as_mut_slice-second.ensures.len ∙ ap length c.as_mut_slice-second.ensures.value in
    let keep = sym c.as_mut_slice-keep.ensures.len ∙ ap length c.as_mut_slice-keep.ensures.value in
    let out = sym c.as_mut_slice-out.ensures.len ∙ ap length c.as_mut_slice-out.ensures.value in
    let kept = sym keep ∙ length_refill c.rows.inside.keep.len c.rows.inside.keep.items c.fill_over.new.keep keep in
    record {
      first = sym (length_refill c.rows.inside.first.len c.rows.inside.first.items c.fill_over.new.first first) ∙ first ∙ c.rows.invariant.first ∙ kept;
      second = sym (length_refill c.rows.inside.second.len c.rows.inside.second.items c.fill_over.new.second second) ∙ second ∙ c.rows.invariant.second ∙ kept;
      results = sym (length_refill c.rows.inside.results.len c.rows.inside.results.items c.fill_over.new.out out) ∙ out ∙ c.rows.invariant.results ∙ kept;
    }

pub returns-clause-rows : goal.returns-clause-rows
returns-clause-rows c =
    let keep = sym c.as_mut_slice-keep.ensures.len ∙ ap length c.as_mut_slice-keep.ensures.value in
    sym (length_refill c.rows.inside.keep.len c.rows.inside.keep.items c.fill_over.new.keep keep) ∙ keep ∙ c.rows.view_is
