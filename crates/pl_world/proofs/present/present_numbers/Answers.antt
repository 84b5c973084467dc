use Rattle.std.proofs.Common.{◌≡◌, ◌+◌, ◌∙◌, ℕ, ap, ap₂, sym, length, sum_by, arith}
use Rattle.std.specs.List.{range_with_len}
use Rattle.std.proofs.lemmas.List.Sums.{sum_by_push}
use Rattle.pl_spec.proofs.Ranges.{range-next}
use Rattle.pl_terms.specs.Checked.{pipeline_of}
use Rattle.pl_world.specs.Present.{present_in, present_numbers}
use Rattle.pl_world.specs.Worlds.{world_of}
use Rattle.pl_world.proofs.present.present_numbers.Goals as goal

pub loop-t-preserved : goal.loop-t-preserved
loop-t-preserved c =
    let f : ℕ → ℕ = present_in (world_of c.args.world.now) (pipeline_of c.args.checked.now) c.args.from c.args.to in
    let t = c.loop-t.t in
    record {
      count = ap₂ (λ (a b : ℕ). a + b) c.loop-t.invariant.count c.present_in-count.ensures.count ∙ sym (ap (sum_by f) (range-next t) ∙ sum_by_push f (range_with_len 0 t) t);
      few = omega arith;
    }

pub returns : goal.returns
unfolding present_numbers
returns c =
    let end : c.loop-t.t ≡ length (pipeline_of c.args.checked.now).graph = omega arith in
    c.loop-t.invariant.count ∙ ap (λ n. sum_by (present_in (world_of c.args.world.now) (pipeline_of c.args.checked.now) c.args.from c.args.to) (range_with_len 0 n)) end
