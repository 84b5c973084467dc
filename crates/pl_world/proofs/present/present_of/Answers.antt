use Rattle.std.proofs.Common.{◌≡◌, ◌≤◌, ◌+◌, ◌-◌, ◌&&◌, ◌∙◌, suc, pos, ap, sym, arith}
use Rattle.std.specs.List.{range_with_len, count_by}
use Rattle.pl_spec.specs.Parts.{sid_at}
use Rattle.pl_spec.specs.Rounding.{is_present}
use Rattle.pl_spec.specs.World.{exists, known_number}
use Rattle.pl_world.specs.Worlds.{world_of}
use Rattle.pl_world.proofs.Counted.{count-with, count-without}
use Rattle.pl_world.proofs.present.present_of.Goals as goal
use Rattle.pl_world.proofs.present.present_of.Goals.{then-has_number, else-has_number}

pub loop-session-preserved : goal.loop-session-preserved
loop-session-preserved c =
    let w = world_of c.args.world.now in
    let a = sid_at c.args.world.now.assets.now c.args.col in
    let from : c.args.from ≤ c.loop-session.session = c.loop-session.invariant.from in
    elim c.if-has_number.branch [
      | then-has_number b ↦
          rw b.count-is record {
            from = omega arith;
            count = ap (λ n. n + 1) c.loop-session.invariant.count
                ∙ sym (count-with (λ s. exists w a (pos s) && is_present (known_number w c.args.figure c.args.name.now a (pos s))) c.args.from c.loop-session.session from (sym c.has_number.ensures ∙ b.if-has_number.true));
            few = omega arith;
          }
      | else-has_number b ↦
          rw b.count-is record {
            from = omega arith;
            count = c.loop-session.invariant.count
                ∙ sym (count-without (λ s. exists w a (pos s) && is_present (known_number w c.args.figure c.args.name.now a (pos s))) c.args.from c.loop-session.session from (sym c.has_number.ensures ∙ b.if-has_number.false));
            few = omega arith;
          }
    ]

pub returns-clause-count : goal.returns-clause-count
returns-clause-count c =
    let w = world_of c.args.world.now in
    let a = sid_at c.args.world.now.assets.now c.args.col in
    let end : c.loop-session.session - c.args.from ≡ suc c.args.to - c.args.from = omega arith in
    c.loop-session.invariant.count
    ∙ ap (λ n. count_by (λ s. exists w a (pos s) && is_present (known_number w c.args.figure c.args.name.now a (pos s))) (range_with_len c.args.from n)) end
