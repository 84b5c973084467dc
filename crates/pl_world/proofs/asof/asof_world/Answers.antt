use Rattle.std.proofs.Common.{arith, rules, FitsSigned, w32}
use Rattle.std.proofs.lemmas.Int.{to_z-of_z}
use Rattle.pl_world.specs.declared.owned.OwnedWorld.{OwnedWorld}
use Rattle.pl_world.proofs.Known.{AreCut, is_known, is_owned, shows_same}
use Rattle.pl_world.proofs.asof.asof_world.Goals as goal

pub overflow_add-session : goal.overflow_add-session
overflow_add-session c = omega (arith, c.requires.within, c.day-day.ensures.few)

pub returns : goal.returns
returns c =
    let fits : FitsSigned w32 c.day-day.result = search rules in
    let parts : OwnedWorld = record { sessions = c.in_ok-sessions.sessions; assets = c.in_ok-assets.assets; labels = c.in_ok-labels.labels; bars = c.in_ok-bars.bars; adjustments = c.in_ok-adjustments.adjustments; numbers = c.in_ok-numbers.numbers } in
    let cut : AreCut c.args.world.now c.args.session c.day-day.result parts = record {
      is_day = c.day-day.ensures.exact;
      sessions = c.in_ok-sessions.ensures;
      assets = c.in_ok-assets.ensures;
      labels = simp to_z-of_z at c.in_ok-labels.ensures.rows;
      texts = c.in_ok-labels.ensures.texts;
      bars = c.in_ok-bars.ensures;
      adjustments = simp to_z-of_z at c.in_ok-adjustments.ensures;
      numbers = simp to_z-of_z at c.in_ok-numbers.ensures.rows;
    } in
    record {
      known = is_known c.args.world.now c.args.session c.day-day.result parts cut c.parts_make_a_world.ensures;
      made = is_owned c.args.world.now c.args.session c.day-day.result parts cut c.parts_make_a_world.ensures;
      same = shows_same c.args.world.now c.args.session c.day-day.result parts cut c.parts_make_a_world.ensures;
    }
