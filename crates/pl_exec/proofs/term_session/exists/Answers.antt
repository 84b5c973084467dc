use Rattle.std.proofs.Common.{w32, FitsSigned, sym, ap, ◌∙◌, pos, get_or}
use Rattle.std.proofs.lemmas.Int.{to_z-of_z}
use Rattle.pl_spec.specs.World.{exists}
use Rattle.pl_world.specs.Worlds.{world_of}
use Rattle.pl_world.proofs.Lifetimes.{exists-at}
use Rattle.pl_exec.proofs.Places.{sid_of_place}
use Rattle.pl_exec.proofs.term_session.exists.Goals as goal

pub returns : goal.returns
returns c =
    let day : FitsSigned w32 c.args.day = c.ranges.day in
    let lives = simp to_z-of_z at c.exists.ensures.exact in
    let j = c.args.term_session.now.chunk.now in
    sym (ap (λ a. exists (world_of c.args.term_session.now.chunk.now.world) a (pos c.args.term_session.now.session)) (sid_of_place c.args.term_session.now.chunk.now.world.assets.now c.args.term_session.now.chunk.now.cols.now c.args.i c.requires.asset)
    ∙ exists-at (world_of c.args.term_session.now.chunk.now.world) (get_or c.args.term_session.now.chunk.now.cols.now c.args.i 0) c.args.term_session.now.session c.args.day c.exists.result c.exists.ensures.assets.ascend c.requires.day lives)
