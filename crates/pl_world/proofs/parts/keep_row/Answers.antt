use Rattle.std.proofs.Common.{◌≡◌, ◌++◌, ◌∷◌, [], ◌&&◌, ◌∙◌, length, pos, arith, option_map, rules, w64, FitsSigned}
use Rattle.std.proofs.lemmas.Option.{IfSome_then}
use Rattle.pl_spec.specs.Parts.{sid_at}
use Rattle.pl_spec.specs.World.{exists}
use Rattle.pl_world.specs.Worlds.{world_of}
use Rattle.pl_world.specs.Evaluations.{lets_pass_at}
use Rattle.pl_world.proofs.Sections.{keep-more}
use Rattle.pl_world.proofs.parts.keep_row.Goals as goal

pub loop-col-preserved : goal.loop-col-preserved
loop-col-preserved c =
    let x = c.kept_flag.result in
    let fits : FitsSigned w64 c.kept_flag.result = search rules in
    let so_far = c.loop-col.invariant in
    let pushed : c.push.new.self.items ≡ c.loop-col.keep.items ++ c.kept_flag.result ∷ [] = search rules in
    let more = keep-more (λ i. exists (world_of c.args.world.now) (sid_at c.args.world.now.assets.now i) (pos c.args.session) && lets_pass_at (option_map (λ m. m.items) c.args.mask.now) i)
    c.loop-col.col c.loop-col.keep.items c.push.new.self.items x pushed so_far.long so_far.each c.kept_flag.ensures in
    record { long = more.0; each = more.1 }

pub kept_flag-requires-clause-mask : goal.kept_flag-requires-clause-mask
kept_flag-requires-clause-mask c = IfSome_then c.args.mask.now c.requires.mask (λ v long. omega arith)

pub returns : goal.returns
returns c =
    let end : c.loop-col.col ≡ length c.args.world.now.assets.now = omega arith in
    record { long = c.loop-col.invariant.long ∙ end; each = λ i h. c.loop-col.invariant.each i (omega (arith, end, h)) }
