use Rattle.std.proofs.Common.{pos, ap, ◌∙◌}
use Rattle.pl_derivation.specs.Facts.Fact.{TermValue}
use Rattle.pl_terms.specs.Checked.{pipeline_of}
use Rattle.pl_world.specs.Worlds.{world_of}
use Rattle.pl_world.proofs.Evaluated.{sid-of}
use Rattle.pl_explain.specs.Looking.{look}
use Rattle.pl_explain.specs.Given.{sid_in}
use Rattle.pl_explain.proofs.Given.{stated-one}
use Rattle.pl_explain.proofs.inputs.term_stated.Goals as goal

pub returns : goal.returns
returns c =
    let b = c.args.basis.now in
    let at = sid-of b.world.assets.now c.args.col c.sid.result c.sid.ensures in
    stated-one b.stated.now (world_of b.world) (pipeline_of b.checked.now) c.requires.on.truth (TermValue c.args.t.0 (sid_in b c.args.col) (pos c.args.session)) c.number.result
    (c.number.ensures ∙ ap (λ a. look b.stated.now (TermValue c.args.t.0 a (pos c.args.session))) at)
