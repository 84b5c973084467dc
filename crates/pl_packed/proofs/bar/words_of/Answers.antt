use Rattle.std.proofs.Common.{◌∷◌, map, ap, ◌∙◌}
use Rattle.std.specs.Int.{w64, cast_unsigned}
use Rattle.pl_packed.proofs.BarWords.{five-words}
use Rattle.pl_packed.proofs.bar.words_of.Goals as goal

pub returns : goal.returns
returns c =
    five-words c.args.bar.now.cells _ _ _ _ _ _ _ c.requires.five c.requires.cells c.cast_unsigned.ensures c.cast_unsigned-2.ensures c.cast_unsigned-3.ensures
    c.cast_unsigned-4.ensures c.cast_unsigned-5.ensures
    ∙ ap (λ key. key ∷ map (λ v. cast_unsigned w64 v) c.args.bar.now.cells) c.key.ensures
