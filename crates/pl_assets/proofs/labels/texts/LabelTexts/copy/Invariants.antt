use Rattle.std.proofs.Common.{◌≡◌, take}
use Rattle.pl_assets.proofs.labels.texts.LabelTexts.copy.Given as goal

abbrev pub invariant-loop-code : goal.invariant-loop-code
invariant-loop-code l = l.texts ≡ take l.code l.self
