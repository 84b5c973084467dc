use Rattle.std.proofs.Common.{◌≡◌, ◌∷◌, ◌++◌, drop}
use Rattle.std.specs.List.{flat_map}
use Rattle.pl_spec.specs.Lines.{quoted_byte}
use Rattle.pl_assets.proofs.labels.texts.quoted.Given as goal

-- what has been put, and what is still to be put
abbrev pub invariant-loop-byte : goal.invariant-loop-byte
invariant-loop-byte l = l.field.items ++ flat_map quoted_byte (drop l.byte-index l.text) ≡ 34 ∷ flat_map quoted_byte l.text
