use Rattle.std.specs.Prelude.{◌≡◌, ◌++◌, ◌∷◌, [], flat_map, take}
use Rattle.pl_derivation.specs.Texts.{number_text}
use Rattle.pl_derivation.proofs.print.put_numbers.Given as goal

abbrev pub invariant-loop-number : goal.invariant-loop-number
invariant-loop-number l = l.bytes.items ≡ l.fn.bytes.items ++ flat_map (λ x. (32 ∷ []) ++ number_text x) (take l.number-index l.numbers)
