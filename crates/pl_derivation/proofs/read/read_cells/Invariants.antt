use Rattle.std.specs.Prelude.{◌≡◌, suc, All, length, option_map, Option, Some, None, ℕ, List}
use Rattle.pl_spec.specs.Rounding.{IsCell}
use Rattle.pl_derivation.specs.Texts.{pieces, numbers_in}
use Rattle.pl_derivation.specs.Reading.{behind, with_front}
use Rattle.pl_derivation.proofs.read.read_cells.Given as goal

abbrev pub invariant-loop-left : goal.invariant-loop-left
invariant-loop-left l = record {
  stated : numbers_in (pieces 32 l.fn.text) ≡ with_front l.cells.items (numbers_in (behind 32 (option_map (λ r. r.now) l.left)));
  cells : All IsCell l.cells.items;
}

abbrev pub decreases-loop-left : goal.decreases-loop-left
decreases-loop-left l = length_left (option_map (λ r. r.now) l.left)
  where
    length_left : Option (List ℕ) → ℕ
    length_left None = 0
    length_left (Some text) = suc (length text)
