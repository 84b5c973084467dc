-- The errors of the reader of derivations.
use Rattle.std.proofs.Common.{◌≡◌, ◌⊎◌, inl, inr, ℕ, List, Some, refl}
use Rattle.pl_derivation.specs.Texts.{lines_in}
use Rattle.pl_derivation.specs.Reading.{IsLinesFault}
use Rattle.pl_derivation.specs.declared.read.LinesError.{LinesError}
use Rattle.pl_derivation.specs.declared.read.LinesError.TheVariants as errors
use Rattle.pl_load.specs.declared.fault.Fault.{Fault}
use Rattle.pl_load.specs.declared.fault.Fault.TheVariants.{Memory}
use Rattle.pl_load.specs.Rules.{lines_error}
use Rattle.pl_load.specs.Work.{fault_of_lines}

-- the fault that an error of the reader tells
pub lines-tell : (text : List ℕ) (e : LinesError) (fault : Fault) → fault ≡ lines_error e → IsLinesFault text e
    → (fault_of_lines (lines_in text) ≡ Some fault) ⊎ (fault ≡ Memory)
lines-tell text (errors.BadLine n) fault e h = inl (rw (h, e) refl)
lines-tell text (errors.TooMany n) fault e h = inl (rw (h, e) refl)
lines-tell text errors.Memory fault e h = inr e
