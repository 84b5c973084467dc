-- Bars that are read one by one.
use Rattle.std.specs.Prelude.{◌≡◌, ℕ, ◌*◌, ⊤, List, take, length, flat_map}
use Rattle.pl_spec.specs.declared.BarRow.{BarRow}
use Rattle.pl_packed.specs.Fit.{AreKept}
use Rattle.pl_packed.specs.Packed.{words_of, words_bytes}
use Rattle.pl_packed.specs.Summed.{AreSums}
use Rattle.pl_packed.specs.Says.{IsBadBar}
use Rattle.pl_packed.specs.declared.sums.Sums.{Sums}
use Rattle.pl_packed.specs.declared.error.UnpackError.{UnpackError}
use Rattle.pl_packed.specs.declared.error.UnpackError.TheVariants.{BadBar, Memory}

-- the bytes begin with these bars, whose words have these sums
pub record AreRead (cols sessions : ℕ) (bars : List BarRow) (sums : Sums) (after : List ℕ) : Type 0 where
  pub kept : AreKept cols sessions bars
  pub bytes : words_bytes (flat_map words_of bars) ≡ take (48 * length bars) after
  pub summed : AreSums sums (flat_map words_of bars)

-- a bar that is none, or want of memory
abbrev pub IsStop : ℕ → ℕ → ℕ → List ℕ → UnpackError → Type 0
IsStop cols sessions count after (BadBar place) = IsBadBar cols sessions count after place
IsStop cols sessions count after Memory = ⊤
IsStop cols sessions count after error = ⊥
