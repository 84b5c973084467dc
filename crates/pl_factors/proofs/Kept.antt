-- A cell, or a flag, written in 64 bits and read again is the same.
use Rattle.std.proofs.Common.{◌≡◌, ◌∙◌, ℤ, w64, to_z, of_z, inl, inr, refl}
use Rattle.std.proofs.lemmas.Int.{to_z-of_z}
use Rattle.pl_spec.specs.Rounding.{IsCell}
use Rattle.pl_lanes.specs.Flags.{IsFlag}
use Rattle.pl_lanes.proofs.Bits.{cell-fits}

pub kept : (x : ℤ) → IsCell x → to_z w64 (of_z w64 x) ≡ x
kept x h = to_z-of_z w64 x (cell-fits x h)

pub kept_cell : (x : ℤ) → IsCell x → IsCell (to_z w64 (of_z w64 x))
kept_cell x h = rw (kept x h) h

pub kept_value : (x v : ℤ) → IsCell x → x ≡ v → to_z w64 (of_z w64 x) ≡ v
kept_value x v h e = kept x h ∙ e

pub kept_flag : (x : ℤ) → IsFlag x → IsFlag (to_z w64 (of_z w64 x))
kept_flag x (inl e) = rw e (inl refl)
kept_flag x (inr e) = rw e (inr refl)
