-- What rows show, and what is told of places.
use Rattle.std.proofs.Common.{◌≡◌, ℕ, zero, suc, ◌<◌, ℤ, pos, List, [], ◌∷◌, length, get_or, ap, arith, Option, Some, None, option_map, unwrap_or, slice_get, IfSome}
use Rattle.std.specs.Borrow.{Bor}
use Rattle.pl_spec.specs.declared.AssetRow.{AssetRow}
use Rattle.pl_spec.specs.Rounding.{IsCell}
use Rattle.pl_lifetimes.specs.Assets.{sid_of}
use Rattle.pl_cross.specs.Arrays.{sid_in}
use Rattle.pl_values.specs.Arrays.{kept_or}
use Rattle.pl_daily.specs.Rows.{Shows, sids_of}

-- what the row shows in a place
abbrev pub ShowsAt : (ℕ → ℤ) → ℤ → List ℤ → ℕ → ℤ → Type 0
ShowsAt f none keep i x = (x ≡ kept_or none keep f i) × IsCell x

pub all_shown : (f : ℕ → ℤ) (none : ℤ) (keep row : List ℤ) → length row ≡ length keep → ((i : ℕ) → i < length keep → ShowsAt f none keep i (get_or row i (pos 0))) → Shows f none keep row
all_shown f none keep row long each = record { long = long; each = λ i h. (each i h).0; cell = λ i h. (each i h).1 }

pub sid_told : (assets : List AssetRow) (i sid : ℕ) → option_map sid_of (slice_get assets i) ≡ Some sid → sid_in (sids_of assets) i ≡ sid
sid_told [] i sid e = absurd (let bad : None ≡ Some sid = e in cc)
sid_told (a ∷ others) zero sid e = ap (λ o. unwrap_or o 0) e
sid_told (a ∷ others) (suc i) sid e = sid_told others i sid e

pub mask_within : (o : Option (Bor (List ℤ))) (n i : ℕ) → IfSome o (λ m. length m.now ≡ n) → i < n → IfSome o (λ m. i < length m.now)
mask_within None n i h l = tt
mask_within (Some m) n i h l = omega (arith, h, l)
