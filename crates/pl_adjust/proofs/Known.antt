-- Which sids are those of assets.
use Rattle.std.proofs.Common.{◌≡◌, ℕ, ◌<◌, ◌^◌, ◌==◌, Bool, true, false, ℤ, pos, negsuc, List, get_or, All, Option, Some, None, IfSome, IfNone, refl, sym, ◌∙◌, ap, arith}
use Rattle.std.specs.List.{list_any, position, position_or_len}
use Rattle.std.specs.Ordering.{int_eq}
use Rattle.std.specs.Int.{FitsUnsignedBits}
use Rattle.std.specs.Int.RustNames.{unsigned_abs}
use Rattle.std.proofs.lemmas.Bool.Decides.{nat_tests}
use Rattle.std.proofs.lemmas.Int.{ints}
use Rattle.std.proofs.lemmas.List.Folds.{list_any_at, list_any_none}
use Rattle.std.proofs.lemmas.List.Quantifiers.{position-Some}
use Rattle.pl_spec.specs.declared.AssetRow.{AssetRow}
use Rattle.pl_spec.proofs.Columns.{no_asset}
use Rattle.pl_spec.proofs.Places.{first_at, nowhere}
use Rattle.pl_lifetimes.proofs.Filters.{any-same}

-- an asset has the number as its sid
abbrev pub has_sid : ℤ → List AssetRow → Bool
has_sid z assets = list_any (λ a. int_eq (pos a.sid) z) assets

pub same_sid : (sid n : ℕ) → int_eq (pos n) (pos sid) ≡ (n == sid)
same_sid sid n = grind (arith, nat_tests, ints)

pub known-found : (assets : List AssetRow) (sid i : ℕ) (d : AssetRow) → position (λ a. a.sid == sid) assets ≡ Some i → has_sid (pos sid) assets ≡ true
known-found assets sid i d e =
    let at = position-Some (λ a. a.sid == sid) assets i d e in
    any-same (λ a. int_eq (pos a.sid) (pos sid)) (λ a. a.sid == sid) assets (λ k d h. same_sid sid (get_or assets k d).sid)
    ∙ list_any_at (λ a. a.sid == sid) assets i d at.0 at.1

pub known-nowhere : (assets : List AssetRow) (sid : ℕ) → position (λ a. a.sid == sid) assets ≡ None → has_sid (pos sid) assets ≡ false
known-nowhere assets sid e =
    any-same (λ a. int_eq (pos a.sid) (pos sid)) (λ a. a.sid == sid) assets (λ k d h. same_sid sid (get_or assets k d).sid)
    ∙ list_any_none (λ a. a.sid == sid) assets (nowhere (λ a. a.sid == sid) assets e)

-- no asset has a sid of more than 32 bits, or below 0
pub unknown : (assets : List AssetRow) (z : ℤ) → All (λ a. a.sid < 2 ^ 32) assets → ((n : ℕ) → z ≡ pos n → n < 2 ^ 32 → ⊥) → has_sid z assets ≡ false
unknown assets z small out = list_any_none (λ a. int_eq (pos a.sid) z) assets (λ k d h. other (get_or assets k d).sid (int_eq (pos (get_or assets k d).sid) z) refl (small k d h))
  where
    other : (n : ℕ) (b : Bool) → int_eq (pos n) z ≡ b → n < 2 ^ 32 → int_eq (pos n) z ≡ false
    other n true e h = let same : z ≡ pos n = grind (arith, ints) in absurd (out n same h)
    other n false e h = e

pub place_found : (assets : List AssetRow) (sid i : ℕ) → position (λ a. a.sid == sid) assets ≡ Some i → i ≡ position_or_len (λ a. a.sid == sid) assets
place_found assets sid i e =
    let it = position-Some (λ a. a.sid == sid) assets i no_asset e in
    sym (first_at (λ a. a.sid == sid) assets i no_asset it.0 it.1 it.2)

-- ---- what a look-up finds

pub found_col : (assets : List AssetRow) (z : ℤ) (sid : ℕ) (o : Option ℕ) → FitsUnsignedBits 32 z → sid ≡ unsigned_abs z → o ≡ position (λ a. a.sid == sid) assets
    → IfSome o (λ col. (has_sid z assets ≡ true) × (col ≡ position_or_len (λ a. a.sid == unsigned_abs z) assets))
found_col assets (negsuc n) sid o fits is e = absurd fits
found_col assets (pos n) sid None fits is e = tt
found_col assets (pos n) sid (Some i) fits is e =
    let found : position (λ a. a.sid == n) assets ≡ Some i = ap (λ m. position (λ (a : AssetRow). a.sid == m) assets) (sym is) ∙ sym e in
    (known-found assets n i (record { sid = 0; start = pos 0; end = pos 0 }) found, place_found assets n i found)

pub found_none : (assets : List AssetRow) (z : ℤ) (sid : ℕ) (o : Option ℕ) → FitsUnsignedBits 32 z → sid ≡ unsigned_abs z → o ≡ position (λ a. a.sid == sid) assets → IfNone o (has_sid z assets ≡ false)
found_none assets (negsuc n) sid o fits is e = absurd fits
found_none assets (pos n) sid (Some i) fits is e = tt
found_none assets (pos n) sid None fits is e = known-nowhere assets n (ap (λ m. position (λ (a : AssetRow). a.sid == m) assets) (sym is) ∙ sym e)

pub found_unknown : (assets : List AssetRow) (z : ℤ) → All (λ a. a.sid < 2 ^ 32) assets → (FitsUnsignedBits 32 z → ⊥) → has_sid z assets ≡ false
found_unknown assets (pos n) small out = unknown assets (pos n) small (λ m same h. out (let e : n ≡ m = (let f : pos n ≡ pos m = same in cc) in omega arith))
found_unknown assets (negsuc n) small out = unknown assets (negsuc n) small (λ m same h. let f : negsuc n ≡ pos m = same in cc)
