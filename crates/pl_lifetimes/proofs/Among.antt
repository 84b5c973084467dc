-- Which sids are those of assets that pass a test.
use Rattle.std.proofs.Common.{◌≡◌, ℕ, zero, suc, ◌<◌, ◌==◌, Bool, true, false, List, [], ◌∷◌, length, map, filter, get_or, slice_get, Some, None, refl, ap, arith}
use Rattle.std.specs.List.{list_any, AllPairs}
use Rattle.std.proofs.lemmas.Bool.Decides.{nat_tests}
use Rattle.std.proofs.lemmas.Option.{get_or_from_slice_get, slice_get_within}
use Rattle.pl_spec.specs.declared.AssetRow.{AssetRow}

-- a sid is among those of the assets that pass a test
abbrev pub is_among : (AssetRow → Bool) → List AssetRow → ℕ → Bool
is_among p assets sid = list_any (λ s. s == sid) (map (λ a. a.sid) (filter p assets))

other : (p : AssetRow → Bool) (a : AssetRow) (assets : List AssetRow) (sid : ℕ) (b : Bool) → p a ≡ b → (a.sid == sid) ≡ false → is_among p (a ∷ assets) sid ≡ is_among p assets sid
other p a assets sid true e ne = rw (e, ne) refl
other p a assets sid false e ne = rw e refl

none-above : (p : AssetRow → Bool) (assets : List AssetRow) (sid : ℕ) → ((k : ℕ) (d : AssetRow) → k < length assets → sid < (get_or assets k d).sid) → is_among p assets sid ≡ false
none-above p [] sid h = refl
none-above p (a ∷ assets) sid h =
    let above : sid < a.sid = h 0 a (omega arith) in
    let ne : (a.sid == sid) ≡ false = grind (arith, nat_tests) in
    rw (other p a assets sid (p a) refl ne) (none-above p assets sid (λ k d l. h (suc k) d (omega arith)))

first : (p : AssetRow → Bool) (a : AssetRow) (assets : List AssetRow) (b : Bool) → p a ≡ b → ((k : ℕ) (d : AssetRow) → k < length assets → a.sid < (get_or assets k d).sid) → is_among p (a ∷ assets) a.sid ≡ b
first p a assets true e h = let same : (a.sid == a.sid) ≡ true = grind (arith, nat_tests) in rw (e, same) refl
first p a assets false e h = rw e (none-above p assets a.sid h)

-- of the asset at a place: exactly where it passes the test
pub among-at : (p : AssetRow → Bool) (assets : List AssetRow) (col : ℕ) (a : AssetRow) → AllPairs (λ x y. x.sid < y.sid) assets → slice_get assets col ≡ Some a → is_among p assets a.sid ≡ p a
among-at p [] col a up e = absurd (let no : None ≡ Some a = e in cc)
among-at p (x ∷ xs) zero a up e =
    let same : x ≡ a = cc in
    rw (← same) (first p x xs (p x) refl (λ k d l. up 0 (suc k) d (omega arith) (omega arith)))
among-at p (x ∷ xs) (suc col) a up e =
    let there : slice_get xs col ≡ Some a = e in
    let inside : col < length xs = slice_get_within xs col a there in
    let is_a : get_or xs col x ≡ a = get_or_from_slice_get xs col a x there in
    let below : x.sid < (get_or xs col x).sid = up 0 (suc col) x (omega arith) (omega arith) in
    let same : (get_or xs col x).sid ≡ a.sid = ap (λ (r : AssetRow). r.sid) is_a in
    let ne : (x.sid == a.sid) ≡ false = grind (arith, nat_tests) in
    rw (other p x xs a.sid (p x) refl ne) (among-at p xs col a (λ i j d l m. up (suc i) (suc j) d (omega arith) (omega arith)) there)
