-- The columns of sids.
use Rattle.std.proofs.Common.{◌≡◌, ℕ, ◌<◌, ◌≤◌, ◌^◌, pos, List, length, get_or, Some, unwrap_or, sym, ◌∙◌, ap, arith, inl, inr}
use Rattle.std.proofs.lemmas.Bool.{cases_lt}
use Rattle.std.proofs.lemmas.Option.{slice_get_within, get_or_from_slice_get}
use Rattle.pl_spec.specs.declared.AssetRow.{AssetRow}
use Rattle.pl_spec.specs.Parts.{sid_at}
use Rattle.pl_lifetimes.specs.Assets.{AreAssets, HasSid, col_in, sid_of}
use Rattle.pl_lifetimes.proofs.SidColumns.{asset_of, sid_form}
use Rattle.pl_pieces.specs.Held.{IsSidOf}

-- the column of the asset that has the sid
abbrev pub col_of : List AssetRow → ℕ → ℕ
col_of assets sid = unwrap_or (col_in assets sid) 0

module _ (assets : List AssetRow) (are : AreAssets assets) where
  pub found : (sid : ℕ) → IsSidOf assets sid → col_in assets sid ≡ Some (col_of assets sid)
  found sid h = let at : col_in assets sid ≡ Some h.0 = (sid_form assets are sid h.0).1 h.1 in at ∙ ap Some (sym (ap (λ o. unwrap_or o 0) at))

  pub has-sid : (sid : ℕ) → IsSidOf assets sid → HasSid assets (col_of assets sid) sid
  has-sid sid h = (sid_form assets are sid (col_of assets sid)).0 (found sid h)

  pub within : (sid : ℕ) → IsSidOf assets sid → col_of assets sid < length assets
  within sid h = let it = asset_of assets (col_of assets sid) sid (has-sid sid h) in slice_get_within assets (col_of assets sid) it.0 it.1

  pub sid-back : (sid : ℕ) → IsSidOf assets sid → sid_at assets (col_of assets sid) ≡ sid
  sid-back sid h = ap (λ o. unwrap_or o 0) (has-sid sid h)

  row-sid : (col sid : ℕ) (d : AssetRow) → HasSid assets col sid → (get_or assets col d).sid ≡ sid
  row-sid col sid d h = let it = asset_of assets col sid h in ap sid_of (get_or_from_slice_get assets col it.0 d it.1) ∙ it.2

  -- columns rise with the sids
  pub rises : (a b : ℕ) → IsSidOf assets a → IsSidOf assets b → a < b → col_of assets a < col_of assets b
  rises a b h k l = elim (cases_lt (col_of assets a) (col_of assets b)) [
    | inl lt ↦ lt
    | inr ge ↦ absurd (not-below ge)
  ]
    where
      not-below : col_of assets b ≤ col_of assets a → ⊥
      not-below ge =
          let no : AssetRow = record { sid = 0; start = pos 0; end = pos 0 } in
          let first : (get_or assets (col_of assets a) no).sid ≡ a = row-sid (col_of assets a) a no (has-sid a h) in
          let second : (get_or assets (col_of assets b) no).sid ≡ b = row-sid (col_of assets b) b no (has-sid b k) in
          elim (cases_lt (col_of assets b) (col_of assets a)) [
            | inl lt ↦ (let up : (get_or assets (col_of assets b) no).sid < (get_or assets (col_of assets a) no).sid = are.ascend (col_of assets b) (col_of assets a) no lt (within a h) in omega arith)
            | inr le ↦ (let same : col_of assets a ≡ col_of assets b = omega arith in let one : a ≡ b = sym first ∙ ap (λ c. (get_or assets c no).sid) same ∙ second in omega arith)
          ]

  -- and are of sids of their own
  pub one-sid : (a b : ℕ) → IsSidOf assets a → IsSidOf assets b → col_of assets a ≡ col_of assets b → a ≡ b
  one-sid a b h k e = sym (sid-back a h) ∙ ap (sid_at assets) e ∙ sid-back b k

  -- a sid is one of 32 bits
  pub small-sid : (sid : ℕ) → IsSidOf assets sid → sid < 2 ^ 32
  small-sid sid h =
      let it = asset_of assets h.0 sid h.1 in
      let at : (get_or assets h.0 it.0).sid < 2 ^ 32 = are.small h.0 it.0 (slice_get_within assets h.0 it.0 it.1) in
      rw (← it.2) (rw (get_or_from_slice_get assets h.0 it.0 it.0 it.1) at at)
