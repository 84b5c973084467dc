-- The column of the asset that has a sid.
use Rattle.std.proofs.Common.{◌≡◌, ◌↔◌, ℕ, ◌<◌, ◌==◌, false, List, length, get_or, Option, Some, None, option_map, unwrap_or, refl, sym, ◌∙◌, ap, arith, eq-eqb, eqb-true}
use Rattle.std.specs.Bool.{Decides}
use Rattle.std.specs.List.{slice_get, AllPairs}
use Rattle.std.proofs.lemmas.Bool.{true≢false}
use Rattle.std.proofs.lemmas.Bool.Decides.{nat_tests}
use Rattle.std.proofs.lemmas.List.Quantifiers.{position-Some}
use Rattle.std.proofs.lemmas.Option.{slice_get-get_or, slice_get_within, get_or_from_slice_get}
use Rattle.pl_records.specs.RuleTable.{lacks}
use Rattle.pl_records.specs.Reading.{Record}
use Rattle.pl_records.proofs.RuleTables.{and_then_some, lacks-none, lacks-tells, map_some}
use Rattle.pl_spec.specs.declared.AssetRow.{AssetRow}
use Rattle.pl_spec.proofs.Places.{is_at, nowhere}
use Rattle.pl_spec.proofs.Columns.{no_asset}
use Rattle.pl_lifetimes.specs.Assets.{sid_of, col_in, placed, AreAssets, HasSid, IsPlaced}

col_found : (assets : List AssetRow) (sid col : ℕ) → col_in assets sid ≡ Some col → HasSid assets col sid
col_found assets sid col e =
    let it = position-Some (λ a. sid_of a == sid) assets col no_asset e in
    ap (option_map sid_of) (slice_get-get_or assets col no_asset it.0) ∙ ap Some (eqb-true (sid_of (get_or assets col no_asset)) sid it.1)

some_sid : (a : AssetRow) (sid : ℕ) → option_map sid_of (Some a) ≡ Some sid → sid_of a ≡ sid
some_sid a sid e = let u : Some (sid_of a) ≡ Some sid = e in cc

-- an asset that has the sid
pub asset_of : (assets : List AssetRow) (col sid : ℕ) → HasSid assets col sid → (a : AssetRow) × (slice_get assets col ≡ Some a) × (sid_of a ≡ sid)
asset_of assets col sid h = here (slice_get assets col) refl h
  where
    here : (o : Option AssetRow) → slice_get assets col ≡ o → option_map sid_of o ≡ Some sid → (a : AssetRow) × (slice_get assets col ≡ Some a) × (sid_of a ≡ sid)
    here None s t = absurd (let bad : None ≡ Some sid = t in cc)
    here (Some a) s t = (a, s, some_sid a sid t)

pub no_col_found : (assets : List AssetRow) (sid : ℕ) → col_in assets sid ≡ None → (col : ℕ) → HasSid assets col sid → ⊥
no_col_found assets sid e col h =
    let it = asset_of assets col sid h in
    let test : (sid_of it.0 == sid) ≡ false = ap (λ a. sid_of a == sid) (sym (get_or_from_slice_get assets col it.0 it.0 it.1)) ∙ nowhere (λ a. sid_of a == sid) assets e col it.0 (slice_get_within assets col it.0 it.1) in
    true≢false (sym (eq-eqb (sid_of it.0) sid it.2) ∙ test)

other_sid : (a b sid : ℕ) → a < b → b ≡ sid → (a == sid) ≡ false
other_sid a b sid h e = grind (arith, nat_tests)

-- the first column of a sid is the one that has it
pub sid_first : (assets : List AssetRow) (sid i : ℕ) → AllPairs (λ a b. a.sid < b.sid) assets → i < length assets → HasSid assets i sid → col_in assets sid ≡ Some i
sid_first assets sid i up h at =
    let e : sid_of (get_or assets i no_asset) ≡ sid = ap (λ o. unwrap_or o 0) (sym (ap (option_map sid_of) (slice_get-get_or assets i no_asset h)) ∙ at) in
    is_at (λ a. sid_of a == sid) assets i no_asset h (eq-eqb _ _ e) (λ k l. other_sid _ _ sid (up k i no_asset l h) e)

-- the look-up of a sid finds the column whose asset has it
pub sid_form : (assets : List AssetRow) → AreAssets assets → (sid col : ℕ) → (col_in assets sid ≡ Some col) ↔ HasSid assets col sid
sid_form assets up sid col =
    (col_found assets sid col, λ h. let it = asset_of assets col sid h in sid_first assets sid col up.ascend (slice_get_within assets col it.0 it.1) h)

-- a sid that is not lacking is that of an asset
pub sid_known : (assets : List AssetRow) → AreAssets assets → (sid : ℕ) → lacks (col_in assets sid) ≡ false → (col : ℕ) × HasSid assets col sid
sid_known assets up sid t = let it = lacks-none (col_in assets sid) t in (it.0, (sid_form assets up sid it.0).0 it.1)

pub unknown_tells : (assets : List AssetRow) → AreAssets assets → (sid : ℕ) → Decides (lacks (col_in assets sid)) ((col : ℕ) → ¬ HasSid assets col sid)
unknown_tells assets up = lacks-tells (col_in assets) (λ sid col. HasSid assets col sid) (sid_form assets up)

-- ---- rows in the columns of assets

module _ {Said Row : Type 0} (said_in : Record → Option Said) (IsRecord : Record → Said → Type 0) (sid : Said → ℕ) (in_column : Said → ℕ → Row) (form : (r : Record) (x : Said) → (said_in r ≡ Some x) ↔ IsRecord r x)
    (assets : List AssetRow) (up : AreAssets assets) (r : Record) where
  pub placed_form : (row : Row) → (placed said_in sid in_column assets r ≡ Some row) ↔ IsPlaced IsRecord sid in_column assets r row
  placed_form row = (
    λ e. (let x = and_then_some (said_in r) (λ x. option_map (in_column x) (col_in assets (sid x))) row e in
        let c = map_some (col_in assets (sid x.0)) (in_column x.0) row x.2 in
        record { said = x.0; written = (form r x.0).0 x.1; col = c.0; asset = (sid_form assets up (sid x.0) c.0).0 c.1; same = c.2 }),
    λ h. rw ((form r h.said).1 h.written, (sid_form assets up (sid h.said) h.col).1 h.asset) (ap Some h.same),
  )
