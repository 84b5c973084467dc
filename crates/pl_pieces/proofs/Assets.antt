-- The assets of a world read back.
use Rattle.std.proofs.Common.{◌≡◌, ℕ, ◌<◌, ◌^◌, false, ◌≤ℤ◌, List, [], ◌∷◌, ◌++◌, map, get_or, All, Some, Ok, refl, sym, ◌∙◌, ap, append_assoc, arith}
use Rattle.std.specs.Fmt.{decimal}
use Rattle.std.specs.Int.RustNames.{int_lt}
use Rattle.std.proofs.lemmas.Int.{ints}
use Rattle.pl_records.specs.Reading.{Record, ◌>>=◌}
use Rattle.pl_records.specs.Records.{csv_records}
use Rattle.pl_records.specs.Sorted.{HasOwnKeys, sorted_by}
use Rattle.pl_records.proofs.Sorts.{rise-sorted}
use Rattle.pl_spec.specs.Dates.{date_text}
use Rattle.pl_spec.specs.Limits.{most_assets}
use Rattle.pl_spec.specs.World.{World}
use Rattle.pl_spec.specs.declared.AssetRow.{AssetRow}
use Rattle.pl_spec.proofs.SidsRead.{sid_in-decimal}
use Rattle.pl_lifetimes.specs.Assets.{AreAssets, asset_in, asset_or_rule, assets_of, header, rows_in, sid_of}
use Rattle.pl_lifetimes.specs.Assets as rules
use Rattle.pl_parts.specs.Texts.{asset_line, assets_header, assets_text}
use Rattle.pl_pieces.specs.Held.{IsLifetime}
use Rattle.pl_pieces.proofs.Csv.{IsLine, lines-under, many-line}
use Rattle.pl_pieces.proofs.Days.{text-of-day}
use Rattle.pl_pieces.proofs.Fields.{date-plain, date-read, sid-plain}
use Rattle.pl_pieces.proofs.Rows.{before-one, few-before, of-one, own-key, under-read}

abbrev fields : AssetRow → Record
fields a = decimal a.sid ∷ date_text a.start ∷ date_text a.end ∷ []

joined : (x y z : List ℕ) → x ++ 44 ∷ y ++ 44 ∷ z ++ 10 ∷ [] ≡ x ++ (44 ∷ (y ++ (44 ∷ (z ++ 10 ∷ []))))
joined x y z = simp append_assoc

line : (a : AssetRow) → a.sid < 2 ^ 32 → IsLifetime a → IsLine (asset_line a) (fields a)
line a small h =
    many-line (decimal a.sid) (date_text a.start) (date_text a.end ∷ []) (asset_line a)
    (rw (sid-plain a.sid (omega arith), date-plain a.start h.start, date-plain a.end h.end, text-of-day a.start h.start, text-of-day a.end h.end)
    (joined (decimal a.sid) (date_text a.start) (date_text a.end)))

head : IsLine assets_header header
head = many-line _ _ _ assets_header refl

said : (a : AssetRow) → a.sid < 2 ^ 32 → IsLifetime a → asset_in (fields a) ≡ Some a
said a small h = rw (sid_in-decimal (decimal a.sid) a.sid small refl, date-read a.start h.start, date-read a.end h.end) refl

forward : (a : AssetRow) → a.start ≤ℤ a.end → int_lt a.end a.start ≡ false
forward a h = grind (arith, ints)

module _ (rows : List AssetRow) (are : AreAssets rows) (lives : All IsLifetime rows) where
  says : (before : List AssetRow) (x : AssetRow) (after : List AssetRow) → before ++ x ∷ after ≡ rows → asset_or_rule before (fields x) ≡ Ok x
  unfolding asset_or_rule
  says before x after e =
      let life = of-one IsLifetime before x after rows e lives in
      rw (
        few-before most_assets before x after rows e are.few,
        said x (of-one (λ (a : AssetRow). a.sid < 2 ^ 32) before x after rows e are.small) life,
        forward x life.forward,
        own-key sid_of before x.sid (λ k d l same. let less : sid_of (get_or before k d) < x.sid = before-one (λ (a b : AssetRow). a.sid < b.sid) before x after rows e are.ascend k d l in omega arith),
      ) refl

  read : rows_in (header ∷ map fields rows) ≡ Ok rows
  unfolding rows_in
  read = under-read asset_or_rule fields header rules.BadHeader rows says

  own : HasOwnKeys sid_of rows
  own = record { apart = λ i j d l m same. let less : sid_of (get_or rows i d) < sid_of (get_or rows j d) = are.ascend i j d l m in omega arith }

  rows-back : assets_of (header ∷ map fields rows) ≡ Ok rows
  unfolding assets_of
  rows-back = ap (λ r. r >>= λ xs. Ok (sorted_by sid_of xs)) read ∙ ap Ok (sym (rise-sorted sid_of rows own are.ascend))

pub assets-back : (w : World) → AreAssets w.assets → All IsLifetime w.assets → assets_of (csv_records (assets_text w)) ≡ Ok w.assets
unfolding assets_text
assets-back w are lives =
    ap assets_of (lines-under asset_line fields assets_header header w.assets head refl (λ k d l. line (get_or w.assets k d) (are.small k d l) (lives k d l)))
    ∙ rows-back w.assets are lives
