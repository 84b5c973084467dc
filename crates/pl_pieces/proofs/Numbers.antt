-- The numbers of a world read back.
use Rattle.std.proofs.Common.{◌≡◌, ℕ, suc, nat_le, true, false, List, [], ◌∷◌, ◌++◌, append_assoc, map, length, get_or, All, IsPermutation, Ok, refl, ◌∙◌, ap, arith, eqb-true}
use Rattle.std.specs.Fmt.{decimal}
use Rattle.std.specs.List.{list_any}
use Rattle.std.proofs.lemmas.Bool.{and_parts}
use Rattle.std.proofs.lemmas.List.{length-map}
use Rattle.std.proofs.lemmas.List.Elements.{All-map}
use Rattle.std.proofs.lemmas.List.Folds.{list_any_none}
use Rattle.std.proofs.lemmas.List.Sorted.{IsPermutation-map}
use Rattle.std.proofs.lemmas.Slice.Eq.{bytes_eq-Decides}
use Rattle.pl_records.specs.Reading.{Record, ◌>>=◌}
use Rattle.pl_records.specs.Records.{csv_records}
use Rattle.pl_records.proofs.RuleTables.{not_true}
use Rattle.pl_records.proofs.Sorts.{sorted-permutes}
use Rattle.pl_spec.specs.Dates.{date_text}
use Rattle.pl_spec.specs.Decimals.{cell_text}
use Rattle.pl_spec.specs.Limits.{most_numbers}
use Rattle.pl_spec.specs.Numbers.{NumberRow}
use Rattle.pl_spec.specs.Parts as parts
use Rattle.pl_spec.specs.Parts.{ColumnNumber}
use Rattle.pl_spec.specs.World.{World}
use Rattle.pl_spec.proofs.SidsRead.{sid_in-decimal}
use Rattle.pl_spec.proofs.Signed.{int_eq-true}
use Rattle.pl_lifetimes.specs.Assets.{AreAssets}
use Rattle.pl_numbers.specs.Numbers as numbers
use Rattle.pl_numbers.specs.Numbers.{NumberTable, header, in_column, is_from, key_in, names_of, number_in, number_or_rule, number_rows_in, numbers_of, table_of}
use Rattle.pl_parts.specs.Texts.{number_line, numbers_header, numbers_text}
use Rattle.pl_pieces.specs.Held.{AreNumbersOf, IsNumberIn, KnownApart}
use Rattle.pl_pieces.proofs.Bars.{cell-back}
use Rattle.pl_pieces.proofs.Columns.{col_of, found, one-sid, sid-back, small-sid}
use Rattle.pl_pieces.proofs.Csv.{IsLine, lines-under, many-line}
use Rattle.pl_pieces.proofs.Days.{text-of-day}
use Rattle.pl_pieces.proofs.Fields.{cell-plain, date-plain, date-read, name-plain, sid-plain}
use Rattle.pl_pieces.proofs.Rows.{All-front, before-one, few-before, made-under, of-one}

abbrev fields : NumberRow → Record
fields r = r.name ∷ decimal r.sid ∷ date_text r.known ∷ cell_text r.value ∷ []

joined : (x y z t : List ℕ) → x ++ 44 ∷ y ++ 44 ∷ z ++ 44 ∷ t ++ 10 ∷ [] ≡ x ++ (44 ∷ (y ++ (44 ∷ (z ++ (44 ∷ (t ++ 10 ∷ []))))))
joined x y z t = five x (44 ∷ y) (44 ∷ z) (44 ∷ t) (10 ∷ [])
  where
    five : (x d p v e : List ℕ) → x ++ d ++ p ++ v ++ e ≡ x ++ (d ++ (p ++ (v ++ e)))
    five x d p v e = simp append_assoc

head : IsLine numbers_header header
head = many-line _ _ _ numbers_header refl

module _ (w : World) (assets : AreAssets w.assets) (are : AreNumbersOf w) where
  abbrev row : NumberRow → ColumnNumber
  row r = in_column r (col_of w.assets r.sid)

  line : (r : NumberRow) → IsNumberIn w.assets r → IsLine (number_line r) (fields r)
  line r h =
      let small = small-sid w.assets assets r.sid h.asset in
      many-line r.name (decimal r.sid) (date_text r.known ∷ cell_text r.value ∷ []) (number_line r)
      (rw (name-plain r.name h.name, sid-plain r.sid (omega arith), date-plain r.known h.known, cell-plain r.value h.value, text-of-day r.known h.known)
      (joined r.name (decimal r.sid) (date_text r.known) (cell_text r.value)))

  other-start : (r q : NumberRow) → IsNumberIn w.assets r → IsNumberIn w.assets q → KnownApart r q → is_from q.name (col_of w.assets q.sid) q.known (row r) ≡ false
  other-start r q h k apart = not_true _ (λ t. same t)
    where
      same : is_from q.name (col_of w.assets q.sid) q.known (row r) ≡ true → ⊥
      same t =
          let both = and_parts _ _ t in
          let rest = and_parts _ _ both.1 in
          apart ((bytes_eq-Decides r.name q.name).0 both.0)
          (one-sid w.assets assets r.sid q.sid h.asset k.asset (eqb-true (col_of w.assets r.sid) (col_of w.assets q.sid) rest.0))
          (int_eq-true r.known q.known rest.1)

  says : (front : List NumberRow) (r : NumberRow) (after : List NumberRow) → front ++ r ∷ after ≡ w.numbers → number_or_rule w.assets (map row front) (fields r) ≡ Ok (row r)
  unfolding number_or_rule number_in
  says front r after e =
      let h = of-one (IsNumberIn w.assets) front r after w.numbers e are.each in
      let few : nat_le most_numbers (length (map row front)) ≡ false = rw (length-map front row) (few-before most_numbers front r after w.numbers e are.few) in
      let own : list_any (is_from r.name (col_of w.assets r.sid) r.known) (map row front) ≡ false =
      list_any_none (is_from r.name (col_of w.assets r.sid) r.known) (map row front)
      (All-map (λ z. is_from r.name (col_of w.assets r.sid) r.known z ≡ false) row front
      (λ k d l. other-start (get_or front k d) r (All-front (IsNumberIn w.assets) front (r ∷ after) w.numbers e are.each k d l) h (before-one KnownApart front r after w.numbers e are.once k d l))) in
      rw (
        few,
        h.name,
        sid_in-decimal (decimal r.sid) r.sid (small-sid w.assets assets r.sid h.asset) refl,
        date-read r.known h.known,
        cell-back r.value h.value,
        found w.assets assets r.sid h.asset,
        own,
      ) refl

  read-rows : number_rows_in w.assets (header ∷ map fields w.numbers) ≡ Ok (map row w.numbers)
  unfolding number_rows_in
  read-rows = made-under (number_or_rule w.assets) fields row header numbers.BadHeader w.numbers says

  rows-back : numbers_of w.assets (header ∷ map fields w.numbers) ≡ Ok (table_of (map row w.numbers))
  unfolding numbers_of
  rows-back = ap (λ r. r >>= λ xs. Ok (table_of xs)) read-rows

  same-numbers : (xs : List NumberRow) → All (IsNumberIn w.assets) xs → map (parts.number_of w.assets) (map row xs) ≡ xs
  same-numbers [] h = refl
  same-numbers (r ∷ rs) h = rw (sid-back w.assets assets r.sid (h 0 r (omega arith)).asset, same-numbers rs (λ k d l. h (suc k) d (omega arith))) refl

  pub numbers-back : (table : NumberTable) × (numbers_of w.assets (csv_records (numbers_text w)) ≡ Ok table) × IsPermutation w.numbers (map (parts.number_of w.assets) table.rows)
  unfolding numbers_text
  numbers-back = (
    table_of (map row w.numbers),
    ap (numbers_of w.assets) (lines-under number_line fields numbers_header header w.numbers head refl (λ k d l. line (get_or w.numbers k d) (are.each k d l)))
        ∙ rows-back,
    (let rows : List ColumnNumber = map row w.numbers in
        let sorted : List ColumnNumber = (table_of rows).rows in
        rw (same-numbers w.numbers are.each) at (IsPermutation-map (parts.number_of w.assets) rows sorted (sorted-permutes (key_in (names_of rows)) rows))),
  )
