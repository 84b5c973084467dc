-- The labels of a world read back.
use Rattle.std.proofs.Common.{◌≡◌, ℕ, suc, ◌≤◌, nat_le, nat_lt, true, false, List, [], ◌∷◌, ◌++◌, append_assoc, map, length, get_or, All, Ok, refl, ◌∙◌, ap, arith, eqb-true}
use Rattle.std.specs.Fmt.{decimal}
use Rattle.std.specs.List.{list_any}
use Rattle.std.proofs.lemmas.Bool.{and_parts}
use Rattle.std.proofs.lemmas.Bool.Decides.{nat_tests}
use Rattle.std.proofs.lemmas.List.{length-map}
use Rattle.std.proofs.lemmas.List.Elements.{All-map}
use Rattle.std.proofs.lemmas.List.Folds.{list_any_none}
use Rattle.std.proofs.lemmas.Slice.Eq.{bytes_eq-Decides}
use Rattle.csv.specs.Writing.{default_writer, field_text}
use Rattle.pl_records.specs.Reading.{Record, ◌>>=◌}
use Rattle.pl_records.specs.Records.{csv_records}
use Rattle.pl_records.proofs.RuleTables.{not_true}
use Rattle.pl_spec.specs.Dates.{date_text}
use Rattle.pl_spec.specs.Limits.{most_label_bytes, most_labels}
use Rattle.pl_spec.specs.Lines.{quote}
use Rattle.pl_spec.specs.Parts as parts
use Rattle.pl_spec.specs.Parts.{ColumnLabel}
use Rattle.pl_spec.specs.World.{World, LabelRow}
use Rattle.pl_spec.proofs.SidsRead.{sid_in-decimal}
use Rattle.pl_spec.proofs.Signed.{int_eq-true}
use Rattle.pl_lifetimes.specs.Assets.{AreAssets}
use Rattle.pl_assets.specs.Labels as labels
use Rattle.pl_assets.specs.Labels.{LabelTable, header, in_column, is_from, label_in, label_or_rule, label_rows_in, labels_of, table_of}
use Rattle.pl_assets.proofs.CsvFields.{field_of_csv}
use Rattle.pl_parts.specs.Texts.{label_line, labels_header, labels_text}
use Rattle.pl_pieces.specs.Held.{AreLabelsOf, IsLabelIn, StartApart}
use Rattle.pl_pieces.proofs.Columns.{col_of, found, one-sid, sid-back, small-sid}
use Rattle.pl_pieces.proofs.Csv.{IsLine, lines-under, many-line}
use Rattle.pl_pieces.proofs.Days.{text-of-day}
use Rattle.pl_pieces.proofs.Fields.{date-plain, date-read, name-plain, sid-plain}
use Rattle.pl_pieces.proofs.Rows.{All-front, before-one, few-before, made-under, of-one}

abbrev fields : LabelRow → Record
fields r = r.name ∷ decimal r.sid ∷ date_text r.start ∷ r.text ∷ []

joined : (x y z t : List ℕ) → x ++ 44 ∷ y ++ 44 ∷ z ++ 44 ∷ t ++ 10 ∷ [] ≡ x ++ (44 ∷ (y ++ (44 ∷ (z ++ (44 ∷ (t ++ 10 ∷ []))))))
joined x y z t = five x (44 ∷ y) (44 ∷ z) (44 ∷ t) (10 ∷ [])
  where
    five : (x d p v e : List ℕ) → x ++ d ++ p ++ v ++ e ≡ x ++ (d ++ (p ++ (v ++ e)))
    five x d p v e = simp append_assoc

head : IsLine labels_header header
head = many-line _ _ _ labels_header refl

short : (n : ℕ) → n ≤ most_label_bytes → nat_lt most_label_bytes n ≡ false
short n h = grind (arith, nat_tests)

module _ (w : World) (assets : AreAssets w.assets) (are : AreLabelsOf w) where
  abbrev row : LabelRow → ColumnLabel
  row r = in_column r (col_of w.assets r.sid)

  plain-line : (r : LabelRow) → IsLabelIn w.assets r
      → label_line r ≡ r.name ++ (44 ∷ (decimal r.sid ++ (44 ∷ (date_text r.start ++ (44 ∷ (field_text default_writer r.text ++ 10 ∷ []))))))
  plain-line r h =
      rw (text-of-day r.start h.start) (joined r.name (decimal r.sid) (date_text r.start) (quote r.text))
      ∙ ap (λ t. r.name ++ (44 ∷ (decimal r.sid ++ (44 ∷ (date_text r.start ++ (44 ∷ (t ++ 10 ∷ []))))))) (field_of_csv r.text)

  line : (r : LabelRow) → IsLabelIn w.assets r → IsLine (label_line r) (fields r)
  line r h =
      let small = small-sid w.assets assets r.sid h.asset in
      many-line r.name (decimal r.sid) (date_text r.start ∷ r.text ∷ []) (label_line r)
      (rw (name-plain r.name h.name, sid-plain r.sid (omega arith), date-plain r.start h.start) (plain-line r h))

  other-start : (r q : LabelRow) → IsLabelIn w.assets r → IsLabelIn w.assets q → StartApart r q → is_from q.name (col_of w.assets q.sid) q.start (row r) ≡ false
  other-start r q h k apart = not_true _ (λ t. same t)
    where
      same : is_from q.name (col_of w.assets q.sid) q.start (row r) ≡ true → ⊥
      same t =
          let both = and_parts _ _ t in
          let rest = and_parts _ _ both.1 in
          apart ((bytes_eq-Decides r.name q.name).0 both.0)
          (one-sid w.assets assets r.sid q.sid h.asset k.asset (eqb-true (col_of w.assets r.sid) (col_of w.assets q.sid) rest.0))
          (int_eq-true r.start q.start rest.1)

  says : (front : List LabelRow) (r : LabelRow) (after : List LabelRow) → front ++ r ∷ after ≡ w.labels → label_or_rule w.assets (map row front) (fields r) ≡ Ok (row r)
  unfolding label_or_rule label_in
  says front r after e =
      let h = of-one (IsLabelIn w.assets) front r after w.labels e are.each in
      let few : nat_le most_labels (length (map row front)) ≡ false = rw (length-map front row) (few-before most_labels front r after w.labels e are.few) in
      let own : list_any (is_from r.name (col_of w.assets r.sid) r.start) (map row front) ≡ false =
      list_any_none (is_from r.name (col_of w.assets r.sid) r.start) (map row front)
      (All-map (λ z. is_from r.name (col_of w.assets r.sid) r.start z ≡ false) row front
      (λ k d l. other-start (get_or front k d) r (All-front (IsLabelIn w.assets) front (r ∷ after) w.labels e are.each k d l) h (before-one StartApart front r after w.labels e are.once k d l))) in
      rw (
        few,
        h.name,
        h.printable,
        sid_in-decimal (decimal r.sid) r.sid (small-sid w.assets assets r.sid h.asset) refl,
        date-read r.start h.start,
        short (length r.text) h.short,
        found w.assets assets r.sid h.asset,
        own,
      ) refl

  read-rows : label_rows_in w.assets (header ∷ map fields w.labels) ≡ Ok (map row w.labels)
  unfolding label_rows_in
  read-rows = made-under (label_or_rule w.assets) fields row header labels.BadHeader w.labels says

  rows-back : labels_of w.assets (header ∷ map fields w.labels) ≡ Ok (table_of (map row w.labels))
  unfolding labels_of
  rows-back = ap (λ r. r >>= λ xs. Ok (table_of xs)) read-rows

  same-labels : (xs : List LabelRow) → All (IsLabelIn w.assets) xs → map (parts.label_of w.assets) (map row xs) ≡ xs
  same-labels [] h = refl
  same-labels (r ∷ rs) h = rw (sid-back w.assets assets r.sid (h 0 r (omega arith)).asset, same-labels rs (λ k d l. h (suc k) d (omega arith))) refl

  pub labels-back : (table : LabelTable) × (labels_of w.assets (csv_records (labels_text w)) ≡ Ok table) × (map (parts.label_of w.assets) table.rows ≡ w.labels)
  unfolding labels_text
  labels-back = (
    table_of (map row w.labels),
    ap (labels_of w.assets) (lines-under label_line fields labels_header header w.labels head refl (λ k d l. line (get_or w.labels k d) (are.each k d l)))
        ∙ rows-back,
    same-labels w.labels are.each,
  )
