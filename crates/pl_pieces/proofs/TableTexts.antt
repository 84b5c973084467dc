-- The tables of a world as texts: their rows, and what is made of them.
use Rattle.std.proofs.Common.{◌≡◌, ◌≢◌, ℕ, zero, suc, ◌+◌, ◌*◌, ◌/◌, ◌<◌, ◌≤◌, ◌==◌, ◌^◌, drop, length-append, IsTrue, Bool, true, false, cond, ℤ, pos, negsuc, neg_ℤ, ◌*ℤ◌, ◌≤ℤ◌, List, [], ◌∷◌, ◌++◌, append_assoc, map, filter, length, get_or, All, Some, option_map, refl, sym, ◌∙◌, ap, arith, unsigned_abs}
use Rattle.std.specs.Fmt.{decimal, signed_decimal}
use Rattle.std.specs.List.{flat_map, list_any, slice_get}
use Rattle.std.specs.Ordering.{int_eq}
use Rattle.std.specs.Int.RustNames.{int_le}
use Rattle.std.proofs.lemmas.Bool.{and_parts}
use Rattle.std.proofs.lemmas.Int.{ints}
use Rattle.std.proofs.lemmas.Fmt.{signed_decimal_injective}
use Rattle.std.proofs.lemmas.List.{length-map}
use Rattle.std.proofs.lemmas.List.Folds.{list_any_at}
use Rattle.std.proofs.lemmas.Option.{get_or_from_slice_get, slice_get_within}
use Rattle.pl_records.specs.Records.{csv_records}
use Rattle.pl_spec.specs.Dates.{IsDay}
use Rattle.pl_spec.specs.Order.{adjustment_in, day_of_time, of_table}
use Rattle.pl_spec.specs.Rounding.{Fraction}
use Rattle.pl_spec.specs.World.{World, Adjustment, Change, Event, events_of}
use Rattle.pl_spec.specs.World.Change.{Scale, Overwrite}
use Rattle.pl_spec.specs.declared.AdjustmentKind.{AdjustmentKind}
use Rattle.pl_spec.specs.declared.AdjustmentKind.TheVariants.{Split, Merger, Dividend, Revision}
use Rattle.pl_spec.specs.declared.AssetRow.{AssetRow}
use Rattle.pl_spec.specs.declared.RawAdjust.{RawAdjust}
use Rattle.pl_spec.proofs.Each.{Each, each_in_flat}
use Rattle.pl_spec.proofs.Lists.{filter-few}
use Rattle.pl_spec.proofs.Signed.{eq-int_eq}
use Rattle.pl_lifetimes.specs.Assets.{AreAssets, HasSid, sid_of}
use Rattle.pl_lifetimes.proofs.SidColumns.{asset_of}
use Rattle.pl_adjust.specs.Walk.{is_part}
use Rattle.pl_parts.specs.Texts.{is_kind, lines_from, of_sid, ratio_line, ratios_header, ratios_text, rows_in, rows_of}
use Rattle.pl_pieces.specs.Held.{IsSidOf}
use Rattle.pl_pieces.specs.Tables.{AreAdjustmentsOf, IsChangeIn, IsEventIn, IsTableOf, IsWhole, raw_of, raws_from, table_header, table_record, table_rows}
use Rattle.pl_pieces.proofs.Columns.{small-sid}
use Rattle.pl_pieces.proofs.Csv.{IsLine, Plain, lines-under, many-line}
use Rattle.pl_pieces.proofs.Fields.{plain-cons, sid-plain}
use Rattle.pl_pieces.proofs.Gathered.{few-gathered}

-- ---- kinds

pub kind-is : (a b : AdjustmentKind) → is_kind a b ≡ true → b ≡ a
kind-is Split Split e = refl
kind-is Merger Merger e = refl
kind-is Dividend Dividend e = refl
kind-is Revision Revision e = refl
kind-is a b e = absurd (let bad : false ≡ true = e in cc)

-- a kind that has a table
abbrev pub IsTabled : AdjustmentKind → Type 0
IsTabled kind = kind ≢ Revision

-- an adjustment that a row of the kind's table says
record IsRowOf (assets : List AssetRow) (kind : AdjustmentKind) (x : Adjustment) : Type 0 where
  pub kind_is : x.event.kind ≡ kind
  pub day : IsDay x.event.day
  pub ratio : Fraction
  pub change : x.event.change ≡ Scale ratio
  pub num : IsTrue (is_part (pos ratio.num))
  pub den : IsTrue (is_part (pos ratio.den))
  pub asset : IsSidOf assets x.sid

row-said : (days : List ℤ) (assets : List AssetRow) (kind : AdjustmentKind) → IsTabled kind → (sid : ℕ) → IsSidOf assets sid
    → (e : Event) → IsEventIn days e → e.kind ≡ kind → IsRowOf assets kind (of_sid sid e)
row-said days assets kind tabled sid known e h is = here e.kind e.change is refl (h.change)
  where
    here : (k : AdjustmentKind) (c : Change) → k ≡ kind → e.change ≡ c → IsChangeIn days e.day k c → IsRowOf assets kind (of_sid sid e)
    here Split (Scale f) s t i = record { kind_is = is; day = h.day; ratio = f; change = t; num = i.0; den = i.1; asset = known }
    here Merger (Scale f) s t i = record { kind_is = is; day = h.day; ratio = f; change = t; num = i.0; den = i.1; asset = known }
    here Dividend (Scale f) s t i = record { kind_is = is; day = h.day; ratio = f; change = t; num = i.0; den = i.1; asset = known }
    here Revision c s t i = absurd (tabled (sym s))
    here k (Overwrite bar column value) s t i = absurd (none k (λ r. tabled (sym s ∙ r)) i)
      where
        none : (q : AdjustmentKind) → q ≢ Revision → IsChangeIn days e.day q (Overwrite bar column value) → ⊥
        none Revision n j = n refl
        none q n j = j

-- ---- the rows of a kind are such

module _ (w : World) (are : AreAdjustmentsOf w) (kind : AdjustmentKind) where
  each-kind : (P : Adjustment → Type 0) (sid : ℕ) (es : List Event) → ((e : Event) → IsEventIn w.days e → e.kind ≡ kind → P (of_sid sid e)) → All (IsEventIn w.days) es
      → Each P (map (of_sid sid) (filter (λ e. is_kind kind e.kind) es))
  each-kind P sid [] f h = tt
  each-kind P sid (e ∷ es) f h = here (is_kind kind e.kind) refl (each-kind P sid es f (λ k d l. h (suc k) d (omega arith)))
    where
      here : (t : Bool) → is_kind kind e.kind ≡ t → Each P (map (of_sid sid) (filter (λ x. is_kind kind x.kind) es))
          → Each P (map (of_sid sid) (cond t (e ∷ filter (λ x. is_kind kind x.kind) es) (filter (λ x. is_kind kind x.kind) es)))
      here true t rest = (f e (h 0 e (omega arith)) (kind-is kind e.kind t), rest)
      here false t rest = rest

  each-asset : (P : Adjustment → Type 0) (xs : List AssetRow) → Each (λ a. IsSidOf w.assets a.sid) xs
      → ((sid : ℕ) → IsSidOf w.assets sid → (e : Event) → IsEventIn w.days e → e.kind ≡ kind → P (of_sid sid e)) → Each (λ a. Each P (rows_of kind w a.sid)) xs
  each-asset P [] h f = tt
  each-asset P (a ∷ rest) h f = (each-kind P a.sid (events_of w a.sid) (f a.sid h.0) (are.each a.sid), each-asset P rest h.1 f)

  own-sids : (xs front : List AssetRow) → front ++ xs ≡ w.assets → Each (λ a. IsSidOf w.assets a.sid) xs
  own-sids [] front e = tt
  own-sids (a ∷ rest) front e = ((length front, there front), own-sids rest (front ++ a ∷ []) (append_assoc front (a ∷ []) rest ∙ e))
    where
      at : (ys : List AssetRow) → slice_get (ys ++ a ∷ rest) (length ys) ≡ Some a
      at [] = refl
      at (y ∷ ys) = at ys

      there : (ys : List AssetRow) → HasSid w.assets (length front) a.sid
      there ys = ap (option_map sid_of) (ap (λ l. slice_get l (length front)) (sym e) ∙ at front)

  -- what each event of the kind makes of its asset, all rows are
  pub all-rows : (P : Adjustment → Type 0) → ((sid : ℕ) → IsSidOf w.assets sid → (e : Event) → IsEventIn w.days e → e.kind ≡ kind → P (of_sid sid e)) → Each P (rows_in kind w)
  all-rows P f = each_in_flat P (λ a. rows_of kind w a.sid) w.assets (each-asset P w.assets (own-sids w.assets [] refl) f)

  rows-said : IsTabled kind → Each (IsRowOf w.assets kind) (rows_in kind w)
  rows-said tabled = all-rows (IsRowOf w.assets kind) (λ sid known e h is. row-said w.days w.assets kind tabled sid known e h is)

-- ---- the lines

signed-plain : (z : ℤ) → unsigned_abs z < 2 ^ 63 → Plain (signed_decimal z)
signed-plain (pos n) h = sid-plain n (let small : n < 2 ^ 63 = h in omega arith)
signed-plain (negsuc n) h = plain-cons 45 (decimal (suc n)) refl (sid-plain (suc n) (let small : suc n < 2 ^ 63 = h in omega arith))

raw_line : RawAdjust → List ℕ
raw_line r =
    signed_decimal r.id ++ (44 ∷ (signed_decimal r.effective ++ (44 ∷ (signed_decimal r.num ++ (44 ∷ (signed_decimal r.den ++ (44 ∷ (signed_decimal r.sid ++ 10 ∷ []))))))))

raw-line : (r : RawAdjust) → IsWhole r → IsLine (raw_line r) (table_record r)
unfolding raw_line
raw-line r h =
    many-line (signed_decimal r.id) (signed_decimal r.effective) (signed_decimal r.num ∷ signed_decimal r.den ∷ signed_decimal r.sid ∷ []) (raw_line r)
    (rw (signed-plain r.id h.id, signed-plain r.effective h.effective, signed-plain r.num h.num, signed-plain r.den h.den, signed-plain r.sid h.sid) refl)

five : (x d p v e : List ℕ) → x ++ d ++ p ++ v ++ e ≡ x ++ (d ++ (p ++ (v ++ e)))
five x d p v e = simp append_assoc

line-is : (n : ℕ) (x : Adjustment) (f : Fraction) → x.event.change ≡ Scale f → ratio_line n x ≡ raw_line (raw_of n x)
unfolding raw_line
line-is n x f is =
    rw is (five (decimal n) (44 ∷ signed_decimal (x.event.day *ℤ pos 86400)) (44 ∷ decimal f.num ++ 44 ∷ decimal f.den) (44 ∷ decimal x.sid) (10 ∷ [])
    ∙ ap (λ l. decimal n ++ (44 ∷ (signed_decimal (x.event.day *ℤ pos 86400) ++ l))) (append_assoc (44 ∷ decimal f.num) (44 ∷ decimal f.den) (44 ∷ (decimal x.sid ++ 10 ∷ []))))

part-small : (n : ℕ) → IsTrue (is_part (pos n)) → n < 2 ^ 63
part-small n h = let t = (and_parts (int_le (pos 1) (pos n)) (int_le (pos n) (pos 1000000000)) h).1 in grind (arith, ints)

time-small : (day : ℤ) → neg_ℤ (pos 25567) ≤ℤ day → day ≤ℤ pos 84005 → unsigned_abs (day *ℤ pos 86400) < 2 ^ 63
time-small (pos n) low high = let small : n ≤ 84005 = omega (arith, ints) in omega (arith, ints)
time-small (negsuc n) low high = let small : n ≤ 25567 = omega (arith, ints) in omega (arith, ints)

time-day : (day : ℤ) → day_of_time (day *ℤ pos 86400) ≡ day
time-day (pos n) = ap pos (omega arith)
time-day (negsuc n) =
    let seconds : negsuc n *ℤ pos 86400 ≡ negsuc (n * 86400 + 86399) = omega (arith, ints) in
    let back : (n * 86400 + 86399) / 86400 ≡ n = omega arith in
    rw (seconds, back) refl

-- ---- the text of a table

raw-small : (assets : List AssetRow) → AreAssets assets → (kind : AdjustmentKind) (n : ℕ) (x : Adjustment) → n < 2 ^ 63 → IsRowOf assets kind x → IsWhole (raw_of n x)
raw-small assets are kind n x small h =
    let sid : x.sid < 2 ^ 32 = small-sid assets are x.sid h.asset in
    rw h.change (record {
      id = small;
      effective = time-small x.event.day h.day.first h.day.last;
      num = part-small h.ratio.num h.num;
      den = part-small h.ratio.den h.den;
      sid = omega arith;
    })

module _ (assets : List AssetRow) (are : AreAssets assets) (kind : AdjustmentKind) where
  raw-lines : (n : ℕ) (xs : List Adjustment) → Each (IsRowOf assets kind) xs → lines_from n xs ≡ flat_map raw_line (raws_from n xs)
  raw-lines n [] h = refl
  raw-lines n (x ∷ xs) h = ap (λ l. l ++ lines_from (n + 1) xs) (line-is n x h.0.ratio h.0.change) ∙ ap (λ l. raw_line (raw_of n x) ++ l) (raw-lines (n + 1) xs h.1)

  raws-whole : (n : ℕ) (xs : List Adjustment) → n + length xs < 2 ^ 63 → Each (IsRowOf assets kind) xs → All IsWhole (raws_from n xs)
  raws-whole n [] small h k d l = absurd (omega arith)
  raws-whole n (x ∷ xs) small h zero d l = raw-small assets are kind n x (omega arith) h.0
  raws-whole n (x ∷ xs) small h (suc k) d l = raws-whole (n + 1) xs (omega arith) h.1 k d (omega arith)

  raws-text : (n : ℕ) (xs : List Adjustment) → n + length xs < 2 ^ 63 → Each (IsRowOf assets kind) xs
      → csv_records (ratios_header ++ lines_from n xs) ≡ table_header ∷ map table_record (raws_from n xs)
  raws-text n xs small h =
      ap (λ l. csv_records (ratios_header ++ l)) (raw-lines n xs h)
      ∙ lines-under raw_line table_record ratios_header table_header (raws_from n xs) (many-line _ _ _ ratios_header refl) refl
      (λ k d l. raw-line (get_or (raws_from n xs) k d) (raws-whole n xs small h k d l))

  -- ---- what a table's rows are made into

  is-known : (sid : ℕ) → IsSidOf assets sid → list_any (λ a. int_eq (pos a.sid) (pos sid)) assets ≡ true
  is-known sid h =
      let it = asset_of assets h.0 sid h.1 in
      let at : (get_or assets h.0 it.0).sid ≡ sid = ap sid_of (get_or_from_slice_get assets h.0 it.0 it.0 it.1) ∙ it.2 in
      list_any_at (λ a. int_eq (pos a.sid) (pos sid)) assets h.0 it.0 (slice_get_within assets h.0 it.0 it.1) (eq-int_eq (pos (get_or assets h.0 it.0).sid) (pos sid) (ap pos at))

  made-back : (n : ℕ) (x : Adjustment) → IsRowOf assets kind x → adjustment_in kind (raw_of n x) ≡ x
  made-back n x h = one (sym h.kind_is) (time-day x.event.day) (rw h.change refl)
    where
      one : {k : AdjustmentKind} {d : ℤ} {c : Change} → k ≡ x.event.kind → d ≡ x.event.day → c ≡ x.event.change
          → (let e : Event = record { kind = k; day = d; change = c } in let y : Adjustment = record { sid = x.sid; event = e } in y ≡ x)
      one e f g = rw (e, f, g) refl

  rows-back : (n : ℕ) (xs : List Adjustment) → Each (IsRowOf assets kind) xs → of_table assets kind (raws_from n xs) ≡ xs
  rows-back n [] h = refl
  rows-back n (x ∷ xs) h = rw (is-known x.sid h.0.asset, made-back n x h.0, rows-back (n + 1) xs h.1) refl

-- ---- a text has the rows of one table

signed-one : (y z : ℤ) → unsigned_abs y < 2 ^ 63 → unsigned_abs z < 2 ^ 63 → signed_decimal y ≡ signed_decimal z → y ≡ z
signed-one (pos m) (pos n) p q e = signed_decimal_injective (pos m) (pos n) p q e
signed-one (pos m) (negsuc n) p q e = let b : suc n < 2 ^ 63 = q in signed_decimal_injective (pos m) (negsuc n) p (omega arith) e
signed-one (negsuc m) (pos n) p q e = let a : suc m < 2 ^ 63 = p in signed_decimal_injective (negsuc m) (pos n) (omega arith) q e
signed-one (negsuc m) (negsuc n) p q e =
    let a : suc m < 2 ^ 63 = p in
    let b : suc n < 2 ^ 63 = q in
    signed_decimal_injective (negsuc m) (negsuc n) (omega arith) (omega arith) e

one-row : (r q : RawAdjust) → IsWhole r → IsWhole q → table_record r ≡ table_record q → r ≡ q
one-row r q h k e =
    let id : signed_decimal r.id ≡ signed_decimal q.id = cc in
    let effective : signed_decimal r.effective ≡ signed_decimal q.effective = cc in
    let num : signed_decimal r.num ≡ signed_decimal q.num = cc in
    let den : signed_decimal r.den ≡ signed_decimal q.den = cc in
    let sid : signed_decimal r.sid ≡ signed_decimal q.sid = cc in
    same
    (signed-one r.id q.id h.id k.id id)
    (signed-one r.effective q.effective h.effective k.effective effective)
    (signed-one r.num q.num h.num k.num num)
    (signed-one r.den q.den h.den k.den den)
    (signed-one r.sid q.sid h.sid k.sid sid)
  where
    same : r.id ≡ q.id → r.effective ≡ q.effective → r.num ≡ q.num → r.den ≡ q.den → r.sid ≡ q.sid
        → (let x : RawAdjust = record { id = r.id; effective = r.effective; num = r.num; den = r.den; sid = r.sid } in
        let y : RawAdjust = record { id = q.id; effective = q.effective; num = q.num; den = q.den; sid = q.sid } in x ≡ y)
    same a b c d f = rw (a, b, c, d, f) refl

one-table : (rows others : List RawAdjust) → All IsWhole rows → All IsWhole others → map table_record rows ≡ map table_record others → rows ≡ others
one-table [] [] h k e = refl
one-table [] (q ∷ qs) h k e = absurd (cc e)
one-table (r ∷ rs) [] h k e = absurd (cc e)
one-table (r ∷ rs) (q ∷ qs) h k e =
    let first : table_record r ≡ table_record q = cc in
    let rest : map table_record rs ≡ map table_record qs = cc in
    let front : r ≡ q = one-row r q (h 0 r (omega arith)) (k 0 q (omega arith)) first in
    let back : rs ≡ qs = one-table rs qs (λ i d l. h (suc i) d (omega arith)) (λ i d l. k (suc i) d (omega arith)) rest in
    cc

-- ---- how many rows there are

longer : {A B : Type 0} (f : A → List B) (g : A → List B) → ((x : A) → length (f x) ≤ length (g x)) → (xs : List A) → length (flat_map f xs) ≤ length (flat_map g xs)
longer f g h [] = omega arith
longer f g h (x ∷ xs) = omega (arith, length-append (f x) (flat_map f xs), length-append (g x) (flat_map g xs), h x, longer f g h xs)

few-rows : (w : World) → AreAssets w.assets → (kind : AdjustmentKind) → length (rows_in kind w) ≤ length w.adjustments
few-rows w assets kind =
    let own : AssetRow → List Adjustment = λ a. filter (λ x. x.sid == a.sid) w.adjustments in
    omega (arith, longer (λ (a : AssetRow). rows_of kind w a.sid) own (λ a. fewer a.sid) w.assets, few-gathered (λ (x : Adjustment). x.sid) w.assets assets.ascend w.adjustments)
  where
    fewer : (sid : ℕ) → length (rows_of kind w sid) ≤ length (filter (λ (x : Adjustment). x.sid == sid) w.adjustments)
    fewer sid =
        let mine : List Adjustment = filter (λ x. x.sid == sid) w.adjustments in
        omega (
          arith,
          length-map (filter (λ e. is_kind kind e.kind) (events_of w sid)) (of_sid sid),
          filter-few (λ e. is_kind kind e.kind) (events_of w sid),
          length-map mine (λ (x : Adjustment). x.event),
        )

-- no rows are of a kind that no event has
pub no-rows : (w : World) (kind : AdjustmentKind) → ((a : ℕ) → All (λ e. is_kind kind e.kind ≡ false) (events_of w a)) → rows_in kind w ≡ []
no-rows w kind h = none w.assets
  where
    no-events : (es : List Event) → All (λ e. is_kind kind e.kind ≡ false) es → filter (λ e. is_kind kind e.kind) es ≡ []
    no-events [] f = refl
    no-events (e ∷ es) f = rw (f 0 e (omega arith)) (no-events es (λ k d l. f (suc k) d (omega arith)))

    none : (assets : List AssetRow) → flat_map (λ a. rows_of kind w a.sid) assets ≡ []
    none [] = refl
    none (a ∷ rest) = ap (λ l. map (of_sid a.sid) l ++ flat_map (λ (b : AssetRow). rows_of kind w b.sid) rest) (no-events (events_of w a.sid) (h a.sid)) ∙ none rest

module _ (w : World) (assets : AreAssets w.assets) (are : AreAdjustmentsOf w) (kind : AdjustmentKind) (tabled : IsTabled kind) where
  small : 1 + length (rows_in kind w) < 2 ^ 63
  small = omega (arith, few-rows w assets kind, are.few)

  pub table-text : IsTableOf (ratios_text kind w) (table_rows kind w)
  unfolding ratios_text
  table-text = record {
    records = raws-text w.assets assets kind 1 (rows_in kind w) small (rows-said w are kind tabled);
    whole = raws-whole w.assets assets kind 1 (rows_in kind w) small (rows-said w are kind tabled);
  }

  -- whoever loads the rows of the text has the adjustments of the kind
  pub table-back : (rows : List RawAdjust) → IsTableOf (ratios_text kind w) rows → of_table w.assets kind rows ≡ rows_in kind w
  table-back rows is =
      let behind : map table_record rows ≡ map table_record (table_rows kind w) =
      ap (drop 1) (sym is.records ∙ table-text.records) in
      ap (of_table w.assets kind) (one-table rows (table_rows kind w) is.whole table-text.whole behind)
      ∙ rows-back w.assets assets kind 1 (rows_in kind w) (rows-said w are kind tabled)
