-- What a record says of its bar, in plain words.
use Rattle.std.proofs.Common.{◌≡◌, ℕ, ◌^◌, ◌<◌, ◌↔◌, true, false, ℤ, List, get_or, Some, option_map, option_and_then, All, Any, Ok, Err, refl, sym, ◌∙◌, ap, arith}
use Rattle.std.specs.List.{list_any, slice_get, AllPairs}
use Rattle.std.specs.List.Sorted.{IsPermutation}
use Rattle.std.specs.Ordering.{int_eq}
use Rattle.std.specs.Bool.{Decides}
use Rattle.std.proofs.lemmas.Bool.Decides.{nat_tests}
use Rattle.std.proofs.lemmas.List.Quantifiers.{position-Some}
use Rattle.std.proofs.lemmas.List.Sorted.{All-permutation}
use Rattle.std.proofs.lemmas.Option.{slice_get-get_or, slice_get_within}
use Rattle.pl_records.specs.Reading.{Record, Fault, ◌>>=◌, AreRowsUnder, Judges}
use Rattle.pl_records.specs.RuleTable.{IsFirstBroken, KeepsAll, lacks}
use Rattle.pl_records.specs.Sorted.{sorted_by}
use Rattle.pl_spec.specs.declared.AssetRow.{AssetRow}
use Rattle.pl_spec.specs.declared.BarRow.{BarRow}
use Rattle.pl_records.proofs.Readings.{made-fault, under-are}
use Rattle.pl_records.proofs.RuleTables.{any-tells, and_then_some, map_some, lacks-tells, has-tells, Judges-table}
use Rattle.pl_lifetimes.proofs.SidColumns.{sid_form, unknown_tells}
use Rattle.pl_records.proofs.Sorts.{sorted-are}
use Rattle.pl_spec.proofs.Signed.{int_eq-true}
use Rattle.pl_calendar.specs.Days.{AreDays}
use Rattle.pl_lifetimes.specs.Assets.{col_in, AreAssets}
use Rattle.pl_bars.specs.declared.fields.Fields.{Fields}
use Rattle.pl_bars.specs.Bars.{DataFault, breaks, session_in, placed_at, bar_of, header, fields_in, is_negative, is_at, bar_or_rule, key_of, rows_in, bars_of}
use Rattle.pl_bars.specs.Bars as rules
use Rattle.pl_bars.specs.Rules.{IsBarRecord, IsNegative, IsRowRecord, IsBar, Breaks, AreBarsOf, IsBarsFault}
use Rattle.pl_bars.proofs.BarFields.{fields_form, IsNegative-test, is_negative-test}
use Rattle.pl_bars.proofs.BarsRead.{AreKept-read, ascend-from_keys, keys-from_ascend}
use Rattle.pl_bars.proofs.BarSearch.{at_parts, at_true}
use Rattle.pl_bars.proofs.FirstPlaces.{day_first}

-- ---- the session of a day

session_found : (days : List ℤ) (day : ℤ) (s : ℕ) → session_in days day ≡ Some s → slice_get days s ≡ Some day
session_found days day s e =
    let it = position-Some (λ d. int_eq d day) days s day e in
    slice_get-get_or days s day it.0 ∙ ap Some (int_eq-true (get_or days s day) day it.1)

pub day_form : (days : List ℤ) → AreDays days → (day : ℤ) (session : ℕ) → (session_in days day ≡ Some session) ↔ (slice_get days session ≡ Some day)
day_form days up day session = (session_found days day session, λ h. day_first days day session up.ascend (slice_get_within days session day h) h)

pub no_session_tells : (days : List ℤ) → AreDays days → (day : ℤ) → Decides (lacks (session_in days day)) ((session : ℕ) → ¬ (slice_get days session ≡ Some day))
no_session_tells days up = lacks-tells (session_in days) (λ day session. slice_get days session ≡ Some day) (day_form days up)

-- ---- the tests of cells, and of the bars before

negative_tells : (f : Fields) → Decides (list_any is_negative f.cells) (Any IsNegative f.cells)
negative_tells f = any-tells is_negative IsNegative (λ v. (IsNegative-test v, is_negative-test v)) f.cells

place_tells : (before : List BarRow) (b : BarRow) → Decides (list_any (is_at b.col b.session) before) (Any (λ x. (x.col ≡ b.col) × (x.session ≡ b.session)) before)
place_tells before b =
    any-tells (is_at b.col b.session) (λ x. (x.col ≡ b.col) × (x.session ≡ b.session)) (λ x. (at_parts b.col b.session x, λ h. at_true b.col b.session x h.0 h.1)) before

-- ---- what is said

module _ (days : List ℤ) (assets : List AssetRow) (ud : AreDays days) (ua : AreAssets assets) where
  bar_form : (r : Record) (b : BarRow) → (bar_of days assets r ≡ Some b) ↔ IsRowRecord days assets r b
  bar_form r b = (there, back)
    where
      there : bar_of days assets r ≡ Some b → IsRowRecord days assets r b
      there e =
          let f = and_then_some (fields_in r) (λ f. option_and_then (λ session. option_map (placed_at f session) (col_in assets f.sid)) (session_in days f.day)) b e in
          let s = and_then_some (session_in days f.0.day) (λ session. option_map (placed_at f.0 session) (col_in assets f.0.sid)) b f.2 in
          let c = map_some (col_in assets f.0.sid) (placed_at f.0 s.0) b s.2 in
          rw (← c.2) record {
            fields = f.0;
            written = (fields_form r f.0).0 f.1;
            placed = record { day = (day_form days ud f.0.day s.0).0 s.1; sid = (sid_form assets ua f.0.sid c.0).0 c.1 };
            cells = refl;
          }

      back : IsRowRecord days assets r b → bar_of days assets r ≡ Some b
      back h =
          rw ((fields_form r h.fields).1 h.written, (day_form days ud h.fields.day b.session).1 h.placed.day, (sid_form assets ua h.fields.sid b.col).1 h.placed.sid)
          (ap (λ cells. Some (record { col = b.col; session = b.session; cells = cells })) (sym h.cells))

  tells : (before : List BarRow) (r : Record) (q : DataFault) → Decides (breaks days assets before r q) (Breaks days assets before r q)
  tells before r rules.TooMany = (λ t. grind (arith, nat_tests), λ h. grind (arith, nat_tests))
  tells before r rules.BadField = lacks-tells fields_in IsBarRecord fields_form r
  tells before r rules.NotSession = has-tells fields_in IsBarRecord fields_form _ _ (λ f. no_session_tells days ud f.day) r
  tells before r rules.UnknownSid = has-tells fields_in IsBarRecord fields_form _ _ (λ f. unknown_tells assets ua f.sid) r
  tells before r rules.Negative = has-tells fields_in IsBarRecord fields_form _ _ negative_tells r
  tells before r rules.Duplicate = has-tells (bar_of days assets) (IsRowRecord days assets) bar_form _ _ (place_tells before) r
  tells before r fault = (λ t. absurd (let bad : false ≡ true = t in cc), λ h. absurd h)

abbrev Told : List ℤ → List AssetRow → List BarRow → Record → DataFault → Type 0
Told days assets before r rule = IsFirstBroken rules.rules (Breaks days assets before r) rule

pub bars_judged : (days : List ℤ) (assets : List AssetRow) → AreDays days → AreAssets assets → Judges (IsBar days assets) (Told days assets) (bar_or_rule days assets)
unfolding bar_or_rule
bars_judged days assets ud ua =
    Judges-table (bar_of days assets) (IsRowRecord days assets) (bar_form days assets ud ua) rules.rules rules.BadField (breaks days assets) (Breaks days assets) (tells days assets ud ua) some
  where
    some : (before : List BarRow) (r : Record) → KeepsAll rules.rules (Breaks days assets before r) → ((b : BarRow) → ¬ IsRowRecord days assets r b) → ⊥
    some before r kept none =
        kept.1.0 (λ f w. kept.1.1.0 (
          f,
          w,
          λ session at. kept.1.1.1.0 (
            f,
            w,
            λ col has.
                none (placed_at f session col) (record { fields = f; written = w; placed = record { day = at; sid = has }; cells = refl }),
          ),
        ))

-- ---- and of a file

pub bars-are : (days : List ℤ) (assets : List AssetRow) → AreDays days → AreAssets assets → (records : List Record) (bars : List BarRow) → (bars_of days assets records ≡ Ok bars) ↔ AreBarsOf days assets records bars
unfolding bars_of rows_in
bars-are days assets ud ua records bars = (forth, back)
  where
    sorted : ((rows_in days assets records >>= λ rows. Ok (sorted_by key_of rows)) ≡ Ok bars) ↔ ((rows : List BarRow) × (rows_in days assets records ≡ Ok rows) × IsPermutation rows bars × AllPairs (λ a b. key_of a < key_of b) bars)
    sorted = sorted-are key_of (rows_in days assets records) bars (λ rows e. (AreKept-read days assets records rows ud.few e).own)

    under : (rows : List BarRow) → (rows_in days assets records ≡ Ok rows) ↔ AreRowsUnder header (IsBar days assets) records rows
    under rows = under-are header rules.BadHeader (IsBar days assets) (Told days assets) (bar_or_rule days assets) (bars_judged days assets ud ua) records rows

    small : (rows : List BarRow) → rows_in days assets records ≡ Ok rows → IsPermutation rows bars → All (λ b. b.session < 2 ^ 32) bars
    small rows e moved = All-permutation (λ (b : BarRow). b.session < 2 ^ 32) rows bars moved (AreKept-read days assets records rows ud.few e).small

    forth : (rows_in days assets records >>= λ rows. Ok (sorted_by key_of rows)) ≡ Ok bars → AreBarsOf days assets records bars
    forth e =
        let it = sorted.0 e in
        record { rows = it.0; read = (under it.0).0 it.1; same = it.2; ascend = ascend-from_keys bars (small it.0 it.1 it.2) it.3 }

    back : AreBarsOf days assets records bars → (rows_in days assets records >>= λ rows. Ok (sorted_by key_of rows)) ≡ Ok bars
    back h =
        let e : rows_in days assets records ≡ Ok h.rows = (under h.rows).1 h.read in
        sorted.1 (h.rows, e, h.same, keys-from_ascend bars (small h.rows e h.same) h.ascend)

pub bars-fault : (days : List ℤ) (assets : List AssetRow) → AreDays days → AreAssets assets → (records : List Record) (fault : Fault DataFault) → (bars_of days assets records ≡ Err fault) ↔ IsBarsFault days assets records fault
unfolding bars_of rows_in
bars-fault days assets ud ua =
    made-fault header rules.BadHeader (IsBar days assets) (Told days assets) (bar_or_rule days assets) (bars_judged days assets ud ua) (sorted_by key_of)
