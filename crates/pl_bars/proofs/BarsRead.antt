-- Bars that are read: what each test tells, and what is kept of all rows.
use Rattle.std.proofs.Common.{◌≡◌, ℕ, ◌^◌, ◌==◌, ◌<◌, ◌≤◌, nat_le, IsTrue, true, false, List, [], ◌∷◌, ◌++◌, length, get_or, All, Some, None, option_map, option_and_then, Ok, Err, refl, sym, ap, ◌∙◌, ℤ, pos, arith}
use Rattle.std.specs.List.{list_any, AllPairs}
use Rattle.std.specs.Ordering.{int_eq}
use Rattle.std.specs.Option.{ok_or}
use Rattle.std.proofs.lemmas.Bool.Decides.{nat_tests}
use Rattle.std.proofs.lemmas.List.Quantifiers.{position-Some}
use Rattle.std.proofs.lemmas.List.Elements.{All-push}
use Rattle.std.proofs.lemmas.List.Sorted.{All-permutation}
use Rattle.pl_records.specs.Reading.{Record}
use Rattle.pl_records.specs.Sorted.{sorted_by, HasOwnKeys}
use Rattle.pl_spec.specs.declared.AssetRow.{AssetRow}
use Rattle.pl_spec.specs.declared.BarRow.{BarRow}
use Rattle.pl_records.proofs.Readings.{few-more, made-of, rows-keep, under_ok}
use Rattle.pl_records.proofs.RuleTables.{and_then_some, map_some, told_ok, ok_or-Ok}
use Rattle.pl_records.proofs.Sorts.{OwnKeys-none, OwnKeys-more, sorted-rises, sorted-permutes, length-sorted_by}
use Rattle.pl_lifetimes.specs.Assets.{col_in, sid_of}
use Rattle.pl_lifetimes.proofs.Filters.{any-same}
use Rattle.pl_bars.specs.declared.fields.Fields.{Fields}
use Rattle.pl_bars.specs.Bars.{breaks, session_in, placed_at, bar_of, header, fields_in, is_negative, is_at, bar_or_rule, key_of, rows_in, bars_of, is_before, is_bar_cell, AreBars}
use Rattle.pl_bars.specs.Bars as rules
use Rattle.pl_spec.specs.Limits.{most_bars}
use Rattle.pl_spec.specs.Limits.{most_sessions}
use Rattle.pl_bars.proofs.BarSets.{same_place}
use Rattle.pl_bars.proofs.BarFields.{fields-cells}

few : (n : ℕ) → n < most_bars → nat_le most_bars n ≡ false
few n h = grind (arith, nat_tests)

-- ---- the exits of a judgement

module _ (days : List ℤ) (assets : List AssetRow) (before : List BarRow) (r : Record) (f : Fields) (n : length before < most_bars) (e : fields_in r ≡ Some f) where
  pub no_session : session_in days f.day ≡ None → bar_or_rule days assets before r ≡ Err rules.NotSession
  unfolding bar_or_rule
  no_session p = rw (few (length before) n, e, p) refl

  module _ (session : ℕ) (p : session_in days f.day ≡ Some session) where
    pub no_asset : col_in assets f.sid ≡ None → bar_or_rule days assets before r ≡ Err rules.UnknownSid
    unfolding bar_or_rule
    no_asset q = rw (few (length before) n, e, p, q) refl

    module _ (col : ℕ) (q : col_in assets f.sid ≡ Some col) where
      pub negative : list_any is_negative f.cells ≡ true → bar_or_rule days assets before r ≡ Err rules.Negative
      unfolding bar_or_rule
      negative t = rw (few (length before) n, e, p, q, t) refl

      pub duplicate : list_any is_negative f.cells ≡ false → list_any (is_at col session) before ≡ true → bar_or_rule days assets before r ≡ Err rules.Duplicate
      unfolding bar_or_rule
      duplicate t u = rw (few (length before) n, e, p, q, t, u) refl

      pub bar : list_any is_negative f.cells ≡ false → list_any (is_at col session) before ≡ false → bar_or_rule days assets before r ≡ Ok (placed_at f session col)
      unfolding bar_or_rule
      bar t u = rw (few (length before) n, e, p, q, t, u) refl

-- ---- what the tests were where a record says its bar

pub record Says (days : List ℤ) (assets : List AssetRow) (before : List BarRow) (r : Record) (b : BarRow) : Type 0 where
  pub few : nat_le most_bars (length before) ≡ false
  pub fields : Fields
  pub written : fields_in r ≡ Some fields
  pub session : session_in days fields.day ≡ Some b.session
  pub col : col_in assets fields.sid ≡ Some b.col
  pub cells : b.cells ≡ fields.cells
  pub not_negative : list_any is_negative b.cells ≡ false
  pub own_place : list_any (is_at b.col b.session) before ≡ false

pub bar_or_rule-ok : (days : List ℤ) (assets : List AssetRow) (before : List BarRow) (r : Record) (b : BarRow) → bar_or_rule days assets before r ≡ Ok b → Says days assets before r b
unfolding bar_or_rule
bar_or_rule-ok days assets before r b e =
    let k = told_ok rules.rules (breaks days assets before r) (ok_or (bar_of days assets r) rules.BadField) b e in
    let at : bar_of days assets r ≡ Some b = ok_or-Ok (bar_of days assets r) rules.BadField b k.1 in
    let f = and_then_some (fields_in r) (λ f. option_and_then (λ session. option_map (placed_at f session) (col_in assets f.sid)) (session_in days f.day)) b at in
    let s = and_then_some (session_in days f.0.day) (λ session. option_map (placed_at f.0 session) (col_in assets f.0.sid)) b f.2 in
    let c = map_some (col_in assets f.0.sid) (placed_at f.0 s.0) b s.2 in
    let not_negative : list_any is_negative f.0.cells ≡ false = rw f.1 at k.0.1.1.1.1.0 in
    record {
      few = k.0.0;
      fields = f.0;
      written = f.1;
      session = s.1 ∙ ap (λ (x : BarRow). Some x.session) c.2;
      col = c.1 ∙ ap (λ (x : BarRow). Some x.col) c.2;
      cells = sym (ap (λ (x : BarRow). x.cells) c.2);
      not_negative = sym (ap (λ (x : BarRow). list_any is_negative x.cells) c.2) ∙ not_negative;
      own_place = rw at at k.0.1.1.1.1.1.0;
    }

-- ---- what is kept of all rows

other_keys : (xs : List BarRow) (y : BarRow) → All (λ x. x.session < 2 ^ 32) xs → y.session < 2 ^ 32 → list_any (is_at y.col y.session) xs ≡ false → list_any (λ x. key_of x == key_of y) xs ≡ false
other_keys xs y s h e =
    any-same (λ x. key_of x == key_of y) (is_at y.col y.session) xs (λ k d l. same_place (2 ^ 32) (get_or xs k d).col (get_or xs k d).session y.col y.session (s k d l) h) ∙ e

pub record AreKept (rows : List BarRow) : Type 0 where
  pub own : HasOwnKeys key_of rows
  pub small : All (λ b. b.session < 2 ^ 32) rows
  pub few : length rows ≤ most_bars
  pub cells : All (λ b. All (λ v. IsTrue (is_bar_cell v)) b.cells) rows

kept-more : (days : List ℤ) (assets : List AssetRow) → length days ≤ most_sessions → (before : List BarRow) (r : Record) (b : BarRow) → AreKept before → bar_or_rule days assets before r ≡ Ok b → AreKept (before ++ b ∷ [])
kept-more days assets n before r b h s =
    let ok = bar_or_rule-ok days assets before r b s in
    let at = position-Some (λ d. int_eq d ok.fields.day) days b.session (pos 0) ok.session in
    let small : b.session < 2 ^ 32 = omega (arith, at.0) in
    record {
      own = OwnKeys-more key_of before b h.own (other_keys before b h.small small ok.own_place);
      small = All-push (λ (x : BarRow). x.session < 2 ^ 32) before b h.small small;
      few = few-more most_bars before b ok.few;
      cells = All-push (λ (x : BarRow). All (λ v. IsTrue (is_bar_cell v)) x.cells) before b h.cells (rw ok.cells (fields-cells r ok.fields ok.written (rw ok.cells at ok.not_negative)));
    }

kept-none : AreKept []
kept-none = record { own = OwnKeys-none key_of; small = λ k d h. absurd (omega arith); few = omega arith; cells = λ k d h. absurd (omega arith) }

pub AreKept-read : (days : List ℤ) (assets : List AssetRow) (records : List Record) (rows : List BarRow) → length days ≤ most_sessions → rows_in days assets records ≡ Ok rows → AreKept rows
unfolding rows_in
AreKept-read days assets records rows n e =
    rows-keep AreKept 2 (bar_or_rule days assets) (kept-more days assets n) _ [] rows kept-none (under_ok header rules.BadHeader (bar_or_rule days assets) records rows e).1

-- ---- by column and session

pub before_by_key : (a b : BarRow) → a.session < 2 ^ 32 → b.session < 2 ^ 32 → key_of a < key_of b → IsTrue (is_before b.col b.session a)
before_by_key a b h l lt = grind (arith, nat_tests)

pub key_by_before : (a b : BarRow) → a.session < 2 ^ 32 → b.session < 2 ^ 32 → IsTrue (is_before b.col b.session a) → key_of a < key_of b
key_by_before a b h l t = grind (arith, nat_tests)

pub ascend-from_keys : (rows : List BarRow) → All (λ b. b.session < 2 ^ 32) rows → AllPairs (λ a b. key_of a < key_of b) rows → AllPairs (λ a b. IsTrue (is_before b.col b.session a)) rows
ascend-from_keys rows small up i j d h l = before_by_key (get_or rows i d) (get_or rows j d) (small i d (omega arith)) (small j d l) (up i j d h l)

pub keys-from_ascend : (rows : List BarRow) → All (λ b. b.session < 2 ^ 32) rows → AllPairs (λ a b. IsTrue (is_before b.col b.session a)) rows → AllPairs (λ a b. key_of a < key_of b) rows
keys-from_ascend rows small up i j d h l = key_by_before (get_or rows i d) (get_or rows j d) (small i d (omega arith)) (small j d l) (up i j d h l)

pub AreBars-read : (days : List ℤ) (assets : List AssetRow) (records : List Record) (bars : List BarRow) → length days ≤ most_sessions → bars_of days assets records ≡ Ok bars → AreBars bars
unfolding bars_of
AreBars-read days assets records bars n e =
    let it = made-of (sorted_by key_of) (rows_in days assets records) bars e in
    let kept = AreKept-read days assets records it.0 n it.1 in
    let moved = sorted-permutes key_of it.0 in
    rw (← it.2) record {
      ascend = ascend-from_keys (sorted_by key_of it.0) (All-permutation (λ (b : BarRow). b.session < 2 ^ 32) it.0 (sorted_by key_of it.0) moved kept.small) (sorted-rises key_of it.0 kept.own);
      few = omega (arith, length-sorted_by key_of it.0, kept.few);
      cells = All-permutation (λ (b : BarRow). All (λ v. IsTrue (is_bar_cell v)) b.cells) it.0 (sorted_by key_of it.0) moved kept.cells;
    }

-- ---- bars of assets on sessions

-- bars of these assets on these sessions
pub record AreInside (days : List ℤ) (assets : List AssetRow) (rows : List BarRow) : Type 0 where
  pub cols : All (λ b. b.col < length assets) rows
  pub sessions : All (λ b. b.session < length days) rows

inside-more : (days : List ℤ) (assets : List AssetRow) (before : List BarRow) (r : Record) (b : BarRow) → AreInside days assets before → bar_or_rule days assets before r ≡ Ok b → AreInside days assets (before ++ b ∷ [])
inside-more days assets before r b h s =
    let ok = bar_or_rule-ok days assets before r b s in
    let session = position-Some (λ d. int_eq d ok.fields.day) days b.session (pos 0) ok.session in
    let col = position-Some (λ a. sid_of a == ok.fields.sid) assets b.col (record { sid = 0; start = pos 0; end = pos 0 }) ok.col in
    record {
      cols = All-push (λ (x : BarRow). x.col < length assets) before b h.cols col.0;
      sessions = All-push (λ (x : BarRow). x.session < length days) before b h.sessions session.0;
    }

inside-none : (days : List ℤ) (assets : List AssetRow) → AreInside days assets []
inside-none days assets = record { cols = λ k d h. absurd (omega arith); sessions = λ k d h. absurd (omega arith) }

pub AreInside-read : (days : List ℤ) (assets : List AssetRow) (records : List Record) (bars : List BarRow) → bars_of days assets records ≡ Ok bars → AreInside days assets bars
unfolding bars_of rows_in
AreInside-read days assets records bars e =
    let it = made-of (sorted_by key_of) (rows_in days assets records) bars e in
    let kept = rows-keep (AreInside days assets) 2 (bar_or_rule days assets) (inside-more days assets) _ [] it.0 (inside-none days assets)
    (under_ok header rules.BadHeader (bar_or_rule days assets) records it.0 it.1).1 in
    let moved = sorted-permutes key_of it.0 in
    rw (← it.2) record {
      cols = All-permutation (λ (b : BarRow). b.col < length assets) it.0 (sorted_by key_of it.0) moved kept.cols;
      sessions = All-permutation (λ (b : BarRow). b.session < length days) it.0 (sorted_by key_of it.0) moved kept.sessions;
    }
