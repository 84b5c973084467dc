-- The world that parts make: its adjustments by sid, and its cells as they are seen.
use Rattle.std.proofs.Common.{◌≡◌, ℕ, ◌<◌, false, IsTrue, ℤ, pos, ◌<ℤ◌, inl, inr, List, [], ◌∷◌, map, length, get_or, slice_get, Some, refl, sym, ◌∙◌, ap, ap₂, arith}
use Rattle.std.specs.List.{AllPairs, Contains, All}
use Rattle.std.proofs.lemmas.Bool.{cases_lt, true≢false}
use Rattle.std.proofs.lemmas.Bool.Decides.{nat_tests}
use Rattle.std.proofs.lemmas.List.{get_or-map, length-map}
use Rattle.std.proofs.lemmas.Option.{slice_get-get_or}
use Rattle.pl_spec.specs.declared.AssetRow.{AssetRow}
use Rattle.pl_spec.specs.declared.BarRow.{BarRow}
use Rattle.pl_spec.specs.declared.Column.{Column}
use Rattle.pl_spec.specs.Lookups.{BarsOnce, LabelsOnce}
use Rattle.pl_spec.specs.Numbers.{NumbersOnce}
use Rattle.pl_spec.specs.Parts as parts
use Rattle.pl_spec.specs.Parts.{ColumnAdjustment, ColumnLabel, ColumnNumber, bar_of, label_of, number_of, sid_at}
use Rattle.pl_spec.specs.World as spec
use Rattle.pl_spec.specs.World.{IsWorld, events_of}
use Rattle.pl_spec.specs.Window.{after_all, effects, effects_in, seen_cell}
use Rattle.pl_spec.proofs.Columns.{sid-found, events-by-day, no_asset, sid_at-row}
use Rattle.pl_lifetimes.specs.Assets.{AreAssets}
use Rattle.pl_assets.specs.Labels.{is_from}
use Rattle.pl_lifetimes.proofs.Columns.{one_col}
use Rattle.pl_assets.proofs.LabelKeys.{parts_from}
use Rattle.pl_bars.specs.Bars.{cell_at, is_before}
use Rattle.pl_bars.proofs.BarWorlds.{cells_raw}
use Rattle.pl_numbers.specs.Numbers as number_tables
use Rattle.pl_numbers.proofs.NumberKeys as number_keys
use Rattle.pl_adjust.specs.Columns.{AreByDay, events_at}
use Rattle.pl_adjust.proofs.Sids.{column_events}
use Rattle.pl_world.specs.declared.world.World.{World}
use Rattle.pl_world.specs.Worlds.{world_of, AreSound, IsMade, PartsMakeAWorld}

module _ (w : World) (made : IsMade w) (assets : AreAssets w.assets.now) (col : ℕ) (inside : col < length w.assets.now) where
  -- the adjustments of the asset in a column
  pub events_of-at : events_of (world_of w) (sid_at w.assets.now col) ≡ events_at w.adjustments.now col
  events_of-at =
      ap (events_of (world_of w)) (sid_at-row w.assets.now col no_asset inside)
      ∙ column_events w.sessions.now w.assets.now w.labels.now.rows w.labels.now.texts w.bars.now w.adjustments.now w.numbers.now.rows assets.ascend made.adjustments_in
      col (get_or w.assets.now col no_asset) (slice_get-get_or w.assets.now col no_asset inside)

  pub effects-at : (c : Column) (s d : ℕ) (low high : ℤ) → slice_get w.sessions.now s ≡ Some low → slice_get w.sessions.now d ≡ Some high
      → effects (world_of w) (sid_at w.assets.now col) c (pos s) (pos d) ≡ effects_in c low low high (events_at w.adjustments.now col)
  effects-at c s d low high at_s at_d = rw (at_s, at_d) (ap (effects_in c low low high) events_of-at)

  -- its cell of one session as it is seen on another
  pub seen-at : (c : Column) (s d : ℕ) (low high : ℤ) → slice_get w.sessions.now s ≡ Some low → slice_get w.sessions.now d ≡ Some high
      → seen_cell (world_of w) (sid_at w.assets.now col) c (pos s) (pos d) ≡ after_all (cell_at w.bars.now col c s) (effects_in c low low high (events_at w.adjustments.now col))
  unfolding seen_cell
  seen-at c s d low high at_s at_d =
      ap (after_all _) (effects-at c s d low high at_s at_d)
      ∙ ap (λ x. after_all x (effects_in c low low high (events_at w.adjustments.now col)))
      (sym (cells_raw w.sessions.now w.assets.now w.labels.now.rows w.labels.now.texts w.bars.now w.adjustments.now w.numbers.now.rows assets.ascend made.bars_in col c s inside))

-- ---- each bar, each label row and each number stands once

-- where no two elements are the same, two that are mapped to the same are one
once-mapped : {A B : Type 0} (f : A → B) (Same : B → B → Type 0) → ((b c : B) → Same b c → Same c b) → (xs : List A) → AllPairs (λ x y. ¬ Same (f x) (f y)) xs
    → (b c : B) → Contains (map f xs) b → Contains (map f xs) c → Same b c → b ≡ c
once-mapped f Same back [] differ b c first second same = absurd (omega (arith, first.1))
once-mapped {A} {B} f Same back (x ∷ xs) differ b c first second same = elim (cases_lt first.0 second.0) [
  | inl l ↦ absurd (differ first.0 second.0 x l in_second (rw (at_first, at_second) at same))
  | inr g ↦ elim (cases_lt second.0 first.0) [
    | inl l ↦ absurd (differ second.0 first.0 x l in_first (rw (at_first, at_second) at (back b c same)))
    | inr h ↦ (let one : first.0 ≡ second.0 = omega arith in at_first ∙ ap (λ k. f (get_or (x ∷ xs) k x)) one ∙ sym at_second)
  ]
]
  where
    many : length (map f (x ∷ xs)) ≡ length (x ∷ xs)
    many = length-map (x ∷ xs) f

    in_first : first.0 < length (x ∷ xs)
    in_first = omega (arith, first.1, many)

    in_second : second.0 < length (x ∷ xs)
    in_second = omega (arith, second.1, many)

    at_first : b ≡ f (get_or (x ∷ xs) first.0 x)
    at_first = sym first.2 ∙ get_or-map f (x ∷ xs) first.0 x b in_first

    at_second : c ≡ f (get_or (x ∷ xs) second.0 x)
    at_second = sym second.2 ∙ get_or-map f (x ∷ xs) second.0 x c in_second

-- rows of assets that are told apart by their columns and keys are so by their sids and keys
once-keyed : {A B K : Type 0} (f : A → B) (col : A → ℕ) (key : A → K) (sid : B → ℕ) (key_of : B → K) (assets : List AssetRow) → AllPairs (λ a b. a.sid < b.sid) assets
    → ((x : A) → sid (f x) ≡ sid_at assets (col x)) → ((x : A) → key_of (f x) ≡ key x) → (xs : List A) → All (λ x. col x < length assets) xs
    → AllPairs (λ x y. col y ≡ col x → key y ≡ key x → ⊥) xs → (b c : B) → Contains (map f xs) b → Contains (map f xs) c → sid b ≡ sid c → key_of b ≡ key_of c → b ≡ c
once-keyed {A} {B} {K} f col key sid key_of assets up sids keys xs inside differ b c first second same_sid same_key =
    once-mapped f (λ b c. (sid b ≡ sid c) × (key_of b ≡ key_of c)) (λ b c same. (sym same.0, sym same.1)) xs
    (λ i j d lt l same.
    let x : A = get_or xs i d in
    let y : A = get_or xs j d in
    let cols : col x ≡ col y = one_col assets up (col x) (col y) (inside i d (omega arith)) (inside j d l) (sym (sids x) ∙ same.0 ∙ sids y) in
    differ i j d lt l (sym cols) (sym (keys y) ∙ sym same.1 ∙ keys x))
    b c first second (same_sid, same_key)

-- the numbers of rows no two of which are of one name, column and day
pub numbers-once : (assets : List AssetRow) (rows : List ColumnNumber) → AllPairs (λ a b. a.sid < b.sid) assets → All (λ r. r.col < length assets) rows
    → AllPairs (λ r q. number_tables.is_from r.name r.col r.known q ≡ false) rows → NumbersOnce (map (number_of assets) rows)
numbers-once assets rows up inside once r q first second names sids days =
    once-keyed {K = List ℕ × ℤ} (number_of assets) (λ r. r.col) (λ r. (r.name, r.known)) (λ r. r.sid) (λ r. (r.name, r.known)) assets up (λ r. refl) (λ r. refl) rows inside
    (λ i j d lt l cols keys.
    let row = get_or rows i d in
    true≢false (sym (number_keys.parts_from row.name row.col row.known (get_or rows j d) (ap (λ (k : List ℕ × ℤ). k.0) keys) cols (ap (λ (k : List ℕ × ℤ). k.1) keys)) ∙ once i j d lt l))
    r q first second sids (ap₂ {C = List ℕ × ℤ} (λ n d. (n, d)) names days)

-- what parts of a world have to be
pub record AreParts (days : List ℤ) (assets : List AssetRow) (labels : List ColumnLabel) (bars : List BarRow) : Type 0 where
  pub days_up : AllPairs (λ a b. a <ℤ b) days
  pub sids_up : AllPairs (λ a b. a.sid < b.sid) assets
  pub labels_in : All (λ r. r.col < length assets) labels
  pub starts_own : AllPairs (λ r q. is_from r.name r.col r.start q ≡ false) labels
  pub bars_in : All (λ b. b.col < length assets) bars
  pub bars_up : AllPairs (λ a b. IsTrue (is_before b.col b.session a)) bars

module _ (days : List ℤ) (assets : List AssetRow) (labels : List ColumnLabel) (texts : List (List ℕ)) (bars : List BarRow) (are : AreParts days assets labels bars)
    (adjustments : List ColumnAdjustment) (adjustments_in : All (λ x. x.col < length assets) adjustments) (in_order : AreByDay adjustments) (numbers : List ColumnNumber) where
  abbrev whole : spec.World
  whole = parts.world_of days assets labels texts bars adjustments numbers

  pub bars_once : BarsOnce whole
  bars_once =
      once-keyed {K = ℕ} (bar_of assets) (λ b. b.col) (λ b. b.session) (λ b. b.sid) (λ b. b.session) assets are.sids_up (λ b. refl) (λ b. refl) bars are.bars_in
      (λ i j d lt l cols sessions. differ (get_or bars i d) (get_or bars j d) (are.bars_up i j d lt l) cols sessions)
    where
      differ : (x y : BarRow) → IsTrue (is_before y.col y.session x) → y.col ≡ x.col → y.session ≡ x.session → ⊥
      differ x y before cols sessions = grind (arith, nat_tests)

  pub labels_once : LabelsOnce whole
  labels_once r q first second names sids starts =
      once-keyed {K = List ℕ × ℤ} (label_of assets) (λ r. r.col) (λ r. (r.name, r.start)) (λ r. r.sid) (λ r. (r.name, r.start)) assets are.sids_up (λ r. refl) (λ r. refl) labels are.labels_in
      (λ i j d lt l cols keys.
      let row = get_or labels i d in
      true≢false (sym (parts_from row.name row.col row.start (get_or labels j d) (ap (λ (k : List ℕ × ℤ). k.0) keys) cols (ap (λ (k : List ℕ × ℤ). k.1) keys)) ∙ are.starts_own i j d lt l))
      r q first second sids (ap₂ {C = List ℕ × ℤ} (λ n d. (n, d)) names starts)

  events_in : (col : ℕ) → col < length assets → events_of whole (sid_at assets col) ≡ events_at adjustments col
  events_in col inside =
      ap (events_of whole) (sid_at-row assets col no_asset inside)
      ∙ column_events days assets labels texts bars adjustments numbers are.sids_up adjustments_in col (get_or assets col no_asset) (slice_get-get_or assets col no_asset inside)

  pub is_world : IsWorld whole
  is_world = record {
    days_ascend = are.days_up;
    sids_ascend = are.sids_up;
    events_in_order = λ a. elim (sid-found assets adjustments a adjustments_in) [
      | inl none ↦ rw none (λ i j d l m. absurd (omega arith))
      | inr at ↦ rw (← at.2, events_in at.0 at.1) (events-by-day _ (in_order at.0))
    ];
  }

pub parts_make_a_world : (w : World) → AreSound w → PartsMakeAWorld w
parts_make_a_world w sound =
    let made = sound.made in
    let rows = w.labels.now.rows in
    let texts = w.labels.now.texts in
    let numbers = w.numbers.now.rows in
    let are : AreParts w.sessions.now w.assets.now rows w.bars.now = record {
      days_up = sound.days.ascend;
      sids_up = sound.assets.ascend;
      labels_in = made.labels_in;
      starts_own = sound.labels.once;
      bars_in = made.bars_in;
      bars_up = sound.bars.ascend;
    } in
    record {
      sound = sound;
      parts = record {
        days_ascend = sound.days.ascend;
        sids_ascend = sound.assets.ascend;
        labels_in = made.labels_in;
        bars_in = made.bars_in;
        sessions_in = made.sessions_in;
        adjustments_in = made.adjustments_in;
        events_in_order = sound.in_order;
        numbers_in = made.numbers_in;
      };
      world = is_world w.sessions.now w.assets.now rows texts w.bars.now are w.adjustments.now made.adjustments_in sound.in_order numbers;
      bars_once = bars_once w.sessions.now w.assets.now rows texts w.bars.now are w.adjustments.now made.adjustments_in sound.in_order numbers;
      labels_once = labels_once w.sessions.now w.assets.now rows texts w.bars.now are w.adjustments.now made.adjustments_in sound.in_order numbers;
      numbers_once = numbers-once w.assets.now numbers sound.assets.ascend made.numbers_in sound.numbers.once;
    }
