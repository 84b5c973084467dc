-- What files can hold, they can hold the cut of.
use Rattle.std.proofs.Common.{◌≡◌, ℕ, suc, ◌<◌, ◌==◌, ◌^◌, ◌&&◌, Bool, true, false, cond, List, [], ◌∷◌, map, filter, get_or, All, Some, refl, sym, ◌∙◌, ap, arith, inl, inr, eqb-true}
use Rattle.std.specs.List.{list_any}
use Rattle.std.proofs.lemmas.Bool.{and_parts, cases_Bool, or_cases}
use Rattle.std.proofs.lemmas.List.Elements.{All-filter, filter_passes}
use Rattle.std.proofs.lemmas.List.Kept.{AllPairs-filter}
use Rattle.pl_spec.specs.World.{World, Adjustment, Bar, Event, LabelRow, events_of}
use Rattle.pl_spec.specs.Numbers.{NumberRow}
use Rattle.pl_spec.specs.declared.AdjustmentKind.{AdjustmentKind}
use Rattle.pl_spec.specs.declared.AdjustmentKind.TheVariants.{Split, Merger, Dividend, Revision}
use Rattle.pl_spec.specs.declared.AssetRow.{AssetRow}
use Rattle.pl_spec.proofs.Lists.{filter-few, filter-swap}
use Rattle.pl_lifetimes.specs.Assets.{AreAssets}
use Rattle.pl_cut.specs.Cuts.{Span, cut, is_bar_in, is_event_in, is_label_in, is_number_in, is_of, lives_in}
use Rattle.pl_cut.proofs.Cuts.{events-kept}
use Rattle.pl_pieces.specs.Held.{AreBarsOf, AreLabelsOf, AreNumbersOf, IsBarIn, IsBefore, IsLabelIn, IsLifetime, IsNumberIn, IsSidOf, KnownApart, StartApart}
use Rattle.pl_pieces.specs.Readable.{FilesCanHold}
use Rattle.pl_pieces.specs.Tables.{AreAdjustmentsOf, IsEventIn, KindsInOrder, of_kind, on_day}
use Rattle.pl_pieces.proofs.Acting.{four-kept, four-same}

sid-there : (assets : List AssetRow) (sid : ℕ) → list_any (λ a. a.sid == sid) assets ≡ true → IsSidOf assets sid
sid-there [] sid e = absurd (let bad : false ≡ true = e in cc)
sid-there (a ∷ rest) sid e = elim (or_cases (a.sid == sid) (list_any (λ b. b.sid == sid) rest) e) [
  | inl t ↦ (0, ap Some (eqb-true a.sid sid t))
  | inr t ↦ (let it = sid-there rest sid t in (suc it.0, it.1))
]

-- ---- kinds stay in order

kinds-kept : (q : Event → Bool) (es : List Event) → KindsInOrder es → KindsInOrder (filter q es)
kinds-kept q es h day =
    let now : List Event = filter (on_day day) es in
    let each : (kind : AdjustmentKind) → filter q (filter (of_kind kind) now) ≡ filter (of_kind kind) (filter (on_day day) (filter q es)) =
    (λ kind. filter-swap q (of_kind kind) now ∙ ap (filter (of_kind kind)) (filter-swap q (on_day day) es)) in
    filter-swap (on_day day) q es
    ∙ ap (filter q) (h day)
    ∙ four-kept q (filter (of_kind Split) now) (filter (of_kind Merger) now) (filter (of_kind Dividend) now) (filter (of_kind Revision) now)
    ∙ four-same (each Split) (each Merger) (each Dividend) (each Revision)

module _ (w : World) (span : Span) where
  abbrev part : World
  part = cut w span

  gone : (a : ℕ) → is_of w span a ≡ false → (xs : List Adjustment) → filter (λ x. x.sid == a) (filter (λ x. is_of w span x.sid && is_event_in span x.event) xs) ≡ []
  gone a none [] = refl
  gone a none (x ∷ xs) = here (x.sid == a) refl (is_of w span x.sid && is_event_in span x.event) refl (gone a none xs)
    where
      here : (t : Bool) → (x.sid == a) ≡ t → (u : Bool) → (is_of w span x.sid && is_event_in span x.event) ≡ u
          → filter (λ y. y.sid == a) (filter (λ y. is_of w span y.sid && is_event_in span y.event) xs) ≡ []
          → filter (λ y. y.sid == a) (cond u (x ∷ filter (λ y. is_of w span y.sid && is_event_in span y.event) xs) (filter (λ y. is_of w span y.sid && is_event_in span y.event) xs)) ≡ []
      here t s false v rest = rest
      here false s true v rest = rw s rest
      here true s true v rest =
          let own : is_of w span x.sid ≡ true = (and_parts (is_of w span x.sid) (is_event_in span x.event) v).0 in
          let same : is_of w span x.sid ≡ is_of w span a = ap (is_of w span) (eqb-true x.sid a s) in
          absurd (let bad : true ≡ false = sym own ∙ same ∙ none in cc)

  no-events : (a : ℕ) → is_of w span a ≡ false → events_of part a ≡ []
  no-events a none = ap (map (λ (x : Adjustment). x.event)) (gone a none w.adjustments)

  module _ (held : FilesCanHold w) where
    assets : AreAssets part.assets
    assets = record {
      ascend = AllPairs-filter (λ a b. a.sid < b.sid) (lives_in span) w.assets held.assets.ascend;
      few = omega (arith, filter-few (lives_in span) w.assets, held.assets.few);
      small = All-filter (lives_in span) (λ (a : AssetRow). a.sid < 2 ^ 32) w.assets held.assets.small;
    }

    -- a kept row is of a kept asset
    kept-sid : (sid : ℕ) (more : Bool) → (is_of w span sid && more) ≡ true → IsSidOf part.assets sid
    kept-sid sid more e = sid-there part.assets sid (and_parts (is_of w span sid) more e).0

    abbrev keeps_bar : Bar → Bool
    keeps_bar b = is_of w span b.sid && is_bar_in span b

    bars : AreBarsOf part
    bars = record {
      each = λ k d l. (
          let b : Bar = get_or part.bars k d in
          let h : IsBarIn w b = All-filter keeps_bar (IsBarIn w) w.bars held.bars.each k d l in
          record { asset = kept-sid b.sid (is_bar_in span b) (filter_passes keeps_bar w.bars k d l); session = h.session; cells = h.cells });
      ascend = AllPairs-filter IsBefore keeps_bar w.bars held.bars.ascend;
      few = omega (arith, filter-few keeps_bar w.bars, held.bars.few);
    }

    abbrev keeps_label : LabelRow → Bool
    keeps_label r = is_of w span r.sid && is_label_in w.labels span r

    labels : AreLabelsOf part
    labels = record {
      each = λ k d l. (
          let r : LabelRow = get_or part.labels k d in
          let h : IsLabelIn w.assets r = All-filter keeps_label (IsLabelIn w.assets) w.labels held.labels.each k d l in
          record {
            name = h.name;
            asset = kept-sid r.sid (is_label_in w.labels span r) (filter_passes keeps_label w.labels k d l);
            start = h.start;
            printable = h.printable;
            short = h.short;
          });
      once = AllPairs-filter StartApart keeps_label w.labels held.labels.once;
      few = omega (arith, filter-few keeps_label w.labels, held.labels.few);
    }

    abbrev keeps_number : NumberRow → Bool
    keeps_number r = is_of w span r.sid && is_number_in w.numbers span r

    numbers : AreNumbersOf part
    numbers = record {
      each = λ k d l. (
          let r : NumberRow = get_or part.numbers k d in
          let h : IsNumberIn w.assets r = All-filter keeps_number (IsNumberIn w.assets) w.numbers held.numbers.each k d l in
          record {
            name = h.name;
            asset = kept-sid r.sid (is_number_in w.numbers span r) (filter_passes keeps_number w.numbers k d l);
            known = h.known;
            value = h.value;
          });
      once = AllPairs-filter KnownApart keeps_number w.numbers held.numbers.once;
      few = omega (arith, filter-few keeps_number w.numbers, held.numbers.few);
    }

    -- what holds of the events of the world holds of those of the cut
    pub events-hold : (P : Event → Type 0) → ((a : ℕ) → All P (events_of w a)) → (a : ℕ) → All P (events_of part a)
    events-hold P h a = elim (cases_Bool (is_of w span a)) [
      | inl t ↦ rw (events-kept w span a t) (All-filter (is_event_in span) P (events_of w a) (h a))
      | inr f ↦ rw (no-events a f) (λ k d l. absurd (omega arith))
    ]

    adjustments : AreAdjustmentsOf part
    adjustments = record {
      known = λ a some. elim (cases_Bool (is_of w span a)) [ inl t ↦ sid-there part.assets a t | inr f ↦ absurd (some (no-events a f)) ];
      each = events-hold (IsEventIn w.days) held.adjustments.each;
      order = λ a. elim (cases_Bool (is_of w span a)) [
        | inl t ↦ rw (events-kept w span a t) (kinds-kept (is_event_in span) (events_of w a) (held.adjustments.order a))
        | inr f ↦ rw (no-events a f) (λ day. refl)
      ];
      few = omega (arith, filter-few (λ (x : Adjustment). is_of w span x.sid && is_event_in span x.event) w.adjustments, held.adjustments.few);
    }

    -- so its cut
    pub of-cut : FilesCanHold part
    of-cut = record {
      days = held.days;
      assets = assets;
      lifetimes = All-filter (lives_in span) IsLifetime w.assets held.lifetimes;
      bars = bars;
      labels = labels;
      numbers = numbers;
      adjustments = adjustments;
    }
