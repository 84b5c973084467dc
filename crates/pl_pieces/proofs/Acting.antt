-- The rows of the tables and the revisions act as the adjustments of the world do.
use Rattle.std.proofs.Common.{◌≡◌, ◌≢◌, ℕ, ◌==◌, Bool, ℤ, ◌≤ℤ◌, List, [], ◌∷◌, ◌++◌, map, filter, All, Option, Some, None, refl, sym, ◌∙◌, ap}
use Rattle.std.specs.List.{flat_map}
use Rattle.std.proofs.lemmas.List.{map-append}
use Rattle.std.proofs.lemmas.List.Elements.{All-map, filter-append}
use Rattle.std.proofs.lemmas.List.Kept.{AllPairs-filter}
use Rattle.pl_spec.specs.Order.{acts_at, by_day}
use Rattle.pl_spec.specs.World.{World, IsWorld, Adjustment, Event, events_of}
use Rattle.pl_spec.specs.declared.AdjustmentKind.{AdjustmentKind}
use Rattle.pl_spec.specs.declared.AdjustmentKind.TheVariants.{Split, Merger, Dividend, Revision}
use Rattle.pl_spec.specs.declared.AssetRow.{AssetRow}
use Rattle.pl_spec.proofs.ByDay.{by_day-is_by_day, by_day_is_one}
use Rattle.pl_spec.proofs.Lists.{filter-map, filter-swap}
use Rattle.pl_spec.proofs.Places.{nowhere}
use Rattle.pl_lifetimes.specs.Assets.{AreAssets, col_in, sid_of}
use Rattle.pl_lifetimes.proofs.SidColumns.{no_col_found, sid_form}
use Rattle.pl_parts.specs.Texts.{is_kind, of_sid, rows_in, rows_of}
use Rattle.pl_pieces.specs.Held.{IsSidOf}
use Rattle.pl_pieces.specs.Tables.{AreAdjustmentsOf, of_kind, on_day}
use Rattle.pl_pieces.proofs.Gathered.{none-of, of-one-sid, of-sid}
use Rattle.pl_pieces.proofs.Rows.{pairs-map}

-- rows of one sid by day are the rows by day of that sid
by-day-kept : (p : Adjustment → Bool) (xs : List Adjustment) → filter p (by_day xs) ≡ by_day (filter p xs)
by-day-kept p xs =
    let is = by_day-is_by_day xs in
    by_day_is_one (filter p xs) (filter p (by_day xs)) (record {
      rising = AllPairs-filter (λ x y. x.event.day ≤ℤ y.event.day) p (by_day xs) is.rising;
      same = λ day. filter-swap (acts_at day) p (by_day xs) ∙ ap (filter p) (is.same day) ∙ filter-swap p (acts_at day) xs;
    })

pub four-kept : {A : Type 0} (p : A → Bool) (a b c d : List A) → filter p (a ++ b ++ c ++ d) ≡ filter p a ++ filter p b ++ filter p c ++ filter p d
four-kept p a b c d =
    filter-append p (a ++ b ++ c) d
    ∙ ap (λ l. l ++ filter p d) (filter-append p (a ++ b) c)
    ∙ ap (λ l. l ++ filter p c ++ filter p d) (filter-append p a b)

pub four-mapped : {A B : Type 0} (f : A → B) (a b c d : List A) → map f (a ++ b ++ c ++ d) ≡ map f a ++ map f b ++ map f c ++ map f d
four-mapped f a b c d =
    map-append f (a ++ b ++ c) d
    ∙ ap (λ l. l ++ map f d) (map-append f (a ++ b) c)
    ∙ ap (λ l. l ++ map f c ++ map f d) (map-append f a b)

pub four-same : {A : Type 0} {a b c d x y z u : List A} → a ≡ x → b ≡ y → c ≡ z → d ≡ u → a ++ b ++ c ++ d ≡ x ++ y ++ z ++ u
four-same e f g h = rw (e, f, g, h) refl

events-out : (sid : ℕ) (es : List Event) → map (λ (x : Adjustment). x.event) (map (of_sid sid) es) ≡ es
events-out sid [] = refl
events-out sid (e ∷ es) = ap (λ l. e ∷ l) (events-out sid es)

module _ (w : World) (ok : IsWorld w) (assets : AreAssets w.assets) (are : AreAdjustmentsOf w) where
  -- the rows of the tables, one after the other, and the revisions
  abbrev pub told : List Adjustment
  told = rows_in Split w ++ rows_in Merger w ++ rows_in Dividend w ++ rows_in Revision w

  own : (kind : AdjustmentKind) (a : AssetRow) → All (λ x. x.sid ≡ a.sid) (rows_of kind w a.sid)
  own kind a = All-map (λ (x : Adjustment). x.sid ≡ a.sid) (of_sid a.sid) (filter (λ e. is_kind kind e.kind) (events_of w a.sid)) (λ k d l. refl)

  module _ (a : ℕ) where
    abbrev is_of : Adjustment → Bool
    is_of x = x.sid == a

    rows-of : (kind : AdjustmentKind) → IsSidOf w.assets a → filter is_of (rows_in kind w) ≡ rows_of kind w a
    rows-of kind h =
        let it = of-one-sid (λ (x : Adjustment). x.sid) (λ (b : AssetRow). rows_of kind w b.sid) (own kind) w.assets assets.ascend a h.0 h.1 in
        it.1 ∙ ap (rows_of kind w) it.2

    no-rows : (kind : AdjustmentKind) → col_in w.assets a ≡ None → filter is_of (rows_in kind w) ≡ []
    no-rows kind none =
        of-sid (λ (x : Adjustment). x.sid) (λ (b : AssetRow). rows_of kind w b.sid) (own kind) a w.assets
        ∙ ap (flat_map (λ (b : AssetRow). rows_of kind w b.sid)) (none-of a w.assets (λ k d l. nowhere (λ (b : AssetRow). sid_of b == a) w.assets none k d l))

    no-events : col_in w.assets a ≡ None → events_of w a ≡ []
    no-events none = here (events_of w a) (λ some. are.known a some)
      where
        here : (es : List Event) → (es ≢ [] → IsSidOf w.assets a) → es ≡ []
        here [] h = refl
        here (e ∷ es) h = let it = h (λ bad. cc bad) in absurd (no_col_found w.assets a none it.0 it.1)

    -- on each day the rows of the asset stand as its events do
    on-days : (day : ℤ) → filter (acts_at day) (map (of_sid a) (events_of w a)) ≡ filter (acts_at day) (rows_of Split w a ++ rows_of Merger w a ++ rows_of Dividend w a ++ rows_of Revision w a)
    on-days day =
        let es = events_of w a in
        let now : AdjustmentKind → List Event = λ kind. filter (of_kind kind) (filter (on_day day) es) in
        let each : (kind : AdjustmentKind) → map (of_sid a) (now kind) ≡ filter (acts_at day) (rows_of kind w a) =
        (λ kind. ap (map (of_sid a)) (filter-swap (of_kind kind) (on_day day) es) ∙ sym (filter-map (acts_at day) (of_sid a) (filter (of_kind kind) es))) in
        filter-map (acts_at day) (of_sid a) es
        ∙ ap (map (of_sid a)) (are.order a day)
        ∙ four-mapped (of_sid a) (now Split) (now Merger) (now Dividend) (now Revision)
        ∙ four-same (each Split) (each Merger) (each Dividend) (each Revision)
        ∙ sym (four-kept (acts_at day) (rows_of Split w a) (rows_of Merger w a) (rows_of Dividend w a) (rows_of Revision w a))

    of-asset : IsSidOf w.assets a → map (λ (x : Adjustment). x.event) (filter is_of (by_day told)) ≡ events_of w a
    of-asset h =
        let rows : List Adjustment = rows_of Split w a ++ rows_of Merger w a ++ rows_of Dividend w a ++ rows_of Revision w a in
        let kept : filter is_of told ≡ rows =
        four-kept is_of (rows_in Split w) (rows_in Merger w) (rows_in Dividend w) (rows_in Revision w)
        ∙ four-same (rows-of Split h) (rows-of Merger h) (rows-of Dividend h) (rows-of Revision h) in
        let sorted : map (of_sid a) (events_of w a) ≡ by_day rows =
        by_day_is_one rows (map (of_sid a) (events_of w a)) (record {
          rising = pairs-map (λ (x y : Adjustment). x.event.day ≤ℤ y.event.day) (of_sid a) (events_of w a) (ok.events_in_order a);
          same = on-days;
        }) in
        ap (map (λ (x : Adjustment). x.event)) (by-day-kept is_of told ∙ ap by_day kept ∙ sym sorted) ∙ events-out a (events_of w a)

    of-none : col_in w.assets a ≡ None → map (λ (x : Adjustment). x.event) (filter is_of (by_day told)) ≡ events_of w a
    of-none none =
        ap (map (λ (x : Adjustment). x.event)) (by-day-kept is_of told
        ∙ ap by_day (four-kept is_of (rows_in Split w) (rows_in Merger w) (rows_in Dividend w) (rows_in Revision w) ∙ four-same (no-rows Split none) (no-rows Merger none) (no-rows Dividend none) (no-rows Revision none)))
        ∙ sym (no-events none)

    pub acting : map (λ (x : Adjustment). x.event) (filter (λ x. x.sid == a) (by_day told)) ≡ events_of w a
    acting = here (col_in w.assets a) refl
      where
        here : (o : Option ℕ) → col_in w.assets a ≡ o → map (λ (x : Adjustment). x.event) (filter (λ x. x.sid == a) (by_day told)) ≡ events_of w a
        here (Some col) e = of-asset (col, (sid_form w.assets assets a col).0 e)
        here None e = of-none e
