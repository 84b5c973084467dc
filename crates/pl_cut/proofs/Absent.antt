-- An asset that exists on no session that is read changes nothing.
use Rattle.std.proofs.Common.{◌≡◌, ℕ, Bool, true, false, not, ◌&&◌, ◌||◌, ◌==◌, cond, ℤ, pos, negsuc, ◌≤ℤ◌, List, [], ◌∷◌, map, filter, Option, Some, None, option_map, option_and_then, unwrap_or, refl, sym, ◌∙◌, ap, arith, inl, inr}
use Rattle.std.specs.List.{list_any}
use Rattle.std.proofs.lemmas.Bool.{and_parts, or_left, eqb-true, ne_eqb, cases_eq, true≢false}
use Rattle.std.proofs.lemmas.Int.{ints}
use Rattle.pl_spec.specs.declared.AssetRow.{AssetRow}
use Rattle.pl_spec.specs.declared.Column.{Column}
use Rattle.pl_spec.specs.Numbers.{NumberRow, read_of, number_at, last_known, is_number_of}
use Rattle.pl_spec.specs.Rounding.{MISSING}
use Rattle.pl_spec.specs.Window.{effects_from, effects, after_all, seen_cell}
use Rattle.pl_spec.specs.World.{World, LabelRow, Adjustment, events_of, day_of, lives_on, living_sids, exists, cell_of, bar_cell, last_started, nonempty, is_label_of, label_at, known_number}
use Rattle.pl_spec.proofs.Lists.{filter-filter, filter-swap}
use Rattle.pl_spec.specs.declared.Figure.{Figure}
use Rattle.pl_laws.proofs.Alike.{day_of-days}
use Rattle.pl_cut.specs.Cuts.{without}
use Rattle.pl_cut.specs.Within.{AgreeWithin}
use Rattle.pl_cut.specs.Laws.{AbsentAssetsChangeNothing}
use Rattle.pl_cut.proofs.Rows.{find-kept, any-map}
use Rattle.pl_cut.proofs.Tables.{share_tables}

-- where nothing passes the test, nothing is left out by it
none_out : {X : Type 0} (p : X → Bool) (xs : List X) → list_any p xs ≡ false → filter (λ x. not (p x)) xs ≡ xs
none_out p [] h = refl
none_out p (x ∷ xs) h = here (p x) refl h (none_out p xs)
  where
    here : (b : Bool) → p x ≡ b → (p x || list_any p xs) ≡ false → (list_any p xs ≡ false → filter (λ y. not (p y)) xs ≡ xs)
        → cond (not (p x)) (x ∷ filter (λ y. not (p y)) xs) (filter (λ y. not (p y)) xs) ≡ x ∷ xs
    here true e f rest = absurd (true≢false (sym (or_left (p x) (list_any p xs) e) ∙ f))
    here false e f rest = rw e (ap (λ l. x ∷ l) (rest (rw e at f)))

-- a row of asset b is none of another
of_other : (s a b : ℕ) → (b == a) ≡ false → (s == b) ≡ true → not (s == a) ≡ true
of_other s a b h e = ap (λ x. not (x == a)) (eqb-true s b e) ∙ ap not h

module _ (w : World) (a : ℕ) where
  abbrev part : World
  part = without w a

  same_days : (d : ℤ) → day_of w d ≡ day_of part d
  same_days d = day_of-days w part refl d

  abbrev sids_on : World → Option ℤ → List ℕ
  sids_on u o = unwrap_or (option_map (λ day. map (λ r. r.sid) (filter (lives_on day) u.assets)) o) []

  assets-kept : (d : ℤ) → exists w a d ≡ false → living_sids w d ≡ living_sids part d
  assets-kept d absent = on_day (day_of w d) absent ∙ ap (sids_on part) (same_days d)
    where
      on_day : (o : Option ℤ) → list_any (λ x. x == a) (sids_on w o) ≡ false → sids_on w o ≡ sids_on part o
      on_day None e = refl
      on_day (Some day) e =
          ap (map (λ (r : AssetRow). r.sid))
          (sym
          (filter-swap (lives_on day) (λ r. not (r.sid == a)) w.assets
          ∙ none_out (λ (r : AssetRow). r.sid == a) (filter (lives_on day) w.assets) (sym (any-map (λ x. x == a) (λ (r : AssetRow). r.sid) (filter (lives_on day) w.assets)) ∙ e)))

  -- what exists is another asset
  another : (b : ℕ) (d : ℤ) → exists w a d ≡ false → exists w b d ≡ true → (b == a) ≡ false
  another b d absent there = elim (cases_eq b a) [
    | inl e ↦ absurd (true≢false (sym (ap (λ x. exists w x d) (sym e) ∙ there) ∙ absent))
    | inr n ↦ ne_eqb b a n
  ]

  module _ (b : ℕ) (other : (b == a) ≡ false) where
    bars-kept : (c : Column) (s : ℤ) → bar_cell w b c s ≡ bar_cell part b c s
    bars-kept c (negsuc s) = refl
    bars-kept c (pos s) =
        ap (λ o. unwrap_or (option_map (cell_of c) o) MISSING)
        (sym (find-kept (λ r. r.sid == b && r.session == s) (λ r. not (r.sid == a)) w.bars (λ r there e. of_other r.sid a b other (and_parts _ _ e).0)))

    events-kept : events_of w b ≡ events_of part b
    events-kept =
        ap (map (λ (x : Adjustment). x.event)) (sym (filter-filter (λ x. x.sid == b) (λ x. not (x.sid == a)) (λ x e. of_other x.sid a b other e) w.adjustments))

    cells-kept : (c : Column) (s d : ℤ) → seen_cell w b c s d ≡ seen_cell part b c s d
    unfolding seen_cell
    cells-kept c s d =
        ap (λ x. after_all x (effects w b c s d)) (bars-kept c s)
        ∙ ap (after_all (bar_cell part b c s))
        (ap (effects_from c (day_of w s) (day_of w d)) events-kept
        ∙ ap (λ o. effects_from c o (day_of w d) (events_of part b)) (same_days s)
        ∙ ap (λ o. effects_from c (day_of part s) o (events_of part b)) (same_days d))

    -- in whatever way rows of asset b are picked
    rows-kept : {X : Type 0} (sid_of : X → ℕ) (pick : X → Bool) → ((r : X) → pick r ≡ true → (sid_of r == b) ≡ true) → (rows : List X) → filter pick rows ≡ filter pick (filter (λ r. not (sid_of r == a)) rows)
    rows-kept sid_of pick mine rows = sym (filter-filter pick (λ r. not (sid_of r == a)) (λ r e. of_other (sid_of r) a b other (mine r e)) rows)

    labels-kept : (name : List ℕ) (d : ℤ) → label_at w name b d ≡ label_at part name b d
    labels-kept name d = on_day (day_of w d) ∙ ap (label_on part.labels) (same_days d)
      where
        label_on : List LabelRow → Option ℤ → Option (List ℕ)
        label_on rows o = option_and_then (λ day. option_and_then (λ r. nonempty r.text) (last_started (filter (is_label_of name b day) rows))) o

        on_day : (o : Option ℤ) → label_on w.labels o ≡ label_on part.labels o
        on_day None = refl
        on_day (Some day) =
            ap (λ rows. option_and_then (λ (r : LabelRow). nonempty r.text) (last_started rows))
            (rows-kept (λ (r : LabelRow). r.sid) (is_label_of name b day) (λ r e. (and_parts _ _ (and_parts _ _ e).0).1) w.labels)

    numbers-kept : (f : Figure) (name : List ℕ) (d : ℤ) → known_number w f name b d ≡ known_number part f name b d
    numbers-kept f name d = on_day (day_of w d) ∙ ap (λ o. unwrap_or (option_map (number_at f part.numbers name b) o) MISSING) (same_days d)
      where
        on_day : (o : Option ℤ) → unwrap_or (option_map (number_at f w.numbers name b) o) MISSING ≡ unwrap_or (option_map (number_at f part.numbers name b) o) MISSING
        on_day None = refl
        on_day (Some day) =
            ap (λ rows. unwrap_or (option_map (read_of f day) (last_known rows)) MISSING)
            (rows-kept (λ (r : NumberRow). r.sid) (is_number_of name b day) (λ r e. (and_parts _ _ (and_parts _ _ e).0).1) w.numbers)

  pub agrees : (first last : ℤ) → ((d : ℤ) → first ≤ℤ d → d ≤ℤ last → exists w a d ≡ false) → AgreeWithin w part first last
  agrees first last absent = record {
    days = λ d l. same_days d;
    assets = λ d h l. assets-kept d (absent d h l);
    cells = λ b c s d h l m e. cells-kept b (another b d (absent d (omega (arith, ints)) m) e) c s d;
    labels = λ name b d h l e. labels-kept b (another b d (absent d h l) e) name d;
    numbers = λ f name b d h l e. numbers-kept b (another b d (absent d h l) e) f name d;
  }

pub absent_assets_change_nothing : AbsentAssetsChangeNothing
absent_assets_change_nothing w ok a first last absent p checked from to deep by =
    share_tables.tables w (without w a) ok first last (agrees w a first last absent) p checked from to deep by
