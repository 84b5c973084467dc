-- Derivations in worlds in which the texts of labels have the same codes.
use Rattle.std.proofs.Common.{◌≡◌, ℕ, Bool, true, false, ◌&&◌, if◌then◌else◌, ℤ, pos, ◌≤ℤ◌, List, map, filter, Some, refl, sym, ◌∙◌, ap, inl, inr, slice_get}
use Rattle.pl_spec.specs.Agree.{Agree}
use Rattle.pl_spec.specs.AsOf.{as_of, has_started}
use Rattle.pl_spec.specs.Periods.{period_start}
use Rattle.pl_spec.specs.World.{World, IsWorld, LabelRow, exists}
use Rattle.pl_spec.proofs.Finds.{filter-contains}
use Rattle.pl_spec.proofs.Members.{in-contains, contains-in, in-map, map-in}
use Rattle.pl_pipeline.specs.Kind.{Kind}
use Rattle.pl_pipeline.specs.Kind.Kind.{Label, Window, Point, Downsample}
use Rattle.pl_pipeline.specs.Term.{Term, term_at}
use Rattle.pl_pipeline.specs.Term.Term.{absent, column, node}
use Rattle.pl_pipeline.specs.Table.{Pipeline, value_of, in_array}
use Rattle.pl_pipeline.specs.Text.{kind_at}
use Rattle.pl_pipeline.specs.Value.{Value, part_of, value_of_part, passes, sort_kind, kind_value, empty, From, value, seen, is_steady}
use Rattle.pl_pipeline.specs.Value.Value.{Number, Text}
use Rattle.pl_laws.proofs.AsOf as as_of
use Rattle.pl_laws.proofs.Law as law
use Rattle.pl_laws.proofs.Law.{agree-seen}
use Rattle.pl_cross.specs.Arrays.{HasTexts}
use Rattle.pl_cross.proofs.Codes.{IsCoded}
use Rattle.pl_cross.proofs.LabelCodes.{labels-coded}
use Rattle.pl_derivation.specs.Facts.{value_from}
use Rattle.pl_lookahead.specs.Derivations.{HaveSameCodes}
use Rattle.pl_derivation.proofs.Codes.{kept, seen_kept}
use Rattle.pl_pipeline.proofs.Steady.{steady-own}

-- ---- a label is of a record that has started

-- a term of the sort of a label gives labels of the world, or none
module _ (w : World) (coded : HasTexts w) (names : List (List ℕ)) where
  gated : (k : Kind) (n : ℕ) → k ≡ Label n → (b : Bool) (v : Value) → IsCoded w.texts v → IsCoded w.texts (if b then v else empty k)
  gated k n e true v h = h
  gated k n e false v h = inl (ap empty e)

  pub label-coded : (x : Term) (n : ℕ) → sort_kind x ≡ Label n → (a : ℕ) (d : ℤ) → IsCoded w.texts (value w names x a d)
  unfolding value seen kind_value
  label-coded absent n e a d = inl refl
  label-coded (column c) n e a d = inl refl
  label-coded (node (Label m) size x y z k g) n e a d = labels-coded w coded names m size x y z k g a d
  label-coded (node (Downsample f) size x y z k g) n e a d =
      gated (sort_kind x) n e (exists w a d && passes (part_of k (value w names k)) a d) _ (now x (label-coded x n e a (period_start f w.days d)))
    where
      now : (x : Term) → IsCoded w.texts (value w names x a (period_start f w.days d)) → IsCoded w.texts (value_of_part (part_of x (value w names x)) a (period_start f w.days d))
      now absent h = inl refl
      now (column c) h = inl refl
      now (node q size x y z k g) h = h
  label-coded (node q size x y z k g) n e a d = absurd (cc (e))

-- and is the same from wherever it is seen
label-steady : (x : Term) (n : ℕ) → sort_kind x ≡ Label n → is_steady x ≡ true
label-steady absent n e = refl
label-steady (column c) n e = refl
label-steady (node (Window k) size x y z m g) n e = absurd (cc (e))
label-steady (node (Point k) size x y z m g) n e = absurd (cc (e))
label-steady (node k size x y z m g) n e = refl

module _ (w : World) (d : ℕ) (day : ℤ) (ok : IsWorld w) (is_day : slice_get w.days d ≡ Some day) (names : List (List ℕ)) where
  abbrev texts : List (List ℕ)
  texts = map (λ (r : LabelRow). r.text) (filter (has_started day) w.labels)

  -- what is known by the day, with the texts of its own label rows alone
  abbrev known : World
  known = record (as_of w d day) { texts = texts }

  known-world : IsWorld known
  known-world = let h = as_of.is-world w d day ok in record { days_ascend = h.days_ascend; sids_ascend = h.sids_ascend; events_in_order = h.events_in_order }

  known-agrees : Agree known w (pos d) day
  known-agrees = let h = as_of.agrees w d day ok is_day in record {
    is_day = h.is_day;
    days = h.days;
    bars = h.bars;
    adjustments = h.adjustments;
    lifetimes = h.lifetimes;
    labels = h.labels;
    numbers = h.numbers;
  }

  known-coded : HasTexts known
  known-coded r there full = in-contains texts r.text (map-in (λ (r : LabelRow). r.text) (filter (has_started day) w.labels) r (contains-in (filter (has_started day) w.labels) r there))

  -- the text of a label on a session up to that one is of such a row
  pub label-started : (x : Term) (n : ℕ) → sort_kind x ≡ Label n → (a : ℕ) (e : ℤ) → e ≤ℤ pos d → IsCoded texts (value w names x a e)
  label-started x n is a e l =
      rw (← law.values_agree known w (pos d) day known-world ok (agree-seen known w (pos d) day known-agrees) names x a e l)
      (label-coded known known-coded names x n is a e)

-- ---- codes of values

module _ (w v : World) (d : ℕ) (day : ℤ) (ok : IsWorld w) (is_day : slice_get w.days d ≡ Some day) (coded : HasTexts w) (p : Pipeline) (codes : HaveSameCodes p w v day) where
  -- the value of a term has one code in both
  pub code-same : (t a : ℕ) (e : ℤ) → e ≤ℤ pos d → in_array w.texts (value_of w p t a e) ≡ in_array v.texts (value_of w p t a e)
  code-same t a e l = of_kind (kind_at p.graph t) refl (kept w coded p.names (term_at p.graph t) a e)
    where
      number : (x : ℤ) → Number x ≡ value_of w p t a e → in_array w.texts (value_of w p t a e) ≡ in_array v.texts (value_of w p t a e)
      number x s = sym (ap (in_array w.texts) s) ∙ ap (in_array v.texts) s

      of_text : (n : ℕ) → kind_at p.graph t ≡ Label n → IsCoded (texts w d day ok is_day p.names) (value_of w p t a e) → in_array w.texts (value_of w p t a e) ≡ in_array v.texts (value_of w p t a e)
      of_text n is (inl none) = number _ (sym none)
      of_text n is (inr c) =
          let rows = filter (has_started day) w.labels in
          let at = in-map (λ (r : LabelRow). r.text) rows c.0 (contains-in (map (λ (r : LabelRow). r.text) rows) c.0 c.2) in
          let there = filter-contains (has_started day) w.labels at.0 (in-contains rows at.0 at.1) in
          let same : value_of w p t a e ≡ Text at.0.text = c.1 ∙ ap Text at.2 in
          ap (in_array w.texts) same ∙ codes t n is at.0 there.0 there.1 ∙ sym (ap (in_array v.texts) same)

      of_kind : (k : Kind) → kind_at p.graph t ≡ k → value_from w.texts k (in_array w.texts (value_of w p t a e)) ≡ value_of w p t a e → in_array w.texts (value_of w p t a e) ≡ in_array v.texts (value_of w p t a e)
      of_kind (Label n) is s = of_text n is (label-started w d day ok is_day p.names (term_at p.graph t) n is a e l)
      of_kind k is s = number _ s

  -- and so has what it is seen as
  pub seen-code-same : (t a : ℕ) (s e : ℤ) → s ≤ℤ pos d
      → in_array w.texts (seen w p.names (term_at p.graph t) (From e) a s) ≡ in_array v.texts (seen w p.names (term_at p.graph t) (From e) a s)
  seen-code-same t a s e l = of_kind (kind_at p.graph t) refl (seen_kept w coded p.names (term_at p.graph t) (From e) a s)
    where
      of_kind : (k : Kind) → kind_at p.graph t ≡ k → value_from w.texts k (in_array w.texts (seen w p.names (term_at p.graph t) (From e) a s)) ≡ seen w p.names (term_at p.graph t) (From e) a s
          → in_array w.texts (seen w p.names (term_at p.graph t) (From e) a s) ≡ in_array v.texts (seen w p.names (term_at p.graph t) (From e) a s)
      of_kind (Label n) is h =
          let own = steady-own w p.names (term_at p.graph t) (label-steady (term_at p.graph t) n is) (From e) a s in
          ap (in_array w.texts) own ∙ code-same t a s l ∙ sym (ap (in_array v.texts) own)
      of_kind k is h = sym (ap (in_array w.texts) h) ∙ ap (in_array v.texts) h
