-- The kept assets of the last day by their places.
use Rattle.std.proofs.Common.{◌≡◌, ℕ, zero, suc, ◌+◌, ◌<◌, Bool, true, false, ◌&&◌, cond, ℤ, pos, List, [], ◌∷◌, length, map, filter, get_or, Option, Some, None, option_map, unwrap_or, slice_get, subst, refl, sym, ◌∙◌, ap, arith, All, Bor}
use Rattle.std.specs.List.{range_with_len}
use Rattle.std.specs.Option.{IfSome}
use Rattle.std.proofs.lemmas.Int.{ints}
use Rattle.std.proofs.lemmas.List.Elements.{All-filter}
use Rattle.std.proofs.lemmas.List.FromFn.{get_or-range_with_len, length-range_with_len}
use Rattle.pl_spec.specs.declared.AssetRow.{AssetRow}
use Rattle.pl_spec.specs.Cells.{is_true}
use Rattle.pl_spec.specs.Parts.{sid_at}
use Rattle.pl_pipeline.specs.Table.{Pipeline, value_of, is_kept, kept_sids}
use Rattle.pl_pipeline.specs.Value.{holds}
use Rattle.pl_spec.specs.Window.{before}
use Rattle.pl_spec.specs.World.{World, day_of, living_sids, lives_on}
use Rattle.pl_spec.proofs.Lists.{filter-map, filter-same, filter-twice}
use Rattle.std.proofs.lemmas.Option.{slice_get-get_or}
use Rattle.pl_cross.specs.Arrays.{sid_in}
use Rattle.pl_cross.specs.Listing.{labels_in}
use Rattle.pl_terms.specs.Checked.{IsChecked}
use Rattle.pl_terms.specs.Nodes.{number_of as number_in}
use Rattle.pl_terms.specs.declared.row.Sort.TheVariants.{Filters}
use Rattle.pl_terms.specs.declared.node.TermId.{TermId}
use Rattle.pl_values.proofs.Numbers.{number_is, plain-number}
use Rattle.pl_daily.specs.Days.{Start, FedDay, fed, IsStart, AreFed}
use Rattle.pl_daily.proofs.Moves.{days_are_fed}
use Rattle.pl_daily.specs.Rows.{is_kept_by, lives_at, sids_of}
use Rattle.pl_daily.specs.Rows.{row_of}
use Rattle.pl_daily.specs.TermDays.{cell_on, number_row}
use Rattle.pl_daily.specs.declared.term_day.TermCells.{TermCells}
use Rattle.pl_daily.specs.Kept.{kept_places}

listed : (day : ℤ) (all rest : List AssetRow) (k : ℕ) → ((i : ℕ) → i < length rest → slice_get all (k + i) ≡ slice_get rest i)
    → map (λ (r : AssetRow). r.sid) (filter (lives_on day) rest) ≡ map (sid_at all) (filter (lives_at all day) (range_with_len k (length rest)))
listed day all [] k h = refl
listed day all (r ∷ rs) k h =
    let here : slice_get all k ≡ Some r = ap (slice_get all) (let e : k ≡ k + 0 = omega arith in e) ∙ h 0 (omega arith) in
    let rest : map (λ (r : AssetRow). r.sid) (filter (lives_on day) rs) ≡ map (sid_at all) (filter (lives_at all day) (range_with_len (k + 1) (length rs)))
    = listed day all rs (k + 1) (λ i l. ap (slice_get all) (let e : k + 1 + i ≡ k + suc i = omega arith in e) ∙ h (suc i) (omega arith)) in
    let same : lives_at all day k ≡ lives_on day r = ap (λ o. unwrap_or (option_map (lives_on day) o) false) here in
    let sid : sid_at all k ≡ r.sid = ap (λ o. unwrap_or (option_map (λ (r : AssetRow). r.sid) o) 0) here in
    rw same (choose (lives_on day r) sid rest)
  where
    choose : (b : Bool) → sid_at all k ≡ r.sid
        → map (λ (r : AssetRow). r.sid) (filter (lives_on day) rs) ≡ map (sid_at all) (filter (lives_at all day) (range_with_len (k + 1) (length rs)))
        → map (λ (r : AssetRow). r.sid) (cond b (r ∷ filter (lives_on day) rs) (filter (lives_on day) rs))
        ≡ map (sid_at all) (cond b (k ∷ filter (lives_at all day) (range_with_len (k + 1) (length rs))) (filter (lives_at all day) (range_with_len (k + 1) (length rs))))
    choose true sid rest = ap (λ l. r.sid ∷ l) rest ∙ ap (λ x. x ∷ map (sid_at all) (filter (lives_at all day) (range_with_len (k + 1) (length rs)))) (sym sid)
    choose false sid rest = rest

filter-all : {X : Type 0} (xs : List X) → filter (λ x. true) xs ≡ xs
filter-all [] = refl
filter-all (x ∷ xs) = ap (λ l. x ∷ l) (filter-all xs)

pub places_within : (n : ℕ) → All (λ i. i < n) (range_with_len 0 n)
places_within n k d h =
    let long : length (range_with_len 0 n) ≡ n = length-range_with_len 0 n in
    let inside : k < n = omega (arith, h, long) in
    let at : get_or (range_with_len 0 n) k d ≡ 0 + k = get_or-range_with_len 0 n k d inside in
    omega (arith, at, inside)

pub sid_is : (assets : List AssetRow) (i : ℕ) → i < length assets → sid_in (sids_of assets) i ≡ sid_at assets i
sid_is [] i h = absurd (omega (arith, h))
sid_is (a ∷ rest) zero h = refl
sid_is (a ∷ rest) (suc i) h = sid_is rest i (omega (arith, h))

-- places that a test keeps are among all
pub in_places : (p : ℕ → Bool) (n m : ℕ) (xs : List ℕ) → xs ≡ filter p (range_with_len 0 m) → m ≡ n → All (λ i. i < n) xs
in_places p n m xs e same = subst (All (λ i. i < n)) (sym e) (subst (λ k. All (λ i. i < n) (filter p (range_with_len 0 k))) (sym same) (All-filter p (λ i. i < n) (range_with_len 0 n) (places_within n)))

-- the row of a screen has its cells on the last day
abbrev pub IsScreenRow : Start → FedDay → List FedDay → Pipeline → Option ℕ → Option (List ℤ) → Type 0
IsScreenRow g next days p None None = Unit {0}
IsScreenRow g next days p (Some t) (Some row) = (i : ℕ) → i < length g.assets → get_or row i (pos 0) ≡ cell_on (fed g (next ∷ days)) p (sids_of g.assets) t i (pos (length days))
IsScreenRow g next days p a b = ⊥

module _ (g : Start) (next : FedDay) (days : List FedDay) (p : Pipeline) (ok : IsChecked p) (start : IsStart g) (are : AreFed g (next ∷ days)) where
  abbrev w : World
  w = fed g (next ∷ days)

  last_is : day_of w (pos (length days)) ≡ Some next.day
  last_is = ap (day_of w) (let e : pos (length days) ≡ before (pos (length days)) 0 = omega (arith, ints) in e) ∙ days_are_fed g (next ∷ days) 0

  living : living_sids w (pos (length days)) ≡ map (sid_at g.assets) (filter (lives_at g.assets next.day) (range_with_len 0 (length g.assets)))
  unfolding fed
  living =
      ap (λ o. unwrap_or (option_map (λ day. map (λ (a : AssetRow). a.sid) (filter (lives_on day) g.assets)) o) []) last_is
      ∙ listed next.day g.assets g.assets 0 (λ i h. ap (slice_get g.assets) (let e : 0 + i ≡ i = omega arith in e))

  by_screen : (t : Option ℕ) (row : Option (List ℤ)) → p.screen ≡ t → IsScreenRow g next days p t row
      → map (sid_at g.assets) (kept_places g.assets next.day row) ≡ filter (is_kept w p t (pos (length days))) (living_sids w (pos (length days)))
  by_screen None None e h = sym (filter-all _ ∙ living)
  by_screen (Some t) (Some row) e h =
      let d = pos (length days) in
      let test : ℕ → Bool = λ i. holds (value_of w p t (sid_at g.assets i) d) in
      let numbered = plain-number w p ok t (Some Filters) (ok.screen t e) refl in
      let same : (i : ℕ) → i < length g.assets → is_true (get_or row i (pos 0)) ≡ test i
      = λ i l. ap is_true (h i l ∙ sym (number_is w p ok t numbered (sid_in (sids_of g.assets) i) d)) ∙ ap (λ a. holds (value_of w p t a d)) (sid_is g.assets i l) in
      sym (ap (filter (λ a. holds (value_of w p t a d))) living
      ∙ filter-map (λ a. holds (value_of w p t a d)) (sid_at g.assets) (filter (lives_at g.assets next.day) (range_with_len 0 (length g.assets)))
      ∙ ap (map (sid_at g.assets)) (filter-twice test (lives_at g.assets next.day) (range_with_len 0 (length g.assets)) ∙ sym (filter-same (is_kept_by g.assets next.day (Some row)) (λ i. lives_at g.assets next.day i && test i) (range_with_len 0 (length g.assets))
      (λ k i l. ap (λ x. lives_at g.assets next.day (get_or (range_with_len 0 (length g.assets)) k i) && x) (same (get_or (range_with_len 0 (length g.assets)) k i) (places_within (length g.assets) k i l))))))
  by_screen None (Some row) e h = absurd h
  by_screen (Some t) None e h = absurd h

  -- the assets in the places that a screen's row keeps are those that the screen keeps
  pub kept_are_places : (row : Option (List ℤ)) → IsScreenRow g next days p p.screen row
      → map (sid_at g.assets) (kept_places g.assets next.day row) ≡ kept_sids w p (pos (length days))
  kept_are_places row h = by_screen p.screen row refl h

-- ---- the row of a screen

pub screen_is : (terms : List TermCells) (s : Option TermId) (t : TermId) (x : TermCells) (row : List ℤ) → s ≡ Some t → t.0 < length terms → row ≡ (get_or terms t.0 x).row.items
    → Some row ≡ number_row terms (option_map number_in s)
screen_is terms s t x row e inside is = rw e (ap Some (is ∙ ap row_of (sym (slice_get-get_or terms t.0 x inside))))

pub screen_long : (n : ℕ) (terms : List TermCells) (s : Option ℕ) (o : Option (Bor (List ℤ))) → ((t : ℕ) → s ≡ Some t → length (row_of (slice_get terms t)) ≡ n) → labels_in o ≡ number_row terms s
    → IfSome o (λ row. length row.now ≡ n)
screen_long n terms s None long e = tt
screen_long n terms None (Some b) long e = absurd (let bad : Some b.now ≡ None = e in cc)
screen_long n terms (Some t) (Some b) long e = let same : b.now ≡ row_of (slice_get terms t) = some_same b.now (row_of (slice_get terms t)) e in ap length same ∙ long t refl
  where
    some_same : (x y : List ℤ) → Some x ≡ Some y → x ≡ y
    some_same x y h = cc
