-- What the look-ups of a world find.
use Rattle.std.proofs.Common.{◌≡◌, ℕ, zero, suc, ◌<◌, Bool, true, false, ◌&&◌, ◌==◌, cond, ℤ, pos, ◌≤ℤ◌, List, [], ◌∷◌, length, get_or, filter, find, Option, Some, None, option_map, unwrap_or, option_and_then, refl, sym, ◌∙◌, ap, arith, inl, inr}
use Rattle.std.specs.Prelude.{Contains, ◌⊎◌, ◌↔◌}
use Rattle.std.specs.List.{list_all}
use Rattle.std.specs.Int.RustNames.{int_le}
use Rattle.std.proofs.lemmas.Bool.{eq-eqb, eqb-true, and_parts, true≢false}
use Rattle.std.proofs.lemmas.Slice.Eq.{bytes_eq-Decides}
use Rattle.pl_spec.specs.declared.Column.{Column}
use Rattle.pl_spec.specs.Rounding.{MISSING}
use Rattle.pl_spec.specs.World.{World, Bar, LabelRow, day_of, cell_of, bar_cell, last_started, nonempty, is_label_of, label_at}
use Rattle.pl_spec.specs.Lookups.{BarsOnce, LabelsOnce, BarsAreFound, LabelsAreFound}
use Rattle.pl_spec.proofs.Signed.{le-int_le, int_le-true, le-both}

-- ---- lists

pub contains-front : {X : Type 0} (x : X) (xs : List X) → Contains (x ∷ xs) x
contains-front x xs = (0, omega arith, refl)

pub contains-behind : {X : Type 0} (y : X) (xs : List X) (x : X) → Contains xs x → Contains (y ∷ xs) x
contains-behind y xs x h = (suc h.0, omega (arith, h.1), h.2)

-- an element of a list is its first or one after it
pub first_or_behind : {X : Type 0} (y : X) (xs : List X) (x : X) → Contains (y ∷ xs) x → (y ≡ x) ⊎ Contains xs x
first_or_behind y xs x h = here h.0 h.1 h.2
  where
    here : (k : ℕ) → k < suc (length xs) → get_or (y ∷ xs) k x ≡ x → (y ≡ x) ⊎ Contains xs x
    here zero l e = inl e
    here (suc k) l e = inr (k, omega arith, e)

none_in_empty : {X : Type 0} (x : X) → Contains [] x → ⊥
none_in_empty x h = absurd (omega (arith, h.1))

-- what alone passes a test is found by it
pub find-one : {X : Type 0} (p : X → Bool) (xs : List X) (x : X) → Contains xs x → p x ≡ true → ((y : X) → Contains xs y → p y ≡ true → y ≡ x) → find p xs ≡ Some x
find-one p [] x h e one = absurd (none_in_empty x h)
find-one p (y ∷ ys) x h e one =
    here (p y) refl (λ later. find-one p ys x later e (λ z in_ys g. one z (contains-behind y ys z in_ys) g))
  where
    behind : p y ≡ false → Contains ys x
    behind f = elim (first_or_behind y ys x h) [ inl same ↦ absurd (true≢false (sym e ∙ ap p (sym same) ∙ f)) | inr later ↦ later ]

    here : (b : Bool) → p y ≡ b → (Contains ys x → find p ys ≡ Some x) → cond b (Some y) (find p ys) ≡ Some x
    here true f rest = ap Some (one y (contains-front y ys) f)
    here false f rest = rest (behind f)

pub find-none : {X : Type 0} (p : X → Bool) (xs : List X) → ((y : X) → Contains xs y → p y ≡ true → ⊥) → find p xs ≡ None
find-none p [] none = refl
find-none p (y ∷ ys) none = here (p y) refl (find-none p ys (λ z in_ys g. none z (contains-behind y ys z in_ys) g))
  where
    here : (b : Bool) → p y ≡ b → find p ys ≡ None → cond b (Some y) (find p ys) ≡ None
    here true f rest = absurd (none y (contains-front y ys) f)
    here false f rest = rest

pub contains-filter : {X : Type 0} (p : X → Bool) (xs : List X) (x : X) → Contains xs x → p x ≡ true → Contains (filter p xs) x
contains-filter p [] x h e = absurd (none_in_empty x h)
contains-filter p (y ∷ ys) x h e = here (p y) refl (first_or_behind y ys x h) (λ later. contains-filter p ys x later e)
  where
    here : (b : Bool) → p y ≡ b → (y ≡ x) ⊎ Contains ys x → (Contains ys x → Contains (filter p ys) x) → Contains (cond b (y ∷ filter p ys) (filter p ys)) x
    here true f (inl same) rest = (0, omega arith, same)
    here true f (inr later) rest = contains-behind y (filter p ys) x (rest later)
    here false f (inl same) rest = absurd (true≢false (sym e ∙ ap p (sym same) ∙ f))
    here false f (inr later) rest = rest later

pub filter-contains : {X : Type 0} (p : X → Bool) (xs : List X) (x : X) → Contains (filter p xs) x → Contains xs x × (p x ≡ true)
filter-contains p [] x h = absurd (none_in_empty x h)
filter-contains p (y ∷ ys) x h = here (p y) refl h (filter-contains p ys x)
  where
    here : (b : Bool) → p y ≡ b → Contains (cond b (y ∷ filter p ys) (filter p ys)) x
        → (Contains (filter p ys) x → Contains ys x × (p x ≡ true)) → Contains (y ∷ ys) x × (p x ≡ true)
    here true f g rest = elim (first_or_behind y (filter p ys) x g) [
      | inl same ↦ ((0, omega arith, same), ap p (sym same) ∙ f)
      | inr later ↦ (contains-behind y ys x (rest later).0, (rest later).1)
    ]
    here false f g rest = (contains-behind y ys x (rest g).0, (rest g).1)

pub all-contains : {X : Type 0} (p : X → Bool) (xs : List X) → list_all p xs ≡ true → (x : X) → Contains xs x → p x ≡ true
all-contains p [] e x h = absurd (none_in_empty x h)
all-contains p (y ∷ ys) e x h =
    let parts = and_parts (p y) (list_all p ys) e in
    elim (first_or_behind y ys x h) [ inl same ↦ ap p (sym same) ∙ parts.0 | inr later ↦ all-contains p ys parts.1 x later ]

pub contains-all : {X : Type 0} (p : X → Bool) (xs : List X) → ((x : X) → Contains xs x → p x ≡ true) → list_all p xs ≡ true
contains-all p [] h = refl
contains-all p (y ∷ ys) h = rw (h y (contains-front y ys), contains-all p ys (λ x l. h x (contains-behind y ys x l))) refl

-- ---- bars

is_at : ℕ → ℕ → Bar → Bool
is_at a s b = b.sid == a && b.session == s

at_place : (a s : ℕ) (b : Bar) → is_at a s b ≡ true → (b.sid ≡ a) × (b.session ≡ s)
unfolding is_at
at_place a s b e = let parts = and_parts _ _ e in (eqb-true b.sid a parts.0, eqb-true b.session s parts.1)

bar-found : (w : World) → BarsOnce w → (b : Bar) → Contains w.bars b → (c : Column) → bar_cell w b.sid c (pos b.session) ≡ cell_of c b
unfolding is_at
bar-found w once b h c =
    let test : is_at b.sid b.session b ≡ true = rw (eq-eqb b.sid b.sid refl, eq-eqb b.session b.session refl) refl in
    ap (λ o. unwrap_or (option_map (cell_of c) o) MISSING)
    (find-one (is_at b.sid b.session) w.bars b h test
    (λ x in_bars e. let place = at_place b.sid b.session x e in once x b in_bars h place.0 place.1))

bar-none : (w : World) (a s : ℕ) → ((b : Bar) → Contains w.bars b → b.sid ≡ a → b.session ≡ s → ⊥) → (c : Column) → bar_cell w a c (pos s) ≡ MISSING
unfolding is_at
bar-none w a s none c =
    ap (λ o. unwrap_or (option_map (cell_of c) o) MISSING)
    (find-none (is_at a s) w.bars (λ x in_bars e. let place = at_place a s x e in none x in_bars place.0 place.1))

-- ---- labels

pub label_of : (name : List ℕ) (a : ℕ) (day : ℤ) (r : LabelRow) → is_label_of name a day r ≡ true → (r.name ≡ name) × (r.sid ≡ a)
label_of name a day r e =
    let front = and_parts _ _ (and_parts _ _ e).0 in
    ((bytes_eq-Decides r.name name).0 front.0, eqb-true r.sid a front.1)

label-counts : (name : List ℕ) (a : ℕ) (day : ℤ) (r : LabelRow) → (is_label_of name a day r ≡ true) ↔ ((r.name ≡ name) × (r.sid ≡ a) × (r.start ≤ℤ day))
label-counts name a day r = (
  λ e. let own = label_of name a day r e in (own.0, own.1, int_le-true r.start day (and_parts _ _ e).1),
  λ h. rw ((bytes_eq-Decides r.name name).1 h.0, eq-eqb r.sid a h.1, le-int_le r.start day h.2) refl,
)

module _ (w : World) (name : List ℕ) (a : ℕ) (day : ℤ) where
  started : List LabelRow
  started = filter (is_label_of name a day) w.labels

  last : LabelRow → Bool
  unfolding started
  last r = list_all (λ q. int_le q.start r.start) started

  last-found : LabelsOnce w → (r : LabelRow) → Contains w.labels r → is_label_of name a day r ≡ true
      → ((q : LabelRow) → Contains w.labels q → is_label_of name a day q ≡ true → q.start ≤ℤ r.start)
      → last_started started ≡ Some r
  unfolding last started
  last-found once r h e latest = find-one last started r (contains-filter (is_label_of name a day) w.labels r h e) is_last one
    where
      is_last : last r ≡ true
      is_last =
          contains-all (λ q. int_le q.start r.start) started
          (λ q in_started. let place = filter-contains (is_label_of name a day) w.labels q in_started in le-int_le q.start r.start (latest q place.0 place.1))

      one : (y : LabelRow) → Contains started y → last y ≡ true → y ≡ r
      one y in_started f =
          let place = filter-contains (is_label_of name a day) w.labels y in_started in
          let own = label_of name a day y place.1 in
          let its = label_of name a day r e in
          let above : r.start ≤ℤ y.start = int_le-true r.start y.start (all-contains (λ q. int_le q.start y.start) started f r (contains-filter (is_label_of name a day) w.labels r h e)) in
          once y r place.0 h (own.0 ∙ sym its.0) (own.1 ∙ sym its.1) (le-both y.start r.start (latest y place.0 place.1) above)

  none-started : ((q : LabelRow) → Contains w.labels q → is_label_of name a day q ≡ true → ⊥) → last_started started ≡ None
  unfolding last started
  none-started none = find-none last started (λ y in_started e. let place = filter-contains (is_label_of name a day) w.labels y in_started in none y place.0 place.1)

  abbrev label_from : Option ℤ → Option (List ℕ)
  label_from o = option_and_then (λ x. option_and_then (λ r. nonempty r.text) (last_started (filter (is_label_of name a x) w.labels))) o

  label-found : LabelsOnce w → (d : ℤ) → day_of w d ≡ Some day → (r : LabelRow) → Contains w.labels r → is_label_of name a day r ≡ true
      → ((q : LabelRow) → Contains w.labels q → is_label_of name a day q ≡ true → q.start ≤ℤ r.start)
      → label_at w name a d ≡ nonempty r.text
  unfolding started
  label-found once d on_day r h e latest = ap label_from on_day ∙ ap (option_and_then (λ r. nonempty r.text)) (last-found once r h e latest)

  label-none : (d : ℤ) → day_of w d ≡ Some day → ((q : LabelRow) → Contains w.labels q → is_label_of name a day q ≡ true → ⊥) → label_at w name a d ≡ None
  unfolding started
  label-none d on_day none = ap label_from on_day ∙ ap (option_and_then (λ (r : LabelRow). nonempty r.text)) (none-started none)

pub bars_are_found : BarsAreFound
bars_are_found = record { found = bar-found; none = bar-none }

pub labels_are_found : LabelsAreFound
labels_are_found =
    record {
      counts = label-counts;
      found = λ w once name a d day on_day r h e latest. label-found w name a day once d on_day r h e latest;
      none = λ w name a d day on_day none. label-none w name a day d on_day none;
    }
