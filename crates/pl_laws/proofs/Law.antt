-- What came to be known later doesn't change a value.
use Rattle.std.proofs.Common.{◌≡◌, ℕ, suc, cond, ◌<◌, ◌≤◌, Bool, true, false, ℤ, pos, negsuc, ◌<ℤ◌, ◌≤ℤ◌, List, [], ◌∷◌, length, map, get_or, Option, Some, None, refl, sym, ◌∙◌, ap, arith, inl, inr, filter, filter_map, slice_get, AllPairs, ◌==◌, unwrap_or, option_map}
use Rattle.std.proofs.Math.Path.{fun_ext}
use Rattle.std.specs.List.{All, list_any}
use Rattle.std.proofs.lemmas.Int.{ints}
use Rattle.std.proofs.lemmas.Bool.{eqb-true, eq-eqb, ne_eqb, or_cases, or_left, true≢false, false_from_ne_true, cases_eq}
use Rattle.std.proofs.lemmas.List.Kept.{AllPairs-filter}
use Rattle.std.proofs.lemmas.Option.{get_or_from_slice_get, slice_get_within}
use Rattle.pl_spec.specs.Rounding.{MISSING}
use Rattle.pl_spec.specs.World.{World, IsWorld, Event, events_of, day_of, bar_cell, exists, living_sids, label_at, lives_on, known_number}
use Rattle.pl_spec.specs.declared.AssetRow.{AssetRow}
use Rattle.pl_spec.specs.declared.Column.{Column}
use Rattle.pl_spec.specs.Window.{effect, is_between, effects_from, effects_in, effects, after_all, seen_cell, before, downward}
use Rattle.pl_spec.specs.Agree.{Agree, is_known}
use Rattle.pl_pipeline.specs.Graph.{reads_at}
use Rattle.pl_spec.specs.Numbers.{number_at}
use Rattle.pl_laws.proofs.Lows.{reads_at-within}
use Rattle.pl_laws.proofs.Calendars.{reads_at-same}
use Rattle.pl_pipeline.specs.Term.{Term}
use Rattle.pl_pipeline.specs.Term.Term.{absent, column, node}
use Rattle.pl_pipeline.specs.Kind.{Kind}
use Rattle.pl_pipeline.specs.Kind.Kind.{Window, Point, Downsample}
use Rattle.pl_pipeline.specs.Value.{Meaning, View, Own, From, seen_from, part_from, number_of, keeps_point, keeps_window, view_of, seen_operands, seen, value}
use Rattle.pl_pipeline.proofs.SameOperands.{SamePart, SameReads, passes_alike, step_alike}
use Rattle.pl_spec.proofs.Each.{Each, each_known}
use Rattle.pl_spec.proofs.Lists.{filter-filter}
use Rattle.pl_spec.specs.declared.Figure.{Figure}

-- ---- tests

event_known : (low high day : ℤ) → high ≤ℤ day → (e : Event) → is_between low high e ≡ true → is_known day e ≡ true
event_known low high day h e p = grind (arith, ints)

before_below : (s : ℤ) (n : ℕ) (d : ℤ) → s ≤ℤ d → before s n ≤ℤ d
before_below s n d h = omega (arith, ints)

-- ---- ascending lists

abbrev AllAbove : ℕ → List ℕ → Type 0
AllAbove x ys = Each (λ y. x < y) ys

Rising : List ℕ → Type 0
Rising [] = Unit {0}
Rising (x ∷ xs) = AllAbove x xs × Rising xs

abbrev is_in : ℕ → List ℕ → Bool
is_in a xs = list_any (λ x. x == a) xs

in_front : (x : ℕ) (xs : List ℕ) → is_in x (x ∷ xs) ≡ true
in_front x xs = or_left (x == x) (is_in x xs) (eq-eqb x x refl)

not_behind : (x : ℕ) (xs : List ℕ) → AllAbove x xs → is_in x xs ≡ false
not_behind x xs all = false_from_ne_true (is_in x xs) (λ e. let bad : x < x = each_known (λ y. x < y) xs x all e in omega arith)

same_front : (x y : ℕ) (xs ys : List ℕ) → AllAbove x xs → AllAbove y ys → ((a : ℕ) → is_in a (x ∷ xs) ≡ is_in a (y ∷ ys)) → x ≡ y
same_front x y xs ys p q same = elim (or_cases (y == x) (is_in x ys) (sym (same x) ∙ in_front x xs)) [
  | inl e ↦ sym (eqb-true y x e)
  | inr e ↦ elim (or_cases (x == y) (is_in y xs) (same y ∙ in_front y ys)) [
    | inl f ↦ eqb-true x y f
    | inr f ↦ let a : y < x = each_known (λ z. y < z) ys x q e in let b : x < y = each_known (λ z. x < z) xs y p f in absurd (omega arith)
  ]
]

-- a rising list is told by what is in it
rising_is_one : (xs ys : List ℕ) → Rising xs → Rising ys → ((a : ℕ) → is_in a xs ≡ is_in a ys) → xs ≡ ys
unfolding Rising
rising_is_one [] [] p q same = refl
rising_is_one [] (y ∷ ys) p q same = absurd (true≢false (sym (in_front y ys) ∙ sym (same y)))
rising_is_one (x ∷ xs) [] p q same = absurd (true≢false (sym (in_front x xs) ∙ same x))
rising_is_one (x ∷ xs) (y ∷ ys) p q same =
    let front : x ≡ y = same_front x y xs ys p.0 q.0 same in
    let rest : xs ≡ ys = rising_is_one xs ys p.1 q.1 (λ a. behind a front) in
    ap (λ l. x ∷ l) rest ∙ ap (λ z. z ∷ ys) front
  where
    behind : (a : ℕ) → x ≡ y → is_in a xs ≡ is_in a ys
    behind a front = elim (cases_eq x a) [
      | inl e ↦
          let in_xs : is_in a xs ≡ false = rw (← e) (not_behind x xs p.0) in
          let in_ys : is_in a ys ≡ false = rw (← e, front) (not_behind y ys q.0) in in_xs ∙ sym in_ys
      | inr n ↦
          let n' : y ≡ a → ⊥ = (λ e. n (front ∙ e)) in
          let s : is_in a (x ∷ xs) ≡ is_in a (y ∷ ys) = same a in
          let f : (x == a) ≡ false = ne_eqb x a n in
          let g : (y == a) ≡ false = ne_eqb y a n' in
          rw (f, g) at s
    ]

sids_above : (x : ℕ) (rows : List AssetRow) → All (λ a. x < a.sid) rows → AllAbove x (map (λ a. a.sid) rows)
sids_above x [] h = tt
sids_above x (a ∷ rows) h = (h 0 a (omega arith), sids_above x rows (λ k d l. h (suc k) d (omega arith)))

sids_rise : (rows : List AssetRow) → AllPairs (λ a b. a.sid < b.sid) rows → Rising (map (λ a. a.sid) rows)
unfolding Rising
sids_rise [] h = tt
sids_rise (a ∷ rows) h =
    (sids_above a.sid rows (λ k d l. h 0 (suc k) d (omega arith) (omega arith)), sids_rise rows (λ i j d l m. h (suc i) (suc j) d (omega arith) (omega arith)))

living_rise : (w : World) → IsWorld w → (o : Option ℤ) → Rising (unwrap_or (option_map (λ day. map (λ a. a.sid) (filter (lives_on day) w.assets)) o) [])
unfolding Rising
living_rise w ok None = tt
living_rise w ok (Some day) = sids_rise (filter (lives_on day) w.assets) (AllPairs-filter (λ a b. a.sid < b.sid) (lives_on day) w.assets ok.sids_ascend)

-- ---- days and events

days_rise : (xs : List ℤ) (i j : ℕ) (x y : ℤ) → AllPairs (λ a b. a <ℤ b) xs → i ≤ j → slice_get xs i ≡ Some x → slice_get xs j ≡ Some y → x ≤ℤ y
days_rise xs i j x y rise h e f = elim (cases_eq i j) [
  | inl same ↦ let s : Some x ≡ Some y = sym e ∙ ap (slice_get xs) same ∙ f in let t : x ≡ y = cc in omega (arith, ints)
  | inr other ↦
      let in_list : j < length xs = slice_get_within xs j y f in
      let r : get_or xs i x <ℤ get_or xs j x = rise i j x (omega arith) in_list in
      let a : get_or xs i x ≡ x = get_or_from_slice_get xs i x x e in
      let b : get_or xs j x ≡ y = get_or_from_slice_get xs j y x f in omega (arith, ints)
]

-- the day of an earlier session is no later
pub day_by : (w : World) → IsWorld w → (s d x day : ℤ) → s ≤ℤ d → day_of w s ≡ Some x → day_of w d ≡ Some day → x ≤ℤ day
day_by w ok (pos i) (pos j) x day h e f = days_rise w.days i j x day ok.days_ascend (omega (arith, ints)) e f
day_by w ok (pos i) (negsuc j) x day h e f = cc
day_by w ok (negsuc i) d x day h e f = cc

-- ---- views

-- A value of session s is seen from that session or a later one, which is no later than d.
pub record IsSeenBy (d : ℤ) (view : View) (s : ℤ) : Type 0 where
  pub from : s ≤ℤ seen_from view s
  pub by : seen_from view s ≤ℤ d

pub seen_by_here : (d : ℤ) (view : View) (s : ℤ) → IsSeenBy d view s → s ≤ℤ d
seen_by_here d view s l = let low : s ≤ℤ seen_from view s = l.from in let high : seen_from view s ≤ℤ d = l.by in omega (arith, ints)

-- so are those of earlier sessions
pub seen-earlier : (d : ℤ) (view : View) (s r : ℤ) → r ≤ℤ s → IsSeenBy d view s → IsSeenBy d view r
seen-earlier d Own s r h l = let high : s ≤ℤ d = l.by in record { from = omega (arith, ints); by = omega (arith, ints) }
seen-earlier d (From v) s r h l = let low : s ≤ℤ v = l.from in record { from = omega (arith, ints); by = l.by }

-- and what a kind reads
pub inner-seen : (d : ℤ) (days : List ℤ) (k : Kind) (view : View) (s : ℤ) → IsSeenBy d view s → IsSeenBy d (view_of k view s) (reads_at days k s)
inner-seen d days (Window k) view s l = window (keeps_window k)
  where
    window : (b : Bool) → IsSeenBy d (From (cond b s (seen_from view s))) s
    window true = record { from = omega (arith, ints); by = seen_by_here d view s l }
    window false = record { from = l.from; by = l.by }
inner-seen d days (Point k) view s l = operation (keeps_point k)
  where
    operation : (b : Bool) → IsSeenBy d (cond b Own view) s
    operation true = record { from = omega (arith, ints); by = seen_by_here d view s l }
    operation false = l
inner-seen d days (Downsample f) view s l =
    let within : reads_at days (Downsample f) s ≤ℤ s = reads_at-within days (Downsample f) s in
    let here : s ≤ℤ d = seen_by_here d view s l in
    record { from = omega (arith, ints); by = omega (arith, ints) }
inner-seen d days k view s l = record { from = omega (arith, ints); by = seen_by_here d view s l }

-- ---- what worlds show up to a session

-- The same as that the worlds agree, but of adjustments only what they do to each cell has to be the same.
pub record SeenAlike (w v : World) (d day : ℤ) : Type 0 where
  pub is_day : day_of w d ≡ Some day
  pub days : (s : ℤ) → s ≤ℤ d → day_of w s ≡ day_of v s
  pub bars : (a : ℕ) (c : Column) (s : ℤ) → s <ℤ d → bar_cell w a c s ≡ bar_cell v a c s
  pub changes : (a : ℕ) (c : Column) (bar low high : ℤ) → high ≤ℤ day → effects_in c bar low high (events_of w a) ≡ effects_in c bar low high (events_of v a)
  pub lifetimes : (a : ℕ) (s : ℤ) → s ≤ℤ d → exists w a s ≡ exists v a s
  pub labels : (name : List ℕ) (a : ℕ) (s : ℤ) → s ≤ℤ d → label_at w name a s ≡ label_at v name a s
  pub numbers : (f : Figure) (name : List ℕ) (a : ℕ) (x : ℤ) → x ≤ℤ day
      → number_at f w.numbers name a x ≡ number_at f v.numbers name a x

pub agree-seen : (w v : World) (d day : ℤ) → Agree w v d day → SeenAlike w v d day
agree-seen w v d day agree =
    record {
      is_day = agree.is_day;
      days = agree.days;
      bars = agree.bars;
      changes = λ a c bar low high h. ap (filter_map (effect c bar)) (events_same a low high h);
      lifetimes = agree.lifetimes;
      labels = agree.labels;
      numbers = agree.numbers;
    }
  where
    events_same : (a : ℕ) (low high : ℤ) → high ≤ℤ day → filter (is_between low high) (events_of w a) ≡ filter (is_between low high) (events_of v a)
    events_same a low high h =
        let part : (e : Event) → is_between low high e ≡ true → is_known day e ≡ true = event_known low high day h in
        sym (filter-filter (is_between low high) (is_known day) part (events_of w a))
        ∙ ap (filter (is_between low high)) (agree.adjustments a)
        ∙ filter-filter (is_between low high) (is_known day) part (events_of v a)

module _ (w v : World) (d day : ℤ) (ok : IsWorld w) (ok' : IsWorld v) (agree : SeenAlike w v d day) where
  day_before : (s x : ℤ) → s ≤ℤ d → day_of w s ≡ Some x → x ≤ℤ day
  day_before s x h e = day_by w ok s d x day h e agree.is_day

  pub between_same : (a : ℕ) (c : Column) (low high : Option ℤ) → ((x : ℤ) → high ≡ Some x → x ≤ℤ day) → effects_from c low high (events_of w a) ≡ effects_from c low high (events_of v a)
  between_same a c None None h = refl
  between_same a c None (Some y) h = refl
  between_same a c (Some x) None h = refl
  between_same a c (Some x) (Some y) h = agree.changes a c x x y (h y refl)

  seen_same : (a : ℕ) (c : Column) (s e : ℤ) → s <ℤ e → e ≤ℤ d → seen_cell w a c s e ≡ seen_cell v a c s e
  unfolding seen_cell
  seen_same a c s e before_e by_d =
      let bars : bar_cell w a c s ≡ bar_cell v a c s = agree.bars a c s (omega (arith, ints)) in
      let day_s : day_of w s ≡ day_of v s = agree.days s (omega (arith, ints)) in
      let day_e : day_of w e ≡ day_of v e = agree.days e by_d in
      let rows : effects w a c s e ≡ effects v a c s e =
      between_same a c (day_of w s) (day_of w e) (λ x at_e. day_before e x by_d at_e)
      ∙ ap (λ o. effects_from c o (day_of w e) (events_of v a)) day_s ∙ ap (λ o. effects_from c (day_of v s) o (events_of v a)) day_e in
      ap (λ x. after_all x (effects w a c s e)) bars ∙ ap (after_all (bar_cell v a c s)) rows

  number_same : (f : Figure) (name : List ℕ) (a : ℕ) (s : ℤ) → s ≤ℤ d → known_number w f name a s ≡ known_number v f name a s
  number_same f name a s l =
      on_day (day_of w s) refl
      ∙ ap (λ o. unwrap_or (option_map (number_at f v.numbers name a) o) MISSING) (agree.days s l)
    where
      on_day : (o : Option ℤ) → day_of w s ≡ o
          → unwrap_or (option_map (number_at f w.numbers name a) o) MISSING ≡ unwrap_or (option_map (number_at f v.numbers name a) o) MISSING
      on_day None e = refl
      on_day (Some x) e = agree.numbers f name a x (day_before s x l e)

  pub living_same : (s : ℤ) → s ≤ℤ d → living_sids w s ≡ living_sids v s
  living_same s h = rising_is_one (living_sids w s) (living_sids v s) (living_rise w ok (day_of w s)) (living_rise v ok' (day_of v s)) (λ a. agree.lifetimes a s h)

  -- ---- values

  -- equal by sid at every session that is seen by d
  abbrev SameBy : View → Meaning → Meaning → Type 0
  SameBy view f g = (a : ℕ) (s : ℤ) → IsSeenBy d view s → f a s ≡ g a s

  -- a part tells the same of both worlds
  part_same : (view : View) (t : Term) (f g : Meaning) → SameBy view f g → (size : ℕ) (s : ℤ) → IsSeenBy d view s
      → SamePart w v size (part_from view t f) (part_from view t g) s
  part_same view absent f g h size s l = record { now = λ b. record { value = refl; nothing = refl }; window = λ b. refl }
  part_same view (column c) f g h size s l = record {
    now = λ b. record { value = refl; nothing = refl };
    window = λ b. ap (λ e. map e (downward size)) (fun_ext (λ n. seen_same b c (before s (suc n)) (seen_from view s) (bar_before view s n l) l.by));
  }
    where
      bar_before : (view : View) (s : ℤ) (n : ℕ) → IsSeenBy d view s → before s (suc n) <ℤ seen_from view s
      bar_before view s n l = let low : s ≤ℤ seen_from view s = l.from in omega (arith, ints)
  part_same view (node k i x y z m p) f g h size s l = record {
    now = λ b. record { value = h b s l; nothing = refl };
    window = λ b. ap (λ e. map e (downward size)) (fun_ext (λ n. ap number_of (h b (before s n) (seen-earlier d view s (before s n) (before_below s n s (omega (arith, ints))) l))));
  }

  -- The law: what is seen by d is the same in both worlds.
  pub seen_agree : (names : List (List ℕ)) (t : Term) (view : View) → SameBy view (seen w names t view) (seen v names t view)
  unfolding value seen
  seen_agree names absent view a s l = refl
  seen_agree names (column c) view a s l = refl
  seen_agree names (node k size x y z m p) view a s l =
      let t : Term = node k size x y z m p in
      let read : ℤ = reads_at w.days k s in
      let inner : View = view_of k view s in
      let by : s ≤ℤ d = seen_by_here d view s l in
      let own : IsSeenBy d Own s = record { from = omega (arith, ints); by = by } in
      let here : IsSeenBy d inner read = inner-seen d w.days k view s l in
      let same : SameReads w v k size (seen_operands w names t view s) (seen_operands v names t view s) a s = record {
        labels = λ name. agree.labels name a s by;
        numbers = λ f name. number_same f name a s by;
        living = living_same s by;
        reads = reads_at-same w.days v.days d (λ i h. agree.days (pos i) h) k s by;
        first = part_same inner x _ _ (seen_agree names x inner) size read here;
        second = part_same inner y _ _ (seen_agree names y inner) size read here;
        third = part_same inner z _ _ (seen_agree names z inner) size read here;
        mask = (part_same Own m _ _ (seen_agree names m Own) size s own).now;
        group = (part_same Own p _ _ (seen_agree names p Own) size s own).now;
      } in
      rw (agree.lifetimes a s by, passes_alike _ _ a s (same.mask a), step_alike w v names size _ _ a s k same) refl

  -- So values at sessions up to d are.
  pub values_agree : (names : List (List ℕ)) (t : Term) (a : ℕ) (s : ℤ) → s ≤ℤ d → value w names t a s ≡ value v names t a s
  unfolding value
  values_agree names t a s l = seen_agree names t Own a s (record { from = omega (arith, ints); by = l })
