-- What terms are worth as they are seen from somewhere.
use Rattle.std.proofs.Common.{◌≡◌, ℕ, suc, ◌<◌, ◌≤◌, Bool, true, false, ◌&&◌, ℤ, ◌≤ℤ◌, ◌<ℤ◌, List, [], ◌∷◌, filter, filter_map, Option, Some, None, refl, sym, ◌∙◌, ap, arith, append-nil}
use Rattle.std.proofs.lemmas.Bool.{and_parts}
use Rattle.std.proofs.lemmas.Int.{ints}
use Rattle.pl_spec.specs.declared.Column.{Column}
use Rattle.pl_spec.specs.World.{World, IsWorld, bar_cell, day_of, events_of, exists}
use Rattle.pl_spec.specs.Window.{effect, is_between, effects_in, after_all, seen_cell, before, bar_window}
use Rattle.pl_spec.proofs.Buffer.{effects-split}
use Rattle.pl_spec.proofs.Windows.{map-downward, before-zero}
use Rattle.pl_pipeline.specs.Kind as kind
use Rattle.pl_pipeline.specs.Kind.{Kind}
use Rattle.pl_pipeline.specs.Kind.Kind.{Constant, Window, Point}
use Rattle.pl_pipeline.specs.Term.{Term}
use Rattle.pl_pipeline.specs.Term.Term.{absent, column, node}
use Rattle.pl_pipeline.specs.Graph.{part_reach, reach}
use Rattle.pl_pipeline.specs.Reaching.{HasWindows}
use Rattle.pl_pipeline.specs.Value.{Meaning, View, Own, From, seen_from, part_from, number_of, value_of_part, window_of, keeps_window, keeps_point, kind_value, name_at, seen, value}
use Rattle.pl_pipeline.proofs.Steady.{now_same}
use Rattle.pl_pipeline.specs.Formula.{formula}
use Rattle.pl_pipeline.specs.Value.Part.{Values}
use Rattle.pl_laws.specs.SeenLaws.{IsStillBetween, IsOnStretch, latest, moves_throughout, IsSeenOn}
use Rattle.pl_laws.proofs.NoEvents.{seen-raw}
use Rattle.pl_laws.proofs.Reaches.{below_least, at_downward}
use Rattle.pl_laws.proofs.Law.{day_by}

-- ---- on its own session

module _ (w : World) (names : List (List ℕ)) where
  pub from-itself : (t : Term) (a : ℕ) (d : ℤ) → seen w names t (From d) a d ≡ value w names t a d
  unfolding value seen kind_value
  from-itself absent a d = refl
  from-itself (column c) a d = refl
  from-itself (node (Point k) size x y z m g) a d = by_test (keeps_point k) refl (from-itself x a d) (from-itself y a d) (from-itself z a d)
    where
      by_test : (b : Bool) → keeps_point k ≡ b
          → seen w names x (From d) a d ≡ value w names x a d
          → seen w names y (From d) a d ≡ value w names y a d
          → seen w names z (From d) a d ≡ value w names z a d
          → seen w names (node (Point k) size x y z m g) (From d) a d ≡ value w names (node (Point k) size x y z m g) a d
      by_test true e p q r = rw e refl
      by_test false e p q r = rw (
        e,
        now_same (From d) Own x (seen w names x (From d)) (seen w names x Own) a d p,
        now_same (From d) Own y (seen w names y (From d)) (seen w names y Own) a d q,
        now_same (From d) Own z (seen w names z (From d)) (seen w names z Own) a d r,
      ) refl
  from-itself (node k size x y z m g) a d = refl

-- ---- while an asset's bars stand still

module _ (w : World) (names : List (List ℕ)) (a : ℕ) (low u v : ℤ) (later : u ≤ℤ v) (still : IsStillBetween w a low u v) where
  -- seen alike from both sessions, where the term reaches no farther back
  abbrev Stays : Term → Meaning → Meaning → Type 0
  Stays t f g = (s : ℤ) → s ≤ℤ u → low ≤ℤ reach w.days t s → f a s ≡ g a s

  now-stays : (t : Term) (f g : Meaning) (size : ℕ) (d : ℤ) → 1 ≤ size → Stays t f g → d ≤ℤ u → low ≤ℤ part_reach t (reach w.days t) size d
      → value_of_part (part_from (From u) t f) a d ≡ value_of_part (part_from (From v) t g) a d
  now-stays absent f g size d some e l h = refl
  now-stays (column c) f g size d some e l h = refl
  now-stays (node k i x y z m p) f g size d some e l h =
      let from = at_downward low (λ s. reach w.days (node k i x y z m p) (before d s)) size (below_least low d _ h).1 in
      let now = from 0 (omega arith) in
      e d l (rw (before-zero d) at now)

  window-stays : (t : Term) (f g : Meaning) (size : ℕ) (d : ℤ) → 1 ≤ size → Stays t f g → d ≤ℤ u → low ≤ℤ part_reach t (reach w.days t) size d
      → window_of w size (part_from (From u) t f) a d ≡ window_of w size (part_from (From v) t g) a d
  window-stays absent f g size d some e l h = refl
  window-stays (column c) f g size d some e l h =
      map-downward _ _ size (λ n m. still c (before d (suc n)) (omega (arith, ints)) (omega (arith, ints)))
  window-stays (node k i x y z m p) f g size d some e l h =
      let from = at_downward low (λ s. reach w.days (node k i x y z m p) (before d s)) size (below_least low d _ h).1 in
      map-downward _ _ size (λ n r. ap number_of (e (before d n) (omega (arith, ints)) (from n r)))

  -- what a term reads of its three inputs on session s
  abbrev Reaching : ℕ → Term → Term → Term → Term → Term → ℤ → List ℤ
  Reaching size x y z m g s =
      part_reach x (reach w.days x) size s ∷ part_reach y (reach w.days y) size s ∷ part_reach z (reach w.days z) size s ∷ part_reach m (reach w.days m) 1 s ∷ part_reach g (reach w.days g) 1 s ∷ []

  pub still-stays : (t : Term) → HasWindows t → Stays t (seen w names t (From u)) (seen w names t (From v))
  unfolding seen reach kind_value
  still-stays absent ok s l h = refl
  still-stays (column c) ok s l h = refl
  still-stays (node (Window k) size x y z m g) ok s l h =
      by_test (keeps_window k) refl (still-stays x ok.1) (still-stays y ok.2) (still-stays z ok.3)
    where
      by_test : (b : Bool) → keeps_window k ≡ b
          → Stays x (seen w names x (From u)) (seen w names x (From v))
          → Stays y (seen w names y (From u)) (seen w names y (From v))
          → Stays z (seen w names z (From u)) (seen w names z (From v))
          → seen w names (node (Window k) size x y z m g) (From u) a s ≡ seen w names (node (Window k) size x y z m g) (From v) a s
      by_test true e p q r = rw e refl
      by_test false e p q r =
          let parts = below_least low s (Reaching size x y z m g s) h in
          rw (
            e,
            window-stays x (seen w names x (From u)) (seen w names x (From v)) size s ok.0 p l parts.1.0,
            window-stays y (seen w names y (From u)) (seen w names y (From v)) size s ok.0 q l parts.1.1.0,
            window-stays z (seen w names z (From u)) (seen w names z (From v)) size s ok.0 r l parts.1.1.1.0,
          ) refl
  still-stays (node (Point k) size x y z m g) ok s l h =
      by_test (keeps_point k) refl (still-stays x ok.1) (still-stays y ok.2) (still-stays z ok.3)
    where
      by_test : (b : Bool) → keeps_point k ≡ b
          → Stays x (seen w names x (From u)) (seen w names x (From v))
          → Stays y (seen w names y (From u)) (seen w names y (From v))
          → Stays z (seen w names z (From u)) (seen w names z (From v))
          → seen w names (node (Point k) size x y z m g) (From u) a s ≡ seen w names (node (Point k) size x y z m g) (From v) a s
      by_test true e p q r = rw e refl
      by_test false e p q r =
          let parts = below_least low s (Reaching size x y z m g s) h in
          rw (
            e,
            now-stays x (seen w names x (From u)) (seen w names x (From v)) size s ok.0 p l parts.1.0,
            now-stays y (seen w names y (From u)) (seen w names y (From v)) size s ok.0 q l parts.1.1.0,
            now-stays z (seen w names z (From u)) (seen w names z (From v)) size s ok.0 r l parts.1.1.1.0,
          ) refl
  still-stays (node k size x y z m g) ok s l h = refl

pub on-stretch : (w : World) (names : List (List ℕ)) (a : ℕ) (low d s : ℤ) → d ≤ℤ s
    → ((r : ℤ) → d ≤ℤ r → r ≤ℤ s → IsStillBetween w a low r s)
    → (t : Term) → HasWindows t → IsOnStretch w names a low d s t
on-stretch w names a low d s later still t ok =
    record {
      earlier = λ r l h. sym (still-stays w names a low d s later (still d (omega (arith, ints)) later) t ok r l h);
      within = λ r l m h.
          sym (still-stays w names a low r s m (still r l m) t ok r (omega (arith, ints)) h) ∙ from-itself w names t a r;
    }

-- without adjustments between two sessions bars are seen alike from both
pub quiet-still : (w : World) → IsWorld w → (a : ℕ) (u v x y : ℤ) → u ≤ℤ v → day_of w u ≡ Some x → day_of w v ≡ Some y
    → filter (is_between x y) (events_of w a) ≡ [] → (low : ℤ) → IsStillBetween w a low u v
unfolding seen_cell
quiet-still w ok a u v x y l at_u at_v none low c s from until = on_day (day_of w s) refl
  where
    on_day : (o : Option ℤ) → day_of w s ≡ o → seen_cell w a c s u ≡ seen_cell w a c s v
    on_day None e = rw e refl
    on_day (Some b) e =
        let split = effects-split c b b x y (day_by w ok s u b x (omega (arith, ints)) e at_u) (day_by w ok u v x y l at_u at_v) (events_of w a) (ok.events_in_order a) in
        let nothing : effects_in c b x y (events_of w a) ≡ [] = ap (filter_map (effect c b)) none in
        rw (e, at_u, at_v, split, nothing) (ap (after_all (bar_cell w a c s)) (sym (append-nil (effects_in c b b x (events_of w a)))))

-- ---- as if bars were as they are seen

module _ (w u : World) (v : ℤ) (is : IsSeenOn w v u) (names : List (List ℕ)) (a : ℕ) where
  -- seen from v the one is the other, from wherever it is seen in the other world
  abbrev IsThat : View → Meaning → Meaning → Type 0
  IsThat view f g = (s : ℤ) → s ≤ℤ v → f a s ≡ g a s

  raw_seen : (c : Column) (s d : ℤ) → s <ℤ v → seen_cell w a c s v ≡ seen_cell u a c s d
  raw_seen c s d l = sym (is.bars a c s l) ∙ sym (seen-raw u a c s d (is.events a))

  that-now : (view : View) (t : Term) (f g : Meaning) (d : ℤ) → IsThat view f g → d ≤ℤ v
      → value_of_part (part_from (From v) t f) a d ≡ value_of_part (part_from view t g) a d
  that-now view absent f g d e l = refl
  that-now view (column c) f g d e l = refl
  that-now view (node k i x y z m p) f g d e l = e d l

  that-window : (view : View) (t : Term) (f g : Meaning) (size : ℕ) (d : ℤ) → IsThat view f g → d ≤ℤ v
      → window_of w size (part_from (From v) t f) a d ≡ window_of u size (part_from view t g) a d
  that-window view absent f g size d e l = refl
  that-window view (column c) f g size d e l =
      map-downward _ _ size (λ n m. raw_seen c (before d (suc n)) (seen_from view d) (omega (arith, ints)))
  that-window view (node k i x y z m p) f g size d e l =
      map-downward _ _ size (λ n m. ap number_of (e (before d n) (omega (arith, ints))))

  pub as-if : (t : Term) → moves_throughout t ≡ true → (view : View) → IsThat view (seen w names t (From v)) (seen u names t view)
  unfolding seen kind_value
  as-if absent h view s l = refl
  as-if (column c) h view s l = refl
  as-if (node (Constant cell) size x y z absent absent) h view s l = rw (is.lifetimes a s) refl
  as-if (node (kind.Number f n) size x y z absent absent) h view s l = rw (is.lifetimes a s, is.numbers f (name_at names n) a s) refl
  as-if (node (Window k) size x y z absent absent) h view s l =
      by_test (keeps_window k) refl
      (λ e. as-if x e (From (seen_from view s))) (λ e. as-if y e (From (seen_from view s))) (λ e. as-if z e (From (seen_from view s)))
    where
      outer : View
      outer = From (seen_from view s)

      by_test : (b : Bool) → keeps_window k ≡ b
          → (moves_throughout x ≡ true → IsThat outer (seen w names x (From v)) (seen u names x outer))
          → (moves_throughout y ≡ true → IsThat outer (seen w names y (From v)) (seen u names y outer))
          → (moves_throughout z ≡ true → IsThat outer (seen w names z (From v)) (seen u names z outer))
          → seen w names (node (Window k) size x y z absent absent) (From v) a s ≡ seen u names (node (Window k) size x y z absent absent) view a s
      by_test true e p q r = let bad : false ≡ true = rw e at h in cc
      by_test false e p q r =
          let all : (moves_throughout x && moves_throughout y && moves_throughout z) ≡ true = rw e at h in
          let both = and_parts (moves_throughout x && moves_throughout y) (moves_throughout z) all in
          let first = and_parts (moves_throughout x) (moves_throughout y) both.0 in
          rw (
            e,
            is.lifetimes a s,
            that-window outer x (seen w names x (From v)) (seen u names x outer) size s (p first.0) l,
            that-window outer y (seen w names y (From v)) (seen u names y outer) size s (q first.1) l,
            that-window outer z (seen w names z (From v)) (seen u names z outer) size s (r both.1) l,
          ) refl
  as-if (node (Point k) size x y z absent absent) h view s l =
      by_test (keeps_point k) refl (λ e. as-if x e view) (λ e. as-if y e view) (λ e. as-if z e view)
    where
      by_test : (b : Bool) → keeps_point k ≡ b
          → (moves_throughout x ≡ true → IsThat view (seen w names x (From v)) (seen u names x view))
          → (moves_throughout y ≡ true → IsThat view (seen w names y (From v)) (seen u names y view))
          → (moves_throughout z ≡ true → IsThat view (seen w names z (From v)) (seen u names z view))
          → seen w names (node (Point k) size x y z absent absent) (From v) a s ≡ seen u names (node (Point k) size x y z absent absent) view a s
      by_test true e p q r = let bad : false ≡ true = rw e at h in cc
      by_test false e p q r =
          let all : (moves_throughout x && moves_throughout y && moves_throughout z) ≡ true = rw e at h in
          let both = and_parts (moves_throughout x && moves_throughout y) (moves_throughout z) all in
          let first = and_parts (moves_throughout x) (moves_throughout y) both.0 in
          rw (
            e,
            is.lifetimes a s,
            that-now view x (seen w names x (From v)) (seen u names x view) s (p first.0) l,
            that-now view y (seen w names y (From v)) (seen u names y view) s (q first.1) l,
            that-now view z (seen w names z (From v)) (seen u names z view) s (r both.1) l,
          ) refl
  as-if t h view s l = cc

  pub as-if-value : (t : Term) → moves_throughout t ≡ true → (s : ℤ) → s ≤ℤ v → seen w names t (From v) a s ≡ value u names t a s
  unfolding value
  as-if-value t h = as-if t h Own

-- ---- latest cells

pub latest-column : (w : World) (names : List (List ℕ)) (c : Column) (size a : ℕ) (d : ℤ)
    → ((n : ℕ) → n < size → exists w a (before d n) ≡ true)
    → window_of w size (Values (seen w names (latest c) (From d))) a d ≡ bar_window w c size a d
unfolding seen kind_value formula
latest-column w names c size a d there =
    map-downward _ _ size (λ n l. rw (there n l) (ap (λ s. seen_cell w a c s d) (twice n)))
  where
    twice : (n : ℕ) → before (before d n) 1 ≡ before d (suc n)
    twice n = omega (arith, ints)
