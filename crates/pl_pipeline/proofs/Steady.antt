-- Terms whose values are the same from wherever they are seen.
use Rattle.std.proofs.Common.{◌≡◌, ℕ, Bool, true, false, ◌&&◌, ◌||◌, not, ℤ, List, map, refl, sym, ◌∙◌, ap}
use Rattle.std.proofs.Math.Path.{fun_ext}
use Rattle.std.proofs.lemmas.Bool.{and_parts, or_parts, true≢false}
use Rattle.pl_spec.specs.Window.{before, downward}
use Rattle.pl_spec.specs.World.{World}
use Rattle.pl_pipeline.specs.Kind.Kind.{Window, Point}
use Rattle.pl_pipeline.specs.Term.{Term}
use Rattle.pl_pipeline.specs.Term.Term.{absent, column, node}
use Rattle.pl_pipeline.specs.Value.{Meaning, View, Own, From, part_from, value_of_part, number_of, window_of, is_bars, keeps_point, keeps_window, seen_from, kind_value, seen, value, is_steady}

-- what a part tells on a session is what its meaning does
pub now_same : (view other : View) (x : Term) (f g : Meaning) (a : ℕ) (d : ℤ) → f a d ≡ g a d
    → value_of_part (part_from view x f) a d ≡ value_of_part (part_from other x g) a d
now_same view other absent f g a d e = refl
now_same view other (column c) f g a d e = refl
now_same view other (node k size x y z m p) f g a d e = e

not-true : (b : Bool) → not b ≡ true → b ≡ false
not-true true e = sym e
not-true false e = refl

module _ (w : World) (names : List (List ℕ)) where
  -- the windows of two meanings that are one
  same_window : (view other : View) (x : Term) (f g : Meaning) (size a : ℕ) (d : ℤ) → is_bars x ≡ false → ((s : ℤ) → f a s ≡ g a s)
      → window_of w size (part_from view x f) a d ≡ window_of w size (part_from other x g) a d
  same_window view other absent f g size a d h e = refl
  same_window view other (column c) f g size a d h e = absurd (true≢false h)
  same_window view other (node k i x y z m p) f g size a d h e = ap (λ l. map l (downward size)) (fun_ext (λ n. ap number_of (e (before d n))))

  pub steady-own : (t : Term) → is_steady t ≡ true → (view : View) (a : ℕ) (d : ℤ) → seen w names t view a d ≡ value w names t a d
  unfolding value seen kind_value
  steady-own absent h view a d = refl
  steady-own (column c) h view a d = refl
  steady-own (node (Window k) size x y z m g) h view a d =
      by_test (keeps_window k) refl (λ e. steady-own x e) (λ e. steady-own y e) (λ e. steady-own z e)
    where
      by_test : (b : Bool) → keeps_window k ≡ b
          → (is_steady x ≡ true → (v : View) (b : ℕ) (s : ℤ) → seen w names x v b s ≡ value w names x b s)
          → (is_steady y ≡ true → (v : View) (b : ℕ) (s : ℤ) → seen w names y v b s ≡ value w names y b s)
          → (is_steady z ≡ true → (v : View) (b : ℕ) (s : ℤ) → seen w names z v b s ≡ value w names z b s)
          → seen w names (node (Window k) size x y z m g) view a d ≡ value w names (node (Window k) size x y z m g) a d
      by_test true e p q r = rw e refl
      by_test false e p q r =
          let all : (is_steady x && is_steady y && is_steady z && not (is_bars x || is_bars y || is_bars z)) ≡ true = rw e at h in
          let terms = and_parts (is_steady x && is_steady y && is_steady z) (not (is_bars x || is_bars y || is_bars z)) all in
          let rest = and_parts (is_steady x && is_steady y) (is_steady z) terms.0 in
          let first = and_parts (is_steady x) (is_steady y) rest.0 in
          let none : (is_bars x || is_bars y || is_bars z) ≡ false = not-true _ terms.1 in
          let last = or_parts (is_bars x || is_bars y) (is_bars z) none in
          let both = or_parts (is_bars x) (is_bars y) last.0 in
          rw (
            e,
            same_window (From (seen_from view d)) (From d) x (seen w names x (From (seen_from view d))) (seen w names x (From d)) size a d both.0 (λ s. p first.0 (From (seen_from view d)) a s ∙ sym (p first.0 (From d) a s)),
            same_window (From (seen_from view d)) (From d) y (seen w names y (From (seen_from view d))) (seen w names y (From d)) size a d both.1 (λ s. q first.1 (From (seen_from view d)) a s ∙ sym (q first.1 (From d) a s)),
            same_window (From (seen_from view d)) (From d) z (seen w names z (From (seen_from view d))) (seen w names z (From d)) size a d last.1 (λ s. r rest.1 (From (seen_from view d)) a s ∙ sym (r rest.1 (From d) a s)),
          ) refl
  steady-own (node (Point k) size x y z m g) h view a d =
      by_test (keeps_point k) refl (λ e. steady-own x e view a d) (λ e. steady-own y e view a d) (λ e. steady-own z e view a d)
    where
      by_test : (b : Bool) → keeps_point k ≡ b
          → (is_steady x ≡ true → seen w names x view a d ≡ value w names x a d)
          → (is_steady y ≡ true → seen w names y view a d ≡ value w names y a d)
          → (is_steady z ≡ true → seen w names z view a d ≡ value w names z a d)
          → seen w names (node (Point k) size x y z m g) view a d ≡ value w names (node (Point k) size x y z m g) a d
      by_test true e p q r = rw e refl
      by_test false e p q r =
          let steady : (is_steady x && is_steady y && is_steady z) ≡ true = rw e at h in
          let rest = and_parts (is_steady x && is_steady y) (is_steady z) steady in
          let first = and_parts (is_steady x) (is_steady y) rest.0 in
          rw (
            e,
            now_same view Own x (seen w names x view) (seen w names x Own) a d (p first.0),
            now_same view Own y (seen w names y view) (seen w names y Own) a d (q first.1),
            now_same view Own z (seen w names z view) (seen w names z Own) a d (r rest.1),
          ) refl
  steady-own (node k size x y z m g) h view a d = refl
