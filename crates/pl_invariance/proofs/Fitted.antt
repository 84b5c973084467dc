-- The line of a regression is that of least squares.
use Rattle.std.proofs.Common.{◌≡◌, ℕ, suc, ◌*◌, ◌≤◌, ℤ, pos, ◌+ℤ◌, ◌-ℤ◌, ◌*ℤ◌, List, [], ◌∷◌, length, map, sum_by, unsigned_abs, arith, refl, sym, ap, ap₂, ◌∙◌}
use Rattle.std.proofs.lemmas.Int.{ints, unsigned_abs-mul}
use Rattle.std.proofs.lemmas.List.Sums.{sum_by-cons}
use Rattle.std.proofs.Math.IntN.{*ℤ_comm}
use Rattle.pl_spec.specs.Cells.{total}
use Rattle.pl_pipeline.specs.Formula.{sums_of_pairs, present_pairs, spread_x, joint_spread, square, slope, intercept, formula}
use Rattle.pl_invariance.specs.Fitted.{misses, IsOfLeastSquares, LinesAreOfLeastSquares}
use Rattle.pl_invariance.proofs.Ring.{times-sum, times-less, times-times}
use Rattle.pl_invariance.proofs.Lines.{sum-by, less-by}
use Rattle.pl_invariance.proofs.Schwarz.{total-cons, sum_of, size, own, square-size}

-- ---- sums of squares

sum-is-size : (f : ℤ × ℤ → ℤ) (ps : List (ℤ × ℤ)) → sum_by (λ p. square (f p)) ps ≡ size f ps
sum-is-size f [] = refl
sum-is-size f (p ∷ ps) = omega (arith, sum_by-cons (λ (q : ℤ × ℤ). square (f q)) p ps, sum-is-size f ps)

size-times : (k : ℤ) (f : ℤ × ℤ → ℤ) (ps : List (ℤ × ℤ)) → size (λ p. k *ℤ f p) ps ≡ square k * size f ps
size-times k f [] = omega arith
size-times k f (p ∷ ps) =
    let one : unsigned_abs (k *ℤ f p) ≡ unsigned_abs k * unsigned_abs (f p) = unsigned_abs-mul k (f p) in
    let rest = size-times k f ps in
    rw (one, rest) (omega arith)

size-same : (f g : ℤ × ℤ → ℤ) → ((p : ℤ × ℤ) → f p ≡ g p) → (ps : List (ℤ × ℤ)) → size f ps ≡ size g ps
size-same f g e [] = refl
size-same f g e (p ∷ ps) = rw (e p, size-same f g e ps) refl

square-of-sum : (m f g : ℤ) → ((m *ℤ f) +ℤ g) *ℤ ((m *ℤ f) +ℤ g) ≡ ((m *ℤ m) *ℤ (f *ℤ f)) +ℤ ((m *ℤ (f *ℤ g)) +ℤ (m *ℤ (f *ℤ g))) +ℤ (g *ℤ g)
square-of-sum m f g =
    let whole = times-sum ((m *ℤ f) +ℤ g) (m *ℤ f) g in
    let left = sum-by (m *ℤ f) g (m *ℤ f) in
    let right = sum-by (m *ℤ f) g g in
    let a : (m *ℤ f) *ℤ (m *ℤ f) ≡ (m *ℤ m) *ℤ (f *ℤ f)
    = times-times m f (m *ℤ f) ∙ ap (λ (z : ℤ). m *ℤ z) (sym (times-times f m f) ∙ ap (λ (z : ℤ). z *ℤ f) (*ℤ_comm f m) ∙ times-times m f f) ∙ sym (times-times m m (f *ℤ f)) in
    let b : (m *ℤ f) *ℤ g ≡ m *ℤ (f *ℤ g) = times-times m f g in
    let d : g *ℤ (m *ℤ f) ≡ m *ℤ (f *ℤ g) = *ℤ_comm g (m *ℤ f) ∙ b in
    omega (arith, ints, whole, left, right, a, b, d)

squares : (m : ℤ) (f g : ℤ × ℤ → ℤ) (ps : List (ℤ × ℤ)) → sum_of (λ p. (m *ℤ f p) +ℤ g p) (λ p. (m *ℤ f p) +ℤ g p) ps
    ≡ ((m *ℤ m) *ℤ sum_of f f ps) +ℤ ((m *ℤ sum_of f g ps) +ℤ (m *ℤ sum_of f g ps)) +ℤ sum_of g g ps
squares m f g [] = omega (arith, ints)
squares m f g (p ∷ ps) =
    let h : ℤ × ℤ → ℤ = λ q. (m *ℤ f q) +ℤ g q in
    let whole = total-cons (h p *ℤ h p) (map (λ (q : ℤ × ℤ). h q *ℤ h q) ps) in
    let one = square-of-sum m (f p) (g p) in
    let rest = squares m f g ps in
    let a = ap (λ (z : ℤ). (m *ℤ m) *ℤ z) (total-cons (f p *ℤ f p) (map (λ (q : ℤ × ℤ). f q *ℤ f q) ps)) ∙ times-sum (m *ℤ m) (f p *ℤ f p) (sum_of f f ps) in
    let b = ap (λ (z : ℤ). m *ℤ z) (total-cons (f p *ℤ g p) (map (λ (q : ℤ × ℤ). f q *ℤ g q) ps)) ∙ times-sum m (f p *ℤ g p) (sum_of f g ps) in
    let d = total-cons (g p *ℤ g p) (map (λ (q : ℤ × ℤ). g q *ℤ g q) ps) in
    omega (arith, ints, whole, one, rest, a, b, d)

-- ---- what lies between the values and a line

by-line : (f : ℤ × ℤ → ℤ) (u v : ℤ) (ps : List (ℤ × ℤ)) → sum_of f (λ p. u +ℤ (v *ℤ p.0)) ps ≡ (u *ℤ total (map f ps)) +ℤ (v *ℤ sum_of f (λ p. p.0) ps)
by-line f u v [] = omega (arith, ints)
by-line f u v (p ∷ ps) =
    let whole = total-cons (f p *ℤ (u +ℤ (v *ℤ p.0))) (map (λ (q : ℤ × ℤ). f q *ℤ (u +ℤ (v *ℤ q.0))) ps) in
    let one : f p *ℤ (u +ℤ (v *ℤ p.0)) ≡ (u *ℤ f p) +ℤ (v *ℤ (f p *ℤ p.0)) = line-one (f p) p.0 in
    let a = ap (λ (z : ℤ). u *ℤ z) (total-cons (f p) (map f ps)) ∙ times-sum u (f p) (total (map f ps)) in
    let b = ap (λ (z : ℤ). v *ℤ z) (total-cons (f p *ℤ p.0) (map (λ (q : ℤ × ℤ). f q *ℤ q.0) ps)) ∙ times-sum v (f p *ℤ p.0) (sum_of f (λ q. q.0) ps) in
    omega (arith, ints, whole, one, a, b, by-line f u v ps)
  where
    line-one : (f x : ℤ) → f *ℤ (u +ℤ (v *ℤ x)) ≡ (u *ℤ f) +ℤ (v *ℤ (f *ℤ x))
    line-one f x =
        let a = times-sum f u (v *ℤ x) in
        let b = *ℤ_comm f u in
        let d : f *ℤ (v *ℤ x) ≡ v *ℤ (f *ℤ x) = sym (times-times f v x) ∙ ap (λ (z : ℤ). z *ℤ x) (*ℤ_comm f v) ∙ times-times v f x in
        omega (arith, ints, a, b, d)

module _ (k a b : ℤ) where
  abbrev rest_of : ℤ × ℤ → ℤ
  rest_of p = (k *ℤ p.1) -ℤ (a +ℤ (b *ℤ p.0))

  rests : (ps : List (ℤ × ℤ)) → let s = sums_of_pairs ps in total (map rest_of ps) ≡ (k *ℤ s.y) -ℤ ((pos s.number *ℤ a) +ℤ (b *ℤ s.x))
  rests [] = omega (arith, ints)
  rests (p ∷ ps) =
      let s = sums_of_pairs ps in
      let whole = total-cons (rest_of p) (map rest_of ps) in
      let y = ap (λ (z : ℤ). k *ℤ z) (total-cons p.1 (map (λ (q : ℤ × ℤ). q.1) ps)) ∙ times-sum k p.1 s.y in
      let x = ap (λ (z : ℤ). b *ℤ z) (total-cons p.0 (map (λ (q : ℤ × ℤ). q.0) ps)) ∙ times-sum b p.0 s.x in
      let n : pos (suc (length ps)) *ℤ a ≡ (pos (length ps) *ℤ a) +ℤ a = omega (arith, ints) in
      omega (arith, ints, whole, y, x, n, rests ps)

  rest-one : (x y : ℤ) → ((k *ℤ y) -ℤ (a +ℤ (b *ℤ x))) *ℤ x ≡ (k *ℤ (x *ℤ y)) -ℤ ((a *ℤ x) +ℤ (b *ℤ (x *ℤ x)))
  rest-one x y =
      let whole = less-by (k *ℤ y) (a +ℤ (b *ℤ x)) x in
      let inner = sum-by a (b *ℤ x) x in
      let d : (k *ℤ y) *ℤ x ≡ k *ℤ (x *ℤ y) = times-times k y x ∙ ap (λ (z : ℤ). k *ℤ z) (*ℤ_comm y x) in
      let e : (b *ℤ x) *ℤ x ≡ b *ℤ (x *ℤ x) = times-times b x x in
      omega (arith, ints, whole, inner, d, e)

  rests-by-x : (ps : List (ℤ × ℤ)) → let s = sums_of_pairs ps in sum_of rest_of (λ p. p.0) ps ≡ (k *ℤ s.xy) -ℤ ((a *ℤ s.x) +ℤ (b *ℤ s.xx))
  rests-by-x [] = omega (arith, ints)
  rests-by-x (p ∷ ps) =
      let s = sums_of_pairs ps in
      let whole = total-cons (rest_of p *ℤ p.0) (map (λ (q : ℤ × ℤ). rest_of q *ℤ q.0) ps) in
      let xy = ap (λ (z : ℤ). k *ℤ z) (total-cons (p.0 *ℤ p.1) (map (λ (q : ℤ × ℤ). q.0 *ℤ q.1) ps)) ∙ times-sum k (p.0 *ℤ p.1) s.xy in
      let x = ap (λ (z : ℤ). a *ℤ z) (total-cons p.0 (map (λ (q : ℤ × ℤ). q.0) ps)) ∙ times-sum a p.0 s.x in
      let xx = ap (λ (z : ℤ). b *ℤ z) (total-cons (p.0 *ℤ p.0) (map (λ (q : ℤ × ℤ). q.0 *ℤ q.0) ps)) ∙ times-sum b (p.0 *ℤ p.0) s.xx in
      omega (arith, ints, whole, xy, x, xx, rest-one p.0 p.1, rests-by-x ps)

-- ---- the rests of the line of a regression add up to nothing, and so do their products with x

no-rest : (n w j x y : ℤ) → ((n *ℤ w) *ℤ y) -ℤ ((n *ℤ ((y *ℤ w) -ℤ (j *ℤ x))) +ℤ ((n *ℤ j) *ℤ x)) ≡ pos 0
no-rest n w j x y =
    let a : (n *ℤ w) *ℤ y ≡ n *ℤ (y *ℤ w) = times-times n w y ∙ ap (λ (z : ℤ). n *ℤ z) (*ℤ_comm w y) in
    let b = times-less n (y *ℤ w) (j *ℤ x) in
    let d : (n *ℤ j) *ℤ x ≡ n *ℤ (j *ℤ x) = times-times n j x in
    omega (arith, ints, a, b, d)

no-rest-by-x : (n w j x y xx xy : ℤ) → w ≡ (n *ℤ xx) -ℤ (x *ℤ x) → j ≡ (n *ℤ xy) -ℤ (x *ℤ y)
    → ((n *ℤ w) *ℤ xy) -ℤ ((((y *ℤ w) -ℤ (j *ℤ x)) *ℤ x) +ℤ ((n *ℤ j) *ℤ xx)) ≡ pos 0
no-rest-by-x n w j x y xx xy ew ej =
    let nxy : n *ℤ xy ≡ j +ℤ (x *ℤ y) = plus j (n *ℤ xy) (x *ℤ y) ej in
    let nxx : n *ℤ xx ≡ w +ℤ (x *ℤ x) = plus w (n *ℤ xx) (x *ℤ x) ew in
    let a : (n *ℤ w) *ℤ xy ≡ (w *ℤ j) +ℤ (w *ℤ (x *ℤ y))
    = ap (λ (z : ℤ). z *ℤ xy) (*ℤ_comm n w) ∙ times-times w n xy ∙ ap (λ (z : ℤ). w *ℤ z) nxy ∙ times-sum w j (x *ℤ y) in
    let b : (n *ℤ j) *ℤ xx ≡ (w *ℤ j) +ℤ (j *ℤ (x *ℤ x))
    = ap (λ (z : ℤ). z *ℤ xx) (*ℤ_comm n j) ∙ times-times j n xx ∙ ap (λ (z : ℤ). j *ℤ z) nxx ∙ times-sum j w (x *ℤ x) ∙ ap (λ (z : ℤ). z +ℤ (j *ℤ (x *ℤ x))) (*ℤ_comm j w) in
    let d = less-by (y *ℤ w) (j *ℤ x) x in
    let e : (y *ℤ w) *ℤ x ≡ w *ℤ (x *ℤ y) = ap (λ (z : ℤ). z *ℤ x) (*ℤ_comm y w) ∙ times-times w y x ∙ ap (λ (z : ℤ). w *ℤ z) (*ℤ_comm y x) in
    let f : (j *ℤ x) *ℤ x ≡ j *ℤ (x *ℤ x) = times-times j x x in
    omega (arith, ints, a, b, d, e, f)
  where
    plus : (u p q : ℤ) → u ≡ p -ℤ q → p ≡ u +ℤ q
    plus u p q e = omega (arith, ints, e)

-- ---- no line lies nearer

apart : (k m a b p q x y : ℤ) → k *ℤ ((m *ℤ y) -ℤ (a +ℤ (b *ℤ x))) ≡ (m *ℤ ((k *ℤ y) -ℤ (p +ℤ (q *ℤ x)))) +ℤ (((m *ℤ p) -ℤ (k *ℤ a)) +ℤ (((m *ℤ q) -ℤ (k *ℤ b)) *ℤ x))
apart k m a b p q x y =
    let left = times-less k (m *ℤ y) (a +ℤ (b *ℤ x)) in
    let inner = times-sum k a (b *ℤ x) in
    let right = times-less m (k *ℤ y) (p +ℤ (q *ℤ x)) in
    let other = times-sum m p (q *ℤ x) in
    let rise = less-by (m *ℤ q) (k *ℤ b) x in
    let d : k *ℤ (m *ℤ y) ≡ m *ℤ (k *ℤ y) = sym (times-times k m y) ∙ ap (λ (z : ℤ). z *ℤ y) (*ℤ_comm k m) ∙ times-times m k y in
    let e : k *ℤ (b *ℤ x) ≡ (k *ℤ b) *ℤ x = sym (times-times k b x) in
    let f : m *ℤ (q *ℤ x) ≡ (m *ℤ q) *ℤ x = sym (times-times m q x) in
    omega (arith, ints, left, inner, right, other, rise, d, e, f)

least-of : (ps : List (ℤ × ℤ)) (k p q m a b : ℤ) → total (map (rest_of k p q) ps) ≡ pos 0 → sum_of (rest_of k p q) (λ r. r.0) ps ≡ pos 0
    → square m * misses k p q ps ≤ square k * misses m a b ps
least-of ps k p q m a b none none_by_x =
    let f : ℤ × ℤ → ℤ = rest_of k p q in
    let u = (m *ℤ p) -ℤ (k *ℤ a) in
    let v = (m *ℤ q) -ℤ (k *ℤ b) in
    let g : ℤ × ℤ → ℤ = λ r. u +ℤ (v *ℤ r.0) in
    let h : ℤ × ℤ → ℤ = rest_of m a b in
    let both : ℤ × ℤ → ℤ = λ r. (m *ℤ f r) +ℤ g r in
    let cross : sum_of f g ps ≡ pos 0 = by-line f u v ps ∙ ap₂ (λ (y z : ℤ). (u *ℤ y) +ℤ (v *ℤ z)) none none_by_x ∙ nothing u v in
    let all : size both ps ≡ square k * size h ps = size-same both (λ r. k *ℤ h r) (λ r. sym (apart k m a b p q r.0 r.1)) ps ∙ size-times k h ps in
    let whole = sym (own both ps) ∙ squares m f g ps in
    let mm = square-size m in
    let ff = own f ps in
    let gg = own g ps in
    let ok : square m * size f ps ≤ size both ps
    = enough (square m) (size f ps) (size g ps) (size both ps) m
    (whole ∙ ap (λ (z : ℤ). ((m *ℤ m) *ℤ sum_of f f ps) +ℤ ((m *ℤ z) +ℤ (m *ℤ z)) +ℤ sum_of g g ps) cross
    ∙ ap (λ (z : ℤ). (z *ℤ sum_of f f ps) +ℤ ((m *ℤ pos 0) +ℤ (m *ℤ pos 0)) +ℤ sum_of g g ps) mm
    ∙ ap₂ (λ (y z : ℤ). (pos (square m) *ℤ y) +ℤ ((m *ℤ pos 0) +ℤ (m *ℤ pos 0)) +ℤ z) ff gg) in
    rw (sum-is-size f ps, sum-is-size h ps) (omega (arith, ok, all))
  where
    nothing : (u v : ℤ) → (u *ℤ pos 0) +ℤ (v *ℤ pos 0) ≡ pos 0
    nothing u v = omega (arith, ints)

    enough : (s e g t : ℕ) (m : ℤ) → pos t ≡ (pos s *ℤ pos e) +ℤ ((m *ℤ pos 0) +ℤ (m *ℤ pos 0)) +ℤ pos g → s * e ≤ t
    enough s e g t m h = let none = nothing m m in omega (arith, ints, h, none)

fitted : (ps : List (ℤ × ℤ)) → IsOfLeastSquares ps (slope (sums_of_pairs ps)) (intercept (sums_of_pairs ps))
unfolding slope intercept
fitted ps =
    let s = sums_of_pairs ps in
    let n : ℤ = pos (length ps) in
    let w = spread_x s in
    let j = joint_spread s in
    let start = (s.y *ℤ w) -ℤ (j *ℤ s.x) in
    record {
      rise = j;
      start = start;
      width = w;
      slope_is = refl;
      intercept_is = refl;
      least =
          λ m a b. least-of ps (n *ℤ w) start (n *ℤ j) m a b
          (rests (n *ℤ w) start (n *ℤ j) ps ∙ no-rest n w j s.x s.y)
          (rests-by-x (n *ℤ w) start (n *ℤ j) ps ∙ no-rest-by-x n w j s.x s.y s.xx s.xy refl refl);
    }

pub lines-are-of-least-squares : LinesAreOfLeastSquares
unfolding formula
lines-are-of-least-squares ys xs zs = fitted (present_pairs xs ys)
