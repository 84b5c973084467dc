-- Cauchy and Schwarz over lists of pairs of whole numbers.
use Rattle.std.proofs.Common.{◌≡◌, ℕ, suc, ◌+◌, ◌-◌, ◌*◌, ◌≤◌, inl, inr, ℤ, pos, negsuc, ◌+ℤ◌, ◌-ℤ◌, ◌*ℤ◌, neg_ℤ, List, [], ◌∷◌, length, map, fold, unsigned_abs, arith, refl, ap, sym, ◌∙◌}
use Rattle.std.proofs.lemmas.Int.{ints, unsigned_abs-mul}
use Rattle.std.proofs.lemmas.Nat.{mul-le}
use Rattle.std.proofs.lemmas.Bool.{cases_lt}
use Rattle.std.proofs.Math.IntN.{negsuc-*ℤ-negsuc, pos-*ℤ-negsuc}
use Rattle.pl_spec.specs.Cells.{total}
use Rattle.pl_pipeline.specs.Formula.{sums_of_pairs, spread_x, spread_y, joint_spread, square}
use Rattle.pl_invariance.proofs.Ring.{times-sum, expanded, gathered}

-- ---- in natural numbers

-- of two numbers the square of the sum is at least four times the product
mean-by : (a d : ℕ) → 4 * (a * (a + d)) ≤ (a + (a + d)) * (a + (a + d))
mean-by a d = omega arith

means : (a b : ℕ) → 4 * (a * b) ≤ (a + b) * (a + b)
means a b = elim (cases_lt a b) [
  | inl less ↦ let e : b ≡ a + (b - a) = omega arith in rw e (mean-by a (b - a))
  | inr more ↦ let e : a ≡ b + (a - b) = omega arith in rw e (omega (arith, mean-by b (a - b)))
]

root-le : (m n : ℕ) → m * m ≤ n * n → m ≤ n
root-le m n h = elim (cases_lt n m) [
  | inl above ↦
      let square : (n + 1) * (n + 1) ≤ m * m = mul-le (n + 1) (n + 1) m m (omega arith) (omega arith) in
      absurd (omega (arith, h, square))
  | inr low ↦ low
]

more : (r p q u v : ℕ) → r * r ≤ p * q → (r + u * v) * (r + u * v) ≤ (p + u * u) * (q + v * v)
more r p q u v h =
    let scaled : r * r * (u * u * (v * v)) ≤ p * q * (u * u * (v * v)) = mul-le (r * r) (u * u * (v * v)) (p * q) (u * u * (v * v)) h (omega arith) in
    let mean = means (p * (v * v)) (q * (u * u)) in
    let middle : 2 * (r * (u * v)) ≤ p * (v * v) + q * (u * u) = root-le (2 * (r * (u * v))) (p * (v * v) + q * (u * u)) (omega (arith, scaled, mean)) in
    omega (arith, h, middle)

-- ---- over lists

total-from : (s : ℤ) (xs : List ℤ) → fold (λ s x. s +ℤ x) s xs ≡ s +ℤ total xs
total-from s [] = omega (arith, ints)
total-from s (x ∷ xs) = omega (arith, ints, total-from (s +ℤ x) xs, total-from (pos 0 +ℤ x) xs)

pub total-cons : (x : ℤ) (xs : List ℤ) → total (x ∷ xs) ≡ x +ℤ total xs
total-cons x xs = omega (arith, ints, total-from (pos 0 +ℤ x) xs)

-- the sum of the products of what f and g make of each pair, and that of the squares of magnitudes
abbrev pub sum_of : (ℤ × ℤ → ℤ) → (ℤ × ℤ → ℤ) → List (ℤ × ℤ) → ℤ
sum_of f g ps = total (map (λ p. f p *ℤ g p) ps)

abbrev pub size : (ℤ × ℤ → ℤ) → List (ℤ × ℤ) → ℕ
size f [] = 0
size f (p ∷ ps) = size f ps + unsigned_abs (f p) * unsigned_abs (f p)

schwarz : (f g : ℤ × ℤ → ℤ) (ps : List (ℤ × ℤ)) → unsigned_abs (sum_of f g ps) * unsigned_abs (sum_of f g ps) ≤ size f ps * size g ps
schwarz f g [] = omega arith
schwarz f g (p ∷ ps) =
    let s = sum_of f g ps in
    let u = unsigned_abs (f p) in
    let v = unsigned_abs (g p) in
    let e : sum_of f g (p ∷ ps) ≡ (f p *ℤ g p) +ℤ s = total-cons (f p *ℤ g p) (map (λ (q : ℤ × ℤ). f q *ℤ g q) ps) in
    let step = more (unsigned_abs s) (size f ps) (size g ps) u v (schwarz f g ps) in
    let few = nearer (f p) (g p) s in
    let square = mul-le (unsigned_abs ((f p *ℤ g p) +ℤ s)) (unsigned_abs ((f p *ℤ g p) +ℤ s)) (unsigned_abs s + u * v) (unsigned_abs s + u * v) few few in
    rw e (omega (arith, square, step))
  where
    nearer : (x y s : ℤ) → unsigned_abs ((x *ℤ y) +ℤ s) ≤ unsigned_abs s + unsigned_abs x * unsigned_abs y
    nearer x y s = let m : unsigned_abs (x *ℤ y) ≡ unsigned_abs x * unsigned_abs y = unsigned_abs-mul x y in rw (← m) (apart (x *ℤ y) s)
      where
        apart : (a b : ℤ) → unsigned_abs (a +ℤ b) ≤ unsigned_abs b + unsigned_abs a
        apart a b = omega (arith, ints)

pub square-size : (c : ℤ) → c *ℤ c ≡ pos (unsigned_abs c * unsigned_abs c)
square-size (pos n) = refl
square-size (negsuc n) = negsuc-*ℤ-negsuc n n

pub own : (f : ℤ × ℤ → ℤ) (ps : List (ℤ × ℤ)) → sum_of f f ps ≡ pos (size f ps)
own f [] = refl
own f (p ∷ ps) =
    let e = total-cons (f p *ℤ f p) (map (λ (q : ℤ × ℤ). f q *ℤ f q) ps) in
    omega (arith, ints, e, square-size (f p), own f ps)

-- ---- about the means

centered : (k c d : ℤ) (f g : ℤ × ℤ → ℤ) (ps : List (ℤ × ℤ)) → sum_of (λ p. (k *ℤ f p) -ℤ c) (λ p. (k *ℤ g p) -ℤ d) ps
    ≡ ((((k *ℤ k) *ℤ sum_of f g ps) -ℤ ((k *ℤ d) *ℤ total (map f ps))) -ℤ ((k *ℤ c) *ℤ total (map g ps))) +ℤ (pos (length ps) *ℤ (c *ℤ d))
centered k c d f g [] = omega (arith, ints)
centered k c d f g (p ∷ ps) =
    let whole = total-cons (((k *ℤ f p) -ℤ c) *ℤ ((k *ℤ g p) -ℤ d)) (map (λ (q : ℤ × ℤ). ((k *ℤ f q) -ℤ c) *ℤ ((k *ℤ g q) -ℤ d)) ps) in
    let e = expanded k c d (f p) (g p) in
    let rest = centered k c d f g ps in
    let fg : sum_of f g (p ∷ ps) ≡ (f p *ℤ g p) +ℤ sum_of f g ps = total-cons (f p *ℤ g p) (map (λ (q : ℤ × ℤ). f q *ℤ g q) ps) in
    let fs : total (map f (p ∷ ps)) ≡ f p +ℤ total (map f ps) = total-cons (f p) (map f ps) in
    let gs : total (map g (p ∷ ps)) ≡ g p +ℤ total (map g ps) = total-cons (g p) (map g ps) in
    let a = ap (λ (z : ℤ). (k *ℤ k) *ℤ z) fg ∙ times-sum (k *ℤ k) (f p *ℤ g p) (sum_of f g ps) in
    let b = ap (λ (z : ℤ). (k *ℤ d) *ℤ z) fs ∙ times-sum (k *ℤ d) (f p) (total (map f ps)) in
    let h = ap (λ (z : ℤ). (k *ℤ c) *ℤ z) gs ∙ times-sum (k *ℤ c) (g p) (total (map g ps)) in
    let n : pos (suc (length ps)) *ℤ (c *ℤ d) ≡ (pos (length ps) *ℤ (c *ℤ d)) +ℤ (c *ℤ d) = omega (arith, ints) in
    omega (arith, ints, whole, e, rest, a, b, h, n)

cancel : (m c a b : ℕ) → (suc m * c) * (suc m * c) ≤ (suc m * a) * (suc m * b) → c * c ≤ a * b
cancel m c a b h = elim (cases_lt (a * b) (c * c)) [
  | inl above ↦
      let some : 1 * 1 ≤ suc m * suc m = mul-le 1 1 (suc m) (suc m) (omega arith) (omega arith) in
      let scaled : suc m * suc m * (a * b + 1) ≤ suc m * suc m * (c * c) = mul-le (suc m * suc m) (a * b + 1) (suc m * suc m) (c * c) (omega arith) (omega arith) in
      absurd (omega (arith, h, some, scaled))
  | inr low ↦ low
]

-- the number of pairs times a spread is a sum of squares
pub own-spread : (p : ℤ × ℤ) (ps : List (ℤ × ℤ)) → let s = sums_of_pairs (p ∷ ps) in
    pos (suc (length ps)) *ℤ spread_x s ≡ pos (size (λ q. (pos (suc (length ps)) *ℤ q.0) -ℤ s.x) (p ∷ ps))
own-spread p ps =
    let s = sums_of_pairs (p ∷ ps) in
    let k : ℤ = pos (suc (length ps)) in
    let f : ℤ × ℤ → ℤ = λ q. (k *ℤ q.0) -ℤ s.x in
    let x : sum_of f f (p ∷ ps) ≡ k *ℤ spread_x s = centered k s.x s.x (λ (q : ℤ × ℤ). q.0) (λ (q : ℤ × ℤ). q.0) (p ∷ ps) ∙ gathered k s.xx s.x s.x in
    sym x ∙ own f (p ∷ ps)

not-below : (k n m : ℕ) → pos (suc k) *ℤ negsuc n ≡ pos m → ⊥
not-below k n m h =
    let e : neg_ℤ (pos (suc k * suc n)) ≡ pos m = sym (pos-*ℤ-negsuc (suc k) n) ∙ h in
    let some : 1 * 1 ≤ suc k * suc n = mul-le 1 1 (suc k) (suc n) (omega arith) (omega arith) in
    omega (arith, ints, e, some)

pub spread-not-below : (ps : List (ℤ × ℤ)) (n : ℕ) → spread_x (sums_of_pairs ps) ≡ negsuc n → ⊥
spread-not-below [] n e = omega (arith, ints, e)
spread-not-below (p ∷ ps) n e = not-below (length ps) n _ (ap (λ (z : ℤ). pos (suc (length ps)) *ℤ z) (sym e) ∙ own-spread p ps)

pub cauchy-schwarz : (ps : List (ℤ × ℤ)) → let s = sums_of_pairs ps in square (joint_spread s) ≤ unsigned_abs (spread_x s) * unsigned_abs (spread_y s)
cauchy-schwarz [] = omega arith
cauchy-schwarz (p ∷ ps) =
    let qs = p ∷ ps in
    let s = sums_of_pairs qs in
    let k : ℤ = pos (suc (length ps)) in
    let n = suc (length ps) in
    let f : ℤ × ℤ → ℤ = λ q. (k *ℤ q.0) -ℤ s.x in
    let g : ℤ × ℤ → ℤ = λ q. (k *ℤ q.1) -ℤ s.y in
    let joint : sum_of f g qs ≡ k *ℤ joint_spread s = centered k s.x s.y (λ (q : ℤ × ℤ). q.0) (λ (q : ℤ × ℤ). q.1) qs ∙ gathered k s.xy s.x s.y in
    let x : sum_of f f qs ≡ k *ℤ spread_x s = centered k s.x s.x (λ (q : ℤ × ℤ). q.0) (λ (q : ℤ × ℤ). q.0) qs ∙ gathered k s.xx s.x s.x in
    let y : sum_of g g qs ≡ k *ℤ spread_y s = centered k s.y s.y (λ (q : ℤ × ℤ). q.1) (λ (q : ℤ × ℤ). q.1) qs ∙ gathered k s.yy s.y s.y in
    let c : unsigned_abs (sum_of f g qs) ≡ n * unsigned_abs (joint_spread s) = ap unsigned_abs joint ∙ unsigned_abs-mul k (joint_spread s) in
    let a : size f qs ≡ n * unsigned_abs (spread_x s) = ap unsigned_abs (sym (own f qs) ∙ x) ∙ unsigned_abs-mul k (spread_x s) in
    let b : size g qs ≡ n * unsigned_abs (spread_y s) = ap unsigned_abs (sym (own g qs) ∙ y) ∙ unsigned_abs-mul k (spread_y s) in
    let bound : unsigned_abs (sum_of f g qs) * unsigned_abs (sum_of f g qs) ≤ size f qs * size g qs = schwarz f g qs in
    cancel (length ps) (unsigned_abs (joint_spread s)) (unsigned_abs (spread_x s)) (unsigned_abs (spread_y s)) (rw (c, a, b) at bound)
