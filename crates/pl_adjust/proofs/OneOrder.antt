-- A stable sort has one answer.
use Rattle.std.proofs.Common.{◌≡◌, ℕ, zero, suc, ◌+◌, ◌<◌, ◌≤◌, Bool, true, false, not, ◌&&◌, cond, List, [], ◌∷◌, length, get_or, refl, sym, ◌∙◌, ap, arith}
use Rattle.std.specs.Cmp.{IsStrictWeakOrder}
use Rattle.std.specs.List.{filter}
use Rattle.std.specs.List.Sorted.{IsSortedBy, ties}
use Rattle.std.proofs.lemmas.List.Sorted.{sorted_far}

module _ {X : Type 0} (lt : X → X → Bool) (order : IsStrictWeakOrder lt) where
  -- none of the elements is below x
  abbrev pub NoneBelow : X → List X → Type 0
  NoneBelow x [] = Unit {0}
  NoneBelow x (y ∷ ys) = (lt y x ≡ false) × NoneBelow x ys

  abbrev pub Rises : List X → Type 0
  Rises [] = Unit {0}
  Rises (x ∷ xs) = NoneBelow x xs × Rises xs

  pub none_below_lower : (x y : X) (ys : List X) → lt y x ≡ false → NoneBelow y ys → NoneBelow x ys
  none_below_lower x y [] h n = tt
  none_below_lower x y (z ∷ zs) h n = (order.chain z y x n.0 h, none_below_lower x y zs h n.1)

  none_below_from : (x : X) (xs : List X) → ((k : ℕ) (d : X) → k < length xs → lt (get_or xs k d) x ≡ false) → NoneBelow x xs
  none_below_from x [] h = tt
  none_below_from x (y ∷ ys) h = (h 0 y (omega arith), none_below_from x ys (λ k d l. h (suc k) d (omega arith)))

  rises_from : (xs : List X) → ((i j : ℕ) (d : X) → i ≤ j → j < length xs → lt (get_or xs j d) (get_or xs i d) ≡ false) → Rises xs
  rises_from [] h = tt
  rises_from (x ∷ xs) h = (none_below_from x xs (λ k d l. h 0 (suc k) d (omega arith) (omega arith)), rises_from xs (λ i j d l m. h (suc i) (suc j) d (omega arith) (omega arith)))

  rises_from_sorted : (xs : List X) → IsSortedBy lt xs → Rises xs
  rises_from_sorted xs up = rises_from xs (sorted_far lt order xs up)

  pub sorted_from_rises : (xs : List X) → Rises xs → IsSortedBy lt xs
  sorted_from_rises [] r k d low h = absurd (omega arith)
  sorted_from_rises (x ∷ []) r k d low h = absurd (omega arith)
  sorted_from_rises (x ∷ y ∷ ys) r zero d low h = r.0.0
  sorted_from_rises (x ∷ y ∷ ys) r (suc k) d low h =
      let next : suc k + 1 ≡ suc (k + 1) = omega arith in
      ap (λ n. lt (get_or (x ∷ y ∷ ys) n d) (get_or (y ∷ ys) k d)) next ∙ sorted_from_rises (y ∷ ys) r.1 k d (omega arith) (omega arith)

  tied_itself : (x : X) → ties lt x x ≡ true
  tied_itself x = here (lt x x) refl
    where
      here : (b : Bool) → lt x x ≡ b → (not (lt x x) && not (lt x x)) ≡ true
      here true e = let f : lt x x ≡ false = order.one_way x x e in absurd (cc)
      here false e = rw e refl

  -- what ties with x stands after y only where y is not below x
  below_front : (x y : X) (ys : List X) (rest : List X) → NoneBelow y ys → filter (ties lt x) ys ≡ x ∷ rest → lt x y ≡ false
  below_front x y [] rest n e = absurd (cc)
  below_front x y (z ∷ zs) rest n e = here (ties lt x z) e (below_front x y zs rest n.1)
    where
      here : (b : Bool) → cond b (z ∷ filter (ties lt x) zs) (filter (ties lt x) zs) ≡ x ∷ rest → (filter (ties lt x) zs ≡ x ∷ rest → lt x y ≡ false) → lt x y ≡ false
      here true e more = let same : z ≡ x = cc in ap (λ q. lt q y) (sym same) ∙ n.0
      here false e more = more e

  tied_from : (x y : X) → lt x y ≡ false → lt y x ≡ false → ties lt x y ≡ true
  tied_from x y e f = rw (e, f) refl

  one_rising : (xs ys : List X) → Rises xs → Rises ys → ((z : X) → filter (ties lt z) xs ≡ filter (ties lt z) ys) → xs ≡ ys
  one_rising [] [] r q same = refl
  one_rising [] (y ∷ ys) r q same = let e : [] ≡ y ∷ filter (ties lt y) ys = rw (tied_itself y) at (same y) in absurd (cc)
  one_rising (x ∷ xs) [] r q same = let e : x ∷ filter (ties lt x) xs ≡ [] = rw (tied_itself x) at (same x) in absurd (cc)
  one_rising (x ∷ xs) (y ∷ ys) r q same =
      let front : x ≡ y = fronts (ties lt x y) refl in
      let rest : xs ≡ ys = one_rising xs ys r.1 q.1 (λ z. behind (ties lt z x) z refl (same z) front) in
      ap (λ l. x ∷ l) rest ∙ ap (λ z. z ∷ ys) front
    where
      fronts : (b : Bool) → ties lt x y ≡ b → x ≡ y
      fronts true t = let e : x ∷ filter (ties lt x) xs ≡ y ∷ filter (ties lt x) ys = rw (tied_itself x, t) at (same x) in cc
      fronts false t =
          let e : x ∷ filter (ties lt x) xs ≡ filter (ties lt x) ys = rw (tied_itself x, t) at (same x) in
          let x_late : lt x y ≡ false = below_front x y ys _ q.0 (sym e) in
          let back : ties lt y x ≡ false = turned x y t in
          let f : filter (ties lt y) xs ≡ y ∷ filter (ties lt y) ys = rw (tied_itself y, back) at (same y) in
          let y_late : lt y x ≡ false = below_front y x xs _ r.0 f in
          let both : ties lt x y ≡ true = tied_from x y x_late y_late in
          absurd (cc)
        where
          turned : (x y : X) → ties lt x y ≡ false → ties lt y x ≡ false
          turned x y t = swap (lt x y) (lt y x) t
            where
              swap : (a b : Bool) → (not a && not b) ≡ false → (not b && not a) ≡ false
              swap true true e = refl
              swap true false e = refl
              swap false true e = refl
              swap false false e = e

      behind : (b : Bool) (z : X) → ties lt z x ≡ b → filter (ties lt z) (x ∷ xs) ≡ filter (ties lt z) (y ∷ ys) → x ≡ y → filter (ties lt z) xs ≡ filter (ties lt z) ys
      behind true z t e front =
          let u : ties lt z y ≡ true = ap (ties lt z) (sym front) ∙ t in
          let f : x ∷ filter (ties lt z) xs ≡ y ∷ filter (ties lt z) ys = rw (t, u) at e in cc
      behind false z t e front = let u : ties lt z y ≡ false = ap (ties lt z) (sym front) ∙ t in rw (t, u) at e

  pub one_order : (xs ys : List X) → IsSortedBy lt xs → IsSortedBy lt ys → ((z : X) → filter (ties lt z) xs ≡ filter (ties lt z) ys) → xs ≡ ys
  one_order xs ys up rise = one_rising xs ys (rises_from_sorted xs up) (rises_from_sorted ys rise)
