-- Places among bars that stand by column and session, and the cells there.
use Rattle.std.proofs.Common.{◌≡◌, ◌⊎◌, ℕ, suc, ◌+◌, ◌<◌, ◌≤◌, ◌==◌, ◌&&◌, ◌||◌, nat_le, IsTrue, Bool, true, false, ℤ, pos, List, [], ◌∷◌, length, get_or, slice_get, All, Option, Some, None, find, position, option_map, unwrap_or, refl, sym, ◌∙◌, ap, arith, inl, inr, FitsSigned, w64, to_z, of_z}
use Rattle.std.specs.List.Sorted.{IsPartitionedBy}
use Rattle.std.specs.Int.RustNames.{int_le, unsigned_abs}
use Rattle.std.proofs.lemmas.Int.{ints, to_z-of_z}
use Rattle.std.proofs.lemmas.Bool.{cases_lt, and_parts}
use Rattle.std.proofs.lemmas.Bool.Decides.{nat_tests}
use Rattle.std.proofs.lemmas.List.Folds.{find_at}
use Rattle.std.proofs.lemmas.List.Quantifiers.{position-Some}
use Rattle.std.proofs.lemmas.Option.{slice_get-get_or}
use Rattle.std.proofs.lemmas.List.{get_or_default, get_or_past}
use Rattle.pl_spec.specs.Rounding.{MISSING, LIMIT, IsCell, is_missing}
use Rattle.pl_spec.specs.declared.BarRow.{BarRow}
use Rattle.pl_spec.specs.declared.Column.{Column}
use Rattle.pl_spec.specs.declared.Column.TheVariants.{OpenPrice, High, Low, Close, Volume}
use Rattle.pl_spec.proofs.Places.{first_at, is_at as place_is, is_nowhere, nowhere}
use Rattle.pl_spec.specs.World.{column_number}
use Rattle.pl_bars.specs.Bars.{is_at, is_before, is_bar_cell, AreBars, cell_at, cell_of, cells_at}
use Rattle.pl_bars.specs.BarPoint.{BarPoint}

-- ---- the order

pub at_true : (col session : ℕ) (b : BarRow) → b.col ≡ col → b.session ≡ session → is_at col session b ≡ true
at_true col session b e f = grind (arith, nat_tests)

pub at_parts : (col session : ℕ) (b : BarRow) → is_at col session b ≡ true → (b.col ≡ col) × (b.session ≡ session)
at_parts col session b t =
    let p = and_parts (b.col == col) (b.session == session) t in (same _ _ p.0, same _ _ p.1)
  where
    same : (a b : ℕ) → (a == b) ≡ true → a ≡ b
    same a b t = grind (arith, nat_tests)

-- what stands before a place is not at it
before_not_at : (col session : ℕ) (b : BarRow) → is_before col session b ≡ true → is_at col session b ≡ false
before_not_at col session b t = grind (arith, nat_tests)

before_trans : (col session : ℕ) (a b : BarRow) → is_before b.col b.session a ≡ true → is_before col session b ≡ true → is_before col session a ≡ true
before_trans col session a b t u = grind (arith, nat_tests)

-- after a bar that does not stand before a place, none is at it
behind_not_at : (col session : ℕ) (a b : BarRow) → is_before b.col b.session a ≡ true → is_before col session a ≡ false → is_at col session b ≡ false
behind_not_at col session a b t u = grind (arith, nat_tests)

-- ---- the next session's place

next_before : (col session : ℕ) (b : BarRow) → is_before col session b ≡ true → is_before col (session + 1) b ≡ true
next_before col session b t = grind (arith, nat_tests)

next_at : (col session : ℕ) (b : BarRow) → b.col ≡ col → b.session ≡ session → is_before col (session + 1) b ≡ true
next_at col session b e f = grind (arith, nat_tests)

next_behind : (col session : ℕ) (b : BarRow) → is_before col session b ≡ false → is_at col session b ≡ false → is_before col (session + 1) b ≡ false
next_behind col session b t u = grind (arith, nat_tests)

behind_next : (col session : ℕ) (a b : BarRow) → is_before b.col b.session a ≡ true → a.col ≡ col → a.session ≡ session → is_before col (session + 1) b ≡ false
behind_next col session a b t e f = grind (arith, nat_tests)

-- ---- places in a table

pub parted : (col session : ℕ) (rows : List BarRow) → AreBars rows → IsPartitionedBy (is_before col session) rows
parted col session rows up i j d h l t = elim (cases_lt i j) [
  | inl p ↦ before_trans col session (get_or rows i d) (get_or rows j d) (up.ascend i j d p l) t
  | inr p ↦ (let same : i ≡ j = omega arith in ap (λ k. is_before col session (get_or rows k d)) same ∙ t)
]

-- from the point on no bar but the first may be at the place
after_point : (col session : ℕ) (rows : List BarRow) (n k : ℕ) (d : BarRow) → AreBars rows → BarPoint col session rows n → n < k → k < length rows → is_at col session (get_or rows k d) ≡ false
after_point col session rows n k d up point h l =
    behind_not_at col session (get_or rows n d) (get_or rows k d) (up.ascend n k d h l) (point.1 n d (omega arith) (omega arith))

pub bar_found : (col session : ℕ) (rows : List BarRow) (n : ℕ) (d : BarRow) → n < length rows → BarPoint col session rows n
    → (get_or rows n d).col ≡ col → (get_or rows n d).session ≡ session → Some n ≡ position (is_at col session) rows
bar_found col session rows n d h point e f =
    sym (place_is (is_at col session) rows n d h (at_true col session (get_or rows n d) e f)
    (λ k l. before_not_at col session (get_or rows k d) (point.0 k d (omega arith) l)))

pub bar_none : (col session : ℕ) (rows : List BarRow) (n : ℕ) (d : BarRow) → AreBars rows → BarPoint col session rows n
    → (n < length rows → is_at col session (get_or rows n d) ≡ false) → None ≡ position (is_at col session) rows
bar_none col session rows n d up point other =
    sym (is_nowhere (is_at col session) rows d (λ k l. elim (cases_lt k n) [
      | inl lt ↦ before_not_at col session (get_or rows k d) (point.0 k d (omega arith) lt)
      | inr ge ↦ elim (cases_lt n k) [
        | inl gt ↦ after_point col session rows n k d up point gt l
        | inr le ↦ (let same : k ≡ n = omega arith in let inside : n < length rows = omega arith in ap (λ i. is_at col session (get_or rows i d)) same ∙ other inside)
      ]
    ]))

pub not_here : (col session : ℕ) (b : BarRow) → ((b.col ≡ col → ⊥) ⊎ (b.session ≡ session → ⊥)) → is_at col session b ≡ false
not_here col session b h = here (is_at col session b) refl
  where
    split : ((b.col ≡ col → ⊥) ⊎ (b.session ≡ session → ⊥)) → (b.col ≡ col) → (b.session ≡ session) → ⊥
    split (inl f) e g = f e
    split (inr f) e g = f g

    here : (t : Bool) → is_at col session b ≡ t → t ≡ false
    here true t = let p = at_parts col session b t in absurd (split h p.0 p.1)
    here false t = refl

-- the bar at the point is taken
pub point_taken : (col session : ℕ) (rows : List BarRow) (n : ℕ) (d : BarRow) → AreBars rows → n < length rows → BarPoint col session rows n
    → (get_or rows n d).col ≡ col → (get_or rows n d).session ≡ session → BarPoint col (session + 1) rows (n + 1)
point_taken col session rows n d up h point e f = (before, after)
  where
    before : (k : ℕ) (x : BarRow) → 0 ≤ k → k < n + 1 → is_before col (session + 1) (get_or rows k x) ≡ true
    before k x z l = elim (cases_lt k n) [
      | inl lt ↦ next_before col session (get_or rows k x) (point.0 k x z lt)
      | inr ge ↦ (let same : k ≡ n = omega arith in
          let own : get_or rows k x ≡ get_or rows n d = ap (λ i. get_or rows i x) same ∙ get_or_default rows n x d h in
          ap (is_before col (session + 1)) own ∙ next_at col session (get_or rows n d) e f)
    ]

    after : (k : ℕ) (x : BarRow) → n + 1 ≤ k → k < length rows → is_before col (session + 1) (get_or rows k x) ≡ false
    after k x g l =
        let own : get_or rows n x ≡ get_or rows n d = get_or_default rows n x d h in
        behind_next col session (get_or rows n x) (get_or rows k x) (up.ascend n k x (omega arith) l)
        (ap (λ (b : BarRow). b.col) own ∙ e) (ap (λ (b : BarRow). b.session) own ∙ f)

-- no bar is at the point
pub point_passed : (col session : ℕ) (rows : List BarRow) (n : ℕ) (d : BarRow) → AreBars rows → BarPoint col session rows n
    → (n < length rows → is_at col session (get_or rows n d) ≡ false) → BarPoint col (session + 1) rows n
point_passed col session rows n d up point other = (before, after)
  where
    before : (k : ℕ) (x : BarRow) → 0 ≤ k → k < n → is_before col (session + 1) (get_or rows k x) ≡ true
    before k x z l = next_before col session (get_or rows k x) (point.0 k x z l)

    after : (k : ℕ) (x : BarRow) → n ≤ k → k < length rows → is_before col (session + 1) (get_or rows k x) ≡ false
    after k x g l =
        let inside : n < length rows = omega arith in
        elim (cases_lt n k) [
          | inl gt ↦ next_behind col session (get_or rows k x) (point.1 k x g l) (after_point col session rows n k x up point gt l)
          | inr le ↦ (let same : k ≡ n = omega arith in
              let own : get_or rows k x ≡ get_or rows n d = ap (λ i. get_or rows i x) same ∙ get_or_default rows n x d inside in
              next_behind col session (get_or rows k x) (point.1 k x g l) (ap (is_at col session) own ∙ other inside))
        ]

-- ---- cells

find-at : {A : Type 0} (p : A → Bool) (xs : List A) (i : ℕ) (d : A) → position p xs ≡ Some i → find p xs ≡ Some (get_or xs i d)
find-at p xs i d e =
    let q = position-Some p xs i d e in
    find_at p xs ∙ ap (slice_get xs) (first_at p xs i d q.0 q.1 q.2) ∙ slice_get-get_or xs i d q.0

pub find-nothing : {A : Type 0} (p : A → Bool) (xs : List A) → ((k : ℕ) (d : A) → k < length xs → p (get_or xs k d) ≡ false) → find p xs ≡ None
find-nothing p [] f = refl
find-nothing p (x ∷ xs) f = let no_match : p x ≡ false = f 0 x (omega arith) in rw no_match (find-nothing p xs (λ k d l. f (suc k) d (omega arith)))

find-none : {A : Type 0} (p : A → Bool) (xs : List A) → position p xs ≡ None → find p xs ≡ None
find-none p xs e = find-nothing p xs (nowhere p xs e)

pub cell_found : (rows : List BarRow) (col session : ℕ) (column : Column) (n : ℕ) (d : BarRow) → Some n ≡ position (is_at col session) rows → cell_of column (get_or rows n d) ≡ cell_at rows col column session
unfolding cell_at
cell_found rows col session column n d e = sym (ap (λ o. unwrap_or (option_map (cell_of column) o) MISSING) (find-at (is_at col session) rows n d (sym e)))

pub cell_none : (rows : List BarRow) (col session : ℕ) (column : Column) → None ≡ position (is_at col session) rows → MISSING ≡ cell_at rows col column session
unfolding cell_at
cell_none rows col session column e = sym (ap (λ o. unwrap_or (option_map (cell_of column) o) MISSING) (find-none (is_at col session) rows (sym e)))

pub five_cells : (rows : List BarRow) (col session n : ℕ) (d : BarRow) → Some n ≡ position (is_at col session) rows → FitsSigned w64 (get_or (get_or rows n d).cells 0 (pos 0)) → FitsSigned w64 (get_or (get_or rows n d).cells 1 (pos 0)) → FitsSigned w64 (get_or (get_or rows n d).cells 2 (pos 0)) → FitsSigned w64 (get_or (get_or rows n d).cells 3 (pos 0)) → FitsSigned w64 (get_or (get_or rows n d).cells 4 (pos 0))
    → to_z w64 (of_z w64 (get_or (get_or rows n d).cells 0 (pos 0))) ∷ to_z w64 (of_z w64 (get_or (get_or rows n d).cells 1 (pos 0))) ∷ to_z w64 (of_z w64 (get_or (get_or rows n d).cells 2 (pos 0))) ∷ to_z w64 (of_z w64 (get_or (get_or rows n d).cells 3 (pos 0))) ∷ to_z w64 (of_z w64 (get_or (get_or rows n d).cells 4 (pos 0))) ∷ [] ≡ cells_at rows col session
five_cells rows col session n d e a0 a1 a2 a3 a4 =
    ap (λ x. x ∷ to_z w64 (of_z w64 (get_or (get_or rows n d).cells 1 (pos 0))) ∷ to_z w64 (of_z w64 (get_or (get_or rows n d).cells 2 (pos 0))) ∷ to_z w64 (of_z w64 (get_or (get_or rows n d).cells 3 (pos 0))) ∷ to_z w64 (of_z w64 (get_or (get_or rows n d).cells 4 (pos 0))) ∷ []) (to_z-of_z w64 (get_or (get_or rows n d).cells 0 (pos 0)) a0 ∙ cell_found rows col session OpenPrice n d e)
    ∙ ap (λ x. cell_at rows col OpenPrice session ∷ x ∷ to_z w64 (of_z w64 (get_or (get_or rows n d).cells 2 (pos 0))) ∷ to_z w64 (of_z w64 (get_or (get_or rows n d).cells 3 (pos 0))) ∷ to_z w64 (of_z w64 (get_or (get_or rows n d).cells 4 (pos 0))) ∷ []) (to_z-of_z w64 (get_or (get_or rows n d).cells 1 (pos 0)) a1 ∙ cell_found rows col session High n d e)
    ∙ ap (λ x. cell_at rows col OpenPrice session ∷ cell_at rows col High session ∷ x ∷ to_z w64 (of_z w64 (get_or (get_or rows n d).cells 3 (pos 0))) ∷ to_z w64 (of_z w64 (get_or (get_or rows n d).cells 4 (pos 0))) ∷ []) (to_z-of_z w64 (get_or (get_or rows n d).cells 2 (pos 0)) a2 ∙ cell_found rows col session Low n d e)
    ∙ ap (λ x. cell_at rows col OpenPrice session ∷ cell_at rows col High session ∷ cell_at rows col Low session ∷ x ∷ to_z w64 (of_z w64 (get_or (get_or rows n d).cells 4 (pos 0))) ∷ []) (to_z-of_z w64 (get_or (get_or rows n d).cells 3 (pos 0)) a3 ∙ cell_found rows col session Close n d e)
    ∙ ap (λ x. cell_at rows col OpenPrice session ∷ cell_at rows col High session ∷ cell_at rows col Low session ∷ cell_at rows col Close session ∷ x ∷ []) (to_z-of_z w64 (get_or (get_or rows n d).cells 4 (pos 0)) a4 ∙ cell_found rows col session Volume n d e)

pub none_of_five : (rows : List BarRow) (col session : ℕ) → None ≡ position (is_at col session) rows → MISSING ∷ MISSING ∷ MISSING ∷ MISSING ∷ MISSING ∷ [] ≡ cells_at rows col session
none_of_five rows col session e =
    ap (λ x. x ∷ MISSING ∷ MISSING ∷ MISSING ∷ MISSING ∷ []) (cell_none rows col session OpenPrice e)
    ∙ ap (λ x. cell_at rows col OpenPrice session ∷ x ∷ MISSING ∷ MISSING ∷ MISSING ∷ []) (cell_none rows col session High e)
    ∙ ap (λ x. cell_at rows col OpenPrice session ∷ cell_at rows col High session ∷ x ∷ MISSING ∷ MISSING ∷ []) (cell_none rows col session Low e)
    ∙ ap (λ x. cell_at rows col OpenPrice session ∷ cell_at rows col High session ∷ cell_at rows col Low session ∷ x ∷ MISSING ∷ []) (cell_none rows col session Close e)
    ∙ ap (λ x. cell_at rows col OpenPrice session ∷ cell_at rows col High session ∷ cell_at rows col Low session ∷ cell_at rows col Close session ∷ x ∷ []) (cell_none rows col session Volume e)

pub IsCell-bar_cell : (v : ℤ) → is_bar_cell v ≡ true → IsCell v
IsCell-bar_cell v t = here (is_missing v) refl
  where
    value : is_missing v ≡ true → v ≡ MISSING
    value m = grind (arith, ints)

    second : (a b c : Bool) → a ≡ false → (a || (b && c)) ≡ true → c ≡ true
    second true b c e f = absurd (let bad : true ≡ false = e in cc)
    second false true c e f = f
    second false false c e f = absurd (let bad : false ≡ true = f in cc)

    small : nat_le (unsigned_abs v) LIMIT ≡ true → unsigned_abs v ≤ LIMIT
    small u = grind (arith, nat_tests)

    here : (b : Bool) → is_missing v ≡ b → IsCell v
    here true m = inl (value m)
    here false m = inr (small (second (is_missing v) (int_le (pos 0) v) (nat_le (unsigned_abs v) LIMIT) m t))

cell_of-IsCell : (column : Column) (b : BarRow) → All (λ v. IsTrue (is_bar_cell v)) b.cells → IsCell (cell_of column b)
cell_of-IsCell column b all = elim (cases_lt (column_number column) (length b.cells)) [
  | inl lt ↦ IsCell-bar_cell (get_or b.cells (column_number column) (pos 0)) (all (column_number column) (pos 0) lt)
  | inr ge ↦ (let zero_is : get_or b.cells (column_number column) (pos 0) ≡ pos 0 = get_or_past b.cells (column_number column) (pos 0) ge in rw zero_is nought)
]
  where
    nought : IsCell (pos 0)
    nought = inr (omega arith)

pub cell_at-IsCell : (rows : List BarRow) (col : ℕ) (column : Column) (session : ℕ) → AreBars rows → IsCell (cell_at rows col column session)
unfolding cell_at
cell_at-IsCell rows col column session up = here (position (is_at col session) rows) refl
  where
    blank : BarRow
    blank = record { col = 0; session = 0; cells = [] }

    here : (o : Option ℕ) → position (is_at col session) rows ≡ o → IsCell (unwrap_or (option_map (cell_of column) (find (is_at col session) rows)) MISSING)
    here None e = rw (find-none (is_at col session) rows e) (inl refl)
    here (Some n) e =
        let at = position-Some (is_at col session) rows n blank e in
        rw (find-at (is_at col session) rows n blank e) (cell_of-IsCell column (get_or rows n blank) (up.cells n blank at.0))
