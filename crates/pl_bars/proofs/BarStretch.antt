-- Bars of one column on sessions that follow on each other.
use Rattle.std.proofs.Common.{◌≡◌, ℕ, zero, suc, ◌+◌, ◌-◌, ◌<◌, ◌≤◌, true, false, List, length, get_or, sym, ◌∙◌, ap, subst, arith, inl, inr, ℤ, pos}
use Rattle.std.proofs.Math.ListN.{set}
use Rattle.std.proofs.lemmas.List.{get_or-set_same, get_or-set_other, get_or_default}
use Rattle.std.proofs.lemmas.Bool.{cases_lt}
use Rattle.std.proofs.lemmas.Bool.Decides.{nat_tests}
use Rattle.pl_spec.specs.declared.BarRow.{BarRow}
use Rattle.pl_spec.specs.declared.Column.{Column}
use Rattle.pl_bars.specs.Bars.{is_at, is_before, AreBars, cell_at, cell_of}
use Rattle.pl_bars.specs.BarPoint.{BarPoint, IsStretch}
use Rattle.pl_bars.proofs.BarSearch.{bar_found, cell_found, at_parts, at_true}
use Rattle.pl_bars.proofs.BarOnward.{here_is_point}

-- ---- two bars in order

col_rises : (a b : BarRow) → is_before b.col b.session a ≡ true → a.col ≤ b.col
col_rises a b t = grind (arith, nat_tests)

session_rises : (a b : BarRow) → is_before b.col b.session a ≡ true → a.col ≡ b.col → a.session < b.session
session_rises a b t e = grind (arith, nat_tests)

col_after : (col session : ℕ) (b : BarRow) → is_before col session b ≡ false → col ≤ b.col
col_after col session b t = grind (arith, nat_tests)

session_after : (col session : ℕ) (b : BarRow) → is_before col session b ≡ false → b.col ≡ col → session ≤ b.session
session_after col session b t e = grind (arith, nat_tests)

-- ---- a bar later there is a session later at least

module _ (col : ℕ) (rows : List BarRow) (up : AreBars rows) (d : BarRow) where
  low_col : (x y : ℕ) → x ≤ y → y < length rows → (get_or rows x d).col ≤ (get_or rows y d).col
  low_col x y m within = elim (cases_lt x y) [
    | inl lt ↦ col_rises (get_or rows x d) (get_or rows y d) (up.ascend x y d lt within)
    | inr ge ↦ (let same : x ≡ y = omega arith in let own : (get_or rows x d).col ≡ (get_or rows y d).col = ap (λ i. (get_or rows i d).col) same in omega arith)
  ]

  cols_between : (i j k : ℕ) → i ≤ j → j ≤ k → k < length rows → (get_or rows i d).col ≡ col → (get_or rows k d).col ≡ col → (get_or rows j d).col ≡ col
  cols_between i j k h l inside a b = omega (arith, low_col i j h (omega arith), low_col j k l inside)

  sessions_apart : (i n : ℕ) → i + n < length rows → (get_or rows i d).col ≡ col → (get_or rows (i + n) d).col ≡ col
      → (get_or rows i d).session + n ≤ (get_or rows (i + n) d).session
  sessions_apart i zero inside a b =
      let same : i + 0 ≡ i = omega arith in
      let own : (get_or rows (i + 0) d).session ≡ (get_or rows i d).session = ap (λ x. (get_or rows x d).session) same in omega arith
  sessions_apart i (suc n) inside a b =
      let own : (get_or rows (i + n) d).col ≡ col = cols_between i (i + n) (i + suc n) (omega arith) (omega arith) inside a b in
      let more = sessions_apart i n (omega arith) a own in
      let next = session_rises (get_or rows (i + n) d) (get_or rows (i + suc n) d) (up.ascend (i + n) (i + suc n) d (omega arith) inside) (own ∙ sym b) in
      omega (arith, more, next)

  -- where the last of so many bars from a point on is that of the last session, each is that of its own
  stretch_at : (first n m : ℕ) → BarPoint col first rows n → n + m < length rows → is_at col (first + m) (get_or rows (n + m) d) ≡ true
      → (k : ℕ) → k ≤ m → is_at col (first + k) (get_or rows (n + k) d) ≡ true
  stretch_at first n m point inside last k h =
      let top = at_parts col (first + m) (get_or rows (n + m) d) last in
      let after : is_before col first (get_or rows n d) ≡ false = point.1 n d (omega arith) (omega arith) in
      let over = low_col n (n + m) (omega arith) inside in
      let start : (get_or rows n d).col ≡ col = (let from = col_after col first (get_or rows n d) after in omega (arith, from, over, top.0)) in
      let low = session_after col first (get_or rows n d) after start in
      let rest : (n + k) + (m - k) ≡ n + m = omega arith in
      let own = cols_between n (n + k) (n + m) (omega arith) (omega arith) inside start top.0 in
      let up_to = sessions_apart n k (omega arith) start own in
      let from_it : (get_or rows (n + k) d).session + (m - k) ≤ (get_or rows (n + m) d).session =
      subst (λ i. (get_or rows (n + k) d).session + (m - k) ≤ (get_or rows i d).session) rest
      (sessions_apart (n + k) (m - k) (omega arith) own (ap (λ i. (get_or rows i d).col) rest ∙ top.0)) in
      let exact : (get_or rows (n + k) d).session ≡ first + k = omega (arith, low, up_to, from_it, top.1) in
      at_true col (first + k) (get_or rows (n + k) d) own exact

pub stretch_by_last : (col first : ℕ) (rows : List BarRow) (n m : ℕ) (d : BarRow) → AreBars rows → BarPoint col first rows n → n + m < length rows
    → is_at col (first + m) (get_or rows (n + m) d) ≡ true → IsStretch col first rows n (m + 1)
stretch_by_last col first rows n m d up point inside last = record {
  within = omega arith;
  each = λ k x h. stretch_at col rows up x first n m point inside (ap (is_at col (first + m)) (get_or_default rows (n + m) x d inside) ∙ last) k (omega arith);
}

-- ---- the cells of a stretch

pub stretch_cell : (col first : ℕ) (rows : List BarRow) (n count : ℕ) (column : Column) (k : ℕ) (d : BarRow) → AreBars rows → IsStretch col first rows n count → k < count
    → cell_of column (get_or rows (n + k) d) ≡ cell_at rows col column (first + k)
stretch_cell col first rows n count column k d up stretch h =
    let within = stretch.within in
    let inside : n + k < length rows = omega arith in
    let here = stretch.each k d h in
    let parts = at_parts col (first + k) (get_or rows (n + k) d) here in
    cell_found rows col (first + k) column (n + k) d (bar_found col (first + k) rows (n + k) d inside (here_is_point col (first + k) rows (n + k) d up inside here) parts.0 parts.1)

-- what holds of each cell written before, and of the one that is written, holds of all so far
pub written_each : (Q : ℕ → ℤ → Type 0) (xs : List ℤ) (k : ℕ) (v : ℤ) → k < length xs → ((j : ℕ) → j < k → Q j (get_or xs j (pos 0))) → Q k v
    → (j : ℕ) → j < k + 1 → Q j (get_or (set xs k v) j (pos 0))
written_each Q xs k v inside old new j h = elim (cases_lt j k) [
  | inl lt ↦ subst (Q j) (sym (get_or-set_other xs k j v (pos 0) (λ e. omega arith))) (old j lt)
  | inr ge ↦
      let same : k ≡ j = omega arith in
      subst (λ i. Q i (get_or (set xs k v) i (pos 0))) same (subst (Q k) (sym (get_or-set_same xs k v (pos 0) inside)) new)
]
