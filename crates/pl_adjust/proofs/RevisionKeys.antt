-- The keys of revisions tell their sids, days and columns.
use Rattle.std.proofs.Common.{◌≡◌, ℕ, ◌+◌, ◌-◌, ◌*◌, ◌<◌, ◌^◌, ◌==◌, ◌&&◌, nat_eq, cond, Bool, true, ℤ, pos, ◌+ℤ◌, ◌≤ℤ◌, List, [], ◌∷◌, ◌++◌, get_or, All, FitsSigned, w32, ap, ◌∙◌, arith, eq-eqb, eqb-true}
use Rattle.std.specs.Cmp.{both_ways}
use Rattle.std.specs.List.{list_any}
use Rattle.std.specs.HashSet.{HashSet, contains}
use Rattle.std.specs.Ordering.{int_eq}
use Rattle.std.proofs.lemmas.Int.{ints}
use Rattle.std.proofs.lemmas.List.Elements.{All-push}
use Rattle.pl_spec.specs.declared.Column.{Column}
use Rattle.pl_spec.specs.declared.Column.TheVariants.{OpenPrice, High, Low, Close, Volume}
use Rattle.pl_spec.specs.World.{column_number}
use Rattle.pl_spec.proofs.Signed.{int_eq-true, eq-int_eq, pos-unsigned_abs, from_first, to_last}
use Rattle.pl_records.proofs.Sorts.{AreKeys-more}
use Rattle.pl_lifetimes.proofs.Filters.{any-same}
use Rattle.pl_bars.proofs.BarSets.{same_place}
use Rattle.pl_adjust.specs.declared.revisions.Revision.{Revision}
use Rattle.pl_adjust.specs.RevisionKeys.{AreFound, HasDays, day_at, key_of}
use Rattle.pl_adjust.specs.Revisions.{is_same}

-- ---- the number of a day

pub day_is : (d : ℤ) → FitsSigned w32 d → pos (day_at d) ≡ d +ℤ pos (2 ^ 31)
day_is d h = pos-unsigned_abs (d +ℤ pos (2 ^ 31)) (from_first d h)

pub day_small : (d : ℤ) → FitsSigned w32 d → day_at d < 2 ^ 32
day_small d h = let e : pos (day_at d) ≡ d +ℤ pos (2 ^ 31) = day_is d h in let l : (d +ℤ pos (2 ^ 31)) ≤ℤ pos (2 ^ 32 - 1) = to_last d h in omega (arith, ints)

same_days : (m n : ℕ) (x y : ℤ) → pos m ≡ x +ℤ pos (2 ^ 31) → pos n ≡ y +ℤ pos (2 ^ 31) → (m == n) ≡ int_eq x y
same_days m n x y e f =
    both_ways _ _
    (λ t. let it : m ≡ n = eqb-true m n t in let same : x ≡ y = omega (arith, ints) in eq-int_eq x y same)
    (λ t. let same : x ≡ y = int_eq-true x y t in let it : m ≡ n = omega (arith, ints) in eq-eqb m n it)

days_tell : (x y : ℤ) → FitsSigned w32 x → FitsSigned w32 y → (day_at x == day_at y) ≡ int_eq x y
days_tell x y f g = same_days (day_at x) (day_at y) x y (day_is x f) (day_is y g)

column_small : (c : Column) → column_number c < 2 ^ 32
column_small OpenPrice = omega arith
column_small High = omega arith
column_small Low = omega arith
column_small Close = omega arith
column_small Volume = omega arith

-- ---- keys

pub keys_tell : (x y : Revision) → HasDays x → HasDays y → (key_of y == key_of x) ≡ is_same x y
keys_tell x y f g =
    same_place (2 ^ 32) (cell y) (day_at y.known) (cell x) (day_at x.known) (day_small y.known g.known) (day_small x.known f.known)
    ∙ both (same_place (2 ^ 32) (bar y) (column_number y.column) (bar x) (column_number x.column) (column_small y.column) (column_small x.column)
    ∙ ap (λ b. b && (column_number y.column == column_number x.column))
    (same_place (2 ^ 32) y.sid (day_at y.bar_day) x.sid (day_at x.bar_day) (day_small y.bar_day g.bar_day) (day_small x.bar_day f.bar_day)
    ∙ ap (λ b. y.sid == x.sid && b) (days_tell y.bar_day x.bar_day g.bar_day f.bar_day)))
    (days_tell y.known x.known g.known f.known)
  where
    bar : Revision → ℕ
    bar z = z.sid * 2 ^ 32 + day_at z.bar_day

    cell : Revision → ℕ
    cell z = bar z * 2 ^ 32 + column_number z.column

    both : {a b c d : Bool} → a ≡ b → c ≡ d → (a && c) ≡ (b && d)
    both {a} {b} {c} {d} e f = ap (λ z. z && c) e ∙ ap (λ z. b && z) f

pub found_by_key : (rows : List Revision) (x : Revision) → All HasDays rows → HasDays x → list_any (λ y. key_of y == key_of x) rows ≡ list_any (is_same x) rows
found_by_key rows x all h = any-same (λ y. key_of y == key_of x) (is_same x) rows (λ k d l. keys_tell x (get_or rows k d) h (all k d l))

-- ---- the set of keys

pub found-more : {S : Type 0} (old new : HashSet ℕ S) (rows : List Revision) (x : Revision) (k : ℕ) → k ≡ key_of x → HasDays x → AreFound old rows
    → ((j : ℕ) → contains nat_eq new j ≡ cond (nat_eq k j) true (contains nat_eq old j)) → AreFound new (rows ++ x ∷ [])
found-more old new rows x k same days h e =
    record { each = AreKeys-more key_of old new rows x k same h.each e; days = All-push HasDays rows x h.days days }
