-- The rows of the adjustments.
use Rattle.std.proofs.Common.{◌≡◌, ℕ, ◌+◌, ◌-◌, ◌*◌, ◌≤◌, ℤ, pos, negsuc, ◌*ℤ◌, List, [], ◌∷◌, ◌++◌, length, map, get_or, refl, sym, ap, subst, ◌∙◌, arith, length-append, FitsSigned, w64}
use Rattle.std.specs.Prelude.{slice_get, Some, Result, Ok, Err, IfSome}
use Rattle.std.specs.List.{range_with_len, All}
use Rattle.std.proofs.lemmas.Int.{ints, fits_signed_mul}
use Rattle.std.proofs.lemmas.List.{length-map}
use Rattle.std.proofs.lemmas.List.Elements.{All-map, All-append}
use Rattle.std.proofs.lemmas.List.FromFn.{length-map-range_with_len}
use Rattle.std.proofs.lemmas.Option.{get_or_from_slice_get, slice_get_within}
use Rattle.jiff_core.proofs.SignedLemmas.{unsigned_abs-parts}
use Rattle.pl_outside.specs.declared.keeper.Table.{Table}
use Rattle.pl_outside.specs.declared.keeper.Table.TheVariants.{Splits, Mergers, Dividends}
use Rattle.pl_bench.proofs.Grids.{map-more, within}
use Rattle.pl_spec.specs.declared.AssetRow.{AssetRow}
use Rattle.pl_spec.specs.declared.RawAdjust.{RawAdjust}
use Rattle.pl_spec.specs.Dates.{IsDay}
use Rattle.pl_spec.specs.Parts.{ColumnAdjustment}
use Rattle.pl_adjust.specs.declared.error.AdjustError.{AdjustError}
use Rattle.pl_adjust.specs.declared.error.AdjustError.TheVariants.{Memory}
use Rattle.pl_adjust.specs.Columns.{by_place}
use Rattle.pl_adjust.specs.Faults.{fault_of}
use Rattle.pl_adjust.specs.Rules.{AreRight, IsEffective, HasRatio}
use Rattle.pl_adjust.specs.Tables.{of_walk}
use Rattle.pl_adjust.specs.Walk.{Fault, TableRow, walk, in_table}
use Rattle.pl_bench.specs.Draws.{behind, drawn}
use Rattle.pl_bench.specs.StatedWorld.{adjust, split, merger, dividend, in_turn, turn, stated_days, stated_assets, adjustments_from}
use Rattle.pl_bench.proofs.Days.{are_days, length-stated_days}
use Rattle.pl_bench.proofs.Sequences.{number-below}

-- ---- tables of right rows

pub memory-alone : (e : AdjustError) (r : Result (List ColumnAdjustment) Fault) (xs : List ColumnAdjustment) → r ≡ Ok xs → IfSome (fault_of e) (λ f. r ≡ Err f) → e ≡ Memory
memory-alone Memory r xs o f = refl
memory-alone e r xs o f = absurd (cc)

-- ---- the rows

pub effective-day : (day : ℤ) → IsDay day → IsEffective (day *ℤ pos 86400)
effective-day (pos n) h = record { from = omega (arith, ints, h.last); before = omega (arith, ints, h.last) }
effective-day (negsuc n) h = record { from = omega (arith, ints, h.first); before = omega (arith, ints, h.first) }

pub day-fits : (day : ℤ) → IsDay day → FitsSigned w64 (day *ℤ pos 86400)
day-fits day h = fits_signed_mul w64 day (pos 86400) 84005 86400 (omega (arith, ints, unsigned_abs-parts day, h.first, h.last)) (omega arith) (omega arith)

pub day-there : (n : ℕ) → n ≤ 599 → IsDay (get_or stated_days n (pos 0))
day-there n h = are_days.dates n (pos 0) (omega (arith, length-stated_days))

pub adjust-made : (s n m : ℕ) (id num den day : ℤ) (days : List ℤ) → days ≡ stated_days → n ≡ drawn s 0 400 → m ≡ drawn s 1 599 → slice_get days (1 + m) ≡ Some day
    → record { id = id; effective = day *ℤ pos 86400; num = num; den = den; sid = pos (1 + n) } ≡ adjust s id num den
adjust-made s n m id num den day days same sid session at =
    let there = get_or_from_slice_get stated_days (1 + m) day (pos 0) (rw same at at) in
    rw (sid, ← there, session) refl

pub rows-more : (f : ℕ → RawAdjust) (k : ℕ) (old new : List RawAdjust) (r : RawAdjust) → old ≡ map f (range_with_len 0 k) → r ≡ f k → new ≡ old ++ r ∷ [] → new ≡ map f (range_with_len 0 (k + 1))
rows-more f k old new r was is e =
    e ∙ ap (λ (xs : List RawAdjust). xs ++ r ∷ []) was ∙ ap (λ (x : RawAdjust). map f (range_with_len 0 k) ++ x ∷ []) is ∙ sym (map-more f k)

-- ---- they are right

record IsSound (r : RawAdjust) : Type 0 where
  pub effective : IsEffective r.effective
  pub ratio : HasRatio r

adjust-sound : (s num den : ℕ) (id : ℤ) → 1 ≤ num → num ≤ 1000 → 1 ≤ den → den ≤ 1000 → IsSound (adjust s id (pos num) (pos den))
adjust-sound s num den id a b x y =
    let few = number-below (behind s (1 + 1)) 599 (omega arith) in
    record {
      effective = effective-day (get_or stated_days (1 + drawn s 1 599) (pos 0)) (day-there (1 + drawn s 1 599) (omega arith));
      ratio = record { num = (omega (arith, ints), omega (arith, ints)); den = (omega (arith, ints), omega (arith, ints)) };
    }

all-sound : (table : Table) (f : ℕ → RawAdjust) → ((k : ℕ) → IsSound (f k)) → All (λ r. IsSound r.row) (in_table table (in_turn f))
all-sound table f each =
    All-map (λ (r : TableRow). IsSound r.row) (λ (r : RawAdjust). record { table = table; row = r }) (in_turn f)
    (All-map IsSound f (range_with_len 0 100) (within (λ k. IsSound (f k)) 0 100 (λ k a b. each k)))

length-turn : (table : Table) (f : ℕ → RawAdjust) → length (in_table table (in_turn f)) ≡ 100
length-turn table f = length-map {B = TableRow} (in_turn f) (λ r. record { table = table; row = r }) ∙ length-map-range_with_len f 0 100

pub are_right : (s : ℕ) → AreRight (walk (in_turn (split s)) (in_turn (merger s)) (in_turn (dividend s)))
are_right s k r at =
    let a = in_table Splits (in_turn (split s)) in
    let b = in_table Mergers (in_turn (merger s)) in
    let d = in_table Dividends (in_turn (dividend s)) in
    let sound : All (λ (r : TableRow). IsSound r.row) (a ++ (b ++ d)) =
    All-append (λ (r : TableRow). IsSound r.row) a (b ++ d) (all-sound Splits (split s) (λ k. adjust-sound (turn s k) 1 2 (pos (3 * k)) (omega arith) (omega arith) (omega arith) (omega arith)))
    (All-append (λ (r : TableRow). IsSound r.row) b d (all-sound Mergers (merger s) (λ k. adjust-sound (behind (turn s k) 2) 9 10 (pos (3 * k + 1)) (omega arith) (omega arith) (omega arith) (omega arith)))
    (all-sound Dividends (dividend s) (λ k. adjust-sound (behind (turn s k) 4) (1000 - drawn (behind (turn s k) 4) 2 30) 1000 (pos (3 * k + 2))
    (let few = number-below (behind (behind (turn s k) 4) (2 + 1)) 30 (omega arith) in omega arith) (omega arith) (omega arith) (omega arith)))) in
    let inside = slice_get_within (a ++ (b ++ d)) k r at in
    let there = get_or_from_slice_get (a ++ (b ++ d)) k r r at in
    let count : length (a ++ (b ++ d)) ≡ 300 = omega (arith, length-append a (b ++ d), length-append b d, length-turn Splits (split s), length-turn Mergers (merger s), length-turn Dividends (dividend s)) in
    let here = subst (λ (x : TableRow). IsSound x.row) there (sound k r inside) in
    record { room = omega (arith, inside, count); effective = here.effective; ratio = here.ratio }

pub dividend-made : (s n : ℕ) (id : ℤ) (row : RawAdjust) → n ≡ drawn s 2 30 → row ≡ adjust s id (pos 1000) (pos 1000)
    → record { id = row.id; effective = row.effective; num = pos (1000 - n); den = row.den; sid = row.sid } ≡ adjust s id (pos (1000 - drawn s 2 30)) (pos 1000)
dividend-made s n id row e is = rw (is, e) refl

-- the row of a call
pub adjust-at : (s t id : ℕ) (z num den : ℤ) (r : RawAdjust) → r ≡ adjust t z num den → t ≡ s → z ≡ pos id → r ≡ adjust s (pos id) num den
adjust-at s t id z num den r e at is = e ∙ ap (λ (x : ℕ). adjust x z num den) at ∙ ap (λ (x : ℤ). adjust s x num den) is

pub dividend-at : (s t id : ℕ) (z : ℤ) (r : RawAdjust) → r ≡ adjust t z (pos (1000 - drawn t 2 30)) (pos 1000) → t ≡ s → z ≡ pos id → r ≡ adjust s (pos id) (pos (1000 - drawn s 2 30)) (pos 1000)
dividend-at s t id z r e at is = e ∙ ap (λ (x : ℕ). adjust x z (pos (1000 - drawn x 2 30)) (pos 1000)) at ∙ ap (λ (x : ℤ). adjust s x (pos (1000 - drawn s 2 30)) (pos 1000)) is

pub adjustments-are : (s : ℕ) (a b d : List RawAdjust) (xs : List ColumnAdjustment) (assets : List AssetRow) → a ≡ in_turn (split s) → b ≡ in_turn (merger s) → d ≡ in_turn (dividend s)
    → assets ≡ stated_assets → xs ≡ by_place (of_walk assets a b d) → xs ≡ adjustments_from s
unfolding adjustments_from
adjustments-are s a b d xs assets e f g h is = is ∙ rw (e, f, g, h) refl

pub right-over : (s : ℕ) (a b d : List RawAdjust) → a ≡ in_turn (split s) → b ≡ in_turn (merger s) → d ≡ in_turn (dividend s) → AreRight (walk a b d)
right-over s a b d e f g =
    subst (λ (x : List RawAdjust). AreRight (walk x b d)) (sym e)
    (subst (λ (x : List RawAdjust). AreRight (walk (in_turn (split s)) x d)) (sym f)
    (subst (λ (x : List RawAdjust). AreRight (walk (in_turn (split s)) (in_turn (merger s)) x)) (sym g) (are_right s)))
