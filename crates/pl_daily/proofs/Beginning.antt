-- Fresh rings stand for no day.
use Rattle.std.proofs.Common.{◌≡◌, ℕ, ◌<◌, false, nat_lt, ℤ, List, [], ◌∷◌, map, None, replicate, length, ap, sym, refl, ◌∙◌, arith, subst}
use Rattle.std.proofs.lemmas.List.{get_or-replicate, length-replicate}
use Rattle.std.proofs.lemmas.Bool.Decides.{nat_tests}
use Rattle.circular_buffer.specs.Buffer.{buffer}
use Rattle.pl_spec.specs.Rounding.{MISSING}
use Rattle.pl_spec.specs.Window.{downward}
use Rattle.pl_daily.specs.Days.{Start, day_back, day_window}
use Rattle.pl_daily.specs.Rings.{known_days}
use Rattle.pl_spec.specs.declared.Column.{Column}
use Rattle.pl_spec.specs.declared.Column.TheVariants.{OpenPrice, High, Low, Close, Volume}
use Rattle.pl_daily.specs.declared.rings.Rings.{Rings}
use Rattle.pl_daily.specs.Changes.{Ring, AreRings, HoldBars, ring_at}
use Rattle.pl_daily.specs.Columns.{BeginRings}
use Rattle.pl_daily.proofs.Moves.{bar_rings_move}

pub fresh_bars : (assets capacity : ℕ) (rings : List Ring) → rings ≡ replicate assets (buffer (replicate capacity MISSING) capacity) → BeginRings assets capacity rings
fresh_bars assets capacity rings is g c long =
    let ring : Ring = buffer (replicate capacity MISSING) capacity in
    record {
      count = ap length is ∙ length-replicate assets ring ∙ sym long;
      each = λ i h.
          let inside : i < assets = omega (arith, h, long) in
          ap (λ l. ring_at l i) is ∙ get_or-replicate assets i ring (buffer [] 0) inside ∙ ap (λ l. buffer l capacity) (sym (bar_rings_move.begins g c capacity i));
    }

none_known : (xs : List ℤ) → known_days 0 xs ≡ map (day_back []) (downward (length xs))
none_known [] = refl
none_known (x ∷ xs) = let t : nat_lt (length xs) 0 ≡ false = grind (arith, nat_tests) in rw t (ap (λ l. None ∷ l) (none_known xs))

pub none_fed : (xs : List ℤ) (n : ℕ) → length xs ≡ n → known_days 0 xs ≡ day_window [] n
none_fed xs n e = none_known xs ∙ ap (day_window []) e

-- for each column
pub by_column : (P : Column → Type 0) → P OpenPrice → P High → P Low → P Close → P Volume → (c : Column) → P c
by_column P a b c d e OpenPrice = a
by_column P a b c d e High = b
by_column P a b c d e Low = c
by_column P a b c d e Close = d
by_column P a b c d e Volume = e

pub rings_begin : (g : Start) (c : Column) (assets capacity : ℕ) (r : Rings) → r.capacity ≡ capacity → BeginRings assets capacity r.rings.items → length g.assets ≡ assets → HoldBars g [] c r.capacity r.rings.items
rings_begin g c assets capacity r e begins long = subst (λ n. HoldBars g [] c n r.rings.items) (sym e) (begins g c long)

pub rings_are : (assets capacity : ℕ) (r : Rings) → r.capacity ≡ capacity → AreRings assets capacity r.rings.items → AreRings assets r.capacity r.rings.items
rings_are assets capacity r e are = subst (λ n. AreRings assets n r.rings.items) (sym e) are
