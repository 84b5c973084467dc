-- The rows of the sectors.
use Rattle.std.proofs.Common.{◌≡◌, ℕ, ◌+◌, ◌<◌, Bool, true, false, ◌==◌, ◌&&◌, ℤ, [], ◌∷◌, map, refl, arith}
use Rattle.std.specs.Prelude.{codes, bytes_eq}
use Rattle.std.specs.Ordering.{int_eq}
use Rattle.std.specs.List.{range_with_len, All}
use Rattle.std.proofs.lemmas.Bool.Decides.{nat_tests}
use Rattle.std.proofs.lemmas.List.Elements.{All-map}
use Rattle.std.proofs.lemmas.List.FromFn.{length-map-range_with_len}
use Rattle.std.proofs.lemmas.List.Folds.{list_any_none}
use Rattle.pl_spec.specs.Parts.{ColumnLabel}
use Rattle.pl_assets.specs.Labels.{MayFollow, is_from, is_printable, label_row, no_labels, table_of, first_seen}
use Rattle.pl_bench.specs.Draws.{behind, drawn}
use Rattle.pl_bench.specs.StatedWorld.{first_day, sector, sectors_from, stated_assets}
use Rattle.pl_bench.proofs.Assets.{col_of-sid}
use Rattle.pl_bench.proofs.Grids.{within}
use Rattle.pl_bench.proofs.Sequences.{number-below}

pub none-yet : no_labels ≡ table_of []
unfolding first_seen
none-yet = refl

pub sectors-all : (state : ℕ) → map (sector state) (range_with_len 0 400) ≡ sectors_from state
unfolding sectors_from
sectors-all state = refl

pub sector-row : (state col digit : ℕ) (start : ℤ) → col < 400 → start ≡ first_day → digit ≡ drawn state col 10
    → label_row stated_assets (codes "sector") (col + 1) start (83 ∷ (48 + digit) ∷ []) ≡ sector state col
sector-row state col digit start h s d = rw (s, d, col_of-sid col h) refl

printable : (digit : ℕ) → digit < 10 → is_printable (83 ∷ (48 + digit) ∷ []) ≡ true
printable digit h = grind (arith, nat_tests)

other : (b c : Bool) (i j : ℕ) → i < j → (b && ((i == j) && c)) ≡ false
other b c i j h = grind (arith, nat_tests)

pub sector-follows : (state col : ℕ) → col < 400 → MayFollow (map (sector state) (range_with_len 0 col)) (sector state col)
sector-follows state col h =
    record {
      row = record {
        name = refl;
        printable = printable (drawn state col 10) (number-below (behind state (col + 1)) 10 (omega arith));
        short = omega arith;
      };
      own_start = list_any_none (is_from (codes "sector") col first_day) (map (sector state) (range_with_len 0 col))
          (All-map (λ (q : ColumnLabel). is_from (codes "sector") col first_day q ≡ false) (sector state) (range_with_len 0 col)
          (within (λ k. is_from (codes "sector") col first_day (sector state k) ≡ false) 0 col
          (λ k a b. other (bytes_eq (codes "sector") (codes "sector")) (int_eq first_day first_day) k col (omega arith))));
      room = omega (arith, length-map-range_with_len (sector state) 0 col);
    }

pub labels-in : (state : ℕ) → All (λ r. r.col < 400) (sectors_from state)
unfolding sectors_from
labels-in state =
    All-map (λ (r : ColumnLabel). r.col < 400) (sector state) (range_with_len 0 400) (within (λ k. k < 400) 0 400 (λ k a b. omega arith))
