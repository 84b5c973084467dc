-- Bars that are kept, with one more, and without the last ones.
use Rattle.std.proofs.Common.{◌≡◌, ℕ, ◌^◌, ◌<◌, ◌≤◌, IsTrue, List, [], ◌∷◌, ◌++◌, length, get_or, All, arith, length-append}
use Rattle.std.proofs.lemmas.List.{get_or_append_left}
use Rattle.std.proofs.lemmas.List.Elements.{All-push}
use Rattle.std.proofs.Math.Seq.{get_or-append_seam}
use Rattle.pl_spec.specs.declared.BarRow.{BarRow}
use Rattle.pl_spec.specs.Limits.{most_bars, most_assets, most_sessions}
use Rattle.pl_bars.specs.Bars.{is_bar_cell}
use Rattle.pl_bars.specs.BarPoint.{IsAfter, Rise}
use Rattle.pl_bars.proofs.BarOrder.{rise_more}
use Rattle.pl_bars.proofs.BarsRead.{ascend-from_keys, keys-from_ascend}
use Rattle.pl_packed.specs.Fit.{AreKept, IsNext, IsSmall}
use Rattle.pl_packed.proofs.BarWords.{cell-fits}

pub kept-none : (cols sessions : ℕ) → AreKept cols sessions []
kept-none cols sessions = record {
  stand = record { ascend = λ i j d h l. absurd (omega arith); few = omega arith; cells = λ k d h. absurd (omega arith) };
  in_cols = λ k d h. absurd (omega arith);
  on_sessions = λ k d h. absurd (omega arith);
  five = λ k d h. absurd (omega arith);
}

low : (sessions : ℕ) (bars : List BarRow) → sessions ≤ most_sessions → All (λ b. b.session < sessions) bars → All (λ b. b.session < 2 ^ 32) bars
low sessions bars few h k d l = let it : (get_or bars k d).session < sessions = h k d l in omega arith

pub kept-more : (cols sessions : ℕ) (bars : List BarRow) (bar : BarRow) → sessions ≤ most_sessions → length bars < most_bars → AreKept cols sessions bars → IsNext cols sessions bars bar
    → AreKept cols sessions (bars ++ bar ∷ [])
kept-more cols sessions bars bar few room h next =
    let on = All-push (λ (b : BarRow). b.session < sessions) bars bar h.on_sessions next.1.session in
    let up : Rise bars = keys-from_ascend bars (low sessions bars few h.on_sessions) h.stand.ascend in
    record {
      stand = record {
        ascend = ascend-from_keys (bars ++ bar ∷ []) (low sessions (bars ++ bar ∷ []) few on) (rise_more bars bar up next.0);
        few = omega (arith, length-append bars (bar ∷ []));
        cells = All-push (λ (b : BarRow). All (λ v. IsTrue (is_bar_cell v)) b.cells) bars bar h.stand.cells next.1.cells;
      };
      in_cols = All-push (λ (b : BarRow). b.col < cols) bars bar h.in_cols next.1.col;
      on_sessions = on;
      five = All-push (λ (b : BarRow). length b.cells ≡ 5) bars bar h.five next.1.five;
    }

-- what holds of all holds of the first ones
front-all : (P : BarRow → Type 0) (a b : List BarRow) → All P (a ++ b) → All P a
front-all P a b h k d l = rw (get_or_append_left a b d k l) at (h k d (omega (arith, length-append a b)))

pub kept-front : (cols sessions : ℕ) (a b : List BarRow) → AreKept cols sessions (a ++ b) → AreKept cols sessions a
kept-front cols sessions a b h = record {
  stand = record {
    ascend = λ i j d lt l.
        let both = h.stand.ascend i j d lt (omega (arith, length-append a b)) in
        rw (get_or_append_left a b d i (omega arith), get_or_append_left a b d j l) at both;
    few = (let few = h.stand.few in omega (arith, few, length-append a b));
    cells = front-all (λ (b : BarRow). All (λ v. IsTrue (is_bar_cell v)) b.cells) a b h.stand.cells;
  };
  in_cols = front-all (λ (b : BarRow). b.col < cols) a b h.in_cols;
  on_sessions = front-all (λ (b : BarRow). b.session < sessions) a b h.on_sessions;
  five = front-all (λ (b : BarRow). length b.cells ≡ 5) a b h.five;
}

-- what holds of all holds of the last one
last-has : (P : BarRow → Type 0) (a : List BarRow) (x : BarRow) → All P (a ++ x ∷ []) → P x
last-has P a x h = rw (get_or-append_seam a x [] x) at (h (length a) x (omega (arith, length-append a (x ∷ []))))

pub kept-last : (cols sessions : ℕ) (bars : List BarRow) (bar : BarRow) → sessions ≤ most_sessions → AreKept cols sessions (bars ++ bar ∷ []) → IsNext cols sessions bars bar
kept-last cols sessions bars bar few h = (
  after,
  record {
    col = last-has (λ (b : BarRow). b.col < cols) bars bar h.in_cols;
    session = last-has (λ (b : BarRow). b.session < sessions) bars bar h.on_sessions;
    cells = last-has (λ (b : BarRow). All (λ v. IsTrue (is_bar_cell v)) b.cells) bars bar h.stand.cells;
    five = last-has (λ (b : BarRow). length b.cells ≡ 5) bars bar h.five;
  },
)
  where
    after : IsAfter bar bars
    after k d e =
        let up = keys-from_ascend (bars ++ bar ∷ []) (low sessions (bars ++ bar ∷ []) few h.on_sessions) h.stand.ascend in
        let both = up k (length bars) d (omega arith) (omega (arith, length-append bars (bar ∷ []))) in
        rw (get_or_append_left bars (bar ∷ []) d k (omega arith), get_or-append_seam bars bar [] d) at both

pub kept-small : (cols sessions : ℕ) (bars : List BarRow) → cols ≤ most_assets → sessions ≤ most_sessions → AreKept cols sessions bars → All IsSmall bars
kept-small cols sessions bars few less h k d l =
    let col : (get_or bars k d).col < cols = h.in_cols k d l in
    let session : (get_or bars k d).session < sessions = h.on_sessions k d l in
    record {
      col = omega arith;
      session = omega arith;
      cells = λ j x m. cell-fits (get_or (get_or bars k d).cells j x) (h.stand.cells k d l j x m);
      five = h.five k d l;
    }
