-- What the inputs, the mask and the group of a node are as cells, over the arrays of the terms that it
-- mentions.
use Rattle.std.specs.Prelude.{◌≡◌, ℕ, ◌<◌, List, [], ℤ, pos, length, All, AllPairs, Option, Some, None, slice_get}
use Rattle.pl_spec.specs.Rounding.{IsCell}
use Rattle.pl_spec.specs.World.{World}
use Rattle.pl_spec.specs.Window.{bar_window}
use Rattle.pl_pipeline.specs.Term.{Input, Node}
use Rattle.pl_pipeline.specs.Term.Input.{BarColumn, TermInput}
use Rattle.pl_pipeline.specs.Table.{Pipeline}
use Rattle.pl_cross.specs.Arrays.{sid_in}
use Rattle.pl_values.specs.Arrays.{cell_of, is_kept, window_up_to, HasAll, Fills, IsKeep}

-- the window of an input: of a bar column the bars before session s as they are seen on it, of a term its
-- cells up to s
abbrev pub input_window : World → Pipeline → List ℕ → ℕ → Option Input → ℕ → ℕ → List ℤ
input_window w p sids size None i s = []
input_window w p sids size (Some (BarColumn c)) i s = bar_window w c size (sid_in sids i) (pos s)
input_window w p sids size (Some (TermInput t)) i s = window_up_to (cell_of w p sids t i) size s

-- The windows of a node's inputs for the asset in place i, in order; what stands after the last input is
-- empty.
pub record AreWindows (w : World) (p : Pipeline) (sids : List ℕ) (n : Node) (i s : ℕ) (a b c : List ℤ) : Type 0 where
  pub first : a ≡ input_window w p sids n.window (slice_get n.inputs 0) i s
  pub second : b ≡ input_window w p sids n.window (slice_get n.inputs 1) i s
  pub third : c ≡ input_window w p sids n.window (slice_get n.inputs 2) i s
  pub first_cells : All IsCell a
  pub second_cells : All IsCell b
  pub third_cells : All IsCell c

-- the row of an input that is a term: entry j is for the asset in place (place j) on session (on j); any
-- other row is of no matter
abbrev pub IsEntryRow : World → Pipeline → List ℕ → (ℕ → ℕ) → (ℕ → ℕ) → ℕ → Option Input → List ℤ → Type 0
IsEntryRow w p sids place on n (Some (TermInput t)) row = Fills (λ j. cell_of w p sids t (place j) (on j)) n row
IsEntryRow w p sids place on n o row = Unit {0}

-- the rows of a node's inputs, in order
pub record AreEntries (w : World) (p : Pipeline) (sids : List ℕ) (n : Node) (place on : ℕ → ℕ) (size : ℕ) (a b c : List ℤ) : Type 0 where
  pub first : IsEntryRow w p sids place on size (slice_get n.inputs 0) a
  pub second : IsEntryRow w p sids place on size (slice_get n.inputs 1) b
  pub third : IsEntryRow w p sids place on size (slice_get n.inputs 2) c

-- the row of an input on session s, an entry for each place
abbrev pub IsInputRow : World → Pipeline → List ℕ → ℕ → Option Input → ℕ → List ℤ → Type 0
IsInputRow w p sids n o s row = IsEntryRow w p sids (λ i. i) (λ i. s) n o row

abbrev pub AreRows : World → Pipeline → List ℕ → Node → ℕ → ℕ → List ℤ → List ℤ → List ℤ → Type 0
AreRows w p sids n s size a b c = AreEntries w p sids n (λ i. i) (λ i. s) size a b c

-- the row of a group, where there is one
abbrev pub IsGroupRow : World → Pipeline → List ℕ → Option ℕ → ℕ → Option (List ℤ) → Type 0
IsGroupRow w p sids None s labels = labels ≡ None
IsGroupRow w p sids (Some t) s None = ⊥
IsGroupRow w p sids (Some t) s (Some labels) = Fills (λ i. cell_of w p sids t i s) (length sids) labels

-- The rows of a cross-section's node on session s: its input, who is kept, and the group. The sids ascend,
-- and have every asset that exists on the session.
pub record AreSectionRows (w : World) (p : Pipeline) (sids : List ℕ) (n : Node) (s : ℕ) (xs ks : List ℤ) (labels : Option (List ℤ)) : Type 0 where
  pub ascend : AllPairs (λ a b. a < b) sids
  pub all : HasAll w sids s
  pub values : IsInputRow w p sids (length sids) (slice_get n.inputs 0) s xs
  pub keep : IsKeep (λ i. is_kept w p sids n.mask i s) (length sids) ks
  pub groups : IsGroupRow w p sids n.group s labels
