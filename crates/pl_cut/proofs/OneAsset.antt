-- Where two worlds tell the same of what a kind reads for an asset, it gives the same.
use Rattle.std.proofs.Common.{◌≡◌, ℕ, ℤ, List, [], refl, sym, ◌∙◌}
use Rattle.pl_spec.specs.World.{World, living_sids, label_at, known_number}
use Rattle.pl_spec.specs.declared.Figure.{Figure}
use Rattle.pl_pipeline.specs.Graph.{reads_at}
use Rattle.pl_pipeline.specs.Kind.{Kind}
use Rattle.pl_pipeline.specs.Kind.Kind.{Window, Point}
use Rattle.pl_pipeline.specs.declared.WindowKind.{WindowKind}
use Rattle.pl_pipeline.specs.Value.{Part, Operands, window_of, kind_value}
use Rattle.pl_pipeline.specs.Value.Part.{Nothing, Bars, Values}
use Rattle.pl_pipeline.proofs.SameOperands.{Alike, SamePart, step_alike}

-- two worlds have the same windows of the inputs
pub record SameWindows (w v : World) (size : ℕ) (o q : Operands) (a : ℕ) (d : ℤ) : Type 0 where
  pub first : window_of w size o.first a d ≡ window_of v size q.first a d
  pub second : window_of w size o.second a d ≡ window_of v size q.second a d
  pub third : window_of w size o.third a d ≡ window_of v size q.third a d

-- for asset a a window and an operation are of that asset alone, and a cross-section of each
abbrev pub Counts : Kind → ℕ → ℕ → Type 0
Counts (Window f) a b = b ≡ a
Counts (Point f) a b = b ≡ a
Counts k a b = Unit {0}

-- Two worlds tell the same of what a kind reads for asset a on session d: its inputs up to the session that it
-- reads them at, its mask and its group on d. Only windows are read over more than a session.
pub record SameForAsset (w v : World) (k : Kind) (size : ℕ) (o q : Operands) (a : ℕ) (d : ℤ) : Type 0 where
  pub labels : (name : List ℕ) → label_at w name a d ≡ label_at v name a d
  pub numbers : (f : Figure) (name : List ℕ) → known_number w f name a d ≡ known_number v f name a d
  pub living : living_sids w d ≡ living_sids v d
  pub reads : reads_at w.days k d ≡ reads_at v.days k d
  pub first : (b : ℕ) → Counts k a b → Alike o.first q.first b (reads_at w.days k d)
  pub second : (b : ℕ) → Counts k a b → Alike o.second q.second b (reads_at w.days k d)
  pub third : (b : ℕ) → Counts k a b → Alike o.third q.third b (reads_at w.days k d)
  pub windows : (f : WindowKind) → k ≡ Window f → SameWindows w v size o q a d
  pub mask : (b : ℕ) → Alike o.mask q.mask b d
  pub group : (b : ℕ) → Alike o.group q.group b d

-- a window of no session is empty
no_window : (w : World) (x : Part) (b : ℕ) (d : ℤ) → window_of w 0 x b d ≡ []
no_window w Nothing b d = refl
no_window w (Bars c view) b d = refl
no_window w (Values f) b d = refl

now_alone : (w v : World) (x y : Part) (d : ℤ) → ((b : ℕ) → Alike x y b d) → SamePart w v 0 x y d
now_alone w v x y d now = record { now = now; window = λ b. no_window w x b d ∙ sym (no_window v y b d) }

module _ (w v : World) (names : List (List ℕ)) (size : ℕ) (o q : Operands) (a : ℕ) (d : ℤ) where
  -- kinds but windows give the same for each size
  pub kind_same : (k : Kind) → SameForAsset w v k size o q a d → kind_value w names k size o a d ≡ kind_value v names k size q a d
  unfolding kind_value
  kind_same (Window f) h = let windows = h.windows f refl in rw (windows.first, windows.second, windows.third) refl
  kind_same (Point f) h = rw ((h.first a refl).value, (h.second a refl).value, (h.third a refl).value) refl
  kind_same k h = step_alike w v names 0 o q a d k (record {
    labels = h.labels;
    numbers = h.numbers;
    living = h.living;
    reads = h.reads;
    first = now_alone w v o.first q.first (reads_at w.days k d) (λ b. h.first b tt);
    second = now_alone w v o.second q.second (reads_at w.days k d) (λ b. h.second b tt);
    third = now_alone w v o.third q.third (reads_at w.days k d) (λ b. h.third b tt);
    mask = h.mask;
    group = h.group;
  })
