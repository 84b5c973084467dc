-- The cone of a term: the terms that its windows are over and whose values move with the bars. It reads them
-- as they are seen on its own session.
use Rattle.std.specs.Prelude.{◌⊎◌, zero, suc, List, [], ◌∷◌, ◌++◌, filter, filter_map, flat_map, map, max, ◌==◌, if◌then◌else◌, Option, None, option_to_list, ◌≡◌, ℕ, ◌+◌, ◌-◌, Bool, true, false, not, Some, slice_get}
use Rattle.pl_pipeline.specs.Kind.{Kind}
use Rattle.pl_pipeline.specs.Kind.Kind.{Window}
use Rattle.pl_pipeline.specs.Term.{Node, Graph, term_at}
use Rattle.pl_pipeline.specs.Term.Input.{TermInput}
use Rattle.pl_pipeline.specs.Graph.{input_number, mentions_at}
use Rattle.pl_pipeline.specs.Value.{is_steady}

-- the values of a term depend on the session from which they are seen
abbrev pub moves_at : Graph → ℕ → Bool
moves_at g k = not (is_steady (term_at g k))

abbrev pub is_windowed : Kind → Bool
is_windowed (Window k) = true
is_windowed k = false

-- Term u moves, and term t reads its values on sessions up to m before its own, as they are seen on that: it
-- is an input of t's window, or an input of such a term.
pub data Follows (g : Graph) (t : ℕ) : ℕ → ℕ → Type 0 where
  input : {u : ℕ} (n : Node) (i : ℕ) → slice_get g t ≡ Some n → is_windowed n.kind ≡ true
      → slice_get n.inputs i ≡ Some (TermInput u) → moves_at g u ≡ true
      → Follows g t u (n.window - 1)
  through : {u : ℕ} (v m : ℕ) (n : Node) (i : ℕ) → Follows g t v m → slice_get g v ≡ Some n
      → slice_get n.inputs i ≡ Some (TermInput u) → moves_at g u ≡ true
      → Follows g t u (m + (n.window - 1))

-- The border are the terms whose own values the cone reads, on sessions up to m before: inputs that do not
-- move, and masks.
pub data Borders (g : Graph) (t : ℕ) : ℕ → ℕ → Type 0 where
  input : {b : ℕ} (v m : ℕ) (n : Node) (i : ℕ) → Follows g t v m → slice_get g v ≡ Some n
      → slice_get n.inputs i ≡ Some (TermInput b) → moves_at g b ≡ false
      → Borders g t b (m + (n.window - 1))
  mask : {b : ℕ} (v m : ℕ) (n : Node) → Follows g t v m → slice_get g v ≡ Some n
      → n.mask ≡ Some b → Borders g t b m

-- ---- the same, computed

-- the terms among a node's inputs, and its mask
abbrev pub inputs_at : Graph → ℕ → List ℕ
inputs_at g k = inputs_of (slice_get g k)
  where
    inputs_of : Option Node → List ℕ
    inputs_of None = []
    inputs_of (Some n) = filter_map input_number n.inputs

abbrev pub masks_at : Graph → ℕ → List ℕ
masks_at g k = masks_of (slice_get g k)
  where
    masks_of : Option Node → List ℕ
    masks_of None = []
    masks_of (Some n) = option_to_list n.mask

abbrev pub windowed_at : Graph → ℕ → Bool
windowed_at g k = windowed_in (slice_get g k)
  where
    windowed_in : Option Node → Bool
    windowed_in None = false
    windowed_in (Some n) = is_windowed n.kind

-- the inputs that move, and those that do not
abbrev pub moving_inputs : Graph → ℕ → List ℕ
moving_inputs g k = filter (moves_at g) (inputs_at g k)

abbrev pub steady_inputs : Graph → ℕ → List ℕ
steady_inputs g k = filter (λ u. not (moves_at g u)) (inputs_at g k)

-- ---- depths: on how many sessions before its own the values are read

-- the greatest of the marks of a term
abbrev pub larger : ℕ → Option ℕ → ℕ
larger k None = k
larger k (Some m) = max k m

abbrev pub mark : ℕ → List (ℕ × ℕ) → Option ℕ
mark u [] = None
mark u (p ∷ ps) = if p.0 == u then Some (larger p.1 (mark u ps)) else mark u ps

abbrev pub window_at : Graph → ℕ → ℕ
window_at g k = window_of (slice_get g k)
  where
    window_of : Option Node → ℕ
    window_of None = 0
    window_of (Some n) = n.window

-- the inputs of a term that move, where it is itself read on sessions up to m before
abbrev pub marks_of : Graph → ℕ → ℕ → List (ℕ × ℕ)
marks_of g v m = map (λ u. (u, m + (window_at g v - 1))) (moving_inputs g v)

-- the mark as an entry, and what it adds to the marks
abbrev pub entry : ℕ → Option ℕ → List (ℕ × ℕ)
entry n None = []
entry n (Some m) = (n, m) ∷ []

abbrev pub more_marks : Graph → ℕ → Option ℕ → List (ℕ × ℕ)
more_marks g n None = []
more_marks g n (Some m) = marks_of g n m

-- the terms of a cone that are numbered below n, each with its depth, where marks are what those from n on
-- read
abbrev pub depths_below : Graph → ℕ → List (ℕ × ℕ) → List (ℕ × ℕ)
depths_below g zero marks = []
depths_below g (suc n) marks =
    depths_below g n (marks ++ more_marks g n (mark n marks)) ++ entry n (mark n marks)

abbrev pub cone_depths : Graph → ℕ → List (ℕ × ℕ)
cone_depths g t = depths_below g t (if windowed_at g t then marks_of g t 0 else [])

-- term u is among them with depth m
abbrev pub HasDepth : ℕ → ℕ → List (ℕ × ℕ) → Type 0
HasDepth u m [] = ⊥
HasDepth u m (p ∷ ps) = (p ≡ (u, m)) ⊎ HasDepth u m ps

-- ---- lists

-- the terms of the cone of term t, ascending, and those of its border
abbrev pub cone_terms : Graph → ℕ → List ℕ
cone_terms g t = map (λ p. p.0) (cone_depths g t)

abbrev pub border_terms : Graph → ℕ → List ℕ
border_terms g t = flat_map (λ u. steady_inputs g u ++ masks_at g u) (cone_terms g t)

-- what has to be held while term t is computed: what it mentions, and the border of its cone
abbrev pub reads_of : Graph → ℕ → List ℕ
reads_of g t = mentions_at g t ++ border_terms g t
