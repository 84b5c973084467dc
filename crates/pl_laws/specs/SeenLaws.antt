-- The laws of values as they are seen from somewhere.
use Rattle.std.specs.Prelude.{◌≡◌, ℕ, ◌<◌, ◌≤◌, Bool, true, false, ◌&&◌, not, ℤ, ◌≤ℤ◌, ◌<ℤ◌, List, [], Some, filter, slice_get}
use Rattle.pl_spec.specs.declared.Column.{Column}
use Rattle.pl_spec.specs.World.{World, IsWorld, bar_cell, day_of, events_of, exists, known_number}
use Rattle.pl_spec.specs.Window.{is_between, seen_cell, before, bar_window}
use Rattle.pl_spec.specs.Agree.{Agree}
use Rattle.pl_spec.specs.declared.Figure.{Figure}
use Rattle.pl_pipeline.specs.Kind as kind
use Rattle.pl_pipeline.specs.Kind.Kind.{Constant, Window, Point}
use Rattle.pl_pipeline.specs.Term.{Term, Node, Graph, IsGraph, term_at}
use Rattle.pl_pipeline.specs.Term.Term.{absent, column, node}
use Rattle.pl_pipeline.specs.Cones.{Follows, Borders, cone_terms, border_terms, reads_of, cone_depths, HasDepth}
use Rattle.pl_pipeline.specs.Graph.{contains, mentions_at, reach}
use Rattle.pl_pipeline.specs.Lows.{Needs}
use Rattle.pl_pipeline.specs.NodeValue.{node_seen, AllReadSteady}
use Rattle.pl_pipeline.specs.Reaching.{HasWindows}
use Rattle.pl_pipeline.specs.Value.{View, From, seen_from, keeps_window, keeps_point, window_of, seen, value, is_steady}
use Rattle.pl_pipeline.specs.Value.Part.{Values}
use Rattle.pl_pipeline.specs.declared.WindowKind.TheVariants.{Latest}

-- later data changes nothing that is seen from a session up to d
abbrev pub SeenAgree : Type 0
SeenAgree = (w v : World) (d day : ℤ) → IsWorld w → IsWorld v → Agree w v d day
    → (names : List (List ℕ)) (t : Term) (view : View) (a : ℕ) (s : ℤ)
    → s ≤ℤ seen_from view s → seen_from view s ≤ℤ d
    → seen w names t view a s ≡ seen v names t view a s

-- the equation by which a program computes term after term, as they are seen
abbrev pub NodesAreSeen : Type 0
NodesAreSeen = (w : World) (names : List (List ℕ)) (g : Graph) (k : ℕ) (n : Node)
    → IsGraph g → slice_get g k ≡ Some n
    → (view : View) (a : ℕ) (d : ℤ)
    → seen w names (term_at g k) view a d ≡ node_seen w names g n view a d

-- on its own session a term is seen as it is
abbrev pub SeenFromItself : Type 0
SeenFromItself = (w : World) (names : List (List ℕ)) (t : Term) (a : ℕ) (d : ℤ)
    → seen w names t (From d) a d ≡ value w names t a d

-- a term that keeps its values, or is of such terms alone, is the same from wherever it is seen
abbrev pub SteadyTermsStay : Type 0
SteadyTermsStay = (w : World) (names : List (List ℕ)) (t : Term) → is_steady t ≡ true
    → (view : View) (a : ℕ) (d : ℤ) → seen w names t view a d ≡ value w names t a d

-- ---- while the bars of an asset stand still

-- the bars of asset a from session low on and before u are seen on v as on u
abbrev pub IsStillBetween : World → ℕ → ℤ → ℤ → ℤ → Type 0
IsStillBetween w a low u v = (c : Column) (s : ℤ) → low ≤ℤ s → s <ℤ u
    → seen_cell w a c s u ≡ seen_cell w a c s v

-- Then so are the values of its terms, whatever adjustments other assets have. So on sessions without
-- adjustments of an asset nothing of it is computed anew.
abbrev pub StillAssetsStay : Type 0
StillAssetsStay = (w : World) (names : List (List ℕ)) (a : ℕ) (low u v : ℤ)
    → u ≤ℤ v → IsStillBetween w a low u v
    → (t : Term) → HasWindows t → (s : ℤ) → s ≤ℤ u → low ≤ℤ reach w.days t s
    → seen w names t (From u) a s ≡ seen w names t (From v) a s

-- On a stretch from d to s what is seen from s of an earlier session is what is seen of it from d, and what
-- is seen from s of a session of the stretch is the term's value there.
pub record IsOnStretch (w : World) (names : List (List ℕ)) (a : ℕ) (low d s : ℤ) (t : Term) : Type 0 where
  pub earlier : (r : ℤ) → r ≤ℤ d → low ≤ℤ reach w.days t r
      → seen w names t (From s) a r ≡ seen w names t (From d) a r
  pub within : (r : ℤ) → d ≤ℤ r → r ≤ℤ s → low ≤ℤ reach w.days t r
      → seen w names t (From s) a r ≡ value w names t a r

-- a stretch: the bars before each of its sessions are seen on that session as on its last
abbrev pub StretchesHold : Type 0
StretchesHold = (w : World) (names : List (List ℕ)) (a : ℕ) (low d s : ℤ) → d ≤ℤ s
    → ((r : ℤ) → d ≤ℤ r → r ≤ℤ s → IsStillBetween w a low r s)
    → (t : Term) → HasWindows t → IsOnStretch w names a low d s t

-- bars stand still where no adjustment of the asset becomes effective from one session to the other
abbrev pub QuietAssetsAreStill : Type 0
QuietAssetsAreStill = (w : World) → IsWorld w → (a : ℕ) (u v x y : ℤ)
    → u ≤ℤ v → day_of w u ≡ Some x → day_of w v ≡ Some y
    → filter (is_between x y) (events_of w a) ≡ [] → (low : ℤ) → IsStillBetween w a low u v

-- ---- what is seen is what would have been

-- the latest cell of a bar column, as a term
abbrev pub latest : Column → Term
latest c = node (Window Latest) 1 (column c) absent absent absent absent

-- a window over the latest cells of a column is the window over the column, while the asset exists
abbrev pub LatestIsTheColumn : Type 0
LatestIsTheColumn = (w : World) (names : List (List ℕ)) (c : Column) (size a : ℕ) (d : ℤ)
    → ((n : ℕ) → n < size → exists w a (before d n) ≡ true)
    → window_of w size (Values (seen w names (latest c) (From d))) a d ≡ bar_window w c size a d

-- formulas that give prices or volumes and operations that give numbers, without masks, over one another,
-- bars, constants and numbers beside bars
abbrev pub moves_throughout : Term → Bool
moves_throughout absent = true
moves_throughout (column c) = true
moves_throughout (node (Constant cell) size x y z absent absent) = true
moves_throughout (node (kind.Number f n) size x y z absent absent) = true
moves_throughout (node (Window k) size x y z absent absent) =
    not (keeps_window k) && moves_throughout x && moves_throughout y && moves_throughout z
moves_throughout (node (Point k) size x y z absent absent) =
    not (keeps_point k) && moves_throughout x && moves_throughout y && moves_throughout z
moves_throughout t = false

-- The world u is w as it is seen on session v: its bars are those that are seen on v, and it has no
-- adjustments.
pub record IsSeenOn (w : World) (v : ℤ) (u : World) : Type 0 where
  pub lifetimes : (a : ℕ) (s : ℤ) → exists u a s ≡ exists w a s
  pub numbers : (f : Figure) (name : List ℕ) (a : ℕ) (s : ℤ) → known_number u f name a s ≡ known_number w f name a s
  pub bars : (a : ℕ) (c : Column) (s : ℤ) → s <ℤ v → bar_cell u a c s ≡ seen_cell w a c s v
  pub events : (a : ℕ) → events_of u a ≡ []

-- what is seen from v is what the term would have been on its session, had the bars been as they are seen on v
abbrev pub SeenIsAsIf : Type 0
SeenIsAsIf = (w u : World) (v : ℤ) → IsSeenOn w v u
    → (names : List (List ℕ)) (t : Term) → moves_throughout t ≡ true
    → (a : ℕ) (s : ℤ) → s ≤ℤ v → seen w names t (From v) a s ≡ value u names t a s

-- ---- cones

-- What a term reads of its cone and of its border is computed where the term is, so lows and reaches are as
-- windows alone make them.
pub record ConesAreNeeded : Type 0 where
  pub cone : (days : List ℤ) (g : Graph) (outputs : List ℕ) (from : ℤ) → IsGraph g
      → (t u m : ℕ) (s : ℤ) → Needs days g outputs from t s
      → Follows g t u m → Needs days g outputs from u (before s m)
  pub border : (days : List ℤ) (g : Graph) (outputs : List ℕ) (from : ℤ) → IsGraph g
      → (t b m : ℕ) (s : ℤ) → Needs days g outputs from t s
      → Borders g t b m → Needs days g outputs from b (before s m)

-- The lists of a cone and of its border have exactly their terms.
pub record ConesAreListed : Type 0 where
  pub cone : (g : Graph) → IsGraph g → (t u : ℕ)
      → (contains (cone_terms g t) u ≡ true → (m : ℕ) × Follows g t u m)
      × ((m : ℕ) → Follows g t u m → contains (cone_terms g t) u ≡ true)
  pub border : (g : Graph) → IsGraph g → (t b : ℕ)
      → (contains (border_terms g t) b ≡ true → (m : ℕ) × Borders g t b m)
      × ((m : ℕ) → Borders g t b m → contains (border_terms g t) b ≡ true)

-- Each listed depth is one by which the term is read, the term is read by no greater one, and it is listed
-- once.
pub record DepthsAreGreatest : Type 0 where
  pub listed : (g : Graph) → IsGraph g → (t u m : ℕ) → HasDepth u m (cone_depths g t) → Follows g t u m
  pub greatest : (g : Graph) → IsGraph g → (t u k : ℕ) → Follows g t u k
      → (m : ℕ) × HasDepth u m (cone_depths g t) × (k ≤ m)
  pub once : (g : Graph) → IsGraph g → (t u m k : ℕ)
      → HasDepth u m (cone_depths g t) → HasDepth u k (cone_depths g t) → m ≡ k

-- there is no cone, and what has to be held is what is mentioned
pub record HasNoCone (g : Graph) (t : ℕ) : Type 0 where
  pub cone : cone_terms g t ≡ []
  pub reads : reads_of g t ≡ mentions_at g t

-- so it is where all windows hold bars or steady terms
abbrev pub SteadyWindowsHaveNoCones : Type 0
SteadyWindowsHaveNoCones = (g : Graph) → AllReadSteady g → (t : ℕ) → HasNoCone g t
