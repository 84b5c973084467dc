-- The value of a term for an asset on a session, computed by itself from bars before the session and
-- adjustments effective by then.
use Rattle.std.specs.Prelude.{ℕ, suc, Bool, true, false, not, ◌&&◌, ◌||◌, if◌then◌else◌, ◌==◌, ℤ, pos, List, [], map, filter, Option, Some, None, unwrap_or, slice_get, bytes_eq}
use Rattle.std.specs.List.{list_any}
use Rattle.std.specs.Ordering.{int_eq}
use Rattle.pl_spec.specs.Rounding.{MISSING, is_present}
use Rattle.pl_spec.specs.declared.Column.{Column}
use Rattle.pl_spec.specs.World.{World, exists, living_sids, label_at, known_number}
use Rattle.pl_spec.specs.Window.{seen_cell, before, downward}
use Rattle.pl_spec.specs.Periods.{period_start}
use Rattle.pl_pipeline.specs.Kind as kind
use Rattle.pl_pipeline.specs.Kind.{Kind, PointKind, LabelKind, CrossKind}
use Rattle.pl_pipeline.specs.declared.WindowKind.{WindowKind}
use Rattle.pl_pipeline.specs.Kind.Kind.{Constant, Label, StaticSids, Window, Point, LabelTest, Cross, Downsample}
use Rattle.pl_pipeline.specs.declared.WindowKind.TheVariants.{Returns, PercentChange, RateOfChangePercentage, RSI, FastStochasticOscillator, AroonUp, AroonDown, Correlation, All, Any, AtLeastN, AllPresent, WindowRank, WindowArgMax, WindowArgMin, MaxDrawdown, RankCorrelation, WindowRSquared, WindowSkewness, WindowKurtosis}
use Rattle.pl_pipeline.specs.Kind.PointKind.{Add, Sub, Mul, Div, Neg, Abs, Clip, FillNa, IfElse, Log, Exp, Sqrt, Sign, Maximum, Minimum, Where}
use Rattle.pl_pipeline.specs.Kind.CrossKind.{Top, Bottom, PercentileBetween, PeerCount}
use Rattle.pl_spec.specs.Cells.{truth, is_true}
use Rattle.pl_pipeline.specs.Formula.{formula}
use Rattle.pl_pipeline.specs.Pointwise.{pointwise, label_test}
use Rattle.pl_pipeline.specs.Cross.{Entry, cross, is_for_all}
use Rattle.pl_pipeline.specs.Term.{Term}
use Rattle.pl_pipeline.specs.Term.Term.{absent, column, node}

-- A cell, a truth value as 1 or 0, a numbered classifier's number, or a label's text. No label is the number
-- MISSING.
pub data Value : Type 0 where
  Number : ℤ → Value
  Text : List ℕ → Value

-- a text counts as present
abbrev pub number_of : Value → ℤ
number_of (Number x) = x
number_of (Text t) = pos 0

abbrev pub holds : Value → Bool
holds v = is_true (number_of v)

abbrev pub is_same : Value → Value → Bool
is_same (Number x) (Number y) = int_eq x y
is_same (Text s) (Text t) = bytes_eq s t
is_same v u = false

-- what a term is worth, by sid and session
abbrev pub Meaning : Type 0
Meaning = ℕ → ℤ → Value

-- From where values are seen: each from its own session, or all from one session.
pub data View : Type 0 where
  Own : View
  From : ℤ → View

-- the session from which a value of session d is seen
abbrev pub seen_from : View → ℤ → ℤ
seen_from Own d = d
seen_from (From v) d = v

-- what stands in a term's place for an input, a mask or a group
pub data Part : Type 0 where
  Nothing : Part
  Bars : Column → View → Part
  Values : Meaning → Part

-- the part of a term with this meaning in a view
abbrev pub part_from : View → Term → Meaning → Part
part_from view absent f = Nothing
part_from view (column c) f = Bars c view
part_from view (node k size x y z m g) f = Values f

abbrev pub part_of : Term → Meaning → Part
part_of t f = part_from Own t f

-- the value of a part on the session
abbrev pub value_of_part : Part → Meaning
value_of_part (Values f) a d = f a d
value_of_part p a d = Number MISSING

-- the bars of the sessions before d, oldest first, each seen on session v
abbrev pub seen_window : World → Column → ℕ → ℕ → ℤ → ℤ → List ℤ
seen_window w c size a d v = map (λ n. seen_cell w a c (before d (suc n)) v) (downward size)

-- the window of a part: of bars the sessions before d, of values those up to d
abbrev pub window_of : World → ℕ → Part → ℕ → ℤ → List ℤ
window_of w size Nothing a d = []
window_of w size (Bars c view) a d = seen_window w c size a d (seen_from view d)
window_of w size (Values f) a d = map (λ n. number_of (f a (before d n))) (downward size)

-- without a mask every asset passes
abbrev pub passes : Part → ℕ → ℤ → Bool
passes Nothing a d = true
passes p a d = holds (value_of_part p a d)

-- without a group all are of one
abbrev pub in_group : Part → ℕ → ℤ → ℕ → Bool
in_group Nothing a d b = true
in_group p a d b = is_present (number_of (value_of_part p a d)) && is_same (value_of_part p a d) (value_of_part p b d)

abbrev pub entry : Part → ℤ → ℕ → Entry
entry x d b = (b, number_of (value_of_part x b d))

-- what a kind reads: its inputs, its mask and its group
pub record Operands : Type 0 where
  pub first : Part
  pub second : Part
  pub third : Part
  pub mask : Part
  pub group : Part

-- of peers those with the asset's own label count
abbrev pub group_of : CrossKind → Part → Part → Part
group_of PeerCount x group = x
group_of k x group = group

-- asset b counts for asset a: it passes the mask, its value is present, and it is of a's group
abbrev pub counts_for : CrossKind → Operands → ℕ → ℤ → ℕ → Bool
counts_for k operands a d b =
    passes operands.mask b d
    && is_present (number_of (value_of_part operands.first b d))
    && in_group (group_of k operands.first operands.group) a d b

-- the entries of session d that count for asset a
abbrev pub eligible : World → CrossKind → Operands → ℕ → ℤ → List Entry
eligible w k operands a d = map (entry operands.first d) (filter (counts_for k operands a d) (living_sids w d))

abbrev pub is_window_filter : WindowKind → Bool
is_window_filter All = true
is_window_filter Any = true
is_window_filter (AtLeastN n) = true
is_window_filter AllPresent = true
is_window_filter k = false

abbrev pub is_point_filter : PointKind → Bool
is_point_filter Add = false
is_point_filter Sub = false
is_point_filter Mul = false
is_point_filter Div = false
is_point_filter Neg = false
is_point_filter Abs = false
is_point_filter (Clip low high) = false
is_point_filter FillNa = false
is_point_filter IfElse = false
is_point_filter Log = false
is_point_filter Exp = false
is_point_filter Sqrt = false
is_point_filter Sign = false
is_point_filter Maximum = false
is_point_filter Minimum = false
is_point_filter Where = false
is_point_filter k = true

abbrev pub is_cross_filter : CrossKind → Bool
is_cross_filter (Top n) = true
is_cross_filter (Bottom n) = true
is_cross_filter (PercentileBetween low high) = true
is_cross_filter k = false

abbrev pub is_filter : Kind → Bool
is_filter (StaticSids sids) = true
is_filter (Window k) = is_window_filter k
is_filter (Point k) = is_point_filter k
is_filter (LabelTest k) = true
is_filter (Cross k) = is_cross_filter k
is_filter k = false

-- formulas that give no price and no volume, but a change or a place in the window: these, and filters, keep
-- the values that they had on their own sessions
abbrev pub is_change : WindowKind → Bool
is_change Returns = true
is_change PercentChange = true
is_change RateOfChangePercentage = true
is_change RSI = true
is_change FastStochasticOscillator = true
is_change AroonUp = true
is_change AroonDown = true
is_change Correlation = true
is_change WindowRank = true
is_change WindowArgMax = true
is_change WindowArgMin = true
is_change MaxDrawdown = true
is_change RankCorrelation = true
is_change WindowRSquared = true
is_change WindowSkewness = true
is_change WindowKurtosis = true
is_change k = false

abbrev pub keeps_window : WindowKind → Bool
keeps_window k = is_window_filter k || is_change k

-- the sign of a value and filters keep the values of their own sessions
abbrev pub keeps_point : PointKind → Bool
keeps_point Sign = true
keeps_point k = is_point_filter k

-- From where a kind sees its inputs for session d, where it is itself seen from somewhere: a formula sees its
-- whole window from one session, and an operation what it is of from where it is seen itself. What keeps its
-- values sees from its own session.
abbrev pub view_of : Kind → View → ℤ → View
view_of (Window k) view d = From (if keeps_window k then d else seen_from view d)
view_of (Point k) view d = if keeps_point k then Own else view
view_of k view d = Own

-- the kind whose sort a term has: that of its input where it is downsampled, else its own
abbrev pub sort_over : Kind → Kind → Kind
sort_over (Downsample f) input = input
sort_over k input = k

abbrev pub sort_kind : Term → Kind
sort_kind absent = Constant MISSING
sort_kind (column c) = Constant MISSING
sort_kind (node k size x y z m g) = sort_over k (sort_kind x)

-- false for a filter; no cell or no label for the others
abbrev pub empty : Kind → Value
empty k = if is_filter k then Number (pos 0) else Number MISSING

abbrev pub label_value : Option (List ℕ) → Value
label_value None = Number MISSING
label_value (Some t) = Text t

abbrev pub test_value : LabelKind → Value → Value
test_value k (Number x) = Number (pos 0)
test_value k (Text t) = Number (truth (label_test k t))

-- the name of number n
abbrev pub name_at : List (List ℕ) → ℕ → List ℕ
name_at names n = unwrap_or (slice_get names n) []

-- what the kind gives, where the asset exists and passes the mask
unfoldable pub kind_value : World → List (List ℕ) → Kind → ℕ → Operands → Meaning
kind_value w names (Constant cell) size operands a d = Number cell
kind_value w names (Label n) size operands a d = label_value (label_at w (name_at names n) a d)
kind_value w names (kind.Number f n) size operands a d = Number (known_number w f (name_at names n) a d)
kind_value w names (StaticSids sids) size operands a d = Number (truth (list_any (λ b. b == a) sids))
kind_value w names (Window k) size operands a d =
    Number
    (formula k (window_of w size operands.first a d) (window_of w size operands.second a d)
    (window_of w size operands.third a d))
kind_value w names (Point k) size operands a d =
    let now : Part → ℤ = λ x. number_of (value_of_part x a d) in
    Number (pointwise k (now operands.first) (now operands.second) (now operands.third))
kind_value w names (LabelTest k) size operands a d = test_value k (value_of_part operands.first a d)
kind_value w names (Cross k) size operands a d =
    let list = eligible w k operands a d in
    if is_for_all k || list_any (λ e. e.0 == a) list
    then Number (cross k list a (number_of (value_of_part operands.first a d)))
    else empty (Cross k)
kind_value w names (Downsample f) size operands a d = value_of_part operands.first a (period_start f w.days d)

-- what a term is worth in a view
unfoldable pub seen : World → List (List ℕ) → Term → View → Meaning
seen w names absent view a d = Number MISSING
seen w names (column c) view a d = Number MISSING
seen w names (node k size x y z m g) view a d =
    let inner : View = view_of k view d in
    let operands : Operands = record {
      first = part_from inner x (seen w names x inner);
      second = part_from inner y (seen w names y inner);
      third = part_from inner z (seen w names z inner);
      mask = part_of m (seen w names m Own);
      group = part_of g (seen w names g Own);
    } in
    if exists w a d && passes operands.mask a d then kind_value w names k size operands a d else empty (sort_over k (sort_kind x))

-- the value of a term: what it is worth from its own session
unfoldable pub value : World → List (List ℕ) → Term → Meaning
value w names t = seen w names t Own

-- what a term reads for session d in a view
abbrev pub seen_operands : World → List (List ℕ) → Term → View → ℤ → Operands
seen_operands w names (node k size x y z m g) view d =
    let inner : View = view_of k view d in
    record {
      first = part_from inner x (seen w names x inner);
      second = part_from inner y (seen w names y inner);
      third = part_from inner z (seen w names z inner);
      mask = part_of m (value w names m);
      group = part_of g (value w names g);
    }
seen_operands w names t view d = record { first = Nothing; second = Nothing; third = Nothing; mask = Nothing; group = Nothing }

-- the values that a term is of, each from its own session
abbrev pub operands_of : World → List (List ℕ) → Term → Operands
operands_of w names (node k size x y z m g) = record {
  first = part_of x (value w names x);
  second = part_of y (value w names y);
  third = part_of z (value w names z);
  mask = part_of m (value w names m);
  group = part_of g (value w names g);
}
operands_of w names t = record { first = Nothing; second = Nothing; third = Nothing; mask = Nothing; group = Nothing }

abbrev pub is_bars : Term → Bool
is_bars (column c) = true
is_bars t = false

-- a term whose values are the same from wherever they are seen: it keeps them, or is a formula or an
-- operation of such terms alone
abbrev pub is_steady : Term → Bool
is_steady (node (Window k) size x y z m g) =
    keeps_window k || (is_steady x && is_steady y && is_steady z && not (is_bars x || is_bars y || is_bars z))
is_steady (node (Point k) size x y z m g) = keeps_point k || (is_steady x && is_steady y && is_steady z)
is_steady t = true
