-- Facts, the facts that one rests on, and the single step that gives a fact's number from theirs.
use Rattle.std.specs.Prelude.{ℕ, suc, Bool, false, ◌&&◌, ◌||◌, if◌then◌else◌, ◌==◌, ℤ, List, [], ◌∷◌, ◌++◌, map, flat_map, Option, Some, None, option_map, option_and_then, unwrap_or, slice_get}
use Rattle.std.specs.Int.RustNames.{unsigned_abs}
use Rattle.std.specs.Ordering.{int_eq}
use Rattle.pl_spec.specs.declared.Column.{Column}
use Rattle.pl_spec.specs.Rounding.{MISSING, is_missing}
use Rattle.pl_spec.specs.Numbers.{known_at}
use Rattle.pl_spec.specs.World.{World, day_of, exists, living_sids, column_number}
use Rattle.pl_spec.specs.Periods.{period_start}
use Rattle.pl_spec.specs.Window.{seen_cell, before, downward}
use Rattle.pl_pipeline.specs.Kind as kinds
use Rattle.pl_pipeline.specs.Kind.{Kind}
use Rattle.pl_pipeline.specs.Kind.Kind.{Label, Window, Point, LabelTest, Cross, Downsample}
use Rattle.pl_pipeline.specs.Term.{Graph, Input, Node, term_at}
use Rattle.pl_pipeline.specs.Term.Input.{BarColumn, TermInput}
use Rattle.pl_pipeline.specs.Value.{Value, Meaning, View, Own, From, seen_from, Part, Operands, passes, view_of, kind_value, seen, empty, name_at, is_steady}
use Rattle.pl_pipeline.specs.Value.Value.{Number, Text}
use Rattle.pl_pipeline.specs.Value.Part.{Nothing, Bars, Values}
use Rattle.pl_pipeline.specs.Table.{Pipeline, value_of, in_array}
use Rattle.pl_pipeline.specs.Text.{kind_at}

-- the bar of session s of asset a as it is seen on session d; the value of term number t for asset a on session
-- d; or that on session s as it is seen on the later session d
pub data Fact : Type 0 where
  Seen : (column : Column) (a : ℕ) (s d : ℤ) → Fact
  TermValue : (t a : ℕ) (d : ℤ) → Fact
  SeenValue : (t a : ℕ) (s d : ℤ) → Fact

abbrev pub same_fact : Fact → Fact → Bool
same_fact (Seen c a s d) (Seen c' a' s' d') = column_number c == column_number c' && a == a' && int_eq s s' && int_eq d d'
same_fact (TermValue t a d) (TermValue t' a' d') = t == t' && a == a' && int_eq d d'
same_fact (SeenValue t a s d) (SeenValue t' a' s' d') = t == t' && a == a' && int_eq s s' && int_eq d d'
same_fact f g = false

-- a number for each fact, as arrays hold it
abbrev pub Reading : Type 0
Reading = Fact → ℤ

-- the numbers of the world itself
abbrev pub number_in : World → Pipeline → Reading
number_in w p (Seen c a s d) = seen_cell w a c s d
number_in w p (TermValue t a d) = in_array w.texts (value_of w p t a d)
number_in w p (SeenValue t a s d) = in_array w.texts (seen w p.names (term_at p.graph t) (From d) a s)

-- ---- the record of a number beside bars

-- the day from which the number that a kind reads for asset a on session d was known
abbrev pub kind_known : World → Pipeline → Kind → ℕ → ℤ → Option ℤ
kind_known w p (kinds.Number f n) a d = option_and_then (known_at w.numbers (name_at p.names n) a) (day_of w d)
kind_known w p k a d = None

-- the day of the record that a fact's number is of, where it is that of a number beside bars
abbrev pub known_day : World → Pipeline → Fact → Option ℤ
known_day w p (TermValue t a d) =
    if exists w a d then option_and_then (λ n. kind_known w p n.kind a d) (slice_get p.graph t) else None
known_day w p f = None

-- ---- the premises of a fact

-- the value of a term on a session, from where it is seen
abbrev pub value_fact : ℕ → ℕ → ℤ → View → Fact
value_fact t a s Own = TermValue t a s
value_fact t a s (From d) = SeenValue t a s d

-- From where a term's value on session s is told, where it is seen from somewhere: what is the same from
-- wherever it is seen, and what is seen from its own session, is the value there.
abbrev pub told_view : Graph → ℕ → ℤ → View → View
told_view g t s Own = Own
told_view g t s (From d) = if is_steady (term_at g t) || int_eq s d then Own else From d

abbrev pub told_fact : Graph → ℕ → ℕ → ℤ → View → Fact
told_fact g t a s view = value_fact t a s (told_view g t s view)

-- the window of an input, oldest first, all of it in a view
abbrev pub window_facts : Graph → View → ℕ → ℕ → ℤ → Option Input → List Fact
window_facts g view size a d None = []
window_facts g view size a d (Some (BarColumn c)) = map (λ n. Seen c a (before d (suc n)) (seen_from view d)) (downward size)
window_facts g view size a d (Some (TermInput t)) = map (λ n. told_fact g t a (before d n) view) (downward size)

-- an input on the session itself
abbrev pub facts_now : Graph → View → ℕ → ℤ → Option Input → List Fact
facts_now g view a d None = []
facts_now g view a d (Some (BarColumn c)) = []
facts_now g view a d (Some (TermInput t)) = told_fact g t a d view ∷ []

-- a mask or a group
abbrev pub number_facts : ℕ → ℤ → Option ℕ → List Fact
number_facts a d None = []
number_facts a d (Some t) = TermValue t a d ∷ []

-- for each input of a node in turn
abbrev pub over_inputs : (Option Input → List Fact) → Node → List Fact
over_inputs f n = f (slice_get n.inputs 0) ++ f (slice_get n.inputs 1) ++ f (slice_get n.inputs 2)

-- of one asset of a cross-section: its mask, its group and its inputs
abbrev pub entry_facts : Graph → Node → ℤ → ℕ → List Fact
entry_facts g n d b = number_facts b d n.mask ++ number_facts b d n.group ++ over_inputs (facts_now g Own b d) n

-- what the step of a kind reads, where it is seen from somewhere
abbrev pub kind_facts : World → Graph → Node → Kind → View → ℕ → ℤ → List Fact
kind_facts w g n (Window k) view a d = over_inputs (window_facts g (view_of (Window k) view d) n.window a d) n
kind_facts w g n (Point k) view a d = over_inputs (facts_now g (view_of (Point k) view d) a d) n
kind_facts w g n (LabelTest k) view a d = over_inputs (facts_now g Own a d) n
kind_facts w g n (Cross k) view a d = flat_map (entry_facts g n d) (living_sids w d)
kind_facts w g n (Downsample f) view a d = over_inputs (facts_now g Own a (period_start f w.days d)) n
kind_facts w g n k view a d = []

-- ---- the single step over a reading

-- the value that a term's number stands for: a label's code is the text of that place
abbrev pub value_from : List (List ℕ) → Kind → ℤ → Value
value_from texts (Label n) x = if is_missing x then Number MISSING else Text (name_at texts (unsigned_abs x))
value_from texts k x = Number x

-- what a term is worth in a view
abbrev pub term_read : World → Pipeline → Reading → View → ℕ → Meaning
term_read w p r view t a d = value_from w.texts (kind_at p.graph t) (r (told_fact p.graph t a d view))

-- a window over the bars that are seen on session d
abbrev pub bars_read : Reading → Column → ℤ → Meaning
bars_read r c d a e = Number (r (Seen c a (before e 1) d))

abbrev pub column_read : Reading → Kind → View → ℤ → Column → Part
column_read r (Window k) view d c = Values (bars_read r c (seen_from view d))
column_read r k view d c = Bars c view

abbrev pub input_read : World → Pipeline → Reading → Kind → View → ℤ → Option Input → Part
input_read w p r k view d None = Nothing
input_read w p r k view d (Some (BarColumn c)) = column_read r k view d c
input_read w p r k view d (Some (TermInput t)) = Values (term_read w p r view t)

abbrev pub number_read : World → Pipeline → Reading → Option ℕ → Part
number_read w p r None = Nothing
number_read w p r (Some t) = Values (term_read w p r Own t)

-- what the kind of a node reads for session d in a view
abbrev pub operands_read : World → Pipeline → Reading → Kind → Node → View → ℤ → Operands
operands_read w p r k n view d = record {
  first = input_read w p r k view d (slice_get n.inputs 0);
  second = input_read w p r k view d (slice_get n.inputs 1);
  third = input_read w p r k view d (slice_get n.inputs 2);
  mask = number_read w p r n.mask;
  group = number_read w p r n.group;
}

-- what node t is worth, from where it is seen, where its premises have the numbers of the reading
abbrev pub node_read : World → Pipeline → Reading → ℕ → Node → View → Meaning
node_read w p r t n view a d =
    if exists w a d && passes (number_read w p r n.mask) a d
    then kind_value w p.names n.kind n.window (operands_read w p r n.kind n (view_of n.kind view d) d) a d
    else empty (kind_at p.graph t)

-- the mask's value comes first, and what else is read follows where it is true
abbrev pub node_facts : World → Pipeline → Reading → Node → View → ℕ → ℤ → List Fact
node_facts w p r n view a d =
    if exists w a d
    then number_facts a d n.mask ++ (if passes (number_read w p r n.mask) a d then kind_facts w p.graph n n.kind view a d else [])
    else []

-- of the term of a number
abbrev pub value_facts : World → Pipeline → Reading → ℕ → View → ℕ → ℤ → List Fact
value_facts w p r t view a d = unwrap_or (option_map (λ n. node_facts w p r n view a d) (slice_get p.graph t)) []

abbrev pub value_read : World → Pipeline → Reading → ℕ → View → Meaning
value_read w p r t view a d = unwrap_or (option_map (λ n. node_read w p r t n view a d) (slice_get p.graph t)) (Number MISSING)

-- the facts that a fact rests on, in order, where the masks have the numbers of the reading
abbrev pub premises : World → Pipeline → Reading → Fact → List Fact
premises w p r (Seen c a s d) = []
premises w p r (TermValue t a d) = value_facts w p r t Own a d
premises w p r (SeenValue t a s d) = value_facts w p r t (From d) a s

-- the number of a fact by a single step over the numbers of the reading
abbrev pub single_step : World → Pipeline → Reading → Fact → ℤ
single_step w p r (Seen c a s d) = seen_cell w a c s d
single_step w p r (TermValue t a d) = in_array w.texts (value_read w p r t Own a d)
single_step w p r (SeenValue t a s d) = in_array w.texts (value_read w p r t (From d) a s)
