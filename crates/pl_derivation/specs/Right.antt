-- Which lines of a derivation are right.
use Rattle.std.specs.Prelude.{ℕ, suc, Bool, false, not, ◌&&◌, if◌then◌else◌, ◌==◌, ℤ, pos, List, [], ◌∷◌, ◌++◌, fold, find, position, Option, Some, None, option_map, option_and_then, unwrap_or, option_to_list}
use Rattle.std.specs.List.{list_any, list_all}
use Rattle.std.specs.Cmp.Lexicographic.{pointwise}
use Rattle.std.specs.Int.RustNames.{int_lt}
use Rattle.std.specs.Option.{option_eq}
use Rattle.std.specs.Ordering.{int_eq}
use Rattle.pl_spec.specs.declared.Column.{Column}
use Rattle.pl_spec.specs.Rounding.{MISSING}
use Rattle.pl_spec.specs.World.{World, bar_cell}
use Rattle.pl_spec.specs.Window.{Effect, changed, effects}
use Rattle.pl_pipeline.specs.Table.{Pipeline}
use Rattle.pl_pipeline.specs.Term.{term_at}
use Rattle.pl_pipeline.specs.Value.{is_steady}
use Rattle.pl_terms.specs.Uses.{is_used}
use Rattle.pl_derivation.specs.Lines.{Line}
use Rattle.pl_derivation.specs.Lines.Line.{SeenLine, ValueLine, SeenValueLine}
use Rattle.pl_derivation.specs.Facts.{Fact, Reading, same_fact, known_day, premises, single_step}
use Rattle.pl_derivation.specs.Facts.Fact.{Seen, TermValue, SeenValue}

-- the session of a day
abbrev pub session_of : World → ℤ → Option ℕ
session_of w day = position (λ x. int_eq x day) w.days

-- the fact that a line is about, where its days are sessions
abbrev pub fact_of : World → Line → Option Fact
fact_of w (SeenLine c a bar day cells) = option_and_then (λ s. option_map (λ d. Seen c a (pos s) (pos d)) (session_of w day)) (session_of w bar)
fact_of w (ValueLine t a day v known) = option_map (λ d. TermValue t a (pos d)) (session_of w day)
fact_of w (SeenValueLine t a own day v) = option_and_then (λ s. option_map (λ d. SeenValue t a (pos s) (pos d)) (session_of w day)) (session_of w own)

-- the last of some cells
abbrev pub last_cell : List ℤ → ℤ
last_cell cells = fold (λ x y. y) MISSING cells

-- the number that a line states of its fact
abbrev pub number_stated : Line → ℤ
number_stated (SeenLine c a bar day cells) = last_cell cells
number_stated (ValueLine t a day v known) = v
number_stated (SeenValueLine t a own day v) = v

abbrev pub is_about : World → Fact → Line → Bool
is_about w f l = list_any (same_fact f) (option_to_list (fact_of w l))

-- the number that the first line about a fact states
abbrev pub stated : World → List Line → Fact → Option ℤ
stated w lines f = option_map number_stated (find (is_about w f) lines)

abbrev pub is_stated : World → List Line → Fact → Bool
is_stated w lines f = list_any (is_about w f) lines

-- the numbers that the first lines tell
abbrev pub reading_of : World → List Line → Reading
reading_of w lines f = unwrap_or (stated w lines f) MISSING

-- the sid is known
abbrev pub has_sid : World → ℕ → Bool
has_sid w a = list_any (λ x. x.sid == a) w.assets

-- Of a fact that may stand in a derivation the sid is known, and the term is used. A bar is of an earlier session
-- than it is seen on; so is a value, whose term is not the same from wherever it is seen.
abbrev pub is_fitting : World → Pipeline → Fact → Bool
is_fitting w p (Seen c a s d) = has_sid w a && int_lt s d
is_fitting w p (TermValue t a d) = has_sid w a && is_used p t
is_fitting w p (SeenValue t a s d) = has_sid w a && is_used p t && not (is_steady (term_at p.graph t)) && int_lt s d

-- a cell, and what it is after each effect in turn
abbrev pub after_each : ℤ → List Effect → List ℤ
after_each x [] = x ∷ []
after_each x (f ∷ fs) = x ∷ after_each (changed x f) fs

-- the bar's cell, and what it is after each event that changes it before it is seen on session d
abbrev pub seen_cells : World → ℕ → Column → ℤ → ℤ → List ℤ
seen_cells w a c s d = after_each (bar_cell w a c s) (effects w a c s d)

-- the line states what the single step gives, and the day of the fact's record
abbrev pub states_step : World → Pipeline → Reading → Line → Fact → Bool
states_step w p r (SeenLine c' a' bar day cells) (Seen c a s d) = pointwise int_eq cells (seen_cells w a c s d)
states_step w p r (ValueLine t a day v known) f = int_eq v (single_step w p r f) && option_eq int_eq known (known_day w p f)
states_step w p r (SeenValueLine t a own day v) f = int_eq v (single_step w p r f)
states_step w p r l f = false

-- A line is right after others where its fact fits, each premise stands in these and it states what the step
-- over their numbers gives.
abbrev pub is_right_about : World → Pipeline → List Line → Line → Option Fact → Bool
is_right_about w p lines l None = false
is_right_about w p lines l (Some f) =
    is_fitting w p f && list_all (is_stated w lines) (premises w p (reading_of w lines) f) && states_step w p (reading_of w lines) l f

abbrev pub is_right : World → Pipeline → List Line → Line → Bool
is_right w p lines l = is_right_about w p lines l (fact_of w l)

-- the place from 0 of the first of the further lines that is not right, counted after those so far
abbrev pub wrong_behind : World → Pipeline → List Line → List Line → Option ℕ
wrong_behind w p lines [] = None
wrong_behind w p lines (l ∷ ls) =
    if is_right w p lines l then option_map suc (wrong_behind w p (lines ++ l ∷ []) ls) else Some 0

-- the number, from 1, of the first line that is not right
abbrev pub first_wrong : World → Pipeline → List Line → Option ℕ
first_wrong w p lines = option_map suc (wrong_behind w p [] lines)
