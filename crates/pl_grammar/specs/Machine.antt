-- The machine that reads an expression token by token, over a stack of what is open.
use Rattle.std.specs.Prelude.{ℕ, suc, Bool, true, false, if◌then◌else◌, nat_le, List, [], ◌∷◌, ◌++◌, Option, Some, None, Result, Ok, Err}
use Rattle.pl_grammar.specs.declared.Place.{Place}
use Rattle.pl_grammar.specs.declared.PrefixSign.{PrefixSign}
use Rattle.pl_grammar.specs.declared.BinarySign.{BinarySign}
use Rattle.pl_grammar.specs.declared.PrefixSign.TheVariants.{Minus, Not}
use Rattle.pl_grammar.specs.declared.BinarySign.TheVariants.{Sub}
use Rattle.pl_grammar.specs.Tree.{Name, Number, Text, Operator, Tilde, Dot, Open, Close, Comma, Assign, Lexeme, mark, Tree, number, text, name, call, prefix, binary, member, method, Args, no_args, arg, prefix_level, level, left_level, right_level}

-- what a list of arguments belongs to
pub data Callee : Type 0 where
  function : Place → List ℕ → Callee
  method_of : Place → Tree → List ℕ → Callee

pub record Arg : Type 0 where
  pub name : Option (List ℕ)
  pub tree : Tree

-- what is open, the innermost first: a prefix sign, a binary sign after its left operand, a group, and
-- an argument after its callee, the arguments before it and its name
pub data Frame : Type 0 where
  Prefixed : Place → PrefixSign → Frame
  Behind : Place → BinarySign → Tree → Frame
  Group : Frame
  Call : Callee → List Arg → Option (List ℕ) → Frame

-- where the machine stands: an operand is wanted; an argument begins; a name was read, at an argument's
-- beginning or elsewhere; a member's name was read; an operand ended by `)` or a literal; a dot was read
pub data Mode : Type 0 where
  Wanted : Mode
  ArgWanted : Mode
  Named : Place → List ℕ → Mode
  ArgNamed : Place → List ℕ → Mode
  Membered : Place → Tree → List ℕ → Mode
  Given : Tree → Mode
  Dotted : Tree → Mode

pub record State : Type 0 where
  pub mode : Mode
  pub frames : List Frame

-- the operand that was read
abbrev pub operand : Mode → Option Tree
operand Wanted = None
operand ArgWanted = None
operand (Named p n) = Some (name p n)
operand (ArgNamed p n) = Some (name p n)
operand (Membered p e n) = Some (member p e n)
operand (Given e) = Some e
operand (Dotted e) = None

abbrev pub is_wanted : Mode → Bool
is_wanted Wanted = true
is_wanted ArgWanted = true
is_wanted m = false

-- what may be called by a `(` here
abbrev pub callee : Mode → Option Callee
callee (Named p n) = Some (function p n)
callee (ArgNamed p n) = Some (function p n)
callee (Membered p e n) = Some (method_of p e n)
callee m = None

abbrev pub args_of : List Arg → Args
args_of [] = no_args
args_of (a ∷ ps) = arg a.name a.tree (args_of ps)

abbrev pub applied : Callee → List Arg → Tree
applied (function p n) ps = call p n (args_of ps)
applied (method_of p e n) ps = method p e n (args_of ps)

-- the level that the place inside the innermost construct asks
abbrev pub asked : List Frame → ℕ
asked [] = 1
asked (Prefixed p s ∷ fs) = prefix_level s
asked (Behind p o a ∷ fs) = right_level o
asked (Group ∷ fs) = 1
asked (Call c ps n ∷ fs) = 1

-- how many of the constructs that the limit counts are open
abbrev pub depth : List Frame → ℕ
depth [] = 0
depth (Prefixed p s ∷ fs) = suc (depth fs)
depth (Behind p o a ∷ fs) = depth fs
depth (Group ∷ fs) = suc (depth fs)
depth (Call c ps n ∷ fs) = suc (depth fs)

-- an operand with its level, and what is open around it
pub record Closed : Type 0 where
  pub height : ℕ
  pub tree : Tree
  pub frames : List Frame

-- is the construct ended by a sign of level m after its operand
abbrev pub ends : ℕ → Frame → Bool
ends m (Prefixed p s) = nat_le m (prefix_level s)
ends m (Behind p o a) = nat_le m (level o)
ends m Group = false
ends m (Call c ps n) = false

abbrev pub frame_level : Frame → ℕ
frame_level (Prefixed p s) = prefix_level s
frame_level (Behind p o a) = level o
frame_level Group = 0
frame_level (Call c ps n) = 0

-- the construct with its operand
abbrev pub join : Frame → Tree → Tree
join (Prefixed p s) e = prefix p s e
join (Behind p o a) e = binary p o a e
join Group e = e
join (Call c ps n) e = e

-- ends the constructs of level m and above that the operand ends
abbrev pub close : ℕ → ℕ → Tree → List Frame → Closed
close m h e [] = record { height = h; tree = e; frames = [] }
close m h e (f ∷ fs) =
    if ends m f then close m (frame_level f) (join f e) fs
    else record { height = h; tree = e; frames = f ∷ fs }

abbrev pub closed : ℕ → Tree → List Frame → Closed
closed m e fs = close m 8 e fs

abbrev pub at : Mode → List Frame → State
at m fs = record { mode = m; frames = fs }

-- each token's move

abbrev pub literal : Tree → Bool → List Frame → Option State
literal e true fs = Some (at (Given e) fs)
literal e false fs = None

abbrev pub named_move : Place → List ℕ → Mode → List Frame → Option State
named_move q n Wanted fs = Some (at (Named q n) fs)
named_move q n ArgWanted fs = Some (at (ArgNamed q n) fs)
named_move q n (Dotted e) fs = Some (at (Membered q e n) fs)
named_move q n m fs = None

abbrev pub sign_move : Place → PrefixSign → Bool → List Frame → Option State
sign_move p s true fs =
    if nat_le (asked fs) (prefix_level s) then Some (at Wanted (Prefixed p s ∷ fs)) else None
sign_move p s false fs = None

abbrev pub minus_move : Place → BinarySign → Bool → List Frame → Option State
minus_move p Sub w fs = sign_move p Minus w fs
minus_move p o w fs = None

abbrev pub behind : Place → BinarySign → Closed → Option State
behind p o c =
    if nat_le (left_level o) c.height then Some (at Wanted (Behind p o c.tree ∷ c.frames)) else None

abbrev pub operator_move : Place → BinarySign → Option Tree → Bool → List Frame → Option State
operator_move p o (Some e) w fs = behind p o (closed (level o) e fs)
operator_move p o None w fs = minus_move p o w fs

abbrev pub dot_move : Option Tree → List Frame → Option State
dot_move (Some e) fs = Some (at (Dotted e) fs)
dot_move None fs = None

abbrev pub open_move : Bool → Option Callee → List Frame → Option State
open_move true c fs = Some (at Wanted (Group ∷ fs))
open_move false (Some c) fs = Some (at ArgWanted (Call c [] None ∷ fs))
open_move false None fs = None

abbrev pub shut : Tree → List Frame → Option State
shut e (Group ∷ fs) = Some (at (Given e) fs)
shut e (Call c ps n ∷ fs) = Some (at (Given (applied c (ps ++ (record { name = n; tree = e } ∷ [])))) fs)
shut e fs = None

-- a `)` where no operand was read: only after the `(` of a call
abbrev pub shut_empty : Mode → List Frame → Option State
shut_empty ArgWanted (Call c [] n ∷ fs) = Some (at (Given (applied c [])) fs)
shut_empty m fs = None

abbrev pub close_move : Option Tree → Mode → List Frame → Option State
close_move (Some e) m fs = let c = closed 0 e fs in shut c.tree c.frames
close_move None m fs = shut_empty m fs

abbrev pub next_arg : Tree → List Frame → Option State
next_arg e (Call c ps n ∷ fs) =
    Some (at ArgWanted (Call c (ps ++ (record { name = n; tree = e } ∷ [])) None ∷ fs))
next_arg e fs = None

abbrev pub comma_move : Option Tree → List Frame → Option State
comma_move (Some e) fs = let c = closed 0 e fs in next_arg c.tree c.frames
comma_move None fs = None

abbrev pub name_arg : List ℕ → List Frame → Option State
name_arg n (Call c ps m ∷ fs) = Some (at Wanted (Call c ps (Some n) ∷ fs))
name_arg n fs = None

abbrev pub assign_move : Mode → List Frame → Option State
assign_move (ArgNamed p n) fs = name_arg n fs
assign_move m fs = None

abbrev pub move : Lexeme → Mode → List Frame → Option State
move (mark p (Name n)) m fs = named_move p n m fs
move (mark p (Number v)) m fs = literal (number p v) (is_wanted m) fs
move (mark p (Text t)) m fs = literal (text p t) (is_wanted m) fs
move (mark p (Operator o)) m fs = operator_move p o (operand m) (is_wanted m) fs
move (mark p Tilde) m fs = sign_move p Not (is_wanted m) fs
move (mark p Dot) m fs = dot_move (operand m) fs
move (mark p Open) m fs = open_move (is_wanted m) (callee m) fs
move (mark p Close) m fs = close_move (operand m) m fs
move (mark p Comma) m fs = comma_move (operand m) fs
move (mark p Assign) m fs = assign_move m fs
move t m fs = None

-- ---- runs of a machine

-- why it stops
pub data Stop : Type 0 where
  Stuck : Stop
  Deep : Stop

-- where its move leads, unless more is open there than it may
abbrev pub allowed : {S : Type 0} → (S → ℕ) → ℕ → Option S → Result S Stop
allowed count most (Some s) = if nat_le (count s) most then Ok s else Err Deep
allowed count most None = Err Stuck

abbrev pub then_run : {S : Type 0} → (S → Result S Stop) → Result S Stop → Result S Stop
then_run f (Ok s) = f s
then_run f (Err e) = Err e

-- one step for each token
unfoldable pub run_by : {S : Type 0} → (Lexeme → S → Result S Stop) → List Lexeme → S → Result S Stop
run_by step [] s = Ok s
run_by step (t ∷ ts) s = then_run (run_by step ts) (step t s)

-- ---- the run of an expression

abbrev pub state_depth : State → ℕ
state_depth s = depth s.frames

abbrev pub step : ℕ → Lexeme → State → Result State Stop
step most t s = allowed state_depth most (move t s.mode s.frames)

abbrev pub run : ℕ → List Lexeme → State → Result State Stop
run most ts s = run_by (step most) ts s

abbrev pub first : State
first = at Wanted []

-- the tree that was read, where nothing is left open
abbrev pub outermost : Tree → List Frame → Option Tree
outermost e [] = Some e
outermost e (f ∷ fs) = None

abbrev pub finished : Option Tree → List Frame → Option Tree
finished (Some e) fs = let c = closed 0 e fs in outermost c.tree c.frames
finished None fs = None

abbrev pub finish : State → Option Tree
finish s = finished (operand s.mode) s.frames
