-- A script: its grammar, and the machine that reads it token by token.
use Rattle.std.specs.Prelude.{ℕ, ℤ, pos, ◌≡◌, Bool, true, false, ◌||◌, ◌==◌, if◌then◌else◌, List, [], ◌∷◌, ◌++◌, Option, Some, None, Result}
use Rattle.std.specs.Ordering.{int_eq}
use Rattle.pl_grammar.specs.declared.Place.{Place}
use Rattle.pl_grammar.specs.Tree.{Token, Name, Number, Assign, Semicolon, PipelineWord, LetWord, ColumnWord, ScreenWord, Lexeme, mark, Tree}
use Rattle.pl_grammar.specs.Grammar.{Derives}
use Rattle.pl_grammar.specs.Machine.{State, Stop, allowed, run_by, first, move, depth, finish}

-- how a statement begins: its place is its NAME, or `screen`
pub data Head : Type 0 where
  LetHead : Place → List ℕ → Head
  ColumnHead : Place → List ℕ → Head
  ScreenHead : Place → Head

pub record Statement : Type 0 where
  pub head : Head
  pub tree : Tree

pub data HeadRead : List Lexeme → Head → Type 0 where
  let_read : {a p c : Place} {n : List ℕ}
      → HeadRead (mark a LetWord ∷ (mark p (Name n) ∷ (mark c Assign ∷ []))) (LetHead p n)
  column_read : {a p c : Place} {n : List ℕ}
      → HeadRead (mark a ColumnWord ∷ (mark p (Name n) ∷ (mark c Assign ∷ []))) (ColumnHead p n)
  screen_read : {p : Place} → HeadRead (mark p ScreenWord ∷ []) (ScreenHead p)

pub data Statements : ℕ → List Lexeme → List Statement → Type 0 where
  no_statement : {d : ℕ} → Statements d [] []
  statement : {d : ℕ} (p : Place) {hs ts us : List Lexeme} {h : Head} {e : Tree} {ss : List Statement}
      → HeadRead hs h → Derives d 1 ts e → Statements d us ss
      → Statements d (hs ++ (ts ++ (mark p Semicolon ∷ us))) (record { head = h; tree = e } ∷ ss)

-- the version of the language that a number tells, in millionths: 1 to 4, and 0 for no version
abbrev pub version_of : ℤ → ℕ
version_of v =
    if int_eq v (pos 1000000) then 1
    else if int_eq v (pos 2000000) then 2
    else if int_eq v (pos 3000000) then 3
    else if int_eq v (pos 4000000) then 4
    else 0

abbrev pub is_known : ℕ → Bool
is_known n = (n == 1) || ((n == 2) || ((n == 3) || (n == 4)))

abbrev pub is_version : ℤ → Bool
is_version v = is_known (version_of v)

abbrev pub token_version : Token → ℕ
token_version (Number v) = version_of v
token_version t = 0

abbrev pub version_or : ℕ → ℕ → ℕ
version_or n m = if n == 0 then m else n

-- the version that the first of some tokens gives which gives one; a script's first number is its version
unfoldable pub first_version : List Lexeme → ℕ
first_version [] = 0
first_version (mark p t ∷ ts) = version_or (token_version t) (first_version ts)

-- the tokens derive the script with these statements
pub data Script : ℕ → List Lexeme → List Statement → Type 0 where
  script : {d : ℕ} {a b c : Place} {v : ℤ} {ts : List Lexeme} {ss : List Statement} → is_version v ≡ true
      → Statements d ts ss → Script d (mark a PipelineWord ∷ (mark b (Number v) ∷ (mark c Semicolon ∷ ts))) ss

-- some continuation of the tokens is a script that opens at most d constructs inside one another
abbrev pub Viable : ℕ → List Lexeme → Type 0
Viable d ts = (rest : List Lexeme) × (ss : List Statement) × Script d (ts ++ rest) ss

-- the machine

pub data Stage : Type 0 where
  Opening : Stage
  VersionWanted : Stage
  VersionGiven : Stage
  Between : List Statement → Stage
  LetWanted : List Statement → Stage
  ColumnWanted : List Statement → Stage
  AssignWanted : List Statement → Head → Stage
  Within : List Statement → Head → State → Stage

abbrev pub if_version : Bool → Option Stage
if_version true = Some VersionGiven
if_version false = None

abbrev pub opening_move : Token → Option Stage
opening_move PipelineWord = Some VersionWanted
opening_move t = None

abbrev pub version_move : Token → Option Stage
version_move (Number v) = if_version (is_version v)
version_move t = None

abbrev pub given_move : Token → Option Stage
given_move Semicolon = Some (Between [])
given_move t = None

abbrev pub between_move : List Statement → Place → Token → Option Stage
between_move ss p LetWord = Some (LetWanted ss)
between_move ss p ColumnWord = Some (ColumnWanted ss)
between_move ss p ScreenWord = Some (Within ss (ScreenHead p) first)
between_move ss p t = None

abbrev pub name_move : (List ℕ → Stage) → Token → Option Stage
name_move k (Name n) = Some (k n)
name_move k t = None

abbrev pub assign_head : List Statement → Head → Token → Option Stage
assign_head ss h Assign = Some (Within ss h first)
assign_head ss h t = None

-- the statement ends where its expression may
abbrev pub ended : List Statement → Head → Option Tree → Token → Option Stage
ended ss h (Some e) Semicolon = Some (Between (ss ++ (record { head = h; tree = e } ∷ [])))
ended ss h (Some e) t = None
ended ss h None t = None

abbrev pub within_move : List Statement → Head → Option Tree → Token → Option State → Option Stage
within_move ss h e t (Some s) = Some (Within ss h s)
within_move ss h e t None = ended ss h e t

unfoldable pub script_move : Lexeme → Stage → Option Stage
script_move (mark p t) Opening = opening_move t
script_move (mark p t) VersionWanted = version_move t
script_move (mark p t) VersionGiven = given_move t
script_move (mark p t) (Between ss) = between_move ss p t
script_move (mark p t) (LetWanted ss) = name_move (λ n. AssignWanted ss (LetHead p n)) t
script_move (mark p t) (ColumnWanted ss) = name_move (λ n. AssignWanted ss (ColumnHead p n)) t
script_move (mark p t) (AssignWanted ss h) = assign_head ss h t
script_move (mark p t) (Within ss h s) = within_move ss h (finish s) t (move (mark p t) s.mode s.frames)

abbrev pub stage_depth : Stage → ℕ
stage_depth (Within ss h s) = depth s.frames
stage_depth s = 0

abbrev pub script_step : ℕ → Lexeme → Stage → Result Stage Stop
script_step most t s = allowed stage_depth most (script_move t s)

abbrev pub script_run : ℕ → List Lexeme → Stage → Result Stage Stop
script_run most ts s = run_by (script_step most) ts s

-- the script that was read, where it may end
abbrev pub script_finish : Stage → Option (List Statement)
script_finish (Between ss) = Some ss
script_finish s = None
