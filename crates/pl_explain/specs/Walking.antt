-- A walk through the premises of facts, and the lines that it has put down.
use Rattle.std.specs.Prelude.{◌≡◌, ℕ, ◌<◌, ◌≤◌, true, ℤ, pos, ◌≤ℤ◌, List, [], ◌∷◌, ◌++◌, length, map, fold, Some, Result, OnOk, IfErr}
use Rattle.pl_spec.specs.Limits.{most_lines}
use Rattle.pl_spec.specs.World as spec
use Rattle.pl_spec.specs.World.{day_of}
use Rattle.pl_pipeline.specs.Term.{term_at}
use Rattle.pl_pipeline.specs.Graph.{reach}
use Rattle.pl_terms.specs.Checked.{Parts, pipeline_of}
use Rattle.pl_world.specs.declared.world.World.{World}
use Rattle.pl_world.specs.Worlds.{world_of}
use Rattle.pl_derivation.specs.declared.error.ExplainError.{ExplainError}
use Rattle.pl_derivation.specs.declared.error.ExplainError.TheVariants.{TooLong}
use Rattle.pl_derivation.specs.declared.line.Line.{Line}
use Rattle.pl_derivation.specs.Listed.{line_of}
use Rattle.pl_derivation.specs.Texts.{AreWritable}
use Rattle.pl_derivation.specs.Facts.{Fact}
use Rattle.pl_derivation.specs.Facts.Fact.{Seen, TermValue, SeenValue}
use Rattle.pl_derivation.specs.Right.{is_fitting}
use Rattle.pl_derivation.specs.Walks.{is_in, finish, line_for, depth_of}
use Rattle.pl_explain.specs.Looking.{IsInsertionOf}
use Rattle.pl_explain.specs.Given.{has}
use Rattle.pl_explain.specs.Judging.{IsTable}
use Rattle.pl_explain.specs.declared.walk.Walk.{Walk}

-- what is stated are the facts, and the lines are theirs
pub record HasWalked (w : World) (c : Parts) (walk : Walk) (facts : List Fact) : Type 0 where
  pub stated : (f : Fact) → has walk.stated f ≡ is_in facts f
  pub lines : map line_of walk.lines.items ≡ map (line_for (world_of w) (pipeline_of c)) facts

-- the walk stands
pub record HoldsSoFar (w : World) (c : Parts) (walk : Walk) : Type 0 where
  pub facts : List Fact
  pub walked : HasWalked w c walk facts
  pub table : IsTable w c walk.stated walk.rows
  pub writable : AreWritable (map line_of walk.lines.items)
  pub few : length walk.lines.items ≤ most_lines

-- a session has a day
abbrev pub HasDay : spec.World → ℤ → Type 0
HasDay w d = (n : ℕ) × (day : ℤ) × (d ≡ pos n) × (day_of w (pos n) ≡ Some day)

-- the fact may stand in a derivation: it fits, and what it reaches to has days
abbrev pub MayBeDerived : World → Parts → Fact → Type 0
MayBeDerived w c (Seen k a s d) = (is_fitting (world_of w) (pipeline_of c) (Seen k a s d) ≡ true) × HasDay (world_of w) s × HasDay (world_of w) d
MayBeDerived w c (TermValue t a d) =
    (is_fitting (world_of w) (pipeline_of c) (TermValue t a d) ≡ true) × HasDay (world_of w) d × (pos 0 ≤ℤ reach (world_of w).days (term_at (pipeline_of c).graph t) d)
MayBeDerived w c (SeenValue t a s d) =
    (is_fitting (world_of w) (pipeline_of c) (SeenValue t a s d) ≡ true) × HasDay (world_of w) s × HasDay (world_of w) d
    × (pos 0 ≤ℤ reach (world_of w).days (term_at (pipeline_of c).graph t) s)

-- it may, and is at most so deep
abbrev pub CanBeDerivedWithin : World → Parts → ℕ → Fact → Type 0
CanBeDerivedWithin w c depth f = MayBeDerived w c f × (depth_of f ≤ depth)

-- after the facts that it had finished, the walk has finished these, which are at most so deep
abbrev pub Finishes : World → Parts → ℕ → Walk → Walk → List Fact → Type 0
Finishes w c most old new fs =
    (facts : List Fact) → HasWalked w c old facts → (depth : ℕ) → most ≤ depth → HasWalked w c new (fold (finish (world_of w) (pipeline_of c) depth) facts fs)

-- to finish these takes it past the most lines
abbrev pub IsTooLong : World → Parts → ℕ → Walk → List Fact → Type 0
IsTooLong w c most old fs =
    (facts : List Fact) → HasWalked w c old facts → (depth : ℕ) → most ≤ depth → most_lines < length (fold (finish (world_of w) (pipeline_of c) depth) facts fs)

-- What a walk to some facts leaves, which are at most so deep: with Ok it stands and has finished them, and
-- TooLong says that they take it past the most lines.
pub record IsWalkTo {T : Type 0} (w : World) (c : Parts) (most : ℕ) (fs : List Fact) (old new : Walk) (result : Result T ExplainError) : Type 0 where
  pub stands : OnOk result (HoldsSoFar w c new)
  pub finished : OnOk result (Finishes w c most old new fs)
  pub long : IfErr result (λ e. e ≡ TooLong → IsTooLong w c most old fs)

-- What is left where a fact with its number and its line is put: it is stated, the line comes after the others,
-- and the rows stay. TooLong says that there were the most lines already.
pub record IsPut {T : Type 0} (f : Fact) (x : ℤ) (line : Line) (old new : Walk) (result : Result T ExplainError) : Type 0 where
  pub stated : OnOk result (IsInsertionOf f x old.stated new.stated)
  pub lines : OnOk result (new.lines.items ≡ old.lines.items ++ line ∷ [])
  pub few : OnOk result (length new.lines.items ≤ most_lines)
  pub rows : new.rows ≡ old.rows
  pub long : IfErr result (λ e. e ≡ TooLong → length old.lines.items ≡ most_lines)
