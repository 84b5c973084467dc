-- A line judged by what is stated of the facts of the lines before it.
use Rattle.std.specs.Prelude.{◌≡◌, ℕ, ◌<◌, length, Bool, true, false, ◌&&◌, ◌||◌, if◌then◌else◌, IsTrue, Option, Some, None}
use Rattle.pl_spec.specs.World as spec
use Rattle.pl_spec.specs.Parts.{sid_at}
use Rattle.pl_pipeline.specs.Table.{Pipeline}
use Rattle.pl_terms.specs.Checked.{Parts, pipeline_of}
use Rattle.pl_terms.specs.Uses.{is_used}
use Rattle.pl_world.specs.declared.world.World.{World}
use Rattle.pl_world.specs.Worlds.{world_of}
use Rattle.pl_derivation.specs.Lines.{Line}
use Rattle.pl_derivation.specs.Facts.{Fact, number_in, premises}
use Rattle.pl_derivation.specs.Facts.Fact.{TermValue}
use Rattle.pl_derivation.specs.Right.{fact_of, has_sid, is_about, is_fitting}
use Rattle.pl_derivation.specs.Laws.{states_world}
use Rattle.pl_explain.specs.declared.fact_numbers.FactNumbers.{FactNumbers}
use Rattle.pl_explain.specs.declared.rows.Rows.{Rows}
use Rattle.pl_explain.specs.Given.{has, has_all, IsReady, StatesTruth, KeepsRows}

-- a value of which something is stated already
abbrev pub is_repeat : FactNumbers → Fact → Bool
is_repeat stated (TermValue t a d) = has stated (TermValue t a d)
is_repeat stated f = false

abbrev pub judged_about : spec.World → Pipeline → FactNumbers → Line → Option Fact → Bool
judged_about w p stated l None = false
judged_about w p stated l (Some f) =
    if is_repeat stated f then states_world w p l f
    else is_fitting w p f && has_all stated (premises w p (number_in w p) f) && states_world w p l f

-- the line is right, where what is stated is what the right lines before it tell
abbrev pub judged : spec.World → Pipeline → FactNumbers → Line → Bool
judged w p stated l = judged_about w p stated l (fact_of w l)

-- What is stated is the world's, of facts that may stand in a derivation; and so are the rows.
pub record IsTable (w : World) (c : Parts) (stated : FactNumbers) (rows : Rows) : Type 0 where
  pub ready : IsReady w c
  pub truth : StatesTruth (world_of w) (pipeline_of c) stated
  pub fits : (f : Fact) → has stated f ≡ true → is_fitting (world_of w) (pipeline_of c) f ≡ true
  pub kept : KeepsRows w c stated rows

-- the fact of the line is stated besides those before
abbrev pub StatesLine : spec.World → FactNumbers → FactNumbers → Line → Type 0
StatesLine w old new l = (f : Fact) → has new f ≡ (has old f || is_about w f l)

-- What is left of a line that was judged: whether it is right, what is stated then, and that its fact is stated
-- where it is right.
pub record IsJudgement (w : World) (c : Parts) (l : Line) (old new : FactNumbers) (rows : Rows) (right : Bool) : Type 0 where
  pub exact : right ≡ judged (world_of w) (pipeline_of c) old l
  pub table : IsTable w c new rows
  pub stated : IsTrue right → StatesLine (world_of w) old new l

-- the sid is that of the column
pub record IsPlace (w : World) (sid col : ℕ) : Type 0 where
  pub within : col < length w.assets.now
  pub sid_is : sid_at w.assets.now col ≡ sid
  pub known : has_sid (world_of w) sid ≡ true

-- the term is that of the number, and it is used
pub record IsUsedTerm (c : Parts) (number t : ℕ) : Type 0 where
  pub same : t ≡ number
  pub within : t < length c.graph
  pub used : is_used (pipeline_of c) number ≡ true
