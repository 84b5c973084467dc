-- The day of the record that a value is of.
use Rattle.std.proofs.Common.{◌≡◌, ℕ, ◌<◌, length, true, false, ℤ, pos, Some, None, slice_get, refl, sym, ◌∙◌, ap}
use Rattle.std.specs.Option.{option_and_then}
use Rattle.std.proofs.lemmas.Bool.{true≢false}
use Rattle.pl_spec.specs.World.{World as SpecWorld, exists, day_of}
use Rattle.pl_spec.specs.Numbers.{known_at}
use Rattle.pl_spec.specs.declared.Figure.{Figure}
use Rattle.pl_pipeline.specs.Kind as kinds
use Rattle.pl_pipeline.specs.Kind.{Kind}
use Rattle.pl_pipeline.specs.Table.{Pipeline}
use Rattle.pl_pipeline.specs.Value.{name_at}
use Rattle.pl_terms.specs.declared.node.Node.{Node}
use Rattle.pl_terms.specs.Kinds.{kind_of}
use Rattle.pl_terms.specs.Nodes.{node_of}
use Rattle.pl_terms.specs.Checked.{Parts, pipeline_of, IsChecked}
use Rattle.pl_terms.proofs.Graphs.{graph-at}
use Rattle.pl_values.proofs.Plain.{number-below}
use Rattle.pl_derivation.specs.Facts.{kind_known, known_day}
use Rattle.pl_derivation.specs.Facts.Fact.{TermValue}
use Rattle.pl_world.specs.declared.world.World.{World}
use Rattle.pl_world.specs.Present.{is_number_kind}
use Rattle.pl_world.specs.Worlds.{world_of}

-- an asset that does not exist has no record
pub gone-unknown : (w : SpecWorld) (p : Pipeline) (t a : ℕ) (d : ℤ) → exists w a d ≡ false → None ≡ known_day w p (TermValue t a d)
gone-unknown w p t a d gone = rw gone refl

other-kind : (w : SpecWorld) (p : Pipeline) (k : Kind) (a : ℕ) (d : ℤ) → is_number_kind k ≡ false → None ≡ kind_known w p k a d
other-kind w p (kinds.Number f name) a d h = absurd (true≢false h)
other-kind w p k a d h = refl

module _ (w : World) (c : Parts) (t : ℕ) (n : Node) (is : slice_get c.graph t ≡ Some n) (a s : ℕ) where
  place : slice_get (pipeline_of c).graph t ≡ Some (node_of n)
  place = graph-at c.graph t n is

  -- the name of a number is one of the pipeline's
  pub known-named : IsChecked (pipeline_of c) → (f : Figure) (name : ℕ) → kind_of n.kind ≡ kinds.Number f name → name < length (pipeline_of c).names
  unfolding node_of
  known-named checked f name e = number-below (kind_of n.kind) n.window _ f name e (checked.nodes t (node_of n) place).parameters

  module _ (there : exists (world_of w) a (pos s) ≡ true) where
    here : known_day (world_of w) (pipeline_of c) (TermValue t a (pos s)) ≡ kind_known (world_of w) (pipeline_of c) (kind_of n.kind) a (pos s)
    unfolding node_of
    here = rw (there, place) refl

    -- neither has a term that is no number
    pub other-unknown : is_number_kind (kind_of n.kind) ≡ false → None ≡ known_day (world_of w) (pipeline_of c) (TermValue t a (pos s))
    other-unknown h = other-kind (world_of w) (pipeline_of c) (kind_of n.kind) a (pos s) h ∙ sym here

    -- the day of the record of a number
    pub number-known : (f : Figure) (name : ℕ) → kind_of n.kind ≡ kinds.Number f name
        → option_and_then (known_at (world_of w).numbers (name_at (pipeline_of c).names name) a) (day_of (world_of w) (pos s)) ≡ known_day (world_of w) (pipeline_of c) (TermValue t a (pos s))
    number-known f name e = sym (here ∙ ap (λ k. kind_known (world_of w) (pipeline_of c) k a (pos s)) e)
