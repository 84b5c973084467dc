-- Worlds and pipelines with other sids in the same order.
use Rattle.std.specs.Prelude.{◌≡◌, ℕ, ◌<◌, map}
use Rattle.pl_spec.specs.declared.AssetRow.{AssetRow}
use Rattle.pl_spec.specs.Numbers.{NumberRow}
use Rattle.pl_spec.specs.World.{World, LabelRow, Bar, Adjustment}
use Rattle.pl_pipeline.specs.Kind.{Kind}
use Rattle.pl_pipeline.specs.Kind.Kind.{StaticSids}
use Rattle.pl_pipeline.specs.Term.{Node}
use Rattle.pl_pipeline.specs.Table.{Pipeline, Row, table}

-- of two sids the smaller has the smaller name
abbrev pub Rises : (ℕ → ℕ) → Type 0
Rises f = (a b : ℕ) → a < b → f a < f b

-- the world with another sid in each row
abbrev pub renamed_world : (ℕ → ℕ) → World → World
renamed_world f w = record {
  days = w.days;
  assets = map (λ (x : AssetRow). record x { sid = f x.sid }) w.assets;
  labels = map (λ (x : LabelRow). record x { sid = f x.sid }) w.labels;
  texts = w.texts;
  bars = map (λ (x : Bar). record x { sid = f x.sid }) w.bars;
  adjustments = map (λ (x : Adjustment). record x { sid = f x.sid }) w.adjustments;
  numbers = map (λ (x : NumberRow). record x { sid = f x.sid }) w.numbers;
}

-- a pipeline names sids in its lists of sids alone
abbrev pub renamed_kind : (ℕ → ℕ) → Kind → Kind
renamed_kind f (StaticSids sids) = StaticSids (map f sids)
renamed_kind f k = k

abbrev pub renamed_node : (ℕ → ℕ) → Node → Node
renamed_node f n = record n { kind = renamed_kind f n.kind }

abbrev pub renamed_pipeline : (ℕ → ℕ) → Pipeline → Pipeline
renamed_pipeline f p = record p { graph = map (renamed_node f) p.graph }

abbrev pub renamed_row : (ℕ → ℕ) → Row → Row
renamed_row f r = record r { sid = f r.sid }

-- the table is the same but for the sids
abbrev pub SidsAreNames : Type 0
SidsAreNames = (f : ℕ → ℕ) → Rises f → (w : World) (p : Pipeline) (from to : ℕ)
    → table (renamed_world f w) (renamed_pipeline f p) from to ≡ map (renamed_row f) (table w p from to)
