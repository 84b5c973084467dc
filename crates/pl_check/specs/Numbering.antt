-- How the numbers of a typed script follow from its trees.
use Rattle.std.specs.Prelude.{◌≡◌, ◌<◌, ◌≤◌, ◌⊎◌, ℕ, List, [], ◌∷◌, ◌++◌, length, map, option_map, Ok, Err}
use Rattle.std.specs.List.{Contains}
use Rattle.pl_spec.specs.Limits.{most_terms}
use Rattle.pl_pipeline.specs.Term.{Term, tree_at, trees, term_at}
use Rattle.pl_pipeline.specs.Table.{Pipeline}
use Rattle.pl_syntax.specs.Spells.{Parsed}
use Rattle.pl_check.specs.declared.fault.CheckFault.TheVariants.{TooManyTerms}
use Rattle.pl_check.specs.Faults.{Broken}
use Rattle.pl_check.specs.Typed.{typed}
use Rattle.pl_check.specs.Trees.{ScriptTrees, tree_column, script_trees}

-- `once` is the trees seen before and then these, of equal ones only the first
abbrev pub AreFirsts : List Term → List Term → List Term → Type 0
AreFirsts seen [] once = once ≡ seen
AreFirsts seen (t ∷ ts) once = (Contains seen t × AreFirsts seen ts once) ⊎ (¬ Contains seen t × AreFirsts (seen ++ t ∷ []) ts once)

-- more than 256 different trees are among these
pub record HasMany (ts : List Term) : Type 0 where
  pub some : List Term
  pub many : most_terms < length some
  pub different : (j k : ℕ) → j < length some → k < length some → tree_at some j ≡ tree_at some k → j ≡ k
  pub among : (k : ℕ) → k < length some → Contains ts (tree_at some k)

-- The terms are the script's trees in the order of judging, of equal ones only the first, numbered from 0.
-- Each column and the screen are the numbers of their trees. There are at most 256.
pub record AreNumbered (t : ScriptTrees) (p : Pipeline) : Type 0 where
  pub terms : AreFirsts [] t.trees (trees p.graph)
  pub columns : map (tree_column p.graph) p.columns ≡ t.columns
  pub screen : option_map (term_at p.graph) p.screen ≡ t.screen
  pub names : p.names ≡ t.names
  pub few : length p.graph ≤ most_terms

-- a typed script is its trees, numbered
abbrev pub TypedAreTrees : Type 0
TypedAreTrees = (s : Parsed) (p : Pipeline) → typed s ≡ Ok p → (t : ScriptTrees) × (script_trees s ≡ Ok t) × AreNumbered t p

-- a script that is refused breaks the same rule first without numbers, unless it has too many terms
abbrev pub FaultsAreTrees : Type 0
FaultsAreTrees = (s : Parsed) (b : Broken) → typed s ≡ Err b → (b.fault ≡ TooManyTerms) ⊎ (script_trees s ≡ Err b)

-- a script whose trees break no rule is typed, or it has more than 256 different trees, and so too many terms
abbrev pub TypedUnlessMany : Type 0
TypedUnlessMany = (s : Parsed) (t : ScriptTrees) → script_trees s ≡ Ok t
    → ((p : Pipeline) × (typed s ≡ Ok p)) ⊎ ((b : Broken) × (typed s ≡ Err b) × (b.fault ≡ TooManyTerms) × HasMany t.trees)
