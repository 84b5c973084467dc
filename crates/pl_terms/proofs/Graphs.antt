-- The nodes and columns of the code are those of the definitions, place by place.
use Rattle.std.proofs.Common.{◌≡◌, ℕ, zero, suc, ◌<◌, ◌==◌, true, List, [], ◌∷◌, length, map, None, Some, slice_get, option_map, option_to_list, ◌∙◌, ap}
use Rattle.std.proofs.lemmas.Bool.{or_left, or_right, eq-eqb}
use Rattle.std.proofs.lemmas.List.{length-map}
use Rattle.std.proofs.lemmas.List.Folds.{list_any-append}
use Rattle.std.proofs.lemmas.Option.{slice_get-map}
use Rattle.pl_pipeline.specs.Graph.{contains}
use Rattle.pl_pipeline.specs.Table.{NamedColumn, Pipeline}
use Rattle.pl_pipeline.proofs.Contained.{used-below}
use Rattle.pl_terms.specs.declared.node.Node as code
use Rattle.pl_terms.specs.declared.checked.NamedColumn as code_column
use Rattle.pl_terms.specs.Nodes.{graph_of, node_of}
use Rattle.pl_terms.specs.Checked.{columns_of, column_of}
use Rattle.pl_terms.specs.Uses.{outputs, is_used}

pub graph-long : (ns : List code.Node) → length (graph_of ns) ≡ length ns
unfolding graph_of
graph-long ns = length-map ns node_of

pub graph-at : (ns : List code.Node) (k : ℕ) (n : code.Node) → slice_get ns k ≡ Some n → slice_get (graph_of ns) k ≡ Some (node_of n)
unfolding graph_of
graph-at ns k n h = slice_get-map node_of ns k ∙ ap (option_map node_of) h

pub columns-long : (cs : List code_column.NamedColumn) → length (columns_of cs) ≡ length cs
unfolding columns_of
columns-long cs = length-map cs column_of

pub column-there : (cs : List code_column.NamedColumn) (i : ℕ) (c : code_column.NamedColumn) → slice_get cs i ≡ Some c → slice_get (columns_of cs) i ≡ Some (column_of c)
unfolding columns_of
column-there cs i c h = slice_get-map column_of cs i ∙ ap (option_map column_of) h

-- ---- outputs and used terms

in-columns : (cs : List NamedColumn) (i : ℕ) (c : NamedColumn) → slice_get cs i ≡ Some c → contains (map (λ (x : NamedColumn). x.term) cs) c.term ≡ true
in-columns [] i c e = absurd (let bad : None ≡ Some c = e in cc)
in-columns (d ∷ cs) zero c e = let is : d ≡ c = cc in or_left (d.term == c.term) (contains (map (λ (x : NamedColumn). x.term) cs) c.term) (eq-eqb d.term c.term (ap (λ (x : NamedColumn). x.term) is))
in-columns (d ∷ cs) (suc i) c e = or_right (d.term == c.term) (contains (map (λ (x : NamedColumn). x.term) cs) c.term) (in-columns cs i c e)

pub column-output : (p : Pipeline) (i : ℕ) (c : NamedColumn) → slice_get p.columns i ≡ Some c → contains (outputs p) c.term ≡ true
column-output p i c e =
    list_any-append (λ (x : ℕ). x == c.term) (map (λ (x : NamedColumn). x.term) p.columns) (option_to_list p.screen)
    ∙ or_left (contains (map (λ (x : NamedColumn). x.term) p.columns) c.term) (contains (option_to_list p.screen) c.term) (in-columns p.columns i c e)

pub used-within : (p : Pipeline) (t : ℕ) → is_used p t ≡ true → t < length p.graph
used-within p t h = used-below p.graph (length p.graph) (outputs p) t h
