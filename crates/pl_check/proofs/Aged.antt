-- The age of a number is a factor, and the number's name is read off its term.
use Rattle.std.proofs.Common.{◌≡◌, ℕ, ◌<◌, Bool, false, List, [], length, Option, Some, None, slice_get, option_map, Ok, refl, sym, ap, subst, ◌∙◌}
use Rattle.std.specs.Prelude.{option_and_then}
use Rattle.std.specs.Result.{IfOk}
use Rattle.std.proofs.lemmas.Result.{IfOk-at_ok}
use Rattle.std.proofs.lemmas.Option.{slice_get_within}
use Rattle.pl_grammar.specs.declared.Place.{Place}
use Rattle.pl_pipeline.specs.Term.{Graph, Node}
use Rattle.pl_pipeline.specs.Text.{kind_at}
use Rattle.pl_terms.specs.declared.node.Node as code_node
use Rattle.pl_terms.specs.declared.node.TermId.{TermId}
use Rattle.pl_terms.specs.declared.row.Sort.{Sort}
use Rattle.pl_terms.specs.Kinds.{kind_of}
use Rattle.pl_terms.specs.Nodes.{Interned, interned, node_of, graph_of}
use Rattle.pl_terms.specs.Sorts.{sort_of, sort_at}
use Rattle.pl_terms.proofs.Graphs.{graph-at}
use Rattle.pl_check.specs.declared.fault.CheckFault.TheVariants.{BadArgument, TooManyTerms}
use Rattle.pl_check.specs.declared.operation.Operation.TheVariants as op
use Rattle.pl_check.specs.declared.value.Value as declared
use Rattle.pl_check.specs.declared.value.Value.TheVariants as code
use Rattle.pl_check.specs.Values.{Value, Bound}
use Rattle.pl_check.specs.Seen.{value_of}
use Rattle.pl_check.specs.Rules.{Written, form, broken}
use Rattle.pl_check.specs.Results.{kind_for, names_after, node_for, result_for}
use Rattle.pl_check.specs.Standing.{IsFactor}
use Rattle.pl_check.specs.Typed.{Terms, Found, found, name_or_none, name_of_kind, with_constants, with_node, node_made, made, applied, called}
use Rattle.pl_check.proofs.Chained.{found-ok, some-ok, unless-ok}
use Rattle.pl_check.proofs.Growing.{terms}
use Rattle.pl_check.proofs.Placing.{bind-some}

factor-for : (bs : List Bound) (t : ℕ) → IsFactor (result_for op.Age bs t)
unfolding result_for kind_for sort_of
factor-for bs t = tt

factor-node : (bs : List Bound) (names : List (List ℕ)) (r : Found Value) (o : Option Interned) → with_node op.Age bs names o ≡ Some r → IsFactor r.value
factor-node bs names r None h = absurd (let no : None ≡ Some r = h in cc)
factor-node bs names r (Some i) h =
    let x = found (result_for op.Age bs i.number) (terms i.graph (names_after op.Age bs names)) in
    let same : x ≡ r = (let q : Some x ≡ Some r = h in cc) in
    subst (λ (y : Found Value). IsFactor y.value) same (factor-for bs i.number)

factor-made : (bs : List Bound) (s : Terms) (r : Found Value) → made interned op.Age bs s ≡ Some r → IsFactor r.value
unfolding made node_made
factor-made bs s r h =
    let w = bind-some (with_constants interned [] s.graph bs) (λ q. node_made interned op.Age q.0 (terms q.1 s.names)) r h in
    factor-node w.0.0 s.names r (interned w.0.1 (node_for op.Age w.0.0 s.names)) w.2

factor-called : (p : Place) (bs : List Bound) (ws : List Written) (s : Terms) → IfOk (called interned p op.Age bs ws s) (λ r. IsFactor r.value)
unfolding called applied
factor-called p bs ws s =
    found-ok (λ r. IsFactor r.value) BadArgument p (form op.Age false bs ws) (λ cs. applied interned p op.Age cs s) (λ cs e.
    unless-ok (λ r. IsFactor r.value) (broken cs) p _ (λ b. some-ok (λ r. IsFactor r.value) TooManyTerms p (made interned op.Age cs s) (λ r h. factor-made cs s r h)))

pub age-is-factor : (p : Place) (bs : List Bound) (ws : List Written) (s t : Terms) (x : Value) → called interned p op.Age bs ws s ≡ Ok (found x t) → IsFactor x
age-is-factor p bs ws s t x h = IfOk-at_ok (λ r. IsFactor r.value) h (factor-called p bs ws s)

-- ---- in the code

-- a term that is of some sort is one of the graph
pub sorted-stands : (g : Graph) (t : ℕ) (x : Sort) → sort_at g t ≡ Some x → t < length g
sorted-stands g t x h = here (slice_get g t) refl
  where
    here : (o : Option Node) → slice_get g t ≡ o → t < length g
    here (Some n) e = slice_get_within g t n e
    here None e = absurd (let no : None ≡ Some x = sym (ap (option_map (λ n. sort_of (kind_at g t))) e) ∙ h in cc)

pub named-term : (ns : List code_node.Node) (names : List (List ℕ)) (t : ℕ) (n : code_node.Node) (o : Option (List ℕ)) → slice_get ns t ≡ Some n → o ≡ name_of_kind names (kind_of n.kind)
    → name_or_none o ≡ name_or_none (option_and_then (λ m. name_of_kind names m.kind) (slice_get (graph_of ns) t))
unfolding node_of
named-term ns names t n o at e = ap name_or_none (e ∙ sym (ap (option_and_then (λ m. name_of_kind names m.kind)) (graph-at ns t n at)))

pub only-factor : (v : declared.Value) → IsFactor (value_of v) → ((t : TermId) (safe : Bool) → v ≡ code.Factor t safe → ⊥) → ⊥
only-factor (code.Factor t safe) h not = not t safe refl
only-factor v h not = h
