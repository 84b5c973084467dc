-- What a checked pipeline keeps that plans rest on.
use Rattle.std.proofs.Common.{◌≡◌, ℕ, suc, ◌-◌, ◌<◌, ◌≤◌, ◌==◌, nat_le, true, false, ℤ, pos, ◌-ℤ◌, unsigned_abs, List, [], ◌∷◌, ◌++◌, length, map, Option, Some, None, slice_get, option_to_list, refl, sym, ◌∙◌, ap, arith, ◌⊎◌, inl, inr}
use Rattle.std.proofs.lemmas.Int.{ints}
use Rattle.std.proofs.lemmas.Bool.{and_parts, true≢false, eqb-true, or_cases, or_left, eq-eqb}
use Rattle.std.proofs.lemmas.Bool.Decides.{nat_tests}
use Rattle.std.proofs.lemmas.Option.{slice_get_within}
use Rattle.pl_spec.specs.Limits.{most_window}
use Rattle.pl_pipeline.specs.Kind as kind
use Rattle.pl_pipeline.specs.Kind.{Kind}
use Rattle.pl_pipeline.specs.Table.{Pipeline, NamedColumn}
use Rattle.pl_spec.specs.declared.Frequency.{Frequency}
use Rattle.pl_spec.specs.Periods.{period_start}
use Rattle.pl_pipeline.specs.Term.{Graph, Node, Input, IsGraph}
use Rattle.pl_pipeline.specs.Term.Input.{BarColumn, TermInput}
use Rattle.pl_pipeline.specs.Graph.{contains, reads_at, Used}
use Rattle.pl_pipeline.specs.Graph.Used.{output, mentioned}
use Rattle.pl_pipeline.proofs.Contained.{in-alone}
use Rattle.pl_terms.specs.declared.row.Sort.TheVariants.{Filters}
use Rattle.pl_terms.specs.Sorts.{has_window, form_fits, is_window_from, sort_at, places, all_fit, AnyTerm, is_downsampled}
use Rattle.pl_terms.specs.declared.kind.WindowForm.{WindowForm}
use Rattle.pl_terms.specs.declared.kind.WindowForm.TheVariants.{Bar, LongSeries, LongColumns, Pairs, Regression, TwoColumns}
use Rattle.pl_terms.specs.Windows.{row_of}
use Rattle.pl_terms.specs.Checked.{IsChecked}
use Rattle.pl_terms.specs.Uses.{outputs}
use Rattle.pl_terms.specs.Nodes.{node_of}
use Rattle.pl_terms.specs.Kinds.{kind_of}
use Rattle.pl_terms.specs.declared.node.Node as code
use Rattle.pl_planner.specs.Extra.{back_from}
use Rattle.pl_planner.proofs.Moved.{early-still}
use Rattle.pl_planner.specs.Plans.{Planned, IsPlanOf, is_used}
use Rattle.pl_planner.specs.declared.uses.Use.{Use}
use Rattle.pl_planner.specs.Uses.{AreUses}
use Rattle.pl_planner.proofs.Live.{used_within}
use Rattle.pl_laws.proofs.Uses.{lower, used_terms-complete}

abbrev Fits : ℕ → Type 0
Fits w = (1 ≤ w) × (w ≤ most_window)

between : (least w : ℕ) → 1 ≤ least → is_window_from least w ≡ true → Fits w
between least w h e =
    let r = and_parts (nat_le least w) (nat_le w most_window) e in
    let low = r.0 in
    let high = r.1 in
    let a : 1 ≤ w = grind (arith, nat_tests) in
    let b : w ≤ most_window = grind (arith, nat_tests) in
    (a, b)

exactly : (n w : ℕ) → 1 ≤ n → n ≤ 2 → (w == n) ≡ true → Fits w
exactly n w h l e = let is : w ≡ n = eqb-true w n e in (omega arith, omega arith)

form-fits : (f : WindowForm) (w : ℕ) → form_fits f w ≡ true → Fits w
form-fits Bar w e = exactly 1 w (omega arith) (omega arith) e
form-fits TwoColumns w e = exactly 2 w (omega arith) (omega arith) e
form-fits LongSeries w e = between 2 w (omega arith) e
form-fits LongColumns w e = between 2 w (omega arith) e
form-fits Pairs w e = between 2 w (omega arith) e
form-fits Regression w e = between 2 w (omega arith) e
form-fits f w e = between 1 w (omega arith) e

kind-fits : (k : Kind) (w : ℕ) → has_window k w ≡ true → Fits w
unfolding has_window
kind-fits (kind.Window k) w e = form-fits (row_of k).form w e
kind-fits k w e = exactly 1 w (omega arith) (omega arith) e

-- a node reads its inputs on the session itself, or it reads a term
abbrev pub ReadsTerms : Node → Type 0
ReadsTerms n = ((days : List ℤ) (s : ℤ) → reads_at days n.kind s ≡ s) ⊎ ((t : ℕ) × (slice_get n.inputs 0 ≡ Some (TermInput t)))

-- a term that isn't downsampled reads its inputs on the session itself
pub reads-now : (k : Kind) → is_downsampled k ≡ false → (days : List ℤ) (s : ℤ) → reads_at days k s ≡ s
reads-now (kind.Downsample f) e days s = absurd (true≢false e)
reads-now (kind.Constant c) e days s = refl
reads-now k e days s = refl

pub downsampled-input : (g : Graph) (is : List Input) → all_fit g (AnyTerm ∷ []) is ≡ true → (t : ℕ) × (slice_get is 0 ≡ Some (TermInput t))
downsampled-input g [] h = absurd (let no : false ≡ true = h in cc)
downsampled-input g (BarColumn c ∷ is) h = absurd (let no : false ≡ true = h in cc)
downsampled-input g (TermInput t ∷ is) h = (t, refl)

reads-terms : (g : Graph) (k : Kind) (is : List Input) → all_fit g (places k) is ≡ true → ((days : List ℤ) (s : ℤ) → reads_at days k s ≡ s) ⊎ ((t : ℕ) × (slice_get is 0 ≡ Some (TermInput t)))
unfolding places
reads-terms g (kind.Downsample f) is h = inr (downsampled-input g is h)
reads-terms g (kind.Constant c) is h = inl (λ days s. refl)
reads-terms g k is h = inl (λ days s. refl)

pub record IsPipeline (g : Graph) (outs : List ℕ) : Type 0 where
  pub graph : IsGraph g
  pub outputs_in : (t : ℕ) → contains outs t ≡ true → t < length g
  pub windows : (k : ℕ) (n : Node) → slice_get g k ≡ Some n → (1 ≤ n.window) × (n.window ≤ most_window)
  pub reads : (k : ℕ) (n : Node) → slice_get g k ≡ Some n → ReadsTerms n

-- so are the terms that are used
pub used-inside : (g : Graph) (outs : List ℕ) → IsPipeline g outs → (t : ℕ) → Used g outs t → t < length g
used-inside g outs is t (output h) = is.outputs_in t h
used-inside g outs is t (mentioned u h m) = omega (arith, used-inside g outs is u h, lower g outs is.graph u t m)

columns-in : (g : Graph) (cs : List NamedColumn) (screen : Option ℕ) → ((i : ℕ) (c : NamedColumn) → slice_get cs i ≡ Some c → c.term < length g)
    → ((t : ℕ) → screen ≡ Some t → t < length g) → (o : ℕ) → contains (map (λ (c : NamedColumn). c.term) cs ++ option_to_list screen) o ≡ true → o < length g
columns-in g [] None cols scr o e = absurd (true≢false (sym e))
columns-in g [] (Some t) cols scr o e = omega (arith, in-alone t o e, scr t refl)
columns-in g (c ∷ cs) screen cols scr o e = elim (or_cases (c.term == o) (contains (map (λ (d : NamedColumn). d.term) cs ++ option_to_list screen) o) e) [
  | inl here ↦ omega (arith, eqb-true c.term o here, cols 0 c refl)
  | inr later ↦ columns-in g cs screen (λ j d f. cols (suc j) d f) scr o later
]

sort-within : (g : Graph) (t : ℕ) → sort_at g t ≡ Some Filters → t < length g
sort-within g t e = here (slice_get g t) refl
  where
    here : (o : Option Node) → slice_get g t ≡ o → t < length g
    here None f = let none = rw f at e in cc
    here (Some n) f = slice_get_within g t n f

first-output : (cs : List NamedColumn) (rest : List ℕ) → 1 ≤ length cs → (o : ℕ) × (contains (map (λ (c : NamedColumn). c.term) cs ++ rest) o ≡ true)
first-output [] rest h = absurd (omega arith)
first-output (c ∷ cs) rest h = (c.term, or_left (c.term == c.term) (contains (map (λ (d : NamedColumn). d.term) cs ++ rest) c.term) (eq-eqb c.term c.term refl))

pub some-output : (p : Pipeline) → IsChecked p → (o : ℕ) × (contains (outputs p) o ≡ true)
some-output p c = first-output p.columns (option_to_list p.screen) c.some_column

-- a checked pipeline with these terms for its outputs
pub with-outputs : (p : Pipeline) → IsChecked p → (outs : List ℕ) → ((t : ℕ) → contains outs t ≡ true → t < length p.graph) → IsPipeline p.graph outs
with-outputs p c outs inside = record {
  graph = c.graph;
  outputs_in = inside;
  windows = λ k n e. kind-fits n.kind n.window (c.nodes k n e).window;
  reads = λ k n e. reads-terms p.graph n.kind n.inputs (c.nodes k n e).inputs;
}

pub is-pipeline : (p : Pipeline) → IsChecked p → IsPipeline p.graph (outputs p)
is-pipeline p c = with-outputs p c (outputs p) (columns-in p.graph p.columns p.screen c.columns (λ t e. sort-within p.graph t (c.screen t e)))

-- and with those that these are the uses for
pub pipeline-for : (p : Pipeline) → IsChecked p → (outs : List ℕ) (uses : List Use) → AreUses p.graph outs uses → IsPipeline p.graph outs
pipeline-for p c outs uses are = with-outputs p c outs (λ t h. used_within p.graph outs c.graph are t (output h))

pub output-used : (days : List ℤ) (p : Pipeline) (plan : Planned) → IsChecked p → IsPlanOf days p plan → (t : ℕ) → contains (outputs p) t ≡ true → is_used plan t ≡ true
output-used days p plan ok is t h =
    is.used t ∙ used_terms-complete p.graph (outputs p) ok.graph t ((is-pipeline p ok).outputs_in t h) (output h)

-- ---- the nodes of the code

pub column-in : (p : Pipeline) → IsChecked p → (i : ℕ) (c : NamedColumn) → slice_get p.columns i ≡ Some c → c.term < length p.graph
column-in p k i c e = k.columns i c e

pub screen-in : (p : Pipeline) → IsChecked p → (t : ℕ) → p.screen ≡ Some t → t < length p.graph
screen-in p k t e = sort-within p.graph t (k.screen t e)

pub window-is : (n : code.Node) → (node_of n).window ≡ n.window
unfolding node_of
window-is n = refl

-- ---- how far back a node reads

pub back-own : (days : List ℤ) (s : ℕ) (n : code.Node) (m : ℕ) → is_downsampled (kind_of n.kind) ≡ false → m ≡ back_from days s (node_of n).kind m
unfolding node_of
back-own days s n m h =
    let e : pos s -ℤ (pos s -ℤ pos m) ≡ pos m = omega (arith, ints) in
    sym (ap (λ z. unsigned_abs (pos s -ℤ z)) (reads-now (kind_of n.kind) h days (pos s -ℤ pos m)) ∙ ap unsigned_abs e)

pub back-early : (days : List ℤ) (s : ℕ) (f : Frequency) (m : ℕ) → s < m → m ≡ back_from days s (kind.Downsample f) m
back-early days s f m l =
    let e : pos s -ℤ (pos s -ℤ pos m) ≡ pos m = omega (arith, ints) in
    sym (ap (λ z. unsigned_abs (pos s -ℤ z)) (early-still days (kind.Downsample f) (pos s -ℤ pos m) (omega (arith, ints))) ∙ ap unsigned_abs e)

pub back-start : (days : List ℤ) (s : ℕ) (f : Frequency) (m r : ℕ) → m ≤ s → r ≤ s - m → pos r ≡ period_start f days (pos (s - m)) → s - r ≡ back_from days s (kind.Downsample f) m
back-start days s f m r l within h =
    let at : pos s -ℤ pos m ≡ pos (s - m) = omega (arith, ints) in
    let e : pos s -ℤ pos r ≡ pos (s - r) = omega (arith, ints) in
    sym (ap (λ z. unsigned_abs (pos s -ℤ period_start f days z)) at ∙ ap (λ z. unsigned_abs (pos s -ℤ z)) (sym h) ∙ ap unsigned_abs e)
