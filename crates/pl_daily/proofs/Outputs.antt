-- Outputs are used.
use Rattle.std.proofs.Common.{◌≡◌, ℕ, ◌<◌, true, length, map, Some, option_map, option_to_list, slice_get, sym, ◌∙◌, ap, arith}
use Rattle.std.proofs.lemmas.List.{length-map}
use Rattle.std.proofs.lemmas.Option.{slice_get_within}
use Rattle.circular_buffer.proofs.Places.{slice_get-append_left, slice_get-append_right}
use Rattle.pl_planner.proofs.Pipelines.{downsampled-input}
use Rattle.pl_spec.specs.declared.Frequency.{Frequency}
use Rattle.pl_pipeline.specs.Kind.Kind.{Downsample}
use Rattle.pl_pipeline.specs.Table.{Pipeline, NamedColumn}
use Rattle.pl_pipeline.specs.Term.{Node}
use Rattle.pl_pipeline.specs.Term.Input.{TermInput}
use Rattle.pl_terms.specs.Checked.{IsChecked, Parts, columns_of, pipeline_of}
use Rattle.pl_terms.specs.declared.checked.NamedColumn as code
use Rattle.pl_terms.specs.declared.node.TermId.{TermId}
use Rattle.pl_terms.specs.Sorts.{all_fit, places}
use Rattle.pl_terms.specs.Uses.{is_used}
use Rattle.pl_daily.proofs.Firsts.{column-at, output-used}

abbrev term_of : NamedColumn → ℕ
term_of c = c.term

pub screen-used : (p : Pipeline) → IsChecked p → (t : ℕ) → p.screen ≡ Some t → is_used p t ≡ true
screen-used p ok t e =
    let long : length (map term_of p.columns) ≡ length p.columns = length-map p.columns term_of in
    output-used p ok (length p.columns) t
    (slice_get-append_right (map term_of p.columns) (option_to_list p.screen) (length p.columns) 0 (omega (arith, long)) ∙ ap (λ o. slice_get (option_to_list o) 0) e)

pub column-term-used : (ps : Parts) → IsChecked (pipeline_of ps) → (i : ℕ) (t : TermId) → option_map (λ (c : code.NamedColumn). c.term) (slice_get ps.columns i) ≡ Some t → is_used (pipeline_of ps) t.0 ≡ true
column-term-used ps ok i t e =
    let cs = columns_of ps.columns in
    let at = column-at ps.columns i t e in
    let inside : i < length (map term_of cs) = slice_get_within (map term_of cs) i t.0 at in
    output-used (pipeline_of ps) ok i t.0 (slice_get-append_left (map term_of cs) (option_to_list (pipeline_of ps).screen) i inside ∙ at)

-- a downsampled term has a term as its first input
pub downsample-input : (p : Pipeline) → IsChecked p → (k : ℕ) (n : Node) (f : Frequency) → slice_get p.graph k ≡ Some n → n.kind ≡ Downsample f → (u : ℕ) × (slice_get n.inputs 0 ≡ Some (TermInput u))
unfolding places
downsample-input p ok k n f at kind = downsampled-input p.graph n.inputs (ap (λ q. all_fit p.graph (places q) n.inputs) (sym kind) ∙ (ok.nodes k n at).inputs)
