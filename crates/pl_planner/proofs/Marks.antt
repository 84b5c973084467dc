-- The outputs, marked one after another.
use Rattle.std.proofs.Common.{◌≡◌, ℕ, zero, suc, ◌+◌, ◌<◌, List, [], ◌∷◌, ◌++◌, length, map, take, Option, Some, None, IfSome, option_map, slice_get, true, refl, sym, ◌∙◌, ap, arith, length-set}
use Rattle.std.proofs.lemmas.List.Sums.{fold-append}
use Rattle.pl_terms.specs.declared.checked.NamedColumn.{NamedColumn}
use Rattle.pl_terms.specs.declared.node.TermId.{TermId}
use Rattle.pl_terms.specs.Checked.{Parts, columns_of, pipeline_of, IsChecked}
use Rattle.pl_terms.specs.Nodes.{number_of}
use Rattle.pl_pipeline.specs.Table as table
use Rattle.pl_pipeline.proofs.Contained.{in-alone}
use Rattle.pl_planner.specs.declared.uses.Use.{Use}
use Rattle.pl_planner.specs.Uses.{marked, all_marked}
use Rattle.pl_planner.specs.Asked.{wanted}
use Rattle.pl_planner.proofs.Pipelines.{IsPipeline, is-pipeline, with-outputs, column-in, screen-in}

abbrev terms : List NamedColumn → List ℕ
terms cs = map (λ (c : table.NamedColumn). c.term) (columns_of cs)

pub no-columns : terms [] ≡ []
unfolding columns_of
no-columns = refl

terms-more : (cs : List NamedColumn) (i : ℕ) (t : TermId) → option_map (λ (c : NamedColumn). c.term) (slice_get cs i) ≡ Some t → terms (take (i + 1) cs) ≡ terms (take i cs) ++ t.0 ∷ []
unfolding columns_of
terms-more [] i t e = cc
terms-more (c ∷ cs) zero t e = let is : c.term ≡ t = cc in ap (λ (x : TermId). x.0 ∷ []) is
terms-more (c ∷ cs) (suc i) t e =
    let s : suc i + 1 ≡ suc (i + 1) = omega arith in
    ap (λ m. terms (take m (c ∷ cs))) s ∙ ap (λ l. c.term.0 ∷ l) (terms-more cs i t e)

pub one-marked : (us : List Use) (n : ℕ) (cs : List NamedColumn) (i : ℕ) (t : TermId) → option_map (λ (c : NamedColumn). c.term) (slice_get cs i) ≡ Some t
    → marked n (all_marked us n (terms (take i cs))) t.0 ≡ all_marked us n (terms (take (i + 1) cs))
one-marked us n cs i t e = sym (ap (all_marked us n) (terms-more cs i t e) ∙ fold-append (marked n) us (terms (take i cs)) (t.0 ∷ []))

pub long-marked : (us : List Use) (n : ℕ) (ts : List ℕ) → length (all_marked us n ts) ≡ length us
long-marked us n [] = refl
long-marked us n (t ∷ ts) = long-marked (marked n us t) n ts ∙ length-set us t (record { used = true; extra = 0; last = n })

column-there : (cs : List NamedColumn) (i : ℕ) (t : TermId) → option_map (λ (c : NamedColumn). c.term) (slice_get cs i) ≡ Some t → (n : table.NamedColumn) × (slice_get (columns_of cs) i ≡ Some n) × (n.term ≡ t.0)
unfolding columns_of
column-there [] i t e = cc
column-there (c ∷ cs) zero t e = let is : c.term ≡ t = cc in (record { name = c.name; term = c.term.0 }, refl, ap (λ (x : TermId). x.0) is)
column-there (c ∷ cs) (suc i) t e = column-there cs i t e

pub column-within : (p : Parts) → IsChecked (pipeline_of p) → (i : ℕ) (t : TermId) → option_map (λ (c : NamedColumn). c.term) (slice_get p.columns i) ≡ Some t → t.0 < length (pipeline_of p).graph
column-within p k i t e =
    let c = column-there p.columns i t e in
    let l : (c.0).term < length (pipeline_of p).graph = column-in (pipeline_of p) k i c.0 c.1 in
    let is = c.2 in
    omega arith

pub screen-within : (p : Parts) → IsChecked (pipeline_of p) → (t : TermId) → p.screen ≡ Some t → t.0 < length (pipeline_of p).graph
screen-within p k t e = screen-in (pipeline_of p) k t.0 (ap (option_map number_of) e)

-- with what is wanted for its outputs a checked pipeline is one
pub wanted-pipeline : (p : Parts) → IsChecked (pipeline_of p) → (only : Option TermId) → IfSome only (λ t. number_of t < length (pipeline_of p).graph)
    → IsPipeline (pipeline_of p).graph (wanted (pipeline_of p) (option_map number_of only))
wanted-pipeline p k None h = is-pipeline (pipeline_of p) k
wanted-pipeline p k (Some t) h = with-outputs (pipeline_of p) k (t.0 ∷ []) (λ o e. omega (arith, in-alone t.0 o e, h))
