-- The script means the pipeline, by computing.
use Rattle.std.proofs.Common.{◌≡◌, Ok, Err, refl, sym, ap, ◌∙◌}
use Rattle.pl_pipeline.specs.Table.{Pipeline}
use Rattle.pl_grammar.specs.declared.Place.{Place}
use Rattle.pl_syntax.specs.Spells.{Parsed}
use Rattle.pl_check.specs.declared.fault.CheckFault.{CheckFault}
use Rattle.pl_check.specs.declared.fault.CheckError.{CheckError}
use Rattle.pl_check.specs.declared.fault.CheckError.TheVariants.{Fault}
use Rattle.pl_check.specs.Answers.{Fails}
use Rattle.pl_check.specs.Typed.{typed, statements_judged, statement_judged, worth, args_worth, called, applied, made, node_made, with_constants, factor_value, asks_factor, object_of, stored, let_judged, column_judged, screen_judged, defined, bar_column}
use Rattle.pl_check.specs.Rules.{form, broken, place_at, named_in, takes, is_within, is_window, is_safe_for}
use Rattle.pl_check.specs.Results.{kind_for, node_for, result_for, gives_input, columns_of, method_of, order_of}
use Rattle.pl_check.specs.Operations.{parameters, function_named, member_named, operation_in}
use Rattle.pl_check.specs.Parameters.{name_of, number_of}
use Rattle.pl_check.specs.Values.{given}
use Rattle.pl_terms.specs.Nodes.{interned, place_from, same_node}
use Rattle.pl_terms.specs.Sorts.{sort_of, is_safe_kind, is_safe_over}
use Rattle.pl_terms.specs.Codes.{code_of}
use Rattle.pl_terms.specs.Windows.{formula_named, is_named}
use Rattle.pl_bench.specs.Pipeline.{bench_script, bench_pipeline}

pub script-means : typed bench_script ≡ Ok bench_pipeline
unfolding typed statements_judged statement_judged worth args_worth called applied made node_made with_constants factor_value asks_factor object_of stored let_judged column_judged screen_judged defined bar_column form broken place_at named_in takes is_within is_window is_safe_for kind_for node_for result_for sort_of is_safe_kind is_safe_over gives_input columns_of method_of order_of parameters function_named member_named operation_in formula_named is_named name_of number_of given interned place_from same_node code_of bench_script bench_pipeline
script-means = refl

-- so the checker gives that pipeline, and finds no fault
pub means-as : (script : Parsed) (p : Pipeline) → script ≡ bench_script → typed script ≡ Ok p → p ≡ bench_pipeline
means-as script p is h = let told : Ok bench_pipeline ≡ Ok p = sym script-means ∙ ap typed (sym is) ∙ h in cc

no-both : {A B : Type 0} {x : A} {b : B} → Ok x ≡ Err b → ⊥
no-both h = cc

pub keeps-rules : (script : Parsed) (e : CheckError) (f : CheckFault) (p : Place) → script ≡ bench_script → e ≡ Fault f p → Fails e (typed script) → ⊥
keeps-rules script e f p is fault h = let breaks = rw fault at h in no-both (sym script-means ∙ ap typed (sym is) ∙ breaks)
