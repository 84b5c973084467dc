use Rattle.std.proofs.Common.{◌∙◌, ◌++◌, ap, false, refl}
use Rattle.std.proofs.lemmas.Result.{err_from_is_err_and}
use Rattle.pl_words.specs.declared.request.InputFile.TheVariants.{Numbers, Results}
use Rattle.pl_words.specs.Views.{world_names_of}
use Rattle.pl_load.specs.Held.{results_asked}
use Rattle.pl_load.specs.Work.{numbers_steps, results_steps}
use Rattle.pl_load.proofs.Joined.{file-read, is_file, numbers-one, results-one, stops, last-done}
use Rattle.pl_load.proofs.loading.read_figures.Goals as goal

pub returns-in_err-first-clause-figures : goal.returns-in_err-first-clause-figures
returns-in_err-first-clause-figures g c = λ asked keeper names.
    let p = err_from_is_err_and c.from_residual.result c.from_residual.ensures.1 in
    rw (p.1, p.2) (stops (file-read keeper asked Numbers names.numbers (numbers-one _ _) c.in_err-first.ensures.read) _ (λ held. refl))

pub returns-clause-figures : goal.returns-clause-figures
returns-clause-figures g c = λ asked keeper names.
    let q = world_names_of c.args.names.now in
    let assets = c.args.assets.now in
    last-done c.read_results.result (file-read keeper asked Numbers names.numbers (numbers-one _ _) c.in_ok-first.ensures.read)
    (file-read keeper asked Results names.results (results-one _ _ _) c.read_results.ensures.read) (is_file Numbers) false
    (λ f r m. ap (λ t. numbers_steps assets q.numbers (f.file Numbers) ++ results_steps assets t q.results (r.file Results)) m)
    (λ f r y m h. ap (λ t. results_asked assets t q.results (r.file Results)) m ∙ h)
