-- The keeper is read only where adjustments are asked for.
use Rattle.std.proofs.Common.{◌≡◌, inl, inr, ℤ, ℕ, Bool, true, false, List, [], ◌∷◌, ◌++◌, IsSome, Option, Some, None, option_map, refl, sym, ◌∙◌}
use Rattle.std.specs.List.{list_all}
use Rattle.std.proofs.lemmas.Bool.{true≢false, and_from, and_parts}
use Rattle.std.proofs.lemmas.List.Folds.{list_all-append}
use Rattle.pl_spec.specs.declared.AssetRow.{AssetRow}
use Rattle.pl_outside.specs.declared.keeper.Table.{Table}
use Rattle.pl_words.specs.declared.request.InputFile.TheVariants.{Labels as LabelsFile, Numbers as NumbersFile, Results as ResultsFile, Revisions as RevisionsFile, Derivation as DerivationFile}
use Rattle.pl_words.specs.Request.{Request, Run, Explain, Verify, Daily, Cut, Windows, WorldNames, adjustments_of}
use Rattle.pl_load.specs.Cells.{cell_steps, lines_step}
use Rattle.pl_load.specs.Contents.{Contents}
use Rattle.pl_load.specs.Held.{assets_held, days_held, numbers_asked, pipeline_held, world_held}
use Rattle.pl_load.specs.Steps.{Reading, WorkStep, ReachesRead, source_of}
use Rattle.pl_load.specs.Steps.Source.{Load}
use Rattle.pl_load.specs.Steps.Reading.{Bytes, Rows}
use Rattle.pl_load.specs.Range.{dates_steps, first_window_steps, plan_steps, range_steps, windows_steps}
use Rattle.pl_load.specs.Work.{figures_steps, labels_steps, numbers_steps, results_steps, revisions_steps, data_steps, derivation_step, work}

-- whether no step loads a table, whatever the faults are
abbrev is_no_load : Option Reading → Bool
is_no_load (Some (Rows table rows)) = false
is_no_load reading = true

is-load : (o : Option Reading) (table : Table) → option_map source_of o ≡ Some (Load table) → is_no_load o ≡ false
is-load None table e = absurd (cc)
is-load (Some (Bytes file bytes)) table e = absurd (cc)
is-load (Some (Rows t rows)) table e = refl

abbrev loads_none : List WorkStep → Bool
loads_none steps = list_all (λ (s : WorkStep). is_no_load s.reads) steps

no-table : (ss : List WorkStep) (table : Table) → loads_none ss ≡ true → ReachesRead ss (Load table) → ⊥
no-table [] table e h = h
no-table (s ∷ ss) table e h =
    let r = and_parts (is_no_load s.reads) (loads_none ss) e in
    elim h [ inl p ↦ true≢false (sym r.0 ∙ is-load s.reads table p) | inr q ↦ no-table ss table r.1 q.1 ]

both-none : (ss ts : List WorkStep) → loads_none ss ≡ true → loads_none ts ≡ true → loads_none (ss ++ ts) ≡ true
both-none ss ts e f = list_all-append (λ (s : WorkStep). is_no_load s.reads) ss ts ∙ and_from (loads_none ss) (loads_none ts) e f

-- ---- steps that are there only where a name is asked for

labels-none : (assets : List AssetRow) (name file : Option (List ℕ)) → loads_none (labels_steps assets name file) ≡ true
labels-none assets None file = refl
labels-none assets (Some n) file = refl

numbers-none : (assets : List AssetRow) (name file : Option (List ℕ)) → loads_none (numbers_steps assets name file) ≡ true
numbers-none assets None file = refl
numbers-none assets (Some n) file = refl

results-none : (assets : List AssetRow) (numbers first name file : Option (List ℕ)) → loads_none (results_steps assets (numbers_asked assets numbers first) name file) ≡ true
results-none assets numbers first None file = refl
results-none assets numbers first (Some n) file = refl

figures-none : (held : Contents) (q : WorldNames) → loads_none (figures_steps (assets_held held) held q) ≡ true
figures-none held q =
    let assets = assets_held held in
    both-none (numbers_steps assets q.numbers (held.file NumbersFile)) _ (numbers-none assets q.numbers (held.file NumbersFile))
    (results-none assets q.numbers (held.file NumbersFile) q.results (held.file ResultsFile))

revisions-none : (days : List ℤ) (assets : List AssetRow) (name file : Option (List ℕ)) → loads_none (revisions_steps days assets name file) ≡ true
revisions-none days assets None file = refl
revisions-none days assets (Some n) file = refl

-- ---- where no adjustments are asked for

data-none : (held : Contents) (q : WorldNames) → q.adjustments ≡ None → loads_none (data_steps held q) ≡ true
unfolding data_steps
data-none held q none =
    both-none (labels_steps (assets_held held) q.labels (held.file LabelsFile)) _ (labels-none (assets_held held) q.labels (held.file LabelsFile))
    (both-none (figures_steps (assets_held held) held q) _ (figures-none held q)
    (rw none (revisions-none (days_held held) (assets_held held) q.revisions (held.file RevisionsFile))))

with-data : (held : Contents) (q : WorldNames) (rest : List WorkStep) → q.adjustments ≡ None → loads_none rest ≡ true → loads_none (data_steps held q ++ rest) ≡ true
with-data held q rest none quiet = both-none (data_steps held q) rest (data-none held q none) quiet

work-none : (held : Contents) (asked : Option Request) → adjustments_of asked ≡ None → loads_none (work held asked) ≡ true
unfolding work dates_steps plan_steps first_window_steps cell_steps lines_step
work-none held (Some (Run q)) none = with-data held q.world (range_steps (pipeline_held held) (days_held held) q.from q.to q.options.as_of) none refl
work-none held (Some (Daily q)) none = with-data held q.world (range_steps (pipeline_held held) (days_held held) q.from q.to q.options.as_of) none refl
work-none held (Some (Cut q)) none = with-data held q.table.world (range_steps (pipeline_held held) (days_held held) q.table.from q.table.to q.table.options.as_of) none refl
work-none held (Some (Windows q)) none = with-data held q.world (windows_steps (days_held held) q.from q.to q.window) none refl
work-none held (Some (Verify q)) none = with-data held q.world (derivation_step (held.file DerivationFile) ∷ []) none refl
work-none held (Some (Explain q)) none =
    let cell = cell_steps (pipeline_held held) (days_held held) (assets_held held) q in
    both-none (data_steps held q.world ++ cell) (lines_step (world_held held q.world) (pipeline_held held) q ∷ []) (with-data held q.world cell none refl) refl
work-none held asked none = refl

pub store-named : (held : Contents) (asked : Option Request) (table : Table) → ReachesRead (work held asked) (Load table) → IsSome (adjustments_of asked)
store-named held asked table h = here (adjustments_of asked) refl
  where
    here : (o : Option (List ℕ)) → adjustments_of asked ≡ o → IsSome o
    here None none = absurd (no-table (work held asked) table (work-none held asked none) h)
    here (Some name) named = refl
