use Rattle.std.proofs.Common.{false, refl}
use Rattle.std.proofs.lemmas.Result.{err_from_is_err_and}
use Rattle.pl_words.specs.declared.request.InputFile.TheVariants.{Labels, Bars}
use Rattle.pl_words.specs.Views.{world_names_of}
use Rattle.pl_load.proofs.Joined.{is_file, file-read, file-one, labels-one, stops, part-stops, part-stops-later, part-done, stops-later, both-done}
use Rattle.pl_load.proofs.Works.{after_labels, after_numbers, is_figures}
use Rattle.pl_load.proofs.DataReads.{AreBarsHeld, AreNumbersHeld}
use Rattle.pl_load.proofs.loading.read_rows.Goals as goal

pub returns-in_err-labels-clause-rows : goal.returns-in_err-labels-clause-rows
returns-in_err-labels-clause-rows g c = λ asked names.
    let p = err_from_is_err_and c.from_residual.result c.from_residual.ensures.1 in
    rw (p.1, p.2) (stops (file-read _ asked Labels names.labels (labels-one _ _) c.in_err-labels.ensures.read) _ (λ held. refl))

pub returns-in_err-numbers-clause-rows : goal.returns-in_err-numbers-clause-rows
returns-in_err-numbers-clause-rows g c = λ asked names.
    let p = err_from_is_err_and c.from_residual-in_err-numbers.result c.from_residual-in_err-numbers.ensures.1 in
    let q = world_names_of c.args.names.now in
    rw (p.1, p.2)
    (stops-later (file-read _ asked Labels names.labels (labels-one _ _) c.in_ok-labels.ensures.read)
    (part-stops (after_labels q c.args.sessions.now c.args.assets.now) (c.in_err-numbers.ensures.figures asked _ names) _ (λ held. refl))
    (is_file Labels) false (λ f r m. refl))

pub returns-in_err-bars-clause-rows : goal.returns-in_err-bars-clause-rows
returns-in_err-bars-clause-rows g c = λ asked names.
    let p = err_from_is_err_and c.from_residual-in_err-bars.result c.from_residual-in_err-bars.ensures.1 in
    let q = world_names_of c.args.names.now in
    rw (p.1, p.2)
    (stops-later (file-read _ asked Labels names.labels (labels-one _ _) c.in_ok-labels.ensures.read)
    (part-stops-later (after_labels q c.args.sessions.now c.args.assets.now) (c.in_ok-numbers.ensures.figures asked _ names)
    (part-stops (after_numbers q c.args.sessions.now c.args.assets.now) (file-read _ asked Bars names.bars (file-one Bars _) c.in_err-bars.ensures.read) _ (λ held. refl))
    is_figures false (λ f r m. refl)) (is_file Labels) false (λ f r m. refl))

pub returns-in_err-adjustments-clause-rows : goal.returns-in_err-adjustments-clause-rows
returns-in_err-adjustments-clause-rows g c = λ asked names.
    let p = err_from_is_err_and c.from_residual-in_err-adjustments.result c.from_residual-in_err-adjustments.ensures.1 in
    let q = world_names_of c.args.names.now in
    rw (p.1, p.2)
    (stops-later (file-read _ asked Labels names.labels (labels-one _ _) c.in_ok-labels.ensures.read)
    (part-stops-later (after_labels q c.args.sessions.now c.args.assets.now) (c.in_ok-numbers.ensures.figures asked _ names)
    (part-stops-later (after_numbers q c.args.sessions.now c.args.assets.now)
    (file-read _ asked Bars names.bars (file-one Bars _) c.in_ok-bars.ensures.read) (c.in_err-adjustments.ensures.revised asked names) (is_file Bars) false (λ f r m. refl))
    is_figures false (λ f r m. refl)) (is_file Labels) false (λ f r m. refl))

pub returns-clause-rows : goal.returns-clause-rows
returns-clause-rows g c = λ asked names.
    let q = world_names_of c.args.names.now in
    let days = c.args.sessions.now in
    let assets = c.args.assets.now in
    both-done (file-read _ asked Labels names.labels (labels-one _ _) c.in_ok-labels.ensures.read)
    (part-done (after_labels q days assets) (AreNumbersHeld q days assets c.in_ok-numbers.numbers c.in_ok-bars.bars c.in_ok-adjustments.adjustments)
    (c.in_ok-numbers.ensures.figures asked _ names)
    (part-done (after_numbers q days assets) (AreBarsHeld q days assets c.in_ok-bars.bars c.in_ok-adjustments.adjustments)
    (file-read _ asked Bars names.bars (file-one Bars _) c.in_ok-bars.ensures.read) (c.in_ok-adjustments.ensures.revised asked names) (is_file Bars) false (λ f r m. refl)
    (λ f r m h. record { bars = m; adjustments = h })) is_figures false (λ f r m. refl) (λ f r m h. record { numbers = m; others = record { bars = h.bars; adjustments = h.adjustments } }))
    (is_file Labels) false (λ f r m. refl)
    (λ f r m h. record { labels = m; numbers = h.numbers; bars = h.others.bars; adjustments = h.others.adjustments })

pub returns-clause-made : goal.returns-clause-made
returns-clause-made g c = record {
  labels_in = c.in_ok-labels.ensures.cols;
  bars_in = c.in_ok-bars.ensures.cols;
  sessions_in = c.in_ok-bars.ensures.sessions;
  adjustments_in = c.in_ok-adjustments.ensures.cols;
  numbers_in = c.in_ok-numbers.ensures.cols;
}
