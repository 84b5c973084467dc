use Rattle.std.proofs.Common.{◌≡◌, ◌++◌, refl, ap, ◌∙◌}
use Rattle.std.proofs.lemmas.Result.{err_from_is_err_and}
use Rattle.pl_bars.specs.InPieces.{TextSoFar}
use Rattle.pl_words.specs.declared.request.InputFile.TheVariants as files
use Rattle.pl_load.specs.Work.{bars_rule}
use Rattle.pl_load.specs.Held.{bars_in}
use Rattle.pl_load.proofs.FileReads.{file-passes, file-stops, file-fails-alike, reader-tells}
use Rattle.pl_load.proofs.inputs.read_bars.Goals as goal

pub returns-in_err-pass_input-clause-read : goal.returns-in_err-pass_input-clause-read
returns-in_err-pass_input-clause-read g c =
    let p = err_from_is_err_and c.from_residual.result c.from_residual.ensures.1 in
    rw (p.1, p.2) (file-fails-alike files.Bars (bars_rule c.args.sessions.now c.args.assets.now) _ _ c.in_err-pass_input.ensures)

pub returns-in_err-end-clause-read : goal.returns-in_err-end-clause-read
unfolding bars_rule
returns-in_err-end-clause-read g c =
    let read = c.in_ok-pass_input.ensures in
    let whole = read.means.3 ∙ ap (λ (r : TextSoFar). record r { text = r.text ++ read.means.0 }) c.new-reader.ensures in
    let p = err_from_is_err_and c.from_residual-in_err-end.result c.from_residual-in_err-end.ensures.1 in
    let tells = reader-tells files.Bars _ _ p.0 p.2.is (rw whole at c.in_err-end.ensures.exact) in
    rw p.1 (file-stops files.Bars (bars_rule c.args.sessions.now c.args.assets.now) _ p.0 read read.means.0 read.means.1 read.means.2 tells p.2.inside)

pub returns-clause-read : goal.returns-clause-read
unfolding bars_rule bars_in
returns-clause-read g c =
    let read = c.in_ok-pass_input.ensures in
    let whole = read.means.3 ∙ ap (λ (r : TextSoFar). record r { text = r.text ++ read.means.0 }) c.new-reader.ensures in
    let exact = rw whole at c.in_ok-end.ensures.exact in
    file-passes files.Bars (bars_rule c.args.sessions.now c.args.assets.now) _ c.in_ok-end.field-0 read read.means.0 read.means.1 read.means.2 (rw exact refl) (rw exact refl)

pub returns-clause-cols : goal.returns-clause-cols
returns-clause-cols g c =
    let read = c.in_ok-pass_input.ensures in
    let whole = read.means.3 ∙ ap (λ (r : TextSoFar). record r { text = r.text ++ read.means.0 }) c.new-reader.ensures in
    rw whole at c.in_ok-end.ensures.cols

pub returns-clause-sessions : goal.returns-clause-sessions
returns-clause-sessions g c =
    let read = c.in_ok-pass_input.ensures in
    let whole = read.means.3 ∙ ap (λ (r : TextSoFar). record r { text = r.text ++ read.means.0 }) c.new-reader.ensures in
    rw whole at c.in_ok-end.ensures.sessions
