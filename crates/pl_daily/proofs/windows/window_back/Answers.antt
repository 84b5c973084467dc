use Rattle.std.proofs.Common.{◌∙◌, ap, arith, sym, subst, rules, ◌-◌, FitsSigned, w64}
use Rattle.std.proofs.lemmas.Int.{to_z-of_z}
use Rattle.pl_spec.specs.Rounding.{IsCell}
use Rattle.pl_pipeline.specs.Kind.{Kind}
use Rattle.pl_values.specs.Families.{TakesWindows, windowed}
use Rattle.pl_daily.specs.TermDays.{node_at}
use Rattle.pl_daily.specs.Windows.{window_at}
use Rattle.pl_daily.proofs.Earlier.{windows_take}
use Rattle.pl_daily.proofs.windows.window_back.Goals as goal

pub read_window-requires : goal.read_window-requires
read_window-requires c = record { held = c.requires.held; asset = c.requires.asset; size = c.requires.first }

pub read_window-requires-2 : goal.read_window-requires-2
read_window-requires-2 c = record { held = c.requires.held; asset = c.requires.asset; size = c.requires.second }

pub read_window-requires-3 : goal.read_window-requires-3
read_window-requires-3 c = record { held = c.requires.held; asset = c.requires.asset; size = c.requires.third }

pub window_value-requires : goal.window_value-requires
window_value-requires c =
    let t = c.args.term_day.now in
    let v = c.requires.held.0 in
    let back = c.requires.held.2 in
    let within = back.within in
    subst (λ (q : Kind). TakesWindows q c.read_window.new.window c.read_window-2.new.window c.read_window-3.new.window) (sym c.kind_of.ensures)
    (rw (c.read_window.ensures, c.read_window-2.ensures, c.read_window-3.ensures)
    (windows_take t v c.requires.held.1 c.args.after back (v.session - c.args.after) (omega (arith, within)) c.requires.kind c.args.i c.requires.asset))

pub returns-clause-value : goal.returns-clause-value
returns-clause-value c =
    let t = c.args.term_day.now in
    let i = c.args.i in
    let after = c.args.after in
    let r : FitsSigned w64 c.window_value.result = search rules in
    to_z-of_z w64 _ r
    ∙ c.window_value.ensures.value
    ∙ ap (λ (q : Kind). windowed q c.read_window.new.window c.read_window-2.new.window c.read_window-3.new.window) c.kind_of.ensures
    ∙ ap (λ a. windowed (node_at t).kind a c.read_window-2.new.window c.read_window-3.new.window) c.read_window.ensures
    ∙ ap (λ a. windowed (node_at t).kind (window_at t 0 after i) a c.read_window-3.new.window) c.read_window-2.ensures
    ∙ ap (windowed (node_at t).kind (window_at t 0 after i) (window_at t 1 after i)) c.read_window-3.ensures

pub returns-clause-cell : goal.returns-clause-cell
returns-clause-cell c =
    let r : FitsSigned w64 c.window_value.result = search rules in
    subst IsCell (sym (to_z-of_z w64 _ r)) c.window_value.ensures.cell
