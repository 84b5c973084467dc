use Rattle.std.proofs.Common.{◌∙◌, FitsSigned, w64}
use Rattle.std.proofs.lemmas.Int.{to_z-of_z}
use Rattle.pl_lanes.proofs.Bits.{cell-fits}
use Rattle.pl_factors.proofs.Chosen.{all-is, any-is, extreme-cell, numbered-cell, numbered-known, placed-cell, placed-known, range-cells}
use Rattle.pl_factors.proofs.Kept.{kept_cell}
use Rattle.pl_factors.proofs.running.Running.value.Goals as goal

pub returns-in-All-clause-value : goal.returns-in-All-clause-value
returns-in-All-clause-value c =
    let fits : FitsSigned w64 c.at_least.result = cell-fits _ c.at_least.ensures.cell in
    all-is _ _ _ c.args.b.now c.args.c.now c.in-All.is (to_z-of_z w64 _ fits ∙ c.at_least.ensures.value)

pub returns-in-Any-clause-value : goal.returns-in-Any-clause-value
returns-in-Any-clause-value c =
    let fits : FitsSigned w64 c.at_least-in-Any.result = cell-fits _ c.at_least-in-Any.ensures.cell in
    any-is _ _ _ c.args.b.now c.args.c.now c.in-Any.is (to_z-of_z w64 _ fits ∙ c.at_least-in-Any.ensures.value)

pub stochastic-requires-clause-low : goal.stochastic-requires-clause-low
stochastic-requires-clause-low c =
    let w = c.requires.windows in
    (range-cells _ _ c.args.a.now _ _ w.second w.third c.in-FastStochasticOscillator.is c.requires.stands).0

pub stochastic-requires-clause-high : goal.stochastic-requires-clause-high
stochastic-requires-clause-high c =
    let w = c.requires.windows in
    (range-cells _ _ c.args.a.now _ _ w.second w.third c.in-FastStochasticOscillator.is c.requires.stands).1

pub extreme-requires : goal.extreme-requires
extreme-requires c = extreme-cell _ _ _ c.args.b.now c.args.c.now c.requires.windows.first c.in-WindowMax.is c.requires.stands

pub place_value-requires-clause-cell : goal.place_value-requires-clause-cell
place_value-requires-clause-cell c = placed-cell _ _ _ c.args.b.now c.args.c.now c.requires.windows.first c.in-AroonUp.is c.requires.stands

pub place_value-requires-clause-known : goal.place_value-requires-clause-known
place_value-requires-clause-known c = placed-known _ _ _ c.args.b.now c.args.c.now c.requires.windows.first c.in-AroonUp.is c.requires.stands

pub returns-in-WindowSum-clause-cell : goal.returns-in-WindowSum-clause-cell
returns-in-WindowSum-clause-cell c = kept_cell _ c.window_sum.ensures.cell

pub returns-in-All-clause-cell : goal.returns-in-All-clause-cell
returns-in-All-clause-cell c = kept_cell _ c.at_least.ensures.cell

pub returns-in-Any-clause-cell : goal.returns-in-Any-clause-cell
returns-in-Any-clause-cell c = kept_cell _ c.at_least-in-Any.ensures.cell

pub returns-in-AtLeastN-clause-cell : goal.returns-in-AtLeastN-clause-cell
returns-in-AtLeastN-clause-cell c = kept_cell _ c.at_least-in-AtLeastN.ensures.cell

pub returns-in-AllPresent-clause-cell : goal.returns-in-AllPresent-clause-cell
returns-in-AllPresent-clause-cell c = kept_cell _ c.all_present.ensures.cell

pub returns-in-WindowStd-clause-cell : goal.returns-in-WindowStd-clause-cell
returns-in-WindowStd-clause-cell c = kept_cell _ c.deviation.ensures.cell

pub returns-in-BollingerLower-clause-cell : goal.returns-in-BollingerLower-clause-cell
returns-in-BollingerLower-clause-cell c = kept_cell _ c.bollinger.ensures.cell

pub returns-in-BollingerUpper-clause-cell : goal.returns-in-BollingerUpper-clause-cell
returns-in-BollingerUpper-clause-cell c = kept_cell _ c.bollinger-in-BollingerUpper.ensures.cell

pub returns-in-AverageDollarVolume-clause-cell : goal.returns-in-AverageDollarVolume-clause-cell
returns-in-AverageDollarVolume-clause-cell c = kept_cell _ c.average_dollar_volume.ensures.cell

pub returns-in-LinearWeightedMovingAverage-clause-cell : goal.returns-in-LinearWeightedMovingAverage-clause-cell
returns-in-LinearWeightedMovingAverage-clause-cell c = kept_cell _ c.linear_weighted.ensures.cell

pub returns-in-RSI-clause-cell : goal.returns-in-RSI-clause-cell
returns-in-RSI-clause-cell c = kept_cell _ c.relative_strength.ensures.cell

pub returns-in-FastStochasticOscillator-clause-cell : goal.returns-in-FastStochasticOscillator-clause-cell
returns-in-FastStochasticOscillator-clause-cell c = kept_cell _ c.stochastic.ensures.cell

pub returns-in-AroonUp-clause-cell : goal.returns-in-AroonUp-clause-cell
returns-in-AroonUp-clause-cell c = kept_cell _ c.place_value.ensures.cell

pub returns-in-WindowMax-clause-cell : goal.returns-in-WindowMax-clause-cell
returns-in-WindowMax-clause-cell c = kept_cell _ c.extreme.ensures.cell

pub returns-in-VWAP-clause-cell : goal.returns-in-VWAP-clause-cell
returns-in-VWAP-clause-cell c = kept_cell _ c.weighted_mean.ensures.cell

pub returns-in-SimpleMovingAverage-clause-cell : goal.returns-in-SimpleMovingAverage-clause-cell
returns-in-SimpleMovingAverage-clause-cell c = kept_cell _ c.mean.ensures.cell

pub numbered_place-requires-clause-cell : goal.numbered_place-requires-clause-cell
numbered_place-requires-clause-cell c = numbered-cell _ _ _ c.args.b.now c.args.c.now c.requires.windows.first c.in-WindowArgMax.is c.requires.stands

pub numbered_place-requires-clause-known : goal.numbered_place-requires-clause-known
numbered_place-requires-clause-known c = numbered-known _ _ _ c.args.b.now c.args.c.now c.requires.windows.first c.in-WindowArgMax.is c.requires.stands

pub returns-in-WindowArgMax-clause-cell : goal.returns-in-WindowArgMax-clause-cell
returns-in-WindowArgMax-clause-cell c = kept_cell _ c.numbered_place.ensures.cell
