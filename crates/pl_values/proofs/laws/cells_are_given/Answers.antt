use Rattle.pl_values.proofs.Given.{unkept-cell, constant-cell, window-cell, point-cell, point-operands, sid-cell, label-cell, number-cell, label-test-cell, section-cell, downsampled-cell}
use Rattle.pl_values.proofs.laws.cells_are_given.Goals as goal

pub returns : goal.returns
returns c = record {
  unkept = unkept-cell;
  constants = constant-cell;
  windows = window-cell;
  points = point-cell;
  operands = point-operands;
  sids = sid-cell;
  labels = label-cell;
  numbers = number-cell;
  label_tests = label-test-cell;
  sections = section-cell;
  downsampled = downsampled-cell;
}
