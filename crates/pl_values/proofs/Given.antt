-- The laws of the cells, by one name each.
pub use Rattle.pl_values.proofs.Plain.{unkept-cell, constant-cell, sid-cell, label-cell, number-cell, no-numbers, label-test-cell, label-input, downsampled-cell, downsampled-input}
pub use Rattle.pl_values.proofs.Operations.{point-cell, point-operands}
pub use Rattle.pl_values.proofs.Formulas.{window-cell, first-input as window-input, most as window-most}
pub use Rattle.pl_values.proofs.Crosses.{section-cell, section-input}
pub use Rattle.pl_values.proofs.Flags.{filter-cell}
pub use Rattle.pl_values.proofs.Texts.{texts-coded}
