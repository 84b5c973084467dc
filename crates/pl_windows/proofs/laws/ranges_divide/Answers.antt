use Rattle.pl_windows.proofs.Divided.{divided}
use Rattle.pl_windows.proofs.laws.ranges_divide.Goals as goal

pub returns : goal.returns
returns c = divided
