-- The fault that an error tells; want of memory tells none.
use Rattle.std.specs.Prelude.{◌≡◌, Option, Some, None, IfSome, Result, Ok, Err}
use Rattle.pl_adjust.specs.Walk.{Fault}
use Rattle.pl_adjust.specs.Walk as faults
use Rattle.pl_adjust.specs.declared.error.AdjustError.{AdjustError}
use Rattle.pl_adjust.specs.declared.error.AdjustError.TheVariants.{BadEffective, BadRatio, TooMany, Memory}

abbrev pub fault_of : AdjustError → Option Fault
fault_of (BadEffective table id) = Some (faults.BadEffective table id)
fault_of (BadRatio table id) = Some (faults.BadRatio table id)
fault_of TooMany = Some faults.TooMany
fault_of Memory = None

-- a call that answers Ok met no fault, and one that answers a fault met that one
abbrev pub MeetsFault : {A : Type 0} → Result A AdjustError → Option Fault → Type 0
MeetsFault (Ok x) fault = fault ≡ None
MeetsFault (Err e) fault = IfSome (fault_of e) (λ f. fault ≡ Some f)
