-- How a stage of the work may end, in the words of the code.
use Rattle.std.specs.Prelude.{◌≡◌, ◌⊎◌, Bool, IsTrue, List, ◌++◌, Some, None, Result, OnOk, IfErr, ⊤}
use Rattle.pl_load.specs.declared.fault.Fault.{Fault}
use Rattle.pl_load.specs.declared.fault.Fault.TheVariants.{Usage, Unread, Unloaded, Unwritten, Memory}
use Rattle.pl_load.specs.Steps.{Reading, WorkStep, first_fault, reads_in, ReachesRead}
use Rattle.pl_load.specs.Steps.Source.{Input, Load}

-- What stops the steps from outside: a read that a step before the first fault makes fails, but not over a
-- sound part; or memory is wanted.
abbrev pub StopsOutside : Bool → Bool → List WorkStep → Fault → Type 0
StopsOutside shelf keeper steps (Unread file) = ReachesRead steps (Input file) × (IsTrue shelf → ⊥)
StopsOutside shelf keeper steps (Unloaded table) = ReachesRead steps (Load table) × (IsTrue keeper → ⊥)
StopsOutside shelf keeper steps Memory = ⊤
StopsOutside shelf keeper steps fault = ⊥

-- the steps stop at their first fault, or from outside
abbrev pub IsStop : Bool → Bool → List WorkStep → Fault → Type 0
IsStop shelf keeper steps fault = (first_fault steps ≡ Some fault) ⊎ StopsOutside shelf keeper steps fault

-- a stage has done its steps without a fault, or it stops
pub record StageEnds {T : Type 0} (shelf keeper : Bool) (steps : List WorkStep) (result : Result T Fault) : Type 0 where
  pub passed : OnOk result (first_fault steps ≡ None)
  pub stopped : IfErr result (IsStop shelf keeper steps)

-- the one list begins with the other
abbrev pub IsFront : List Reading → List Reading → Type 0
IsFront front all = (left : List Reading) × (front ++ left ≡ all)

-- What was read where the steps stop with this fault: all that they read up to it, and some of that from the
-- front where a read failed or memory was wanted.
abbrev pub IsReadUpTo : List WorkStep → List Reading → Fault → Type 0
IsReadUpTo steps reads (Unread file) = IsFront reads (reads_in steps)
IsReadUpTo steps reads (Unloaded table) = IsFront reads (reads_in steps)
IsReadUpTo steps reads Memory = IsFront reads (reads_in steps)
IsReadUpTo steps reads fault = reads ≡ reads_in steps

-- what a stage has read, which ends so
pub record HasRead {T : Type 0} (steps : List WorkStep) (reads : List Reading) (result : Result T Fault) : Type 0 where
  pub whole : OnOk result (reads ≡ reads_in steps)
  pub up_to : IfErr result (IsReadUpTo steps reads)

-- A stage has no fault of the words nor of what is written, and a read fails only where the count of its
-- object rose.
abbrev pub IsRisen : Type 0 → Type 0 → Fault → Type 0
IsRisen shelf keeper Usage = ⊥
IsRisen shelf keeper (Unread file) = shelf
IsRisen shelf keeper (Unloaded table) = keeper
IsRisen shelf keeper Unwritten = ⊥
IsRisen shelf keeper fault = ⊤

-- the fault of an error, which is of the input or want of memory
pub record IsErrorFault (fault said : Fault) : Type 0 where
  pub is : fault ≡ said
  pub inside : IsRisen ⊥ ⊥ fault
