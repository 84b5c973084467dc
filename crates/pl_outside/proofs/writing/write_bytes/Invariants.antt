use Rattle.std.proofs.Common.{◌≡◌, ◌≤◌, ◌<◌, ◌+◌, ◌-◌, max, length, take, IsTrue}
use Rattle.pl_outside.specs.Counts.{count_plus}
use Rattle.pl_outside.specs.Taken.{TakesAll}
use Rattle.pl_outside.proofs.writing.write_bytes.Given as goal

abbrev pub invariant-loop-done : goal.invariant-loop-done
invariant-loop-done g l =
    let out = g.O.Sink in
    record {
      within : l.done ≤ length l.bytes;
      begun : 0 < length l.bytes → 0 < l.done;
      taken : TakesAll (out.taken l.fn.out) (out.taken l.out) (take l.done l.bytes);
      later : out.faults l.fn.out ≤ out.faults l.out;
      stays : out.sound l.out ≡ out.sound l.fn.out;
      quiet : IsTrue (out.sound l.fn.out) → length l.bytes ≤ out.room l.fn.out → out.faults l.out ≡ out.faults l.fn.out;
      room : IsTrue (out.sound l.fn.out) → out.room l.out + l.done ≡ out.room l.fn.out;
      calls : out.calls l.out ≤ out.calls l.fn.out + max 1 l.done;
      kind : out.whole l.out ≡ out.whole l.fn.out;
      one : IsTrue (out.whole l.fn.out) → (l.done ≡ length l.bytes) × (out.calls l.out ≡ count_plus (out.calls l.fn.out) 1);
      empty : length l.bytes ≡ 0 → out.calls l.out ≡ count_plus (out.calls l.fn.out) 1;
    }

abbrev pub decreases-loop-done : goal.decreases-loop-done
decreases-loop-done g l = length l.bytes - l.done
