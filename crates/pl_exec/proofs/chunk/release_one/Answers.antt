use Rattle.std.proofs.Common.{◌≡◌, true, false, ap}
use Rattle.pl_workspace.specs.Slots.{Slots, Free}
use Rattle.pl_exec.specs.ChunkInputs.{task_of}
use Rattle.pl_exec.proofs.Releases.{not_released, released, peak_same, still_live}
use Rattle.pl_exec.proofs.Trips.{long}
use Rattle.pl_exec.proofs.chunk.release_one.Goals as goal

pub returns-then-not-ends-clause-live : goal.returns-then-not-ends-clause-live
returns-then-not-ends-clause-live c =
    let off : c.ends.result ≡ false = c.if-not-ends.true in
    not_released (task_of c.args.chunk.now) c.args.k c.args.t c.args.workspace.now c.requires.low c.requires.live c.requires.apart c.requires.counted c.ends.result c.ends.ensures off

pub release-requires : goal.release-requires
release-requires c =
    still_live (task_of c.args.chunk.now) c.args.k c.args.t c.args.workspace.now c.requires.low c.requires.live c.requires.apart c.requires.counted c.ends.result c.ends.ensures c.if-not-ends.false c.slot.result c.slot.ensures.value

pub returns-clause-live : goal.returns-clause-live
returns-clause-live c =
    let on : c.ends.result ≡ true = c.if-not-ends.false in
    released (task_of c.args.chunk.now) c.args.k c.args.t c.args.workspace.now c.requires.low c.requires.live c.requires.apart c.requires.counted c.ends.result c.ends.ensures on c.slot.result c.slot.ensures.value c.release.new.self c.release.ensures

pub returns-clause-peak : goal.returns-clause-peak
returns-clause-peak c =
    let on : c.ends.result ≡ true = c.if-not-ends.false in
    (peak_same (task_of c.args.chunk.now) c.args.k c.args.t c.args.workspace.now c.requires.low c.requires.live c.requires.apart c.requires.counted c.ends.result c.ends.ensures on c.slot.result c.slot.ensures.value c.release.new.self c.release.ensures).0

pub returns-clause-counted : goal.returns-clause-counted
returns-clause-counted c =
    (peak_same (task_of c.args.chunk.now) c.args.k c.args.t c.args.workspace.now c.requires.low c.requires.live c.requires.apart c.requires.counted c.ends.result c.ends.ensures c.if-not-ends.false c.slot.result c.slot.ensures.value c.release.new.self c.release.ensures).1

pub returns-clause-len : goal.returns-clause-len
returns-clause-len c = ap (λ (x : Slots). x.len) c.release.ensures

pub returns-clause-slots : goal.returns-clause-slots
returns-clause-slots c = long c.args.workspace.now c.release.new.self c.slot.result Free c.release.ensures
