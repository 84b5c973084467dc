use Rattle.std.proofs.Common.{◌≡◌, ◌+◌, ◌-◌, ◌*◌, ◌∙◌, IsTrue, ap, sym, subst, length, arith, length-take}
use Rattle.std.proofs.lemmas.Result.{err_from_is_err_and}
use Rattle.pl_adjarray.specs.Buffered.{Buffered}
use Rattle.pl_adjarray.specs.Traversals.{Traversal, advances}
use Rattle.pl_outside.proofs.Pieces.{writing-start, writing-more, writing-end, writing-stop, writing-over}
use Rattle.pl_windows.specs.Chunks.{IsBufferOf}
use Rattle.pl_windows.specs.Ranges.{asked_lines}
use Rattle.pl_windows.proofs.Rooms.{cells-few, cols-few, cols-long, rows-few, room-is}
use Rattle.pl_windows.proofs.SessionLines.{lines-next-session, lines-no-session}
use Rattle.pl_windows.proofs.Traversed.{none-made}
use Rattle.pl_windows.proofs.chunk.write_chunk.Goals as goal

pub overflow_mul-len : goal.overflow_mul-len
overflow_mul-len g c =
    let a = c.args.asked.now in let k = c.args.chunk in let r = c.requires.chunk in
    let long : length c.args.cols.now ≡ length a.world.assets.now = ap length c.requires.cols ∙ cols-long a in
    let few = cells-few (a.window + (k.last - k.first)) (length c.args.cols.now) (rows-few a c.requires.asked k.first k.last r.from r.order r.to) (omega (arith, long, cols-few a c.requires.asked)) in
    omega (arith, few)

pub slice_bounds-traverse-end : goal.slice_bounds-traverse-end
slice_bounds-traverse-end g c =
    let a = c.args.asked.now in let k = c.args.chunk in
    let room = room-is a c.requires.asked k c.requires.chunk c.args.bars.now c.requires.room (length c.args.cols.now) (ap length c.requires.cols ∙ cols-long a) in
    omega (arith, room)

pub slice_bounds-traverse-end-2 : goal.slice_bounds-traverse-end-2
slice_bounds-traverse-end-2 g c =
    let a = c.args.asked.now in let k = c.args.chunk in
    let room = room-is a c.requires.asked k c.requires.chunk c.args.bars.now c.requires.room (length c.args.cols.now) (ap length c.requires.cols ∙ cols-long a) in
    omega (arith, room, length-take ((a.window + (k.last - k.first)) * length c.args.cols.now) c.args.bars.now)

pub traverse-windows-requires-clause-room : goal.traverse-windows-requires-clause-room
traverse-windows-requires-clause-room g c =
    let a = c.args.asked.now in let k = c.args.chunk in
    let room = room-is a c.requires.asked k c.requires.chunk c.args.bars.now c.requires.room (length c.args.cols.now) (ap length c.requires.cols ∙ cols-long a) in
    let size : c.new-array.result.rows * length c.new-array.result.cols ≡ (a.window + (k.last - k.first)) * length c.args.cols.now
    = ap (λ (b : Buffered). b.rows * length b.cols) c.new-array.ensures in
    omega (arith, room, size, length-take ((a.window + (k.last - k.first)) * length c.args.cols.now) c.args.bars.now)

pub loop-session-init : goal.loop-session-init
loop-session-init g c =
    let a = c.args.asked.now in let k = c.args.chunk in
    let begins = c.traverse-windows.ensures.begins in
    let array = ap (λ (t : Traversal). t.array) begins ∙ c.new-array.ensures in
    record {
      from = omega arith;
      to = omega (arith, c.requires.chunk.order);
      buffer = record {
        days = ap (λ (b : Buffered). b.days) array;
        bars = ap (λ (b : Buffered). b.bars) array;
        adjustments = ap (λ (b : Buffered). b.adjustments) array;
        column = ap (λ (b : Buffered). b.column) array;
        cols = ap (λ (b : Buffered). b.cols) array ∙ c.requires.cols;
      };
      first = omega (arith, ap (λ (b : Buffered). b.first) array, c.requires.asked.range.reach, c.requires.chunk.from);
      rows = ap (λ (b : Buffered). b.rows) array;
      window = ap (λ (t : Traversal). t.window) begins;
      advances = ap advances begins ∙ none-made c.new-array.result a.window ∙ omega arith;
      writing = writing-start g.O.Sink.taken g.O.Sink.faults g.O.Sink.sound g.O.Sink.room c.args.out.now (asked_lines a k.first (k.last + 1 - k.first));
    }

pub returns-in_err-write_session : goal.returns-in_err-write_session
returns-in_err-write_session g c =
    let a = c.args.asked.now in let k = c.args.chunk in let s = c.loop-session.session in
    let q = err_from_is_err_and c.from_residual.result c.from_residual.ensures.1 in
    rw (q.1, q.2) (writing-stop (asked_lines a s 1) (asked_lines a (s + 1) (k.last + 1 - (s + 1)))
    (writing-over (lines-next-session a s k.last (omega arith)) c.loop-session.invariant.writing) c.in_err-write_session.ensures)

pub loop-session-preserved : goal.loop-session-preserved
loop-session-preserved g c =
    let a = c.args.asked.now in let k = c.args.chunk in let s = c.loop-session.session in let was = c.loop-session.invariant in
    let goes : IsTrue c.advance.result = c.advance.ensures.goes (omega (arith, was.advances, was.window, was.rows, was.from)) in
    record {
      from = omega (arith, was.from);
      to = omega arith;
      buffer = subst (IsBufferOf a) (sym c.advance.ensures.array) was.buffer;
      first = omega (arith, ap (λ (b : Buffered). b.first) c.advance.ensures.array, was.first);
      rows = ap (λ (b : Buffered). b.rows) c.advance.ensures.array ∙ was.rows;
      window = c.advance.ensures.window ∙ was.window;
      advances = omega (arith, c.advance.ensures.made goes, was.advances, was.from);
      writing = writing-more (asked_lines a s 1) (asked_lines a (s + 1) (k.last + 1 - (s + 1)))
          (writing-over (lines-next-session a s k.last (omega arith)) was.writing) c.in_ok-write_session.ensures;
    }

pub returns : goal.returns
returns g c =
    let a = c.args.asked.now in let k = c.args.chunk in let s = c.loop-session.session in
    writing-end (writing-over (lines-no-session a s k.last (omega arith)) c.loop-session.invariant.writing)
