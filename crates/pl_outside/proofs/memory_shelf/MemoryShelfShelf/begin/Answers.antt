use Rattle.std.proofs.Common.{◌≡◌, false, [], unwrap_or, map, sym}
use Rattle.pl_outside.specs.Calls.{next_fails}
use Rattle.pl_outside.specs.HeldFiles.{shown, rest_at}
use Rattle.pl_outside.specs.ShelfState.{held}
use Rattle.pl_outside.proofs.Held.{is_none-held, rest_at-held, position_in}
use Rattle.pl_outside.proofs.memory_shelf.MemoryShelfShelf.begin.Goals as goal

pub returns-then-is_none-clause-fails : goal.returns-then-is_none-clause-fails
returns-then-is_none-clause-fails c =
    let files = c.self.inside.files.items in
    let goes : next_fails c.self.inside.calls ≡ false = sym c.in_ok-take_call.ensures.fails in
    let place = position_in files _ c.args.name.now _ c.deref.ensures.value c.place_of-self-inside.ensures in
    rw (← c.self.view_is, goes, is_none-held files c.args.name.now, place, c.is_none.ensures, c.if-is_none.true)

pub returns-clause-fails : goal.returns-clause-fails
returns-clause-fails c =
    let files = c.self.inside.files.items in
    let goes : next_fails c.self.inside.calls ≡ false = sym c.in_ok-take_call.ensures.fails in
    let place = position_in files _ c.args.name.now _ c.deref.ensures.value c.place_of-self-inside.ensures in
    rw (← c.self.view_is, goes, is_none-held files c.args.name.now, place, c.is_none.ensures, c.if-is_none.false)

pub returns-clause-after : goal.returns-clause-after
returns-clause-after c =
    let files = c.self.inside.files.items in
    let goes : next_fails c.self.inside.calls ≡ false = sym c.in_ok-take_call.ensures.fails in
    let place = position_in files _ c.args.name.now _ c.deref.ensures.value c.place_of-self-inside.ensures in
    let rest : rest_at files c.place_of-self-inside.result 0 ≡ unwrap_or (held (map shown files) c.args.name.now) [] =
    rw (← place) (rest_at-held files c.args.name.now) in
    rw (← c.self.view_is, rest, c.take_call.ensures.after, goes, c.begins.ensures, c.as_bytes.ensures.value)
