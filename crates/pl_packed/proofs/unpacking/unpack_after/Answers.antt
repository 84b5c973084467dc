use Rattle.std.proofs.Common.{◌≡◌, ◌++◌, drop, length, ap, sym, ◌∙◌}
use Rattle.pl_packed.specs.Packed.{known, head}
use Rattle.pl_packed.proofs.BarReads.{no-room, room-there}
use Rattle.pl_packed.proofs.Fronts.{begins-is}
use Rattle.pl_packed.proofs.unpacking.unpack_after.Goals as goal

pub returns-in_default : goal.returns-in_default
returns-in_default c =
    let bytes = c.args.bytes.now in
    let front : c.deref.result.now ≡ known c.args.sessions.now c.args.assets.now = c.deref.ensures.value ∙ c.requires.known in
    no-room c.args.sessions.now c.args.assets.now bytes (begins-is bytes c.requires.known c.requires.begins)
    (λ count few there long. c.in_default.ensures.none count few (rw front there) (rw front long))

pub returns : goal.returns
returns c =
    let days = c.args.sessions.now in
    let assets = c.args.assets.now in
    let bytes = c.args.bytes.now in
    let count = c.in-Some.count in
    let front : c.deref.result.now ≡ known days assets = c.deref.ensures.value ∙ c.requires.known in
    let whole : c.extend_from_slice.new.self.items ≡ head days assets count =
    c.in_ok-extend_from_slice.ensures.items ∙ ap (λ s. s ++ c.four_bytes.result) c.requires.known ∙ ap (λ s. known days assets ++ s) c.four_bytes.ensures in
    let room = room-there days assets bytes count (begins-is bytes c.requires.known c.requires.begins) (rw front at c.in-Some.ensures.there)
    (rw front at c.in-Some.ensures.room) in
    let after : c.behind.result.now ≡ drop (length (head days assets count)) bytes =
    c.behind.ensures ∙ ap (λ s. drop (length s) bytes) (c.deref-3.ensures.value ∙ whole) in
    c.read_counted.ensures bytes (room.0 ∙ ap (λ s. head days assets count ++ s) (sym after))
