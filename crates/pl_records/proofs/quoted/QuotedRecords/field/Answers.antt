use Rattle.std.proofs.Common.{◌≡◌, ◌∷◌, [], ℕ, List, sym, None, Some, zero, suc}
use Rattle.csv.proofs.RecordFacts.{field-there}
use Rattle.csv.specs.Records.{field_at, fields_of}
use Rattle.pl_records.specs.Reading.{Record, field}
use Rattle.pl_records.proofs.quoted.QuotedRecords.field.Goals as goal

pub unreachable-requires : goal.unreachable-requires
unreachable-requires c =
    let none : field_at (fields_of c.self.inside.row) c.args.i ≡ None = rw c.in-None.is at (sym c.get.ensures.value) in
    field-there (fields_of c.self.inside.row) c.args.i (rw (← c.self.view_is) at c.requires) none

field_is : (r : Record) (i : ℕ) (text : List ℕ) → field_at r i ≡ Some text → text ≡ field r i
unfolding field_at
field_is [] i text e = absurd (let no : None ≡ Some text = e in cc)
field_is (f ∷ fs) zero text e = cc
field_is (f ∷ fs) (suc i) text e = field_is fs i text e

pub returns : goal.returns
returns c =
    let at : field_at (fields_of c.self.inside.row) c.args.i ≡ Some c.in-Some.field.now = sym (rw c.in-Some.is at c.get.ensures.value) in
    rw (← c.self.view_is) (field_is (fields_of c.self.inside.row) c.args.i c.in-Some.field.now at)
