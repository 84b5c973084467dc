use Rattle.std.proofs.Common.{◌≡◌, Ok, Result, Bool, true, false, refl, ◌∙◌, ap}
use Rattle.pl_records.proofs.TakenRecords.{gives-more, gives-none, Gives}
use Rattle.csv.specs.Records.{fields_of}
use Rattle.pl_records.specs.QuotedInside.{IsAtRecord}
use Rattle.pl_records.proofs.quoted.QuotedRecords.next.Goals as goal
use Rattle.pl_records.proofs.quoted.QuotedRecords.next.Goals.{In-Ok-true}

not-failed : {E : Type 0} (b : Bool) (r : Result Bool E) → r ≡ Ok true → (b ≡ true → r ≡ Ok false) → b ≡ false
not-failed true r e h = let other : r ≡ Ok false = h refl in absurd (cc)
not-failed false r e h = refl

more : (c : In-Ok-true) → Gives c.self.inside.reader c.read_byte_record.new.self (fields_of c.read_byte_record.new.row)
more c =
    let at : IsAtRecord c.self.inside.reader = rw c.if-self.false at c.self.invariant in
    let was : c.read_byte_record.result ≡ Ok true = c.in-Ok-true.is ∙ ap (λ b. Ok b) c.in-Ok-true.field-0-test in
    let e = c.in-Ok-true.ensures in
    gives-more _ _ _ at (not-failed _ _ was c.read_byte_record.ensures.failed) (e.ready at.trim) e.flexible
    (rw c.in-Ok-true.field-0-test at (e.reads at.trim at.ready))

pub invariant_of-self : goal.invariant_of-self
invariant_of-self c = rw c.if-self.false (more c).ready

pub returns-in-Ok-true-clause-ok : goal.returns-in-Ok-true-clause-ok
returns-in-Ok-true-clause-ok c = rw (← c.self.view_is, c.if-self.false) (more c).left

pub returns-in-Ok-false-clause-ok : goal.returns-in-Ok-false-clause-ok
returns-in-Ok-false-clause-ok c =
    let at : IsAtRecord c.self.inside.reader = rw c.if-self.false at c.self.invariant in
    let e = c.in-Ok-false.ensures in
    let none = gives-none c.self.inside.reader c.read_byte_record.new.self (fields_of c.read_byte_record.new.row) _ refl at (rw c.in-Ok-false.field-0-test at (e.reads at.trim at.ready)) in
    rw (← c.self.view_is, c.if-self.false) (none, refl)
