use Rattle.std.proofs.Common.{◌∙◌, ◌-◌, [], All, bytes_eq, length, pos, sym, arith}
use Rattle.pl_spec.proofs.Places.{nowhere, past_all}
use Rattle.pl_numbers.specs.NumberPlaces.{IsPlace}
use Rattle.pl_numbers.specs.declared.rows.Place.{Place}
use Rattle.pl_numbers.proofs.NumberKeys.{number_there}
use Rattle.pl_numbers.proofs.NumberRowsMade.{once_named}
use Rattle.pl_numbers.proofs.rows.NumberRows.number_of.Goals as goal

abbrev blank : Place
blank = record { name = 0; col = 0; known = pos 0; value = pos 0 }

pub returns-then-eq : goal.returns-then-eq
returns-then-eq c =
    let names = c.args.self.now.names in
    let all : All (IsPlace names) c.as_slice.result.now = rw c.as_slice.ensures.value c.requires.places in
    let inside = (all (length c.as_slice.result.now - 1) blank (omega (arith, c.in-len1-up.len_at_least))).name in
    number_there names c.args.name.now _ (once_named c.args.self.now c.requires) inside (rw c.text.ensures at (sym c.eq.ensures ∙ c.if-eq.true))

pub returns-in-None : goal.returns-in-None
returns-in-None c =
    let names = c.args.self.now.names in
    c.len.ensures ∙ sym (past_all (bytes_eq c.args.name.now) names [] (λ k h. nowhere (bytes_eq c.args.name.now) names (sym c.number_of.ensures ∙ c.in-None.is) k [] h))
