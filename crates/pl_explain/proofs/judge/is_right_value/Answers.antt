use Rattle.std.proofs.Common.{◌∙◌, ap, sym, rules, w32, w64, FitsSigned}
use Rattle.std.specs.Option.{option_eq}
use Rattle.std.specs.Ordering.{int_eq}
use Rattle.std.proofs.lemmas.Int.{to_z-of_z}
use Rattle.pl_explain.proofs.Given.{as-read, none-of, none-holds}
use Rattle.pl_explain.proofs.Lines.{value-unknown, value-unused, value-no-day, value-other-day, value-repeat, value-lacks, value-other, value-right}
use Rattle.pl_explain.proofs.judge.is_right_value.Goals as goal

pub returns-in_default : goal.returns-in_default
returns-in_default c =
    let l = c.args.line.now in
    value-unknown c.requires.table l.term l.sid l.day l.value l.known (none-holds c.col_of.result c.in_default.not-Some c.col_of.ensures.none)

pub returns-in_default-used_term : goal.returns-in_default-used_term
returns-in_default-used_term c =
    let l = c.args.line.now in
    value-unused c.requires.table l.term l.sid l.day l.value l.known (none-holds c.used_term.result c.in_default-used_term.not-Some c.used_term.ensures.none)

pub returns-in_default-index_of : goal.returns-in_default-index_of
returns-in_default-index_of c =
    let l = c.args.line.now in
    let day : FitsSigned w32 l.day = search rules in
    value-no-day c.requires.table l.term l.sid l.day l.value l.known (sym (simp to_z-of_z at c.index_of.ensures.exact) ∙ none-of c.index_of.result c.in_default-index_of.not-Some)

pub known_day-requires-clause-ready : goal.known_day-requires-clause-ready
known_day-requires-clause-ready c = c.requires.table.ready

-- the day of another record
pub returns-then-not-same_day : goal.returns-then-not-same_day
returns-then-not-same_day c =
    let l = c.args.line.now in
    let day : FitsSigned w32 l.day = search rules in
    let day_is = sym (simp to_z-of_z at c.in-Some-index_of.ensures.exact) in
    value-other-day c.requires.table l.term l.sid l.day l.value l.known c.in-Some-index_of.session day_is c.in-Some-used_term.t.0 _ c.in-Some-used_term.ensures.some.same c.in-Some.ensures.some.sid_is
    (sym c.if-not-same_day.true ∙ c.same_day.ensures ∙ ap (option_eq int_eq l.known) c.known_day.ensures.exact)

pub returns-in-Some-number : goal.returns-in-Some-number
returns-in-Some-number c =
    let l = c.args.line.now in
    let day : FitsSigned w32 l.day = search rules in
    let value : FitsSigned w64 l.value = search rules in
    let number : FitsSigned w64 c.in-Some-number.number = search rules in
    let day_is = sym (simp to_z-of_z at c.in-Some-index_of.ensures.exact) in
    let since = sym c.if-not-same_day.false ∙ c.same_day.ensures ∙ ap (option_eq int_eq l.known) c.known_day.ensures.exact in
    value-repeat c.requires.table l.term l.sid l.day l.value l.known c.in-Some-index_of.session day_is c.in-Some-used_term.t.0 _ c.in-Some-used_term.ensures.some.same c.in-Some.ensures.some.sid_is since
    c.in-Some-number.number (sym c.in-Some-number.ensures) c.same_number.result (simp to_z-of_z at c.same_number.ensures)

-- what is judged where nothing is stated of the fact yet
pub value_stated-requires-clause-at : goal.value_stated-requires-clause-at
value_stated-requires-clause-at c =
    let table = c.requires.table in
    record { on = record { ready = table.ready; truth = table.truth; session = c.in-Some-index_of.ensures.within }; column = c.in-Some.ensures.some.within }

pub value_stated-requires-clause-rows : goal.value_stated-requires-clause-rows
value_stated-requires-clause-rows c = c.requires.table.kept

pub returns-in_default-2 : goal.returns-in_default-2
returns-in_default-2 c =
    let l = c.args.line.now in
    let day : FitsSigned w32 l.day = search rules in
    let day_is = sym (simp to_z-of_z at c.in-Some-index_of.ensures.exact) in
    let place = c.in-Some.ensures.some in
    let used = c.in-Some-used_term.ensures.some in
    let since = sym c.if-not-same_day.false ∙ c.same_day.ensures ∙ ap (option_eq int_eq l.known) c.known_day.ensures.exact in
    let fresh = sym c.number.ensures ∙ none-of c.number.result c.in_default-number.not-Some in
    value-lacks c.requires.table l.term l.sid l.day l.value l.known c.in-Some-index_of.session day_is c.in-Some-used_term.t.0 _ used.same place.sid_is since fresh place.known used.used c.value_stated.new.rows c.in_ok-number.ensures.rows
    (as-read c.in_ok-number.ensures.given (none-of c.in_ok-number.field-0 c.in_default-2.not-Some))

pub returns-then-not-same_number : goal.returns-then-not-same_number
returns-then-not-same_number c =
    let l = c.args.line.now in
    let day : FitsSigned w32 l.day = search rules in
    let value : FitsSigned w64 l.value = search rules in
    let number : FitsSigned w64 c.in-Some-2.number = search rules in
    let day_is = sym (simp to_z-of_z at c.in-Some-index_of.ensures.exact) in
    let place = c.in-Some.ensures.some in
    let used = c.in-Some-used_term.ensures.some in
    let since = sym c.if-not-same_day.false ∙ c.same_day.ensures ∙ ap (option_eq int_eq l.known) c.known_day.ensures.exact in
    let fresh = sym c.number.ensures ∙ none-of c.number.result c.in_default-number.not-Some in
    value-other c.requires.table l.term l.sid l.day l.value l.known c.in-Some-index_of.session day_is c.in-Some-used_term.t.0 _ used.same place.sid_is since fresh place.known used.used c.value_stated.new.rows c.in_ok-number.ensures.rows
    c.in-Some-2.number (as-read c.in_ok-number.ensures.given c.in-Some-2.is) (sym c.if-not-same_number.true ∙ simp to_z-of_z at c.same_number-2.ensures)

pub returns : goal.returns
returns c =
    let l = c.args.line.now in
    let day : FitsSigned w32 l.day = search rules in
    let value : FitsSigned w64 l.value = search rules in
    let number : FitsSigned w64 c.in-Some-2.number = search rules in
    let day_is = sym (simp to_z-of_z at c.in-Some-index_of.ensures.exact) in
    let place = c.in-Some.ensures.some in
    let used = c.in-Some-used_term.ensures.some in
    let since = sym c.if-not-same_day.false ∙ c.same_day.ensures ∙ ap (option_eq int_eq l.known) c.known_day.ensures.exact in
    let fresh = sym c.number.ensures ∙ none-of c.number.result c.in_default-number.not-Some in
    value-right c.requires.table l.term l.sid l.day l.value l.known c.in-Some-index_of.session day_is c.in-Some-used_term.t.0 _ used.same place.sid_is since fresh place.known used.used c.value_stated.new.rows c.in_ok-number.ensures.rows
    c.in-Some-2.number (as-read c.in_ok-number.ensures.given c.in-Some-2.is) (sym c.if-not-same_number.false ∙ simp to_z-of_z at c.same_number-2.ensures) c.requires.cell c.insert.new.self (simp to_z-of_z at c.in_ok-insert.ensures)
