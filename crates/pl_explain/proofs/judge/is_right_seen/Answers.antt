use Rattle.std.proofs.Common.{◌∙◌, sym, arith, rules, w32, w64, FitsSigned}
use Rattle.std.proofs.lemmas.Int.{to_z-of_z}
use Rattle.pl_explain.proofs.Given.{as-read, none-of, none-holds}
use Rattle.pl_explain.proofs.Lines.{told-unknown, told-unused, told-steady, told-no-session, told-no-day, told-late, told-lacks, told-other, told-right}
use Rattle.pl_explain.proofs.judge.is_right_seen.Goals as goal

pub returns-in_default : goal.returns-in_default
returns-in_default c =
    let l = c.args.line.now in
    told-unknown c.requires.table l.term l.sid l.own_day l.day l.value (none-holds c.col_of.result c.in_default.not-Some c.col_of.ensures.none)

pub returns-in_default-index_of : goal.returns-in_default-index_of
returns-in_default-index_of c =
    let l = c.args.line.now in
    let own : FitsSigned w32 l.own_day = search rules in
    told-no-session c.requires.table l.term l.sid l.own_day l.day l.value (sym (simp to_z-of_z at c.index_of.ensures.exact) ∙ none-of c.index_of.result c.in_default-index_of.not-Some)

pub returns-in_default-index_of-2 : goal.returns-in_default-index_of-2
returns-in_default-index_of-2 c =
    let l = c.args.line.now in
    let day : FitsSigned w32 l.day = search rules in
    told-no-day c.requires.table l.term l.sid l.own_day l.day l.value (sym (simp to_z-of_z at c.index_of-2.ensures.exact) ∙ none-of c.index_of-2.result c.in_default-index_of-2.not-Some)

pub returns-in_default-used_term : goal.returns-in_default-used_term
returns-in_default-used_term c =
    let l = c.args.line.now in
    told-unused c.requires.table l.term l.sid l.own_day l.day l.value (none-holds c.used_term.result c.in_default-used_term.not-Some c.used_term.ensures.none)

pub returns-then-session-view : goal.returns-then-session-view
returns-then-session-view c =
    let l = c.args.line.now in
    let own : FitsSigned w32 l.own_day = search rules in
    let day : FitsSigned w32 l.day = search rules in
    let own_is = sym (simp to_z-of_z at c.in-Some-index_of.ensures.exact) in
    let day_is = sym (simp to_z-of_z at c.in-Some-index_of-2.ensures.exact) in
    told-late c.requires.table l.term l.sid l.own_day l.day l.value c.in-Some-index_of.session c.in-Some-index_of-2.view own_is day_is c.if-session-view.true

pub returns-then-is_steady : goal.returns-then-is_steady
returns-then-is_steady c =
    let l = c.args.line.now in
    told-steady c.requires.table l.term l.sid l.own_day l.day l.value c.in-Some-used_term.t.0 c.in-Some-used_term.ensures.some.same (sym c.is_steady.ensures ∙ c.if-is_steady.true)

pub value_stated-requires-clause-at : goal.value_stated-requires-clause-at
value_stated-requires-clause-at c =
    let table = c.requires.table in
    record { on = record { ready = table.ready; truth = table.truth; session = c.in-Some-index_of.ensures.within }; column = c.in-Some.ensures.some.within }

pub value_stated-requires-clause-rows : goal.value_stated-requires-clause-rows
value_stated-requires-clause-rows c = c.requires.table.kept

pub returns-in_default-seen : goal.returns-in_default-seen
returns-in_default-seen c =
    let l = c.args.line.now in
    let own : FitsSigned w32 l.own_day = search rules in
    let day : FitsSigned w32 l.day = search rules in
    let own_is = sym (simp to_z-of_z at c.in-Some-index_of.ensures.exact) in
    let day_is = sym (simp to_z-of_z at c.in-Some-index_of-2.ensures.exact) in
    let place = c.in-Some.ensures.some in
    let used = c.in-Some-used_term.ensures.some in
    let moves = sym c.is_steady.ensures ∙ c.if-is_steady.false in
    told-lacks c.requires.table l.term l.sid l.own_day l.day l.value c.in-Some-index_of.session c.in-Some-index_of-2.view own_is day_is c.in-Some-used_term.t.0 _ used.same place.sid_is place.known used.used moves c.if-session-view.false
    c.value_stated.new.rows c.in_ok-seen.ensures.rows (as-read c.in_ok-seen.ensures.given (none-of c.in_ok-seen.seen c.in_default-seen.not-Some))

pub returns-then-not-same_number : goal.returns-then-not-same_number
returns-then-not-same_number c =
    let l = c.args.line.now in
    let own : FitsSigned w32 l.own_day = search rules in
    let day : FitsSigned w32 l.day = search rules in
    let value : FitsSigned w64 l.value = search rules in
    let number : FitsSigned w64 c.in-Some-seen.found = search rules in
    let own_is = sym (simp to_z-of_z at c.in-Some-index_of.ensures.exact) in
    let day_is = sym (simp to_z-of_z at c.in-Some-index_of-2.ensures.exact) in
    let place = c.in-Some.ensures.some in
    let used = c.in-Some-used_term.ensures.some in
    let moves = sym c.is_steady.ensures ∙ c.if-is_steady.false in
    told-other c.requires.table l.term l.sid l.own_day l.day l.value c.in-Some-index_of.session c.in-Some-index_of-2.view own_is day_is c.in-Some-used_term.t.0 _ used.same place.sid_is place.known used.used moves c.if-session-view.false
    c.value_stated.new.rows c.in_ok-seen.ensures.rows c.in-Some-seen.found (as-read c.in_ok-seen.ensures.given c.in-Some-seen.is) (sym c.if-not-same_number.true ∙ simp to_z-of_z at c.same_number.ensures)

pub returns : goal.returns
returns c =
    let l = c.args.line.now in
    let own : FitsSigned w32 l.own_day = search rules in
    let day : FitsSigned w32 l.day = search rules in
    let value : FitsSigned w64 l.value = search rules in
    let number : FitsSigned w64 c.in-Some-seen.found = search rules in
    let own_is = sym (simp to_z-of_z at c.in-Some-index_of.ensures.exact) in
    let day_is = sym (simp to_z-of_z at c.in-Some-index_of-2.ensures.exact) in
    let place = c.in-Some.ensures.some in
    let used = c.in-Some-used_term.ensures.some in
    let moves = sym c.is_steady.ensures ∙ c.if-is_steady.false in
    told-right c.requires.table l.term l.sid l.own_day l.day l.value c.in-Some-index_of.session c.in-Some-index_of-2.view own_is day_is c.in-Some-used_term.t.0 _ used.same place.sid_is place.known used.used moves c.if-session-view.false
    c.value_stated.new.rows c.in_ok-seen.ensures.rows c.in-Some-seen.found (as-read c.in_ok-seen.ensures.given c.in-Some-seen.is) (sym c.if-not-same_number.false ∙ simp to_z-of_z at c.same_number.ensures) c.requires.cell c.insert.new.self (simp to_z-of_z at c.in_ok-insert.ensures)
