use Rattle.std.proofs.Common.{rules, ◌≡◌, ◌<◌, ◌∙◌, sym, subst, arith, Some, slice_get, option_map, FitsSigned, w32}
use Rattle.std.specs.List.{position}
use Rattle.std.specs.Int.RustNames.{int_le}
use Rattle.std.proofs.lemmas.Int.{to_z-of_z}
use Rattle.pl_adjarray.specs.Buffered.{Buffered}
use Rattle.pl_adjarray.specs.Inside.{IsReadyBuffer}
use Rattle.pl_adjarray.specs.Stillness.{effective_within}
use Rattle.pl_adjarray.proofs.Stretches.{all_quiet, has_next, next_later, up_to_next}
use Rattle.pl_adjarray.proofs.stillness.before_change.Goals as goal

pub returns-in_default-clause-greatest : goal.returns-in_default-clause-greatest
returns-in_default-clause-greatest c =
    let b = c.args.array.now in
    let ready : IsReadyBuffer b = subst IsReadyBuffer c.array.view_is c.array.invariant in
    all_quiet b ready c.args.session c.args.col c.args.most c.requires (sym c.in_default.is ∙ c.first_change.ensures)

-- what is known where the day has a session
module _ (c : goal.In-Some-first_at_or_after) where
  abbrev b : Buffered
  b = c.args.array.now

  ready : IsReadyBuffer b
  ready = subst IsReadyBuffer c.array.view_is c.array.invariant

  first : Some c.in-Some.day ≡ option_map (λ e. e.day) (slice_get (effective_within b c.args.session c.args.most c.args.col) 0)
  first = sym c.in-Some.is ∙ c.first_change.ensures

  at_next : Some c.in-Some-first_at_or_after.next ≡ position (λ d. int_le c.in-Some.day d) b.days
  at_next =
      let day : FitsSigned w32 c.in-Some.day = search rules in
      let place = simp to_z-of_z at c.first_at_or_after.ensures.exact in
      sym c.in-Some-first_at_or_after.is ∙ subst (λ (x : Buffered). c.first_at_or_after.result ≡ position (λ d. int_le c.in-Some.day d) x.days) c.array.view_is place

  later : c.args.session < c.in-Some-first_at_or_after.next
  later = next_later b ready c.args.session c.args.col c.args.most c.requires c.in-Some.day first c.in-Some-first_at_or_after.next at_next

pub overflow_sub-result : goal.overflow_sub-result
overflow_sub-result c = let l = later c in omega (arith, l)

pub overflow_sub-result-in-Some-first_at_or_after : goal.overflow_sub-result-in-Some-first_at_or_after
overflow_sub-result-in-Some-first_at_or_after c = let l = later c in omega (arith, l)

pub returns-in-Some-first_at_or_after-clause-greatest : goal.returns-in-Some-first_at_or_after-clause-greatest
returns-in-Some-first_at_or_after-clause-greatest c =
    up_to_next (b c) (ready c) c.args.session c.args.col c.args.most c.requires c.in-Some.day (first c) c.in-Some-first_at_or_after.next (at_next c)

pub returns-in-None-clause-greatest : goal.returns-in-None-clause-greatest
returns-in-None-clause-greatest c =
    let b = c.args.array.now in
    let day : FitsSigned w32 c.in-Some.day = search rules in
    let ready : IsReadyBuffer b = subst IsReadyBuffer c.array.view_is c.array.invariant in
    let place = simp to_z-of_z at c.first_at_or_after.ensures.exact in
    let none = sym c.in-None.is ∙ subst (λ (x : Buffered). c.first_at_or_after.result ≡ position (λ d. int_le c.in-Some.day d) x.days) c.array.view_is place in
    absurd (has_next b ready c.args.session c.args.col c.args.most c.requires c.in-Some.day (sym c.in-Some.is ∙ c.first_change.ensures) none)
