use Rattle.std.proofs.Common.{◌≡◌, ℕ, ◌<◌, ◌++◌, ◌∙◌, ap, sym, subst, arith, List, length, set, take, drop, get_or, slice_get, Some}
use Rattle.std.proofs.lemmas.Option.{slice_get-get_or}
use Rattle.pl_terms.proofs.Graphs.{graph-long}
use Rattle.pl_daily.specs.declared.term_day.TermCells.{TermCells}
use Rattle.pl_daily.specs.Terms.{AreTerms, FollowNewest, assets_at, pipeline_at}
use Rattle.pl_daily.proofs.Followed.{first-rest, own_at, own_followed, room_below, split_set, terms_more}
use Rattle.pl_daily.proofs.terms.renew_term.Goals as goal

pub split_at_mut-below-requires : goal.split_at_mut-below-requires
split_at_mut-below-requires c = omega (arith, c.requires.known, c.requires.terms.many, graph-long c.args.lent.now.checked.now.graph)

pub bounds-rest-0 : goal.bounds-rest-0
bounds-rest-0 c = omega (arith, c.split_at_mut-below.ensures.back_len, c.requires.known, c.requires.terms.many, graph-long c.args.lent.now.checked.now.graph)

-- the first of the rest is the term's own
there_is : (cells rest : List TermCells) (k : ℕ) (blank : TermCells) → rest ≡ drop k cells → 0 < length rest → slice_get cells k ≡ Some (get_or rest 0 blank)
there_is cells rest k blank is some = sym (first-rest cells k) ∙ ap (λ xs. slice_get xs 0) (sym is) ∙ slice_get-get_or rest 0 blank some

pub renew_own-requires-clause-placed : goal.renew_own-requires-clause-placed
renew_own-requires-clause-placed c =
    let cells = c.args.terms.now in
    let k = c.args.term.0 in
    let split = c.split_at_mut-below.ensures in
    let rest = c.split_at_mut-below.result.1.now in
    let some : 0 < length rest = omega (arith, split.back_len, c.requires.known, c.requires.terms.many, graph-long c.args.lent.now.checked.now.graph) in
    let there = there_is cells rest k c.index-rest-0.result split.back some in
    let next = c.requires.placed.0 in
    let days = c.requires.placed.1 in
    (next, days, own_at c.args.lent.now k cells c.split_at_mut-below.result.0.now _ c.args.start.now split.front there next days c.requires.placed.2)

pub renew_own-requires-clause-terms : goal.renew_own-requires-clause-terms
renew_own-requires-clause-terms c =
    let l = c.args.lent.now in
    room_below (assets_at l) (pipeline_at l) l.bars.now c.args.term.0 c.args.terms.now c.split_at_mut-below.result.0.now c.split_at_mut-below.ensures.front c.requires.terms.room

pub renew_own-requires-clause-own : goal.renew_own-requires-clause-own
renew_own-requires-clause-own c =
    let split = c.split_at_mut-below.ensures in
    let rest = c.split_at_mut-below.result.1.now in
    let some : 0 < length rest = omega (arith, split.back_len, c.requires.known, c.requires.terms.many, graph-long c.args.lent.now.checked.now.graph) in
    c.requires.own _ (there_is c.args.terms.now rest c.args.term.0 c.index-rest-0.result split.back some)

pub returns-clause-follow : goal.returns-clause-follow
returns-clause-follow c =
    let l = c.args.lent.now in
    let cells = c.args.terms.now in
    let k = c.args.term.0 in
    let split = c.split_at_mut-below.ensures in
    let below = c.split_at_mut-below.result.0.now in
    let rest = c.split_at_mut-below.result.1.now in
    let made = c.renew_own.new.own in
    let inside : k < length cells = omega (arith, c.requires.known, c.requires.terms.many, graph-long l.checked.now.graph) in
    let some : 0 < length rest = omega (arith, split.back_len, inside) in
    let there = there_is cells rest k c.index-rest-0.result split.back some in
    let joined = ap (λ xs. xs ++ set rest 0 made) split.front ∙ ap (λ xs. take k cells ++ set xs 0 made) split.back ∙ split_set cells k made inside in
    subst (FollowNewest l k cells c.args.start.now) (sym joined) (own_followed l k cells below _ made c.args.start.now split.front there inside c.renew_own.ensures.follow)

pub returns-clause-terms : goal.returns-clause-terms
returns-clause-terms c =
    let l = c.args.lent.now in
    let cells = c.args.terms.now in
    let k = c.args.term.0 in
    let split = c.split_at_mut-below.ensures in
    let rest = c.split_at_mut-below.result.1.now in
    let made = c.renew_own.new.own in
    let inside : k < length cells = omega (arith, c.requires.known, c.requires.terms.many, graph-long l.checked.now.graph) in
    let some : 0 < length rest = omega (arith, split.back_len, inside) in
    let there = there_is cells rest k c.index-rest-0.result split.back some in
    let joined = ap (λ xs. xs ++ set rest 0 made) split.front ∙ ap (λ xs. take k cells ++ set xs 0 made) split.back ∙ split_set cells k made inside in
    subst (AreTerms (assets_at l) (pipeline_at l) l.bars.now) (sym joined)
    (terms_more (assets_at l) (pipeline_at l) l.bars.now cells k _ made c.requires.terms there inside c.renew_own.ensures.full c.renew_own.ensures.capacity)
