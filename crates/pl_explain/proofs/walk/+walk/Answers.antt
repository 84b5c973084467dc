use Rattle.std.proofs.Common.{rules, arith, ◌≡◌, ◌<◌, ◌≤◌, ◌+◌, ◌*◌, ◌^◌, ◌∷◌, [], ◌∙◌, false, true, Some, suc, ap, sym, subst, length, map, get_or, pos, slice_get, w64, FitsSigned, to_z, of_z}
use Rattle.std.proofs.lemmas.Bool.{true≢false}
use Rattle.std.proofs.lemmas.Int.{to_z-of_z}
use Rattle.std.proofs.lemmas.List.{take_all}
use Rattle.std.proofs.lemmas.Option.{slice_get-get_or}
use Rattle.std.proofs.lemmas.Result.{err_from_is_err_and}
use Rattle.pl_spec.specs.Limits.{most_lines}
use Rattle.pl_spec.specs.Rounding.{IsCell}
use Rattle.pl_spec.specs.Parts.{sid_at}
use Rattle.pl_terms.specs.Checked.{pipeline_of}
use Rattle.pl_spec.proofs.Each.{Each}
use Rattle.pl_derivation.specs.Facts.{number_in, value_fact}
use Rattle.pl_derivation.specs.Facts.Fact.{TermValue, SeenValue}
use Rattle.pl_derivation.specs.Walks.{depth_of, line_for}
use Rattle.pl_world.specs.Views.{view_at, seen_in}
use Rattle.pl_world.specs.Worlds.{world_of}
use Rattle.pl_world.proofs.Evaluated.{sid-of}
use Rattle.pl_explain.specs.declared.fact.Fact.{Fact}
use Rattle.pl_explain.specs.Keys.{fact_of}
use Rattle.pl_explain.specs.Given.{facts_read, has, has_all, own_facts}
use Rattle.pl_explain.proofs.Given.{none-holds}
use Rattle.pl_explain.specs.Walking.{MayBeDerived, CanBeDerivedWithin, Finishes, IsPut, IsTooLong, IsWalkTo}
use Rattle.pl_explain.proofs.Behind.{facts-of, number-of, worth-within, worth-day, worth-sid, worth-fits, worth-asked}
use Rattle.pl_explain.proofs.Values.{premises-lacks}
use Rattle.pl_explain.proofs.Walks.{walk-none, walk-stated}
use Rattle.pl_explain.proofs.Finished.{no-memory, stated-now, all-stand, all-more, all-long, other-finished, other-stands, put-walked, own-long, mask-is, mask-stands, mask-long, mask-known, facts-stand, stopped-finished, passed-walked}
use Rattle.pl_explain.proofs.walk.+walk.Goals as goal

-- ---- a fact

pub finish-returns-then-is_some : goal.finish-returns-then-is_some
finish-returns-then-is_some g t c =
    let w = c.args.source.now.world in
    let p = c.args.source.now.checked.now in
    let f = fact_of c.args.fact in
    let there : has_all c.args.walk.now.stated (f ∷ []) ≡ true = search rules in
    record { stands = c.requires.stands; finished = walk-stated w p (depth_of f) c.args.walk.now (f ∷ []) there; long = tt }

pub finish-finish_bar-requires-clause-stands : goal.finish-finish_bar-requires-clause-stands
finish-finish_bar-requires-clause-stands g t c = c.requires.stands

pub finish-finish_bar-requires-clause-fact : goal.finish-finish_bar-requires-clause-fact
finish-finish_bar-requires-clause-fact g t c = subst (λ f. MayBeDerived c.args.source.now.world c.args.source.now.checked.now (fact_of f)) c.in-Seen.is c.requires.fact

pub finish-finish_bar-requires-clause-fresh : goal.finish-finish_bar-requires-clause-fresh
finish-finish_bar-requires-clause-fresh g t c =
    let fresh : has c.args.walk.now.stated (fact_of c.args.fact) ≡ false = search rules in
    subst (λ f. has c.args.walk.now.stated (fact_of f) ≡ false) c.in-Seen.is fresh

pub finish-finish_value-requires : goal.finish-finish_value-requires
finish-finish_value-requires g t c =
    let w = c.args.source.now.world in
    let p = c.args.source.now.checked.now in
    let v = c.in-TermValue in
    let lacks : has c.args.walk.now.stated (fact_of c.args.fact) ≡ false = search rules in
    let fresh : has c.args.walk.now.stated (TermValue v.term v.sid (pos v.session)) ≡ false = subst (λ f. has c.args.walk.now.stated (fact_of f) ≡ false) v.is lacks in
    let fact : MayBeDerived w p (TermValue v.term v.sid (pos v.session)) = subst (λ f. MayBeDerived w p (fact_of f)) v.is c.requires.fact in
    let smaller : 8 * (v.term + 2) + 4 < 8 * depth_of (fact_of c.args.fact) + 6 = subst (λ f. 8 * (v.term + 2) + 4 < 8 * depth_of (fact_of f) + 6) (sym v.is) (omega arith) in
    search rules

pub finish-finish_value-requires-in-SeenValue : goal.finish-finish_value-requires-in-SeenValue
finish-finish_value-requires-in-SeenValue g t c =
    let w = c.args.source.now.world in
    let p = c.args.source.now.checked.now in
    let v = c.in-SeenValue in
    let lacks : has c.args.walk.now.stated (fact_of c.args.fact) ≡ false = search rules in
    let fresh : has c.args.walk.now.stated (SeenValue v.term v.sid (pos v.session) (pos v.view)) ≡ false = subst (λ f. has c.args.walk.now.stated (fact_of f) ≡ false) v.is lacks in
    let fact : MayBeDerived w p (SeenValue v.term v.sid (pos v.session) (pos v.view)) = subst (λ f. MayBeDerived w p (fact_of f)) v.is c.requires.fact in
    let smaller : 8 * (v.term + 2) + 4 < 8 * depth_of (fact_of c.args.fact) + 6 = subst (λ f. 8 * (v.term + 2) + 4 < 8 * depth_of (fact_of f) + 6) (sym v.is) (omega arith) in
    search rules

pub finish-returns-in-Seen : goal.finish-returns-in-Seen
finish-returns-in-Seen g t c =
    let w = c.args.source.now.world in
    let p = c.args.source.now.checked.now in
    subst (λ f. IsWalkTo w p (depth_of (fact_of f)) (fact_of f ∷ []) c.args.walk.now c.finish_bar.new.walk c.finish_bar.result) (sym c.in-Seen.is) c.finish_bar.ensures

pub finish-returns-in-TermValue : goal.finish-returns-in-TermValue
finish-returns-in-TermValue g t c =
    let w = c.args.source.now.world in
    let p = c.args.source.now.checked.now in
    let deep : c.in-TermValue.term + 2 ≡ suc (suc c.in-TermValue.term) = omega arith in
    subst (λ f. IsWalkTo w p (depth_of (fact_of f)) (fact_of f ∷ []) c.args.walk.now c.finish_value.new.walk c.finish_value.result) (sym c.in-TermValue.is)
    (subst (λ k. IsWalkTo w p k (TermValue c.in-TermValue.term c.in-TermValue.sid (pos c.in-TermValue.session) ∷ []) c.args.walk.now c.finish_value.new.walk c.finish_value.result) deep c.finish_value.ensures)

pub finish-returns-in-SeenValue : goal.finish-returns-in-SeenValue
finish-returns-in-SeenValue g t c =
    let w = c.args.source.now.world in
    let p = c.args.source.now.checked.now in
    let v = c.in-SeenValue in
    let f = SeenValue v.term v.sid (pos v.session) (pos v.view) in
    let walk = c.finish_value-in-SeenValue.new.walk in
    let deep : v.term + 2 ≡ suc (suc v.term) = omega arith in
    subst (λ f. IsWalkTo w p (depth_of (fact_of f)) (fact_of f ∷ []) c.args.walk.now walk c.finish_value-in-SeenValue.result) (sym v.is)
    (subst (λ k. IsWalkTo w p k (f ∷ []) c.args.walk.now walk c.finish_value-in-SeenValue.result) deep c.finish_value-in-SeenValue.ensures)

-- ---- facts in a row

pub finish_all-loop-fact-init : goal.finish_all-loop-fact-init
finish_all-loop-fact-init g t c = record { stands = c.requires.stands; finished = walk-none c.args.source.now.world c.args.source.now.checked.now (c.args.t.0 + 1) c.args.walk.now }

pub finish_all-finish-requires : goal.finish_all-finish-requires
finish_all-finish-requires g t c =
    let w = c.args.source.now.world in
    let p = c.args.source.now.checked.now in
    let most = c.args.t.0 + 1 in
    let facts = c.args.facts.now in
    let i = c.loop-fact.fact-index in
    let within : i < length facts = c.loop-fact-test.true in
    let each : (d : Fact) → CanBeDerivedWithin w p most (fact_of (get_or facts i d)) = λ d. all-stand facts i (get_or facts i d) (slice_get-get_or facts i d within) w p most c.requires.facts in
    let stand : (d : Fact) → MayBeDerived w p (fact_of (get_or facts i d)) = λ d. (each d).0 in
    let smaller : (d : Fact) → 8 * depth_of (fact_of (get_or facts i d)) + 6 < 8 * (c.args.t.0 + 1) + 7 = λ d. let l = (each d).1 in omega (arith, l) in
    search rules

pub finish_all-returns-in_err-finish : goal.finish_all-returns-in_err-finish
finish_all-returns-in_err-finish g t c =
    let w = c.args.source.now.world in
    let p = c.args.source.now.checked.now in
    let facts = c.args.facts.now in
    let i = c.loop-fact.fact-index in
    let q = err_from_is_err_and c.from_residual.result c.from_residual.ensures.1 in
    rw (q.1, q.2) (record {
      stands = tt;
      finished = tt;
      long = λ e. all-long facts i _ (slice_get-get_or facts i _ c.loop-fact-test.true) w p (c.args.t.0 + 1) c.requires.facts c.args.walk.now c.loop-fact.walk c.loop-fact.invariant.finished (c.in_err-finish.ensures.long e);
    })

pub finish_all-loop-fact-preserved : goal.finish_all-loop-fact-preserved
finish_all-loop-fact-preserved g t c =
    let facts = c.args.facts.now in
    let i = c.loop-fact.fact-index in
    record {
      stands = c.in_ok-finish.ensures.stands;
      finished = all-more facts i _ (slice_get-get_or facts i _ c.loop-fact-test.true) c.args.source.now.world c.args.source.now.checked.now (c.args.t.0 + 1) c.requires.facts c.args.walk.now c.loop-fact.walk c.loop-fact.invariant.finished
          c.finish.new.walk c.in_ok-finish.ensures.finished;
    }

pub finish_all-returns : goal.finish_all-returns
finish_all-returns g t c =
    let w = c.args.source.now.world in
    let p = c.args.source.now.checked.now in
    let facts = c.args.facts.now in
    let i = c.loop-fact.fact-index in
    let end : length facts ≤ i = c.loop-fact-test.false in
    record {
      stands = c.loop-fact.invariant.stands;
      finished = subst (λ fs. Finishes w p (c.args.t.0 + 1) c.args.walk.now c.loop-fact.walk (map fact_of fs)) (take_all i facts end) c.loop-fact.invariant.finished;
      long = tt;
    }

-- ---- a value

pub finish_value-finish_premises-requires : goal.finish_value-finish_premises-requires
finish_value-finish_premises-requires g t c =
    let w = c.args.source.now.world in
    let p = c.args.source.now.checked.now in
    let v = view_at c.args.view in
    let fact : MayBeDerived w p (value_fact c.args.term (sid_at w.assets.now c.in-Some.col) (pos c.args.session) v) = subst (λ a. MayBeDerived w p (value_fact c.args.term a (pos c.args.session) v)) (sym c.in-Some.ensures.some.sid_is) c.requires.fact in
    let day = worth-day w p c.requires.stands.table.ready.checked c.args.term c.args.sid c.args.session c.args.view c.requires.fact in
    let smaller : 8 * (c.args.term + 2) + 2 < 8 * (c.args.term + 2) + 4 = omega arith in
    search rules

pub finish_value-returns-in_err-finish_premises : goal.finish_value-returns-in_err-finish_premises
finish_value-returns-in_err-finish_premises g t c =
    let w = c.args.source.now.world in
    let p = c.args.source.now.checked.now in
    let walk = c.args.walk.now in
    let q = err_from_is_err_and c.from_residual.result c.from_residual.ensures.1 in
    let own = facts-of w p c.args.term c.args.sid c.args.session c.args.view in
    rw (q.1, q.2) (record {
      stands = tt;
      finished = tt;
      long = λ e. own-long w p c.args.term (value_fact c.args.term c.args.sid (pos c.args.session) (view_at c.args.view)) walk c.requires.fresh
          (subst (λ fs. IsTooLong w p (c.args.term + 1) walk fs) (sym own)
          (subst (λ b. IsTooLong w p (c.args.term + 1) walk (own_facts w p c.args.term b c.args.session c.args.view)) c.in-Some.ensures.some.sid_is (c.in_err-finish_premises.ensures.long e)));
    })

pub finish_value-unreachable-requires : goal.finish_value-unreachable-requires
finish_value-unreachable-requires g t c =
    true≢false (sym (worth-sid c.args.source.now.world c.args.source.now.checked.now c.requires.stands.table.ready.checked c.args.term c.args.sid c.args.session c.args.view c.requires.fact) ∙ none-holds c.col_of.result c.in_default.not-Some c.col_of.ensures.none)

pub finish_value-returns-in_err-value : goal.finish_value-returns-in_err-value
finish_value-returns-in_err-value g t c = no-memory _ _ _ _ _ _ _ c.from_residual-in_err-value.ensures.1

pub finish_value-value_now-requires-clause-stands : goal.finish_value-value_now-requires-clause-stands
finish_value-value_now-requires-clause-stands g t c = c.in_ok-finish_premises.ensures.stands

pub finish_value-value_now-requires-clause-term : goal.finish_value-value_now-requires-clause-term
finish_value-value_now-requires-clause-term g t c = worth-within c.args.source.now.world c.args.source.now.checked.now c.requires.stands.table.ready.checked c.args.term c.args.sid c.args.session c.args.view c.requires.fact

pub finish_value-value_now-requires-clause-session : goal.finish_value-value_now-requires-clause-session
finish_value-value_now-requires-clause-session g t c = worth-day c.args.source.now.world c.args.source.now.checked.now c.requires.stands.table.ready.checked c.args.term c.args.sid c.args.session c.args.view c.requires.fact

pub finish_value-value_now-requires-clause-premises : goal.finish_value-value_now-requires-clause-premises
finish_value-value_now-requires-clause-premises g t c =
    let w = c.args.source.now.world in
    stated-now w c.args.source.now.checked.now c.args.term c.args.walk.now c.finish_premises.new.walk (own_facts w c.args.source.now.checked.now c.args.term (sid_at w.assets.now c.in-Some.col) c.args.session c.args.view) c.requires.stands c.in_ok-finish_premises.ensures.finished

pub finish_value-value_line-line-requires-clause-fact : goal.finish_value-value_line-line-requires-clause-fact
finish_value-value_line-line-requires-clause-fact g t c =
    let w = c.args.source.now.world in
    let p = c.args.source.now.checked.now in
    subst (λ a. MayBeDerived w p (value_fact c.args.term a (pos c.args.session) (view_at c.args.view))) (sym c.in-Some.ensures.some.sid_is) c.requires.fact

pub finish_value-put-requires : goal.finish_value-put-requires
finish_value-put-requires g t c = record { few = subst (λ l. length l.items ≤ most_lines) (sym c.in_ok-value.ensures.lines) c.in_ok-finish_premises.ensures.stands.few }

pub finish_value-returns : goal.finish_value-returns
finish_value-returns g t c =
    let w = c.args.source.now.world in
    let p = c.args.source.now.checked.now in
    let t0 = c.args.term in
    let a = c.args.sid in
    let s = c.args.session in
    let view = c.args.view in
    let walk = c.args.walk.now in
    let f = value_fact t0 a (pos s) (view_at view) in
    let place = c.in-Some.ensures.some in
    let before = c.finish_premises.new.walk in
    let mid = c.value_now.new.walk in
    let ok = c.requires.stands.table.ready.checked in
    let first : Finishes w p (t0 + 1) walk before (own_facts w p t0 a s view) = subst (λ b. Finishes w p (t0 + 1) walk before (own_facts w p t0 b s view)) place.sid_is c.in_ok-finish_premises.ensures.finished in
    let behind = subst (λ fs. Finishes w p (t0 + 1) walk mid fs) (sym (facts-of w p t0 a s view))
    (other-finished w p before mid c.in_ok-value.ensures.stated c.in_ok-value.ensures.lines (t0 + 1) walk (own_facts w p t0 a s view) first) in
    let x = c.in_ok-value.value in
    let fits : FitsSigned w64 c.in_ok-value.value = search rules in
    let value : x ≡ number_in (world_of w) (pipeline_of p) f = c.in_ok-value.ensures.value ∙ ap (λ b. seen_in w p t0 view b s) place.sid_is ∙ number-of w p t0 a s view in
    let line = c.value_line-line.ensures.line ∙ ap (λ b. line_for (world_of w) (pipeline_of p) (value_fact t0 b (pos s) (view_at view))) place.sid_is in
    let stands = other-stands w p before mid c.in_ok-value.ensures.stated c.in_ok-value.ensures.lines c.in_ok-finish_premises.ensures.stands c.in_ok-value.ensures.rows in
    let put = subst (λ h. IsPut h (to_z w64 (of_z w64 x)) c.value_line-line.result mid c.put.new.walk c.put.result) c.value_fact.ensures c.put.ensures in
    put-walked w p (t0 + 1) f walk mid c.put.new.walk c.requires.fresh behind c.value_line-line.result x line (t0 + 2) (omega arith) c.put.result c.requires.stands stands
    c.value_line-line.ensures.writable value c.in_ok-value.ensures.cell (worth-fits w p ok t0 a s view c.requires.fact) (simp to_z-of_z at put)

-- ---- the premises

pub finish_premises-node_in-node-requires : goal.finish_premises-node_in-node-requires
finish_premises-node_in-node-requires g t c = worth-within c.args.source.now.world c.args.source.now.checked.now c.requires.stands.table.ready.checked c.args.t.0 (sid_at c.args.source.now.world.assets.now c.args.col) c.args.session c.args.view c.requires.fact

pub finish_premises-returns-then-not-exists : goal.finish_premises-returns-then-not-exists
finish_premises-returns-then-not-exists g t c =
    let w = c.args.source.now.world in
    let p = c.args.source.now.checked.now in
    let t0 = c.args.t.0 in
    let a = sid_at w.assets.now c.args.col in
    let ok = c.requires.stands.table.ready.checked in
    let none = premises-lacks w p ok t0 a c.args.session c.args.view (worth-within w p ok t0 a c.args.session c.args.view c.requires.fact) (sym c.exists.ensures.value ∙ c.if-not-exists.true) in
    record {
      stands = c.requires.stands;
      finished = subst (λ fs. Finishes w p (t0 + 1) c.args.walk.now c.args.walk.now fs) (sym none) (walk-none w p (t0 + 1) c.args.walk.now);
      long = tt;
    }

pub finish_premises-returns-in_err-mask : goal.finish_premises-returns-in_err-mask
finish_premises-returns-in_err-mask g t c = no-memory _ _ _ _ _ _ _ c.from_residual.ensures.1

pub finish_premises-finish_all-requires : goal.finish_premises-finish_all-requires
finish_premises-finish_all-requires g t c =
    let w = c.args.source.now.world in
    let n = c.node_in-node.result.now in
    let a = sid_at w.assets.now c.args.col in
    let there = sym c.exists.ensures.value ∙ c.if-not-exists.false in
    let read = mask-is n.mask c.args.session c.sid.result a c.deref.result.now c.in_ok-mask.mask.items c.deref.ensures.value c.in_ok-mask.ensures (sid-of w.assets.now c.args.col c.sid.result c.sid.ensures) in
    let facts : Each (CanBeDerivedWithin w c.args.source.now.checked.now (c.args.t.0 + 1)) (map fact_of c.deref.result.now) = mask-stands c.requires.stands c.args.t.0 n c.node_in-node.ensures a c.args.session c.args.view there (map fact_of c.deref.result.now) read c.requires.fact in
    let smaller : 8 * (c.args.t.0 + 1) + 7 < 8 * (c.args.t.0 + 2) + 2 = omega arith in
    search rules

pub finish_premises-returns-in_err-finish_all : goal.finish_premises-returns-in_err-finish_all
finish_premises-returns-in_err-finish_all g t c =
    let w = c.args.source.now.world in
    let n = c.node_in-node.result.now in
    let a = sid_at w.assets.now c.args.col in
    let there = sym c.exists.ensures.value ∙ c.if-not-exists.false in
    let read = mask-is n.mask c.args.session c.sid.result a c.deref.result.now c.in_ok-mask.mask.items c.deref.ensures.value c.in_ok-mask.ensures (sid-of w.assets.now c.args.col c.sid.result c.sid.ensures) in
    let q = err_from_is_err_and c.from_residual-in_err-finish_all.result c.from_residual-in_err-finish_all.ensures.1 in
    rw (q.1, q.2) (record {
      stands = tt;
      finished = tt;
      long = λ e. mask-long c.requires.stands c.args.t.0 n c.node_in-node.ensures a c.args.session c.args.view there (map fact_of c.deref.result.now) read (c.in_err-finish_all.ensures.long e);
    })

pub finish_premises-mask_stated-requires : goal.finish_premises-mask_stated-requires
finish_premises-mask_stated-requires g t c =
    let table = c.in_ok-finish_all.ensures.stands.table in
    record { on = record { ready = table.ready; truth = table.truth; session = c.requires.session }; column = c.requires.col }

pub finish_premises-finish_kind-requires : goal.finish_premises-finish_kind-requires
finish_premises-finish_kind-requires g t c =
    let w = c.args.source.now.world in
    let n = c.node_in-node.result.now in
    let a = sid_at w.assets.now c.args.col in
    let there = sym c.exists.ensures.value ∙ c.if-not-exists.false in
    let read = mask-is n.mask c.args.session c.sid.result a c.deref.result.now c.in_ok-mask.mask.items c.deref.ensures.value c.in_ok-mask.ensures (sid-of w.assets.now c.args.col c.sid.result c.sid.ensures) in
    let facts : Each (CanBeDerivedWithin w c.args.source.now.checked.now (c.args.t.0 + 1)) (facts_read w c.args.source.now.checked.now c.args.t.0 a c.args.session c.args.view) = facts-stand c.requires.stands c.args.t.0 n c.node_in-node.ensures a c.args.session c.args.view there (map fact_of c.deref.result.now) read
    c.finish_all.new.walk c.in_ok-finish_all.ensures.finished c.mask_stated.result c.mask_stated.ensures (c.in-Some-true.is ∙ ap Some c.in-Some-true.field-0-test) c.requires.fact in
    let smaller : 8 * (c.args.t.0 + 2) + 1 < 8 * (c.args.t.0 + 2) + 2 = omega arith in
    search rules

pub finish_premises-returns-in-Some-true : goal.finish_premises-returns-in-Some-true
finish_premises-returns-in-Some-true g t c =
    let w = c.args.source.now.world in
    let n = c.node_in-node.result.now in
    let a = sid_at w.assets.now c.args.col in
    let there = sym c.exists.ensures.value ∙ c.if-not-exists.false in
    let read = mask-is n.mask c.args.session c.sid.result a c.deref.result.now c.in_ok-mask.mask.items c.deref.ensures.value c.in_ok-mask.ensures (sid-of w.assets.now c.args.col c.sid.result c.sid.ensures) in
    passed-walked c.requires.stands c.args.t.0 n c.node_in-node.ensures a c.args.session c.args.view there (map fact_of c.deref.result.now) read
    c.finish_all.new.walk c.in_ok-finish_all.ensures.finished c.mask_stated.result c.mask_stated.ensures (c.in-Some-true.is ∙ ap Some c.in-Some-true.field-0-test) c.finish_kind.new.walk c.finish_kind.result c.finish_kind.ensures

pub finish_premises-returns-in-Some-false : goal.finish_premises-returns-in-Some-false
finish_premises-returns-in-Some-false g t c =
    let w = c.args.source.now.world in
    let n = c.node_in-node.result.now in
    let a = sid_at w.assets.now c.args.col in
    let there = sym c.exists.ensures.value ∙ c.if-not-exists.false in
    let read = mask-is n.mask c.args.session c.sid.result a c.deref.result.now c.in_ok-mask.mask.items c.deref.ensures.value c.in_ok-mask.ensures (sid-of w.assets.now c.args.col c.sid.result c.sid.ensures) in
    record {
      stands = c.in_ok-finish_all.ensures.stands;
      finished = stopped-finished c.requires.stands c.args.t.0 n c.node_in-node.ensures a c.args.session c.args.view there (map fact_of c.deref.result.now) read
          c.finish_all.new.walk c.in_ok-finish_all.ensures.finished c.mask_stated.result c.mask_stated.ensures (c.in-Some-false.is ∙ ap Some c.in-Some-false.field-0-test);
      long = tt;
    }

pub finish_premises-unreachable-requires : goal.finish_premises-unreachable-requires
finish_premises-unreachable-requires g t c =
    let w = c.args.source.now.world in
    let n = c.node_in-node.result.now in
    let a = sid_at w.assets.now c.args.col in
    let there = sym c.exists.ensures.value ∙ c.if-not-exists.false in
    let read = mask-is n.mask c.args.session c.sid.result a c.deref.result.now c.in_ok-mask.mask.items c.deref.ensures.value c.in_ok-mask.ensures (sid-of w.assets.now c.args.col c.sid.result c.sid.ensures) in
    mask-known c.requires.stands c.args.t.0 n c.node_in-node.ensures a c.args.session c.args.view there (map fact_of c.deref.result.now) read
    c.finish_all.new.walk c.in_ok-finish_all.ensures.finished c.mask_stated.result c.mask_stated.ensures c.in-None.is

-- ---- what the kind reads

pub finish_kind-is_whole-requires-clause-term : goal.finish_kind-is_whole-requires-clause-term
finish_kind-is_whole-requires-clause-term g t c = worth-within c.args.source.now.world c.args.source.now.checked.now c.requires.stands.table.ready.checked c.args.t.0 (sid_at c.args.source.now.world.assets.now c.args.col) c.args.session c.args.view c.requires.fact

pub finish_kind-returns-then-is_whole : goal.finish_kind-returns-then-is_whole
finish_kind-returns-then-is_whole g t c =
    let w = c.args.source.now.world in
    let p = c.args.source.now.checked.now in
    let a = sid_at w.assets.now c.args.col in
    record {
      stands = c.requires.stands;
      finished = walk-stated w p (c.args.t.0 + 1) c.args.walk.now (facts_read w p c.args.t.0 a c.args.session c.args.view) (c.is_whole.ensures.stand c.if-is_whole.true a c.args.view);
      long = tt;
    }

pub finish_kind-returns-in_err-facts : goal.finish_kind-returns-in_err-facts
finish_kind-returns-in_err-facts g t c = no-memory _ _ _ _ _ _ _ c.from_residual.ensures.1

pub finish_kind-facts_read-requires-clause-asked : goal.finish_kind-facts_read-requires-clause-asked
finish_kind-facts_read-requires-clause-asked g t c =
    let ready = c.requires.stands.table.ready in
    worth-asked c.args.source.now.world c.args.source.now.checked.now ready.checked c.args.t.0 (sid_at c.args.source.now.world.assets.now c.args.col) c.args.session c.args.view c.requires.fact ready.made ready.days

pub finish_kind-finish_all-requires : goal.finish_kind-finish_all-requires
finish_kind-finish_all-requires g t c =
    let stand = Each (CanBeDerivedWithin c.args.source.now.world c.args.source.now.checked.now (c.args.t.0 + 1)) in
    let facts : stand (map fact_of c.deref.result.now) = subst stand (sym (ap (map fact_of) c.deref.ensures.value ∙ c.in_ok-facts.ensures)) c.requires.facts in
    let smaller : 8 * (c.args.t.0 + 1) + 7 < 8 * (c.args.t.0 + 2) + 1 = omega arith in
    search rules

pub finish_kind-returns : goal.finish_kind-returns
finish_kind-returns g t c =
    let w = c.args.source.now.world in
    let p = c.args.source.now.checked.now in
    let same = ap (map fact_of) c.deref.ensures.value ∙ c.in_ok-facts.ensures in
    subst (λ fs. IsWalkTo w p (c.args.t.0 + 1) fs c.args.walk.now c.finish_all.new.walk c.finish_all.result) same c.finish_all.ensures
