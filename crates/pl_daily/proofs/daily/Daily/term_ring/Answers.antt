use Rattle.std.proofs.Common.{◌≡◌, ◌<◌, ◌∙◌, true, length, slice_get, Some, ap, arith, refl, rules, sym, subst, vec_len}
use Rattle.std.proofs.lemmas.Option.{get_or_from_slice_get, slice_get_read}
use Rattle.pl_terms.specs.Checked.{pipeline_of}
use Rattle.pl_terms.specs.Uses.{is_used}
use Rattle.pl_daily.specs.Changes.{AreRings}
use Rattle.pl_daily.specs.declared.term_day.TermCells.{TermCells}
use Rattle.pl_daily.specs.Capacities.{term_window}
use Rattle.pl_daily.specs.Daily.{Held}
use Rattle.pl_daily.proofs.daily.Daily.term_ring.Goals as goal

pub index-requires : goal.index-requires
index-requires c =
    let d = c.self.inside in
    let known : c.args.t.0 < length (pipeline_of d.checked.now).graph = subst (λ (h : Held). c.args.t.0 < length h.pipeline.graph) (sym c.self.view_is) c.requires in
    let v : vec_len d.terms ≡ length d.terms.items = search rules in
    omega (arith, known, c.self.invariant.terms.many, v)

pub returns-clause-window : goal.returns-clause-window
returns-clause-window c =
    let d = c.self.inside in
    let known : c.args.t.0 < length (pipeline_of d.checked.now).graph = subst (λ (h : Held). c.args.t.0 < length h.pipeline.graph) (sym c.self.view_is) c.requires in
    let at = slice_get_read d.terms.items (length d.terms.items) c.args.t.0 c.index.result.now refl (omega (arith, known, c.self.invariant.terms.many)) c.index.ensures in
    subst (λ (h : Held). c.index.result.now.rings.capacity ≡ term_window h.pipeline c.args.t.0) c.self.view_is (c.self.invariant.windows c.args.t.0 c.index.result.now at)

pub returns-clause-rings : goal.returns-clause-rings
returns-clause-rings c =
    let d = c.self.inside in
    let was = c.index.result.now in
    λ x used some is.
    let at : slice_get d.terms.items c.args.t.0 ≡ Some x = subst (λ (h : Held). slice_get h.terms c.args.t.0 ≡ Some x) (sym c.self.view_is) is in
    let same : was ≡ x = c.index.ensures ∙ get_or_from_slice_get d.terms.items c.args.t.0 x was at in
    let full = c.self.invariant.terms.room.full c.args.t.0 x (subst (λ (h : Held). is_used h.pipeline c.args.t.0 ≡ true) (sym c.self.view_is) used) at in
    subst (λ (h : Held). AreRings (length h.assets) was.rings.capacity x.rings.rings.items) c.self.view_is
    (subst (λ n. AreRings (length d.assets.now) n x.rings.rings.items) (ap (λ (y : TermCells). y.rings.capacity) (sym same)) (full.rings (subst (λ (y : TermCells). 0 < y.rings.capacity) same some)))
