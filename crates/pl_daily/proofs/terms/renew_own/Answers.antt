use Rattle.std.proofs.Common.{rules, ◌≡◌, ◌≤◌, ◌∙◌, ℤ, List, refl, sym, ap, subst, arith, length, drop, slice_get, FitsSigned, w32, to_z, of_z}
use Rattle.std.proofs.lemmas.Int.{to_z-of_z}
use Rattle.pl_spec.specs.Limits.{most_window}
use Rattle.pl_terms.specs.Nodes.{node_of}
use Rattle.pl_terms.proofs.Graphs.{graph-at}
use Rattle.pl_planner.proofs.Pipelines.{is-pipeline}
use Rattle.pl_daily.specs.Changes.{AreRings, Ring, ring_at}
use Rattle.pl_daily.specs.Earlier.{IsRenewed}
use Rattle.pl_daily.specs.Terms.{assets_at, pipeline_at}
use Rattle.pl_daily.proofs.Advances.{vec_back}
use Rattle.pl_daily.proofs.Depths.{deep-moves}
use Rattle.pl_daily.proofs.Moving.{moving-kind}
use Rattle.pl_daily.proofs.Placed.{moment_of, own_back, own_follows, own_stands, term_day_of}
use Rattle.pl_daily.proofs.terms.renew_own.Goals as goal

pub renew_rings-requires : goal.renew_rings-requires
renew_rings-requires c =
    let l = c.args.lent.now in
    let p = pipeline_at l in
    let k = c.args.term.0 in
    let n = c.node.result.now in
    let next = c.requires.placed.0 in
    let days = c.requires.placed.1 in
    let own = c.args.own.now in
    let ok = c.requires.lent.checked in
    let room = c.requires.room in
    let fits : FitsSigned w32 l.day = search rules in
    let at = graph-at l.checked.now.graph k n (ap (λ g. slice_get g k) (sym c.graph.ensures.value) ∙ c.node.ensures) in
    let w : (node_of n).window ≤ most_window = ((is-pipeline p ok).windows k (node_of n) at).1 in
    let many : k ≤ length c.args.below.now = omega (arith, c.requires.many) in
    record {
      held = (
        moment_of l next days,
        own.rings.capacity,
        subst (AreRings (assets_at l) own.rings.capacity) (sym c.deref_mut-4.ensures.value) (c.requires.own.full.rings c.requires.own.some),
        own_stands l c.args.below c.args.term c.node.result c.deref.result _ c.args.start.now (to_z-of_z w32 l.day fits) c.deref.ensures.value c.requires.start c.requires.terms many
            ok c.requires.used at c.requires.lent.few c.requires.lent.labels own next days c.requires.placed.2,
        own_back l c.args.below c.args.term c.node.result c.deref.result _ c.args.start.now (to_z-of_z w32 l.day fits) c.deref.ensures.value c.requires.start c.requires.terms many
            ok c.requires.used at c.requires.lent.few c.requires.lent.labels own next days c.requires.placed.2 c.requires.own.deep own.rings.capacity c.requires.own.few,
      );
      moves = moving-kind p.graph ok.graph k (node_of n) at (deep-moves p ok k c.requires.own.deep);
      assets = refl;
      marked = c.requires.placed.2.may.marked;
      first = omega (arith, w, room.first, ap length c.deref_mut.ensures.value);
      second = omega (arith, w, room.second, ap length c.deref_mut-2.ensures.value);
      third = omega (arith, w, room.third, ap length c.deref_mut-3.ensures.value);
    }

pub returns : goal.returns
returns c =
    let l = c.args.lent.now in
    let k = c.args.term.0 in
    let n = c.node.result.now in
    let own = c.args.own.now in
    let ok = c.requires.lent.checked in
    let fits : FitsSigned w32 l.day = search rules in
    let at = graph-at l.checked.now.graph k n (ap (λ g. slice_get g k) (sym c.graph.ensures.value) ∙ c.node.ensures) in
    let many : k ≤ length c.args.below.now = omega (arith, c.requires.many) in
    let was : AreRings (assets_at l) own.rings.capacity own.rings.rings.items = c.requires.own.full.rings c.requires.own.some in
    let lent : AreRings (assets_at l) own.rings.capacity c.deref_mut-4.result.now = subst (AreRings (assets_at l) own.rings.capacity) (sym c.deref_mut-4.ensures.value) was in
    let new = c.renew_rings.new.rings in
    let now : AreRings (assets_at l) own.rings.capacity new = c.renew_rings.ensures.rings own.rings.capacity lent in
    let count : length c.deref_mut-4.result.now ≡ length new = lent.count ∙ sym now.count in
    let back = vec_back own.rings.rings.len new (drop (length new) own.rings.rings.items) (sym c.deref_mut-4.ensures.len ∙ count) in
    let t = term_day_of l c.args.below c.args.term c.node.result c.deref.result (to_z w32 (of_z w32 l.day)) in
    let room = c.requires.room in
    let a = c.renew_rings.new.first in
    let b = c.renew_rings.new.second in
    let e = c.renew_rings.new.third in
    let first = vec_back c.args.room.now.first.len a (drop (length a) c.args.room.now.first.items) (sym c.deref_mut.ensures.len ∙ sym c.renew_rings.ensures.first) in
    let second = vec_back c.args.room.now.second.len b (drop (length b) c.args.room.now.second.items) (sym c.deref_mut-2.ensures.len ∙ sym c.renew_rings.ensures.second) in
    let third = vec_back c.args.room.now.third.len e (drop (length e) c.args.room.now.third.items) (sym c.deref_mut-3.ensures.len ∙ sym c.renew_rings.ensures.third) in
    record {
      follow = own_follows l c.args.below c.args.term c.node.result c.deref.result _ c.args.start.now (to_z-of_z w32 l.day fits) c.deref.ensures.value c.requires.start c.requires.terms many
          ok c.requires.used at c.requires.lent.few c.requires.lent.labels own _ c.requires.own refl refl
          (λ i h marked. subst (λ (rs : List Ring). IsRenewed t l.fed i (ring_at own.rings.rings.items i).items (ring_at rs i).items) (sym back)
          (subst (λ (rs : List Ring). IsRenewed t l.fed i (ring_at rs i).items (ring_at new i).items) c.deref_mut-4.ensures.value (c.renew_rings.ensures.renewed i (omega (arith, h, lent.count)) marked)))
          (λ i h unmarked. ap (λ (rs : List Ring). ring_at rs i) back ∙ c.renew_rings.ensures.others i (omega (arith, h, lent.count)) unmarked ∙ ap (λ (rs : List Ring). ring_at rs i) c.deref_mut-4.ensures.value);
      full = record {
        row = c.requires.own.full.row;
        cells = c.requires.own.full.cells;
        rings = λ some. subst (AreRings (assets_at l) own.rings.capacity) (sym back) now;
      };
      capacity = refl;
      room = record {
        cross = c.requires.room.cross;
        first = subst (λ (xs : List ℤ). most_window ≤ length xs) (sym first) (omega (arith, room.first, c.renew_rings.ensures.first, ap length c.deref_mut.ensures.value));
        second = subst (λ (xs : List ℤ). most_window ≤ length xs) (sym second) (omega (arith, room.second, c.renew_rings.ensures.second, ap length c.deref_mut-2.ensures.value));
        third = subst (λ (xs : List ℤ). most_window ≤ length xs) (sym third) (omega (arith, room.third, c.renew_rings.ensures.third, ap length c.deref_mut-3.ensures.value));
        keep = c.requires.room.keep;
        out = c.requires.room.out;
        sessions = c.requires.room.sessions;
      };
    }
