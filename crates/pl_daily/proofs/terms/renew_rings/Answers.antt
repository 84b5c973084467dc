use Rattle.std.proofs.Common.{◌≡◌, ◌<◌, ◌∙◌, true, false, ap, sym, subst, arith, [], length, get_or, length-set}
use Rattle.std.proofs.lemmas.List.{get_or_default}
use Rattle.circular_buffer.specs.Buffer.{buffer}
use Rattle.pl_daily.specs.Changes.{AreRings, IsRing, Ring, ring_at}
use Rattle.pl_daily.specs.Earlier.{IsReadBack, IsRenewed}
use Rattle.pl_daily.specs.Terms.{assets_at}
use Rattle.pl_daily.proofs.Cells.{rings_set}
use Rattle.pl_daily.proofs.Renewed.{others_more, others_still, renewed_more, renewed_still, rest_more, rest_still}
use Rattle.pl_daily.proofs.terms.renew_rings.Goals as goal
use Rattle.pl_daily.proofs.terms.renew_rings.Goals.{then-lent-i, else-lent-i}

pub renew_ring-requires-clause-held : goal.renew_ring-requires-clause-held
renew_ring-requires-clause-held c =
    let i = c.loop-i.i in
    let l = c.loop-i.invariant in
    let size = c.requires.held.1 in
    let was = c.requires.held.2 in
    let are : AreRings (assets_at c.args.lent.now) size c.loop-i.rings = l.rings size was in
    let inside : i < assets_at c.args.lent.now = omega (arith, c.loop-i-test.true, was.count) in
    let same : get_or c.loop-i.rings i c.index-rings-i.result ≡ ring_at c.loop-i.rings i = get_or_default c.loop-i.rings i c.index-rings-i.result (buffer [] 0) (omega (arith, inside, are.count)) in
    let long = ap (λ (b : Ring). length b.items) same ∙ (are.each i inside).full in
    (c.requires.held.0, c.requires.held.3, subst (IsReadBack c.args.term_day.now c.requires.held.0 c.args.lent.now.fed) (sym long) c.requires.held.4)

pub loop-i-preserved : goal.loop-i-preserved
loop-i-preserved c =
    let t = c.args.term_day.now in
    let fed = c.args.lent.now.fed in
    let marks = c.args.lent.now.changed.now in
    let assets = assets_at c.args.lent.now in
    let i = c.loop-i.i in
    let old = c.args.rings.now in
    let now = c.loop-i.rings in
    let l = c.loop-i.invariant in
    let was = c.requires.held.2 in
    let inside : i < length old = omega (arith, c.loop-i-test.true) in
    let within : i < length marks = omega (arith, inside, was.count, c.requires.marked) in
    let here : i < length now = omega (arith, inside, l.count) in
    elim c.if-lent-i.branch [
      | then-lent-i w ↦
          let blank = w.index-rings-i.result in
          let new = w.renew_ring.new.ring in
          let same : get_or now i blank ≡ ring_at now i = get_or_default now i blank (buffer [] 0) here in
          let marked : get_or marks i true ≡ true = get_or_default marks i true _ within ∙ w.if-lent-i.true in
          let renewed : IsRenewed t fed i (ring_at now i).items new.items = subst (λ (b : Ring). IsRenewed t fed i b.items new.items) same w.renew_ring.ensures.renewed in
          rw (w.first-is, w.second-is, w.third-is, w.rings-is) (record {
            rings = λ size are.
                let held = l.rings size are in
                let own : i < assets = omega (arith, here, held.count) in
                let long = ap (λ (b : Ring). length b.items) same ∙ (held.each i own).full in
                rings_set assets size i now new held (subst (λ n. IsRing n new) long w.renew_ring.ensures.ring) own;
            count = length-set now i new ∙ l.count;
            renewed = renewed_more t fed marks i old now l.count inside l.renewed l.others l.rest new marked renewed;
            others = others_more t fed marks i old now l.count inside l.renewed l.others l.rest new marked renewed;
            rest = rest_more t fed marks i old now l.count inside l.renewed l.others l.rest new marked renewed;
            first = w.renew_ring.ensures.first ∙ l.first;
            second = w.renew_ring.ensures.second ∙ l.second;
            third = w.renew_ring.ensures.third ∙ l.third;
          })
      | else-lent-i w ↦
          let unmarked : get_or marks i true ≡ false = get_or_default marks i true _ within ∙ w.if-lent-i.false in
          rw (w.first-is, w.second-is, w.third-is, w.rings-is) (record {
            rings = l.rings;
            count = l.count;
            renewed = renewed_still t fed marks i old now l.count inside l.renewed l.others l.rest unmarked;
            others = others_still t fed marks i old now l.count inside l.renewed l.others l.rest unmarked;
            rest = rest_still t fed marks i old now l.count inside l.renewed l.others l.rest unmarked;
            first = l.first;
            second = l.second;
            third = l.third;
          })
    ]
