use Rattle.std.proofs.Common.{◌≡◌, ◌<◌, length, subst, sym, ◌∙◌, ap, arith, refl, false, All}
use Rattle.std.proofs.lemmas.List.{length-replicate}
use Rattle.pl_terms.specs.Checked.{pipeline_of}
use Rattle.pl_daily.specs.Columns.{AreBarRings, BeginColumns}
use Rattle.pl_daily.specs.Room.{AreBegun, AreBegunStarts, IsRoom, no_session}
use Rattle.pl_daily.proofs.Begun.{columns_fit, stands_first, starts_are, terms_are}
use Rattle.pl_daily.proofs.daily.Daily.begin.Goals as goal

pub invariant_of-result : goal.invariant_of-result
invariant_of-result c =
    let n = length c.args.assets.now in
    let p = pipeline_of c.args.checked.now in
    let many : c.len-many.result ≡ n = c.len-many.ensures.length in
    let count = c.count-terms.ensures.count in
    let bars = c.in_ok-begin_rings.field-0 in
    let terms = c.in_ok-begin_terms.field-0.items in
    let starts = c.in_ok-begin_starts.field-0.items in
    let are : AreBarRings n bars = subst (λ m. AreBarRings m bars) many c.in_ok-begin_rings.ensures.rings in
    let begun : AreBegun n p (length p.graph) terms = subst (λ m. AreBegun m p (length p.graph) terms) many c.in_ok-begin_terms.ensures in
    let begun_starts : AreBegunStarts n p (length p.graph) starts = subst (λ m. AreBegunStarts m p (length p.graph) starts) many c.in_ok-begin_starts.ensures in
    let x = c.column_windows.result in
    let room = c.in_ok-begin_rings.ensures.room in
    record {
      checked = c.count-terms.ensures.checked;
      columns = columns_fit n p x bars terms starts c.column_windows.ensures room are begun begun_starts;
      windows = λ u t e. (begun.each u t e).capacity;
      terms = terms_are n p x bars terms starts c.column_windows.ensures room are begun begun_starts c.count-terms.ensures.checked;
      starts = starts_are n p x bars terms starts c.column_windows.ensures room are begun begun_starts;
      since = ap length c.in_ok-begin_since.ensures ∙ length-replicate c.count-terms.result no_session ∙ count;
      room = subst (λ m. IsRoom n m c.in_ok-reserve.field-0) count (subst (λ m. IsRoom m c.count-terms.result c.in_ok-reserve.field-0) many c.in_ok-reserve.ensures);
      kept_room = omega (arith, many, c.in_ok-with_capacity.ensures.capacity);
      kept = subst (All (λ i. i < n)) (sym c.in_ok-with_capacity.ensures.items) (λ k d l. absurd (omega (arith, l)));
      depths = c.in_ok-depths.ensures;
      changed = ap length (c.in_ok-vec.ensures.items_if_clones_equal (λ y same. same)) ∙ length-replicate c.len-many.result false ∙ many;
    }

pub returns-clause-stands : goal.returns-clause-stands
returns-clause-stands c =
    let n = length c.args.assets.now in
    let p = pipeline_of c.args.checked.now in
    let many : c.len-many.result ≡ n = c.len-many.ensures.length in
    let bars = c.in_ok-begin_rings.field-0 in
    let terms = c.in_ok-begin_terms.field-0.items in
    let starts = c.in_ok-begin_starts.field-0.items in
    let are : AreBarRings n bars = subst (λ m. AreBarRings m bars) many c.in_ok-begin_rings.ensures.rings in
    let begun : AreBegun n p (length p.graph) terms = subst (λ m. AreBegun m p (length p.graph) terms) many c.in_ok-begin_terms.ensures in
    let begun_starts : AreBegunStarts n p (length p.graph) starts = subst (λ m. AreBegunStarts m p (length p.graph) starts) many c.in_ok-begin_starts.ensures in
    let begins : BeginColumns n bars = subst (λ m. BeginColumns m bars) many c.in_ok-begin_rings.ensures.begins in
    stands_first n p c.column_windows.result bars terms starts c.column_windows.ensures c.in_ok-begin_rings.ensures.room are begun begun_starts _
    (record { sids_ascend = c.len-many.ensures.assets.ascend; labels_in = c.requires.labels; numbers_in = c.requires.numbers }) refl refl refl refl begins refl c.count-terms.result c.in_ok-begin_since.ensures
