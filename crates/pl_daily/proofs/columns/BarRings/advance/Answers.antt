use Rattle.std.proofs.Common.{◌≡◌, ◌≤◌, ℤ, ◌++◌, ◌∷◌, [], length, suc, ap, sym, ◌∙◌, arith, take, drop}
use Rattle.circular_buffer.specs.Buffer.{Buffer, buffer, keep_last}
use Rattle.pl_spec.specs.declared.Column.{Column}
use Rattle.pl_spec.specs.declared.Column.TheVariants.{OpenPrice, High, Low, Close, Volume}
use Rattle.pl_daily.specs.declared.rings.Rings.{Rings}
use Rattle.pl_daily.specs.Changes.{HoldBars}
use Rattle.pl_daily.specs.Days.{day_window}
use Rattle.pl_daily.specs.Rings.{known_days}
use Rattle.pl_daily.proofs.Advances.{IsAdvanced, vec_back, column_follows, column_are, known_more, length-pushed, may_advance}
use Rattle.pl_daily.proofs.Beginning.{by_column}
use Rattle.pl_daily.proofs.columns.BarRings.advance.Goals as goal

pub advance_column-requires : goal.advance_column-requires
advance_column-requires g c = may_advance c.args.self.now OpenPrice _ _ c.args.fed _ _ c.requires.rings c.requires.handed_in (ap length c.make_contiguous-calendar.ensures.value) (ap length c.as_mut_slice-row.ensures.value)

pub advance_column-requires-2 : goal.advance_column-requires-2
advance_column-requires-2 g c = may_advance c.args.self.now High _ _ c.args.fed _ _ c.requires.rings c.requires.handed_in (ap length c.make_contiguous-calendar.ensures.value) (c.advance_column.ensures.row ∙ ap length c.as_mut_slice-row.ensures.value)

pub advance_column-requires-3 : goal.advance_column-requires-3
advance_column-requires-3 g c = may_advance c.args.self.now Low _ _ c.args.fed _ _ c.requires.rings c.requires.handed_in (ap length c.make_contiguous-calendar.ensures.value) (c.advance_column-2.ensures.row ∙ (c.advance_column.ensures.row ∙ ap length c.as_mut_slice-row.ensures.value))

pub advance_column-requires-4 : goal.advance_column-requires-4
advance_column-requires-4 g c = may_advance c.args.self.now Close _ _ c.args.fed _ _ c.requires.rings c.requires.handed_in (ap length c.make_contiguous-calendar.ensures.value) (c.advance_column-3.ensures.row ∙ (c.advance_column-2.ensures.row ∙ (c.advance_column.ensures.row ∙ ap length c.as_mut_slice-row.ensures.value)))

pub advance_column-requires-5 : goal.advance_column-requires-5
advance_column-requires-5 g c = may_advance c.args.self.now Volume _ _ c.args.fed _ _ c.requires.rings c.requires.handed_in (ap length c.make_contiguous-calendar.ensures.value) (c.advance_column-4.ensures.row ∙ (c.advance_column-3.ensures.row ∙ (c.advance_column-2.ensures.row ∙ (c.advance_column.ensures.row ∙ ap length c.as_mut_slice-row.ensures.value))))

pub returns : goal.returns
returns g c =
    let b = c.args.self.now in
    let lent = c.make_contiguous-calendar.ensures.value in
    let depth = b.calendar.capacity in
    let cal = b.calendar.items in
    let seen = c.make_contiguous-calendar.result.now in
    let old = take (length cal) (seen ++ drop (length seen) cal) in
    let back = vec_back (length cal) seen (drop (length seen) cal) (sym (ap length lent)) ∙ lent in
    let put : c.put_day.new.calendar ≡ buffer (keep_last depth (old ++ c.args.day.now.day ∷ [])) depth = c.put_day.ensures in
    let room = ap (λ (x : Buffer ℤ). x.capacity) put in
    let items = ap (λ (x : Buffer ℤ). x.items) put ∙ ap (λ l. keep_last depth (l ++ c.args.day.now.day ∷ [])) back in
    let fits = c.requires.rings.fits in
    let Is : Column → Rings → Rings → Type 0 = λ k old made. IsAdvanced (length b.row.items) c.args.fed seen c.args.day.now.bars.now c.args.day.now.events.now k old made in
    let rows0 : length c.as_mut_slice-row.result.now ≡ length b.row.items = ap length c.as_mut_slice-row.ensures.value in
    let rows1 : length c.advance_column.new.row ≡ length b.row.items = c.advance_column.ensures.row ∙ rows0 in
    let rows2 : length c.advance_column-2.new.row ≡ length b.row.items = c.advance_column-2.ensures.row ∙ rows1 in
    let rows3 : length c.advance_column-3.new.row ≡ length b.row.items = c.advance_column-3.ensures.row ∙ rows2 in
    let rows4 : length c.advance_column-4.new.row ≡ length b.row.items = c.advance_column-4.ensures.row ∙ rows3 in
    let rows5 : length c.advance_column-5.new.row ≡ length b.row.items = c.advance_column-5.ensures.row ∙ rows4 in
    let opening : Is OpenPrice b.open_price c.advance_column.new.rings = record { capacity = c.advance_column.ensures.capacity; follow = c.advance_column.ensures.follow; rings = column_are _ _ c.advance_column.new.rings rows0 c.advance_column.ensures.rings } in
    let high : Is High b.high c.advance_column-2.new.rings = record { capacity = c.advance_column-2.ensures.capacity; follow = c.advance_column-2.ensures.follow; rings = column_are _ _ c.advance_column-2.new.rings rows1 c.advance_column-2.ensures.rings } in
    let low : Is Low b.low c.advance_column-3.new.rings = record { capacity = c.advance_column-3.ensures.capacity; follow = c.advance_column-3.ensures.follow; rings = column_are _ _ c.advance_column-3.new.rings rows2 c.advance_column-3.ensures.rings } in
    let close : Is Close b.close c.advance_column-4.new.rings = record { capacity = c.advance_column-4.ensures.capacity; follow = c.advance_column-4.ensures.follow; rings = column_are _ _ c.advance_column-4.new.rings rows3 c.advance_column-4.ensures.rings } in
    let volume : Is Volume b.volume c.advance_column-5.new.rings = record { capacity = c.advance_column-5.ensures.capacity; follow = c.advance_column-5.ensures.follow; rings = column_are _ _ c.advance_column-5.new.rings rows4 c.advance_column-5.ensures.rings } in
    record {
      follow = λ g' next days start are same count brings hold. record {
        calendar = ap (known_days (suc (length days))) items ∙ known_more days next cal depth c.args.day.now.day same hold.calendar ∙ ap (day_window (next ∷ days)) (sym room);
        bars =
            let follows : (k : Column) (was made : Rings) → Is k was made → was.capacity ≤ depth → HoldBars g' days k was.capacity was.rings.items → HoldBars g' (next ∷ days) k made.capacity made.rings.items
            = λ k was made is few held. column_follows _ _ _ c.args.fed depth seen cal k was made is lent c.requires.rings.calendar few g' next days start are count brings hold.calendar held in
            by_column _ (follows OpenPrice _ _ opening (fits OpenPrice) (hold.bars OpenPrice)) (follows High _ _ high (fits High) (hold.bars High)) (follows Low _ _ low (fits Low) (hold.bars Low))
            (follows Close _ _ close (fits Close) (hold.bars Close)) (follows Volume _ _ volume (fits Volume) (hold.bars Volume));
      };
      rings = record {
        calendar = ap length items ∙ length-pushed cal depth c.args.day.now.day c.requires.rings.calendar ∙ sym room;
        rings = by_column _ opening.rings high.rings low.rings close.rings volume.rings;
        fits = by_column _ (omega (arith, opening.capacity, room, fits OpenPrice)) (omega (arith, high.capacity, room, fits High)) (omega (arith, low.capacity, room, fits Low))
            (omega (arith, close.capacity, room, fits Close)) (omega (arith, volume.capacity, room, fits Volume));
        row = ap length (vec_back b.row.len c.advance_column-5.new.row (drop (length c.advance_column-5.new.row) b.row.items) (sym c.as_mut_slice-row.ensures.len ∙ rows0 ∙ sym rows5)) ∙ rows5;
      };
      room = record { calendar = room; rings = by_column _ opening.capacity high.capacity low.capacity close.capacity volume.capacity };
      cost = omega (arith, c.advance_column.ensures.cost, c.advance_column-2.ensures.cost, c.advance_column-3.ensures.cost, c.advance_column-4.ensures.cost, c.advance_column-5.ensures.cost);
    }
