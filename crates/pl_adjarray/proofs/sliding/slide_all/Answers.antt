use Rattle.std.proofs.Common.{◌≡◌, ◌≤◌, ◌+◌, ◌*◌, ℤ, length, filter_map, take, subst, ap, ◌∙◌, sym, arith, FitsSigned, w32, take_all}
use Rattle.std.proofs.lemmas.Int.{to_z-of_z}
use Rattle.pl_spec.specs.Window.{effect, effects_in}
use Rattle.pl_spec.specs.World.{events_of}
use Rattle.pl_adjust.specs.Events.{effects_of}
use Rattle.pl_adjarray.specs.Buffered.{Buffered, HasCells, col_at, world_of}
use Rattle.pl_adjarray.specs.Inside.{buffered_of}
use Rattle.pl_adjarray.proofs.ColumnWorlds.{own_events}
use Rattle.pl_adjarray.proofs.Places.{rows_within}
use Rattle.pl_adjarray.proofs.Slid.{AreSlid, IsOneSlid, slid_none, slid_more}
use Rattle.pl_adjarray.proofs.sliding.slide_all.Goals as goal

pub loop-i-init : goal.loop-i-init
loop-i-init g c = slid_none _ _ _ _ _ _ _ c.requires.cells

pub slide-requires : goal.slide-requires
slide-requires g c =
    let b = buffered_of c.array.inside in
    let H : Buffered → Type 0 = λ b. HasCells b c.loop-i.scratch in
    let has : HasCells b c.loop-i.scratch = subst H (sym c.array.view_is) c.loop-i.invariant.cells in
    let rows : b.rows ≡ c.args.array.now.rows = ap (λ (b : Buffered). b.rows) c.array.view_is in
    let size : b.rows * length b.cols ≡ c.args.array.now.rows * length c.args.array.now.cols = ap (λ (b : Buffered). b.rows * length b.cols) c.array.view_is in
    let few : c.args.older ≤ b.rows = omega (arith, c.requires.older, rows) in
    let room = rows_within c.loop-i.i (length b.cols) b.rows c.loop-i-test.true in
    let long : length c.loop-i.scratch ≡ length c.args.scratch.now = c.loop-i.auto.scratch in
    record {
      room = omega (arith, room, few, size, c.requires.room);
      cells = λ j h. has c.loop-i.i j c.loop-i-test.true (omega arith);
      puts = c.events_between-events.ensures.cells;
    }

pub loop-i-preserved : goal.loop-i-preserved
loop-i-preserved g c =
    let from : FitsSigned w32 c.args.from = c.ranges.from in
    let to : FitsSigned w32 c.args.to = c.ranges.to in
    let b = buffered_of c.array.inside in
    let i = c.loop-i.i in
    let es = λ (bar : ℤ). effects_of b.column bar c.events_between-events.result.now in
    let between = simp to_z-of_z at c.events_between-events.ensures.events in
    let own : (bar : ℤ) → es bar ≡ effects_in b.column bar c.args.from c.args.to (events_of (world_of b) (col_at b i)) = λ bar.
    ap (filter_map (effect b.column bar)) between
    ∙ ap (effects_in b.column bar c.args.from c.args.to) (sym (own_events b.days b.bars b.adjustments (col_at b i))) in
    let before : AreSlid c.args.array.now c.args.older c.args.from c.args.to i c.args.scratch.now c.loop-i.scratch c.args.steps.now c.loop-i.steps c.args.applied.now c.loop-i.applied = simp to_z-of_z at c.loop-i.invariant in
    let P : Buffered → Type 0 = λ b. AreSlid b c.args.older c.args.from c.args.to i c.args.scratch.now c.loop-i.scratch c.args.steps.now c.loop-i.steps c.args.applied.now c.loop-i.applied in
    let Q : Buffered → Type 0 = λ b. AreSlid b c.args.older c.args.from c.args.to (i + 1) c.args.scratch.now c.slide.new.cells c.args.steps.now c.slide.new.steps c.args.applied.now c.slide.new.applied in
    let few : c.args.older ≤ b.rows = omega (arith, c.requires.older, ap (λ (b : Buffered). b.rows) c.array.view_is) in
    let one : IsOneSlid b c.args.older i c.loop-i.scratch c.slide.new.cells es = record {
      moved = c.slide.ensures.moved;
      before = c.slide.ensures.before;
      behind = c.slide.ensures.behind;
      cells = c.slide.ensures.cells;
    } in
    simp to_z-of_z (subst Q c.array.view_is
    (slid_more b c.args.older i c.loop-i.scratch c.slide.new.cells es few one c.args.from c.args.to c.args.scratch.now _ _ _ _ _ _
    c.loop-i-test.true own (subst P (sym c.array.view_is) before) c.slide.ensures.cost c.slide.ensures.tally))

pub returns : goal.returns
returns g c =
    let from : FitsSigned w32 c.args.from = c.ranges.from in
    let to : FitsSigned w32 c.args.to = c.ranges.to in
    let cols : length c.array.inside.cols.now ≡ length c.args.array.now.cols = ap (λ (b : Buffered). length b.cols) c.array.view_is in
    let end : length c.args.array.now.cols ≤ c.loop-i.i = omega (arith, c.loop-i-test.false) in
    let whole : take c.loop-i.i c.args.array.now.cols ≡ c.args.array.now.cols = take_all c.loop-i.i c.args.array.now.cols end in
    let all : AreSlid c.args.array.now c.args.older c.args.from c.args.to c.loop-i.i c.args.scratch.now c.loop-i.scratch c.args.steps.now c.loop-i.steps c.args.applied.now c.loop-i.applied = simp to_z-of_z at c.loop-i.invariant in
    record {
      moved = λ bar i j h k day. all.moved bar i j (omega arith) k day;
      kept = λ i j h k m. all.kept i j (omega arith) k m;
      cells = all.cells;
      cost = λ bar. rw whole at (all.cost bar);
      tally = λ bar. rw whole at (all.tally bar);
    }
